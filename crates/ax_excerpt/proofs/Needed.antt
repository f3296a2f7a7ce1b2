-- Where no part of a document is enough for a query.
use Rattle.std.proofs.Common.{◌≡◌, ℕ, List, [], ◌∷◌, map, Bool, true, false, ◌&&◌, Option, Some, None, refl, sym, ap, subst, ◌∙◌}
use Rattle.std.specs.Borrow.{Bor}
use Rattle.std.specs.Prelude.{option_map}
use Rattle.std.specs.List.{list_all}
use Rattle.std.specs.Option.{IfSome}
use Rattle.std.specs.Str.{bytes_eq}
use Rattle.std.proofs.lemmas.Bool.{and_parts, false≢true}
use Rattle.std.proofs.lemmas.Slice.Eq.{bytes_eq-Decides}
use Rattle.ax_tree.specs.declared.members.Member.{Member}
use Rattle.ax_mean.specs.declared.expr.QueryStep.{QueryStep}
use Rattle.ax_mean.specs.declared.expr.QueryStep.TheVariants as step
use Rattle.ax_mean.specs.declared.query.Order.{Order}
use Rattle.ax_mean.specs.declared.query.Query.{Query}
use Rattle.ax_excerpt.specs.declared.excerpt.Excerpt.{Excerpt, out-Excerpt}
use Rattle.ax_excerpt.specs.declared.excerpt.Excerpt as excerpt
use Rattle.ax_excerpt.specs.declared.excerpt.Excerpt.TheOpen.{Excerpt-F}
use Rattle.ax_excerpt.specs.declared.excerpt.Excerpt.TheVariants.{rolls-Whole, rolls-Part}
use Rattle.ax_excerpt.specs.declared.excerpt.Excerpt.TheViews.{roll-Excerpt, roll-out-Excerpt}
use Rattle.ax_excerpt.specs.Enough.{is_enough, sources_enough}
use Rattle.ax_excerpt.specs.Excerpts.{kept_in, keeps, keeps_path, names_before, part_named}
use Rattle.ax_excerpt.specs.Needs.{IsMore, are_told, is_told, keeps_all, orders_told}
use Rattle.ax_excerpt.specs.Plain.{are_plain, is_plain, plain_flag, plain_parts}
use Rattle.ax_excerpt.proofs.Grown.{part_keeps_less, part_plain}
use Rattle.ax_excerpt.proofs.KeptSteps.{keeps_member, keeps_whole, none_some, under_first}
use Rattle.ax_excerpt.proofs.RisingParts.{both_true}

-- an excerpt keeps all, or is one of parts
by_form : (P : Excerpt → Type 0) → P excerpt.Whole
    → ((parts : List (Member Excerpt)) → P (excerpt.Part parts)) → (e : Excerpt) → P e
by_form P whole part e = subst P (roll-out-Excerpt e) (form (out-Excerpt e))
  where
    form : (y : Excerpt-F Excerpt) → P (roll-Excerpt y)
    form Excerpt-F.Whole = subst P (sym rolls-Whole) whole
    form (Excerpt-F.Part parts) = subst P (sym (rolls-Part parts)) (part parts)

keeps_nothing_less : (e : Excerpt) → keeps e [] ≡ true → e ≡ excerpt.Whole
keeps_nothing_less = by_form (λ e. keeps e [] ≡ true → e ≡ excerpt.Whole) (λ h. refl)
    (λ parts h. absurd (false≢true (sym (part_keeps_less parts) ∙ h)))

-- a part of that name has a name that is plain
plain_named : (parts : List (Member Excerpt)) (name : List ℕ) (found : Excerpt)
    → plain_parts (map plain_flag parts) ≡ true → part_named name parts ≡ Some found
    → is_plain name ≡ true
plain_named [] name found all so = absurd (none_some so)
plain_named (p ∷ ps) name found all so =
    by (bytes_eq p.name name) refl (plain_named ps name found both.1)
  where
    both : (is_plain p.name && are_plain p.value ≡ true) × (plain_parts (map plain_flag ps) ≡ true)
    both = and_parts (is_plain p.name && are_plain p.value) (plain_parts (map plain_flag ps)) all

    by : (b : Bool) → bytes_eq p.name name ≡ b
        → (part_named name ps ≡ Some found → is_plain name ≡ true) → is_plain name ≡ true
    by true same later =
        ap is_plain (sym ((bytes_eq-Decides p.name name).0 same))
        ∙ (and_parts (is_plain p.name) (are_plain p.value) both.0).0
    by false apart later = later (sym (under_first name p ps false apart) ∙ so)

abbrev TellsAll : Excerpt → Type 0
TellsAll e = (steps : List QueryStep) → are_plain e ≡ true → keeps e [] ≡ false → keeps e steps ≡ true
    → is_told steps ≡ true

told_by_parts : (parts : List (Member Excerpt)) → TellsAll (excerpt.Part parts)
told_by_parts parts [] plain less h = absurd (false≢true (sym less ∙ h))
told_by_parts parts (step.Position at ∷ steps) plain less h = refl
told_by_parts parts (step.Member name ∷ steps) plain less h =
    by (part_named name parts) refl
    (sym (keeps_member parts name (part_named name parts) steps refl) ∙ h)
  where
    by : (found : Option Excerpt) → part_named name parts ≡ found
        → kept_in (option_map keeps found) steps ≡ true → is_plain name ≡ true
    by None so kept = absurd (false≢true kept)
    by (Some found) so kept = plain_named parts name found (sym (part_plain parts) ∙ plain) so

told : (e : Excerpt) → TellsAll e
told = by_form TellsAll (λ steps plain less h. absurd (false≢true (sym less ∙ keeps_whole []))) told_by_parts

all_told : (e : Excerpt) (paths : List (Bor (List QueryStep))) → are_plain e ≡ true → keeps e [] ≡ false
    → keeps_all e paths ≡ true → are_told paths ≡ true
all_told e [] plain less h = refl
all_told e (p ∷ ps) plain less h =
    let both = and_parts (keeps e p.now) (keeps_all e ps) h in
    both_true (is_told p.now) (are_told ps) (told e p.now plain less both.0) (all_told e ps plain less both.1)

all_orders_told : (e : Excerpt) (orders : List Order) → are_plain e ≡ true → keeps e [] ≡ false
    → list_all (λ (order : Order). keeps_path e order.path) orders ≡ true → orders_told orders ≡ true
all_orders_told e [] plain less h = refl
all_orders_told e (o ∷ os) plain less h =
    let both = and_parts (keeps_path e o.path) (list_all (λ (order : Order). keeps_path e order.path) os) h in
    both_true (is_told (names_before o.path)) (orders_told os)
    (told e (names_before o.path) plain less both.0) (all_orders_told e os plain less both.1)

-- a part of a document that is enough is so along all paths
pub no_part : (e : Excerpt) (paths : List (Bor (List QueryStep))) (orders : List Order)
    → (are_told paths ≡ true → orders_told orders ≡ true → ⊥) → are_plain e ≡ true
    → keeps_all e paths ≡ true → list_all (λ (order : Order). keeps_path e order.path) orders ≡ true
    → e ≡ excerpt.Whole
no_part e paths orders not_told plain kept ordered = by (keeps e []) refl
  where
    by : (b : Bool) → keeps e [] ≡ b → e ≡ excerpt.Whole
    by true all = keeps_nothing_less e all
    by false less = absurd (not_told (all_told e paths plain less kept) (all_orders_told e orders plain less ordered))

-- what keeps more keeps all of it too
pub more_keeps : (old new : Excerpt) (paths : List (Bor (List QueryStep))) → IsMore old new
    → keeps_all old paths ≡ true → keeps_all new paths ≡ true
more_keeps old new [] more h = refl
more_keeps old new (p ∷ ps) more h =
    let both = and_parts (keeps old p.now) (keeps_all old ps) h in
    both_true (keeps new p.now) (keeps_all new ps) (more p.now both.0) (more_keeps old new ps more both.1)

pub enough_of : (old new : Excerpt) (paths : List (Bor (List QueryStep))) (query : Query)
    → keeps_all new paths ≡ sources_enough new query.froms query → IsMore old new
    → keeps_all old paths ≡ true
    → list_all (λ (order : Order). keeps_path new order.path) query.orders ≡ true
    → is_enough new query ≡ true
enough_of old new paths query is more kept ordered =
    both_true (sources_enough new query.froms query) _
    (sym is ∙ more_keeps old new paths more kept) ordered

pub is_found : (found : Option Excerpt) (made : Excerpt) (P : Excerpt → Type 0)
    → IfSome found (λ kept. (kept ≡ made) × (keeps kept [] ≡ false)) → P made → IfSome found P
is_found None made P so p = so
is_found (Some kept) made P so p = subst P (sym so.0) p
