-- A page has what its last part makes of what it had.
use Rattle.std.proofs.Common.{◌≡◌, ℕ, Bool, true, false, List, [], ◌∷◌, ◌++◌, Option, Ordering, length, refl, sym, ap, subst, ◌∙◌}
use Rattle.std.specs.Prelude.{◌≢◌, Some, None, if◌then◌else◌, option_and_then}
use Rattle.std.specs.Option.{option_to_list}
use Rattle.std.proofs.lemmas.Bool.{ltb-true}
use Rattle.std.proofs.lemmas.List.{append_assoc, get_or-set_same}
use Rattle.std.specs.List.{AllByRecursion}
use Rattle.std.specs.Ordering.{nat_cmp, eq_by_cmp, is_eq}
use Rattle.std.specs.declared.cmp.Ordering.TheVariants.{Less, Equal, Greater}
use Rattle.std.specs.Cmp.{nat_cmp_total, tied_itself}
use Rattle.std.specs.FinMap as map
use Rattle.ax_frame.specs.Part.{PartValue}
use Rattle.ax_pages.specs.declared.page.Page.{Page}
use Rattle.ax_pages.specs.declared.page.Page.TheVariants.{Meta, Policy, Document, Term}
use Rattle.ax_pages.specs.declared.page.Kind.{Kind}
use Rattle.ax_pages.specs.declared.page.Kind.TheVariants as kind
use Rattle.ax_pages.specs.Contents.{Contents, Numbered, TermPage, no_term_page, term_page, term_parts, parts_of}
use Rattle.ax_pages.specs.AfterPart.{kind_of, after_kind, after_part, after_parts, page_of_kind, page_of, after_kind_in_page, after_in_page, is_base}
use Rattle.ax_pages.specs.AfterPart.{is_delta, with_base, with_delta, after_base, after_delta}
use Rattle.ax_pages.proofs.OneContents.{same_some, first_step}
use Rattle.ax_pages.proofs.TermLists.{page_at, put_there, put_other, set_other, base_place}

pub passed : (test : Bool) (x y : Contents) → (if test then Some x else None) ≡ Some y → y ≡ x
passed true x y e = sym (same_some x y e)
passed false x y e = absurd cc

pub held : {test : Bool} (x y : Contents) → (if test then Some x else None) ≡ Some y → test ≡ true
held {test = true} x y e = refl
held {test = false} x y e = absurd cc

pub same_number : (n : ℕ) → eq_by_cmp nat_cmp n n ≡ true
same_number n = ap is_eq (tied_itself nat_cmp_total n)

pub tie : (r : Ordering) → is_eq r ≡ true → r ≡ Equal
tie Less e = absurd cc
tie Equal e = refl
tie Greater e = absurd cc

pub other_number : (m n : ℕ) → m ≢ n → eq_by_cmp nat_cmp m n ≡ false
other_number m n apart = elim (eq_by_cmp nat_cmp m n) as (λ b. eq_by_cmp nat_cmp m n ≡ b → b ≡ false) [
  | true ↦ λ e. absurd (apart (map.nat_cmp-IsAntisymmetric m n (tie (nat_cmp m n) e)))
  | false ↦ λ e. refl
] refl

module _ {X : Type 0} where
  pub get_inserted : (pages : map.FinMap nat_cmp X) (n : ℕ) (x : X) → map.get (map.insert pages n x) n ≡ Some x
  get_inserted pages n x = map.get-insert nat_cmp_total pages n x n ∙ ap (λ b. if b then Some x else map.get pages n) (same_number n)

  pub get_not_inserted : (pages : map.FinMap nat_cmp X) (n m : ℕ) (x : X) → m ≢ n → map.get (map.insert pages n x) m ≡ map.get pages m
  get_not_inserted pages n m x apart = map.get-insert nat_cmp_total pages n x m ∙ ap (λ b. if b then Some x else map.get pages m) (other_number m n apart)

  pub get_removed : (pages : map.FinMap nat_cmp X) (n : ℕ) → map.get (map.remove pages n) n ≡ None
  get_removed pages n = map.get-remove nat_cmp_total pages n n ∙ ap (λ b. if b then None else map.get pages n) (same_number n)

  pub get_not_removed : (pages : map.FinMap nat_cmp X) (n m : ℕ) → m ≢ n → map.get (map.remove pages n) m ≡ map.get pages m
  get_not_removed pages n m apart = map.get-remove nat_cmp_total pages n m ∙ ap (λ b. if b then None else map.get pages m) (other_number m n apart)

leaves : (page other : Page) (before x y : Contents) (make : List (List ℕ) → List (List ℕ)) → Some page ≡ Some other → y ≡ x
    → parts_of page x ≡ make (parts_of page before)
    → parts_of other y ≡ make (parts_of other before)
leaves page other before x y make same are is =
    subst (λ p. parts_of p y ≡ make (parts_of p before)) (same_some page other same) (ap (parts_of page) are ∙ is)

base_leaves : (key : ℕ) (payload : List ℕ) (before : Contents) → is_base key payload before.terms ≡ true
    → parts_of (Term key) (record before { terms = after_base key payload before.terms }) ≡ payload ∷ []
base_leaves key payload before e = ap term_parts (put_there key (with_base payload) before.terms (base_place key payload before.terms e))

delta_leaves : (key : ℕ) (payload : List ℕ) (before : Contents) → is_delta key before.terms ≡ true
    → parts_of (Term key) (record before { terms = after_delta key payload before.terms }) ≡ parts_of (Term key) before ++ payload ∷ []
delta_leaves key payload before e =
    let page : TermPage = term_page key before.terms in
    ap term_parts (get_or-set_same before.terms key (with_delta payload page) no_term_page (ltb-true key (length before.terms) e))
    ∙ sym (append_assoc (option_to_list page.base) page.deltas (payload ∷ []))

kind_leaves : (k : Option Kind) (key : ℕ) (payload : List ℕ) (page : Page) (before after : Contents) → after_kind k key payload before ≡ Some after
    → page_of_kind k key ≡ Some page
    → parts_of page after ≡ after_kind_in_page k payload (parts_of page before)
kind_leaves (Some kind.Meta) key payload page before after lead of =
    leaves Meta page before (record before { meta = Some payload }) after (after_kind_in_page (Some kind.Meta) payload) of (passed _ _ after lead) refl
kind_leaves (Some kind.Policy) key payload page before after lead of =
    leaves (Policy key) page before (record before { policies = map.insert before.policies key payload }) after
    (after_kind_in_page (Some kind.Policy) payload) of (passed _ _ after lead)
    (ap option_to_list (get_inserted before.policies key payload))
kind_leaves (Some kind.Document) key payload page before after lead of =
    leaves (Document key) page before (record before { documents = map.insert before.documents key payload }) after
    (after_kind_in_page (Some kind.Document) payload) of (passed _ _ after lead)
    (ap option_to_list (get_inserted before.documents key payload))
kind_leaves (Some kind.Gone) key payload page before after lead of =
    leaves (Document key) page before (record before { documents = map.remove before.documents key }) after (after_kind_in_page (Some kind.Gone) payload) of
    (passed _ _ after lead)
    (ap option_to_list (get_removed before.documents key))
kind_leaves (Some kind.Base) key payload page before after lead of =
    leaves (Term key) page before (record before { terms = after_base key payload before.terms }) after (after_kind_in_page (Some kind.Base) payload) of
    (passed _ _ after lead)
    (base_leaves key payload before (held _ after lead))
kind_leaves (Some kind.Delta) key payload page before after lead of =
    leaves (Term key) page before (record before { terms = after_delta key payload before.terms }) after (after_kind_in_page (Some kind.Delta) payload) of
    (passed _ _ after lead)
    (delta_leaves key payload before (held _ after lead))
kind_leaves None key payload page before after lead of = absurd cc

keeps : (page : Page) (before x y : Contents) → y ≡ x → parts_of page x ≡ parts_of page before → parts_of page y ≡ parts_of page before
keeps page before x y are is = ap (parts_of page) are ∙ is

with_meta : (page : Page) (payload : List ℕ) (before : Contents) → Some Meta ≢ Some page
    → parts_of page (record before { meta = Some payload }) ≡ parts_of page before
with_meta Meta payload before other = absurd (other refl)
with_meta (Policy n) payload before other = refl
with_meta (Document n) payload before other = refl
with_meta (Term n) payload before other = refl

with_policy : (page : Page) (key : ℕ) (payload : List ℕ) (before : Contents) → Some (Policy key) ≢ Some page
    → parts_of page (record before { policies = map.insert before.policies key payload }) ≡ parts_of page before
with_policy Meta key payload before other = refl
with_policy (Policy n) key payload before other = ap option_to_list
    (get_not_inserted before.policies key n payload (λ e. other (ap (λ number. Some (Policy number)) (sym e))))
with_policy (Document n) key payload before other = refl
with_policy (Term n) key payload before other = refl

with_documents : (page : Page) (key : ℕ) (pages : Numbered) (before : Contents) → Some (Document key) ≢ Some page
    → ((n : ℕ) → n ≢ key → map.get pages n ≡ map.get before.documents n)
    → parts_of page (record before { documents = pages }) ≡ parts_of page before
with_documents Meta key pages before other same = refl
with_documents (Policy n) key pages before other same = refl
with_documents (Document n) key pages before other same = ap option_to_list (same n (λ e. other (ap (λ number. Some (Document number)) (sym e))))
with_documents (Term n) key pages before other same = refl

with_terms : (page : Page) (key : ℕ) (pages : List TermPage) (before : Contents) → Some (Term key) ≢ Some page
    → ((n : ℕ) → n ≢ key → page_at pages n ≡ page_at before.terms n)
    → parts_of page (record before { terms = pages }) ≡ parts_of page before
with_terms Meta key pages before other same = refl
with_terms (Policy n) key pages before other same = refl
with_terms (Document n) key pages before other same = refl
with_terms (Term n) key pages before other same = ap term_parts (same n (λ e. other (ap (λ number. Some (Term number)) (sym e))))

kind_keeps : (k : Option Kind) (key : ℕ) (payload : List ℕ) (page : Page) (before after : Contents) → after_kind k key payload before ≡ Some after
    → page_of_kind k key ≢ Some page
    → parts_of page after ≡ parts_of page before
kind_keeps (Some kind.Meta) key payload page before after lead other = keeps page before _ after (passed _ _ after lead) (with_meta page payload before other)
kind_keeps (Some kind.Policy) key payload page before after lead other =
    keeps page before _ after (passed _ _ after lead) (with_policy page key payload before other)
kind_keeps (Some kind.Document) key payload page before after lead other =
    keeps page before _ after (passed _ _ after lead) (with_documents page key _ before other
    (λ n apart. get_not_inserted before.documents key n payload apart))
kind_keeps (Some kind.Gone) key payload page before after lead other =
    keeps page before _ after (passed _ _ after lead) (with_documents page key _ before other (λ n apart. get_not_removed before.documents key n apart))
kind_keeps (Some kind.Base) key payload page before after lead other =
    keeps page before _ after (passed _ _ after lead)
    (with_terms page key (after_base key payload before.terms) before other
    (λ n apart. put_other key (with_base payload) before.terms n (base_place key payload before.terms (held _ after lead)) apart))
kind_keeps (Some kind.Delta) key payload page before after lead other =
    keeps page before _ after (passed _ _ after lead)
    (with_terms page key (after_delta key payload before.terms) before other
    (λ n apart. set_other key (with_delta payload (term_page key before.terms)) before.terms n apart))
kind_keeps None key payload page before after lead other = absurd cc

pub others_keep : (parts : List PartValue) (page : Page) (before after : Contents) → after_parts parts before ≡ Some after
    → AllByRecursion (λ other. page_of other ≢ Some page) parts
    → parts_of page after ≡ parts_of page before
others_keep [] page before after lead all = ap (parts_of page) (sym (same_some before after lead))
others_keep (part ∷ parts) page before after lead all =
    let step = first_step part parts before after lead in
    others_keep parts page step.between after step.others all.1
    ∙ kind_keeps (kind_of part.kind) part.key part.payload page before step.between step.first all.0

-- the page has what the part makes of what it had behind the parts before
abbrev HasMade : List PartValue → PartValue → Page → Contents → Contents → Type 0
HasMade front part page before after =
    (between : Contents) × (after_parts front before ≡ Some between) × (parts_of page after ≡ after_in_page part (parts_of page between))

one_before : (first part : PartValue) (front : List PartValue) (page : Page) (before middle after : Contents) → after_part first before ≡ Some middle
    → HasMade front part page middle after
    → HasMade (first ∷ front) part page before after
one_before first part front page before middle after step (between, lead, made) = (between, ap (option_and_then (after_parts front)) step ∙ lead, made)

pub last_counts : (front back : List PartValue) (part : PartValue) (page : Page) (before after : Contents)
    → after_parts (front ++ part ∷ back) before ≡ Some after → page_of part ≡ Some page
    → AllByRecursion (λ other. page_of other ≢ Some page) back
    → (between : Contents) × (after_parts front before ≡ Some between) × (parts_of page after ≡ after_in_page part (parts_of page between))
last_counts [] back part page before after lead of all =
    let step = first_step part back before after lead in (
      before,
      refl,
      others_keep back page step.between after step.others all
          ∙ kind_leaves (kind_of part.kind) part.key part.payload page before step.between step.first of,
    )
last_counts (first ∷ front) back part page before after lead of all =
    let step = first_step first (front ++ part ∷ back) before after lead in
    one_before first part front page before step.between after step.first (last_counts front back part page step.between after step.others of all)
