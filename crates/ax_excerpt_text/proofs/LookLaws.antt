-- One member after another, where the name of the one at the front was compared.
use Rattle.std.proofs.Common.{◌≡◌, ℕ, true, false, List, [], ◌∷◌, ◌++◌, Option, Some, None, inl, inr, refl, sym, ap, ◌∙◌, subst}
use Rattle.std.specs.Prelude.{option_map}
use Rattle.std.specs.Str.{bytes_eq}
use Rattle.std.specs.Ordering.{is_lt}
use Rattle.std.specs.Cmp.{tied_itself}
use Rattle.std.proofs.lemmas.Bool.{and_parts, true≢false, false_from_ne_true}
use Rattle.std.proofs.lemmas.Cmp.{nat_list_cmp_total}
use Rattle.std.proofs.lemmas.Slice.Eq.{bytes_eq-Decides}
use Rattle.ax_tree.specs.declared.members.Member.{Member}
use Rattle.ax_tree.specs.declared.tree.Tree.{Tree}
use Rattle.ax_tree.specs.CanonicalText.{canonical_text}
use Rattle.ax_tree.specs.Document.{value_of}
use Rattle.ax_tree.specs.Names.{HaveRisingNames}
use Rattle.ax_tree.specs.Rising.{is_before}
use Rattle.ax_skim.specs.Members.{IsPlain, members_text, past_member}
use Rattle.ax_skim.specs.Skipping.{past_value}
use Rattle.ax_skim.proofs.Escapes.{escape-name}
use Rattle.json.specs.Print.{escape}
use Rattle.ax_skim.proofs.Found.{tail, front_of, member_behind, value_ends}
use Rattle.ax_text.proofs.RisingNames.{is_before_trans, is_before_Greater}
use Rattle.ax_excerpt.proofs.KeptSteps.{value_first}
use Rattle.ax_excerpt_text.specs.Fronts.{same, before, past, compared}
use Rattle.ax_excerpt_text.specs.Left.{AreReadable, IsNear, IsBehind, behind_comma}
use Rattle.ax_excerpt_text.proofs.FrontLaws.{Compares, compares_front}

-- ---- the order of names

not_itself : (name : List ℕ) → is_before name name ≡ false
not_itself name = ap is_lt (tied_itself nat_list_cmp_total name)

pub not_back : (a b : List ℕ) → is_before a b ≡ true → is_before b a ≡ false
not_back a b h = ap is_lt (is_before_Greater a b h)

pub rest_rises : (m : Member Tree) (ms : List (Member Tree)) → HaveRisingNames (m ∷ ms) → HaveRisingNames ms
rest_rises m [] rising = refl
rest_rises m (n ∷ ms) rising = (and_parts (is_before m.name n.name) _ rising).1

apart : (a b : List ℕ) → (a ≡ b → ⊥) → bytes_eq a b ≡ false
apart a b differ = false_from_ne_true (bytes_eq a b) (λ is. differ ((bytes_eq-Decides a b).0 is))

skipped : (n : List ℕ) (m : Member Tree) (ms : List (Member Tree)) → (m.name ≡ n → ⊥)
    → value_of n ms ≡ value_of n (m ∷ ms)
skipped n m ms differ = sym (value_first n m ms false (apart m.name n differ))

before_all : (name : List ℕ) (m : Member Tree) (ms : List (Member Tree))
    → HaveRisingNames (m ∷ ms) → is_before name m.name ≡ true → value_of name (m ∷ ms) ≡ None
before_all name m [] rising first =
    sym (skipped name m [] (λ is. true≢false (sym first ∙ ap (is_before name) is ∙ not_itself name)))
before_all name m (n ∷ ms) rising first =
    sym (skipped name m (n ∷ ms) (λ is. true≢false (sym first ∙ ap (is_before name) is ∙ not_itself name)))
    ∙ before_all name n ms (rest_rises m (n ∷ ms) rising)
    (is_before_trans name m.name n.name first (and_parts (is_before m.name n.name) _ rising).0)

-- ---- the three answers of the comparison

pub near_first : (name rest : List ℕ) (those : List (Member Tree)) → rest ≡ members_text those
    → HaveRisingNames those → AreReadable those → IsNear name rest those
near_first name rest those is rising readable =
    record {
      left = those;
      stands = is;
      rising = rising;
      readable = readable;
      same = λ n own first. refl;
    }

abbrev more_of : Member Tree → List (Member Tree) → List ℕ
more_of m ms = canonical_text m.value ++ tail ms

at_front : (name rest : List ℕ) (m : Member Tree) (ms : List (Member Tree)) → IsPlain name
    → rest ≡ members_text (m ∷ ms) → Compares name m.name (more_of m ms) (compared name rest)
at_front name rest m ms own is =
    subst (λ r. Compares name m.name (more_of m ms) (compared name r)) (sym (is ∙ front_of m ms))
    (compares_front name m.name (more_of m ms) own)

none_left : (name rest : List ℕ) → rest ≡ members_text [] → compared name rest ≡ past
none_left name rest is = ap (compared name) is

same_past : {A : Type 0} {value : List ℕ} → same value ≡ past → A
same_past h = absurd (let e : ⊥ = cc in e)

before_past : {A : Type 0} → before ≡ past → A
before_past h = absurd (let e : ⊥ = cc in e)

behind_tail : (ms : List (Member Tree)) → behind_comma (tail ms) ≡ members_text ms
behind_tail [] = refl
behind_tail (m ∷ ms) = refl

abbrev Ends : List ℕ → Option (List ℕ) → List ℕ → Type 0
Ends value v more = (text after : List ℕ) → value ≡ text ++ after → past_value value ≡ Some after
    → (v ≡ Some text) × (more ≡ behind_comma after)

abbrev Looked : List ℕ → Option (List ℕ) → List ℕ → List (Member Tree) → Type 0
Looked name v more those =
    (v ≡ option_map canonical_text (value_of name those)) × IsBehind name more those

module _ (name rest : List ℕ) (those : List (Member Tree)) (own : IsPlain name) where
  -- the member at the front has the name
  pub same_case : (value : List ℕ) (v : Option (List ℕ)) (more : List ℕ) → IsNear name rest those
      → same value ≡ compared name rest → Ends value v more → Looked name v more those
  same_case value v more near is ends =
      by near.left near.stands near.rising near.readable near.same
    where
      by : (left : List (Member Tree)) → rest ≡ members_text left → HaveRisingNames left
          → AreReadable left
          → ((n : List ℕ) → IsPlain n → is_before n name ≡ false → value_of n left ≡ value_of n those)
          → Looked name v more those
      by [] stands rising readable kept = same_past (is ∙ none_left name rest stands)
      by (m ∷ ms) stands rising readable kept =
          let told = subst (Compares name m.name (more_of m ms)) (sym is) (at_front name rest m ms own stands) in
          let ended = ends (canonical_text m.value) (tail ms) told.1 (ap past_value told.1 ∙ value_ends m.value ms) in (
            ended.0 ∙ ap (option_map canonical_text)
                (sym (value_first name m ms true ((bytes_eq-Decides m.name name).1 told.0))
                ∙ kept name own (not_itself name)),
            record {
              left = ms;
              stands = ended.1 ∙ behind_tail ms;
              rising = rest_rises m ms rising;
              readable = readable.1;
              same = λ n plain behind.
                  skipped n m ms (λ e. true≢false (sym behind ∙ ap (is_before name) (sym e ∙ told.0) ∙ not_itself name))
                  ∙ kept n plain (not_back name n behind);
            },
          )

  -- it comes behind the name, or none is left
  pub past_case : IsNear name rest those → past ≡ compared name rest → Looked name None rest those
  past_case near is = (
    ap (option_map canonical_text)
        (sym (by near.left near.stands near.rising) ∙ near.same name own (not_itself name)),
    record {
      left = near.left;
      stands = near.stands;
      rising = near.rising;
      readable = near.readable;
      same = λ n plain behind. near.same n plain (not_back name n behind);
    },
  )
    where
      by : (left : List (Member Tree)) → rest ≡ members_text left → HaveRisingNames left
          → value_of name left ≡ None
      by [] stands rising = refl
      by (m ∷ ms) stands rising =
          before_all name m ms rising
          (subst (Compares name m.name (more_of m ms)) (sym is) (at_front name rest m ms own stands))

  differs : (m : Member Tree) (more : List ℕ) → Compares name m.name more before → (n : List ℕ)
      → IsPlain n → is_before n name ≡ false → m.name ≡ n → ⊥
  differs m more (inl first) n plain behind e =
      true≢false (sym first ∙ ap (λ k. is_before k name) e ∙ behind)
  differs m more (inr escaped) n plain behind e =
      escaped (ap escape e ∙ escape-name n plain ∙ sym e)

  -- it comes before the name, and is the last one
  pub last_case : IsNear name rest those → before ≡ compared name rest → None ≡ past_member rest
      → Looked name None rest those
  last_case near is ended = (
    ap (option_map canonical_text)
        (sym (by near.left near.stands) ∙ near.same name own (not_itself name)),
    record {
      left = near.left;
      stands = near.stands;
      rising = near.rising;
      readable = near.readable;
      same = λ n plain behind. near.same n plain (not_back name n behind);
    },
  )
    where
      none_some : {A : Type 0} {a : List ℕ} → None ≡ Some a → A
      none_some h = absurd (let e : ⊥ = cc in e)

      by : (left : List (Member Tree)) → rest ≡ members_text left → value_of name left ≡ None
      by [] stands = refl
      by (m ∷ []) stands =
          sym (skipped name m [] (differs m (more_of m [])
          (subst (Compares name m.name (more_of m [])) (sym is) (at_front name rest m [] own stands))
          name own (not_itself name)))
      by (m ∷ n ∷ ms) stands = none_some (ended ∙ ap past_member stands ∙ member_behind m (n ∷ ms))

  -- it is passed over
  pub before_case : (next : List ℕ) → IsNear name rest those → before ≡ compared name rest
      → Some next ≡ past_member rest → IsNear name next those
  before_case next near is moved =
      by near.left near.stands near.rising near.readable near.same
    where
      some_same : (a b : List ℕ) → Some a ≡ Some b → a ≡ b
      some_same a b e = cc

      some_none : {A : Type 0} {a : List ℕ} → Some a ≡ None → A
      some_none h = absurd (let e : ⊥ = cc in e)

      by : (left : List (Member Tree)) → rest ≡ members_text left → HaveRisingNames left
          → AreReadable left
          → ((n : List ℕ) → IsPlain n → is_before n name ≡ false → value_of n left ≡ value_of n those)
          → IsNear name next those
      by [] stands rising readable kept = before_past (is ∙ none_left name rest stands)
      by (m ∷ []) stands rising readable kept =
          some_none (moved ∙ ap past_member stands ∙ member_behind m [])
      by (m ∷ o ∷ ms) stands rising readable kept =
          let told = subst (Compares name m.name (more_of m (o ∷ ms))) (sym is)
          (at_front name rest m (o ∷ ms) own stands) in
          record {
            left = o ∷ ms;
            stands = some_same next (members_text (o ∷ ms))
                (moved ∙ ap past_member stands ∙ member_behind m (o ∷ ms));
            rising = rest_rises m (o ∷ ms) rising;
            readable = readable.1;
            same = λ n plain behind.
                skipped n m (o ∷ ms) (differs m (more_of m (o ∷ ms)) told n plain behind)
                ∙ kept n plain behind;
          }
