-- When no document can be created: as the store tells it, and as the container does.
use Rattle.std.proofs.Common.{◌≡◌, ℕ, ◌<◌, ◌≤◌, Bool, true, false, List, [], ◌∷◌, length, Option, Some, None, is_eq, is_some, refl, sym}
use Rattle.std.proofs.Common.{ap, ◌∙◌, Ok, Err, arith, ⊎_elim}
use Rattle.std.specs.Prelude.{◌&&◌, ◌||◌, if◌then◌else◌, nat_le, nat_lt, not}
use Rattle.std.specs.FinMap as finite
use Rattle.std.specs.Cmp.{nat_cmp_is}
use Rattle.std.specs.Ordering.{eq_by_cmp, nat_cmp}
use Rattle.std.specs.declared.cmp.Ordering.TheVariants.{Greater}
use Rattle.std.proofs.lemmas.Bool.{cases_lt, le-leb, le-ltb, leb-false, lt-leb, lt-ltb, ltb-true}
use Rattle.ax_area.specs.Contents.{Contents, Stored}
use Rattle.ax_container.specs.Container.{Container, Entry, NumbersRise, last_number, most_documents}
use Rattle.ax_container.specs.Writes.{created, creation, is_full, Full}
use Rattle.ax_container.proofs.Soundness.{or_none}
use Rattle.ax_image.specs.Documents.{ContentsHold}
use Rattle.ax_image.specs.StandsFor.{ShowEntries}
use Rattle.ax_image.proofs.Shown.{as_many, rises_to}
use Rattle.ax_tree.specs.declared.tree.Tree.{Tree}
use Rattle.ax_write.specs.Full.{is_free_in, is_full_of}

-- ---- as the store tells it

-- a document can be created under the next number
pub record CanCreate (contents : Contents) : Type 0 where
  pub few : finite.len contents.documents < most_documents
  pub some : 0 < contents.next_number
  pub left : contents.next_number < last_number
  pub none : finite.get contents.documents contents.next_number ≡ None

true_back : (b : Bool) → not b ≡ false → b ≡ true
true_back true is = refl
true_back false is = absurd cc

false_back : (b : Bool) → not b ≡ true → b ≡ false
false_back true is = absurd cc
false_back false is = refl

all_true : (a b : Bool) → (a && b) ≡ true → (a ≡ true) × (b ≡ true)
all_true true b is = (refl, is)
all_true false b is = absurd cc

none_of : {A : Type 0} (found : Option A) → is_some found ≡ false → found ≡ None
none_of None is = refl
none_of (Some value) is = absurd cc

pub can_create : (contents : Contents) → is_full_of contents ≡ false → CanCreate contents
can_create contents space =
    let next : ℕ = contents.next_number in
    let parts = or_none (nat_le most_documents (finite.len contents.documents)) (not (is_free_in contents next)) space in
    let free = all_true (nat_lt 0 next) (nat_lt next last_number && not (finite.contains_key contents.documents next))
    (true_back (is_free_in contents next) parts.1) in
    let others = all_true (nat_lt next last_number) (not (finite.contains_key contents.documents next)) free.1 in
    record {
      few = leb-false most_documents (finite.len contents.documents) parts.0;
      some = ltb-true 0 next free.0;
      left = ltb-true next last_number others.0;
      none = none_of (finite.get contents.documents next) (false_back (finite.contains_key contents.documents next) others.1);
    }

-- ---- as the container does

-- no page is of a number above all
none_at : (pages : List (ℕ × Stored)) (entries : List Entry) (before next : ℕ) → NumbersRise before entries next → ShowEntries pages entries
    → finite.find nat_cmp next pages ≡ None
none_at [] [] before next rise shown = refl
none_at [] (e ∷ es) before next rise shown = absurd shown
none_at (p ∷ ps) [] before next rise shown = absurd shown
none_at (p ∷ ps) (e ∷ es) before next rise shown =
    let below : p.0 < next = omega (arith, rises_to e.number next es rise.1, shown.0.number_is) in
    let apart : eq_by_cmp nat_cmp next p.0 ≡ false = ap is_eq (sym (nat_cmp_is next p.0 Greater below)) in
    ap (λ b. if b then Some p.1 else finite.find nat_cmp next ps) apart ∙ none_at ps es e.number next rise.1 shown.1

not_last : (next : ℕ) → not (nat_lt next last_number) ≡ nat_le last_number next
not_last next =
    ⊎_elim
    (λ (below : next < last_number). ap not (lt-ltb next last_number below) ∙ sym (lt-leb last_number next below))
    (λ (last : last_number ≤ next). ap not (le-ltb next last_number last) ∙ sym (le-leb last_number next last))
    (cases_lt next last_number)

free_by : (a b c d : Bool) → a ≡ true → c ≡ false → not b ≡ d → not (a && (b && not c)) ≡ d
free_by true true false d some none last = last
free_by true false false d some none last = last
free_by true b true d some none last = absurd cc
free_by false b c d some none last = absurd cc

module _ (contents : Contents) (before : Container) (hold : ContentsHold contents before) where
  some_next : 0 < contents.next_number
  some_next =
      let rises : 0 < before.next_number = rises_to 0 before.next_number before.entries hold.show.sound.numbers in
      omega (arith, rises, hold.show.next)

  none_held : finite.contains_key contents.documents contents.next_number ≡ false
  none_held =
      ap (finite.contains_key contents.documents) hold.show.next
      ∙ ap is_some (finite.get-entries contents.documents before.next_number
      ∙ none_at (finite.entries contents.documents) before.entries 0 before.next_number hold.show.sound.numbers hold.show.shown)

  pub full_same : is_full_of contents ≡ is_full before
  full_same =
      let next : ℕ = contents.next_number in
      let count : finite.len contents.documents ≡ length before.entries =
      finite.len-entries contents.documents ∙ as_many (finite.entries contents.documents) before.entries hold.show.shown in
      let last : not (is_free_in contents next) ≡ nat_le last_number next =
      free_by (nat_lt 0 next) (nat_lt next last_number) (finite.contains_key contents.documents next) (nat_le last_number next)
      (lt-ltb 0 next some_next) none_held (not_last next) in
      λ i. nat_le most_documents (count i) || (last ∙ ap (nat_le last_number) hold.show.next) i

  pub creates : (id : List ℕ) (tree : Tree) → is_full_of contents ≡ false → creation id tree before ≡ Ok (created id tree before)
  creates id tree space = ap (λ b. if b then Err Full else Ok (created id tree before)) (sym full_same ∙ space)

  pub refuses : (id : List ℕ) (tree : Tree) → is_full_of contents ≡ true → creation id tree before ≡ Err Full
  refuses id tree full = ap (λ b. if b then Err Full else Ok (created id tree before)) (sym full_same ∙ full)

-- where there is room no container refuses it
pub never_full : {P : Type 0} (contents : Contents) (before : Container) → is_full_of contents ≡ false → ContentsHold contents before
    → is_full before ≡ true → P
never_full {P} contents before space hold full = absurd (apart (sym space ∙ full_same contents before hold ∙ full))
  where
    apart : false ≡ true → ⊥
    apart e = cc
