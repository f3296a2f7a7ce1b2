-- Documents that show entries: what a document put in place makes of them.
use Rattle.std.proofs.Common.{◌≡◌, ℕ, suc, ◌<◌, Bool, true, false, cond, List, [], ◌∷◌, ◌++◌, length, map, find, Some, is_some, option_map}
use Rattle.std.proofs.Common.{Ordering, Less, Option, None, is_eq, refl, sym, ap, subst, ◌∙◌, arith, nat_eq}
use Rattle.std.proofs.lemmas.Bool.{eq-eqb, eqb-true, false_from_ne_true}
use Rattle.std.specs.Prelude.{if◌then◌else◌, not}
use Rattle.std.specs.List.{list_any, filter}
use Rattle.std.specs.Option.{unwrap_or}
use Rattle.std.specs.Ordering.{nat_cmp, eq_by_cmp}
use Rattle.std.specs.Cmp.{eq_by_cmp_equiv, nat_cmp_is, nat_cmp_total}
use Rattle.std.specs.declared.cmp.Ordering.TheVariants.{Equal, Greater}
use Rattle.std.specs.FinMap.{put}
use Rattle.std.specs.FinMap as finite
use Rattle.ax_pages.proofs.LastPart.{same_number}
use Rattle.std.specs.FinMap.Entries.{by_order, find-where_key, is_sorted-where_key, same_entries}
use Rattle.ax_tree.specs.declared.tree.Tree.{Tree}
use Rattle.ax_tree.specs.CanonicalText.{canonical_text}
use Rattle.ax_policy.specs.declared.policy.Policy.{Policy}
use Rattle.ax_container.specs.Container.{Entry, has_id, entry_at, NumbersRise, IdsAreDistinct}
use Rattle.ax_container.specs.Writes.{with_tree}
use Rattle.ax_container.proofs.ByNumber.{other_than}
use Rattle.ax_container.proofs.Ids.{same_from_eq}
use Rattle.ax_container.proofs.Soundness.{the_entry, or_none}
use Rattle.ax_container.proofs.Upserts.{with_tree-own, with_tree-other}
use Rattle.ax_area.specs.Contents.{Stored}
use Rattle.ax_image.specs.StandsFor.{ShowsEntry, ShowEntries}

pub same_some : {A : Type 0} (x y : A) → Some x ≡ Some y → x ≡ y
same_some x y e = ap (λ found. unwrap_or found x) e

pub as_many : (pages : List (ℕ × Stored)) (entries : List Entry) → ShowEntries pages entries → length pages ≡ length entries
as_many [] [] shown = refl
as_many [] (e ∷ es) shown = absurd shown
as_many (p ∷ ps) [] shown = absurd shown
as_many (p ∷ ps) (e ∷ es) shown = ap suc (as_many ps es shown.1)

-- ---- numbers

pub rises_to : (before next : ℕ) (entries : List Entry) → NumbersRise before entries next → before < next
rises_to before next [] rise = rise
rises_to before next (e ∷ es) rise = omega (arith, rise.0, rises_to e.number next es rise.1)

pub found_above : (id : List ℕ) (before next : ℕ) (entries : List Entry) (found : Entry) → NumbersRise before entries next
    → find (has_id id) entries ≡ Some found → before < found.number
found_above id before next [] found rise is = absurd cc
found_above id before next (e ∷ es) found rise is =
    elim (has_id id e) as (λ b. has_id id e ≡ b → (if b then Some e else find (has_id id) es) ≡ Some found → before < found.number) [
      | true ↦ λ own same. subst (λ (x : Entry). before < x.number) (same_some e found same) rise.0
      | false ↦ λ other same. let above = found_above id e.number next es found rise.1 same in omega (arith, rise.0, above)
    ] refl is

pub after_greater : (k : ℕ) (document : Stored) (page : ℕ × Stored) (pages : List (ℕ × Stored)) → page.0 < k
    → put nat_cmp k document (page ∷ pages) ≡ page ∷ put nat_cmp k document pages
after_greater k document page pages lt =
    ap (λ r. by_order r ((k, document) ∷ page ∷ pages) ((page.0, document) ∷ pages) (page ∷ put nat_cmp k document pages))
    (sym (nat_cmp_is k page.0 Greater lt))

pub at_equal : (k : ℕ) (document : Stored) (page : ℕ × Stored) (pages : List (ℕ × Stored)) → k ≡ page.0
    → put nat_cmp k document (page ∷ pages) ≡ (page.0, document) ∷ pages
at_equal k document page pages e =
    ap (λ r. by_order r ((k, document) ∷ page ∷ pages) ((page.0, document) ∷ pages) (page ∷ put nat_cmp k document pages))
    (sym (nat_cmp_is k page.0 Equal e))

-- ---- a page put behind all others, and one put over the page of an entry

pub shown_behind : (pages : List (ℕ × Stored)) (entries : List Entry) (before next : ℕ) (document : Stored) (new : Entry)
    → NumbersRise before entries next → ShowEntries pages entries → ShowsEntry next document new
    → ShowEntries (put nat_cmp next document pages) (entries ++ new ∷ [])
shown_behind [] [] before next document new rise shown is = (is, tt)
shown_behind [] (e ∷ es) before next document new rise shown is = absurd shown
shown_behind (p ∷ ps) [] before next document new rise shown is = absurd shown
shown_behind (p ∷ ps) (e ∷ es) before next document new rise shown is =
    let below : p.0 < next = omega (arith, rises_to e.number next es rise.1, shown.0.number_is) in
    subst (λ pages. ShowEntries pages (e ∷ es ++ new ∷ [])) (sym (after_greater next document p ps below))
    (shown.0, shown_behind ps es e.number next document new rise.1 shown.1 is)

-- where no entry is of the id, none changes
pub unchanged : (id : List ℕ) (tree : Tree) (policy : Policy) (entries : List Entry) → list_any (has_id id) entries ≡ false
    → map (with_tree id tree policy) entries ≡ entries
unchanged id tree policy [] none = refl
unchanged id tree policy (e ∷ es) none =
    let parts = or_none (has_id id e) (list_any (has_id id) es) none in
    λ i. with_tree-other id tree policy e parts.0 i ∷ unchanged id tree policy es parts.1 i

-- one page and one entry in front, which is of the id or is not
over_first : (p : ℕ × Stored) (ps : List (ℕ × Stored)) (e : Entry) (es : List Entry) (id : List ℕ) (tree : Tree) (policy : Policy) (document : Stored)
    (text_is : document.text ≡ canonical_text tree) (found : Entry)
    → IdsAreDistinct (e ∷ es) → ShowEntries (p ∷ ps) (e ∷ es)
    → has_id id e ≡ true → e ≡ found → ShowEntries (put nat_cmp found.number document (p ∷ ps)) (map (with_tree id tree policy) (e ∷ es))
over_first p ps e es id tree policy document text_is found distinct shown own same =
    let number : found.number ≡ p.0 = ap (λ (x : Entry). x.number) (sym same) ∙ sym shown.0.number_is in
    let others : map (with_tree id tree policy) es ≡ es =
    unchanged id tree policy es (ap (λ x. list_any (has_id x) es) (sym (same_from_eq e.id id own)) ∙ distinct.0) in
    let first : ShowsEntry p.0 document (the_entry e.number e.id tree policy) =
    record { number_is = shown.0.number_is; text_is = text_is } in
    subst (λ pages. ShowEntries pages (map (with_tree id tree policy) (e ∷ es))) (sym (at_equal found.number document p ps number))
    (subst (λ x. ShowsEntry p.0 document x) (sym (with_tree-own id tree policy e own)) first, subst (ShowEntries ps) (sym others) shown.1)

over_later : (p : ℕ × Stored) (ps : List (ℕ × Stored)) (e : Entry) (es : List Entry) (next : ℕ) (id : List ℕ) (tree : Tree)
    (policy : Policy) (document : Stored) (found : Entry) → NumbersRise e.number es next → ShowEntries (p ∷ ps) (e ∷ es)
    → has_id id e ≡ false → find (has_id id) es ≡ Some found
    → ShowEntries (put nat_cmp found.number document ps) (map (with_tree id tree policy) es)
    → ShowEntries (put nat_cmp found.number document (p ∷ ps)) (map (with_tree id tree policy) (e ∷ es))
over_later p ps e es next id tree policy document found rise shown other same later =
    let below : p.0 < found.number = omega (arith, found_above id e.number next es found rise same, shown.0.number_is) in
    subst (λ pages. ShowEntries pages (map (with_tree id tree policy) (e ∷ es))) (sym (after_greater found.number document p ps below))
    (subst (λ x. ShowsEntry p.0 p.1 x) (sym (with_tree-other id tree policy e other)) shown.0, later)

pub shown_over : (pages : List (ℕ × Stored)) (entries : List Entry) (before next : ℕ) (id : List ℕ) (tree : Tree) (policy : Policy) (document : Stored)
    (text_is : document.text ≡ canonical_text tree) (found : Entry)
    → NumbersRise before entries next → IdsAreDistinct entries → ShowEntries pages entries
    → find (has_id id) entries ≡ Some found → ShowEntries (put nat_cmp found.number document pages) (map (with_tree id tree policy) entries)
shown_over [] [] before next id tree policy document text_is found rise distinct shown is = absurd cc
shown_over [] (e ∷ es) before next id tree policy document text_is found rise distinct shown is = absurd shown
shown_over (p ∷ ps) [] before next id tree policy document text_is found rise distinct shown is = absurd shown
shown_over (p ∷ ps) (e ∷ es) before next id tree policy document text_is found rise distinct shown is =
    elim (has_id id e) as (λ b. has_id id e ≡ b → (if b then Some e else find (has_id id) es) ≡ Some found
    → ShowEntries (put nat_cmp found.number document (p ∷ ps)) (map (with_tree id tree policy) (e ∷ es))) [
      | true ↦ λ own same. over_first p ps e es id tree policy document text_is found distinct shown own (same_some e found same)
      | false ↦ λ other same. over_later p ps e es next id tree policy document found rise.1 shown other same
          (shown_over ps es e.number next id tree policy document text_is found rise.1 distinct.1 shown.1 same)
    ] refl is

-- the number of an entry has a page
pub found_page : (pages : List (ℕ × Stored)) (entries : List Entry) (id : List ℕ) (found : Entry) → ShowEntries pages entries
    → find (has_id id) entries ≡ Some found → is_some (finite.find nat_cmp found.number pages) ≡ true
found_page [] [] id found shown is = absurd cc
found_page [] (e ∷ es) id found shown is = absurd shown
found_page (p ∷ ps) [] id found shown is = absurd shown
found_page (p ∷ ps) (e ∷ es) id found shown is =
    elim (has_id id e) as (λ b. (if b then Some e else find (has_id id) es) ≡ Some found
    → is_some (if eq_by_cmp nat_cmp found.number p.0 then Some p.1 else finite.find nat_cmp found.number ps) ≡ true) [
      | true ↦ λ same.
          let number : found.number ≡ p.0 = ap (λ (x : Entry). x.number) (sym (same_some e found same)) ∙ sym shown.0.number_is in
          ap (λ b. is_some (if b then Some p.1 else finite.find nat_cmp found.number ps))
          (ap (eq_by_cmp nat_cmp found.number) (sym number) ∙ same_number found.number)
      | false ↦ λ same. elim (eq_by_cmp nat_cmp found.number p.0) as (λ b. is_some (if b then Some p.1 else finite.find nat_cmp found.number ps) ≡ true) [
        | true ↦ refl
        | false ↦ found_page ps es id found shown.1 same
      ]
    ] is

-- ---- pages by the numbers of entries

equal : (o : Ordering) → is_eq o ≡ true → o ≡ Equal
equal Less h = absurd (cc)
equal Equal h = refl
equal Greater h = absurd (cc)

eq_is : (a b : ℕ) → eq_by_cmp nat_cmp a b ≡ nat_eq b a
eq_is a b = by_test (nat_eq b a) refl
  where
    by_test : (t : Bool) → nat_eq b a ≡ t → eq_by_cmp nat_cmp a b ≡ t
    by_test true e = ap is_eq (sym (nat_cmp_is a b Equal (sym (eqb-true b a e))))
    by_test false e =
        false_from_ne_true (eq_by_cmp nat_cmp a b)
        (λ h. let same : nat_eq b a ≡ true = eq-eqb b a (sym (finite.nat_cmp-IsAntisymmetric a b (equal (nat_cmp a b) h))) in absurd (cc))

-- whether a page is of the number is whether its entry is
pub same_test : (number : ℕ) (p : ℕ × Stored) (e : Entry) → ShowsEntry p.0 p.1 e
    → eq_by_cmp nat_cmp number p.0 ≡ nat_eq e.number number
same_test number p e shown = eq_is number p.0 ∙ ap (λ k. nat_eq k number) shown.number_is

-- the page of the number of an entry has the text of its tree
pub text_there : (pages : List (ℕ × Stored)) (entries : List Entry) (number : ℕ) (found : Entry) → ShowEntries pages entries
    → entry_at number entries ≡ Some found
    → option_map (λ (document : Stored). document.text) (finite.find nat_cmp number pages) ≡ Some (canonical_text found.tree)
text_there [] [] number found shown is = absurd cc
text_there [] (e ∷ es) number found shown is = absurd shown
text_there (p ∷ ps) [] number found shown is = absurd shown
text_there (p ∷ ps) (e ∷ es) number found shown is =
    ap (λ b. option_map (λ (document : Stored). document.text) (cond b (Some p.1) (finite.find nat_cmp number ps)))
    (same_test number p e shown.0)
    ∙ elim (nat_eq e.number number) as (λ b. cond b (Some e) (entry_at number es) ≡ Some found
    → option_map (λ (document : Stored). document.text) (cond b (Some p.1) (finite.find nat_cmp number ps)) ≡ Some (canonical_text found.tree)) [
      | true ↦ λ at. ap Some (shown.0.text_is ∙ ap (λ (x : Entry). canonical_text x.tree) (same_some e found at))
      | false ↦ λ at. text_there ps es number found shown.1 at
    ] is

-- ---- a page taken away

-- the pages of other numbers
abbrev pub documents_without : ℕ → List (ℕ × Stored) → List (ℕ × Stored)
documents_without number pages = filter (λ page. not (eq_by_cmp nat_cmp number page.0)) pages

turned : {A : Type 0} (b : Bool) (x : Option A) → cond b None x ≡ cond (not b) x None
turned true x = refl
turned false x = refl

pub entries_without : (m : finite.FinMap nat_cmp Stored) (number : ℕ)
    → finite.entries (finite.remove m number) ≡ documents_without number (finite.entries m)
entries_without m number =
    let keeps : ℕ → Bool = λ x. not (eq_by_cmp nat_cmp number x) in
    same_entries nat_cmp nat_cmp_total finite.nat_cmp-IsAntisymmetric (finite.entries (finite.remove m number))
    (documents_without number (finite.entries m)) (finite.entries_sorted (finite.remove m number))
    (is_sorted-where_key nat_cmp keeps (finite.entries m) (finite.entries_sorted m))
    (λ q.
    sym (finite.get-entries (finite.remove m number) q) ∙ finite.get-remove nat_cmp_total m number q
    ∙ ap (λ b. cond b None (finite.get m q)) ((eq_by_cmp_equiv nat_cmp_total).symm q number)
    ∙ turned (eq_by_cmp nat_cmp number q) (finite.get m q)
    ∙ ap (λ x. cond (not (eq_by_cmp nat_cmp number q)) x None) (finite.get-entries m q)
    ∙ sym (find-where_key nat_cmp keeps q (λ x e. ap keeps (sym (finite.nat_cmp-IsAntisymmetric q x e))) (finite.entries m)))

pub shown_without : (number : ℕ) (pages : List (ℕ × Stored)) (entries : List Entry) → ShowEntries pages entries
    → ShowEntries (documents_without number pages) (filter (other_than number) entries)
shown_without number [] [] shown = tt
shown_without number [] (e ∷ es) shown = absurd shown
shown_without number (p ∷ ps) [] shown = absurd shown
shown_without number (p ∷ ps) (e ∷ es) shown =
    let rest : ShowEntries (documents_without number ps) (filter (other_than number) es) = shown_without number ps es shown.1 in
    let P : Bool → Bool → Type 0 = λ a b. ShowEntries (cond (not a) (p ∷ documents_without number ps) (documents_without number ps))
    (cond (not b) (e ∷ filter (other_than number) es) (filter (other_than number) es)) in
    subst (λ a. P a (nat_eq e.number number)) (sym (same_test number p e shown.0))
    (elim (nat_eq e.number number) as (λ b. P b b) [
      | true ↦ rest
      | false ↦ (shown.0, rest)
    ])
