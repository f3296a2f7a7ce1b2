-- A member that is put in its place among members whose names rise.
use Rattle.std.proofs.Common.{◌≡◌, ℕ, zero, suc, ◌-◌, ◌<◌, ◌≤◌, List, [], ◌∷◌, drop, insert, length, get_or, true, Option, Some, None, refl, sym, ap, ◌∙◌, subst, arith}
use Rattle.std.proofs.lemmas.Cmp.{nat_list_cmp_total}
use Rattle.std.specs.Cmp.Lexicographic.{slice_cmp}
use Rattle.std.specs.Option.{IfSome}
use Rattle.std.specs.Ordering.{nat_cmp, is_lt, ordering_reverse}
use Rattle.std.specs.declared.cmp.Ordering.TheVariants.{Greater}
use Rattle.std.specs.Prelude.{⊤}
use Rattle.serde_json.specs.Data as serde
use Rattle.ax_tree.specs.Names.{names, HaveRisingNames}
use Rattle.ax_tree.specs.Rising.{is_before, is_rising}
use Rattle.ax_tree.specs.declared.members.Member.{Member}
use Rattle.ax_tree.specs.declared.tree.Tree.{Tree}
use Rattle.ax_text.specs.Places.{IsPlace}
use Rattle.ax_text.specs.TreeOf.{both, named, tree_of, members_of}
use Rattle.ax_text.proofs.DataDepth.{of_both, of_map}
use Rattle.ax_text.proofs.GoodData.{data_names}
use Rattle.ax_text.proofs.ReadTrees.{rising_put}
use Rattle.ax_text.proofs.RisingNames.{is_lt_Less, and_first, and_second, is_before_trans, is_before_Greater}

-- ---- looking for the place from the end

-- the name is before the first of the members
abbrev pub IsAhead : List ℕ → List (Member Tree) → Type 0
IsAhead name [] = ⊤
IsAhead name (m ∷ ms) = is_before name m.name ≡ true

pub place_first : (name : List ℕ) (ms : List (Member Tree)) → IsAhead name ms
    → IsPlace name (names ms) 0
place_first name [] ahead = refl
place_first name (m ∷ ms) ahead = ahead

-- the name is behind the p-th of the members, and before the next
pub place_behind : (name : List ℕ) (ms : List (Member Tree)) (p : ℕ) (d : Member Tree)
    → HaveRisingNames ms → p < length ms → is_before (get_or ms p d).name name ≡ true
    → IsAhead name (drop (suc p) ms) → IsPlace name (names ms) (suc p)
place_behind name [] p d rising within before ahead = absurd (omega arith)
place_behind name (m ∷ ms) zero d rising within before ahead =
    (before, place_first name ms ahead)
place_behind name (m ∷ []) (suc p) d rising within before ahead = absurd (omega arith)
place_behind name (m ∷ next ∷ ms) (suc p) d rising within before ahead =
    let later : IsPlace name (names (next ∷ ms)) (suc p) =
    place_behind name (next ∷ ms) p d (and_second (is_before m.name next.name) _ rising)
    (omega arith) before ahead in (
      is_before_trans m.name next.name name
          (and_first (is_before m.name next.name) _ rising) later.0,
      later,
    )

behind_Greater : (name : List ℕ) (m : List ℕ) → slice_cmp nat_cmp name m ≡ Greater
    → is_before m name ≡ true
behind_Greater name m e =
    ap is_lt (nat_list_cmp_total.antisymm m name ∙ ap ordering_reverse e)

pub place_found : (name : List ℕ) (ms : List (Member Tree)) (place : ℕ) (x : Member Tree)
    → HaveRisingNames ms → 0 < place → place ≤ length ms → get_or ms (place - 1) x ≡ x
    → slice_cmp nat_cmp name x.name ≡ Greater → IsAhead name (drop place ms)
    → IsPlace name (names ms) place
place_found name ms zero x rising some within there order ahead = absurd (omega arith)
place_found name ms (suc p) x rising some within there order ahead =
    let last : get_or ms p x ≡ x = ap (λ i. get_or ms i x) (omega arith) ∙ there in
    place_behind name ms p x rising (omega arith)
    (ap (λ m. is_before m.name name) last ∙ behind_Greater name x.name order) ahead

pub place-within : (name : List ℕ) (ms : List (Member Tree)) (p : ℕ) → IsPlace name (names ms) p
    → p ≤ length ms
place-within name [] p is = omega (arith, is)
place-within name (m ∷ ms) zero is = omega arith
place-within name (m ∷ ms) (suc p) is = omega (arith, place-within name ms p is.1)

-- ---- what is put is inserted

-- the names of the members are those of the data
names_made : (ms : serde.Members) → IfSome (members_of ms) (λ l. names l ≡ data_names ms)
names_made serde.no_members = refl
names_made (serde.member k d ms) =
    of_both (named k (tree_of d)) (members_of ms) (λ m. m.name ≡ k)
    (λ l. names l ≡ data_names ms) (λ l. names l ≡ k ∷ data_names ms)
    (λ m l p q. λ i. p i ∷ q i)
    (of_map (tree_of d) (λ t. record { name = k; value = t }) (λ t. ⊤) (λ m. m.name ≡ k)
    (λ t h. refl) (any (tree_of d)))
    (names_made ms)
  where
    any : (o : Option Tree) → IfSome o (λ t. ⊤)
    any None = tt
    any (Some t) = tt

pub names-made : (ms : serde.Members) (l : List (Member Tree)) → members_of ms ≡ Some l
    → names l ≡ data_names ms
names-made ms l e = subst (λ o. IfSome o (λ l. names l ≡ data_names ms)) e (names_made ms)

abbrev unwrap : List (Member Tree) → Option (List (Member Tree)) → List (Member Tree)
unwrap l None = l
unwrap l (Some k) = k

module _ (k : List ℕ) (d : serde.Data) (t : Tree) (value : tree_of d ≡ Some t) where
  abbrev new : Member Tree
  new = record { name = k; value = t }

  put_here : (rest : serde.Members) (l : List (Member Tree)) → members_of rest ≡ Some l
      → members_of (serde.member k d rest) ≡ Some (new ∷ l)
  put_here rest l made =
      ap (λ o. both (named k o) (members_of rest)) value ∙ ap (both (Some new)) made

  put_at : (m : List ℕ) (e : serde.Data) (ms : serde.Members) (u : Tree)
      (rest : List (Member Tree)) (place : ℕ) → tree_of e ≡ Some u → members_of ms ≡ Some rest
      → ((p : ℕ) → IsPlace k (names rest) p
      → members_of (serde.put k d ms) ≡ Some (insert rest p new))
      → IsPlace k (m ∷ names rest) place
      → members_of (serde.put k d (serde.member m e ms))
      ≡ Some (insert (record { name = m; value = u } ∷ rest) place new)
  put_at m e ms u rest zero first made later is =
      rw (is_lt_Less _ is)
      (put_here (serde.member m e ms) (record { name = m; value = u } ∷ rest)
      (ap (λ o. both (named m o) (members_of ms)) first
      ∙ ap (both (Some (record { name = m; value = u }))) made))
  put_at m e ms u rest (suc p) first made later is =
      rw (is_before_Greater m k is.0)
      (ap (λ o. both (named m o) (members_of (serde.put k d ms))) first
      ∙ ap (both (Some (record { name = m; value = u }))) (later p is.1))

  put_by : (m : List ℕ) (e : serde.Data) (ms : serde.Members) (l : List (Member Tree))
      (place : ℕ) (x : Option Tree) (y : Option (List (Member Tree)))
      → tree_of e ≡ x → members_of ms ≡ y
      → ((rest : List (Member Tree)) → members_of ms ≡ Some rest → (p : ℕ)
      → IsPlace k (names rest) p → members_of (serde.put k d ms) ≡ Some (insert rest p new))
      → both (named m x) y ≡ Some l → IsPlace k (names l) place
      → members_of (serde.put k d (serde.member m e ms)) ≡ Some (insert l place new)
  put_by m e ms l place None y first made later all is = absurd (cc)
  put_by m e ms l place (Some u) None first made later all is = absurd (cc)
  put_by m e ms l place (Some u) (Some rest) first made later all is =
      let same : record { name = m; value = u } ∷ rest ≡ l = ap (unwrap l) all in
      subst (λ l. IsPlace k (names l) place
      → members_of (serde.put k d (serde.member m e ms)) ≡ Some (insert l place new)) same
      (put_at m e ms u rest place first made (later rest made)) is

  pub put_in_place : (old : serde.Members) (l : List (Member Tree)) (place : ℕ)
      → members_of old ≡ Some l → IsPlace k (names l) place
      → members_of (serde.put k d old) ≡ Some (insert l place new)
  put_in_place serde.no_members l place made is =
      let same : [] ≡ l = ap (unwrap l) made in
      subst (λ l. IsPlace k (names l) place
      → members_of (serde.put k d serde.no_members) ≡ Some (insert l place new)) same
      (λ none. put_here serde.no_members [] refl ∙ ap (λ p. Some (insert [] p new)) (sym none)) is
  put_in_place (serde.member m e ms) l place made is =
      put_by m e ms l place (tree_of e) (members_of ms) refl refl
      (λ rest made p is. put_in_place ms rest p made is) made is

  -- and the names rise as before
  pub rising_in_place : (old : serde.Members) (l : List (Member Tree)) (place : ℕ)
      → members_of old ≡ Some l → IsPlace k (names l) place → HaveRisingNames l
      → HaveRisingNames (insert l place new)
  rising_in_place old l place made is rising =
      ap is_rising
      (names-made (serde.put k d old) (insert l place new) (put_in_place old l place made is))
      ∙ rising_put k d old (ap is_rising (sym (names-made old l made)) ∙ rising)
