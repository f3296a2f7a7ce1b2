-- Members whose names rise, of which one is taken out or put in at its place.
use Rattle.std.proofs.Common.{◌≡◌, ℕ, ◌+◌, ◌<◌, ◌≤◌, zero, suc, List, [], ◌∷◌, ◌++◌, length, take, drop, get_or, true, false, cond, Some, None, Less, Equal, Greater, refl, sym, ap, subst, ◌∙◌, arith, ◌⊎◌, inl, inr}
use Rattle.std.specs.Cmp.Lexicographic.{slice_cmp}
use Rattle.std.specs.List.{AllByRecursion}
use Rattle.std.specs.Ordering.{nat_cmp, is_lt, ordering_reverse}
use Rattle.std.specs.Str.{bytes_eq}
use Rattle.std.proofs.lemmas.Bool.{cases_lt}
use Rattle.std.proofs.lemmas.Cmp.{nat_list_cmp_total}
use Rattle.std.proofs.lemmas.List.{take-append-drop}
use Rattle.ax_tree.specs.Names.{names, HaveRisingNames}
use Rattle.ax_tree.specs.Rising.{is_rising}
use Rattle.ax_tree.specs.declared.members.Member.{Member}
use Rattle.ax_policy.specs.declared.rule_tree.RuleTree.{RuleTree}
use Rattle.ax_policy.specs.RuleTrees.{says, SaySame, IsFound, IsRoom, AreBefore, IsOpened, put_at}
use Rattle.ax_policy.specs.Rules.{under}
use Rattle.ax_policy.proofs.RuleLaws.{swapped, twice}
use Rattle.ax_policy.proofs.Searching.{both, both_true, same_bytes, bytes_eq_same, apart, rises, under_at, under_none}

-- ---- a list parted at one of its places

parted_there : {X : Type 0} (xs : List X) (at : ℕ) (d : X) → at < length xs
    → take at xs ++ get_or xs at d ∷ drop (suc at) xs ≡ xs
parted_there [] at d h = absurd (omega arith)
parted_there (x ∷ xs) zero d h = refl
parted_there (x ∷ xs) (suc at) d h = ap (λ l. x ∷ l) (parted_there xs at d (omega arith))

parted : {X : Type 0} (xs : List X) (at : ℕ) (d : X) → at < length xs
    → take at xs ++ get_or xs at d ∷ drop (at + 1) xs ≡ xs
parted xs at d h =
    let next : at + 1 ≡ suc at = omega arith in
    ap (λ n. take at xs ++ get_or xs at d ∷ drop n xs) next ∙ parted_there xs at d h

front_again : {X : Type 0} (xs ys : List X) (at : ℕ) → at ≤ length xs
    → take at (take at xs ++ ys) ≡ take at xs
front_again xs ys zero h = refl
front_again [] ys (suc at) h = absurd (omega arith)
front_again (x ∷ xs) ys (suc at) h = ap (λ l. x ∷ l) (front_again xs ys at (omega arith))

rest_again : {X : Type 0} (xs ys : List X) (at : ℕ) → at ≤ length xs
    → drop at (take at xs ++ ys) ≡ ys
rest_again xs ys zero h = refl
rest_again [] ys (suc at) h = absurd (omega arith)
rest_again (x ∷ xs) ys (suc at) h = rest_again xs ys at (omega arith)

-- ---- what stands under a name, with one put in

-- none has that name
abbrev Lack : {T : Type 0} → List ℕ → List (Member T) → Type 0
Lack name members = AllByRecursion (λ m. bytes_eq name m.name ≡ false) members

lack_front : {T : Type 0} (members : List (Member T)) (name : List ℕ) (at : ℕ) → at ≤ length members
    → ((k : ℕ) (d : Member T) → k < at → bytes_eq name (get_or members k d).name ≡ false)
    → Lack name (take at members)
lack_front members name zero h n = tt
lack_front [] name (suc at) h n = tt
lack_front (m ∷ members) name (suc at) h n =
    (n 0 m (omega arith), lack_front members name at (omega arith) (λ k d l. n (suc k) d (omega arith)))

two_names : (key a b : List ℕ) → bytes_eq b a ≡ false → bytes_eq key a ≡ true
    → bytes_eq key b ≡ true → ⊥
two_names key a b differ first second =
    let same : b ≡ a = sym (same_bytes key b second) ∙ same_bytes key a first in
    let e : false ≡ true = sym differ ∙ ap (bytes_eq b) (sym same) ∙ bytes_eq_same b in
    absurd (cc)

under_put : {T : Type 0} (front rest : List (Member T)) (m : Member T) (key : List ℕ)
    → Lack m.name front
    → under key (front ++ m ∷ rest) ≡ cond (bytes_eq key m.name) (Some m.value) (under key (front ++ rest))
under_put [] rest m key lack = refl
under_put (first ∷ front) rest m key lack =
    ap (cond (bytes_eq key first.name) (Some first.value)) (under_put front rest m key lack.1)
    ∙ swapped (bytes_eq key first.name) (bytes_eq key m.name) (Some first.value) (Some m.value)
    (under key (front ++ rest)) (two_names key first.name m.name lack.0)

-- ---- names that rise, with one put in

same_names : {T : Type 0} (front rest : List (Member T)) (a b : Member T) → a.name ≡ b.name
    → names (front ++ a ∷ rest) ≡ names (front ++ b ∷ rest)
same_names [] rest a b e = ap (λ n. n ∷ names rest) e
same_names (m ∷ front) rest a b e = ap (λ l. m.name ∷ l) (same_names front rest a b e)

before_it : (a b : List ℕ) → slice_cmp nat_cmp b a ≡ Greater → slice_cmp nat_cmp a b ≡ Less
before_it a b e = nat_list_cmp_total.antisymm a b ∙ ap ordering_reverse e

put_rises : {T : Type 0} (members : List (Member T)) (m : Member T) (at : ℕ) → HaveRisingNames members
    → ((k : ℕ) (d : Member T) → k < at → k < length members → slice_cmp nat_cmp (get_or members k d).name m.name ≡ Less)
    → ((k : ℕ) (d : Member T) → at ≤ k → k < length members → slice_cmp nat_cmp (get_or members k d).name m.name ≡ Greater)
    → HaveRisingNames (take at members ++ m ∷ drop at members)
put_rises [] m zero r b f = refl
put_rises [] m (suc at) r b f = refl
put_rises (x ∷ xs) m zero r b f =
    both_true (is_lt (slice_cmp nat_cmp m.name x.name)) _
    (ap is_lt (before_it m.name x.name (f 0 x (omega arith) (omega arith)))) r
put_rises (x ∷ []) m (suc at) r b f =
    at_end at (ap is_lt (b 0 x (omega arith) (omega arith)))
  where
    at_end : (at : ℕ) → is_lt (slice_cmp nat_cmp x.name m.name) ≡ true
        → HaveRisingNames (x ∷ (take at [] ++ m ∷ drop at []))
    at_end zero l = both_true (is_lt (slice_cmp nat_cmp x.name m.name)) true l refl
    at_end (suc at) l = both_true (is_lt (slice_cmp nat_cmp x.name m.name)) true l refl
put_rises (x ∷ y ∷ xs) m (suc zero) r b f =
    both_true (is_lt (slice_cmp nat_cmp x.name m.name)) _ (ap is_lt (b 0 x (omega arith) (omega arith)))
    (put_rises (y ∷ xs) m zero (both (is_lt (slice_cmp nat_cmp x.name y.name)) _ r).1
    (λ k d l h. absurd (omega arith)) (λ k d l h. f (suc k) d (omega arith) (omega arith)))
put_rises (x ∷ y ∷ xs) m (suc (suc at)) r b f =
    let parts = both (is_lt (slice_cmp nat_cmp x.name y.name)) _ r in
    both_true (is_lt (slice_cmp nat_cmp x.name y.name)) _ parts.0
    (put_rises (y ∷ xs) m (suc at) parts.1
    (λ k d l h. b (suc k) d (omega arith) (omega arith)) (λ k d l h. f (suc k) d (omega arith) (omega arith)))

-- ---- looking up

-- what stands at a place stands under its name
pub found_there : (members : List (Member RuleTree)) (name : List ℕ) (at : ℕ) (d : Member RuleTree)
    → HaveRisingNames members → IsFound name members at
    → Some (get_or members at d).value ≡ under name members
found_there members name at d r f =
    sym (under_at members d r at f.0) ∙ ap (λ n. under n members) (f.1 d)

pub found_at : (members : List (Member RuleTree)) (name : List ℕ) (at : ℕ) (m : Member RuleTree)
    → HaveRisingNames members
    → (at < length members) × ((d : Member RuleTree) → m ≡ get_or members at d)
    → true ≡ bytes_eq m.name name → Some m.value ≡ under name members
found_at members name at m r there same =
    ap (λ (x : Member RuleTree). Some x.value) (there.1 m)
    ∙ found_there members name at m r
    (there.0, λ d. ap (λ (x : Member RuleTree). x.name) (sym (there.1 d)) ∙ same_bytes m.name name (sym same))

pub none_there : (members : List (Member RuleTree)) (name : List ℕ) (at : ℕ) → IsRoom name members at
    → None ≡ under name members
none_there members name at room =
    sym (under_none name members (λ k d h same. by_place k d h same (cases_lt k at)))
  where
    by_place : (k : ℕ) (d : Member RuleTree) → k < length members
        → slice_cmp nat_cmp (get_or members k d).name name ≡ Equal → (k < at) ⊎ (at ≤ k) → ⊥
    by_place k d h same (inl below) =
        let less : slice_cmp nat_cmp (get_or members k d).name name ≡ Less = room.0.1 k d below in
        cc
    by_place k d h same (inr above) =
        let more : slice_cmp nat_cmp (get_or members k d).name name ≡ Greater = room.1 k d above h in
        cc

-- ---- looking from a place on

pub all_before : (members : List (Member RuleTree)) (name : List ℕ) (last : ℕ) → HaveRisingNames members
    → (last < length members)
    × ((d : Member RuleTree) → slice_cmp nat_cmp (get_or members last d).name name ≡ Less)
    → AreBefore name members (last + 1)
all_before members name last r there =
    (omega (arith, there.0), λ k d l. by_place k d l (cases_lt k last))
  where
    by_place : (k : ℕ) (d : Member RuleTree) → k < last + 1 → (k < last) ⊎ (last ≤ k)
        → slice_cmp nat_cmp (get_or members k d).name name ≡ Less
    by_place k d l (inl below) =
        nat_list_cmp_total.trans (get_or members k d).name (get_or members last d).name name
        (rises members d r k last below there.0) (there.1 d)
    by_place k d l (inr above) =
        let same : k ≡ last = omega arith in
        ap (λ n. slice_cmp nat_cmp (get_or members n d).name name) same ∙ there.1 d

pub room_here : (members : List (Member RuleTree)) (name : List ℕ) (at : ℕ) → HaveRisingNames members
    → AreBefore name members at
    → (at < length members)
    × ((d : Member RuleTree) → slice_cmp nat_cmp (get_or members at d).name name ≡ Greater)
    → IsRoom name members at
room_here members name at r before there =
    (before, λ k d l h. by_place k d l h (cases_lt at k))
  where
    by_place : (k : ℕ) (d : Member RuleTree) → at ≤ k → k < length members → (at < k) ⊎ (k ≤ at)
        → slice_cmp nat_cmp (get_or members k d).name name ≡ Greater
    by_place k d l h (inl further) =
        let first : slice_cmp nat_cmp name (get_or members at d).name ≡ Less =
        before_it name (get_or members at d).name (there.1 d) in
        let less : slice_cmp nat_cmp name (get_or members k d).name ≡ Less =
        nat_list_cmp_total.trans name (get_or members at d).name (get_or members k d).name first
        (rises members d r at k further h) in
        nat_list_cmp_total.antisymm (get_or members k d).name name ∙ ap ordering_reverse less
    by_place k d l h (inr here) =
        let same : k ≡ at = omega arith in
        ap (λ n. slice_cmp nat_cmp (get_or members n d).name name) same ∙ there.1 d

-- ---- taken out

-- one of that name and value
abbrev named : List ℕ → RuleTree → Member RuleTree
named name rules = record { name = name; value = rules }

put_back : (whole members : List (Member RuleTree)) (name : List ℕ) (at : ℕ) (put : RuleTree)
    → at ≤ length whole → members ≡ take at whole ++ drop (at + 1) whole
    → put_at at name put members ≡ take at whole ++ named name put ∷ drop (at + 1) whole
put_back whole members name at put h e =
    ap (put_at at name put) e
    ∙ ap (λ l. l ++ named name put ∷ drop at (take at whole ++ drop (at + 1) whole))
    (front_again whole (drop (at + 1) whole) at h)
    ∙ ap (λ l. take at whole ++ named name put ∷ l) (rest_again whole (drop (at + 1) whole) at h)

bound_again : {X : Type 0} (xs ys : List X) (at : ℕ) → at ≤ length xs
    → at ≤ length (take at xs ++ ys)
bound_again xs ys zero h = omega arith
bound_again [] ys (suc at) h = absurd (omega arith)
bound_again (x ∷ xs) ys (suc at) h = omega (arith, bound_again xs ys at (omega arith))

lack_found : (whole : List (Member RuleTree)) (name : List ℕ) (at : ℕ) → HaveRisingNames whole
    → IsFound name whole at → Lack name (take at whole)
lack_found whole name at r f =
    lack_front whole name at (omega (arith, f.0))
    (λ k d l. ap (λ n. bytes_eq n (get_or whole k d).name) (sym (f.1 d))
    ∙ apart (get_or whole k d).name (get_or whole at d).name (rises whole d r k at l f.0))

pub opened_there : (whole members : List (Member RuleTree)) (name : List ℕ) (at : ℕ) (m : Member RuleTree)
    → HaveRisingNames whole → IsFound name whole at → m ≡ get_or whole at m
    → members ≡ take at whole ++ drop (at + 1) whole
    → IsOpened whole name members at m.name m.value
opened_there whole members name at m r f is e =
    let h : at ≤ length whole = omega (arith, f.0) in
    let whole_is : take at whole ++ get_or whole at m ∷ drop (at + 1) whole ≡ whole = parted whole at m f.0 in
    let own : m.name ≡ name = ap (λ x. x.name) is ∙ f.1 m in
    record {
      named = own;
      bound = subst (λ l. at ≤ length l) (sym e) (bound_again whole (drop (at + 1) whole) at h);
      rise = λ put. ap (λ l. is_rising (names l)) (put_back whole members name at put h e)
          ∙ ap is_rising (same_names (take at whole) (drop (at + 1) whole) (named name put)
          (get_or whole at m) (sym (f.1 m)))
          ∙ ap (λ l. is_rising (names l)) whole_is ∙ r;
      put_there = λ put key. ap (under key) (put_back whole members name at put h e)
          ∙ under_put (take at whole) (drop (at + 1) whole) (named name put) key (lack_found whole name at r f)
          ∙ twice (bytes_eq key name) (Some put) (Some (get_or whole at m).value)
          (under key (take at whole ++ drop (at + 1) whole))
          ∙ ap (λ n. cond (bytes_eq key name) (Some put)
          (cond (bytes_eq key n) (Some (get_or whole at m).value)
          (under key (take at whole ++ drop (at + 1) whole)))) (sym (f.1 m))
          ∙ ap (cond (bytes_eq key name) (Some put))
          (sym (under_put (take at whole) (drop (at + 1) whole) (get_or whole at m) key
          (subst (λ n. Lack n (take at whole)) (sym (f.1 m)) (lack_found whole name at r f)))
          ∙ ap (under key) whole_is);
      said = λ steps all. ap (λ (x : Member RuleTree). says (Some x.value) steps all) is
          ∙ ap (λ o. says o steps all) (found_there whole name at m r f);
    }

pub opened_new : (whole : List (Member RuleTree)) (name own_name : List ℕ) (at : ℕ) (rules : RuleTree)
    → HaveRisingNames whole → IsRoom name whole at → own_name ≡ name → SaySame (Some rules) None
    → IsOpened whole name whole at own_name rules
opened_new whole name own_name at rules r room own none = record {
  named = own;
  bound = room.0.0;
  rise = λ put. put_rises whole (named name put) at r (λ k d l h. room.0.1 k d l) room.1;
  put_there = λ put key.
      under_put (take at whole) (drop at whole) (named name put) key
      (lack_front whole name at room.0.0 (λ k d l. apart (get_or whole k d).name name (room.0.1 k d l)))
      ∙ ap (λ l. cond (bytes_eq key name) (Some put) (under key l)) (take-append-drop at whole);
  said = λ steps all. none steps all ∙ ap (λ o. says o steps all) (none_there whole name at room);
}
