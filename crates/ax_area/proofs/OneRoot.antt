-- A root says one thing alone.
use Rattle.std.proofs.Common.{◌≡◌, ◌≢◌, inl, inr, ℕ, ◌<◌, ◌≤◌, ◌==◌, nat_lt, Bool, true, false}
use Rattle.std.proofs.Common.{if◌then◌else◌, List, refl, sym, ◌∙◌, ap, subst, arith}
use Rattle.std.proofs.Common.{◌⊎◌, ⊎_elim}
use Rattle.std.proofs.lemmas.Bool.{ltb-true, ltb-false, eqb-false, cases_lt}
use Rattle.ax_disk.specs.declared.extent.Extent.TheVariants.{Root, A, B}
use Rattle.ax_frame.specs.declared.root_slot.RootSlot.{RootSlot}
use Rattle.ax_frame.specs.declared.root_slot.RootSlot.TheVariants.{Closed, Live, Bad}
use Rattle.ax_frame.specs.RootSlot.{IsSlot}
use Rattle.ax_frame.proofs.Slots.{one_slot}
use Rattle.ax_area.specs.declared.root.Which.{Which}
use Rattle.ax_area.specs.declared.root.Counting.{Counting}
use Rattle.ax_area.specs.declared.root.RootChoice.{RootChoice}
use Rattle.ax_area.specs.declared.root.Which.TheVariants.{First, Second}
use Rattle.ax_area.specs.declared.root.RootChoice.TheVariants.{Fresh, Counts, Damaged}
use Rattle.ax_area.specs.Root.{area_numbered, named, slot_in, chosen, IsRoot}
use Rattle.ax_area.specs.Root.{IsClosedBeside, IsLesserBeside, IsKnown}

pub one_root : (root : List ℕ) (one other : RootChoice) → IsRoot root one → IsRoot root other → one
    ≡ other
one_root root one other (inl a) (inl b) = a.1 ∙ sym b.1
one_root root one other (inl a) (inr b) = absurd (omega (arith, a.0, b.whole))
one_root root one other (inr a) (inl b) = absurd (omega (arith, a.whole, b.0))
one_root root one other (inr a) (inr b) =
    let first : a.first
    ≡ b.first = one_slot (slot_in First root) a.first b.first a.first_slot b.first_slot in
    let second : a.second ≡ b.second = one_slot
    (slot_in Second root) a.second b.second a.second_slot b.second_slot in
    a.choice_is ∙ ap (λ (s : RootSlot). chosen s a.second) first
    ∙ ap (λ (s : RootSlot). chosen b.first s) second ∙ sym b.choice_is

-- one slot counts
slot_or : RootChoice → Counting → Counting
slot_or Fresh other = other
slot_or (Counts slot) other = slot
slot_or (Damaged at) other = other

pub one_slot_counts : (root : List ℕ) (s t : Counting) → IsRoot root (Counts s)
    → IsRoot root (Counts t) → s ≡ t
unfolding slot_or
one_slot_counts root s t is it =
    ap (λ says. slot_or says s) (one_root root (Counts s) (Counts t) is it)

place_or : RootChoice → ℕ → ℕ
place_or Fresh other = other
place_or (Counts slot) other = other
place_or (Damaged at) other = at

pub one_damaged_slot : (root : List ℕ) (i j : ℕ) → IsRoot root (Damaged i) → IsRoot root (Damaged j)
    → i ≡ j
unfolding place_or
one_damaged_slot root i j di dj =
    ap (λ says. place_or says i) (one_root root (Damaged i) (Damaged j) di dj)

pub fresh_counts : (root : List ℕ) (s : Counting) → IsRoot root Fresh → IsRoot root (Counts s) → ⊥
fresh_counts root s fresh counts = absurd (cc (one_root root Fresh (Counts s) fresh counts))

pub fresh_damaged : (root : List ℕ) (i : ℕ) → IsRoot root Fresh → IsRoot root (Damaged i) → ⊥
fresh_damaged root i fresh damaged = absurd (cc (one_root root Fresh (Damaged i) fresh damaged))

pub counts_damaged : (root : List ℕ) (s : Counting) (i : ℕ) → IsRoot root (Counts s)
    → IsRoot root (Damaged i) → ⊥
counts_damaged root s i counts damaged =
    absurd (cc (one_root root (Counts s) (Damaged i) counts damaged))

-- the area of a slot that counts is none of the root
abbrev IsNamed : RootChoice → Type 0
IsNamed Fresh = Unit {0}
IsNamed (Counts slot) = (1 ≤ slot.version) × (slot.area ≢ Root)
IsNamed (Damaged at) = Unit {0}

by_test : (b : Bool) → (if b then A else B) ≢ Root
by_test true e = absurd cc
by_test false e = absurd cc

not_root : (n : ℕ) → area_numbered n ≢ Root
not_root n = by_test (n == 1)

two_named : (same less : Bool) (s t : Counting) → IsNamed (Counts s) → IsNamed (Counts t)
    → IsNamed (if same then Damaged 16 else (if less then Counts s else Counts t))
two_named true less s t p q = tt
two_named false true s t p q = p
two_named false false s t p q = q

chosen_named : (root other : List ℕ) (first second : RootSlot) → IsSlot root first
    → IsSlot other second → IsNamed (chosen first second)
chosen_named root other Bad second p q = tt
chosen_named root other Closed Bad p q = tt
chosen_named root other Closed Closed p q = tt
chosen_named root other Closed (Live w b h) p q = (q.0.version_from, not_root b)
chosen_named root other (Live v a g) Bad p q = tt
chosen_named root other (Live v a g) Closed p q = (p.0.version_from, not_root a)
chosen_named root other (Live v a g) (Live w b h) p q =
    two_named (g == h) (nat_lt h g) _ _ (p.0.version_from, not_root a)
    (q.0.version_from, not_root b)

pub counts_named : (root : List ℕ) (slot : Counting) → IsRoot root (Counts slot)
    → (1 ≤ slot.version) × (slot.area ≢ Root)
counts_named root slot (inl short) = absurd (cc short.1)
counts_named root slot (inr whole) =
    subst IsNamed (sym whole.choice_is) (chosen_named (slot_in First root)
    (slot_in Second root) whole.first whole.second whole.first_slot whole.second_slot)

-- ---- the version of the slot that counts is one

version_or : RootChoice → ℕ
version_or Fresh = 0
version_or (Counts slot) = slot.version
version_or (Damaged at) = 0

named_from : (choice : RootChoice) (s : Counting) (version : ℕ) → 1 ≤ version
    → version_or choice ≡ version → Counts s ≡ choice → 1 ≤ s.version
unfolding version_or
named_from choice s version from is e =
    omega (arith, from, is, ap version_or e)

by_slots : (s : Counting) (a b : RootSlot) (first second : List ℕ) → IsSlot first a
    → IsSlot second b → Counts s ≡ chosen a b → 1 ≤ s.version
unfolding version_or
by_slots s Bad b first second ia ib e = absurd (cc e)
by_slots s Closed Bad first second ia ib e = absurd (cc e)
by_slots s Closed Closed first second ia ib e = absurd (cc e)
by_slots s Closed (Live v a g) first second ia ib e =
    named_from (chosen Closed (Live v a g)) s v ib.0.version_from refl e
by_slots s (Live v a g) Bad first second ia ib e = absurd (cc e)
by_slots s (Live v a g) Closed first second ia ib e =
    named_from (chosen (Live v a g) Closed) s v ia.0.version_from refl e
by_slots s (Live v a g) (Live w b h) first second ia ib e = by_generation (g == h) (nat_lt h g) e
  where
    by_generation : (same less : Bool)
        → Counts s ≡ (if same then Damaged 16 else (if less then named First v a g
        else named Second w b h)) → 1 ≤ s.version
    by_generation true less is = absurd (cc is)
    by_generation false true is = named_from (named First v a g) s v ia.0.version_from refl is
    by_generation false false is = named_from (named Second w b h) s w ib.0.version_from refl is

pub counts_from : (root : List ℕ) (s : Counting) → IsRoot root (Counts s) → 1 ≤ s.version
counts_from root s (inl short) = absurd (cc short.1)
counts_from root s (inr whole) =
    by_slots s whole.first whole.second (slot_in First root) (slot_in Second root) whole.first_slot
    whole.second_slot whole.choice_is

-- a slot of the newest version is known
pub newest_known : (newest : ℕ) (s : Counting) → s.version ≡ newest → IsKnown newest s
newest_known newest s is = record {
  known = omega (arith, is);
  rises = λ older. omega (arith, older, is);
}

-- where the newest version is the first, each slot that is known is of it
pub first_version : (root : List ℕ) (s : Counting) → IsRoot root (Counts s) → IsKnown 1 s
    → s.version ≡ 1
first_version root s counts known =
    omega (arith, counts_from root s counts, known.known)

-- ---- the slot beside the one that counts

abbrev Beside : List ℕ → Counting → Type 0
Beside root slot = IsClosedBeside root slot ⊎ IsLesserBeside root slot

-- what is so beside a slot is so beside the one that counts
here : (root : List ℕ) (choice : RootChoice) (s t : Counting) → slot_or choice s ≡ t
    → Counts s ≡ choice → Beside root t → Beside root s
unfolding slot_or
here root choice s t is e beside =
    subst (Beside root) (sym (ap (λ says. slot_or says s) e ∙ is)) beside

abbrev named_slot : Which → ℕ → ℕ → ℕ → Counting
named_slot which version area generation = record {
  which = which;
  version = version;
  area = area_numbered area;
  generation = generation;
}

beside_slots : (root : List ℕ) (s : Counting) (a b : RootSlot) → IsSlot (slot_in First root) a
    → IsSlot (slot_in Second root) b → Counts s ≡ chosen a b → Beside root s
unfolding slot_or
beside_slots root s Bad b ia ib e = absurd (cc e)
beside_slots root s Closed Bad ia ib e = absurd (cc e)
beside_slots root s Closed Closed ia ib e = absurd (cc e)
beside_slots root s Closed (Live v a g) ia ib e =
    here root (named Second v a g) s (named_slot Second v a g) refl e (inl ia)
beside_slots root s (Live v a g) Bad ia ib e = absurd (cc e)
beside_slots root s (Live v a g) Closed ia ib e =
    here root (named First v a g) s (named_slot First v a g) refl e (inl ib)
beside_slots root s (Live v a g) (Live w b h) ia ib e =
    by_generation (g == h) (nat_lt h g) refl refl e
  where
    by_generation : (same less : Bool) → (g == h) ≡ same → nat_lt h g ≡ less
        → Counts s ≡ (if same then Damaged 16 else (if less then named First v a g
        else named Second w b h)) → Beside root s
    by_generation true less equal lower is = absurd (cc is)
    by_generation false true equal lower is =
        here root (named First v a g) s (named_slot First v a g) refl is
        (inr (record {
          version = w;
          area = b;
          generation = h;
          is_open = ib;
          lesser = ltb-true h g lower;
        }))
    by_generation false false equal lower is =
        here root (named Second w b h) s (named_slot Second w b h) refl is
        (inr (record {
          version = v;
          area = a;
          generation = g;
          is_open = ia;
          lesser = ⊎_elim (λ (low : g < h). low)
              (λ (high : h ≤ g). absurd (eqb-false g h equal
              (omega (arith, high, ltb-false h g lower)))) (cases_lt g h);
        }))

pub beside : (root : List ℕ) (s : Counting) → IsRoot root (Counts s) → Beside root s
beside root s (inl short) = absurd (cc short.1)
beside root s (inr whole) =
    beside_slots root s whole.first whole.second whole.first_slot whole.second_slot whole.choice_is
