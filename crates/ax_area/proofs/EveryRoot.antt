-- Every root says something.
use Rattle.std.proofs.Common.{◌≡◌, ◌⊎◌, inl, inr, ⊎_elim, ℕ, ◌<◌, ◌≤◌, ◌^◌, ◌==◌, nat_lt}
use Rattle.std.proofs.Common.{nat_le, Bool, true, false, List, length, get_or, take, drop}
use Rattle.std.proofs.Common.{refl, sym, ap, ◌∙◌}
use Rattle.std.specs.Prelude.{◌&&◌, ◌||◌}
use Rattle.std.specs.Int.{w16, w64, from_le_bytes}
use Rattle.std.specs.Str.{bytes_eq}
use Rattle.std.proofs.lemmas.Bool.{and_parts, and_from, or_cases, eqb-true, eq-eqb, leb-true}
use Rattle.std.proofs.lemmas.Bool.{le-leb, ltb-true, lt-ltb, cases_Bool, cases_eq, cases_lt}
use Rattle.std.proofs.lemmas.Nat.{from_le_bytes-to_le_bytes_2, from_le_bytes-to_le_bytes_8}
use Rattle.std.proofs.lemmas.Slice.Eq.{bytes_eq-Decides}
use Rattle.ax_frame.specs.declared.root_slot.RootSlot.{RootSlot}
use Rattle.ax_frame.specs.declared.root_slot.RootSlot.TheVariants.{Closed, Live, Bad}
use Rattle.ax_frame.specs.RootSlot.{slot_bytes, IsOpenSlot, IsSlot}
use Rattle.ax_area.specs.declared.root.RootChoice.{RootChoice}
use Rattle.ax_area.specs.declared.root.Which.TheVariants.{First, Second}
use Rattle.ax_area.specs.declared.root.RootChoice.TheVariants.{Fresh}
use Rattle.ax_area.specs.Root.{slot_in, chosen, IsRoot}

-- what the bytes would name
version_of : List ℕ → ℕ
version_of bytes = from_le_bytes w16 (take 2 (drop 1 bytes))

area_of : List ℕ → ℕ
area_of bytes = get_or (drop 3 bytes) 0 0

generation_of : List ℕ → ℕ
generation_of bytes = from_le_bytes w64 (take 8 (drop 4 bytes))

record Names (bytes : List ℕ) (version area generation : ℕ) : Type 0 where
  version_is : version_of bytes ≡ version
  area_is : area_of bytes ≡ area
  generation_is : generation_of bytes ≡ generation

names : (bytes : List ℕ) (v a g : ℕ) → IsOpenSlot bytes v a g → Names bytes v a g
unfolding version_of area_of generation_of
names bytes v a g is = record {
  version_is = ap version_of is.1 ∙ from_le_bytes-to_le_bytes_2 v is.0.version_fits;
  area_is = ap area_of is.1;
  generation_is = ap generation_of is.1 ∙ from_le_bytes-to_le_bytes_8 g is.0.generation_fits;
}

is_open : ℕ → ℕ → ℕ → List ℕ → Bool
is_open v a g bytes =
    nat_le 1 v && (nat_lt v (2 ^ 16) && ((a == 1 || a == 2) &&
    (nat_lt g (2 ^ 64) && bytes_eq bytes (slot_bytes v a g))))

one_or_two : (a : ℕ) → (a == 1 || a == 2) ≡ true → (a ≡ 1) ⊎ (a ≡ 2)
one_or_two a e =
    ⊎_elim (λ (x : (a == 1) ≡ true). inl (eqb-true a 1 x))
    (λ (y : (a == 2) ≡ true). inr (eqb-true a 2 y)) (or_cases (a == 1) (a == 2) e)

first_or : (a b : Bool) → a ≡ true → (a || b) ≡ true
first_or a b x = ap (λ c. c || b) x

pub second_or : (a b : Bool) → b ≡ true → (a || b) ≡ true
second_or true b x = refl
second_or false b x = x

two_or_one : (a : ℕ) → (a ≡ 1) ⊎ (a ≡ 2) → (a == 1 || a == 2) ≡ true
two_or_one a is =
    ⊎_elim (λ (x : a ≡ 1). first_or (a == 1) (a == 2) (eq-eqb a 1 x))
    (λ (y : a ≡ 2). second_or (a == 1) (a == 2) (eq-eqb a 2 y)) is

open_is : (bytes : List ℕ) (v a g : ℕ) → is_open v a g bytes ≡ true → IsOpenSlot bytes v a g
unfolding is_open
open_is bytes v a g e =
    let one = and_parts (nat_le 1 v) _ e in
    let two = and_parts (nat_lt v (2 ^ 16)) _ one.1 in
    let three = and_parts (a == 1 || a == 2) _ two.1 in
    let four = and_parts (nat_lt g (2 ^ 64)) _ three.1 in (
      record {
        version_from = leb-true 1 v one.0;
        version_fits = ltb-true v (2 ^ 16) two.0;
        one_of_two = one_or_two a three.0;
        generation_fits = ltb-true g (2 ^ 64) four.0;
      },
      (bytes_eq-Decides bytes (slot_bytes v a g)).0 four.1,
    )

is_opened : (bytes : List ℕ) (v a g : ℕ) → IsOpenSlot bytes v a g → is_open v a g bytes ≡ true
unfolding is_open
is_opened bytes v a g is =
    and_from _ _ (le-leb 1 v is.0.version_from)
    (and_from _ _ (lt-ltb v (2 ^ 16) is.0.version_fits)
    (and_from _ _ (two_or_one a is.0.one_of_two)
    (and_from _ _ (lt-ltb g (2 ^ 64) is.0.generation_fits)
    ((bytes_eq-Decides bytes (slot_bytes v a g)).1 is.1))))

not_open : (bytes : List ℕ) → is_open (version_of bytes) (area_of bytes) (generation_of bytes) bytes
    ≡ false → (v a g : ℕ) → IsOpenSlot bytes v a g → ⊥
not_open bytes e v a g is =
    let n = names bytes v a g is in
    let same : is_open (version_of bytes) (area_of bytes) (generation_of bytes) bytes
    ≡ is_open v a g bytes =
    λ i. is_open (n.version_is i) (n.area_is i) (n.generation_is i) bytes in
    cc (sym e ∙ same ∙ is_opened bytes v a g is)

every_slot : (bytes : List ℕ) → (slot : RootSlot) × IsSlot bytes slot
every_slot bytes =
    ⊎_elim
    (λ (gate : get_or bytes 0 0 ≡ 1).
    ⊎_elim
    (λ (e : is_open (version_of bytes) (area_of bytes) (generation_of bytes) bytes ≡ true).
    let it : (slot : RootSlot) × IsSlot bytes slot = (
      Live (version_of bytes) (area_of bytes) (generation_of bytes),
      open_is bytes _ _ _ e,
    ) in it)
    (λ (e : is_open (version_of bytes) (area_of bytes) (generation_of bytes) bytes ≡ false).
    let it : (slot : RootSlot) × IsSlot bytes slot = (Bad, (gate, not_open bytes e)) in it)
    (cases_Bool (is_open (version_of bytes) (area_of bytes) (generation_of bytes) bytes)))
    (λ (gate : get_or bytes 0 0 ≡ 1 → ⊥). let it : (slot : RootSlot)
    × IsSlot bytes slot = (Closed, gate) in it)
    (cases_eq (get_or bytes 0 0) 1)

pub every_root : (root : List ℕ) → (says : RootChoice) × IsRoot root says
every_root root =
    ⊎_elim
    (λ (short : length root < 33). let it : (says : RootChoice)
    × IsRoot root says = (Fresh, inl (short, refl)) in it)
    (λ (whole : 33 ≤ length root).
    let first = every_slot (slot_in First root) in
    let second = every_slot (slot_in Second root) in
    let it : (says : RootChoice) × IsRoot root says = (
      chosen first.0 second.0,
      inr (record {
        first = first.0;
        second = second.0;
        whole = whole;
        first_slot = first.1;
        second_slot = second.1;
        choice_is = refl;
      }),
    ) in it)
    (cases_lt (length root) 33)
