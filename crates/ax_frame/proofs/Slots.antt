-- One spelling for each slot, and what sixteen bytes say.
use Rattle.std.proofs.Common.{◌≡◌, ℕ, zero, suc, ◌<◌, List, [], ◌∷◌, ◌++◌, length, get_or, take, drop, refl, sym, ap, ◌∙◌, arith}
use Rattle.std.specs.Int.{w16, w64, to_le_bytes, from_le_bytes}
use Rattle.std.proofs.lemmas.Nat.{le_bytes_2, le_bytes_8, from_le_bytes-to_le_bytes_2, from_le_bytes-to_le_bytes_8}
use Rattle.ax_frame.specs.declared.root_slot.RootSlot.{RootSlot}
use Rattle.ax_frame.specs.declared.root_slot.RootSlot.TheVariants.{Closed, Live, Bad}
use Rattle.ax_frame.specs.RootSlot.{mark, slot_bytes, IsOpenSlot, IsSlot}

-- ---- what is read is spelled so

abbrev pub IsBytes : List ℕ → Type 0
IsBytes bytes = (i : ℕ) → get_or bytes i 0 < 256

-- so many bytes from a place on
abbrev firsts : ℕ → ℕ → List ℕ → List ℕ
firsts zero at bytes = []
firsts (suc n) at bytes = get_or bytes at 0 ∷ firsts n (suc at) bytes

firsts-tail : (n at b : ℕ) (bytes : List ℕ) → firsts n (suc at) (b ∷ bytes) ≡ firsts n at bytes
firsts-tail zero at b bytes = refl
firsts-tail (suc n) at b bytes = ap (λ (more : List ℕ). get_or bytes at 0 ∷ more) (firsts-tail n (suc at) b bytes)

firsts-all : (n : ℕ) (bytes : List ℕ) → length bytes ≡ n → bytes ≡ firsts n 0 bytes
firsts-all zero [] e = refl
firsts-all zero (b ∷ bytes) e = absurd (omega arith)
firsts-all (suc n) [] e = absurd (omega arith)
firsts-all (suc n) (b ∷ bytes) e = ap (λ (more : List ℕ). b ∷ more) (firsts-all n bytes (omega arith) ∙ sym (firsts-tail n 0 b bytes))

firsts-fit : (n at : ℕ) (bytes : List ℕ) → IsBytes bytes → IsBytes (firsts n at bytes)
firsts-fit zero at bytes fits i = omega arith
firsts-fit (suc n) at bytes fits zero = fits at
firsts-fit (suc n) at bytes fits (suc i) = firsts-fit n (suc at) bytes fits i

pub slot_read : (b : List ℕ) (version generation : ℕ) → length b ≡ 16 → IsBytes b → get_or b 0 0 ≡ 1
    → version ≡ from_le_bytes w16 (get_or b 1 0 ∷ get_or b 2 0 ∷ [])
    → generation ≡ from_le_bytes w64 (get_or b 4 0 ∷ get_or b 5 0 ∷ get_or b 6 0 ∷ get_or b 7 0 ∷ get_or b 8 0 ∷ get_or b 9 0 ∷ get_or b 10 0 ∷ get_or b 11 0 ∷ [])
    → get_or b 12 0 ∷ get_or b 13 0 ∷ get_or b 14 0 ∷ get_or b 15 0 ∷ [] ≡ mark
    → b ≡ slot_bytes version (get_or b 3 0) generation
slot_read b version generation len fits gate v-is g-is mark-is =
    let v : List ℕ = get_or b 1 0 ∷ get_or b 2 0 ∷ [] in
    let g : List ℕ = get_or b 4 0 ∷ get_or b 5 0 ∷ get_or b 6 0 ∷ get_or b 7 0 ∷ get_or b 8 0 ∷ get_or b 9 0 ∷ get_or b 10 0 ∷ get_or b 11 0 ∷ [] in
    let m : List ℕ = get_or b 12 0 ∷ get_or b 13 0 ∷ get_or b 14 0 ∷ get_or b 15 0 ∷ [] in
    let v-fits : IsBytes v = firsts-fit 2 1 b fits in
    let g-fits : IsBytes g = firsts-fit 8 4 b fits in
    let v-again : to_le_bytes w16 version ≡ v = le_bytes_2 v version refl v-fits v-is in
    let g-again : to_le_bytes w64 generation ≡ g = le_bytes_8 g generation refl g-fits g-is in
    let parts : b ≡ get_or b 0 0 ∷ v ++ get_or b 3 0 ∷ g ++ m = firsts-all 16 b len in
    parts ∙ ap (λ (n : ℕ). n ∷ v ++ get_or b 3 0 ∷ g ++ m) gate
    ∙ ap (λ (t : List ℕ). 1 ∷ t ++ get_or b 3 0 ∷ g ++ m) (sym v-again)
    ∙ ap (λ (t : List ℕ). 1 ∷ to_le_bytes w16 version ++ get_or b 3 0 ∷ t ++ m) (sym g-again)
    ∙ ap (λ (t : List ℕ). 1 ∷ to_le_bytes w16 version ++ get_or b 3 0 ∷ to_le_bytes w64 generation ++ t) mark-is

-- ---- one slot for each list of bytes

-- what the bytes of an open slot name
names_of : List ℕ → RootSlot
names_of bytes = Live (from_le_bytes w16 (take 2 (drop 1 bytes))) (get_or bytes 3 0) (from_le_bytes w64 (take 8 (drop 4 bytes)))

names_again : (bytes : List ℕ) (v a g : ℕ) → IsOpenSlot bytes v a g → names_of bytes ≡ Live v a g
unfolding names_of
names_again bytes v a g is =
    ap names_of is.1
    ∙ ap (λ (n : ℕ). Live n a (from_le_bytes w64 (to_le_bytes w64 g))) (from_le_bytes-to_le_bytes_2 v is.0.version_fits)
    ∙ ap (λ (n : ℕ). Live v a n) (from_le_bytes-to_le_bytes_8 g is.0.generation_fits)

-- an open slot has the open gate
gate_of : (bytes : List ℕ) (v a g : ℕ) → IsOpenSlot bytes v a g → get_or bytes 0 0 ≡ 1
gate_of bytes v a g is = ap (λ (b : List ℕ). get_or b 0 0) is.1

-- the bytes are one slot alone
pub one_slot : (bytes : List ℕ) (s t : RootSlot) → IsSlot bytes s → IsSlot bytes t → s ≡ t
one_slot bytes Closed Closed p q = refl
one_slot bytes Closed (Live v a g) p q = absurd (p (gate_of bytes v a g q))
one_slot bytes Closed Bad p q = absurd (p q.0)
one_slot bytes (Live v a g) Closed p q = absurd (q (gate_of bytes v a g p))
one_slot bytes (Live v a g) (Live w b h) p q = sym (names_again bytes v a g p) ∙ names_again bytes w b h q
one_slot bytes (Live v a g) Bad p q = absurd (q.1 v a g p)
one_slot bytes Bad Closed p q = absurd (q p.0)
one_slot bytes Bad (Live w b h) p q = absurd (p.1 w b h q)
one_slot bytes Bad Bad p q = refl
