-- What a root says rests on its first 32 bytes, and on whether it has 33.
use Rattle.std.proofs.Common.{◌≡◌, ◌⊎◌, inl, inr, ⊎_elim, ℕ, ◌<◌, ◌≤◌, List, length, take, drop}
use Rattle.std.proofs.Common.{refl, sym, ◌∙◌, ap, subst, arith}
use Rattle.std.proofs.lemmas.List.{take-take, drop-take, length-take}
use Rattle.ax_frame.specs.RootSlot.{IsSlot}
use Rattle.ax_area.specs.declared.root.RootChoice.{RootChoice}
use Rattle.ax_area.specs.declared.root.RootChoice.TheVariants.{Fresh}
use Rattle.ax_area.specs.Root.{IsRoot, IsWholeRoot}

-- Bytes that are the same up to 32, and as many as a whole root has, say the same.
pub whole_by_prefix : (root other : List ℕ) (choice : RootChoice) → 33 ≤ length root
    → take 32 root ≡ take 32 other → IsWholeRoot other choice → IsWholeRoot root choice
whole_by_prefix root other choice long same whole =
    let first : take 16 root ≡ take 16 other = sym (take-take 16 32 root (omega arith))
    ∙ ap (take 16) same ∙ take-take 16 32 other (omega arith) in
    let second : take 16 (drop 16 root) ≡ take 16 (drop 16 other) = sym (drop-take 16 16 root)
    ∙ ap (drop 16) same ∙ drop-take 16 16 other in
    record {
      first = whole.first;
      second = whole.second;
      whole = long;
      first_slot = subst (λ (b : List ℕ). IsSlot b whole.first) (sym first) whole.first_slot;
      second_slot = subst (λ (b : List ℕ). IsSlot b whole.second) (sym second) whole.second_slot;
      choice_is = whole.choice_is;
    }

short_or_whole : (n : ℕ) → (n < 33) ⊎ (33 ≤ n)
short_or_whole n = grind arith

-- A prefix of a fresh root is a fresh one.
pub fresh_prefix : (root prefix : List ℕ) → prefix ≡ take (length prefix) root → IsRoot root Fresh
    → IsRoot prefix Fresh
fresh_prefix root prefix is (inl short) = inl
    (omega (arith, ap length is, length-take (length prefix) root, short.0), refl)
fresh_prefix root prefix is (inr whole) =
    ⊎_elim
    (λ short. inl (short, refl))
    (λ long. inr (whole_by_prefix prefix root Fresh long
    (ap (take 32) is ∙ take-take 32 (length prefix) root (omega arith)) whole))
    (short_or_whole (length prefix))
