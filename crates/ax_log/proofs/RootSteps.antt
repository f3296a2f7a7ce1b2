-- What two slots that were read say of a root.
use Rattle.std.proofs.Common.{◌≡◌, inr, ℕ, ◌+◌, ◌≤◌, List, length, take, drop, sym, ◌∙◌, subst}
use Rattle.ax_disk.specs.model.Calls.{bytes_from}
use Rattle.ax_disk.specs.laws.ReadLaws.{bytes_from-within}
use Rattle.ax_frame.specs.declared.root_slot.RootSlot.{RootSlot}
use Rattle.ax_frame.specs.RootSlot.{IsSlot}
use Rattle.ax_area.specs.declared.root.RootChoice.{RootChoice}
use Rattle.ax_area.specs.Root.{chosen, IsRoot}

pub slot_read : (root bytes : List ℕ) (at n : ℕ) (slot : RootSlot) → at + 16 ≤ length root → n ≡ 16
    → bytes ≡ bytes_from root at n → IsSlot bytes slot
    → IsSlot (take 16 (drop at root)) slot
slot_read root bytes at n slot within n-is read is =
    subst (λ (b : List ℕ). IsSlot b slot) (read
    ∙ subst (λ (k : ℕ). bytes_from root at k ≡ take 16 (drop at root)) (sym n-is)
    (bytes_from-within root at 16 within)) is

pub root_read : (root : List ℕ) (first second : RootSlot) (choice : RootChoice) → 33 ≤ length root
    → IsSlot (take 16 (drop 0 root)) first → IsSlot (take 16 (drop 16 root)) second
    → choice ≡ chosen first second → IsRoot root choice
root_read root first second choice whole one other is =
    inr (record {
      first = first;
      second = second;
      whole = whole;
      first_slot = one;
      second_slot = other;
      choice_is = is;
    })
