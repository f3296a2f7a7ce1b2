-- The changes that the parts of a batch say by which a document is written.
use Rattle.std.proofs.Common.{◌≡◌, ℕ, ◌<◌, ◌+◌, ◌-◌, ◌^◌, Bool, true, List, [], ◌∷◌, ◌++◌, length, Option, Some, None, refl, ap}
use Rattle.std.proofs.Common.{◌∙◌, arith}
use Rattle.std.specs.Prelude.{◌&&◌, nat_lt, if◌then◌else◌, option_and_then}
use Rattle.std.specs.Option.{option_map}
use Rattle.std.proofs.lemmas.Bool.{lt-ltb}
use Rattle.std.proofs.lemmas.List.{append-nil}
use Rattle.std.proofs.lemmas.Nat.{from_le_bytes-to_le_bytes_4}
use Rattle.ax_area.specs.Changes.{Change}
use Rattle.ax_area.specs.Changes as change
use Rattle.ax_area.specs.Items.{number_at}
use Rattle.ax_area.specs.Parts.{change_said, changes_said}
use Rattle.ax_frame.specs.Part.{PartValue}
use Rattle.ax_image.specs.WriteChanges.{document_change, meta_change, replacing_changes, creating_changes, deleting_changes}
use Rattle.ax_pages.specs.Contents as log
use Rattle.ax_tree.specs.CanonicalText.{canonical_text}
use Rattle.ax_tree.specs.declared.tree.Tree.{Tree}
use Rattle.ax_write.specs.Batches.{document_part, meta_part, gone_part, replacing_parts, creating_parts, deleting_parts}

both : (a b : Bool) → a ≡ true → b ≡ true → (a && b) ≡ true
both a b x y = λ i. x i && y i

document_said : (number policy : ℕ) (tree : Tree) → 0 < number
    → change_said (document_part number policy tree) ≡ Some (document_change number policy tree)
document_said number policy tree some =
    let text = canonical_text tree in
    ap (λ test. if test then Some (change.Document number (record { policy = policy; version = None; text = text ++ [] })) else None)
    (both (nat_lt 0 number) (nat_lt 0 (length (policy ∷ text))) (lt-ltb 0 number some)
    (lt-ltb 0 (length (policy ∷ text)) (omega arith)))
    ∙ ap (λ t. Some (change.Document number (record { policy = policy; version = None; text = t }))) (append-nil text)

meta_said : (next policy : ℕ) → 0 < next → next < 2 ^ 32 → policy < 2 ^ 32
    → change_said (meta_part next policy) ≡ Some (meta_change next policy)
meta_said next policy some fits small =
    let bytes = log.meta_bytes next policy in
    let next_is : number_at 0 bytes ≡ next = from_le_bytes-to_le_bytes_4 next fits in
    let policy_is : number_at 4 bytes ≡ policy = from_le_bytes-to_le_bytes_4 policy small in
    ap (λ test. if test then Some (change.Meta (record { next = number_at 0 bytes; policy = number_at 4 bytes; version = None })) else None)
    (both _ _ refl (lt-ltb 0 (number_at 0 bytes) (omega (arith, some, next_is))))
    ∙ (λ i. Some (change.Meta (record { next = next_is i; policy = policy_is i; version = None })))

abbrev with_others : List PartValue → Option Change → Option (List Change)
with_others parts first =
    option_and_then (λ change. option_map (λ changes. change ∷ changes) (changes_said parts)) first

pub replacing_said : (number policy : ℕ) (tree : Tree) → 0 < number
    → changes_said (replacing_parts number policy tree) ≡ Some (replacing_changes number policy tree)
replacing_said number policy tree some = ap (with_others []) (document_said number policy tree some)

pub creating_said : (number policy : ℕ) (tree : Tree) → 0 < number → number < 2 ^ 32 - 1 → policy < 2 ^ 32
    → changes_said (creating_parts number policy tree) ≡ Some (creating_changes number policy tree)
creating_said number policy tree some left small =
    ap (with_others (document_part number policy tree ∷ []))
    (meta_said (number + 1) policy (omega arith) (omega (arith, left)) small)
    ∙ ap (option_map (λ changes. meta_change (number + 1) policy ∷ changes)) (replacing_said number policy tree some)

gone_said : (number : ℕ) → 0 < number → change_said (gone_part number) ≡ Some (change.Gone number)
gone_said number some =
    ap (λ test. if test then Some (change.Gone number) else None)
    (both (nat_lt 0 number) _ (lt-ltb 0 number some) refl)

pub deleting_said : (number : ℕ) → 0 < number
    → changes_said (deleting_parts number) ≡ Some (deleting_changes number)
deleting_said number some = ap (with_others []) (gone_said number some)
