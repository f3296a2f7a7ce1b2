-- Tests of paths and composites, step by step, which come to equality, and the test of an order by a policy that they give.
use Rattle.std.specs.Prelude.{List, [], ◌∷◌, Bool, true, false, ◌&&◌, ◌||◌, not}
use Rattle.ax_mean.specs.declared.query.Order.{Order}
use Rattle.ax_mean.specs.declared.query.Step.{Step}
use Rattle.std.specs.List.{list_any}
use Rattle.ax_policy.specs.declared.policy.Policy.{Policy}
use Rattle.ax_policy.specs.Composites.{same_step}
use Rattle.ax_policy.specs.Deciding.{is_covered}
use Rattle.ax_policy.specs.Ordering.{offered}

abbrev pub same_path : List Step → List Step → Bool
same_path [] [] = true
same_path [] (other ∷ others) = false
same_path (step ∷ steps) [] = false
same_path (step ∷ steps) (other ∷ others) = same_step step other && same_path steps others

abbrev pub same_paths : List Order → List Order → Bool
same_paths [] [] = true
same_paths [] (other ∷ others) = false
same_paths (part ∷ parts) [] = false
same_paths (part ∷ parts) (other ∷ others) =
    same_path part.path other.path && same_paths parts others

abbrev pub same_truth : Bool → Bool → Bool
same_truth true b = b
same_truth false b = not b

abbrev pub turned : Bool → Bool → Bool
turned true down = not down
turned false down = down

-- the directions are equal, or each is opposite
abbrev pub same_ways : Bool → List Order → List Order → Bool
same_ways opposite [] [] = true
same_ways opposite [] (other ∷ others) = false
same_ways opposite (part ∷ parts) [] = false
same_ways opposite (part ∷ parts) (other ∷ others) =
    same_truth (turned opposite part.down) other.down && same_ways opposite parts others

abbrev pub fits : List Order → List Order → Bool
fits composite orders =
    same_paths composite orders && (same_ways false composite orders || same_ways true composite orders)

-- as `Orderable` says it, by tests
abbrev pub is_orderable : Policy → List Order → Bool
is_orderable policy [] = true
is_orderable policy (order ∷ []) = is_covered policy order.path
is_orderable policy (order ∷ next ∷ rest) =
    list_any (λ composite. fits composite (order ∷ next ∷ rest)) (offered policy)
