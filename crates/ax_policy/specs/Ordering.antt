-- For which ORDER BY a policy keeps an order, from the indexing-policy manual of Azure Cosmos DB for
-- NoSQL: none; one path, which is covered; or two and more, where the policy offers a composite with
-- the same paths in sequence and all directions equal, or all opposite.
use Rattle.std.specs.Prelude.{◌≡◌, List, [], ◌∷◌, map, not, if◌then◌else◌, ◌⊎◌}
use Rattle.std.specs.List.{Contains}
use Rattle.ax_mean.specs.declared.query.Order.{Order}
use Rattle.ax_policy.specs.declared.policy.Policy.{Policy}
use Rattle.ax_policy.specs.Covering.{Covers, indexes}

-- the composites that the policy offers
abbrev pub offered : Policy → List (List Order)
offered policy = if indexes policy then policy.composites else []

-- the same paths in sequence, and all directions equal or all opposite
abbrev pub Fits : List Order → List Order → Type 0
Fits composite orders =
    (map (λ part. part.path) composite ≡ map (λ order. order.path) orders)
    × ((map (λ part. part.down) composite ≡ map (λ order. order.down) orders)
    ⊎ (map (λ part. not part.down) composite ≡ map (λ order. order.down) orders))

abbrev pub Orderable : Policy → List Order → Type 0
Orderable policy [] = Unit {0}
Orderable policy (order ∷ []) = Covers policy order.path
Orderable policy (order ∷ next ∷ rest) =
    (composite : List Order) × Contains (offered policy) composite
    × Fits composite (order ∷ next ∷ rest)
