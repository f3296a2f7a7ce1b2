-- What is made so far, joined with what the operands left give, is the whole.
use Rattle.std.proofs.Common.{◌≡◌, ◌++◌, map, drop}
use Rattle.ax_mean.specs.Building.{defined_of, all_put}
use Rattle.ax_mean.specs.Logic.{and_of, or_of}
use Rattle.ax_mean.specs.Meaning.{meaning, chain, operated}
use Rattle.ax_mean.specs.Operators.{first_defined}
use Rattle.ax_eval.specs.Truths.{all_of, some_of, some_equal}
use Rattle.ax_eval.proofs.expression.+eval.Given as goal

abbrev pub invariant-coalesce_in-loop-item : goal.invariant-coalesce_in-loop-item
invariant-coalesce_in-loop-item l =
    chain first_defined (map (meaning l.scope) (drop l.item-index l.item-items))
    ≡ chain first_defined (map (meaning l.scope) l.item-items)

abbrev pub invariant-all_in-loop-item : goal.invariant-all_in-loop-item
invariant-all_in-loop-item l =
    and_of l.all (all_of (map (meaning l.scope) (drop l.item-index l.item-items)))
    ≡ all_of (map (meaning l.scope) l.item-items)

abbrev pub invariant-some_in-loop-item : goal.invariant-some_in-loop-item
invariant-some_in-loop-item l =
    or_of l.some (some_of (map (meaning l.scope) (drop l.item-index l.item-items)))
    ≡ some_of (map (meaning l.scope) l.item-items)

abbrev pub invariant-equal_in-loop-item : goal.invariant-equal_in-loop-item
invariant-equal_in-loop-item l =
    or_of l.equal (some_equal l.fn.left (map (meaning l.scope) (drop l.item-index l.item-items)))
    ≡ some_equal l.fn.left (map (meaning l.scope) l.item-items)

abbrev pub invariant-operated_in-loop-chained : goal.invariant-operated_in-loop-chained
invariant-operated_in-loop-chained l =
    operated l.value
    (map (λ c. record { op = c.op; operand = meaning l.scope c.operand })
    (drop l.chained-index l.chained-items))
    ≡ operated l.initial.value
    (map (λ c. record { op = c.op; operand = meaning l.scope c.operand }) l.chained-items)

abbrev pub invariant-values_in-loop-item : goal.invariant-values_in-loop-item
invariant-values_in-loop-item l =
    l.values.items ++ map (meaning l.scope) (drop l.item-index l.items)
    ≡ map (meaning l.scope) l.items

abbrev pub invariant-list_in-loop-item : goal.invariant-list_in-loop-item
invariant-list_in-loop-item l =
    l.trees.items ++ defined_of (map (meaning l.scope) (drop l.item-index l.items))
    ≡ defined_of (map (meaning l.scope) l.items)

abbrev pub invariant-object_in-loop-member : goal.invariant-object_in-loop-member
invariant-object_in-loop-member l =
    all_put l.made
    (map (λ m. record { name = m.name; value = meaning l.scope m.value })
    (drop l.member-index l.member-items))
    ≡ all_put l.initial.made
    (map (λ m. record { name = m.name; value = meaning l.scope m.value }) l.member-items)
