-- The names so far and those to come are the names of the whole map, which rise.
use Rattle.std.proofs.Common.{◌≡◌, ◌∷◌}
use Rattle.std.specs.Vec.Iter.{into_iter_items}
use Rattle.std.proofs.lemmas.Map.Iter.{rest_more}
use Rattle.ax_tree.specs.declared.members.Member.{Member}
use Rattle.ax_tree.specs.declared.tree.Tree.{Tree}
use Rattle.ax_text.proofs.Joined.{items-more, members-more, names-more, names-rise}
use Rattle.ax_text.proofs.read.+read.Goals as goal

pub items_from-loop-value-preserved : goal.items_from-loop-value-preserved
items_from-loop-value-preserved t c =
    let remaining : into_iter_items c.loop-value.value-iterator
    ≡ c.in-Some.value ∷ into_iter_items c.next.new.self
    = c.in-Some.ensures.steps.0 in
    record {
      next = tt;
      finite = tt;
      made =
          rw c.in_ok-push.ensures.items
          (items-more _ _ _ _ c.in-Some.value _ c.loop-value.invariant.made remaining
          c.in_ok-tree_from.ensures.tree);
    }

pub members_from-loop-name-preserved : goal.members_from-loop-name-preserved
members_from-loop-name-preserved t c =
    let remaining : c.loop-name.name-iterator ≡ (c.in-Some.name, c.in-Some.value) ∷ c.next.new.self
    = rest_more (λ x. x) _ _ _ _ c.in-Some.is c.next.ensures.steps in
    let last : Member Tree =
    record { name = c.from_string-name.result; value = c.in_ok-value.value } in
    record {
      next = tt;
      finite = tt;
      made =
          rw c.in_ok-push.ensures.items
          (members-more _ _ _ _ _ _ last c.loop-name.invariant.made remaining
          c.from_string-name.ensures c.in_ok-value.ensures.tree);
      names =
          rw c.in_ok-push.ensures.items
          (names-more _ _ _ _ _ _ last c.loop-name.invariant.names remaining
          c.from_string-name.ensures);
    }

pub members_from-from_vec-requires : goal.members_from-from_vec-requires
members_from-from_vec-requires t c =
    names-rise _ _ _ c.loop-name.invariant.names c.in-None.ensures.steps.0 c.len.ensures.ordered
