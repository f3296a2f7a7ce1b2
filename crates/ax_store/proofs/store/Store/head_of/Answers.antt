use Rattle.std.proofs.Common.{rules, ◌≡◌, ℕ, List, Some, option_map, slice_index, ap, ◌∙◌}
use Rattle.std.specs.FinMap as map
use Rattle.ax_store.specs.Store.{store_parts}
use Rattle.ax_store.specs.declared.reads.Head.{Head}
use Rattle.ax_store.proofs.Saying.{policy_says}
use Rattle.ax_store.proofs.store.Store.head_of.Goals as goal

pub returns-in_err-part-clause-policy : goal.returns-in_err-part-clause-policy
returns-in_err-part-clause-policy g c =
    let payload : option_map (λ (head : Head). head.policy) c.from_residual.result
    ≡ option_map (λ (payload : List ℕ). slice_index payload 0) (map.get (store_parts c.args.self.now).documents c.args.number) = search rules in
    payload ∙ policy_says (store_parts c.args.self.now) c.args.number

pub returns-clause-policy : goal.returns-clause-policy
returns-clause-policy g c =
    ap (λ (policy : ℕ). Some policy) c.in_ok-part.part.now.begins
    ∙ ap (option_map (λ (payload : List ℕ). slice_index payload 0)) c.in_ok-part.ensures.payload
    ∙ policy_says (store_parts c.args.self.now) c.args.number
