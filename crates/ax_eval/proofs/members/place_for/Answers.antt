-- The closure compares a member's name with the name.
use Rattle.std.proofs.Common.{rules, arith}
use Rattle.std.specs.Cmp.Lexicographic.{slice_cmp}
use Rattle.std.specs.Ordering.{nat_cmp}
use Rattle.std.proofs.lemmas.Fn.{always_returns_same}
use Rattle.ax_tree.specs.declared.members.Member.{Member}
use Rattle.ax_tree.specs.declared.tree.Tree.{Tree}
use Rattle.ax_eval.proofs.Searching.{same_from_Equal, no_fall, put_where_found, put_where_free}
use Rattle.ax_eval.proofs.members.place_for.Goals as goal

pub returns-in-Ok : goal.returns-in-Ok
returns-in-Ok c = (
  c.in-Ok.ensures.bound,
  λ value. put_where_found c.args.name.now value c.args.members.now c.requires c.in-Ok.at
      c.in-Ok.ensures.bound
      (λ d. same_from_Equal _ c.args.name.now
      (c.in-Ok.ensures.position
      (λ (y : Member Tree). slice_cmp nat_cmp y.name c.args.name.now)
      (always_returns_same _ _ _ (λ a r f k. search rules)) d)),
)

pub returns-in-Err : goal.returns-in-Err
returns-in-Err c =
    let sides = c.in-Err.ensures.position
    (λ (y : Member Tree). slice_cmp nat_cmp y.name c.args.name.now)
    (always_returns_same _ _ _ (λ a r f k. search rules))
    (no_fall c.args.members.now c.args.name.now c.requires) in (
      c.in-Err.ensures.bound,
      λ value. put_where_free c.args.name.now value c.args.members.now c.in-Err.at
          c.in-Err.ensures.bound
          (λ k d l. sides.0 k d (omega arith) l)
          sides.1,
    )
