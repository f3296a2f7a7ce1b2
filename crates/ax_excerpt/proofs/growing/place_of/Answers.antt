-- The closure compares a part's name with the name.
use Rattle.std.proofs.Common.{rules, arith, get_or}
use Rattle.std.specs.Cmp.Lexicographic.{slice_cmp}
use Rattle.std.specs.Ordering.{nat_cmp}
use Rattle.std.proofs.lemmas.Fn.{always_returns_same}
use Rattle.ax_tree.specs.declared.members.Member.{Member}
use Rattle.ax_excerpt.specs.declared.excerpt.Excerpt.{Excerpt}
use Rattle.ax_excerpt.proofs.RisingParts.{no_fall, new_room, same_from_Equal}
use Rattle.ax_excerpt.proofs.growing.place_of.Goals as goal

pub returns-in-Err-clause-absent : goal.returns-in-Err-clause-absent
returns-in-Err-clause-absent c =
    let sides = c.in-Err.ensures.position
    (λ (y : Member Excerpt). slice_cmp nat_cmp y.name c.args.name.now)
    (always_returns_same _ _ _ (λ a r f k. search rules))
    (no_fall c.args.parts.now c.args.name.now c.requires) in
    new_room c.args.parts.now c.args.name.now c.in-Err.at c.requires c.in-Err.ensures.bound
    (λ k d l h. sides.0 k d (omega arith) l) sides.1

pub returns-in-Ok-clause-same : goal.returns-in-Ok-clause-same
returns-in-Ok-clause-same c = λ d.
    same_from_Equal (get_or c.args.parts.now c.in-Ok.at d).name c.args.name.now
    (c.in-Ok.ensures.position
    (λ (y : Member Excerpt). slice_cmp nat_cmp y.name c.args.name.now)
    (always_returns_same _ _ _ (λ a r f k. search rules)) d)
