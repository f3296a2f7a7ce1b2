-- The terms so far are those of the first composites.
use Rattle.std.proofs.Common.{◌≡◌, ◌++◌, map, take}
use Rattle.ax_policy.specs.Ordering.{offered}
use Rattle.ax_terms.specs.TermsOf.{composite_term_of}
use Rattle.ax_terms.proofs.composites.append_composites.Given as goal

abbrev pub invariant-loop-at : goal.invariant-loop-at
invariant-loop-at l =
    l.terms.items
    ≡ l.fn.terms.items ++ map (composite_term_of l.tree) (take l.at (offered l.policy))
