-- Conditions of which all leaves are covered, by the test and by what is so.
use Rattle.std.proofs.Common.{◌≡◌, List, [], ◌∷◌, ◌++◌, Bool, true, false, cond, Option, Some, None, refl, sym, ap, subst, ◌∙◌, arith}
use Rattle.std.specs.Prelude.{◌↔◌}
use Rattle.std.specs.List.{Contains, list_all, cons_option}
use Rattle.ax_mean.specs.declared.query.Step.{Step}
use Rattle.ax_term.specs.declared.range.TermRange.{TermRange}
use Rattle.ax_policy.specs.declared.policy.Policy.{Policy}
use Rattle.ax_policy.specs.Covering.{Covers}
use Rattle.ax_policy.specs.Deciding.{is_all_covered, is_covered}
use Rattle.ax_atoms.specs.Atoms.{Atom, rests_at, rests_on_all}
use Rattle.ax_atoms.specs.Passing.{IsAtOrBelow, IsCovered}
use Rattle.ax_atoms.specs.Spans.{ranges_of}
use Rattle.ax_container.specs.Container.{Container}
use Rattle.ax_needs.specs.Needs.{covers_all_of, is_usable, policies_of, union_of, unions_of}
use Rattle.ax_needs.specs.Read.{AreRead, IsRead}
use Rattle.ax_needs.proofs.Deciding.{all_covered, all_covered_is, covered, covers_is}
use Rattle.ax_needs.proofs.Lists.{all_pass, each_passes}
use Rattle.ax_needs.proofs.ReadRules.{AreInOrder, read_in_order}
use Rattle.ax_terms.proofs.Sequences.{contains_first, contains_later, none_in_nil}

module _ (policy : Policy) (at : List Step) where
  covered_there : (whole : Bool) → cond whole (is_all_covered policy at) (is_covered policy at) ≡ true
      → (path : List Step) → IsAtOrBelow whole at path → Covers policy path
  covered_there true told path below = subst (Covers policy) (sym below.1) (all_covered policy at told below.0)
  covered_there false told path same = subst (Covers policy) (sym same) (covered policy at told)

  told_there : (whole : Bool) → AreInOrder policy.rules
      → ((path : List Step) → IsAtOrBelow whole at path → Covers policy path)
      → cond whole (is_all_covered policy at) (is_covered policy at) ≡ true
  told_there true ordered covers = all_covered_is policy at ordered (λ more. covers (at ++ more) (more, refl))
  told_there false ordered covers = covers_is policy at (covers at refl)

pub condition_covered : (policy : Policy) (atom : Atom) → covers_all_of policy atom ≡ true → IsCovered policy atom
condition_covered policy atom told path rests = covered_there policy (rests_at atom) (rests_on_all atom) told path rests

pub condition_told : (policy : Policy) (atom : Atom) → IsRead policy → IsCovered policy atom
    → covers_all_of policy atom ≡ true
condition_told policy atom read covers =
    told_there policy (rests_at atom) (rests_on_all atom) (read_in_order read.0 policy read.1) covers

pub usable_covered : (container : Container) (atom : Atom) → is_usable container atom ≡ true
    → (policy : Policy) → Contains (policies_of container) policy → IsCovered policy atom
usable_covered container atom usable policy there =
    condition_covered policy atom (each_passes (λ p. covers_all_of p atom) (policies_of container) policy usable there)

pub usable_told : (container : Container) (atom : Atom) → AreRead container
    → ((policy : Policy) → Contains (policies_of container) policy → IsCovered policy atom)
    → is_usable container atom ≡ true
usable_told container atom read covers =
    all_pass (λ p. covers_all_of p atom) (policies_of container)
    (λ policy there. condition_told policy atom (read policy there) (covers policy there))
