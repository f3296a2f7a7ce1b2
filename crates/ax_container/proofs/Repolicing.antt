-- When another policy is refused, and what one that is taken leads to.
use Rattle.std.proofs.Common.{◌≡◌, ℕ, ◌<◌, ◌≤◌, length, Bool, true, false, cond, Result, Ok, Err, refl, sym, ap, subst, arith}
use Rattle.std.proofs.lemmas.Bool.{le-leb, lt-leb}
use Rattle.ax_policy.specs.declared.policy.Policy.{Policy}
use Rattle.ax_container.specs.Container.{Container, IsSound}
use Rattle.ax_container.specs.Reindexing.{PolicyRefusal, Policies, is_crowded, most_others, others_in_use, repoliced, with_policy}
use Rattle.ax_container.proofs.Soundness.{sound_with_policy}

abbrev taken : Policy → Container → Result Container PolicyRefusal
taken policy c = Ok (with_policy policy c)

abbrev refused : Result Container PolicyRefusal
refused = Err Policies

pub crowded : (policy : Policy) (c : Container) → most_others ≤ length (others_in_use policy c) → repoliced policy c ≡ Err Policies
crowded policy c many = ap (λ b. cond b refused (taken policy c)) (le-leb most_others (length (others_in_use policy c)) many)

pub spacious : (policy : Policy) (c : Container) → length (others_in_use policy c) < most_others
    → repoliced policy c ≡ Ok (with_policy policy c)
spacious policy c few = ap (λ b. cond b refused (taken policy c)) (lt-leb most_others (length (others_in_use policy c)) few)

abbrev done : Container → Result Container PolicyRefusal
done c = Ok c

by_test : (test : Bool) (made after : Container) → cond test refused (done made) ≡ done after → after ≡ made
by_test true made after is = absurd cc
by_test false made after is = cc is

pub changed : (policy : Policy) (before after : Container) → IsSound before → repoliced policy before ≡ Ok after
    → (after ≡ with_policy policy before) × IsSound after
changed policy before after sound is =
    let same : after ≡ with_policy policy before = by_test (is_crowded policy before) (with_policy policy before) after is in
    (same, subst IsSound (sym same) (sound_with_policy policy before sound))
