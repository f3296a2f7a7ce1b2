use Rattle.std.proofs.Common.{◌++◌, ◌⊎◌, ◌≤◌, ◌<◌, length, arith, ap, sym, ◌∙◌, inl, inr}
use Rattle.std.proofs.lemmas.List.{take_rest}
use Rattle.std.proofs.lemmas.List.Elements.{All-from_get_or}
use Rattle.ax_gap.proofs.Rising.{rises}
use Rattle.ax_gap.proofs.Merging.{begin_merge, first_taken, second_taken, both_taken, pushed, without_of, without-first_less, without-second_less}
use Rattle.ax_gap.proofs.Merging.{without-both, without_end}
use Rattle.ax_gap.proofs.Members.{without_members, without_increases}
use Rattle.ax_gap.proofs.sets.without.Goals as goal
use Rattle.ax_gap.proofs.sets.without.Goals.{then-loop-i-test+else-j-b, else-loop-i-test}

pub loop-i-init : goal.loop-i-init
loop-i-init c =
    begin_merge without_of _ c.args.a.now c.args.b.now c.in_ok-kept.ensures.items
    (rises c.args.a.now (record {
      rising = c.requires.first;
      numbers =
          All-from_get_or (λ n. n < 4294967296) c.args.a.now 0 (λ i _. omega (arith, c.type_inv.a i));
    }))
    (rises c.args.b.now (record {
      rising = c.requires.second;
      numbers =
          All-from_get_or (λ n. n < 4294967296) c.args.b.now 0 (λ i _. omega (arith, c.type_inv.b i));
    }))

pub loop-i-preserved-then-x-y : goal.loop-i-preserved-then-x-y
loop-i-preserved-then-x-y c =
    first_taken without_of c.loop-i.kept.items _ c.args.a.now c.args.b.now c.loop-i.i c.loop-i.j c.loop-i.invariant (omega arith) (omega arith)
    (λ up vp. pushed c.loop-i.kept.items _ _ _ _ c.in_ok-push.ensures.items (without-first_less _ _ _ _ (omega arith) vp))

pub loop-i-preserved-then-y-x : goal.loop-i-preserved-then-y-x
loop-i-preserved-then-y-x c =
    second_taken without_of c.loop-i.kept.items _ c.args.a.now c.args.b.now c.loop-i.i c.loop-i.j c.loop-i.invariant (omega arith) (omega arith)
    (λ up vp. ap (λ l. c.loop-i.kept.items ++ l) (sym (without-second_less _ _ _ _ (omega arith) up)))

pub loop-i-preserved : goal.loop-i-preserved
loop-i-preserved c =
    both_taken without_of c.loop-i.kept.items _ c.args.a.now c.args.b.now c.loop-i.i c.loop-i.j c.loop-i.invariant (omega arith) (omega arith) (omega arith)
    (λ up. ap (λ l. c.loop-i.kept.items ++ l) (sym (without-both _ _ _ up)))

pub returns-clause-rising : goal.returns-clause-rising
returns-clause-rising c =
    let ended : (length c.args.a.now ≤ c.loop-i.i) ⊎ (length c.args.b.now ≤ c.loop-i.j) =
    elim c.loop-i-test.branch [ then-loop-i-test+else-j-b w ↦ inr (omega arith) | else-loop-i-test w ↦ inl (omega arith) ]
    in without_increases _ c.args.a.now c.args.b.now (c.in_ok-extend_from_slice.ensures.items
    ∙ ap (λ l. c.loop-i.kept.items ++ l) (take_rest c.args.a.now c.loop-i.i) ∙ without_end _ _ _ _ _ c.loop-i.invariant ended) c.requires.first

pub returns-clause-members : goal.returns-clause-members
returns-clause-members c =
    let ended : (length c.args.a.now ≤ c.loop-i.i) ⊎ (length c.args.b.now ≤ c.loop-i.j) =
    elim c.loop-i-test.branch [ then-loop-i-test+else-j-b w ↦ inr (omega arith) | else-loop-i-test w ↦ inl (omega arith) ]
    in without_members _ c.args.a.now c.args.b.now (c.in_ok-extend_from_slice.ensures.items
    ∙ ap (λ l. c.loop-i.kept.items ++ l) (take_rest c.args.a.now c.loop-i.i) ∙ without_end _ _ _ _ _ c.loop-i.invariant ended)
