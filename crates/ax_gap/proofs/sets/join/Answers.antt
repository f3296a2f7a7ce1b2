use Rattle.std.proofs.Common.{◌++◌, ◌⊎◌, ◌≤◌, ◌<◌, length, arith, ap, ◌∙◌, ◌≡◌, List, ℕ, refl, inl, inr}
use Rattle.std.proofs.lemmas.List.{take_rest}
use Rattle.std.proofs.lemmas.List.Elements.{All-from_get_or}
use Rattle.ax_gap.proofs.Rising.{rises}
use Rattle.ax_gap.proofs.Merging.{begin_merge, first_taken, second_taken, both_taken, pushed, join_of, join-first_less, join-second_less, join-both, join_end}
use Rattle.ax_gap.proofs.Members.{join_members, join_increases}
use Rattle.ax_gap.proofs.sets.join.Goals as goal
use Rattle.ax_gap.proofs.sets.join.Goals.{then-loop-i-test+else-j-b, else-loop-i-test}

pub loop-i-init : goal.loop-i-init
loop-i-init c =
    begin_merge join_of _ c.args.a.now c.args.b.now c.in_ok-all.ensures.items
    (rises c.args.a.now (record {
      rising = c.requires.first;
      numbers =
          All-from_get_or (λ n. n < 4294967296) c.args.a.now 0 (λ i _. omega (arith, c.type_inv.a i));
    }))
    (rises c.args.b.now (record {
      rising = c.requires.second;
      numbers =
          All-from_get_or (λ n. n < 4294967296) c.args.b.now 0 (λ i _. omega (arith, c.type_inv.b i));
    }))

pub loop-i-preserved-then-x-y : goal.loop-i-preserved-then-x-y
loop-i-preserved-then-x-y c =
    first_taken join_of c.loop-i.all.items _ c.args.a.now c.args.b.now c.loop-i.i c.loop-i.j c.loop-i.invariant (omega arith) (omega arith)
    (λ up vp. pushed c.loop-i.all.items _ _ _ _ c.in_ok-push.ensures.items (join-first_less _ _ _ _ (omega arith) up vp))

pub loop-i-preserved-then-y-x : goal.loop-i-preserved-then-y-x
loop-i-preserved-then-y-x c =
    second_taken join_of c.loop-i.all.items _ c.args.a.now c.args.b.now c.loop-i.i c.loop-i.j c.loop-i.invariant (omega arith) (omega arith)
    (λ up vp. pushed c.loop-i.all.items _ _ _ _ c.in_ok-push-2.ensures.items (join-second_less _ _ _ _ (omega arith) up))

pub loop-i-preserved : goal.loop-i-preserved
loop-i-preserved c =
    both_taken join_of c.loop-i.all.items _ c.args.a.now c.args.b.now c.loop-i.i c.loop-i.j c.loop-i.invariant (omega arith) (omega arith) (omega arith)
    (λ up. pushed c.loop-i.all.items _ _ _ _ c.in_ok-push-3.ensures.items (join-both _ _ _ up))

written : (out mid new xs ys : List ℕ) → mid ≡ out ++ xs → new ≡ mid ++ ys → new ≡ out ++ xs ++ ys
written out mid new xs ys e h = rw (h, e) refl

pub returns-clause-rising : goal.returns-clause-rising
returns-clause-rising c =
    let ended : (length c.args.a.now ≤ c.loop-i.i) ⊎ (length c.args.b.now ≤ c.loop-i.j) =
    elim c.loop-i-test.branch [ then-loop-i-test+else-j-b w ↦ inr (omega arith) | else-loop-i-test w ↦ inl (omega arith) ]
    in join_increases _ c.args.a.now c.args.b.now (written c.loop-i.all.items _ _ _ _
    (c.in_ok-extend_from_slice.ensures.items ∙ ap (λ l. c.loop-i.all.items ++ l) (take_rest c.args.a.now c.loop-i.i))
    (c.in_ok-extend_from_slice-2.ensures.items ∙ ap (λ l. c.extend_from_slice.new.self.items ++ l) (take_rest c.args.b.now c.loop-i.j))
    ∙ join_end _ _ _ _ _ c.loop-i.invariant ended)
    (rises c.args.a.now (record {
      rising = c.requires.first;
      numbers =
          All-from_get_or (λ n. n < 4294967296) c.args.a.now 0 (λ i _. omega (arith, c.type_inv.a i));
    }))
    (rises c.args.b.now (record {
      rising = c.requires.second;
      numbers =
          All-from_get_or (λ n. n < 4294967296) c.args.b.now 0 (λ i _. omega (arith, c.type_inv.b i));
    }))

pub returns-clause-members : goal.returns-clause-members
returns-clause-members c =
    let ended : (length c.args.a.now ≤ c.loop-i.i) ⊎ (length c.args.b.now ≤ c.loop-i.j) =
    elim c.loop-i-test.branch [ then-loop-i-test+else-j-b w ↦ inr (omega arith) | else-loop-i-test w ↦ inl (omega arith) ]
    in join_members _ c.args.a.now c.args.b.now (written c.loop-i.all.items _ _ _ _
    (c.in_ok-extend_from_slice.ensures.items ∙ ap (λ l. c.loop-i.all.items ++ l) (take_rest c.args.a.now c.loop-i.i))
    (c.in_ok-extend_from_slice-2.ensures.items ∙ ap (λ l. c.extend_from_slice.new.self.items ++ l) (take_rest c.args.b.now c.loop-i.j))
    ∙ join_end _ _ _ _ _ c.loop-i.invariant ended)
