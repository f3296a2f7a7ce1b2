-- Each turn of the loop, by the lemma that it is.
use Rattle.std.proofs.Common.{◌≡◌, ◌∙◌, sym, ap, rules, false}
use Rattle.ax_mean.specs.Like.{matches}
use Rattle.std.specs.Str.{chars}
use Rattle.ax_func.proofs.Characters.{is_end-chars}
use Rattle.ax_func.proofs.LikeLemmas.{past_percent, past_character, at_text_end, at_both_ends, misfits, back, nowhere}
use Rattle.ax_func.proofs.like.matches_by_characters.Goals.{in-Some+in-Some-first+else-fits, in-None+else-is_empty}
use Rattle.ax_func.proofs.like.matches_by_characters.Goals as goal

pub loop-pattern_rest-preserved-in-Some-eq37-default :
    goal.loop-pattern_rest-preserved-in-Some-eq37-default
loop-pattern_rest-preserved-in-Some-eq37-default c =
    let s = c.in-Some-eq37-default in
    let l = c.loop-pattern_rest in (
      search rules,
      search rules,
      search rules,
      search rules,
      past_percent l.invariant.4 s.field-0-0 (chars s.pattern_rest.now) s.ensures.0
          s.field-0-0-test,
      search rules,
      search rules,
      search rules,
    )

pub returns-in_default : goal.returns-in_default
returns-in_default c =
    let s = c.in-Some in
    let l = c.loop-pattern_rest in
    sym
    (at_text_end l.invariant.4 s.wanted (chars s.pattern_rest.now) s.ensures.0 s.wanted-test.1
    c.in_default.ensures)

pub loop-pattern_rest-preserved-then-fits : goal.loop-pattern_rest-preserved-then-fits
loop-pattern_rest-preserved-then-fits c =
    let s = c.in-Some in
    let t = c.in-Some-first in
    let l = c.loop-pattern_rest in (
      search rules,
      search rules,
      search rules,
      search rules,
      past_character l.invariant.4 s.wanted (chars s.pattern_rest.now) t.found
          (chars t.text_rest.now) s.ensures.0 s.wanted-test.1 t.ensures.0 (sym c.if-fits.ensures),
      search rules,
      search rules,
      search rules,
    )

pub returns-then-is_empty : goal.returns-then-is_empty
returns-then-is_empty c =
    let l = c.loop-pattern_rest in
    sym
    (at_both_ends l.invariant.4 c.in-None.ensures
    (is_end-chars l.text_left.now l.invariant.2 ∙ sym c.if-is_empty.ensures))

pub returns-in_default-first : goal.returns-in_default-first
returns-in_default-first c =
    let l = c.loop-pattern_rest in
    let fails : matches (chars l.pattern_left.now) (chars l.text_left.now) ≡ false =
    elim c.match-first.branch [
      | in-Some+in-Some-first+else-fits w ↦ misfits l.invariant.4 w.in-Some.wanted
          (chars w.in-Some.pattern_rest.now) w.in-Some-first.found
          (chars w.in-Some-first.text_rest.now) w.in-Some.ensures.0 w.in-Some.wanted-test.1
          w.in-Some-first.ensures.0 (sym w.if-fits.ensures)
      | in-None+else-is_empty w ↦ ap (λ p. matches p (chars l.text_left.now)) w.in-None.ensures
          ∙ is_end-chars l.text_left.now l.invariant.2 ∙ sym w.if-is_empty.ensures
    ] in
    sym (nowhere l.invariant.4 fails c.in_default-first.ensures)

pub loop-pattern_rest-preserved : goal.loop-pattern_rest-preserved
loop-pattern_rest-preserved c =
    let l = c.loop-pattern_rest in
    let s = c.in-Some-first-2 in
    let fails : matches (chars l.pattern_left.now) (chars l.text_left.now) ≡ false =
    elim c.match-first.branch [
      | in-Some+in-Some-first+else-fits w ↦ misfits l.invariant.4 w.in-Some.wanted
          (chars w.in-Some.pattern_rest.now) w.in-Some-first.found
          (chars w.in-Some-first.text_rest.now) w.in-Some.ensures.0 w.in-Some.wanted-test.1
          w.in-Some-first.ensures.0 (sym w.if-fits.ensures)
      | in-None+else-is_empty w ↦ ap (λ p. matches p (chars l.text_left.now)) w.in-None.ensures
          ∙ is_end-chars l.text_left.now l.invariant.2 ∙ sym w.if-is_empty.ensures
    ] in (
      search rules,
      search rules,
      search rules,
      search rules,
      back l.invariant.4 fails s.field-0-0 (chars s.text_rest.now) s.ensures.0,
      search rules,
      search rules,
      search rules,
    )
