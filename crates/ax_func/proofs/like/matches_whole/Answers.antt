-- What is left decides, by the pattern's first character.
use Rattle.std.proofs.Common.{◌∙◌, sym, ap, ap₂, ◌&&◌, rules}
use Rattle.std.specs.Str.{chars}
use Rattle.ax_mean.specs.Like.{matches}
use Rattle.ax_func.proofs.Characters.{is_end-chars}
use Rattle.ax_func.proofs.LikeLemmas.{at_percent, at_other}
use Rattle.ax_func.proofs.like.matches_whole.Goals as goal

pub returns-then-wanted-eq37 : goal.returns-then-wanted-eq37
returns-then-wanted-eq37 c =
    let text = chars c.loop-wanted.text_left.now in
    c.matches_somewhere.ensures
    ∙ sym
    (ap (λ m. m text)
    (at_percent c.in-Some.wanted (chars c.in-Some.pattern_rest.now) c.if-wanted-eq37.true))
    ∙ sym (ap (λ l. matches l text) c.in-Some.ensures.0)
    ∙ sym c.loop-wanted.invariant.2

pub returns-in_default-first : goal.returns-in_default-first
returns-in_default-first c =
    sym
    (ap₂ (λ m l. m l)
    (ap matches c.in-Some.ensures.0
    ∙ at_other c.in-Some.wanted (chars c.in-Some.pattern_rest.now) c.if-wanted-eq37.false)
    c.in_default-first.ensures)
    ∙ sym c.loop-wanted.invariant.2

pub returns-then-not-fits : goal.returns-then-not-fits
returns-then-not-fits c =
    let rest = chars c.in-Some.pattern_rest.now in
    ap (λ b. b && matches rest (chars c.in-Some-first.text_rest.now)) c.if-not-fits.ensures
    ∙ sym
    (ap₂ (λ m l. m l)
    (ap matches c.in-Some.ensures.0 ∙ at_other c.in-Some.wanted rest c.if-wanted-eq37.false)
    c.in-Some-first.ensures.0)
    ∙ sym c.loop-wanted.invariant.2

pub loop-wanted-preserved : goal.loop-wanted-preserved
loop-wanted-preserved c =
    let rest = chars c.in-Some.pattern_rest.now in (
      search rules,
      search rules,
      c.loop-wanted.invariant.2
          ∙ ap₂ (λ m l. m l)
          (ap matches c.in-Some.ensures.0 ∙ at_other c.in-Some.wanted rest c.if-wanted-eq37.false)
          c.in-Some-first.ensures.0
          ∙ sym
          (ap (λ b. b && matches rest (chars c.in-Some-first.text_rest.now)) c.if-not-fits.ensures),
    )

pub returns : goal.returns
returns c =
    let text = c.loop-wanted.text_left.now in
    c.is_empty.ensures
    ∙ sym (is_end-chars text c.loop-wanted.invariant.0)
    ∙ sym (ap (λ l. matches l (chars text)) c.in_default.ensures)
    ∙ sym c.loop-wanted.invariant.2
