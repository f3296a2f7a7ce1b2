use Rattle.std.proofs.Common.{◌≡◌, ℕ, List, Some, None, Bor, sym, ap, ◌∙◌}
use Rattle.std.specs.Option.{option_map}
use Rattle.ax_excerpt.specs.Excerpts.{excerpt_of}
use Rattle.ax_excerpt_text.proofs.ReadLaws.{map_read, part_here, plain_first, plain_named, loop_past, loop_on, never_none}
use Rattle.ax_excerpt_text.proofs.read.+excerpt.Goals as goal
use Rattle.ax_excerpt_text.proofs.read.+excerpt.Goals.{read_parts-in-Some+in-Ok-Some+in-Ok+in_ok-push, read_parts-in_default}

pub read_excerpt-returns-in_ok-found-in-Some-clause-given : goal.read_excerpt-returns-in_ok-found-in-Some-clause-given
read_excerpt-returns-in_ok-found-in-Some-clause-given t c =
    λ tree is readable. c.as_map.ensures
    ∙ map_read c.args.text.now c.in-Some.members.now _ c.in_ok-found-in-Some.found tree
    c.in-Some.ensures is readable c.in_ok-found-in-Some.ensures
    ∙ ap (λ e. Some (excerpt_of e tree)) (sym c.in-Part.is)

pub read_parts-look-looked-requires : goal.read_parts-look-looked-requires
read_parts-look-looked-requires t c =
    let here = part_here c.loop-part.part-index c.as_slice-part-items.result.now c.part-item.result
    c.loop-part-test.true c.part-item.is in
    record {
      plain = plain_named c.as_bytes.result.now c.part-item.result.name
          (c.as_bytes.ensures.value ∙ c.as_str.ensures.text)
          (plain_first _ c.part-item.result _ here c.loop-part.invariant.1);
    }

pub read_parts-returns-in-Ok-None : goal.read_parts-returns-in-Ok-None
read_parts-returns-in-Ok-None t c =
    let here = part_here c.loop-part.part-index c.as_slice-part-items.result.now c.part-item.result
    c.loop-part-test.true c.part-item.is in
    let none : c.in-Ok-None.field-0 ≡ None = cc in
    λ those is rising readable. absurd (never_none c.args.members.now c.loop-part.rest.now
    c.look-looked.result.rest.now c.args.parts.now _ _ c.part-item.result c.loop-part.found.items here
    c.loop-part.invariant _ c.as_bytes.result.now c.in-Some.text.now
    (ap (option_map (λ (x : Bor (List ℕ)). x.now)) c.in-Some.is)
    (c.as_bytes.ensures.value ∙ c.as_str.ensures.text) c.look-looked.ensures
    (λ t text_is own. sym none ∙ c.in-Ok-None.ensures.given t text_is own) those is rising readable)

pub read_parts-loop-part-preserved : goal.read_parts-loop-part-preserved
read_parts-loop-part-preserved t c =
    let here = part_here c.loop-part.part-index c.as_slice-part-items.result.now c.part-item.result
    c.loop-part-test.true c.part-item.is in
    elim c.match-looked.branch [
      | read_parts-in-Some+in-Ok-Some+in-Ok+in_ok-push w ↦
          let some : w.in-Ok-Some.field-0 ≡ Some w.in-Ok-Some.value = cc in
          loop_on c.args.members.now c.loop-part.rest.now c.look-looked.result.rest.now
          c.args.parts.now _ _ c.part-item.result c.loop-part.found.items here c.loop-part.invariant _
          c.as_bytes.result.now w.in-Some.text.now w.in-Ok-Some.value w.in-Ok.member
          c.match-looked.found.items
          (ap (option_map (λ (x : Bor (List ℕ)). x.now)) w.in-Some.is)
          (c.as_bytes.ensures.value ∙ c.as_str.ensures.text) c.look-looked.ensures
          (λ t text_is own. sym some ∙ w.in-Ok-Some.ensures.given t text_is own) w.in-Ok.ensures
          (ap (λ f. f.items) w.found-is ∙ w.in_ok-push.ensures.items)
      | read_parts-in_default w ↦
          loop_past c.args.members.now c.loop-part.rest.now c.look-looked.result.rest.now
          c.args.parts.now _ _ c.part-item.result c.loop-part.found.items here c.loop-part.invariant _
          c.as_bytes.result.now c.match-looked.found.items
          (ap (option_map (λ (x : Bor (List ℕ)). x.now)) w.in_default.is)
          (c.as_bytes.ensures.value ∙ c.as_str.ensures.text) c.look-looked.ensures
          (ap (λ f. f.items) w.found-is)
    ]
