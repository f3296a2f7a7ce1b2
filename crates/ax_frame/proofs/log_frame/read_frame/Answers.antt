use Rattle.std.proofs.Common.{refl}
use Rattle.ax_frame.proofs.Parts.{are_parts_seen}
use Rattle.ax_frame.proofs.Frames.{frame_found, frame_only, frame_spans_parts, frame_is_body}
use Rattle.ax_frame.proofs.log_frame.read_frame.Goals as goal

pub returns-in_default-clause-only : goal.returns-in_default-clause-only
returns-in_default-clause-only c = frame_is_body c.args.bytes.now c.in_default.ensures.none

pub returns-in_default-clause-none : goal.returns-in_default-clause-none
returns-in_default-clause-none c = frame_is_body c.args.bytes.now c.in_default.ensures.none

pub returns-then-not-are_parts-clause-only : goal.returns-then-not-are_parts-clause-only
returns-then-not-are_parts-clause-only c ps rest begins =
    let no = c.if-not-are_parts.ensures.no (frame_spans_parts c.args.bytes.now c.in-Some.body.now c.in-Some.rest.now ps rest c.in-Some.ensures.fits.1 c.in-Some.ensures.found begins) in
    cc

pub returns-then-not-are_parts-clause-none : goal.returns-then-not-are_parts-clause-none
returns-then-not-are_parts-clause-none c = returns-then-not-are_parts-clause-only c

pub invariant_of-result : goal.invariant_of-result
invariant_of-result c = are_parts_seen c.in-Some.body.now (c.if-not-are_parts.ensures.yes refl)

pub returns-clause-found : goal.returns-clause-found
returns-clause-found c =
    (c.in-Some.rest.now, frame_found c.args.bytes.now c.in-Some.body.now c.in-Some.rest.now c.in-Some.ensures.fits.0 c.in-Some.ensures.fits.1 c.in-Some.ensures.found (c.if-not-are_parts.ensures.yes refl))

pub returns-clause-only : goal.returns-clause-only
returns-clause-only c ps rest begins =
    frame_only c.args.bytes.now c.in-Some.body.now c.in-Some.rest.now ps rest c.in-Some.ensures.fits.1 c.in-Some.ensures.found begins
