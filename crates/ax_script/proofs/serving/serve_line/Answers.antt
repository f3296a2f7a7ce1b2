-- The line was answered, and its reply was written, or a prefix of it; of a READ line the engine has written it.
use Rattle.std.proofs.Common.{◌≡◌, Ok, ap, ◌∙◌}
use Rattle.ax_engine.specs.Course.{standing_of}
use Rattle.ax_engine.specs.Reading.{kept_of}
use Rattle.ax_lines.specs.Lines.{line_of}
use Rattle.ax_lines.specs.declared.line.Line.TheVariants as line
use Rattle.ax_script.proofs.AnsweredLines.{idle_durable, line_answered, line_broken, on_ok, read_answered, read_broken, works_durable}
use Rattle.ax_script.proofs.DiskCounts.{line_counted}
use Rattle.ax_script.proofs.ReadLines.{read_begun, read_served}
use Rattle.ax_script.proofs.Replying.{whole_of, part_of, sound_of, stops_of}
use Rattle.ax_script.proofs.serving.serve_line.Goals as goal

pub returns-in_default-clause-whole : goal.returns-in_default-clause-whole
returns-in_default-clause-whole g c = λ honest before holds.
    whole_of g.C.PageCache.pages _ before c.args.line.now c.answer-answered.new.engine _ _ _ _ _ _ c.write_answer.result
    c.answer-answered.result (c.answer-answered.ensures.tells honest before holds) c.answer-answered.ensures.works
    (c.answer-answered.ensures.bound honest before holds.holds) c.write_answer.ensures.whole

pub returns-in_default-clause-prefix : goal.returns-in_default-clause-prefix
returns-in_default-clause-prefix g c = λ honest before holds.
    part_of g.C.PageCache.pages _ before c.args.line.now c.answer-answered.new.engine _ _ _ _ _ _ c.write_answer.result
    c.answer-answered.result (c.answer-answered.ensures.tells honest before holds) c.answer-answered.ensures.works
    (c.answer-answered.ensures.bound honest before holds.holds) c.write_answer.ensures.prefix

pub returns-in_default-clause-sound : goal.returns-in_default-clause-sound
returns-in_default-clause-sound g c = λ honest before holds.
    sound_of _ before c.args.line.now c.answer-answered.new.engine _ _ c.write_answer.result c.answer-answered.result
    (c.answer-answered.ensures.tells honest before holds) c.write_answer.ensures.only c.write_answer.ensures.damage

pub returns-in_default-clause-stops : goal.returns-in_default-clause-stops
returns-in_default-clause-stops g c = λ unfaulted.
    stops_of _ _ c.write_answer.result c.answer-answered.result c.write_answer.ensures.only c.write_answer.ensures.damage
    (λ honest. c.answer-answered.ensures.met honest unfaulted)

pub returns-in_default-clause-again : goal.returns-in_default-clause-again
returns-in_default-clause-again g c = λ fault kept.
    let before = c.answer-answered.ensures.again fault kept in
    let told = c.write_answer.ensures.fault fault before.0 in
    (told.0, before.1, before.2, told.1, before.3)

pub returns-in_default-clause-answered : goal.returns-in_default-clause-answered
returns-in_default-clause-answered g c =
    line_answered (g.D.Disk.is_honest c.args.disk.now) c.args.line.now (standing_of c.args.engine.now.documents)
    (standing_of c.answer-answered.new.engine.documents) c.write_answer.result c.answer-answered.result _ _
    c.answer-answered.ensures.answers c.write_answer.ensures.whole

pub returns-in_default-clause-disk_counted : goal.returns-in_default-clause-disk_counted
returns-in_default-clause-disk_counted g c = λ unfaulted.
    line_counted c.write_answer.result c.answer-answered.result _ _ c.write_answer.ensures.disk_cause
    (λ why is. (c.write_answer.ensures.fault why is).0) (c.answer-answered.ensures.counted unfaulted)

pub returns-in-Ok-Read-clause-whole : goal.returns-in-Ok-Read-clause-whole
returns-in-Ok-Read-clause-whole g c = λ honest before holds.
    let asked : line_of c.args.line.now ≡ Ok (line.Read c.in-Ok-Read.id) =
    c.in-Ok-Read.ensures.answers ∙ ap (λ a. Ok a) c.in-Ok-Read.field-0-is in
    read_served g.C.PageCache.pages (g.D.Disk.is_honest c.args.disk.now) before c.args.line.now c.in-Ok-Read.id c.read_into.new.self
    (g.K.Sink.written c.args.sink.now) (g.K.Sink.written c.read_into.new.sink)
    (g.D.Disk.history c.args.disk.now (g.D.Disk.attached c.args.disk.now))
    (g.D.Disk.history c.read_into.new.disk (g.D.Disk.attached c.read_into.new.disk)) c.args.steps.now c.read_into.new.steps
    c.status_of_read.result c.read_into.result c.status_of_read.ensures asked (c.read_into.ensures.applies honest before holds)
    c.read_into.ensures.works (c.read_into.ensures.bound honest before holds.holds)

pub returns-in-Ok-Read-clause-prefix : goal.returns-in-Ok-Read-clause-prefix
returns-in-Ok-Read-clause-prefix g c = λ honest before holds.
    let asked : line_of c.args.line.now ≡ Ok (line.Read c.in-Ok-Read.id) =
    c.in-Ok-Read.ensures.answers ∙ ap (λ a. Ok a) c.in-Ok-Read.field-0-is in
    read_begun g.C.PageCache.pages (g.D.Disk.is_honest c.args.disk.now) before c.args.line.now c.in-Ok-Read.id c.read_into.new.self
    (g.K.Sink.written c.args.sink.now) (g.K.Sink.written c.read_into.new.sink)
    (g.D.Disk.history c.args.disk.now (g.D.Disk.attached c.args.disk.now))
    (g.D.Disk.history c.read_into.new.disk (g.D.Disk.attached c.read_into.new.disk)) c.args.steps.now c.read_into.new.steps
    c.status_of_read.result c.read_into.result c.status_of_read.ensures asked (c.read_into.ensures.applies honest before holds)
    c.read_into.ensures.works (c.read_into.ensures.bound honest before holds.holds)

pub returns-in_default-clause-broken : goal.returns-in_default-clause-broken
returns-in_default-clause-broken g c = λ unfaulted.
    let honest = g.D.Disk.is_honest c.args.disk.now in
    let before = g.D.Disk.history c.args.disk.now (g.D.Disk.attached c.args.disk.now) in
    let after = g.D.Disk.history c.answer-answered.new.disk (g.D.Disk.attached c.answer-answered.new.disk) in
    let was = standing_of c.args.engine.now.documents in
    line_broken honest c.args.line.now was
    (standing_of c.answer-answered.new.engine.documents) c.write_answer.result c.answer-answered.result _ _
    c.answer-answered.ensures.answers c.write_answer.ensures.prefix c.write_answer.ensures.only c.write_answer.ensures.disk_cause
    c.write_answer.ensures.damage (λ why is. (c.write_answer.ensures.fault why is).0) c.answer-answered.ensures.no_sink after
    (λ made is. works_durable g.C.PageCache.pages honest c.answer-answered.new.engine after c.answer-answered.ensures.works
    (on_ok c.answer-answered.result _ made is c.answer-answered.ensures.unfaulted ∙ unfaulted))
    (λ extent at is. idle_durable honest was before after (λ trusted. c.answer-answered.ensures.lists trusted unfaulted extent at is)
    (works_durable g.C.PageCache.pages honest c.args.engine.now before c.requires.works unfaulted))

pub returns-in-Ok-Read-clause-broken : goal.returns-in-Ok-Read-clause-broken
returns-in-Ok-Read-clause-broken g c = λ unfaulted.
    let honest = g.D.Disk.is_honest c.args.disk.now in
    let before = g.D.Disk.history c.args.disk.now (g.D.Disk.attached c.args.disk.now) in
    let after = g.D.Disk.history c.read_into.new.disk (g.D.Disk.attached c.read_into.new.disk) in
    let was = standing_of c.args.engine.now.documents in
    let asked : line_of c.args.line.now ≡ Ok (line.Read c.in-Ok-Read.id) =
    c.in-Ok-Read.ensures.answers ∙ ap (λ a. Ok a) c.in-Ok-Read.field-0-is in
    read_broken honest c.args.line.now was
    (standing_of c.read_into.new.self.documents) after c.in-Ok-Read.id c.status_of_read.result c.read_into.result _ _
    c.status_of_read.ensures asked c.read_into.ensures.course
    (λ is. works_durable g.C.PageCache.pages honest c.read_into.new.self after c.read_into.ensures.works
    (c.read_into.ensures.kept ∙ ap kept_of is))
    (λ extent at is. idle_durable honest was before after c.read_into.ensures.lists
    (works_durable g.C.PageCache.pages honest c.args.engine.now before c.requires.works unfaulted))

pub returns-in-Ok-Read-clause-answered : goal.returns-in-Ok-Read-clause-answered
returns-in-Ok-Read-clause-answered g c =
    let asked : line_of c.args.line.now ≡ Ok (line.Read c.in-Ok-Read.id) =
    c.in-Ok-Read.ensures.answers ∙ ap (λ a. Ok a) c.in-Ok-Read.field-0-is in
    read_answered (g.D.Disk.is_honest c.args.disk.now) c.args.line.now (standing_of c.args.engine.now.documents)
    (standing_of c.read_into.new.self.documents) c.in-Ok-Read.id c.status_of_read.result c.read_into.result _ _
    c.status_of_read.ensures asked c.read_into.ensures.course
