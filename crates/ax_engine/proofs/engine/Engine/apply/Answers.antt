-- The answer of the documents is that of the engine, which keeps a fault.
use Rattle.ax_engine.proofs.Applying.{applies_told, works_unless}
use Rattle.ax_engine.proofs.ReadingInto.{no_sink_answered, no_sink_kept}
use Rattle.ax_engine.proofs.engine.Engine.apply.Goals as goal

pub returns-clause-applies : goal.returns-clause-applies
returns-clause-applies g c = λ honest before over.
    applies_told _ before _ c.answer-answered.result _ _ _ c.kept_fault-self.ensures.none
    (c.answer-answered.ensures.tells honest over.readable before over.holds.documents)
    (c.answer-answered.ensures.readable honest before over.holds.documents over.readable)

pub returns-clause-works : goal.returns-clause-works
returns-clause-works g c = record {
  documents = λ none.
      works_unless c.answer-answered.result c.kept_fault-self.result _ c.answer-answered.ensures.works c.kept_fault-self.ensures.fault none;
  no_sink = no_sink_kept c.answer-answered.result c.kept_fault-self.result _ _ c.answer-answered.ensures.counted
      c.kept_fault-self.ensures.fault c.kept_fault-self.ensures.none;
}

pub returns-clause-no_sink : goal.returns-clause-no_sink
returns-clause-no_sink g c = no_sink_answered c.answer-answered.result _ _ c.answer-answered.ensures.counted
