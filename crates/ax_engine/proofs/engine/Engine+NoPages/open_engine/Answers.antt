-- What is opened has the documents of the container, and all that the images tell can be read.
use Rattle.std.proofs.Common.{refl}
use Rattle.ax_documents.proofs.Opened.{never_answered, passed_on}
use Rattle.ax_engine.proofs.engine.Engine+NoPages.open_engine.Goals as goal

pub returns-in-Ok-clause-holds : goal.returns-in-Ok-clause-holds
returns-in-Ok-clause-holds g c = λ honest before store. record {
  holds = record { unfaulted = refl; documents = c.in-Ok.ensures.holds honest before store };
  readable = c.in-Ok.ensures.readable honest before store;
}

pub returns-in-Ok-clause-damaged_root : goal.returns-in-Ok-clause-damaged_root
returns-in-Ok-clause-damaged_root g c = λ honest at damaged.
    never_answered c.in-Ok.documents _ _ (c.in-Ok.ensures.damaged_root honest at damaged)

pub returns-in-Ok-clause-newer : goal.returns-in-Ok-clause-newer
returns-in-Ok-clause-newer g c = λ honest version newer.
    never_answered c.in-Ok.documents _ _ (c.in-Ok.ensures.newer honest version newer)

pub returns-in-Err-clause-damaged_root : goal.returns-in-Err-clause-damaged_root
returns-in-Err-clause-damaged_root g c = λ honest at damaged.
    passed_on c.in-Err.fault _ (c.in-Err.ensures.damaged_root honest at damaged)

pub returns-in-Err-clause-newer : goal.returns-in-Err-clause-newer
returns-in-Err-clause-newer g c = λ honest version newer.
    passed_on c.in-Err.fault _ (c.in-Err.ensures.newer honest version newer)

pub returns-in-Ok-clause-begins : goal.returns-in-Ok-clause-begins
returns-in-Ok-clause-begins g c = λ honest. record { ids = c.in-Ok.ensures.empty; says = c.in-Ok.ensures.says honest }
