-- Each piece is written behind those before it.
use Rattle.std.proofs.Common.{List, ℕ, [], ◌∷◌, ◌++◌}
use Rattle.std.proofs.KnownBytes.{Appends-trans}
use Rattle.std.proofs.lemmas.Result.{err_from_is_err_and}
use Rattle.ax_engine.proofs.ReadingInto.{on_err, prefix_behind, prefix_of_first}
use Rattle.ax_engine.proofs.reply_lines.write_document.Goals as goal

-- the bytes before the text
abbrev head : List ℕ
head = 100 ∷ 111 ∷ 99 ∷ 32 ∷ []

pub returns-in_err-write_all-clause-failed : goal.returns-in_err-write_all-clause-failed
returns-in_err-write_all-clause-failed g c =
    let p = err_from_is_err_and c.from_residual.result c.from_residual.ensures.1 in rw p.1
    (prefix_of_first _ _ head (c.args.text.now ++ 10 ∷ []) c.in_err-write_all.ensures.failed)

pub returns-in_err-write_all-2-clause-failed : goal.returns-in_err-write_all-2-clause-failed
returns-in_err-write_all-2-clause-failed g c =
    let p = err_from_is_err_and c.from_residual-in_err-write_all-2.result c.from_residual-in_err-write_all-2.ensures.1 in rw p.1
    (prefix_of_first _ _ (head ++ c.args.text.now) (10 ∷ [])
    (prefix_behind _ _ _ head c.args.text.now c.in_ok-write_all.ensures.added c.in_err-write_all-2.ensures.failed))

pub returns-clause-failed : goal.returns-clause-failed
returns-clause-failed g c =
    on_err c.write_all-3.result (prefix_behind _ _ _ (head ++ c.args.text.now) (10 ∷ [])
    (Appends-trans _ _ _ head c.args.text.now c.in_ok-write_all.ensures.added c.in_ok-write_all-2.ensures.added))
    c.write_all-3.ensures.failed
