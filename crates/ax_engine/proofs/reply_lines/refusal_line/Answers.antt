-- Each text has the digits of its number.
use Rattle.std.proofs.Common.{◌∷◌, [], arith}
use Rattle.ax_lines.specs.declared.refusal.Refusal.TheVariants as refusal
use Rattle.ax_engine.proofs.Refusals.{digit, eleven, fifteen, ten, text_is}
use Rattle.ax_engine.proofs.reply_lines.refusal_line.Goals as goal

pub returns-in-Line : goal.returns-in-Line
returns-in-Line c = text_is c.args.refusal refusal.Line (49 ∷ []) c.in-Line.is (digit 1 (omega arith))

pub returns-in-Command : goal.returns-in-Command
returns-in-Command c = text_is c.args.refusal refusal.Command (50 ∷ []) c.in-Command.is (digit 2 (omega arith))

pub returns-in-Json : goal.returns-in-Json
returns-in-Json c = text_is c.args.refusal refusal.Json (51 ∷ []) c.in-Json.is (digit 3 (omega arith))

pub returns-in-Number : goal.returns-in-Number
returns-in-Number c = text_is c.args.refusal refusal.Number (52 ∷ []) c.in-Number.is (digit 4 (omega arith))

pub returns-in-Id : goal.returns-in-Id
returns-in-Id c = text_is c.args.refusal refusal.Id (53 ∷ []) c.in-Id.is (digit 5 (omega arith))

pub returns-in-Large : goal.returns-in-Large
returns-in-Large c = text_is c.args.refusal refusal.Large (54 ∷ []) c.in-Large.is (digit 6 (omega arith))

pub returns-in-Conflict : goal.returns-in-Conflict
returns-in-Conflict c = text_is c.args.refusal refusal.Conflict (55 ∷ []) c.in-Conflict.is (digit 7 (omega arith))

pub returns-in-Absent : goal.returns-in-Absent
returns-in-Absent c = text_is c.args.refusal refusal.Absent (56 ∷ []) c.in-Absent.is (digit 8 (omega arith))

pub returns-in-Query : goal.returns-in-Query
returns-in-Query c = text_is c.args.refusal refusal.Query (49 ∷ 48 ∷ []) c.in-Query.is ten

pub returns-in-Order : goal.returns-in-Order
returns-in-Order c = text_is c.args.refusal refusal.Order (49 ∷ 49 ∷ []) c.in-Order.is eleven

pub returns-in-Full : goal.returns-in-Full
returns-in-Full c = text_is c.args.refusal refusal.Full (49 ∷ 53 ∷ []) c.in-Full.is fifteen
