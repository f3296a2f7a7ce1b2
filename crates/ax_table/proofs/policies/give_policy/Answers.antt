use Rattle.std.proofs.Common.{sym, ◌∙◌}
use Rattle.std.proofs.lemmas.Result.{on_ok_weaker}
use Rattle.ax_table.proofs.ReadsLaws.{nothing_read}
use Rattle.ax_table.proofs.TableLaws.{given_before, given_now}
use Rattle.ax_table.proofs.policies.give_policy.Goals as goal

pub returns-then-has_policy-clause-gives : goal.returns-then-has_policy-clause-gives
returns-then-has_policy-clause-gives g c = given_before _ c.args.number _ c.args.table.now (sym c.has_policy.ensures ∙ c.if-has_policy.true)

pub returns-then-has_policy-clause-reads : goal.returns-then-has_policy-clause-reads
returns-then-has_policy-clause-reads g c = nothing_read g.C.PageCache.pages _ _ _ c.args.store.now _ _ c.requires.agrees (λ fails. fails)

pub returns-clause-gives : goal.returns-clause-gives
returns-clause-gives g c =
    on_ok_weaker c.put_policy.result (given_now _ c.args.number _ c.args.table.now c.put_policy.new.table c.requires.given) c.put_policy.ensures.puts
