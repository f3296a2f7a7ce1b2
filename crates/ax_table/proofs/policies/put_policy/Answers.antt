use Rattle.ax_table.proofs.ReadsLaws.{read_only, same_fault}
use Rattle.ax_table.proofs.policies.put_policy.Goals as goal

pub returns-in-Err-clause-reads : goal.returns-in-Err-clause-reads
returns-in-Err-clause-reads g c = same_fault g.C.PageCache.pages _ _ _ _ _ _ _ _ _ c.in-Err.ensures.reads

pub returns-in-Ok-put-clause-puts : goal.returns-in-Ok-put-clause-puts
returns-in-Ok-put-clause-puts g c = record { policy = c.in-Ok.policy; is = c.in-Ok.ensures.policy; puts = c.in-Ok-put.ensures.ok }

pub returns-in-Ok-put-clause-reads : goal.returns-in-Ok-put-clause-reads
returns-in-Ok-put-clause-reads g c = read_only g.C.PageCache.pages _ _ _ _ _ _ _ _ _ _ c.in-Ok.ensures.reads (λ fails. fails)

pub returns-in-Err-put-clause-reads : goal.returns-in-Err-put-clause-reads
returns-in-Err-put-clause-reads g c = read_only g.C.PageCache.pages _ _ _ _ _ _ _ _ _ _ c.in-Ok.ensures.reads (λ fails. fails)
