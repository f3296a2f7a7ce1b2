use Rattle.std.proofs.Common.{◌∙◌, sym}
use Rattle.ax_cache.proofs.LruLemmas.{put_in, put_not, put_keeps}
use Rattle.ax_cache.proofs.lru_pages.LruPages.put_owned.Goals as goal

pub invariant_of-self : goal.invariant_of-self
invariant_of-self c = record {
  few = (put_keeps c.put-put.result c.args.self.now.pages c.put-put.new.self c.args.key c.args.payload c.len-before.ensures.valid c.put-put.ensures.entries
      c.put-put.ensures.err).0;
}

pub returns-clause-put : goal.returns-clause-put
returns-clause-put c = λ is.
    put_in (λ payload. payload.items) c.put-put.result c.args.self.now.pages c.put-put.new.self c.args.key c.args.payload c.len-before.ensures.valid
    c.put-put.ensures.entries (sym c.is_ok.ensures.value ∙ is)

pub returns-clause-refused : goal.returns-clause-refused
returns-clause-refused c = λ no.
    put_not (λ payload. payload.items) c.put-put.result c.args.self.now.pages c.put-put.new.self c.args.key c.put-put.ensures.err c.put-put.ensures.succeeds
    (sym c.is_ok.ensures.value ∙ no)
