use Rattle.std.proofs.Common.{◌∙◌, List, ℕ, ap}
use Rattle.ax_delta.specs.Changes.{changes_of}
use Rattle.ax_delta.specs.Reading.{changes_in}
use Rattle.ax_delta.proofs.Taking.{spells_list, nothing_with}
use Rattle.ax_delta.proofs.delta.Delta.changes.Goals as goal

pub reach-requires : goal.reach-requires
reach-requires c = spells_list c.new.result.items c.self.inside.list.now c.self.inside.count c.new.ensures.items c.self.invariant

pub returns-clause-all : goal.returns-clause-all
returns-clause-all c =
    c.in_ok-reach.ensures.same
    ∙ nothing_with c.new.result.items c.none.result c.none-2.result (changes_of (changes_in c.self.inside.count c.new.result.items c.self.inside.list.now))
    (record { first = c.none.ensures; second = c.none-2.ensures })
    ∙ ap (λ (t : List ℕ). changes_of (changes_in c.self.inside.count t c.self.inside.list.now)) c.new.ensures.items
    ∙ ap changes_of c.self.view_is
