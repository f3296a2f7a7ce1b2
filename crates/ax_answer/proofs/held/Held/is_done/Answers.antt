-- Where the front is full, what follows changes nothing of it, and there are enough rows; where there are, it is full.
use Rattle.std.proofs.Common.{rules, sym, ◌∙◌}
use Rattle.ax_answer.specs.declared.held.Held.TheVariants.{Front}
use Rattle.ax_answer.proofs.Gathered.{done_with_enough, full_done, full_enough, seen_as}
use Rattle.ax_answer.proofs.held.Held.is_done.Goals as goal

pub returns-in-Front-clause-sound : goal.returns-in-Front-clause-sound
returns-in-Front-clause-sound c = λ full query entries more gathers.
    full_done c.args.self.now c.in-Front.front query entries more (search rules)
    (λ distinct skip limit some others holds.
    c.is_full.ensures.sound full distinct skip limit some others holds)
    gathers

pub returns-in-Front-clause-enough : goal.returns-in-Front-clause-enough
returns-in-Front-clause-enough c = λ query entries gathers enough.
    full_enough c.in-Front.front c.is_full.result query entries c.is_full.ensures.full
    (seen_as c.args.self.now (Front c.in-Front.front) query entries (search rules) gathers) enough

pub returns-in-Front-clause-only : goal.returns-in-Front-clause-only
returns-in-Front-clause-only c = λ full query entries gathers.
    done_with_enough c.args.self.now c.in-Front.front query entries (search rules)
    (sym c.is_full.ensures.reaches ∙ full) gathers
