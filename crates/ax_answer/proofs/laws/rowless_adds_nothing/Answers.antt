use Rattle.ax_answer.proofs.Rowless.{nothing_added}
use Rattle.ax_answer.proofs.laws.rowless_adds_nothing.Goals as goal

pub returns : goal.returns
returns c = λ answer query entries number tree no_envs no_rows gathers.
    nothing_added query entries number tree no_envs no_rows answer gathers
