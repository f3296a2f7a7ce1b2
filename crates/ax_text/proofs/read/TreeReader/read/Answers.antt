-- What stands for a text is well formed and nests no deeper than a text may.
use Rattle.std.proofs.Common.{◌≡◌, ◌≤◌}
use Rattle.std.proofs.lemmas.Result.{IfOk-weaker}
use Rattle.ax_tree.specs.Nesting.{nesting}
use Rattle.ax_tree.specs.WellFormed.{IsWellFormed}
use Rattle.ax_text.specs.Reading.{Stands, reading}
use Rattle.ax_text.proofs.ReadTrees.{stands}
use Rattle.ax_text.proofs.read.TreeReader.read.Goals as goal

pub returns-in-Some-clause-nests : goal.returns-in-Some-clause-nests
returns-in-Some-clause-nests c = (stands c.args.bytes.now c.in-Some.tree c.in-Some.ensures).shallow

pub returns-in-Some-clause-well_formed : goal.returns-in-Some-clause-well_formed
returns-in-Some-clause-well_formed c =
    (stands c.args.bytes.now c.in-Some.tree c.in-Some.ensures).formed

pub returns-in-None-clause-nests : goal.returns-in-None-clause-nests
returns-in-None-clause-nests c =
    IfOk-weaker c.read_as_data.result (λ tree. reading c.args.bytes.now ≡ Stands tree)
    (λ tree. nesting tree ≤ 127)
    (λ tree read. (stands c.args.bytes.now tree read).shallow) c.read_as_data.ensures.tree

pub returns-in-None-clause-well_formed : goal.returns-in-None-clause-well_formed
returns-in-None-clause-well_formed c =
    IfOk-weaker c.read_as_data.result (λ tree. reading c.args.bytes.now ≡ Stands tree)
    (λ tree. IsWellFormed tree)
    (λ tree read. (stands c.args.bytes.now tree read).formed) c.read_as_data.ensures.tree
