use Rattle.std.proofs.Common.{rules}
use Rattle.ax_files.proofs.Begins.{begins}
use Rattle.ax_files.proofs.file_fault.ExplainedDisplay.fmt.Goals as goal

pub returns-in-Some-clause-begins : goal.returns-in-Some-clause-begins
returns-in-Some-clause-begins g c = λ plain _. begins _ _ _ _ _ plain (search rules) c.write_words.ensures

pub returns-in-None-clause-begins : goal.returns-in-None-clause-begins
returns-in-None-clause-begins g c = λ plain _. begins _ _ _ _ _ plain (search rules) c.write_words.ensures
