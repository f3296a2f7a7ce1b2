use Rattle.ax_files.proofs.file_fault.Explained.write_words.Goals as goal

pub returns-in-Arealess : goal.returns-in-Arealess
returns-in-Arealess g c = rw (c.in-Arealess.is, ← c.ending-in-Arealess.ensures) c.write-in-Arealess.ensures.writes
