-- A source and a sink at a time: what the source has remaining, what the sink was given, and how many
-- steps of work were counted. A source or a sink that does not tell its bytes has `None` there, and
-- nothing is said of them.
use Rattle.std.specs.Prelude.{ℕ, List, Option}
use Rattle.std.specs.Io.KnownBytes.{Consumes, Appends}
use Rattle.ax_disk.specs.model.Moments.{History}

pub record Streams : Type 0 where
  pub remaining : Option (List ℕ)
  pub written : Option (List ℕ)
  pub steps : ℕ

-- from the one time to the other these bytes were taken from the source, and this text was written
pub record Moves (old new : Streams) (taken text : List ℕ) : Type 0 where
  pub consumed : Consumes old.remaining new.remaining taken
  pub appended : Appends old.written new.written text

-- a sink, a store on a disk and the count of steps at a time
pub record Outlets : Type 1 where
  pub written : Option (List ℕ)
  pub history : History
  pub steps : ℕ
