-- Counting documents in and out changes no policy of a table.
use Rattle.std.proofs.Common.{ℕ, refl, ◌∙◌}
use Rattle.ax_policy.specs.Table.{SetsCount, Table}
use Rattle.ax_write.specs.Writes.{SamePolicies}

pub same_policies : (table : Table) → SamePolicies table table
same_policies table = record { policies = λ number. refl; current = refl; moved = refl }

pub counted : (number count : ℕ) (old new : Table) → SetsCount number count old new → SamePolicies old new
counted number count old new sets = record { policies = sets.policies; current = sets.current; moved = sets.moved }

pub counted_twice : (number count other more : ℕ) (old between new : Table) → SetsCount number count old between
    → SetsCount other more between new → SamePolicies old new
counted_twice number count other more old between new first second = record {
  policies = λ n. second.policies n ∙ first.policies n;
  current = second.current ∙ first.current;
  moved = second.moved ∙ first.moved;
}
