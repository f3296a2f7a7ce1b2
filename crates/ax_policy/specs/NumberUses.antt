-- What each number of a table is for a new policy, as one pass over the numbers finds it. No public
-- clause cites these words.
use Rattle.std.specs.Prelude.{ℕ, ◌+◌, List, Option, Some, None, nat_lt, if◌then◌else◌}
use Rattle.std.specs.List.{fold}
use Rattle.ax_policy.specs.declared.number_use.NumberUse.{NumberUse}
use Rattle.ax_policy.specs.declared.number_use.NumberUse.TheVariants.{Free, Same, Other, Idle}
use Rattle.ax_policy.specs.declared.number_use.NumbersFound.{NumbersFound}
use Rattle.ax_policy.specs.Paths.{either}
use Rattle.ax_policy.specs.Table.{Table, policy_at, is_taken, is_used, is_text_of, most_others}

-- for a policy of that normal text
abbrev pub use_of : List ℕ → Table → ℕ → NumberUse
use_of text table number =
    if is_taken table number
    then (if is_text_of text (policy_at table number) then Same
    else if is_used table number then Other else Idle)
    else Free

abbrev pub with_use : NumbersFound → ℕ → NumberUse → NumbersFound
with_use found number Free = record { others = found.others; same = found.same; free = either found.free (Some number) }
with_use found number Same = record { others = found.others; same = either found.same (Some number); free = found.free }
with_use found number Other = record { others = found.others + 1; same = found.same; free = found.free }
with_use found number Idle = found

abbrev pub with_uses : List ℕ → Table → NumbersFound → List ℕ → NumbersFound
with_uses text table found rest =
    fold (λ so_far number. with_use so_far number (use_of text table number)) found rest

abbrev pub nothing_found : NumbersFound
nothing_found = record { others = 0; same = None; free = None }

-- the number that the policy is given: none where too many others are in use
abbrev pub number_of : NumbersFound → Option ℕ
number_of found = if nat_lt found.others most_others then either found.same found.free else None
