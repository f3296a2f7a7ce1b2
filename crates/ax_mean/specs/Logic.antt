-- AND, OR and NOT over true, false and undefined, as the query language of Azure Cosmos DB for NoSQL
-- has them: an operand that is no truth value counts as undefined (`None` here).
use Rattle.std.specs.Prelude.{Bool, true, false, not, Option, Some, None, option_map}

abbrev pub and_of : Option Bool → Option Bool → Option Bool
and_of (Some false) b = Some false
and_of (Some true) b = b
and_of None (Some false) = Some false
and_of None (Some true) = None
and_of None None = None

abbrev pub or_of : Option Bool → Option Bool → Option Bool
or_of (Some true) b = Some true
or_of (Some false) b = b
or_of None (Some true) = Some true
or_of None (Some false) = None
or_of None None = None

abbrev pub not_of : Option Bool → Option Bool
not_of = option_map not
