-- Reading from the front of a list of lexemes, as functions that answer what was read and the rest.
-- The reader serves proofs and the clauses of private functions: what is read is said by the
-- grammar.
use Rattle.std.specs.Prelude.{ℕ, zero, suc, List, [], ◌∷◌, length, Bool, true, false, Option, Some, None, option_map, if◌then◌else◌}
use Rattle.ax_lex.specs.declared.symbol.Symbol.{Symbol}
use Rattle.ax_lex.specs.Lexeme.{Lexeme}
use Rattle.ax_grammar.specs.Fronts.{is_mark}
use Rattle.ax_grammar.specs.Takes.{Mark}

abbrev pub Reader : Type 0 → Type 0
Reader X = List Lexeme → Option (X × List Lexeme)

-- first one thing, then what comes after it
abbrev pub and_then : {X Y : Type 0} → Option X → (X → Option Y) → Option Y
and_then None next = None
and_then (Some x) next = next x

-- what was found, under a condition
abbrev pub provided : {X : Type 0} → Bool → Option X → Option X
provided true found = found
provided false found = None

-- what was found, changed, with the same rest
abbrev pub changed : {X Y : Type 0} → (X → Y) → Option (X × List Lexeme)
    → Option (Y × List Lexeme)
changed change None = None
changed change (Some found) = Some (change found.0, found.1)

abbrev pub nothing_read : {X : Type 0} → Reader X
nothing_read lexemes = None

-- a value without a lexeme
abbrev pub at_once : {X : Type 0} → X → Reader X
at_once x lexemes = Some (x, lexemes)

-- what is after the mark, where it stands first
abbrev pub take : Mark → List Lexeme → Option (List Lexeme)
take mark [] = None
take mark (first ∷ rest) = if is_mark mark first then Some rest else None

-- reads on behind the mark where it stands first, and else in another way
abbrev pub either : {X : Type 0} → Option (List Lexeme) → Reader X → Reader X → Reader X
either (Some rest) behind else_way lexemes = behind rest
either None behind else_way lexemes = else_way lexemes

abbrev pub where_marked : {X : Type 0} → Mark → Reader X → Reader X → Reader X
where_marked mark behind else_way lexemes = either (take mark lexemes) behind else_way lexemes

-- reads behind the mark, which has to stand first
abbrev pub behind_mark : {X : Type 0} → Mark → Reader X → Reader X
behind_mark mark behind lexemes = and_then (take mark lexemes) behind

-- the mark has to stand behind what was read
abbrev pub closed_by : {X : Type 0} → Mark → Option (X × List Lexeme) → Option (X × List Lexeme)
closed_by mark None = None
closed_by mark (Some found) = option_map (λ rest. (found.0, rest)) (take mark found.1)

abbrev pub take_name : Reader (List ℕ)
take_name (Lexeme.name word ∷ rest) = Some (word, rest)
take_name _ = None

abbrev pub take_word : Reader (List ℕ)
take_word (Lexeme.name word ∷ rest) = Some (word, rest)
take_word (Lexeme.keyword which word ∷ rest) = Some (word, rest)
take_word _ = None

abbrev pub take_label : Reader (List ℕ)
take_label (Lexeme.name word ∷ rest) = Some (word, rest)
take_label (Lexeme.keyword which word ∷ rest) = Some (word, rest)
take_label (Lexeme.text value ∷ rest) = Some (value, rest)
take_label _ = None

-- the operator that a symbol of this table is
abbrev pub take_operator : {O : Type 0} → (Symbol → Option O) → Reader O
take_operator table (Lexeme.symbol which ∷ rest) = option_map (λ o. (o, rest)) (table which)
take_operator table _ = None

-- one turn of a repetition: the phrase does not begin here, or is not whole, or was read
pub data Turn (X : Type 0) : Type 0 where
  ended : Turn X
  failed : Turn X
  went_on : X → List Lexeme → Turn X

-- a phrase that has begun has to be whole
abbrev pub must : {X : Type 0} → Option (X × List Lexeme) → Turn X
must None = failed
must (Some found) = went_on found.0 found.1

-- the phrase, where its mark stands first
abbrev pub turn_behind : {X : Type 0} → Reader X → Option (List Lexeme) → Turn X
turn_behind phrase None = ended
turn_behind phrase (Some rest) = must (phrase rest)

abbrev pub marked : {X : Type 0} → Mark → Reader X → List Lexeme → Turn X
marked mark phrase lexemes = turn_behind phrase (take mark lexemes)

abbrev pub after_turn : {X : Type 0} → Reader (List X) → List Lexeme → Turn X
    → Option (List X × List Lexeme)
after_turn again lexemes ended = Some ([], lexemes)
after_turn again lexemes failed = None
after_turn again lexemes (went_on x rest) = changed (λ xs. x ∷ xs) (again rest)

-- {phrase}, in so many turns at most
unfoldable pub repeated : {X : Type 0} → (List Lexeme → Turn X) → ℕ → Reader (List X)
repeated turn zero lexemes = Some ([], lexemes)
repeated turn (suc more) lexemes =
    after_turn (λ rest. repeated turn more rest) lexemes (turn lexemes)

-- {phrase}
abbrev pub all_turns : {X : Type 0} → (List Lexeme → Turn X) → Reader (List X)
all_turns turn lexemes = repeated turn (length lexemes) lexemes

-- phrase {mark phrase}
abbrev pub parted : {X : Type 0} → Mark → Reader X → Reader (List X)
parted mark phrase lexemes =
    and_then (phrase lexemes) (λ first. changed (λ more. first.0 ∷ more)
    (all_turns (marked mark phrase) first.1))
