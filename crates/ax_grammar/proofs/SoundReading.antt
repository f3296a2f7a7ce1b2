-- What a reader gives: nothing, or a value and a rest of which something holds. Each way to make a
-- reader of others carries what holds along.
use Rattle.std.proofs.Common.{◌≡◌, ℕ, zero, suc, Bool, true, false, List, [], ◌∷◌, length, Option, Some, None, refl, subst}
use Rattle.std.specs.Prelude.{option_map}
use Rattle.ax_lex.specs.Lexeme.{Lexeme}
use Rattle.ax_grammar.specs.Reading.{Reader, Turn, and_then, provided, changed, must, after_turn, repeated, all_turns}
use Rattle.ax_grammar.specs.Reading.Turn.{ended, failed, went_on}

-- nothing was read, or what was read and the rest are so
pub data Gives {X : Type 0} (P : X → List Lexeme → Type 0) : Option (X × List Lexeme)
    → Type 0 where
  gives_none : Gives P None
  gives : {found : X × List Lexeme} → P found.0 found.1 → Gives P (Some found)

-- whatever the reader reads is so
abbrev pub IsSound : {X : Type 0} → (List Lexeme → X → List Lexeme → Type 0) → Reader X
    → Type 0
IsSound P reader = (lexemes : List Lexeme) → Gives (P lexemes) (reader lexemes)

pub given : {X : Type 0} {P : X → List Lexeme → Type 0} {x : X} {rest : List Lexeme}
    {o : Option (X × List Lexeme)} → Gives P o → o ≡ Some (x, rest) → P x rest
given {X} {P} {x} {rest} (gives {found} h) e =
    subst (λ (f : X × List Lexeme). P f.0 f.1) (same e) h
  where
    same : Some found ≡ Some (x, rest) → found ≡ (x, rest)
    same e = cc
given gives_none e = absurd (cc)

pub gives_provided : {X : Type 0} {P : X → List Lexeme → Type 0} {o : Option (X × List Lexeme)}
    (b : Bool) → (b ≡ true → Gives P o) → Gives P (provided b o)
gives_provided true h = h refl
gives_provided false h = gives_none

pub gives_changed : {X Y : Type 0} {P : X → List Lexeme → Type 0} {Q : Y → List Lexeme → Type 0}
    {o : Option (X × List Lexeme)} (change : X → Y) → Gives P o
    → ((x : X) (rest : List Lexeme) → P x rest → Q (change x) rest) → Gives Q (changed change o)
gives_changed change gives_none f = gives_none
gives_changed change (gives {found} h) f = gives (f found.0 found.1 h)

pub gives_then : {X Y : Type 0} {P : X → List Lexeme → Type 0} {Q : Y → List Lexeme → Type 0}
    {o : Option (X × List Lexeme)} (next : X × List Lexeme → Option (Y × List Lexeme))
    → Gives P o → ((x : X) (rest : List Lexeme) → P x rest → Gives Q (next (x, rest)))
    → Gives Q (and_then o next)
gives_then next gives_none f = gives_none
gives_then next (gives {found} h) f = f found.0 found.1 h

pub gives_with : {X : Type 0} {P Q : X → List Lexeme → Type 0} {o : Option (X × List Lexeme)}
    → Gives P o → ((x : X) (rest : List Lexeme) → P x rest → Q x rest) → Gives Q o
gives_with gives_none f = gives_none
gives_with (gives {found} h) f = gives (f found.0 found.1 h)

-- what holds of the value that a table has, where it has one
pub gives_mapped : {A X : Type 0} {P : X → List Lexeme → Type 0} (rest : List Lexeme)
    (change : A → X) (o : Option A) → ((a : A) → o ≡ Some a → P (change a) rest)
    → Gives P (option_map (λ a. (change a, rest)) o)
gives_mapped rest change None f = gives_none
gives_mapped rest change (Some a) f = gives (f a refl)

-- a turn of a repetition reads nothing, or what is so
pub data TurnGives {X : Type 0} (P : X → List Lexeme → Type 0) : Turn X → Type 0 where
  has_ended : TurnGives P ended
  has_failed : TurnGives P failed
  goes_on : {x : X} {rest : List Lexeme} → P x rest → TurnGives P (went_on x rest)

pub gives_turn : {X : Type 0} {P : X → List Lexeme → Type 0} {o : Option (X × List Lexeme)}
    → Gives P o → TurnGives P (must o)
gives_turn gives_none = has_failed
gives_turn (gives h) = goes_on h

-- lists of phrases, read one behind the other
pub record IsRepetition {X : Type 0} (One : List Lexeme → X → List Lexeme → Type 0)
    (Many : List Lexeme → List X → List Lexeme → Type 0) : Type 0 where
  pub none : (lexemes : List Lexeme) → Many lexemes [] lexemes
  pub more : (before between after : List Lexeme) (x : X) (xs : List X) → One before x between
      → Many between xs after → Many before (x ∷ xs) after

after_turn_gives : {X : Type 0} {One : List Lexeme → X → List Lexeme → Type 0}
    {Many : List Lexeme → List X → List Lexeme → Type 0} {turn : Turn X}
    (again : Reader (List X)) (before : List Lexeme) → IsRepetition One Many
    → IsSound Many again → TurnGives (One before) turn
    → Gives (Many before) (after_turn again before turn)
after_turn_gives again before r s has_ended = gives (r.none before)
after_turn_gives again before r s has_failed = gives_none
after_turn_gives again before r s (goes_on {x} {rest} h) =
    gives_changed (λ xs. x ∷ xs) (s rest) (λ xs after m. r.more before rest after x xs h m)

-- {phrase}, however many turns there may be
pub repeated_sound : {X : Type 0} {One : List Lexeme → X → List Lexeme → Type 0}
    {Many : List Lexeme → List X → List Lexeme → Type 0} (turn : List Lexeme → Turn X)
    → IsRepetition One Many → ((lexemes : List Lexeme) → TurnGives (One lexemes) (turn lexemes))
    → (n : ℕ) → IsSound Many (repeated turn n)
unfolding repeated
repeated_sound turn r s zero lexemes = gives (r.none lexemes)
repeated_sound turn r s (suc n) lexemes =
    after_turn_gives (λ rest. repeated turn n rest) lexemes r (repeated_sound turn r s n)
    (s lexemes)

pub all_turns_sound : {X : Type 0} {One : List Lexeme → X → List Lexeme → Type 0}
    {Many : List Lexeme → List X → List Lexeme → Type 0} (turn : List Lexeme → Turn X)
    → IsRepetition One Many → ((lexemes : List Lexeme) → TurnGives (One lexemes) (turn lexemes))
    → IsSound Many (all_turns turn)
all_turns_sound turn r s lexemes = repeated_sound turn r s (length lexemes) lexemes
