-- A mark that is read stands first, and where it is not read it does not.
use Rattle.std.proofs.Common.{◌≡◌, Bool, true, false, List, [], ◌∷◌, Option, Some, None, refl, subst}
use Rattle.std.specs.Prelude.{if◌then◌else◌, option_map}
use Rattle.ax_lex.specs.Lexeme.{Lexeme}
use Rattle.ax_grammar.specs.Fronts.{is_mark, begins}
use Rattle.ax_grammar.specs.Reading.{Reader, and_then, take, either, where_marked, behind_mark, closed_by, turn_behind, marked, parted}
use Rattle.ax_grammar.specs.Takes.{Mark, Takes}
use Rattle.ax_grammar.specs.Takes.Mark.{the_symbol, the_keyword}
use Rattle.ax_grammar.specs.Takes.Takes.{symbol_first, keyword_first}
use Rattle.ax_grammar.proofs.Marks.{same_symbol, same_keyword}
use Rattle.ax_grammar.proofs.SoundReading.{Gives, IsSound, TurnGives, gives_changed, gives_then, gives_with, gives_turn, IsRepetition, all_turns_sound}
use Rattle.ax_grammar.proofs.SoundReading.Gives.{gives_none, gives}
use Rattle.ax_grammar.proofs.SoundReading.TurnGives.{has_ended}

mark_first : (mark : Mark) (first : Lexeme) (rest : List Lexeme) → is_mark mark first ≡ true
    → Takes mark (first ∷ rest) rest
mark_first (the_symbol which) (Lexeme.symbol other) rest e =
    subst (λ s. Takes (the_symbol which) (Lexeme.symbol s ∷ rest) rest)
    (same_symbol which other e) symbol_first
mark_first (the_keyword which) (Lexeme.keyword other word) rest e =
    subst (λ k. Takes (the_keyword which) (Lexeme.keyword k word ∷ rest) rest)
    (same_keyword which other e) keyword_first
mark_first (the_symbol which) (Lexeme.name word) rest e = absurd (cc)
mark_first (the_symbol which) (Lexeme.keyword other word) rest e = absurd (cc)
mark_first (the_symbol which) (Lexeme.parameter word) rest e = absurd (cc)
mark_first (the_symbol which) (Lexeme.text value) rest e = absurd (cc)
mark_first (the_symbol which) (Lexeme.number value) rest e = absurd (cc)
mark_first (the_symbol which) (Lexeme.nothing kind) rest e = absurd (cc)
mark_first (the_keyword which) (Lexeme.name word) rest e = absurd (cc)
mark_first (the_keyword which) (Lexeme.symbol other) rest e = absurd (cc)
mark_first (the_keyword which) (Lexeme.parameter word) rest e = absurd (cc)
mark_first (the_keyword which) (Lexeme.text value) rest e = absurd (cc)
mark_first (the_keyword which) (Lexeme.number value) rest e = absurd (cc)
mark_first (the_keyword which) (Lexeme.nothing kind) rest e = absurd (cc)

-- the mark does not stand first, or this is behind it
pub data Taken (mark : Mark) (before : List Lexeme) : Option (List Lexeme) → Type 0 where
  is_absent : begins mark before ≡ false → Taken mark before None
  is_there : {after : List Lexeme} → Takes mark before after → Taken mark before (Some after)

taken_by : (mark : Mark) (first : Lexeme) (rest : List Lexeme) (b : Bool)
    → is_mark mark first ≡ b → Taken mark (first ∷ rest) (if b then Some rest else None)
taken_by mark first rest true e = is_there (mark_first mark first rest e)
taken_by mark first rest false e = is_absent e

pub taken : (mark : Mark) (lexemes : List Lexeme) → Taken mark lexemes (take mark lexemes)
taken mark [] = is_absent refl
taken mark (first ∷ rest) = taken_by mark first rest (is_mark mark first) refl

either_gives : {X : Type 0} {P : X → List Lexeme → Type 0} {mark : Mark} {lexemes : List Lexeme}
    {o : Option (List Lexeme)} (behind else_way : Reader X) → Taken mark lexemes o
    → ((rest : List Lexeme) → Takes mark lexemes rest → Gives P (behind rest))
    → (begins mark lexemes ≡ false → Gives P (else_way lexemes))
    → Gives P (either o behind else_way lexemes)
either_gives behind else_way (is_absent e) f g = g e
either_gives behind else_way (is_there {after} t) f g = f after t

pub gives_where : {X : Type 0} {P : X → List Lexeme → Type 0} (mark : Mark)
    (behind else_way : Reader X) (lexemes : List Lexeme)
    → ((rest : List Lexeme) → Takes mark lexemes rest → Gives P (behind rest))
    → (begins mark lexemes ≡ false → Gives P (else_way lexemes))
    → Gives P (where_marked mark behind else_way lexemes)
gives_where mark behind else_way lexemes f g =
    either_gives behind else_way (taken mark lexemes) f g

behind_gives : {X : Type 0} {P : X → List Lexeme → Type 0} {mark : Mark} {lexemes : List Lexeme}
    {o : Option (List Lexeme)} (behind : Reader X) → Taken mark lexemes o
    → ((rest : List Lexeme) → Takes mark lexemes rest → Gives P (behind rest))
    → Gives P (and_then o behind)
behind_gives behind (is_absent e) f = gives_none
behind_gives behind (is_there {after} t) f = f after t

pub gives_behind : {X : Type 0} {P : X → List Lexeme → Type 0} (mark : Mark)
    (behind : Reader X) (lexemes : List Lexeme)
    → ((rest : List Lexeme) → Takes mark lexemes rest → Gives P (behind rest))
    → Gives P (behind_mark mark behind lexemes)
gives_behind mark behind lexemes f = behind_gives behind (taken mark lexemes) f

closing_gives : {X : Type 0} {P : X → List Lexeme → Type 0} {mark : Mark} {end : List Lexeme}
    {o : Option (List Lexeme)} (x : X) → Taken mark end o
    → ((after : List Lexeme) → Takes mark end after → P x after)
    → Gives P (option_map (λ rest. (x, rest)) o)
closing_gives x (is_absent e) f = gives_none
closing_gives x (is_there {after} t) f = gives (f after t)

pub gives_closed_at : {X : Type 0} {P : X → List Lexeme → Type 0} (mark : Mark) (x : X)
    (end : List Lexeme) → ((after : List Lexeme) → Takes mark end after → P x after)
    → Gives P (closed_by mark (Some (x, end)))
gives_closed_at mark x end f = closing_gives x (taken mark end) f

pub gives_closed : {X : Type 0} {P Q : X → List Lexeme → Type 0}
    {o : Option (X × List Lexeme)} (mark : Mark) → Gives P o
    → ((x : X) (end after : List Lexeme) → P x end → Takes mark end after → Q x after)
    → Gives Q (closed_by mark o)
gives_closed mark gives_none f = gives_none
gives_closed mark (gives {found} h) f =
    closing_gives found.0 (taken mark found.1) (λ after t. f found.0 found.1 after h t)

turn_behind_gives : {X : Type 0} {P : X → List Lexeme → Type 0} {mark : Mark}
    {lexemes : List Lexeme} {o : Option (List Lexeme)} (phrase : Reader X)
    → Taken mark lexemes o
    → ((rest : List Lexeme) → Takes mark lexemes rest → Gives P (phrase rest))
    → TurnGives P (turn_behind phrase o)
turn_behind_gives phrase (is_absent e) f = has_ended
turn_behind_gives phrase (is_there {after} t) f = gives_turn (f after t)

pub gives_marked : {X : Type 0} {P : X → List Lexeme → Type 0} (mark : Mark)
    (phrase : Reader X) (lexemes : List Lexeme)
    → ((rest : List Lexeme) → Takes mark lexemes rest → Gives P (phrase rest))
    → TurnGives P (marked mark phrase lexemes)
gives_marked mark phrase lexemes f = turn_behind_gives phrase (taken mark lexemes) f

-- a phrase behind a mark
pub record IsBehind {X : Type 0} (mark : Mark) (One : List Lexeme → X → List Lexeme → Type 0)
    (before : List Lexeme) (x : X) (after : List Lexeme) : Type 0 where
  pub between : List Lexeme
  pub first : Takes mark before between
  pub phrase : One between x after

pub behind_sound : {X : Type 0} {One : List Lexeme → X → List Lexeme → Type 0} (mark : Mark)
    (phrase : Reader X) → IsSound One phrase → IsSound (IsBehind mark One) (behind_mark mark phrase)
behind_sound mark phrase s lexemes =
    behind_gives phrase (taken mark lexemes) (λ rest t.
    gives_with (s rest) (λ x after h. record { between = rest; first = t; phrase = h }))

pub marked_sound : {X : Type 0} {One : List Lexeme → X → List Lexeme → Type 0} (mark : Mark)
    (phrase : Reader X) → IsSound One phrase
    → (lexemes : List Lexeme) → TurnGives (IsBehind mark One lexemes) (marked mark phrase lexemes)
marked_sound mark phrase s lexemes =
    turn_behind_gives phrase (taken mark lexemes) (λ rest t.
    gives_with (s rest) (λ x after h. record { between = rest; first = t; phrase = h }))

-- phrases, with marks between them
pub data AreParted {X : Type 0} (One : List Lexeme → X → List Lexeme → Type 0)
    (Many : List Lexeme → List X → List Lexeme → Type 0) : (before : List Lexeme) (xs : List X)
    (after : List Lexeme) → Type 0 where
  are_parted : {x : X} {xs : List X} {before between after : List Lexeme}
      → One before x between → Many between xs after → AreParted One Many before (x ∷ xs) after

pub parted_sound : {X : Type 0} {One : List Lexeme → X → List Lexeme → Type 0}
    {Many : List Lexeme → List X → List Lexeme → Type 0} (mark : Mark) (phrase : Reader X)
    → IsRepetition (IsBehind mark One) Many → IsSound One phrase
    → IsSound (AreParted One Many) (parted mark phrase)
parted_sound mark phrase r s lexemes =
    gives_then _ (s lexemes) (λ x rest h.
    gives_changed (λ more. x ∷ more)
    (all_turns_sound (marked mark phrase) r (marked_sound mark phrase s) rest)
    (λ xs after m. are_parted h m))
