-- Readers of one thing, and repetitions: where each turn reads its phrase and the turn after the
-- last finds none, the repetition reads the list.
use Rattle.std.proofs.Common.{◌≡◌, ℕ, zero, suc, ◌≤◌, ◌<◌, List, [], ◌∷◌, length, Option, Some, None, refl, ap, arith, le_refl}
use Rattle.ax_lex.specs.Lexeme.{Lexeme}
use Rattle.ax_grammar.specs.Reading.{Reader, Turn, changed, marked, repeated, all_turns, parted, closed_by, take}
use Rattle.ax_grammar.specs.Reading.Turn.{ended, went_on}
use Rattle.ax_grammar.specs.Takes.{Mark, Takes}
use Rattle.ax_grammar.proofs.Marks.{take_complete}

abbrev pub found : {X : Type 0} → X → List Lexeme → Option (X × List Lexeme)
found x after = Some (x, after)

-- the reader reads x, up to what is after it
pub record Reads {X : Type 0} (reader : Reader X) (before : List Lexeme) (x : X)
    (after : List Lexeme) : Type 0 where
  pub so : reader before ≡ found x after

pub data Turns {X : Type 0} (turn : List Lexeme → Turn X) : (before : List Lexeme) (xs : List X)
    (after : List Lexeme) → Type 0 where
  no_turn : {after : List Lexeme} → turn after ≡ ended → Turns turn after [] after
  one_turn : {x : X} {xs : List X} {before next after : List Lexeme}
      → turn before ≡ went_on x next → length next < length before
      → Turns turn next xs after → Turns turn before (x ∷ xs) after

repeats : {X : Type 0} (turn : List Lexeme → Turn X) (most : ℕ) {before : List Lexeme}
    {xs : List X} {after : List Lexeme} → Turns turn before xs after
    → length before ≤ most → repeated turn most before ≡ found xs after
unfolding repeated
repeats turn zero (no_turn e) l = refl
repeats turn (suc most) (no_turn e) l = rw e refl
repeats turn zero (one_turn e s t) l = absurd (omega arith)
repeats turn (suc most) (one_turn {x} {xs} {before} {next} {after} e s t) l =
    rw e (ap (changed (λ rest. x ∷ rest)) (repeats turn most t (omega arith)))

pub all_read : {X : Type 0} {turn : List Lexeme → Turn X} {before : List Lexeme} {xs : List X}
    {after : List Lexeme} → Turns turn before xs after → Reads (all_turns turn) before xs after
all_read {X} {turn} {before} {xs} {after} t =
    record { so = repeats turn (length before) t (le_refl (length before)) }

pub marked_turn : {X : Type 0} {phrase : Reader X} {mark : Mark} {before between : List Lexeme}
    {x : X} {after : List Lexeme} → Takes mark before between → Reads phrase between x after
    → marked mark phrase before ≡ went_on x after
marked_turn {X} {phrase} {mark} {before} {between} {x} {after} m r = rw (take_complete m, r.so) refl

pub no_marked_turn : {X : Type 0} (phrase : Reader X) (mark : Mark) (before : List Lexeme)
    → take mark before ≡ None → marked mark phrase before ≡ ended
no_marked_turn phrase mark before e = rw e refl

pub parted_read : {X : Type 0} {phrase : Reader X} (mark : Mark) {before between : List Lexeme}
    {x : X} {xs : List X} {after : List Lexeme} → Reads phrase before x between
    → Turns (marked mark phrase) between xs after → Reads (parted mark phrase) before (x ∷ xs) after
parted_read {X} {phrase} mark {before} {between} {x} {xs} {after} r t =
    record { so = rw (r.so, (all_read t).so) refl }

pub closed_read : {X : Type 0} {reader : Reader X} {mark : Mark} {before between : List Lexeme}
    {x : X} {after : List Lexeme} → Reads reader before x between → Takes mark between after
    → closed_by mark (reader before) ≡ found x after
closed_read r m = rw (r.so, take_complete m) refl
