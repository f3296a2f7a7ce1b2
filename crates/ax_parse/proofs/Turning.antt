-- Repetitions: what was made so far, before what the reader makes of the rest, is what it makes of the
-- whole.
use Rattle.std.proofs.Common.{◌≡◌, ℕ, suc, ◌-◌, ◌+◌, ◌<◌, List, [], ◌∷◌, ◌++◌, length, Option, Some, None, refl, ap, sym, ◌∙◌, append_assoc, arith}
use Rattle.ax_lex.specs.Lexeme.{Lexeme}
use Rattle.ax_grammar.specs.Reading.{Turn, changed, after_turn, repeated, all_turns}
use Rattle.ax_grammar.specs.Reading.Turn.{ended, failed, went_on}

abbrev pub found_list : {X : Type 0} → List X → List Lexeme → Option (List X × List Lexeme)
found_list xs rest = Some (xs, rest)

-- what was made, before what is read
abbrev pub before : {X : Type 0} → List X → Option (List X × List Lexeme) → Option (List X × List Lexeme)
before made found = changed (λ xs. made ++ xs) found

before-none : {X : Type 0} (o : Option (List X × List Lexeme)) → before [] o ≡ o
before-none None = refl
before-none (Some found) = refl

before-more : {X : Type 0} (made : List X) (x : X) (o : Option (List X × List Lexeme))
    → before made (changed (λ xs. x ∷ xs) o) ≡ before (made ++ x ∷ []) o
before-more made x None = refl
before-more made x (Some found) =
    ap (λ xs. found_list xs found.1) (sym (append_assoc made (x ∷ []) found.0))

pub turns-begin : {X : Type 0} (turn : List Lexeme → Turn X) (n : ℕ) (lexemes : List Lexeme)
    → n ≡ length lexemes → before [] (repeated turn (n - 0) lexemes) ≡ all_turns turn lexemes
turns-begin turn n lexemes e =
    before-none (repeated turn (n - 0) lexemes)
    ∙ ap (λ k. repeated turn k lexemes) (omega (arith, e))

one_turn : {X : Type 0} (turn : List Lexeme → Turn X) (n i : ℕ) (lexemes : List Lexeme) → i < n
    → repeated turn (n - i) lexemes
    ≡ after_turn (λ rest. repeated turn (n - (i + 1)) rest) lexemes (turn lexemes)
unfolding repeated
one_turn turn n i lexemes h =
    let e : n - i ≡ suc (n - (i + 1)) = omega arith in
    ap (λ k. repeated turn k lexemes) e

pub turns-more : {X : Type 0} (turn : List Lexeme → Turn X) (n i : ℕ) (made : List X) (x : X)
    (lexemes rest : List Lexeme) → i < n → turn lexemes ≡ went_on x rest
    → before made (repeated turn (n - i) lexemes)
    ≡ before (made ++ x ∷ []) (repeated turn (n - (i + 1)) rest)
turns-more turn n i made x lexemes rest h e =
    ap (before made) (one_turn turn n i lexemes h
    ∙ ap (after_turn (λ rest. repeated turn (n - (i + 1)) rest) lexemes) e)
    ∙ before-more made x (repeated turn (n - (i + 1)) rest)

append-none : {X : Type 0} (xs : List X) → xs ++ [] ≡ xs
append-none [] = refl
append-none (x ∷ xs) = ap (λ ys. x ∷ ys) (append-none xs)

pub turns-ended : {X : Type 0} (turn : List Lexeme → Turn X) (n i : ℕ) (made : List X)
    (lexemes : List Lexeme) → i < n → turn lexemes ≡ ended
    → before made (repeated turn (n - i) lexemes) ≡ Some (made, lexemes)
turns-ended turn n i made lexemes h e =
    ap (before made) (one_turn turn n i lexemes h
    ∙ ap (after_turn (λ rest. repeated turn (n - (i + 1)) rest) lexemes) e)
    ∙ ap (λ xs. found_list xs lexemes) (append-none made)

pub turns-failed : {X : Type 0} (turn : List Lexeme → Turn X) (n i : ℕ) (made : List X)
    (lexemes : List Lexeme) → i < n → turn lexemes ≡ failed
    → before made (repeated turn (n - i) lexemes) ≡ None
turns-failed turn n i made lexemes h e =
    ap (before made) (one_turn turn n i lexemes h
    ∙ ap (after_turn (λ rest. repeated turn (n - (i + 1)) rest) lexemes) e)

pub turns-over : {X : Type 0} (turn : List Lexeme → Turn X) (n : ℕ) (made : List X)
    (lexemes : List Lexeme) → n ≡ 0
    → before made (repeated turn n lexemes) ≡ Some (made, lexemes)
unfolding repeated
turns-over turn n made lexemes e =
    ap (λ k. before made (repeated turn k lexemes)) e
    ∙ ap (λ xs. found_list xs lexemes) (append-none made)
