-- Repetitions whose phrases are seen as what the grammar writes.
use Rattle.std.proofs.Common.{◌≡◌, ℕ, ◌-◌, ◌+◌, ◌<◌, List, [], ◌∷◌, ◌++◌, map, sym, ap, ◌∙◌}
use Rattle.std.proofs.lemmas.List.{map-append}
use Rattle.ax_lex.specs.Lexeme.{Lexeme}
use Rattle.ax_grammar.specs.Reading.{Turn, repeated}
use Rattle.ax_grammar.specs.Reading.Turn.{went_on}
use Rattle.ax_parse.proofs.Turning.{before, turns-more}

pub seen-more : {X Y : Type 0} (view : X → Y) (turn : List Lexeme → Turn Y) (n i : ℕ) (made : List X)
    (x : X) (lexemes rest : List Lexeme) → i < n → turn lexemes ≡ went_on (view x) rest
    → before (map view made) (repeated turn (n - i) lexemes)
    ≡ before (map view (made ++ x ∷ [])) (repeated turn (n - (i + 1)) rest)
seen-more view turn n i made x lexemes rest h e =
    turns-more turn n i (map view made) (view x) lexemes rest h e
    ∙ ap (λ ys. before ys (repeated turn (n - (i + 1)) rest)) (sym (map-append view made (x ∷ [])))
