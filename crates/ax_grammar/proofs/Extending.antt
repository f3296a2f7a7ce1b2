-- What goes on an expression of a level goes on each level further out, and a mark that goes on a
-- level does not stand where nothing does.
use Rattle.std.proofs.Common.{arith, ◌≡◌, ℕ, List, [], ◌∷◌, Bool, true, false, refl, Some, None, sym, ◌∙◌, ap}
use Rattle.std.specs.Prelude.{nat_le, if◌then◌else◌}
use Rattle.std.proofs.lemmas.Bool.{false≢true}
use Rattle.ax_lex.specs.Lexeme.{Lexeme}
use Rattle.ax_grammar.proofs.Marks.{take_sound}
use Rattle.ax_grammar.specs.Fronts.{is_mark, begins, extends, reach}
use Rattle.ax_grammar.specs.Levels.{Level, distance}
use Rattle.ax_grammar.specs.Takes.{Mark, Takes}

narrower_distance : (a b c : ℕ) → nat_le b c ≡ true → nat_le a c ≡ false → nat_le a b ≡ false
narrower_distance a b c h k = grind (arith)

pub extends_narrower : (inner outer : Level) (lexemes : List Lexeme)
    → nat_le (distance inner) (distance outer) ≡ true → extends outer lexemes ≡ false
    → extends inner lexemes ≡ false
unfolding extends
extends_narrower inner outer [] h e = refl
extends_narrower inner outer (first ∷ rest) h e = narrower_distance (reach first) (distance inner) (distance outer) h e

absent : (mark : Mark) (level : Level) (first : Lexeme) (rest : List Lexeme)
    → ((next after : List Lexeme) → Takes mark next after → extends level next ≡ true)
    → extends level (first ∷ rest) ≡ false → (b : Bool) → is_mark mark first ≡ b → b ≡ false
absent mark level first rest goes_on e true is =
    absurd (false≢true (sym e ∙ goes_on (first ∷ rest) rest (take_sound mark (first ∷ rest)
    (ap (λ c. if c then Some rest else None) is))))
absent mark level first rest goes_on e false is = refl

pub not_begun : (mark : Mark) (level : Level) (lexemes : List Lexeme)
    → ((next after : List Lexeme) → Takes mark next after → extends level next ≡ true)
    → extends level lexemes ≡ false → begins mark lexemes ≡ false
not_begun mark level [] goes_on e = refl
not_begun mark level (first ∷ rest) goes_on e =
    absent mark level first rest goes_on e (is_mark mark first) refl
