-- The bases of joins, where each alias is put behind those that are declared.
use Rattle.std.proofs.Common.{◌≡◌, ℕ, List, [], ◌∷◌, ◌++◌, Bool, true, false, ◌&&◌, ◌||◌, refl, ap, ap₂, ◌∙◌}
use Rattle.std.specs.Str.{bytes_eq}
use Rattle.ax_grammar.specs.Parts.{has}
use Rattle.ax_grammar.specs.Scope.{bases_declared}
use Rattle.ax_grammar.specs.Written.{Joined}

abbrev pub bases_after : List (List ℕ) → List Joined → Bool
bases_after declared [] = true
bases_after declared (joined ∷ joins) =
    has declared joined.base && bases_after (declared ++ joined.alias ∷ []) joins

first_or : (a b c : Bool) → (a || (b || c)) ≡ (b || (a || c))
first_or true true c = refl
first_or true false c = refl
first_or false true c = refl
first_or false false c = refl

has_behind : (names : List (List ℕ)) (alias name : List ℕ)
    → has (names ++ alias ∷ []) name ≡ has (alias ∷ names) name
has_behind [] alias name = refl
has_behind (other ∷ names) alias name =
    ap (λ b. bytes_eq name other || b) (has_behind names alias name)
    ∙ first_or (bytes_eq name other) (bytes_eq name alias) (has names name)

after_declared : (front back : List (List ℕ))
    → ((name : List ℕ) → has front name ≡ has back name) → (joins : List Joined)
    → bases_after front joins ≡ bases_declared back joins
after_declared front back same [] = refl
after_declared front back same (joined ∷ joins) =
    ap₂ (λ a b. a && b) (same joined.base)
    (after_declared (front ++ joined.alias ∷ []) (joined.alias ∷ back)
    (λ name. has_behind front joined.alias name
    ∙ ap (λ b. bytes_eq name joined.alias || b) (same name))
    joins)

pub bases_after_first : (first : List ℕ) (joins : List Joined)
    → bases_after (first ∷ []) joins ≡ bases_declared (first ∷ []) joins
bases_after_first first joins = after_declared (first ∷ []) (first ∷ []) (λ name. refl) joins
