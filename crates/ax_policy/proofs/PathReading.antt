-- Steps read one after another, and names byte by byte: what the code does with what is left.
use Rattle.std.proofs.Common.{◌≡◌, ℕ, ◌==◌, true, false, zero, suc, List, [], ◌∷◌, ◌++◌, length, Option, Some, None, refl, sym, ap, ◌∙◌, arith, append_assoc, append-nil}
use Rattle.std.specs.Prelude.{option_and_then}
use Rattle.std.specs.Option.{option_map}
use Rattle.std.proofs.lemmas.Bool.{eq-eqb, ne_eqb}
use Rattle.ax_mean.specs.declared.query.Step.{Step}
use Rattle.ax_policy.specs.Paths.{slash, step_front, put_step, steps_in}

-- ---- names between quotes

abbrev pub found : List ℕ → List ℕ → Option (List ℕ × List ℕ)
found name rest = Some (name, rest)

-- bytes before the name that was read
abbrev pub before : List ℕ → Option (List ℕ × List ℕ) → Option (List ℕ × List ℕ)
before front name = option_map (λ (f : List ℕ × List ℕ). (front ++ f.0, f.1)) name

-- ---- steps

-- steps before those that are read
abbrev pub behind : List Step → Option (List Step) → Option (List Step)
behind front steps = option_map (λ more. front ++ more) steps

behind_more : (front : List Step) (step : Step) (o : Option (List Step))
    → behind (front ++ step ∷ []) o ≡ behind front (put_step step o)
behind_more front step None = refl
behind_more front step (Some l) = ap Some (append_assoc front (step ∷ []) l)

abbrev pub stepped : Step → List ℕ → Option (Step × List ℕ)
stepped step rest = Some (step, rest)

in_end : (most : ℕ) → steps_in most [] ≡ Some []
unfolding steps_in
in_end zero = refl
in_end (suc most) = refl

in_over : (byte : ℕ) (rest : List ℕ) → steps_in 0 (byte ∷ rest) ≡ None
unfolding steps_in
in_over byte rest = refl

in_wrong : (most byte : ℕ) (rest : List ℕ) → (byte == slash) ≡ false → steps_in most (byte ∷ rest) ≡ None
unfolding steps_in
in_wrong zero byte rest e = refl
in_wrong (suc most) byte rest e = rw e refl

pub in_more : (most byte : ℕ) (rest : List ℕ) → (byte == slash) ≡ true
    → steps_in (suc most) (byte ∷ rest)
    ≡ option_and_then (λ (f : Step × List ℕ). put_step f.0 (steps_in most f.1)) (step_front rest)
unfolding steps_in
in_more most byte rest e = rw e refl

in_none : (most byte : ℕ) (rest : List ℕ) → (byte == slash) ≡ true → step_front rest ≡ None
    → steps_in most (byte ∷ rest) ≡ None
unfolding steps_in
in_none zero byte rest e n = refl
in_none (suc most) byte rest e n = rw (e, n) refl

abbrev pub none : Option (List Step)
none = None

abbrev pub all_of : List Step → Option (List Step)
all_of steps = Some steps

pub steps_end : (front : List Step) (most : ℕ) (rest : List ℕ) (all : Option (List Step))
    → length rest ≡ 0 → behind front (steps_in most rest) ≡ all → all_of front ≡ all
steps_end front most [] all e was =
    ap Some (sym (append-nil front)) ∙ ap (behind front) (sym (in_end most)) ∙ was
steps_end front most (byte ∷ rest) all e was = absurd (omega arith)

pub steps_over : (front : List Step) (most : ℕ) (rest : List ℕ) (all : Option (List Step))
    → most ≡ 0 → (length rest ≡ 0 → ⊥) → behind front (steps_in most rest) ≡ all → none ≡ all
steps_over front most [] all z e was = absurd (e refl)
steps_over front most (byte ∷ rest) all z e was =
    ap (behind front) (sym (in_over byte rest) ∙ ap (λ n. steps_in n (byte ∷ rest)) (sym z)) ∙ was

pub steps_wrong : (front : List Step) (most byte : ℕ) (bytes rest : List ℕ) (all : Option (List Step))
    → bytes ≡ byte ∷ rest → (byte ≡ 47 → ⊥) → behind front (steps_in most bytes) ≡ all → none ≡ all
steps_wrong front most byte bytes rest all e n was =
    ap (behind front) (sym (in_wrong most byte rest (ne_eqb byte slash n)) ∙ ap (steps_in most) (sym e))
    ∙ was

pub steps_none : (front : List Step) (most byte : ℕ) (bytes rest : List ℕ) (all : Option (List Step))
    → bytes ≡ byte ∷ rest → byte ≡ 47 → None ≡ step_front rest
    → behind front (steps_in most bytes) ≡ all → none ≡ all
steps_none front most byte bytes rest all e s n was =
    ap (behind front) (sym (in_none most byte rest (eq-eqb byte slash s) (sym n)) ∙ ap (steps_in most) (sym e))
    ∙ was

pub steps_more : (front more : List Step) (step : Step) (most less byte : ℕ) (bytes rest next : List ℕ)
    (all : Option (List Step)) → bytes ≡ byte ∷ rest → byte ≡ 47 → most ≡ suc less
    → stepped step next ≡ step_front rest → more ≡ front ++ step ∷ []
    → behind front (steps_in most bytes) ≡ all → behind more (steps_in less next) ≡ all
steps_more front more step most less byte bytes rest next all e s m f p was =
    ap (λ l. behind l (steps_in less next)) p
    ∙ behind_more front step (steps_in less next)
    ∙ ap (λ (o : Option (Step × List ℕ)). behind front (option_and_then (λ (f : Step × List ℕ). put_step f.0 (steps_in less f.1)) o)) f
    ∙ ap (behind front) (sym (in_more less byte rest (eq-eqb byte slash s))
    ∙ ap (λ n. steps_in n (byte ∷ rest)) (sym m) ∙ ap (steps_in most) (sym e))
    ∙ was
