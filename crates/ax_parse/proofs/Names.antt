-- A word is compared with the functions whose names have its own length alone.
use Rattle.std.proofs.Common.{◌≡◌, ℕ, ◌==◌, Bool, true, false, cond, List, [], ◌∷◌, length, map, Some, refl, ap, sym, ◌∙◌, ⊎_elim}
use Rattle.std.specs.Char.{to_ascii_lowercase}
use Rattle.std.specs.List.{filter}
use Rattle.std.specs.Str.{str_eq_ignore_ascii_case}
use Rattle.std.proofs.lemmas.Bool.{cases_Bool, eq-eqb, false≢true}
use Rattle.std.proofs.lemmas.List.{length-map}
use lib.Pointwise.{pointwise_long}
use Rattle.ax_mean.specs.declared.operator.Func.{Func}
use Rattle.ax_grammar.specs.Tables.{spelled, functions, func_of}
use Rattle.ax_parse.specs.Callees.{func_spelling, with_spelling, funcs_of}

by_sieve : (word : List ℕ) (sieve : Func → Bool) (x : Func) (xs : List Func)
    → spelled word (map (with_spelling func_spelling) xs)
    ≡ spelled word (map (with_spelling func_spelling) (filter sieve xs))
    → (sieve x ≡ false → str_eq_ignore_ascii_case word (func_spelling x) ≡ false)
    → (b : Bool) → sieve x ≡ b → spelled word (map (with_spelling func_spelling) (x ∷ xs))
    ≡ spelled word (map (with_spelling func_spelling) (filter sieve (x ∷ xs)))
by_sieve word sieve x xs was h true e =
    rw e (ap (λ o. cond (str_eq_ignore_ascii_case word (func_spelling x)) (Some x) o) was)
by_sieve word sieve x xs was h false e = rw (e, h e) was

-- what is found among those that pass a test which all that are found pass
narrowed : (word : List ℕ) (sieve : Func → Bool) (xs : List Func)
    → ((x : Func) → sieve x ≡ false
    → str_eq_ignore_ascii_case word (func_spelling x) ≡ false)
    → spelled word (map (with_spelling func_spelling) xs)
    ≡ spelled word (map (with_spelling func_spelling) (filter sieve xs))
narrowed word sieve [] h = refl
narrowed word sieve (x ∷ xs) h =
    by_sieve word sieve x xs (narrowed word sieve xs h) (h x) (sieve x) refl

other_length : (word : List ℕ) (which : Func)
    → (length (func_spelling which) == length word) ≡ false
    → str_eq_ignore_ascii_case word (func_spelling which) ≡ false
other_length word which n =
    ⊎_elim
    (λ (e : str_eq_ignore_ascii_case word (func_spelling which) ≡ true).
    let long : length (map to_ascii_lowercase word) ≡ length (map to_ascii_lowercase
    (func_spelling which)) = pointwise_long _ _ _ e in
    let same : length word ≡ length (func_spelling which) = sym
    (length-map word to_ascii_lowercase) ∙ long
    ∙ length-map (func_spelling which) to_ascii_lowercase in
    absurd (false≢true (sym n ∙ eq-eqb (length (func_spelling which)) (length word) (sym same))))
    (λ (e : str_eq_ignore_ascii_case word (func_spelling which) ≡ false). e)
    (cases_Bool (str_eq_ignore_ascii_case word (func_spelling which)))

pub func_of_length : (word : List ℕ) → func_of word
    ≡ spelled word (map (with_spelling func_spelling) (funcs_of (length word)))
func_of_length word =
    narrowed word (λ which. length (func_spelling which) == length word)
    (map (λ row. row.1) functions) (λ which. other_length word which)
