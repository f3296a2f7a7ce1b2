-- A word is compared with the keywords of its own length alone.
use Rattle.std.proofs.Common.{◌≡◌, ℕ, ◌==◌, Bool, true, false, cond, List, [], ◌∷◌, length, map, Some, refl, ap, sym, ◌∙◌, ⊎_elim}
use Rattle.std.specs.Char.{to_ascii_lowercase}
use Rattle.std.specs.List.{filter, find}
use Rattle.std.specs.Str.{str_eq_ignore_ascii_case}
use Rattle.std.proofs.lemmas.Bool.{cases_Bool, eq-eqb, false≢true}
use Rattle.std.proofs.lemmas.List.{length-map}
use lib.Pointwise.{pointwise_long}
use Rattle.ax_lex.specs.declared.keyword.Keyword.{Keyword}
use Rattle.ax_lex.specs.Keywords.{spelling, keywords, keywords_of, keyword_of}

by_sieve : (test sieve : Keyword → Bool) (x : Keyword) (xs : List Keyword)
    → find test xs ≡ find test (filter sieve xs) → (sieve x ≡ false → test x ≡ false)
    → (b : Bool) → sieve x ≡ b → find test (x ∷ xs) ≡ find test (filter sieve (x ∷ xs))
by_sieve test sieve x xs was h true e = rw e (ap (λ o. cond (test x) (Some x) o) was)
by_sieve test sieve x xs was h false e = rw (e, h e) was

-- what is found among those that pass a test which all that are found pass
narrowed : (test sieve : Keyword → Bool) (xs : List Keyword) → ((x : Keyword) → sieve x ≡ false
    → test x ≡ false) → find test xs ≡ find test (filter sieve xs)
narrowed test sieve [] h = refl
narrowed test sieve (x ∷ xs) h = by_sieve test sieve x xs (narrowed test sieve xs h) (h x)
    (sieve x) refl

other_length : (word : List ℕ) (keyword : Keyword)
    → (length (spelling keyword) == length word) ≡ false
    → str_eq_ignore_ascii_case word (spelling keyword) ≡ false
other_length word keyword n =
    ⊎_elim
    (λ (e : str_eq_ignore_ascii_case word (spelling keyword) ≡ true).
    let long : length (map to_ascii_lowercase word) ≡ length (map to_ascii_lowercase
    (spelling keyword)) = pointwise_long _ _ _ e in
    let same : length word ≡ length (spelling keyword) = sym
    (length-map word to_ascii_lowercase) ∙ long
    ∙ length-map (spelling keyword) to_ascii_lowercase in
    absurd (false≢true (sym n ∙ eq-eqb (length (spelling keyword)) (length word) (sym same))))
    (λ (e : str_eq_ignore_ascii_case word (spelling keyword) ≡ false). e)
    (cases_Bool (str_eq_ignore_ascii_case word (spelling keyword)))

pub keyword_of_length : (word : List ℕ) → keyword_of word ≡ find
    (λ keyword. str_eq_ignore_ascii_case word (spelling keyword)) (keywords_of (length word))
keyword_of_length word =
    narrowed (λ keyword. str_eq_ignore_ascii_case word (spelling keyword)) (λ keyword. length
    (spelling keyword) == length word) keywords (λ keyword. other_length word keyword)
