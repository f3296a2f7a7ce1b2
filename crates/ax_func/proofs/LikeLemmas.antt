-- LIKE by one pass: what stays true while the pattern's characters find their places one by one.
use Rattle.std.proofs.Common.{◌≡◌, ℕ, List, [], ◌∷◌, Bool, true, false, ◌&&◌, ◌||◌, ◌==◌, refl, sym, ap, ap₂, ◌∙◌, subst, cond, ⊎_elim, ◌≢◌}
use Rattle.std.proofs.lemmas.Bool.{false≢true}
use Rattle.std.proofs.lemmas.Bool.Decides.{eqb_tells}
use Rattle.ax_mean.specs.Like.{is_end, first_and_rest, some_rest, fits, matches}

abbrev Test : Type 0
Test = List ℕ → Bool

false_true : {A : Type 0} → false ≡ true → A
false_true e = absurd (false≢true e)

absorb : (a b : Bool) → (b ≡ true → a ≡ true) → (a || b) ≡ a
absorb true b h = refl
absorb false true h = sym (h refl)
absorb false false h = refl

pub or_right : (a : Bool) {b : Bool} → b ≡ true → (a || b) ≡ true
or_right true e = refl
or_right false e = e

or_false : (a b : Bool) → (a || b) ≡ false → b ≡ false
or_false true b e = false_true (sym e)
or_false false b e = e

-- a text that passes has a rest that does
pub some_rest-here : (test : Test) (cs : List ℕ) → test cs ≡ true → some_rest test cs ≡ true
some_rest-here test [] h = h
some_rest-here test (c ∷ cs) h = ap (λ b. b || some_rest test cs) h

-- a rest of a rest is a rest
nested_step : (test : Test) (c : ℕ) (cs : List ℕ) (b : Bool) → b ≡ some_rest test (c ∷ cs)
    → (some_rest (some_rest test) cs ≡ true → some_rest test cs ≡ true)
    → (b || some_rest (some_rest test) cs) ≡ true → some_rest test (c ∷ cs) ≡ true
nested_step test c cs true e ih h = sym e
nested_step test c cs false e ih h = or_right (test (c ∷ cs)) (ih h)

pub some_rest-nested : (test : Test) (cs : List ℕ) → some_rest (some_rest test) cs ≡ true
    → some_rest test cs ≡ true
some_rest-nested test [] h = h
some_rest-nested test (c ∷ cs) h =
    nested_step test c cs (some_rest test (c ∷ cs)) refl (some_rest-nested test cs) h

-- where a first character and then a rest pass, the rest passes later on
here_step : (a b : Bool) → (a && b) ≡ true → b ≡ true
here_step true b h = h
here_step false b h = false_true h

later_step : (first : ℕ → Bool) (rest : Test) (c : ℕ) (cs : List ℕ) (b : Bool)
    → b ≡ (first c && rest cs)
    → (some_rest (first_and_rest first rest) cs ≡ true → some_rest rest cs ≡ true)
    → (b || some_rest (first_and_rest first rest) cs) ≡ true → some_rest rest cs ≡ true
later_step first rest c cs true e ih h =
    some_rest-here rest cs (here_step (first c) (rest cs) (sym e))
later_step first rest c cs false e ih h = ih h

some_rest-later : (first : ℕ → Bool) (rest : Test) (cs : List ℕ)
    → some_rest (first_and_rest first rest) cs ≡ true → some_rest rest cs ≡ true
some_rest-later first rest [] h = false_true h
some_rest-later first rest (c ∷ cs) h =
    or_right (rest (c ∷ cs))
    (later_step first rest c cs (first c && rest cs) refl (some_rest-later first rest cs) h)

pub some_rest-next : (first : ℕ → Bool) (rest : Test) (c : ℕ) (cs : List ℕ)
    → some_rest (first_and_rest first rest) (c ∷ cs) ≡ true → some_rest rest cs ≡ true
some_rest-next first rest c cs h =
    later_step first rest c cs (first c && rest cs) refl (some_rest-later first rest cs) h

-- How the pattern's rest fares: `whole` is the answer; the pattern `tried` was begun at the text
-- `from`, and is now at `pattern`, with the text `text` left.
pub record Fares (whole : Bool) (tried from pattern text : List ℕ) : Type 0 where
  -- some rest of `from` decides
  pub answer : whole ≡ some_rest (matches tried) from
  -- begun at `from` itself, what is left decides
  pub here : matches tried from ≡ matches pattern text
  -- if it would do begun later, then what is left of the pattern would do later in what is left of the text
  pub later : (c : ℕ) (cs : List ℕ) → from ≡ c ∷ cs → some_rest (matches tried) cs ≡ true
      → some_rest (matches pattern) text ≡ true

pub begins : (tried from : List ℕ) → Fares (some_rest (matches tried) from) tried from tried from
begins tried from =
    record {
      answer = refl;
      here = refl;
      later = λ c cs e h. subst (λ l. some_rest (matches tried) l ≡ true) (sym e)
          (or_right (matches tried (c ∷ cs)) h);
    }

is_no_percent : (p : ℕ) → p ≢ 37 → (p == 37) ≡ false
is_no_percent p other = ⊎_elim (λ h. absurd (other h.1)) (λ h. h.0) (eqb_tells p 37)

pub at_percent : (p : ℕ) (ps : List ℕ) → p ≡ 37 → matches (p ∷ ps) ≡ some_rest (matches ps)
at_percent p ps e = ap (λ n. matches (n ∷ ps)) e

pub at_other : (p : ℕ) (ps : List ℕ) → p ≢ 37
    → matches (p ∷ ps) ≡ first_and_rest (fits p) (matches ps)
at_other p ps other =
    ap (λ b. cond b (some_rest (matches ps)) (first_and_rest (fits p) (matches ps)))
    (is_no_percent p other)

-- where a later place would do only if this one does, this one decides
settled_at : {whole : Bool} {tried : List ℕ} (from : List ℕ) {pattern text : List ℕ}
    → Fares whole tried from pattern text
    → (some_rest (matches pattern) text ≡ true → matches pattern text ≡ true)
    → whole ≡ matches pattern text
settled_at [] f h = f.answer ∙ f.here
settled_at {whole} {tried} (c ∷ cs) {pattern} {text} f h =
    f.answer
    ∙ ap (λ b. b || some_rest (matches tried) cs) f.here
    ∙ absorb (matches pattern text) (some_rest (matches tried) cs) (λ e. h (f.later c cs refl e))

ends : (text : List ℕ) → is_end text ≡ true → text ≡ []
ends [] h = refl
ends (c ∷ cs) h = false_true h

module _ {whole : Bool} {tried from pattern text : List ℕ} (f : Fares whole tried from pattern text)
  where
    -- at a `%` all before it has its place
    pub past_percent : (p : ℕ) (ps : List ℕ) → pattern ≡ p ∷ ps → p ≡ 37 → Fares whole ps text ps text
    past_percent p ps e percent =
        let is : matches pattern ≡ some_rest (matches ps) = ap matches e ∙ at_percent p ps percent in
        let settled =
        settled_at from f
        (λ h. ap (λ m. m text) is
        ∙ some_rest-nested (matches ps) text (sym (ap (λ m. some_rest m text) is) ∙ h)) in
        record { answer = settled ∙ ap (λ m. m text) is; here = refl; later = (begins ps text).later }

    -- a character that fits has its place
    pub past_character : (p : ℕ) (ps : List ℕ) (c : ℕ) (cs : List ℕ) → pattern ≡ p ∷ ps → p ≢ 37
        → text ≡ c ∷ cs → fits p c ≡ true → Fares whole tried from ps cs
    past_character p ps c cs e other t fit =
        let is : matches pattern ≡ first_and_rest (fits p) (matches ps) = ap matches e
        ∙ at_other p ps other in
        record {
          answer = f.answer;
          here = f.here ∙ ap₂ (λ m l. m l) is t ∙ ap (λ b. b && matches ps cs) fit;
          later =
              λ d ds at h. some_rest-next (fits p) (matches ps) c cs
              (sym (ap₂ (λ m l. some_rest m l) is t) ∙ f.later d ds at h);
        }

    -- no character is left for one that is wanted
    pub at_text_end : (p : ℕ) (ps : List ℕ) → pattern ≡ p ∷ ps → p ≢ 37 → text ≡ [] → whole ≡ false
    at_text_end p ps e other t =
        let is : matches pattern ≡ first_and_rest (fits p) (matches ps) = ap matches e
        ∙ at_other p ps other in
        let at_end : matches pattern text ≡ false = ap₂ (λ m l. m l) is t in
        settled_at from f (λ h. ap (matches pattern) t ∙ sym (ap (some_rest (matches pattern)) t) ∙ h)
        ∙ at_end

    pub at_both_ends : pattern ≡ [] → is_end text ≡ true → whole ≡ true
    at_both_ends e ended =
        let t = ends text ended in settled_at from f
        (λ h. ap (matches pattern) t ∙ sym (ap (some_rest (matches pattern)) t) ∙ h) ∙ ap₂ matches e t

    -- a character that does not fit, and one for which no place is left
    pub misfits : (p : ℕ) (ps : List ℕ) (c : ℕ) (cs : List ℕ) → pattern ≡ p ∷ ps → p ≢ 37
        → text ≡ c ∷ cs → fits p c ≡ false → matches pattern text ≡ false
    misfits p ps c cs e other t misfit = ap₂ (λ m l. m l) (ap matches e ∙ at_other p ps other) t
        ∙ ap (λ b. b && matches ps cs) misfit

    -- what does not match is begun again one character later, where there is one
    pub back : matches pattern text ≡ false → (c : ℕ) (cs : List ℕ) → from ≡ c ∷ cs
        → Fares whole tried cs tried cs
    back fails c cs e =
        let not_here : matches tried (c ∷ cs) ≡ false = sym (ap (matches tried) e) ∙ f.here ∙ fails in
        record {
          answer = f.answer ∙ ap (some_rest (matches tried)) e
              ∙ ap (λ b. b || some_rest (matches tried) cs) not_here;
          here = refl;
          later = (begins tried cs).later;
        }

    pub nowhere : matches pattern text ≡ false → from ≡ [] → whole ≡ false
    nowhere fails e = f.answer ∙ ap (some_rest (matches tried)) e ∙ sym (ap (matches tried) e)
        ∙ f.here ∙ fails
