-- Stretches and words: what is read is what the grammar has.
use Rattle.std.proofs.Common.{◌≡◌, ℕ, ◌+◌, ◌-◌, ◌<◌, ◌≤◌, ◌&&◌, leb, nat_lt, Bool, true, false, List, [], ◌∷◌, ◌++◌, length, take, cond, length-append, Option, Some, None, refl, ap, subst, ◌∙◌, arith}
use Rattle.std.proofs.Math.Seq.{take-append_seam}
use Rattle.std.proofs.lemmas.Bool.{le-leb, lt-leb, leb-true, ltb-true, ltb-false}
use Rattle.ax_lex.specs.Bytes.{is_letter, is_word_byte}
use Rattle.ax_lex.specs.Reading.{stretch_of, after_stretch, read_word}
use Rattle.ax_lex.specs.Tokens.{begins, IsStretch, IsWord}
use Rattle.ax_lex.specs.Tokens.IsStretch.{ended, more}
use Rattle.ax_lex.specs.Tokens.IsWord.{word}
use Rattle.ax_lex.proofs.Options.{chosen, both}

stretch_step : (is_in : ℕ → Bool) (byte : ℕ) (rest : List ℕ)
    → IsStretch is_in (stretch_of is_in rest) rest (after_stretch is_in rest) → (b : Bool) → is_in byte ≡ b
    → IsStretch is_in (stretch_of is_in (byte ∷ rest)) (byte ∷ rest) (after_stretch is_in (byte ∷ rest))
stretch_step is_in byte rest was true e = rw e (more e was)
stretch_step is_in byte rest was false e = rw e (ended e)

-- what is read as a stretch is one
pub stretch_sound : (is_in : ℕ → Bool) (bytes : List ℕ)
    → IsStretch is_in (stretch_of is_in bytes) bytes (after_stretch is_in bytes)
stretch_sound is_in [] = ended refl
stretch_sound is_in (byte ∷ rest) = stretch_step is_in byte rest (stretch_sound is_in rest) (is_in byte) refl

pub record StretchIs (is_in : ℕ → Bool) (stretch before after : List ℕ) : Type 0 where
  pub front : stretch_of is_in before ≡ stretch
  pub rest : after_stretch is_in before ≡ after

none_here : (is_in : ℕ → Bool) (after : List ℕ) → begins is_in after ≡ false
    → StretchIs is_in [] after after
none_here is_in [] e = record { front = refl; rest = refl }
none_here is_in (byte ∷ rest) e = record { front = rw e refl; rest = rw e refl }

-- a stretch is what is read
pub stretch_complete : (is_in : ℕ → Bool) {stretch before after : List ℕ} → IsStretch is_in stretch before after
    → StretchIs is_in stretch before after
stretch_complete is_in (ended {after} e) = none_here is_in after e
stretch_complete is_in (more {byte} {stretch} {before} {after} e r) =
    let was : StretchIs is_in stretch before after = stretch_complete is_in r in
    record { front = rw e (ap (λ bs. byte ∷ bs) was.front); rest = rw e was.rest }

-- a stretch and what is after it are what was before it
pub stretch_front : {is_in : ℕ → Bool} {stretch before after : List ℕ} → IsStretch is_in stretch before after
    → before ≡ stretch ++ after
stretch_front (ended e) = refl
stretch_front (more {byte} e r) = ap (λ bs. byte ∷ bs) (stretch_front r)

pub stretch_shorter : {is_in : ℕ → Bool} {stretch before after : List ℕ} → IsStretch is_in stretch before after
    → length after ≤ length before
stretch_shorter (ended e) = omega arith
stretch_shorter (more e r) = omega (arith, stretch_shorter r)

-- what is read as a word is one
pub word_sound : (bytes : List ℕ) (found : List ℕ × List ℕ) → read_word bytes ≡ Some found
    → IsWord found.0 bytes found.1
word_sound [] found e = absurd (cc)
word_sound (first ∷ rest) found e =
    let c : ((is_letter first && leb (length (first ∷ stretch_of is_word_byte rest)) 255) ≡ true) ×
    ((first ∷ stretch_of is_word_byte rest, after_stretch is_word_byte rest) ≡ found) = chosen _ _ _ e in
    let b : (is_letter first ≡ true) × (leb (length
    (first ∷ stretch_of is_word_byte rest)) 255 ≡ true) = both _ _ c.0 in
    subst (λ (found : List ℕ × List ℕ). IsWord found.0 (first ∷ rest) found.1) c.1
    (word b.0 (stretch_sound is_word_byte rest) (leb-true _ _ b.1))

-- a word is what is read
pub word_complete : {text before after : List ℕ} → IsWord text before after
    → read_word before ≡ Some (text, after)
word_complete (word {first} {stretch} {before} {after} letter r fits) =
    let was : StretchIs is_word_byte stretch before after = stretch_complete is_word_byte r in
    rw (letter, was.front, was.rest, le-leb (length (first ∷ stretch)) 255 fits) refl

pub word_front : {text before after : List ℕ} → IsWord text before after → before ≡ text ++ after
word_front (word {first} letter r fits) = ap (λ bs. first ∷ bs) (stretch_front r)

pub word_shorter : {text before after : List ℕ} → IsWord text before after
    → length after < length before
word_shorter (word letter r fits) = omega (arith, stretch_shorter r)

pub record WordBegins (before : List ℕ) : Type 0 where
  pub first : ℕ
  pub rest : List ℕ
  pub begins_so : before ≡ first ∷ rest
  pub letter : is_letter first ≡ true

pub word_begins : {text before after : List ℕ} → IsWord text before after → WordBegins before
word_begins (word {first} {stretch} {before} letter r fits) =
    record { first = first; rest = before; begins_so = refl; letter = letter }

-- ---- what the code takes off the front

stretch_length : (is_in : ℕ → Bool) (bytes : List ℕ)
    → length bytes ≡ length (stretch_of is_in bytes) + length (after_stretch is_in bytes)
stretch_length is_in bytes = ap length (stretch_front (stretch_sound is_in bytes))
    ∙ length-append (stretch_of is_in bytes) (after_stretch is_in bytes)

abbrev word_found : List ℕ → List ℕ → Option (List ℕ × List ℕ)
word_found text after = Some (text, after)

pub word_too_long : (first : ℕ) (rest bytes after : List ℕ) → bytes ≡ first ∷ rest
    → after ≡ after_stretch is_word_byte rest → nat_lt 255 (length bytes - length after) ≡ true
    → None ≡ read_word bytes
word_too_long first rest bytes after e a h =
    let l : length rest ≡ length (stretch_of is_word_byte rest) + length
    (after_stretch is_word_byte rest) = stretch_length is_word_byte rest in
    let over : 255 < length bytes - length after = ltb-true 255 _ h in
    let long : leb (length (first ∷ stretch_of is_word_byte rest)) 255 ≡ false = lt-leb _ 255 (omega
    (arith, ap length e, ap length a)) in
    rw e (too_long (is_letter first) long)
  where
    too_long : (b : Bool) → leb (length (first ∷ stretch_of is_word_byte rest)) 255 ≡ false
        → None ≡ cond (b && leb (length (first ∷ stretch_of is_word_byte rest)) 255) (word_found
        (first ∷ stretch_of is_word_byte rest) (after_stretch is_word_byte rest)) None
    too_long true l = rw l refl
    too_long false l = refl

pub word_taken : (first : ℕ) (rest bytes after : List ℕ) → bytes ≡ first ∷ rest
    → after ≡ after_stretch is_word_byte rest → is_letter first ≡ true
    → nat_lt 255 (length bytes - length after) ≡ false
    → word_found (take (length bytes - length after) bytes) after ≡ read_word bytes
word_taken first rest bytes after e a letter h =
    let l : length rest ≡ length (stretch_of is_word_byte rest) + length
    (after_stretch is_word_byte rest) = stretch_length is_word_byte rest in
    let fits : length bytes - length after ≤ 255 = ltb-false 255 _ h in
    let short : leb (length (first ∷ stretch_of is_word_byte rest)) 255 ≡ true = le-leb _ 255 (omega
    (arith, ap length e, ap length a)) in
    let n : length bytes - length after ≡ length (first ∷ stretch_of is_word_byte rest) = omega
    (arith, ap length e, ap length a) in
    let whole : bytes ≡ (first ∷ stretch_of is_word_byte rest) ++ after_stretch is_word_byte rest = e
    ∙ ap (λ bs. first ∷ bs) (stretch_front (stretch_sound is_word_byte rest)) in
    let front : take (length bytes - length after) bytes ≡ first ∷ stretch_of is_word_byte rest =
    ap (λ k. take k bytes) n ∙ ap (take (length (first ∷ stretch_of is_word_byte rest))) whole
    ∙ take-append_seam (first ∷ stretch_of is_word_byte rest) (after_stretch is_word_byte rest) in
    ap (λ bs. word_found bs after) front ∙ ap (word_found (first ∷ stretch_of is_word_byte rest)) a
    ∙ rw (e, letter, short) refl
