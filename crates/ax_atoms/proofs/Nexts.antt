-- The next path and the next bytes, told by what stands last.
use Rattle.std.proofs.Common.{◌≡◌, ℕ, ◌+◌, ◌<◌, ◌≤◌, List, [], ◌∷◌, ◌++◌, false, cond, take, min, length, refl, sym, ap, ◌∙◌, arith}
use Rattle.std.proofs.lemmas.Bool.{lt-ltb, le-ltb}
use Rattle.std.proofs.lemmas.List.{length-take, take_all, take_min}
use Rattle.ax_term.specs.CutTexts.{cut}
use Rattle.ax_mean.specs.declared.query.Step.{Step}
use Rattle.ax_atoms.specs.Spans.{next_bytes, next_path, next_step, raised_front}

pub path_next_last : (p : List Step) (last : Step)
    → next_path (p ++ last ∷ []) ≡ p ++ next_step last ∷ []
path_next_last [] last = refl
path_next_last (s ∷ []) last = refl
path_next_last (s ∷ t ∷ p) last = ap (λ q. s ∷ q) (path_next_last (t ∷ p) last)

front_raised : (b : ℕ) (xs : List ℕ) (c : ℕ) → raised_front b (xs ++ c ∷ []) ≡ b ∷ (xs ++ c ∷ [])
front_raised b [] c = refl
front_raised b (x ∷ xs) c = refl

pub bytes_raised : (p : List ℕ) (last : ℕ) → last < 255 → next_bytes (p ++ last ∷ []) ≡ p ++ (last + 1) ∷ []
bytes_raised [] last h = ap (λ b. cond b ((last + 1) ∷ []) []) (lt-ltb last 255 h)
bytes_raised (b ∷ p) last h =
    ap (raised_front b) (bytes_raised p last h) ∙ front_raised b p (last + 1)

pub bytes_dropped : (p : List ℕ) (last : ℕ) → 255 ≤ last → next_bytes (p ++ last ∷ []) ≡ next_bytes p
bytes_dropped [] last h = ap (λ b. cond b ((last + 1) ∷ []) []) (le-ltb last 255 h)
bytes_dropped (b ∷ p) last h = ap (raised_front b) (bytes_dropped p last h)

pub front_taken_whole : (text : List ℕ) → take (min (length text) 128) text ≡ take 128 text
front_taken_whole text = let e : min (length text) 128 ≡ min 128 (length text) = omega arith in
    ap (λ n. take n text) e ∙ take_min 128 text

pub short_front : (text : List ℕ) → length (take 128 text) ≤ 128
short_front text = let e : length (take 128 text) ≡ min 128 (length text) = length-take 128 text in omega (arith, e)

pub short_cut : (front : List ℕ) → length front ≤ 128 → cut front ≡ record { front = front; is_cut = false }
short_cut front short =
    λ i. record { front = take_all 128 front short i; is_cut = le-ltb 128 (length front) short i }

pub dropped : (left before front : List ℕ) (last : ℕ) → left ≡ before ++ last ∷ [] → 255 ≤ last
    → next_bytes left ≡ next_bytes front → next_bytes before ≡ next_bytes front
dropped left before front last is high all = sym (bytes_dropped before last high) ∙ sym (ap next_bytes is) ∙ all

pub raised : (left before front : List ℕ) (last : ℕ) → left ≡ before ++ last ∷ [] → last < 255
    → next_bytes left ≡ next_bytes front → before ++ (last + 1) ∷ [] ≡ next_bytes front
raised left before front last is low all = sym (bytes_raised before last low) ∙ sym (ap next_bytes is) ∙ all
