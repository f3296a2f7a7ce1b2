-- Comparisons piece by piece, one after another.
use Rattle.std.proofs.Common.{◌≡◌, ℕ, List, ◌++◌, length, take, drop, Bool, true, false, refl, sym, ap, ◌∙◌}
use Rattle.std.specs.Str.{bytes_eq}
use Rattle.std.proofs.Math.Seq.{take-append_seam}
use Rattle.std.proofs.lemmas.List.{take-append-drop}
use Rattle.ax_mean.specs.declared.query.Step.{Step}
use Rattle.ax_policy.specs.Deciding.{begins_with}
use Rattle.ax_policy.specs.Paths.{steps_text}
use Rattle.ax_policy.proofs.Searching.{same_from_Equal, same_bytes, bytes_eq_same, cmp_same}
use Rattle.std.specs.Cmp.Lexicographic.{slice_cmp}
use Rattle.std.specs.Ordering.{nat_cmp}
use Rattle.std.specs.declared.cmp.Ordering.{Ordering}
use Rattle.ax_policy.specs.Comparing.{GoesOn, Ends}

-- ---- a text that begins so

pub bytes_before : (text piece rest : List ℕ) → GoesOn text piece rest → text ≡ piece ++ rest
bytes_before text piece rest g = same_from_Equal text (piece ++ rest) (g rest ∙ cmp_same rest)

pub begins_ok : (text : List ℕ) (steps : List Step) (rest : List ℕ) → GoesOn text (steps_text steps) rest
    → true ≡ begins_with steps text
begins_ok text steps rest g =
    sym (ap (λ l. bytes_eq (take (length (steps_text steps)) l) (steps_text steps))
    (bytes_before text (steps_text steps) rest g)
    ∙ ap (λ l. bytes_eq l (steps_text steps)) (take-append_seam (steps_text steps) rest)
    ∙ bytes_eq_same (steps_text steps))

pub begins_err : (text : List ℕ) (steps : List Step) (order : Ordering) → Ends text (steps_text steps) order
    → false ≡ begins_with steps text
begins_err text steps order e = by_test (begins_with steps text) refl
  where
    by_test : (b : Bool) → begins_with steps text ≡ b → false ≡ b
    by_test false t = refl
    by_test true t =
        let whole : text ≡ steps_text steps ++ drop (length (steps_text steps)) text =
        sym (take-append-drop (length (steps_text steps)) text)
        ∙ ap (λ l. l ++ drop (length (steps_text steps)) text)
        (same_bytes (take (length (steps_text steps)) text) (steps_text steps) t) in
        absurd (e.1 (sym (e.0 (drop (length (steps_text steps)) text))
        ∙ ap (slice_cmp nat_cmp text) (sym whole) ∙ cmp_same text))
