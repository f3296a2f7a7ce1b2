-- The first 129 bytes of a text tell what a term keeps of it.
use Rattle.std.proofs.Common.{◌≡◌, ℕ, List, length, take, min, nat_lt, arith, ap, ◌∙◌}
use Rattle.std.proofs.lemmas.Bool.Decides.{nat_tests}
use Rattle.std.proofs.lemmas.List.{length-take, take-take, take_min}
use Rattle.ax_term.specs.CutTexts.{cut}

is_cut_alike : (n : ℕ) → nat_lt 128 (min 129 n) ≡ nat_lt 128 n
is_cut_alike n = grind (arith, nat_tests)

pub telling : (text : List ℕ) → cut (take 129 text) ≡ cut text
telling text =
    λ i. record {
      front = take-take 128 129 text (omega arith) i;
      is_cut = let e : nat_lt 128 (length (take 129 text)) ≡ nat_lt 128 (length text) =
          ap (nat_lt 128) (length-take 129 text) ∙ is_cut_alike (length text) in e i;
    }

pub telling_front : (text : List ℕ) → cut (take (min 129 (length text)) text) ≡ cut text
telling_front text = ap cut (take_min 129 text) ∙ telling text
