-- The text of a refusal, by the digits of its number.
use Rattle.std.proofs.Common.{◌≡◌, ℕ, ◌+◌, ◌<◌, List, [], ◌∷◌, ◌++◌, codes, sym, ap, ◌∙◌, arith}
use Rattle.std.specs.Fmt.{decimal}
use Rattle.std.proofs.lemmas.Fmt.{decimal_digit, decimal_step}
use Rattle.ax_lines.specs.Refusals.{number_of, word_of}
use Rattle.ax_lines.specs.ScriptLines.{with_newline}
use Rattle.ax_lines.specs.declared.refusal.Refusal.{Refusal}
use Rattle.ax_machine.specs.ReplyTexts.{refusal_text}

pub text_is : (given why : Refusal) (digits : List ℕ) → given ≡ why → decimal (number_of why) ≡ digits
    → with_newline (codes "err " ++ digits ++ codes " " ++ word_of why) ≡ refusal_text given
text_is given why digits is spelled =
    ap (λ d. with_newline (codes "err " ++ d ++ codes " " ++ word_of why)) (sym spelled) ∙ ap refusal_text (sym is)

pub digit : (n : ℕ) → n < 10 → decimal n ≡ (48 + n) ∷ []
digit = decimal_digit

pub ten : decimal 10 ≡ 49 ∷ 48 ∷ []
ten = decimal_step 10 (omega arith) (omega arith) ∙ ap (λ d. d ++ 48 ∷ []) (decimal_digit 1 (omega arith))

pub eleven : decimal 11 ≡ 49 ∷ 49 ∷ []
eleven = decimal_step 11 (omega arith) (omega arith) ∙ ap (λ d. d ++ 49 ∷ []) (decimal_digit 1 (omega arith))

pub fifteen : decimal 15 ≡ 49 ∷ 53 ∷ []
fifteen = decimal_step 15 (omega arith) (omega arith) ∙ ap (λ d. d ++ 53 ∷ []) (decimal_digit 1 (omega arith))
