-- The spans of the tokens of a text rise.
use Rattle.std.proofs.Common.{◌≡◌, ℕ, ◌-◌, ◌≤◌, List, [], ◌∷◌, length, subst, sym, arith}
use Rattle.ax_lex.specs.declared.token.Token.{Token}
use Rattle.ax_lex.specs.Lexeme.{Lexeme}
use Rattle.ax_lex.specs.Spans.{SpansRise}
use Rattle.ax_lex.specs.Tokens.{HasTokens}
use Rattle.ax_lex.specs.Tokens.HasTokens.{ended, space, token}
use Rattle.ax_lex.proofs.TokenLaws.{token_shorter}

rise_lower : (low lower high : ℕ) (tokens : List Token) → lower ≤ low
    → SpansRise low tokens high → SpansRise lower tokens high
rise_lower low lower high [] h r = omega arith
rise_lower low lower high (first ∷ tokens) h r = (omega (arith, r.0), r.1, r.2)

pub spans_rise : {total : ℕ} {before : List ℕ} {tokens : List Token} {lexemes : List Lexeme}
    → HasTokens total before tokens lexemes → length before ≤ total
    → SpansRise (total - length before) tokens total
spans_rise ended h = omega arith
spans_rise {total} (space {byte} {before} {tokens} c p) h =
    rise_lower (total - length before) (total - length (byte ∷ before)) total tokens
    (omega arith) (spans_rise p (omega arith))
spans_rise {total} (token {token = first} {after = after} {tokens = tokens} s r) h =
    let was : SpansRise (total - length after) tokens total = spans_rise r (omega
    (arith, token_shorter s.reads)) in (
      omega (arith, s.start),
      omega (arith, s.start, s.end, token_shorter s.reads),
      subst
          (λ low. SpansRise low tokens total) (sym s.end) was,
    )

pub all_rise : (text : List ℕ) (tokens : List Token) (lexemes : List Lexeme)
    → HasTokens (length text) text tokens lexemes → SpansRise 0 tokens (length text)
all_rise text tokens lexemes h =
    let none : length text - length text ≡ 0 = omega arith in
    subst (λ low. SpansRise low tokens (length text)) none (spans_rise h (omega arith))
