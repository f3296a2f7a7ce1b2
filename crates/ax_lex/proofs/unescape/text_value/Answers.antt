use Rattle.std.proofs.Common.{◌≡◌, refl, true, false, ap, sym, ◌∙◌, length}
use Rattle.std.specs.Prelude.{string_bytes}
use Rattle.std.specs.Str.{is_utf8}
use Rattle.std.proofs.lemmas.Bool.{eqb-true, false≢true}
use Rattle.std.proofs.lemmas.Str.{IsUtf8-string_bytes, is_utf8-from_IsUtf8}
use Rattle.ax_lex.proofs.Values.{text_read, not_utf8, value_found}
use Rattle.ax_lex.proofs.unescape.text_value.Goals as goal

pub returns-in_default-from_utf8-clause-refused : goal.returns-in_default-from_utf8-clause-refused
returns-in_default-from_utf8-clause-refused c e =
    let after = c.in_ok-value.after.now in
    let over : length after ≡ 0 = eqb-true (length after) 0 (sym c.is_empty.ensures
    ∙ c.if-not-is_empty.false) in
    let none : is_utf8 c.in_ok-value.value.items ≡ false = not_utf8 _ (λ u. absurd (false≢true
    (c.in_default-from_utf8.ensures.succeeds u))) in
    text_read _ _ c.args.bytes.now _ after
    c.in-Some.ensures.cases.0 c.in-Quote.ensures c.in_ok-value.ensures.ok over
    ∙ rw none refl

pub returns-clause-ok : goal.returns-clause-ok
returns-clause-ok c =
    let after = c.in_ok-value.after.now in
    let over : length after ≡ 0 = eqb-true (length after) 0 (sym c.is_empty.ensures
    ∙ c.if-not-is_empty.false) in
    let same : c.in_ok-value.value.items ≡ string_bytes c.in-Ok.value = ap (λ v. v.items)
    (sym c.in-Ok.ensures.ok) in
    let some : is_utf8 c.in_ok-value.value.items ≡ true = rw same (is_utf8-from_IsUtf8 _
    (IsUtf8-string_bytes c.in-Ok.value)) in
    text_read _ _ c.args.bytes.now _ after
    c.in-Some.ensures.cases.0 c.in-Quote.ensures c.in_ok-value.ensures.ok over
    ∙ rw some (ap value_found same)
