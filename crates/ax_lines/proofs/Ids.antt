-- The argument of a line that is an id: when it is refused, and when it is one.
use Rattle.std.proofs.Common.{◌≡◌, ℕ, List, true, cond, not, Result, Err, IsUtf8, ap, ◌∙◌}
use Rattle.std.proofs.lemmas.Bool.{false_from_ne_true}
use Rattle.std.proofs.lemmas.Str.{is_utf8-from_IsUtf8, IsUtf8-from_is_utf8}
use Rattle.std.specs.Str.{is_utf8}
use Rattle.ax_tree.specs.Document.{is_id}
use Rattle.ax_lines.specs.declared.line.Line.{Line}
use Rattle.ax_lines.specs.declared.refusal.Refusal.{Refusal}
use Rattle.ax_lines.specs.declared.refusal.Refusal.TheVariants as refusal
use Rattle.ax_lines.specs.Asked.{IsIdText}
use Rattle.ax_lines.specs.Causes.{unless}
use Rattle.ax_lines.specs.Lines.{id_causes}

abbrev no_id : Result Line Refusal
no_id = Err refusal.Id

pub refused_bytes : (id : List ℕ) (answer : Result Line Refusal) → (IsUtf8 id → ⊥)
    → unless (id_causes id) answer ≡ no_id
refused_bytes id answer none =
    ap (λ b. cond (not b) no_id (cond (not (is_id id)) no_id answer))
    (false_from_ne_true (is_utf8 id) (λ is. none (IsUtf8-from_is_utf8 id is)))

pub not_refused : (id : List ℕ) (answer : Result Line Refusal) → IsUtf8 id → is_id id ≡ true
    → unless (id_causes id) answer ≡ answer
not_refused id answer utf8 allowed =
    ap (λ b. cond (not b) no_id (cond (not (is_id id)) no_id answer)) (is_utf8-from_IsUtf8 id utf8)
    ∙ ap (λ b. cond (not b) no_id answer) allowed

pub is_id_text : (id text : List ℕ) → text ≡ id → IsUtf8 id → is_id id ≡ true → IsIdText text
is_id_text id text same utf8 allowed = record {
  utf8 = ap is_utf8 same ∙ is_utf8-from_IsUtf8 id utf8;
  allowed = ap is_id same ∙ allowed;
}
