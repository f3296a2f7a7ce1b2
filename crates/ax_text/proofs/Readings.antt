-- What bytes are as a JSON text, by what `serde_json` answers of them.
use Rattle.std.proofs.Common.{◌≡◌, ℕ, List, Bool, true, false, Option, Some, None, option_and_then, IsUtf8, refl, ap, ◌∙◌, if◌then◌else◌}
use Rattle.std.proofs.lemmas.Str.{is_utf8-from_IsUtf8, IsUtf8-from_is_utf8}
use Rattle.std.specs.Str.{is_utf8}
use Rattle.serde_json.specs.Data.{Data}
use Rattle.serde_json.specs.Read.{read}
use Rattle.ax_tree.specs.declared.tree.Tree.{Tree}
use Rattle.ax_text.specs.Reading.{Stands, NotJson, of_tree, of_data, reading}
use Rattle.ax_text.specs.TreeOf.{tree_of}

-- data was read
pub reading-data : (bytes : List ℕ) (d : Data) → IsUtf8 bytes → read bytes ≡ Some d
    → reading bytes ≡ of_tree (tree_of d)
reading-data bytes d utf8 e =
    ap (λ b. if b then of_data (read bytes) else NotJson) (is_utf8-from_IsUtf8 bytes utf8)
    ∙ ap of_data e

of_data_stands : (o : Option Data) (t : Tree) → option_and_then tree_of o ≡ Some t
    → of_data o ≡ Stands t
of_data_stands None t e = absurd (cc)
of_data_stands (Some d) t e = ap of_tree e

-- data was read that has a tree
pub reading-stands : (bytes : List ℕ) (t : Tree) → IsUtf8 bytes
    → option_and_then tree_of (read bytes) ≡ Some t → reading bytes ≡ Stands t
reading-stands bytes t utf8 e =
    ap (λ b. if b then of_data (read bytes) else NotJson) (is_utf8-from_IsUtf8 bytes utf8)
    ∙ of_data_stands (read bytes) t e

refused_at : (bytes : List ℕ) (b : Bool) → is_utf8 bytes ≡ b → (IsUtf8 bytes → read bytes ≡ None)
    → (if b then of_data (read bytes) else NotJson) ≡ NotJson
refused_at bytes true is refused = ap of_data (refused (IsUtf8-from_is_utf8 bytes is))
refused_at bytes false is refused = refl

-- nothing was read
pub reading-refused : (bytes : List ℕ) → (IsUtf8 bytes → read bytes ≡ None)
    → reading bytes ≡ NotJson
reading-refused bytes refused = refused_at bytes (is_utf8 bytes) refl refused
