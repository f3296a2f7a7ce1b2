-- What an answer's sorting and DISTINCT come to, in words of their own. As ORDER BY and DISTINCT of
-- Azure Cosmos DB for NoSQL.
use Rattle.std.specs.Prelude.{◌≡◌, ⊤, ℕ, List, [], ◌∷◌, Bool, false}
use Rattle.std.specs.declared.cmp.Ordering.{Ordering}
use Rattle.std.specs.List.{AllByRecursion, list_any}
use Rattle.std.specs.Ordering.{is_lt}
use Rattle.std.specs.Str.{bytes_eq}
use Rattle.ax_tree.specs.CanonicalText.{canonical_text}
use Rattle.ax_mean.specs.declared.query.KeyedRow.{KeyedRow}

-- no element is before one that stands in front of it
abbrev pub AreInOrder : {X : Type 0} → (X → X → Ordering) → List X → Type 0
AreInOrder cmp [] = ⊤
AreInOrder cmp (x ∷ xs) = AllByRecursion (λ y. is_lt (cmp y x) ≡ false) xs × AreInOrder cmp xs

abbrev pub text_of : KeyedRow → List ℕ
text_of row = canonical_text row.shown

-- whether one of the rows shows that text
abbrev pub shows : List ℕ → List KeyedRow → Bool
shows text = list_any (λ row. bytes_eq (text_of row) text)
