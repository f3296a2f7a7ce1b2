-- Parameters that are kept as values, one after another.
use Rattle.std.proofs.Common.{◌≡◌, ℕ, List, [], ◌∷◌, ◌++◌, refl, ap, ◌∙◌, append_assoc}
use Rattle.ax_tree.specs.declared.members.Member.{Member}
use Rattle.ax_tree.specs.declared.tree.Tree.{Tree}
use Rattle.ax_mean.specs.declared.value.Value.{Value}
use Rattle.ax_mean.specs.declared.value.Value.TheVariants.{Undefined, Defined}
use Rattle.ax_parse.specs.Params.{with_given, given}

with_given_before : (name : List ℕ) (value : Value) (ms more : List (Member Tree))
    → with_given name value (ms ++ more) ≡ with_given name value ms ++ more
with_given_before name Undefined ms more = refl
with_given_before name (Defined tree) ms more = refl

given_after : (ms : List (Member Value)) (m : Member Value) (tree : Tree)
    → m.value ≡ Defined tree
    → given (ms ++ m ∷ []) ≡ given ms ++ record { name = m.name; value = tree } ∷ []
given_after [] m tree e = ap (λ value. with_given m.name value []) e
given_after (n ∷ ms) m tree e =
    ap (with_given n.name n.value) (given_after ms m tree e)
    ∙ with_given_before n.name n.value (given ms) (record { name = m.name; value = tree } ∷ [])

-- one more is kept, and one less is left
pub given_more : (ms : List (Member Value)) (m : Member Value) (p : Member Tree)
    (rest whole : List (Member Tree)) → m.name ≡ p.name → m.value ≡ Defined p.value
    → given ms ++ p ∷ rest ≡ whole → given (ms ++ m ∷ []) ++ rest ≡ whole
given_more ms m p rest whole name value e =
    ap (λ l. l ++ rest)
    (given_after ms m p.value value
    ∙ ap (λ (n : List ℕ). given ms ++ record { name = n; value = p.value } ∷ []) name)
    ∙ append_assoc (given ms) (p ∷ []) rest
    ∙ e
