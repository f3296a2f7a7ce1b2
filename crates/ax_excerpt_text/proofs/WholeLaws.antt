-- The canonical text of a tree that reads back stands for that tree alone.
use Rattle.std.proofs.Common.{◌≡◌, ◌≢◌, ◌≤◌, ℕ, List, Option, Some, None, Result, Ok, Err, IfOk, IfErr, IsErr, IfSome, refl, sym, ap, subst, ◌∙◌, arith, rules}
use Rattle.std.specs.Str.{is_utf8, IsUtf8}
use Rattle.std.proofs.lemmas.Bool.{false≢true}
use Rattle.std.proofs.lemmas.Str.{is_utf8-from_IsUtf8}
use Rattle.ax_tree.specs.declared.tree.Tree.{Tree}
use Rattle.ax_tree.specs.declared.tree.Tree as tree
use Rattle.ax_tree.specs.CanonicalText.{canonical_text}
use Rattle.ax_tree.specs.declared.out_of_memory.Memory.{Memory}
use Rattle.ax_tree.specs.Nesting.{nesting}
use Rattle.ax_tree.specs.WellFormed.{IsWellFormed, is_well_formed}
use Rattle.ax_text.specs.declared.text_fault.TextFault.{TextFault}
use Rattle.ax_text.specs.declared.text_fault.TextFault.TheVariants as fault
use Rattle.ax_text.specs.Reading.{reading, Stands, NotJson, NotWhole}
use Rattle.ax_text.proofs.RoundTrip.{text-stands}
use Rattle.ax_skim.specs.declared.scalar.Scalar.{Scalar}
use Rattle.ax_skim.specs.declared.scalar.Scalar.TheVariants as scalar
use Rattle.ax_skim.specs.Scalars.{scalar_tree}
use Rattle.ax_excerpt_text.specs.Left.{IsReadable}
use Rattle.ax_excerpt_text.specs.Wholes.{tree_in, tree_read}

stands : (tree : Tree) (text : List ℕ) → text ≡ canonical_text tree → IsReadable tree
    → reading text ≡ Stands tree
stands tree text is readable = ap reading is ∙ text-stands tree readable.0 readable.1

pub is_stood : (found : Tree) (text : List ℕ) → reading text ≡ Stands found → Some found ≡ tree_read text
is_stood found text told = sym (ap tree_in told)

pub no_json : (text : List ℕ) → reading text ≡ NotJson → None ≡ tree_read text
no_json text told = sym (ap tree_in told)

pub not_whole : (text : List ℕ) → reading text ≡ NotWhole → None ≡ tree_read text
not_whole text told = sym (ap tree_in told)

-- what is read of the canonical text of a tree is the tree
pub read_so : (found : Option Tree) (text : List ℕ) → found ≡ tree_read text
    → (tree : Tree) → text ≡ canonical_text tree → IsReadable tree → found ≡ Some tree
read_so found text read tree is readable = read ∙ ap tree_in (stands tree text is readable)

-- what is told of the reader's answer
if_none : {X E : Type 0} (P : X → Type 0) (made : Result X E) → IsErr made → IfOk made P
if_none P (Ok x) err = absurd (false≢true err)
if_none P (Err fault) err = tt

pub told_read : (read : Result Tree TextFault) (made : Result (Option Tree) Memory) (text : List ℕ)
    → IfOk read (λ tree. reading text ≡ Stands tree) → (read ≡ Err fault.Json → reading text ≡ NotJson)
    → (read ≡ Err fault.Number → reading text ≡ NotWhole) → IfOk read (λ tree. made ≡ Ok (Some tree))
    → IfErr read (λ cause. cause ≢ fault.Memory → made ≡ Ok None)
    → IfErr read (λ cause. cause ≡ fault.Memory → IsErr made)
    → IfOk made (λ found. found ≡ tree_read text)
told_read (Ok found) made text is json number tree none memory =
    subst (λ m. IfOk m (λ f. f ≡ tree_read text)) (sym tree) (is_stood found text is)
told_read (Err fault.Json) made text is json number tree none memory =
    subst (λ m. IfOk m (λ f. f ≡ tree_read text)) (sym (none (λ e. cc))) (no_json text (json refl))
told_read (Err fault.Number) made text is json number tree none memory =
    subst (λ m. IfOk m (λ f. f ≡ tree_read text)) (sym (none (λ e. cc))) (not_whole text (number refl))
told_read (Err fault.Memory) made text is json number tree none memory =
    if_none (λ f. f ≡ tree_read text) made (memory refl)

pub all_so : (made : Result (Option Tree) Memory) (text : List ℕ)
    → IfOk made (λ found. found ≡ tree_read text)
    → IfOk made (λ found. (tree : Tree) → text ≡ canonical_text tree → IsReadable tree → found ≡ Some tree)
all_so (Ok found) text read = read_so found text read
all_so (Err fault) text read = tt

-- ---- scalars

no_nesting : (s : Scalar) → nesting (scalar_tree s) ≡ 0
no_nesting scalar.Null = search (rules, tree.the_lemmas)
no_nesting (scalar.Truth value) = search (rules, tree.the_lemmas)
no_nesting (scalar.Number value) = search (rules, tree.the_lemmas)
no_nesting (scalar.Text value) = search (rules, tree.the_lemmas)

-- a scalar that is well formed is what its text stands for
pub scalar_read : (s : Scalar) (found : Tree) (text : List ℕ) → text ≡ canonical_text (scalar_tree s)
    → (found ≡ scalar_tree s) × IsWellFormed found → tree_read text ≡ Some found
scalar_read s found text is made =
    ap tree_in (stands found text (is ∙ ap canonical_text (sym made.0))
    (made.1, small (ap nesting made.0 ∙ no_nesting s)))
  where
    small : {n : ℕ} → n ≡ 0 → n ≤ 127
    small e = omega (arith, e)

pub at_once : (s : Scalar) (made : Result (Option Tree) Memory) (text : List ℕ)
    → text ≡ canonical_text (scalar_tree s)
    → IfOk made (λ found. IfSome found (λ tree. (tree ≡ scalar_tree s) × IsWellFormed tree))
    → IfOk made (λ found. IfSome found (λ tree. tree_read text ≡ Some tree))
at_once s (Ok (Some tree)) text is made = scalar_read s tree text is made
at_once s (Ok None) text is made = tt
at_once s (Err fault) text is made = tt

text_formed : (bytes : List ℕ) → is_well_formed (tree.Text bytes) ≡ is_utf8 bytes
text_formed bytes = search (rules, tree.the_lemmas)

pub text_well_formed : (bytes : List ℕ) → IsUtf8 bytes → IsWellFormed (tree.Text bytes)
text_well_formed bytes own = text_formed bytes ∙ is_utf8-from_IsUtf8 bytes own
