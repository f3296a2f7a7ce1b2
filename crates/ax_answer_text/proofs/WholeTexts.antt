-- Texts that are read whole: of a document all is there, and it is the one that was read.
use Rattle.std.proofs.Common.{◌≡◌, List, ℕ, Option, Some, None, inl, inr, refl, sym, ap, subst, ◌∙◌, arith, rules}
use Rattle.ax_tree.specs.CanonicalText.{canonical_text}
use Rattle.ax_tree.specs.declared.tree.Tree.{Tree}
use Rattle.ax_tree.proofs.Fitting.{numbers_fit-well_formed}
use Rattle.ax_tree.proofs.OneText.{one_text}
use Rattle.ax_excerpt.specs.Excerpts.{excerpt_of}
use Rattle.ax_excerpt.specs.declared.excerpt.Excerpt as excerpt
use Rattle.ax_excerpt.specs.declared.excerpt.Excerpt.{Excerpt, out-Excerpt}
use Rattle.ax_excerpt.specs.declared.excerpt.Excerpt.TheOpen.{Excerpt-F}
use Rattle.ax_excerpt.specs.declared.excerpt.Excerpt.TheVariants.{rolls-Part, rolls-Whole}
use Rattle.ax_excerpt.specs.declared.excerpt.Excerpt.TheViews.{roll-Excerpt, roll-out-Excerpt}
use Rattle.ax_excerpt_text.specs.Left.{IsReadable}
use Rattle.ax_excerpt_text.specs.Wholes.{IsNoMap}
use Rattle.ax_excerpt_text.proofs.ReadLaws.{other_read}
use Rattle.ax_storable.specs.Storable.{IsStorable}
use Rattle.ax_storable.specs.StoredTexts.{IsStoredText}
use Rattle.ax_answer_text.specs.Parts.{AreReadWhole, IsOfDocument, part_of}

all_left : (tree : Tree) → excerpt_of excerpt.Whole tree ≡ tree
all_left tree = search (rules, excerpt.the_lemmas)

-- an excerpt leaves all of what is no map
no_map_left : (e : Excerpt) (text : List ℕ) (tree : Tree) → IsNoMap text → text ≡ canonical_text tree
    → excerpt_of e tree ≡ tree
no_map_left e text tree none is = subst (λ e. excerpt_of e tree ≡ tree) (roll-out-Excerpt e) (by (out-Excerpt e))
  where
    by : (y : Excerpt-F Excerpt) → excerpt_of (roll-Excerpt y) tree ≡ tree
    by Excerpt-F.Whole = subst (λ e. excerpt_of e tree ≡ tree) (sym rolls-Whole) (all_left tree)
    by (Excerpt-F.Part parts) =
        subst (λ e. excerpt_of e tree ≡ tree) (sym (rolls-Part parts)) (sym (other_read text parts tree (sym none) is))

-- what is read of a document is all of it, where its text is read whole
all_there : (e : Option Excerpt) (text : List ℕ) (tree : Tree) → AreReadWhole e text
    → text ≡ canonical_text tree → part_of e tree ≡ tree
all_there None text tree whole is = refl
all_there (Some e) text tree (inl all) is = ap (λ e. excerpt_of e tree) all ∙ all_left tree
all_there (Some e) text tree (inr none) is = no_map_left e text tree none is

-- a text is that of one document alone
one_document : (text : List ℕ) (found tree : Tree) → IsStoredText text found → text ≡ canonical_text tree
    → IsStorable tree → found ≡ tree
one_document text found tree read is storable =
    one_text found tree (numbers_fit-well_formed found read.storable.well_formed)
    (numbers_fit-well_formed tree storable.well_formed) (sym read.spelled ∙ is)

-- the document that was read whole is what is read of it
pub whole_part : (e : Option Excerpt) (text : List ℕ) (found tree : Tree) → AreReadWhole e text
    → IsStoredText text found → text ≡ canonical_text tree → IsStorable tree → found ≡ part_of e tree
whole_part e text found tree whole read is storable =
    one_document text found tree read is storable ∙ sym (all_there e text tree whole is)

-- the text of a document reads back
pub readable : (tree : Tree) → IsStorable tree → IsReadable tree
readable tree storable = (storable.well_formed, omega (arith, storable.shallow))

pub stored : (text : List ℕ) (tree : Tree) → text ≡ canonical_text tree → IsStorable tree → IsStoredText text tree
stored text tree is storable = record { storable = storable; spelled = is }

pub of_document : (text : List ℕ) (tree : Tree) → IsStoredText text tree → IsOfDocument text
of_document text tree stored = (tree, stored)
