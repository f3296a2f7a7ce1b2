-- The example of the format is in the grammar: its document can be stored, and its delta is one.
use Rattle.std.proofs.Common.{◌≡◌, ℕ, zero, suc, ◌<◌, ◌^◌, arith, List, [], ◌∷◌, ◌++◌}
use Rattle.std.proofs.Common.{true, refl, sym, ap, ◌∙◌, rules}
use Rattle.std.specs.Prelude.{◌&&◌, codes, length, map, nat_le, slice_index, slice_index_or, sum_by}
use Rattle.std.specs.Set.{unique_keys}
use Rattle.std.specs.Str.{bytes_eq, is_utf8}
use Rattle.std.proofs.lemmas.Bool.{and_from}
use Rattle.std.proofs.lemmas.Str.{IsUtf8-from_ascii, is_utf8-from_IsUtf8}
use Rattle.std.specs.List.{AllByRecursion}
use Rattle.json.specs.Print.{quoted, escape_byte}
use Rattle.ax_tree.specs.declared.members.Member.{Member}
use Rattle.ax_tree.specs.declared.tree.Tree as tree
use Rattle.ax_tree.specs.declared.tree.Tree.{Tree}
use Rattle.ax_tree.specs.declared.tree.Tree.TheVariants as trees
use Rattle.ax_tree.specs.CanonicalText.{canonical_text, in_brackets}
use Rattle.ax_tree.specs.Document.{IsDocument}
use Rattle.ax_tree.specs.Nesting.{nesting}
use Rattle.ax_tree.specs.WellFormed.{IsWellFormed, is_well_formed}
use Rattle.ax_tree.specs.Nesting.{greatest}
use Rattle.ax_storable.specs.IndexLimits.{fits_within, most_path_bytes}
use Rattle.ax_storable.specs.ShortNames.{has_short_names}
use Rattle.ax_mean.specs.declared.query.Step.{Step}
use Rattle.ax_mean.specs.declared.query.Step.TheVariants.{Name}
use Rattle.ax_mean.specs.declared.value.Value.TheVariants.{Defined}
use Rattle.ax_term.specs.CutTexts.{cut}
use Rattle.ax_term.specs.CutValues.{CutValue, cut_of}
use Rattle.ax_term.specs.TermBytes.{term_bytes}
use Rattle.ax_term.specs.Terms.{Term}
use Rattle.ax_terms.specs.Counts.{distinct_terms, path_size}
use Rattle.ax_terms.specs.Leaves.{Leaf, leaves}
use Rattle.ax_gap.specs.Gaps.{gaps, gaps_from}
use Rattle.ax_gap.specs.Varint.{varint, groups}
use Rattle.ax_leaf.specs.Payload.{term_after}
use Rattle.ax_delta.specs.Changes.{TermChange}
use Rattle.ax_delta.specs.Payload.{delta, list_after, AreDisjoint}
use Rattle.ax_area.specs.Contents.{Contents, no_contents}
use Rattle.ax_area.specs.Sample.{sample, sample_text, sample_delta, sample_told}
use Rattle.ax_area.specs.Told.{Lead, changes_of}
use Rattle.ax_area.proofs.SampleSays.{sample_says}
use Rattle.ax_image_grammar.specs.Grammar.{IsGrammatical}
use Rattle.ax_image_grammar.specs.Payloads.{IsDocumentText, IsDeltaPayload}
use Rattle.ax_image_grammar.specs.Writes.{KeepsTo}
use Rattle.ax_image_grammar.proofs.Commits.{apart_after}
use Rattle.ax_image_grammar.proofs.Fresh.{none_apart}

-- ---- the document

members : List (Member Tree)
members = record { name = codes "id"; value = trees.Text (codes "a") } ∷ []

sample_tree : Tree
sample_tree = trees.Object members

text_of_text : (text : List ℕ) → canonical_text (trees.Text text) ≡ quoted text
text_of_text text = search (rules, tree.the_lemmas)

text_of_map : canonical_text sample_tree
    ≡ in_brackets 123 125 ((quoted (codes "id") ++ 58 ∷ canonical_text (trees.Text (codes "a"))) ∷
    [])
unfolding sample_tree members
text_of_map = search (rules, tree.the_lemmas)

text_is : canonical_text sample_tree ≡ sample_text
unfolding escape_byte
text_is =
    text_of_map
    ∙ ap (λ value. in_brackets 123 125 ((quoted (codes "id") ++ 58 ∷ value) ∷ []))
    (text_of_text (codes "a"))

is_document : IsDocument sample_tree
unfolding sample_tree members
is_document = search (rules, tree.the_lemmas)

id_ascii : (i : ℕ) → slice_index (codes "id") i < 128
id_ascii zero = omega arith
id_ascii (suc zero) = omega arith
id_ascii (suc (suc i)) = omega arith

a_ascii : (i : ℕ) → slice_index (codes "a") i < 128
a_ascii zero = omega arith
a_ascii (suc i) = omega arith

id_fits : is_utf8 (codes "id") ≡ true
id_fits = is_utf8-from_IsUtf8 (codes "id") (IsUtf8-from_ascii (codes "id") id_ascii)

a_fits : is_utf8 (codes "a") ≡ true
a_fits = is_utf8-from_IsUtf8 (codes "a") (IsUtf8-from_ascii (codes "a") a_ascii)

well_formed_by : is_well_formed sample_tree ≡ (is_utf8 (codes "id") && is_utf8 (codes "a")) && true
unfolding sample_tree members
well_formed_by = search (rules, tree.the_lemmas)

is_fine : IsWellFormed sample_tree
is_fine =
    well_formed_by
    ∙ and_from (is_utf8 (codes "id") && is_utf8 (codes "a")) true
    (and_from (is_utf8 (codes "id")) (is_utf8 (codes "a")) id_fits a_fits) refl

nests_once : nesting sample_tree ≡ 1
unfolding sample_tree members
nests_once = search (rules, tree.the_lemmas)

short_names : has_short_names sample_tree ≡ true
unfolding sample_tree members
short_names = search (rules, tree.the_lemmas)

-- its one leaf is the text of the id, and its one term that of this
the_path : List Step
the_path = Name (codes "id") ∷ []

the_leaf : Leaf
the_leaf = record { path = the_path; tree = trees.Text (codes "a") }

leaves_are : leaves sample_tree ≡ the_leaf ∷ []
unfolding sample_tree members the_leaf the_path
leaves_are = search (rules, tree.the_lemmas)

value_is : cut_of (Defined (trees.Text (codes "a"))) ≡ CutValue.Text (cut (codes "a"))
value_is = search (rules, tree.the_lemmas)

the_terms : CutValue → List (List ℕ)
the_terms value = unique_keys bytes_eq (term_bytes (Term.Plain the_path value) ∷ [])

fits_index : fits_within 4096 1048576 sample_tree ≡ true
unfolding the_leaf the_path the_terms
fits_index =
    ap (λ ls. (nat_le (greatest (map path_size ls)) most_path_bytes && nat_le (length (distinct_terms ls)) 4096)
    && nat_le (sum_by length (distinct_terms ls)) 1048576) leaves_are
    ∙ ap (λ value. (nat_le (greatest (path_size the_leaf ∷ [])) most_path_bytes && nat_le (length (the_terms value)) 4096)
    && nat_le (sum_by length (the_terms value)) 1048576) value_is

pub sample_document : IsDocumentText 1 sample_text
sample_document = record {
  tree = sample_tree;
  document = is_document;
  well_formed = is_fine;
  shallow = omega (arith, nests_once);
  named = short_names;
  small = omega arith;
  fits = fits_index;
  spelled = sym text_is;
}

-- ---- the delta

term_change : TermChange
term_change = record { term = 1 ∷ 97 ∷ []; added = 1 ∷ []; dropped = [] }

delta_is : sample_delta ≡ delta (term_change ∷ [])
unfolding delta list_after term_after gaps gaps_from varint groups term_change
delta_is = refl

none_dropped : AreDisjoint (1 ∷ []) []
unfolding AreDisjoint
none_dropped n has = refl

one_small : (k d : ℕ) → k < 1 → slice_index_or (1 ∷ []) k d < 2 ^ 32
one_small zero d h = omega arith
one_small (suc k) d h = absurd (omega (arith, h))

pub sample_changes : IsDeltaPayload sample_delta
unfolding term_change
sample_changes = record {
  changes = term_change ∷ [];
  is = record {
    spelled = delta_is;
    some = omega arith;
    count = omega arith;
    are = (
      record {
        short = omega arith;
        some = omega arith;
        additions = record { rising = λ k h. absurd (omega (arith, h)); numbers = one_small };
        removals = record {
          rising = λ k h. absurd (omega (arith, h));
          numbers = λ k d h. absurd
              (omega (arith, h));
        };
        disjoint = none_dropped;
      },
      tt,
    );
  };
}

-- ---- the image

keeps_now : AllByRecursion (KeepsTo 0) (changes_of sample_told)
keeps_now = (refl, (refl, (tt, tt)))

pub sample_in_grammar : (contents : Contents) → Lead sample_told no_contents contents
    → IsGrammatical 1 1 sample_told contents sample
sample_in_grammar contents lead = record {
  says = sample_says contents lead;
  readable = (sample_document, (tt, (sample_changes, tt)));
  apart = apart_after (changes_of sample_told) no_contents contents lead keeps_now none_apart;
}
