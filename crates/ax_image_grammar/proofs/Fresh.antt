-- A fresh image is in the grammar, and stands for the container of no documents.
use Rattle.std.proofs.Common.{◌≡◌, ℕ, List, [], ◌∷◌, length, arith, inl, ⊎_elim, refl, sym}
use Rattle.std.proofs.Common.{ap, subst, ◌∙◌}
use Rattle.std.specs.Prelude.{false}
use Rattle.std.specs.Option.{unwrap_or}
use Rattle.std.specs.FinMap as map
use Rattle.std.specs.Ordering.{nat_cmp}
use Rattle.ax_disk.specs.model.Image.{Image}
use Rattle.ax_area.specs.Contents.{Stored, no_contents}
use Rattle.ax_area.specs.Image.{IsFresh}
use Rattle.ax_area.proofs.OneTelling.{some_or_none}
use Rattle.ax_image_grammar.specs.Grammar.{IsGrammatical}
use Rattle.ax_image_grammar.specs.Container.{Container, fresh}
use Rattle.ax_image_grammar.specs.Payloads.{IsTextOf}
use Rattle.ax_image_grammar.specs.StandsFor.{AreShown, ContentsStandFor, StandsFor}
use Rattle.ax_image_grammar.specs.Table.{policy_text, IsTaken, IsUsed, AreApart}
use Rattle.ax_image_grammar.proofs.DefaultReads.{default_reads, default_fine}
use Rattle.ax_pair.specs.declared.pair.Pair.{Pair}
use Rattle.ax_pairs.specs.Index.{IsIndex}
use Rattle.ax_pairs.specs.PairSets.{PairSet}
use Rattle.ax_pairs.proofs.Sets.{nothing_held}
use Rattle.ax_policy.specs.Default.{default_policy}
use Rattle.ax_policy.specs.Normal.{normal_text}

-- number 0, which is the one now, is the only one that is taken
taken_is : (a : ℕ) → IsTaken a no_contents → a ≡ 0
taken_is a taken =
    ⊎_elim (λ (now : a ≡ 0). now)
    (λ (used : IsUsed a no_contents).
    absurd (some_or_none used.document (sym (map.get-empty nat_cmp used.number) ∙ used.held))) taken

pub none_apart : AreApart no_contents
none_apart a b ta tb same = taken_is a ta ∙ sym (taken_is b tb)

pub fresh_is : (newest : ℕ) (image : Image) → IsFresh image
    → IsGrammatical newest newest [] no_contents image
fresh_is newest image fresh = record {
  says = inl (record {
    fresh = fresh;
    version_is = refl;
    told_is = refl;
    contents_is = refl;
  });
  readable = tt;
  apart = none_apart;
}

-- ---- what it stands for

no_element : {A : Type 0} (xs : List A) → length xs ≡ 0 → xs ≡ []
no_element [] e = refl
no_element (x ∷ xs) e = absurd (omega (arith, e))

pub default_now : IsTextOf (policy_text 0 no_contents) default_policy
default_now = record {
  well_formed = default_fine;
  is_policy = default_reads;
  spelled = ap (λ found. unwrap_or found (normal_text default_policy))
      (map.get-empty nat_cmp 0);
}

nothing_stands : ContentsStandFor no_contents fresh
nothing_stands =
    let documents : map.FinMap nat_cmp Stored = map.empty in
    let none : map.entries documents ≡ [] =
    no_element _ (sym (map.len-entries documents) ∙ map.len-empty nat_cmp Stored) in
    record {
      next_number = refl;
      next_version = refl;
      now = default_now;
      shown = subst (λ documents. AreShown no_contents documents []) (sym none) tt;
      sound = record { numbers = tt; versions = tt; distinct = tt };
    }

holds_nothing : (set : PairSet) → ((p : Pair) → set p ≡ false) → IsIndex no_contents.terms set
holds_nothing set none = record {
  apart = nothing_held.apart;
  pairs = nothing_held.pairs;
  have = nothing_held.have;
  belong = nothing_held.belong;
  all = λ number p of. nothing_held.all number p of ∙ sym (none p);
}

pub fresh_stands : (newest : ℕ) (pairs : Container → PairSet) (image : Image) → IsFresh image
    → ((p : Pair) → pairs fresh p ≡ false) → StandsFor newest pairs image fresh
fresh_stands newest pairs image is none = record {
  version = newest;
  told = [];
  contents = no_contents;
  grammatical = fresh_is newest image is;
  stand = nothing_stands;
  index = holds_nothing (pairs fresh) none;
}
