-- When what a store has in its own words, which have one version, is the same as what it has in
-- the words of all versions. The number of a document is its version, and the next number is the
-- next version. From the store's own file format (docs/FORMAT.md, "Parts"); no other document has
-- it.
use Rattle.std.specs.Prelude.{◌≡◌, ℕ, List, drop, slice_index, false}
use Rattle.std.specs.FinMap as finite
use Rattle.std.specs.Option.{option_map}
use Rattle.ax_pages.specs.Contents as log
use Rattle.ax_area.specs.Contents.{Contents, Stored}

-- the document of a number that a payload shows: the number of its policy, and behind it its text
abbrev pub shown_by : ℕ → List ℕ → Stored
shown_by number payload = record {
  policy = slice_index payload 0;
  version = number;
  text = drop 1 payload;
}

abbrev pub with_document : ℕ × List ℕ → ℕ × Stored
with_document page = (page.0, shown_by page.0 page.1)

pub record Agree (old : log.Contents) (new : Contents) : Type 0 where
  pub next_number : new.next_number ≡ log.next_number old
  pub next_version : new.next_version ≡ log.next_number old
  pub policy_now : new.policy_now ≡ log.policy_now old
  pub policies : new.policies ≡ old.policies
  pub documents : (number : ℕ)
      → finite.get new.documents number
      ≡ option_map (shown_by number) (finite.get old.documents number)
  pub terms : new.terms ≡ old.terms
  -- nothing said a version
  pub versioned : new.versioned ≡ false
