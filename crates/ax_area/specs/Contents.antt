-- What a store has, in the subject's words, and how changes lead from contents to contents. No
-- version of the format stands here. From the store's own file format (docs/FORMAT.md, "Parts"); no
-- other document has it.
use Rattle.std.specs.Prelude.{ℕ, Bool, true, false, not, ◌||◌, ◌&&◌, ◌==◌, nat_lt, if◌then◌else◌}
use Rattle.std.specs.Prelude.{List, [], ◌∷◌, Option, Some, None, is_some, option_and_then}
use Rattle.std.specs.Ordering.{nat_cmp}
use Rattle.std.specs.Option.{unwrap_or}
use Rattle.std.specs.FinMap as map
use Rattle.ax_pages.specs.Contents.{TermPage, no_term_page}
use Rattle.ax_pages.specs.AfterPart.{most_documents, is_base, is_delta}
use Rattle.ax_pages.specs.AfterPart.{after_base, after_delta}
use Rattle.ax_area.specs.Changes.{Change, Written, Numbers}
use Rattle.ax_area.specs.Changes as change

-- a document
pub record Stored : Type 0 where
  pub policy : ℕ
  pub version : ℕ
  pub text : List ℕ

pub record Contents : Type 0 where
  -- the number that the next creation takes
  pub next_number : ℕ
  -- the number of the policy now
  pub policy_now : ℕ
  -- the version that the next write takes
  pub next_version : ℕ
  -- the texts of policies, and documents, by number
  pub policies : map.FinMap nat_cmp (List ℕ)
  pub documents : map.FinMap nat_cmp Stored
  -- by number, from 0 on
  pub terms : List TermPage
  -- something said a version
  pub versioned : Bool

abbrev pub no_contents : Contents
no_contents = record {
  next_number = 1;
  policy_now = 0;
  next_version = 1;
  policies = map.empty;
  documents = map.empty;
  terms = no_term_page ∷ [];
  versioned = false;
}

-- a part gave a policy this number, or it is number 0, which needs none
abbrev pub is_given : ℕ → Contents → Bool
is_given policy contents = policy == 0 || map.contains_key contents.policies policy

-- the document is held, or one more may be
abbrev pub has_room : ℕ → Contents → Bool
has_room number contents =
    map.contains_key contents.documents number
    || nat_lt (map.len contents.documents) most_documents

-- what says no version does not come behind what says one
abbrev pub follows : Option ℕ → Bool → Bool
follows version versioned = is_some version || not versioned

abbrev pub may_follow : Option ℕ → Contents → Bool
may_follow version contents = follows version contents.versioned

-- the change may be made
abbrev pub is_allowed : Change → Contents → Bool
is_allowed (change.Meta numbers) contents =
    is_given numbers.policy contents && may_follow numbers.version contents
is_allowed (change.Policy number text) contents = true
is_allowed (change.Document number written) contents =
    is_given written.policy contents
    && (has_room number contents && may_follow written.version contents)
is_allowed (change.Gone number) contents = true
is_allowed (change.Base page payload) contents = is_base page payload contents.terms
is_allowed (change.Delta page payload) contents = is_delta page contents.terms

-- a document that says no version has its number as its version
abbrev pub stored : ℕ → Written → Stored
stored number written = record {
  policy = written.policy;
  version = unwrap_or written.version number;
  text = written.text;
}

abbrev pub versioned_by : Option ℕ → Contents → Bool
versioned_by version contents = is_some version || contents.versioned

abbrev pub with_change : Change → Contents → Contents
with_change (change.Meta numbers) contents = record contents {
  next_number = numbers.next;
  policy_now = numbers.policy;
  next_version = unwrap_or numbers.version numbers.next;
  versioned = versioned_by numbers.version contents;
}
with_change (change.Policy number text) contents =
    record contents { policies = map.insert contents.policies number text }
with_change (change.Document number written) contents = record contents {
  documents = map.insert contents.documents number (stored number written);
  versioned = versioned_by written.version contents;
}
with_change (change.Gone number) contents =
    record contents { documents = map.remove contents.documents number }
with_change (change.Base page payload) contents =
    record contents { terms = after_base page payload contents.terms }
with_change (change.Delta page payload) contents =
    record contents { terms = after_delta page payload contents.terms }

-- the contents after a change, or none where it may not be made
abbrev pub after_change : Change → Contents → Option Contents
after_change change contents =
    if is_allowed change contents then Some (with_change change contents) else None

abbrev pub after_changes : List Change → Contents → Option Contents
after_changes [] contents = Some contents
after_changes (change ∷ changes) contents =
    option_and_then (after_changes changes) (after_change change contents)
