-- The fronts of batches may follow contents, and leave the term pages as they are.
use Rattle.std.proofs.Common.{◌≡◌, ℕ, ◌+◌, ◌-◌, ◌<◌, ◌^◌, Bool, true, false, [], Some, None, refl, ap, ◌∙◌}
use Rattle.std.specs.Prelude.{option_and_then, if◌then◌else◌, ◌&&◌, ◌||◌, nat_lt, not}
use Rattle.std.specs.FinMap as finite
use Rattle.std.proofs.lemmas.Bool.{lt-ltb}
use Rattle.ax_area.specs.Changes as change
use Rattle.ax_area.specs.Contents.{Contents, after_changes, has_room, is_given, may_follow, with_change}
use Rattle.ax_image.specs.WriteChanges.{creating_changes, deleting_changes, document_change, meta_change, replacing_changes}
use Rattle.ax_pages.specs.AfterPart.{most_documents}
use Rattle.ax_tree.specs.declared.tree.Tree.{Tree}
use Rattle.ax_write.specs.Batches.{creating_parts, deleting_parts, replacing_parts}
use Rattle.ax_write.specs.Committed.{LeaveTerms}
use Rattle.ax_write.proofs.PartsSaid.{said_leads}
use Rattle.ax_write.proofs.Saying.{creating_said, deleting_said, replacing_said}

pub first_or : (a b : Bool) → a ≡ true → (a || b) ≡ true
first_or a b x = ap (λ c. c || b) x

second_or : (a b : Bool) → b ≡ true → (a || b) ≡ true
second_or true b x = refl
second_or false b x = x

both : (a b : Bool) → a ≡ true → b ≡ true → (a && b) ≡ true
both a b x y = λ i. x i && y i

plain_follows : (contents : Contents) → contents.versioned ≡ false → may_follow None contents ≡ true
plain_follows contents plain = ap not plain

pub put_leads : (number policy : ℕ) (tree : Tree) (contents : Contents) → contents.versioned ≡ false → is_given policy contents ≡ true
    → has_room number contents ≡ true
    → after_changes (replacing_changes number policy tree) contents ≡ Some (with_change (document_change number policy tree) contents)
put_leads number policy tree contents plain given room =
    let change = document_change number policy tree in
    ap (λ b. option_and_then (after_changes []) (if b then Some (with_change change contents) else None))
    (both _ _ given (both _ _ room (plain_follows contents plain)))

pub replacing_beside : (number policy : ℕ) (tree : Tree) (contents : Contents) → 0 < number → contents.versioned ≡ false
    → is_given policy contents ≡ true → finite.contains_key contents.documents number ≡ true
    → LeaveTerms (replacing_parts number policy tree) contents
replacing_beside number policy tree contents some plain given held = record {
  new = with_change (document_change number policy tree) contents;
  lead = said_leads (replacing_parts number policy tree) (replacing_changes number policy tree) contents (replacing_said number policy tree some)
      ∙ put_leads number policy tree contents plain given (first_or _ _ held);
  same = refl;
}

pub create_leads : (number policy : ℕ) (tree : Tree) (contents : Contents) → contents.versioned ≡ false → is_given policy contents ≡ true
    → finite.len contents.documents < most_documents
    → after_changes (creating_changes number policy tree) contents
    ≡ Some (with_change (document_change number policy tree) (with_change (meta_change (number + 1) policy) contents))
create_leads number policy tree contents plain given few =
    let meta = meta_change (number + 1) policy in
    ap (λ b. option_and_then (after_changes (replacing_changes number policy tree)) (if b then Some (with_change meta contents) else None))
    (both _ _ given (plain_follows contents plain))
    ∙ put_leads number policy tree (with_change meta contents) plain given
    (second_or (finite.contains_key contents.documents number) (nat_lt (finite.len contents.documents) most_documents)
    (lt-ltb (finite.len contents.documents) most_documents few))

pub creating_beside : (number policy : ℕ) (tree : Tree) (contents : Contents) → 0 < number → number < 2 ^ 32 - 1 → policy < 2 ^ 32
    → contents.versioned ≡ false → is_given policy contents ≡ true → finite.len contents.documents < most_documents
    → LeaveTerms (creating_parts number policy tree) contents
creating_beside number policy tree contents some left small plain given few = record {
  new = with_change (document_change number policy tree) (with_change (meta_change (number + 1) policy) contents);
  lead = said_leads (creating_parts number policy tree) (creating_changes number policy tree) contents
      (creating_said number policy tree some left small)
      ∙ create_leads number policy tree contents plain given few;
  same = refl;
}

pub deleting_beside : (number : ℕ) (contents : Contents) → 0 < number → LeaveTerms (deleting_parts number) contents
deleting_beside number contents some = record {
  new = with_change (change.Gone number) contents;
  lead = said_leads (deleting_parts number) (deleting_changes number) contents (deleting_said number some);
  same = refl;
}
