-- Changes of documents leave the term pages as they are, and what contents have besides does not rest on these.
use Rattle.std.proofs.Common.{◌≡◌, ℕ, true, false, List, [], ◌∷◌, inl, inr, Some, None, refl, sym, ap, ◌∙◌}
use Rattle.std.specs.Prelude.{if◌then◌else◌, option_and_then}
use Rattle.std.specs.List.{AllByRecursion}
use Rattle.ax_tree.specs.declared.tree.Tree.{Tree}
use Rattle.ax_area.specs.Changes.{Change}
use Rattle.ax_area.specs.Contents.{Contents, is_allowed, with_change, after_changes}
use Rattle.ax_container.specs.Container.{Container}
use Rattle.ax_container.proofs.ByNumber.{same_some}
use Rattle.ax_image.specs.Documents.{ContentsHold}
use Rattle.ax_image.specs.WriteChanges.{creating_changes, deleting_changes, replacing_changes}
use Rattle.ax_image_grammar.specs.Table.{IsTaken, IsUsed}
use Rattle.ax_pages.specs.Contents.{TermPage}

-- ---- changes beside the term pages

-- the change leaves the term pages of all contents as they are
abbrev pub IsBeside : Change → Type 0
IsBeside change = (contents : Contents) → (with_change change contents).terms ≡ contents.terms

pub kept_beside : (front : List Change) → AllByRecursion IsBeside front → (contents new : Contents)
    → after_changes front contents ≡ Some new → new.terms ≡ contents.terms
kept_beside [] all contents new is = ap (λ (c : Contents). c.terms) (sym (same_some contents new is))
kept_beside (change ∷ front) all contents new is =
    elim (is_allowed change contents) as
    (λ b. option_and_then (after_changes front) (if b then Some (with_change change contents) else None) ≡ Some new
    → new.terms ≡ contents.terms) [
      | true ↦ λ at. kept_beside front all.1 (with_change change contents) new at ∙ all.0 contents
      | false ↦ λ at. absurd (cc)
    ] is

pub replacing_beside : (number policy : ℕ) (tree : Tree) → AllByRecursion IsBeside (replacing_changes number policy tree)
replacing_beside number policy tree = ((λ contents. refl), tt)

pub creating_beside : (number policy : ℕ) (tree : Tree) → AllByRecursion IsBeside (creating_changes number policy tree)
creating_beside number policy tree = ((λ contents. refl), ((λ contents. refl), tt))

pub deleting_beside : (number : ℕ) → AllByRecursion IsBeside (deleting_changes number)
deleting_beside number = ((λ contents. refl), tt)

-- ---- other term pages

module _ (contents : Contents) (pages : List TermPage) where
  abbrev with_pages : Contents
  with_pages = record contents { terms = pages }

  taken_too : (policy : ℕ) → IsTaken policy with_pages → IsTaken policy contents
  taken_too policy (inl is) = inl is
  taken_too policy (inr used) = let used : IsUsed policy with_pages = used in
      inr (record { number = used.number; document = used.document; held = used.held; indexed_by = used.indexed_by })

  pub held_beside : (container : Container) → ContentsHold contents container → ContentsHold with_pages container
  held_beside container hold = record {
    show = record {
      next = hold.show.next;
      shown = hold.show.shown;
      under = hold.show.under;
      policy = hold.show.policy;
      sound = hold.show.sound;
    };
    given = hold.given;
    apart = λ a b taken taken_b same. hold.apart a b (taken_too a taken) (taken_too b taken_b) same;
  }
