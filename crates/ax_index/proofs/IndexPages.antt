-- What the set of an index says of a pair: what the newest delta of its page does, or else the base.
use Rattle.std.proofs.Common.{◌≡◌, ℕ, List, ap, ◌∙◌, sym, subst, Bool, Option, Some, None}
use Rattle.std.specs.Option.{unwrap_or}
use Rattle.std.specs.Prelude.{IfOk, Result, Ok, Err}
use Rattle.ax_pair.specs.declared.pair.Pair.{Pair}
use Rattle.ax_delta.specs.Changes.{TermChange}
use Rattle.ax_delta.specs.Said.{has, last_said}
use Rattle.ax_delta.proofs.OneList.{newest_counts}
use Rattle.ax_delta.proofs.SamePair.{the_pair}
use Rattle.ax_pages.specs.Contents.{TermPage, term_page}
use Rattle.ax_pages.specs.TermPages.{IsPageOf}
use Rattle.ax_pairs.specs.Index.{IsIndex}
use Rattle.ax_pairs.specs.PagePairs.{AreDeltas, AreOfBase}
use Rattle.ax_pairs.specs.PairSets.{PairSet}
use Rattle.ax_store.specs.declared.fault.StoreFault.{StoreFault}

pub of_term : (pages : List TermPage) (page : ℕ) (term : List ℕ) (p : Pair) → term ≡ p.term → IsPageOf (the_pair term p.number) page pages
    → IsPageOf p page pages
of_term pages page term p e of = subst (λ (t : List ℕ). IsPageOf (the_pair t p.number) page pages) e of

module _ (pages : List TermPage) (set : PairSet) (p : Pair) (page : ℕ) (is : IsIndex pages set) (of : IsPageOf p page pages) (said : Option Bool)
    (says : (deltas : List (List TermChange)) → AreDeltas (term_page page pages).deltas deltas → said ≡ last_said p deltas) where
  by_said : unwrap_or said (has p (is.have page of.there).base) ≡ set p
  by_said =
      let have = is.have page of.there in
      ap (λ (o : Option Bool). unwrap_or o (has p have.base)) (says have.deltas have.are_deltas)
      ∙ sym (newest_counts have.base (is.pairs page) have.deltas p have.merged)
      ∙ is.all page p of

  pub by_delta : (added : Bool) → said ≡ Some added → added ≡ set p
  by_delta added e = ap (λ (o : Option Bool). unwrap_or o (has p (is.have page of.there).base)) (sym e) ∙ by_said

  pub by_base : (now : List TermPage) (result : Result Bool StoreFault) → said ≡ None → now ≡ pages
      → ((base : List Pair) → AreOfBase (term_page page now).base base → IfOk result (λ found. found ≡ has p base)) → IfOk result (λ found. found ≡ set p)
  by_base now (Err fault) e same tells = tt
  by_base now (Ok found) e same tells =
      let have = is.have page of.there in
      tells have.base (subst (λ (ts : List TermPage). AreOfBase (term_page page ts).base have.base) (sym same) have.of_base)
      ∙ ap (λ (o : Option Bool). unwrap_or o (has p have.base)) (sym e)
      ∙ by_said
