use Rattle.std.proofs.Common.{◌≡◌, ◌∷◌, ◌++◌, [], rules}
use Rattle.ax_store.specs.Store.{store_contents}
use Rattle.ax_index.proofs.RunLemmas.{ends_tell, first_told, last_told}
use Rattle.ax_index.proofs.runs.all_belong.Goals as goal

pub returns-then-belongs : goal.returns-then-belongs
returns-then-belongs g c =
    let pages = (store_contents c.args.store.now).terms in
    let begins : c.args.pairs.now ≡ c.in-Some.first.now ∷ c.in-Some.field-0-1.now = search rules in
    let ends : c.args.pairs.now ≡ c.in-Some-split_last.field-0-1.now ++ c.in-Some-split_last.last.now ∷ [] = search rules in (
      λ both. ends_tell pages c.args.page c.args.pairs.now _ _ _ _ begins ends c.requires.rise (c.belongs.ensures.0 c.if-belongs.true)
          (c.belongs-then-belongs.ensures.0 both),
      λ belong. c.belongs-then-belongs.ensures.1 (last_told pages c.args.page c.args.pairs.now _ _ ends belong),
    )

pub returns-else-belongs : goal.returns-else-belongs
returns-else-belongs g c =
    let pages = (store_contents c.args.store.now).terms in
    let begins : c.args.pairs.now ≡ c.in-Some.first.now ∷ c.in-Some.field-0-1.now = search rules in (
      λ both. absurd (cc),
      λ belong. c.belongs.ensures.1 (first_told pages c.args.page c.args.pairs.now _ _ begins belong),
    )
