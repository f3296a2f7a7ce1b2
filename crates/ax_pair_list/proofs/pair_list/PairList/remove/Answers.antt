use Rattle.std.proofs.Common.{ℕ, ◌<◌, List, length, All, ap, subst, sym, ◌∙◌}
use Rattle.std.specs.List.{remove}
use Rattle.std.proofs.lemmas.List.{length-map}
use Rattle.ax_pair.specs.declared.pair.Pair.{Pair}
use Rattle.ax_pair_list.specs.declared.pair_list.Entry.{Entry}
use Rattle.ax_pair_list.specs.View.{pair_of, pairs_of, IsWithin}
use Rattle.ax_pair_list.proofs.Changing.{pairs_removed, all_but_one}
use Rattle.ax_pair_list.proofs.pair_list.PairList.remove.Goals as goal

pub take_out-requires : goal.take_out-requires
take_out-requires c =
    subst (λ (n : ℕ). c.args.at < n) (ap length (sym c.self.view_is) ∙ length-map c.self.inside.entries.items (pair_of c.self.inside.terms.items)) c.requires

pub invariant_of-self : goal.invariant_of-self
invariant_of-self c =
    subst (λ (es : List Entry). All (IsWithin (length c.self.inside.terms.items)) es) (sym c.take_out.ensures)
    (all_but_one (length c.self.inside.terms.items) c.args.at c.self.inside.entries.items c.self.invariant)

pub returns : goal.returns
returns c =
    ap (pairs_of c.self.inside.terms.items) c.take_out.ensures
    ∙ pairs_removed c.self.inside.terms.items c.self.inside.entries.items c.args.at
    ∙ ap (λ (ps : List Pair). remove ps c.args.at) c.self.view_is
