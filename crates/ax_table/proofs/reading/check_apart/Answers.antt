use Rattle.std.proofs.Common.{refl, sym, subst}
use Rattle.ax_store.specs.Store.{store_contents}
use Rattle.ax_table.specs.Filling.{TellsTwins}
use Rattle.ax_table.proofs.TableLaws.{are_apart, twin_part}
use Rattle.ax_table.proofs.reading.check_apart.Goals as goal

pub damaged_area-requires : goal.damaged_area-requires
damaged_area-requires g c =
    twin_part c.args.table.now (store_contents c.args.store.now) c.in-Ok-Some.number c.requires (rw c.in-Ok-Some.field-0-is at c.in-Ok-Some.ensures.twin)

pub returns-in-Ok-None-clause-apart : goal.returns-in-Ok-None-clause-apart
returns-in-Ok-None-clause-apart g c = are_apart c.args.table.now (rw c.in-Ok-None.field-0-is at c.in-Ok-None.ensures.apart)

pub returns-in-Ok-Some-clause-told : goal.returns-in-Ok-Some-clause-told
returns-in-Ok-Some-clause-told g c =
    subst (TellsTwins c.args.store.now c.args.table.now) (sym c.damaged_area.ensures) (
      refl,
      refl,
      (
        c.in-Ok-Some.number,
        rw c.in-Ok-Some.field-0-is at
            c.in-Ok-Some.ensures.twin,
      ),
    )
