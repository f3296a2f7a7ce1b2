use Rattle.std.proofs.Common.{get_or, refl, arith}
use Rattle.ax_frame.specs.declared.root_slot.RootSlot.TheVariants.{Live}
use Rattle.ax_frame.proofs.Slots.{slot_read, one_slot}
use Rattle.ax_frame.proofs.root_slot.read_slot.Goals as goal

pub returns-clause-is : goal.returns-clause-is
returns-clause-is c =
    let b = c.args.bytes.now in
    let named = c.if-not-is_named.ensures.0 refl in (
      record {
        version_from = named.0;
        version_fits = omega (arith, c.fits-bytes 1, c.fits-bytes 2);
        one_of_two = named.1;
        generation_fits = omega (arith, c.fits-bytes 4, c.fits-bytes 5, c.fits-bytes 6, c.fits-bytes 7, c.fits-bytes 8, c.fits-bytes 9, c.fits-bytes 10, c.fits-bytes 11);
      },
      slot_read b c.from_le_bytes-version.result c.from_le_bytes-generation.result c.told-bytes c.fits-bytes c.if-gate-ne1.false c.from_le_bytes-version.ensures c.from_le_bytes-generation.ensures named.2,
    )

pub returns-clause-only : goal.returns-clause-only
returns-clause-only c slot is =
    one_slot c.args.bytes.now slot (Live c.from_le_bytes-version.result (get_or c.args.bytes.now 3 0) c.from_le_bytes-generation.result) is (returns-clause-is c)
