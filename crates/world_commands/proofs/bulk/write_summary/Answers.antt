use Rattle.std.proofs.Common.{refl}
use Rattle.world_commands.specs.Bulk.{bulk_text}
use Rattle.world_commands.proofs.bulk.write_summary.Goals as goal

pub returns : goal.returns
unfolding bulk_text
returns g c =
    c.write_pieces.ensures _ (rw (
      c.from.ensures,
      c.from-2.ensures,
      c.from-3.ensures,
      c.from-4.ensures,
      c.from-5.ensures,
      c.from-6.ensures,
      c.from-7.ensures,
      c.from-8.ensures,
      c.from-9.ensures,
    ) refl)
