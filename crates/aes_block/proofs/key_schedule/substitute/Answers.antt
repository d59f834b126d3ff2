use Rattle.aes_block.proofs.KeyLanes.{substituted_are}
use Rattle.aes_block.proofs.key_schedule.substitute.Goals as goal

pub returns : goal.returns
returns c =
    substituted_are c.args.octets c.turn.result c.plain.result c.fits-octets.1 c.turn.ensures
    (c.plain.ensures c.turn.result c.invert.ensures)
