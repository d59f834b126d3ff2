use Rattle.aes_block.proofs.Sixteen.{look_ok, look_all}
use Rattle.aes_block.proofs.lanes.look.Goals as goal

pub swizzle : goal.swizzle
swizzle c = look_ok c.args.places c.fits-places.0 c.requires

pub returns : goal.returns
returns c = look_all c.args.table c.args.places c.fits-places.0
