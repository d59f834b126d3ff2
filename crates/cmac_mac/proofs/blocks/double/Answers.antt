use Rattle.std.proofs.Common.{refl}
use Rattle.cmac_mac.specs.Cmac.{doubled}
use Rattle.cmac_mac.proofs.blocks.double.Goals as goal

pub returns : goal.returns
unfolding doubled
returns c = rw (c.to_be_bytes.ensures, c.double_number.ensures, c.from_be_bytes-number.ensures) refl
