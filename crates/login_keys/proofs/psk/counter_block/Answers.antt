use Rattle.std.proofs.Common.{refl}
use Rattle.login_keys.specs.Psk.{combined_with}
use Rattle.login_keys.proofs.psk.counter_block.Goals as goal

pub returns : goal.returns
unfolding combined_with
returns c =
    rw (c.encrypt.ensures, c.to_be_bytes.ensures, c.from_be_bytes.ensures, c.from.ensures) refl
