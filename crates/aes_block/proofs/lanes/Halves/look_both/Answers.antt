use Rattle.std.proofs.Common.{refl}
use Rattle.aes_block.specs.Turned.{looked}
use Rattle.aes_block.proofs.lanes.Halves.look_both.Goals as goal

pub returns : goal.returns
unfolding looked
returns c = λ octets h. rw (c.look.ensures, c.look-2.ensures, h.first_are, h.second_are) refl
