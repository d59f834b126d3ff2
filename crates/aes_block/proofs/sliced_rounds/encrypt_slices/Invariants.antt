use Rattle.std.proofs.Common.{◌≡◌}
use Rattle.aes_block.specs.Cipher.{rounds}
use Rattle.aes_block.specs.Slices.{state_in}
use Rattle.aes_block.specs.Kept.{ArePlain}
use Rattle.aes_block.proofs.sliced_rounds.encrypt_slices.Given as goal

abbrev pub invariant-loop-round : goal.invariant-loop-round
invariant-loop-round l =
    ArePlain l.fn.key l.full l.fn.last → state_in 0 l.words ≡ rounds l.fn.key l.fn.block l.round
