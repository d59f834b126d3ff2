use Rattle.std.proofs.Common.{◌≡◌}
use Rattle.aes_block.specs.Cipher.{rounds}
use Rattle.aes_block.specs.Turned.{all, plain, AreTurned}
use Rattle.aes_block.proofs.rounds.encrypt_lanes.Given as goal

abbrev pub invariant-loop-round : goal.invariant-loop-round
invariant-loop-round l =
    AreTurned l.fn.key l.full l.fn.last → all plain l.state ≡ rounds l.fn.key l.fn.block l.round
