use Rattle.aes_block.specs.Cipher.{aes128}
use Rattle.login_keys.specs.Psk.{combined_with}
use Rattle.login_keys.proofs.Blocks.{IsJoined}
use Rattle.login_keys.proofs.psk.four_blocks.Given as goal

abbrev pub invariant-counters : goal.invariant-counters
invariant-counters l =
    IsJoined (λ c. aes128 l.cipher (combined_with l.mixed c)) l.first l.i 16 l.blocks
