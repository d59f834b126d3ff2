use Rattle.std.proofs.Common.{◌≡◌}
use Rattle.aes_block.specs.Cipher.{rounds}
use Rattle.aes_block.specs.Words.{state_of_words}
use Rattle.aes_block.proofs.by_tables.TableAes128.encrypt.Given as goal

abbrev pub invariant-loop-round : goal.invariant-loop-round
invariant-loop-round l = state_of_words l.state ≡ rounds l.fn.self l.block l.round
