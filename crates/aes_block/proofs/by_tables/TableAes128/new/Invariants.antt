use Rattle.std.proofs.Common.{◌≡◌, ◌+◌, [], length, slice_index_or}
use Rattle.aes_block.specs.Words.{state_of_words, AreWordKeys}
use Rattle.aes_block.proofs.by_tables.TableAes128.new.Given as goal

abbrev pub invariant-loop-round : goal.invariant-loop-round
invariant-loop-round l = record {
  count : length l.round_keys ≡ 11;
  first : state_of_words (slice_index_or l.round_keys 0 []) ≡ l.key;
  made : AreWordKeys l.key l.round_keys (l.round + 1);
}
