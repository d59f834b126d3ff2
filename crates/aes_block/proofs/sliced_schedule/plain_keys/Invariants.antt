use Rattle.std.proofs.Common.{◌≡◌, ℕ, ◌+◌, ◌<◌, length, slice_index_or}
use Rattle.aes_block.specs.KeySchedule.{round_key}
use Rattle.aes_block.specs.Slices.{state_of_columns}
use Rattle.aes_block.specs.declared.key_schedule.TurnedKey.{TurnedKey}
use Rattle.aes_block.proofs.sliced_schedule.plain_keys.Given as goal

abbrev pub invariant-loop-round : goal.invariant-loop-round
invariant-loop-round l = record {
  count : length l.full ≡ 9;
  current : state_of_columns l.columns ≡ round_key l.fn.first l.round;
  made : (r : ℕ) → r < l.round → (d : TurnedKey) → (slice_index_or l.full r d).lanes
      ≡ round_key l.fn.first (r + 1);
}
