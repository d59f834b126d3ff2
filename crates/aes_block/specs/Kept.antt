-- The round keys as `Aes128` keeps them.
use Rattle.std.specs.Prelude.{ℕ, ◌≡◌, ◌<◌, ◌+◌, true, false, List, slice_index_or}
use Rattle.aes_block.specs.KeySchedule.{round_key}
use Rattle.aes_block.specs.Turned.{AreTurned}
use Rattle.aes_block.specs.Processor.{shuffled}
use Rattle.aes_block.specs.declared.key_schedule.TurnedKey.{TurnedKey}

-- these are the key's round keys, as the standard has them: the first, those of the nine full
-- rounds and the last
pub record ArePlain (key : List ℕ) (full : List TurnedKey) (last : List ℕ) : Type 0 where
  pub first_is : round_key key 0 ≡ key
  pub full_are : (r : ℕ) → r < 9 → (d : TurnedKey) → (slice_index_or full r d).lanes
      ≡ round_key key (r + 1)
  pub last_is : last ≡ round_key key 10

-- these are the key's round keys, as the code for this processor keeps them
pub record AreKept (key : List ℕ) (full : List TurnedKey) (last : List ℕ) : Type 0 where
  pub turned : shuffled ≡ true → AreTurned key full last
  pub plain : shuffled ≡ false → ArePlain key full last
