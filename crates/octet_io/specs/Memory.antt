-- Sources and sinks in memory, which fail at the calls that a list names.
use Rattle.std.specs.Prelude.{ℕ, ◌+◌, ◌-◌, List, ◌++◌, length, take, drop, min, Bool, ◌&&◌, ◌||◌}
use Rattle.std.specs.Prelude.{nat_lt, nat_le}
use Rattle.octet_lists.specs.Among.{is_among}

-- the last number that such a list can name
abbrev pub last_call : ℕ
last_call = 4294967295

-- whether the next call is listed, if so many came before; calls are numbered from 1
abbrev pub is_listed : List ℕ → ℕ → Bool
is_listed failing calls = nat_lt calls last_call && is_among failing (calls + 1)

-- how many calls came after the next one, up to the last number that can be listed
abbrev pub next_call : ℕ → ℕ
next_call calls = min (calls + 1) last_call

-- the last value of a count of faults that has one
abbrev pub last_fault : ℕ
last_fault = 18446744073709551615

abbrev pub next_fault : ℕ → ℕ
next_fault faults = min (faults + 1) last_fault

-- a source in memory: what it has left, how many octets one call takes at most, the listed calls,
-- how many calls came and how many of them failed
pub record SourceMemory : Type 0 where
  pub left : List ℕ
  pub piece : ℕ
  pub failing : List ℕ
  pub calls : ℕ
  pub faults : ℕ

-- a sink in memory: what was written, how many octets it has room for in all, and the same
pub record SinkMemory : Type 0 where
  pub written : List ℕ
  pub room : ℕ
  pub piece : ℕ
  pub failing : List ℕ
  pub calls : ℕ
  pub faults : ℕ

-- how many octets a read into a buffer of this size gives
abbrev pub read_count : SourceMemory → ℕ → ℕ
read_count source size = min (min source.piece size) (length source.left)

-- the source after a read of so many octets, and after one that failed
abbrev pub after_read : SourceMemory → ℕ → SourceMemory
after_read source
    count = record source { left = drop count source.left; calls = next_call source.calls }

abbrev pub after_read_fault : SourceMemory → SourceMemory
after_read_fault
    source = record source { calls = next_call source.calls; faults = source.faults + 1 }

-- whether a write fails: its call is listed, or there is something to write and no room
abbrev pub write_fails : SinkMemory → List ℕ → Bool
write_fails sink octets = is_listed sink.failing sink.calls
    || (nat_lt 0 (length octets) && nat_le sink.room (length sink.written))

-- how many of so many octets a write takes
abbrev pub write_count : SinkMemory → ℕ → ℕ
write_count sink size = min (min sink.piece size) (sink.room - length sink.written)

-- the sink after a write took the first so many octets, and after one that failed
abbrev pub after_write : SinkMemory → List ℕ → ℕ → SinkMemory
after_write sink octets count = record sink {
  written = sink.written ++ take count octets;
  calls = next_call sink.calls;
}

abbrev pub after_write_fault : SinkMemory → SinkMemory
after_write_fault
    sink = record sink { calls = next_call sink.calls; faults = next_fault sink.faults }
