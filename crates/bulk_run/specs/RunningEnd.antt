-- What a step does to a world.
use Rattle.std.specs.Prelude.{◌≤◌, ℕ, Option, Some, None}
use Rattle.eap_world.specs.declared.told.Counts.{Counts}
use Rattle.eap_world.specs.declared.told.SentNumber.{SentNumber}

-- so few events, deliveries and discards
pub record AreFew (counts : Counts) (most : ℕ) : Type 0 where
  pub events : counts.events ≤ most
  pub deliveries : counts.deliveries ≤ most
  pub discards : counts.discards ≤ most

-- how many packets were sent, if so many were before
abbrev pub sent_after : ℕ → Option SentNumber → ℕ
sent_after before None = before
sent_after before (Some packet) = packet.number
