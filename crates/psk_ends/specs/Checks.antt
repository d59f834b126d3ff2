-- A value, or the cause for which it is refused.
use Rattle.std.specs.Prelude.{ℕ, Option, Some, None, Result, Ok, Err}
use Rattle.eap_packet.specs.declared.cause.Cause.{Cause}

-- the value if there is no fault
abbrev pub value_unless : Option Cause → ℕ → Result ℕ Cause
value_unless None value = Ok value
value_unless (Some cause) value = Err cause
