-- The server's inputs, and what it does at each (RFC 4137 sections 5 and 6). A backend gets octets
-- alone: its pass-through starts, and has the timer.
use Rattle.std.specs.Prelude.{ℕ, List, [], if◌then◌else◌}
use Rattle.eap_method.specs.Steps.{enters, is_end}
use Rattle.eap_method.specs.Tags.{no_tags}
use Rattle.server_machine.specs.Expanded.{server_receives}
use Rattle.server_machine.specs.ServerTable.{ServerNow, ServerAnswer, answer, is_started}
use Rattle.server_machine.specs.ServerTable.{server_restart, server_start, server_deliver}
use Rattle.server_machine.specs.ServerTable.{server_timeout}

-- the start, the end of the retransmission timer, or octets from the peer
pub data ServerInput : Type 0 where
  start : ServerInput
  timeout : ServerInput
  octets : List ℕ → ServerInput
  -- the server begins a new conversation with this nonce
  restart : List ℕ → ServerInput

abbrev pub server_rests : ServerNow → ServerAnswer
server_rests now = answer (enters [] no_tags) now

-- by the table alone; a second start, and a timer that ends after the end, do nothing
abbrev pub server_answers : ServerNow → ServerInput → ServerAnswer
server_answers now start = if is_started now.vars then server_rests now else server_start now
server_answers now timeout = if is_end now.vars.state then server_rests now else server_timeout now
server_answers now (octets bytes) = server_deliver now bytes
server_answers now (restart nonce) = server_restart now nonce

-- by the table, with Expanded Types if the settings say so
abbrev pub server_accepts : ServerNow → ServerInput → ServerAnswer
server_accepts now (octets bytes) = server_receives now bytes
server_accepts now input = server_answers now input
