-- The peer's inputs, and what it does at each (RFC 4137 section 4).
use Rattle.std.specs.Prelude.{ℕ, List, [], if◌then◌else◌}
use Rattle.eap_method.specs.Steps.{enters, is_end}
use Rattle.eap_method.specs.Tags.{no_tags}
use Rattle.peer_machine.specs.Expanded.{peer_receives}
use Rattle.peer_machine.specs.PeerTable.{PeerNow, PeerAnswer, answer, peer_restart, peer_deliver}
use Rattle.peer_machine.specs.PeerTable.{peer_idle, peer_alt_accept, peer_alt_reject}

-- octets from the server, or a report of the lower layer (section 4.1.1)
pub data PeerInput : Type 0 where
  octets : List ℕ → PeerInput
  idle : PeerInput
  alt_accept : PeerInput
  alt_reject : PeerInput
  -- the end begins a new conversation with this nonce
  restart : List ℕ → PeerInput

-- a report of the lower layer; after the end it does nothing
abbrev pub unless_ended : PeerNow → PeerAnswer → PeerAnswer
unless_ended now out = if is_end now.vars.state then answer (enters [] no_tags) now else out

-- by the table alone
abbrev pub peer_answers : PeerNow → PeerInput → PeerAnswer
peer_answers now (octets bytes) = peer_deliver now bytes
peer_answers now idle = unless_ended now (peer_idle now)
peer_answers now alt_accept = unless_ended now (peer_alt_accept now)
peer_answers now alt_reject = unless_ended now (peer_alt_reject now)
peer_answers now (restart nonce) = peer_restart now nonce

-- by the table, with Expanded Types if the settings say so
abbrev pub peer_accepts : PeerNow → PeerInput → PeerAnswer
peer_accepts now (octets bytes) = peer_receives now bytes
peer_accepts now input = peer_answers now input
