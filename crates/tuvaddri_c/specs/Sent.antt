-- What an end has sent: the packet that it sent last, and whether its last turn sent it.
use Rattle.std.specs.Prelude.{ℕ, List, [], Bool, true, false, if◌then◌else◌, Option, Some, None}
use Rattle.tuvaddri_c.specs.declared.session.End.{End}
use Rattle.tuvaddri_c.specs.declared.session.End.TheVariants as ends
use Rattle.tuvaddri_c.specs.declared.session.Session.{Session}

-- the packet that an end sent last since its begin or restart, no octets before the first; whether
-- its last turn sent it
pub record Sent : Type 0 where
  pub packet : List ℕ
  pub fresh : Bool

abbrev pub sent_so : List ℕ → Bool → Sent
sent_so packet fresh = record { packet = packet; fresh = fresh }

-- the packet that an end sent last; a peer's is its lastRespData (RFC 4137 section 4.3.1); of a
-- supplicant a frame, of a port a frame or a packet
abbrev pub sent_packet : End → List ℕ
sent_packet ends.Closed = []
sent_packet (ends.PeerMethod object key last) = last.value
sent_packet (ends.ServerMethod object known last) = last.value
sent_packet (ends.Peer m) = m.vars.last_response
sent_packet (ends.Server m last) = last.value
sent_packet (ends.Backend m last) = last.value
sent_packet (ends.Pass m last) = last.value
sent_packet (ends.Supplicant m last) = last.value
sent_packet (ends.Port m last) = last.value

abbrev pub sent_of : Session → Sent
sent_of session = sent_so (sent_packet session.end) session.fresh

-- nothing, as an end that has just begun
abbrev pub none_sent : Sent
none_sent = sent_so [] false

-- a turn that sends nothing leaves the packet that was sent last
abbrev pub after_silence : Sent → Sent
after_silence before = record before { fresh = false }

-- after a turn that sends this, or nothing
abbrev pub after_turn : Option (List ℕ) → Sent → Sent
after_turn None before = after_silence before
after_turn (Some octets) before = sent_so octets true

-- the packet of the last turn; no octets if it sent none
abbrev pub turn_packet : Sent → List ℕ
turn_packet sent = if sent.fresh then sent.packet else []

-- a session without an end
abbrev pub no_end : Session
no_end = record { end = ends.Closed; fresh = false }

-- the session after a call that changes nothing, and sends nothing
abbrev pub session_after_silence : Session → Session
session_after_silence before = record before { fresh = false }
