-- A peer that reads Expanded Types (RFC 3748 section 5.7): the transitions of its table are those
-- of the plain form of a Request, and what it sends of that is expressed again. No transition of
-- the table knows of them.
use Rattle.std.specs.Prelude.{ℕ, List, ◌∷◌, ◌++◌, Bool, true, false, ◌==◌, ◌&&◌, not, if◌then◌else◌}
use Rattle.std.specs.Prelude.{Option, Some, None, Result, Ok, slice_index}
use Rattle.octet_lists.specs.Among.{expanded_kind, ietf, nak_kind}
use Rattle.eap_packet.specs.Packet.{PacketValue, request, response, spelled}
use Rattle.eap_packet.specs.Fault.{type_of, packet_of}
use Rattle.eap_packet.specs.Expanded.{expanded_form, is_bad_expanded}
use Rattle.eap_packet.specs.declared.cause.Cause.{Cause}
use Rattle.eap_packet.specs.declared.cause.Cause.TheVariants as cause
use Rattle.login_policy.specs.Policy.{nak_of}
use Rattle.login_policy.specs.Expanded.{nak_entries}
use Rattle.eap_method.specs.Plain.{plain_octets}
use Rattle.eap_method.specs.Steps.{is_end}
use Rattle.peer_machine.specs.PeerTable.{PeerNow, PeerAnswer, answer, with_vars, is_last_id}
use Rattle.peer_machine.specs.PeerTable.{peer_discard, peer_deliver}

-- the Expanded Nak with this Identifier (section 5.3.2): an entry for each allowed Type, or one of
-- Type 0
abbrev pub expanded_nak_response : ℕ → List ℕ → List ℕ
expanded_nak_response id methods =
    spelled (response id expanded_kind (ietf ++ nak_kind ∷ nak_entries (nak_of methods)))

-- what answers a Request of Type 254: the Expanded Nak in place of a Nak, every other Response
-- wrapped
abbrev pub express : List ℕ → List ℕ → List ℕ
express methods octets =
    if type_of octets == nak_kind then expanded_nak_response (slice_index octets 1) methods
    else expanded_form octets

-- a Response is sent, and stored for RETRANSMIT, as it is expressed
abbrev pub stores_sent : PeerAnswer → List ℕ → PeerAnswer
stores_sent out octets =
    answer (record out.step { sent = Some octets })
    (with_vars out.after (record out.after.vars { last_response = octets }))

abbrev pub expanded_answer : PeerAnswer → Option (List ℕ) → PeerAnswer
expanded_answer out None = out
expanded_answer out (Some octets) = stores_sent out (express out.after.vars.setup.methods octets)

-- RETRANSMIT sends lastRespData unchanged
abbrev pub expressed_unless : Bool → PeerAnswer → PeerAnswer
expressed_unless true out = out
expressed_unless false out = expanded_answer out out.step.sent

-- a Request to a peer that has not ended: refused if no party accepts it; of Type 254, the
-- transition of its plain form, expressed; else its transition
abbrev pub reads_request : PeerNow → List ℕ → ℕ → ℕ → List ℕ → PeerAnswer
reads_request now octets id kind body =
    if is_bad_expanded (request id kind body) then peer_discard now cause.BadExpanded
    else if kind == expanded_kind
    then expressed_unless (is_last_id now.vars.last_id id)
    (peer_deliver now (plain_octets octets (request id kind body)))
    else peer_deliver now octets

abbrev pub peer_reads : PeerNow → List ℕ → Result PacketValue Cause → PeerAnswer
peer_reads now octets (Ok (request id kind body)) = reads_request now octets id kind body
peer_reads now octets packet = peer_deliver now octets

-- a delivery, read so if the settings say so
unfoldable pub peer_receives : PeerNow → List ℕ → PeerAnswer
peer_receives now octets =
    if now.vars.setup.expanded && not (is_end now.vars.state)
    then peer_reads now octets (packet_of octets)
    else peer_deliver now octets
