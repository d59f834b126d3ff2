-- A server that reads Expanded Types (RFC 3748 section 5.7): the transitions of its table are those
-- of the plain form of a Response, and each Request of a method is wrapped. No transition of the
-- table knows of them.
use Rattle.std.specs.Prelude.{◌≡◌, ℕ, List, Bool, true, ◌==◌, ◌&&◌, ◌||◌, not, if◌then◌else◌}
use Rattle.std.specs.Prelude.{Option, Some, None, Result, Ok}
use Rattle.octet_lists.specs.Among.{expanded_kind, nak_kind}
use Rattle.eap_packet.specs.Packet.{PacketValue, response, spelled}
use Rattle.eap_packet.specs.Fault.{code_of, type_of, packet_of}
use Rattle.eap_packet.specs.Expanded.{is_nak_body, inner_body, expanded_form, is_bad_expanded}
use Rattle.eap_packet.specs.declared.cause.Cause.{Cause}
use Rattle.eap_packet.specs.declared.cause.Cause.TheVariants as cause
use Rattle.login_policy.specs.Policy.{nak_of}
use Rattle.login_policy.specs.Expanded.{expanded_kinds}
use Rattle.eap_method.specs.Plain.{plain_octets}
use Rattle.eap_method.specs.Capacity.{HasCapacity}
use Rattle.eap_method.specs.Steps.{is_end}
use Rattle.server_machine.specs.ServerTable.{ServerNow, ServerAnswer, answer, awaits_first}
use Rattle.server_machine.specs.ServerTable.{first_discard, server_discard, server_deliver}
use Rattle.server_machine.specs.Variables.{ServerVariables}

-- an Expanded Nak is accepted as a backend's first Response, and if the Request that was sent last
-- is of Type 254; the table requires the rest: that it has currentId, and that the method is
-- proposed
abbrev pub accepts_nak : ServerVariables → Bool
accepts_nak vars = awaits_first vars || (type_of vars.last_request == expanded_kind)

-- the Nak that an Expanded Nak says (section 5.3.2); one that names neither method desires none
abbrev pub nak_octets : ℕ → List ℕ → List ℕ
nak_octets id body = spelled (response id nak_kind (nak_of (expanded_kinds (inner_body body))))

-- what the table reads in place of a Response
abbrev pub response_octets : ServerVariables → List ℕ → ℕ → ℕ → List ℕ → List ℕ
response_octets vars octets id kind body =
    if (kind == expanded_kind) && (is_nak_body body && accepts_nak vars) then nak_octets id body
    else plain_octets octets (response id kind body)

-- a Request is sent, and stored for the timer, as it is wrapped
abbrev pub stores_sent : ServerAnswer → List ℕ → ServerAnswer
stores_sent out octets =
    answer (record out.step { sent = Some octets })
    (record { vars = record out.after.vars { last_request = octets }; views = out.after.views })

abbrev pub wraps_sent : ServerAnswer → Option (List ℕ) → ServerAnswer
wraps_sent out None = out
wraps_sent out (Some octets) =
    if code_of octets == 1 then stores_sent out (expanded_form octets) else out

abbrev pub wraps : ServerAnswer → ServerAnswer
wraps out = wraps_sent out out.step.sent

-- a Request that is sent has room for an Expanded Type
abbrev pub MayWrap : Bool → List ℕ → Type 0
MayWrap sends packet = sends ≡ true → code_of packet ≡ 1 → HasCapacity packet

-- a Response that no party accepts; to a backend that awaits its first, with an empty path
abbrev pub discards_bad : ServerNow → ServerAnswer
discards_bad now = if awaits_first now.vars then first_discard now cause.BadExpanded
    else server_discard now cause.BadExpanded

-- a Response to a server that has not ended
abbrev pub reads_response : ServerNow → List ℕ → ℕ → ℕ → List ℕ → ServerAnswer
reads_response now octets id kind body =
    if is_bad_expanded (response id kind body) then discards_bad now
    else wraps (server_deliver now (response_octets now.vars octets id kind body))

abbrev pub server_reads : ServerNow → List ℕ → Result PacketValue Cause → ServerAnswer
server_reads now octets (Ok (response id kind body)) = reads_response now octets id kind body
server_reads now octets packet = server_deliver now octets

-- a delivery, read so if the settings say so
unfoldable pub server_receives : ServerNow → List ℕ → ServerAnswer
server_receives now octets =
    if now.vars.setup.expanded && not (is_end now.vars.state)
    then server_reads now octets (packet_of octets)
    else server_deliver now octets
