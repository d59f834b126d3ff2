-- Which ends have been seen to hold a report, before an event: it stays where no end begins a new
-- conversation.
use Rattle.std.proofs.Common.{◌≡◌, ℕ, false, if◌then◌else◌, List, [], ◌∷◌, take, Option, Some, None}
use Rattle.std.proofs.Common.{refl, sym}
use Rattle.login_setup.specs.declared.event.Event.{Event}
use Rattle.login_setup.specs.declared.event.Event.TheVariants as event
use Rattle.login_setup.specs.declared.setup.Party.{Party}
use Rattle.login_setup.specs.declared.setup.Party.TheVariants as party
use Rattle.login_setup.specs.declared.setup.Port.{Port}
use Rattle.login_setup.specs.declared.setup.Port.TheVariants as port
use Rattle.peer_machine.specs.Inputs as peer_inputs
use Rattle.server_machine.specs.Inputs as server_inputs
use Rattle.pass_through.specs.Inputs as pass_inputs
use Rattle.eap_world.specs.Conversations.{Conversations}
use Rattle.eap_world.specs.Sent.{Sent, packet_numbered}
use Rattle.eap_world.specs.World.{Call, Parties, alteration, call_at, call_of, call_with}
use Rattle.eap_world.specs.World.{first_skip, reported_before, has_none, reported_unless, next_call}
use Rattle.eap_world.specs.World.{octets_of, restart_skips, skip_table, timer_call, to_pass}
use Rattle.eap_world.specs.World.{to_peer, to_server}
use Rattle.eap_world.specs.declared.conversations.Waiting.{Waiting}
use Rattle.eap_world.specs.declared.told.Skip.{Skip}
use Rattle.eap_world.specs.declared.told.Skip.TheVariants.{NoNonce}
use Rattle.eap_world.specs.declared.world.HasReported.{HasReported}

-- the reports that were told stay told where no end begins anew
stays_reported : (held : HasReported) (skip : Option Skip) (call : Option Call)
    → reported_unless held None call ≡ held → reported_unless held skip call ≡ held
stays_reported held (Some skip) call same = refl
stays_reported held None call same = same

at_port : (held : HasReported) (to : Port) (octets : List ℕ)
    → reported_unless held None (Some (call_at to octets)) ≡ held
at_port held port.Peer octets = refl
at_port held port.Server octets = refl
at_port held port.PassPeer octets = refl
at_port held port.PassServer octets = refl

with_packet : (held : HasReported) (packet : Option Sent) (octets : List ℕ)
    → reported_unless held None (call_with packet octets) ≡ held
with_packet held None octets = refl
with_packet held (Some packet) octets = at_port held packet.port octets

timer_reported : (held : HasReported) (of : Party)
    → reported_unless held None (Some (timer_call of)) ≡ held
timer_reported held party.Peer = refl
timer_reported held party.Pass = refl
timer_reported held party.Server = refl

call_reported : (held : HasReported) (all : Conversations) (sent : List Sent) (e : Event)
    → ((of : Party) → e ≡ event.Restart of → ⊥)
    → reported_unless held None (call_of all sent e) ≡ held
call_reported held all sent (event.Deliver n) other =
    with_packet held (packet_numbered sent n) (octets_of (packet_numbered sent n))
call_reported held all sent (event.Alter n place mask) other =
    with_packet held (packet_numbered sent n)
    (alteration (octets_of (packet_numbered sent n)) place mask)
call_reported held all sent (event.Cut n keep) other =
    with_packet held (packet_numbered sent n) (take keep (octets_of (packet_numbered sent n)))
call_reported held all sent (event.Inject to octets) other = at_port held to octets
call_reported held all sent (event.Timeout of) other = timer_reported held of
call_reported held all sent event.AaaTimeout other = refl
call_reported held all sent event.AaaNoReq other = refl
call_reported held all sent event.Idle other = refl
call_reported held all sent event.AltAccept other = refl
call_reported held all sent event.AltReject other = refl
call_reported held all sent (event.Restart of) other = absurd (other of refl)

pub still_reported : (held : HasReported) (parties : Parties) (all : Conversations)
    (sent : List Sent) (e : Event) → ((of : Party) → e ≡ event.Restart of → ⊥)
    → held ≡ reported_before held parties all sent e
unfolding reported_before
still_reported held parties all sent e other =
    sym (stays_reported held (first_skip (skip_table parties all sent e)) (call_of all sent e)
    (call_reported held all sent e other))

-- an end that has a nonce left begins with none told
peer_anew_by : (held : HasReported) (left : List Waiting)
    → reported_unless held (first_skip ((has_none left, NoNonce) ∷ []))
    (next_call (λ (nonce : List ℕ). to_peer (peer_inputs.restart nonce)) left)
    ≡ (if has_none left then held else record held { peer = false })
peer_anew_by held [] = refl
peer_anew_by held (one ∷ left) = refl

server_anew_by : (held : HasReported) (left : List Waiting)
    → reported_unless held (first_skip ((has_none left, NoNonce) ∷ []))
    (next_call (λ (nonce : List ℕ). to_server (server_inputs.restart nonce)) left)
    ≡ (if has_none left then held else record held { server = false })
server_anew_by held [] = refl
server_anew_by held (one ∷ left) = refl

pub peer_anew : (held : HasReported) (parties : Parties) (all : Conversations) (sent : List Sent)
    → reported_before held parties all sent (event.Restart party.Peer)
    ≡ (if has_none all.peer_left then held else record held { peer = false })
unfolding reported_before
peer_anew held parties all sent = peer_anew_by held all.peer_left

pub server_anew : (held : HasReported) (parties : Parties) (all : Conversations) (sent : List Sent)
    → reported_before held parties all sent (event.Restart party.Server)
    ≡ (if has_none all.server_left then held else record held { server = false })
unfolding reported_before
server_anew held parties all sent = server_anew_by held all.server_left

pub pass_anew : (held : HasReported) (parties : Parties) (all : Conversations) (sent : List Sent)
    → reported_before held parties all sent (event.Restart party.Pass) ≡ held
unfolding reported_before
pass_anew held parties all sent =
    stays_reported held (first_skip (restart_skips parties all party.Pass))
    (Some (to_pass pass_inputs.restart)) refl
