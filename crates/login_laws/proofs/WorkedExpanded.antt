-- A proposal that is refused between ends that read Expanded Types (RFC 3748 section 5.7), computed
-- from the definitions alone.
use Rattle.std.proofs.Common.{◌≡◌, List, [], ◌∷◌, ◌++◌, true, refl}
use Rattle.std.specs.Prelude.{codes, map, replicate}
use Rattle.login_setup.specs.declared.setup.Setup.{Setup}
use Rattle.login_setup.specs.declared.event.Event.{Event}
use Rattle.login_setup.specs.declared.event.Event.TheVariants.{Deliver}
use Rattle.login_setup.specs.Plain.{plain_peer, plain_server, plain_setup}
use Rattle.eap_packet.specs.Expanded.{are_expanded}
use Rattle.eap_packet.specs.Packet as packets
use Rattle.eap_packet.specs.Fault.{fault, packet_of}
use Rattle.psk_messages.specs.Message as psk
use Rattle.login_policy.specs.Expanded.{kinds_in, nak_entries}
use Rattle.login_policy.specs.Policy.{nak_of, next_kind}
use Rattle.eap_method.specs.Peer as peer
use Rattle.eap_method.specs.PskServer as psk_server
use Rattle.eap_method.specs.Server as server
use Rattle.peer_machine.specs.Expanded.{peer_receives}
use Rattle.peer_machine.specs.PeerTable.{peer_deliver}
use Rattle.server_machine.specs.Expanded.{server_receives}
use Rattle.server_machine.specs.ServerTable.{server_start, server_deliver, select_action}
use Rattle.eap_world.specs.Sent.{Sent}
use Rattle.eap_world.specs.World.{world_start, act, conversed_by, reported_before, world_step}
use Rattle.eap_world.specs.World.{run_after}
use Rattle.world_laws.specs.Runs.{initial_world}

-- alice, who has no method, and the server srv, which proposes EAP-PSK
refusing_setup : Setup
refusing_setup =
    record plain_setup {
      peer = record plain_peer { expanded = true };
      server = record plain_server { methods = 47 ∷ []; expanded = true };
    }

four_deliveries : List Event
four_deliveries = Deliver 1 ∷ Deliver 2 ∷ Deliver 3 ∷ Deliver 4 ∷ []

-- the Identity round is plain, the proposal is wrapped, the Expanded Nak has the one entry of Type
-- 0, and the Failure is plain
proposal_refused : map (λ (packet : Sent). packet.octets)
    (run_after (world_start (initial_world refusing_setup)).after four_deliveries).sent
    ≡ (1 ∷ 0 ∷ 0 ∷ 5 ∷ 1 ∷ [])
    ∷ (2 ∷ 0 ∷ 0 ∷ 10 ∷ 1 ∷ codes "alice")
    ∷ (1 ∷ 1 ∷ 0 ∷ 32 ∷ 254 ∷ 0 ∷ 0 ∷ 0 ∷ 0 ∷ 0 ∷ 0 ∷ 47 ∷ 0 ∷ (replicate 16 34 ++ codes "srv"))
    ∷ (2 ∷ 1 ∷ 0 ∷ 20 ∷ 254 ∷ 0 ∷ 0 ∷ 0 ∷ 0 ∷ 0 ∷ 0 ∷ 3 ∷ 254 ∷ 0 ∷ 0 ∷ 0 ∷ 0 ∷ 0 ∷ 0 ∷ 0 ∷ [])
    ∷ (4 ∷ 1 ∷ 0 ∷ 4 ∷ []) ∷ []
unfolding run_after world_start world_step act conversed_by reported_before server_start
    server_receives server_deliver peer_receives peer_deliver select_action next_kind nak_of
    nak_entries kinds_in are_expanded packet_of fault packets.spelled psk.spelled psk_server.first
    psk_server.first_step refusing_setup four_deliveries peer.views_started server.views_started
    server.server_offer server.server_first_step server.server_started_in server.side_of
    peer.peer_report_of server.server_report_of
proposal_refused = refl
