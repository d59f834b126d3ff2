-- The Identity round (RFC 3748 section 2), computed from the definitions alone.
use Rattle.std.proofs.Common.{◌≡◌, List, [], ◌∷◌, true, false, refl, Some, None}
use Rattle.std.specs.Prelude.{codes, map, replicate}
use Rattle.login_setup.specs.declared.setup.Setup.{Setup}
use Rattle.login_setup.specs.declared.setup.Mode.TheVariants as mode
use Rattle.login_setup.specs.declared.setup.Party.TheVariants as party
use Rattle.login_setup.specs.declared.setup.Port.TheVariants as port
use Rattle.login_setup.specs.declared.event.Event.{Event}
use Rattle.login_setup.specs.declared.event.Event.TheVariants.{Deliver}
use Rattle.login_setup.specs.Plain.{plain_setup}
use Rattle.eap_packet.specs.declared.state.State.TheVariants as state
use Rattle.eap_packet.specs.Packet.{spelled}
use Rattle.eap_packet.specs.Fault.{fault, packet_of}
use Rattle.login_policy.specs.Policy.{next_kind}
use Rattle.eap_method.specs.Peer as peer
use Rattle.eap_method.specs.Server as server
use Rattle.eap_method.specs.declared.values.MethodState.TheVariants.{NotSet}
use Rattle.eap_method.specs.declared.values.Decision.TheVariants.{Fail}
use Rattle.peer_machine.specs.Expanded.{peer_receives}
use Rattle.peer_machine.specs.PeerTable.{peer_deliver}
use Rattle.server_machine.specs.Expanded.{server_receives}
use Rattle.server_machine.specs.ServerTable.{server_start, server_deliver, select_action}
use Rattle.server_machine.specs.declared.variables.Progress.TheVariants.{End}
use Rattle.server_machine.specs.declared.variables.Role.TheVariants.{StandAlone}
use Rattle.pass_through.specs.PassTable.{initial_pass}
use Rattle.eap_world.specs.Conversations.{beginning}
use Rattle.tag_book.specs.declared.book.End.TheVariants as end
use Rattle.eap_world.specs.World.{world_start, act, conversed_by, reported_before, world_step}
use Rattle.eap_world.specs.World.{outcomes_after, run_after}
use Rattle.eap_method.specs.BothPeers.{both_of}
use Rattle.eap_method.specs.BothServers as of_server
use Rattle.world_laws.specs.Runs.{initial_world}

-- alice logs in at the server srv, which sends a Request again four times; no end has a method
example_setup : Setup
example_setup = plain_setup

three : List Event
three = Deliver 1 ∷ Deliver 2 ∷ Deliver 3 ∷ []

-- the server asks, the peer answers, the server ends in a Failure
identity_round : run_after (world_start (initial_world example_setup)).after three
    ≡ record {
      parties = record {
        mode = mode.Alone;
        peer = record {
          vars = record {
            setup = example_setup.peer;
            state = state.Failure;
            selected = None;
            method_state = NotSet;
            decision = Fail;
            last_id = Some 0;
            last_response = 2 ∷ 0 ∷ 0 ∷ 10 ∷ 1 ∷ codes "alice";
          };
          views = peer.views_started example_setup.peer (both_of example_setup.peer.methods);
        };
        server = record {
          vars = record {
            role = StandAlone;
            setup = example_setup.server;
            first_id = 0;
            max_retrans = 4;
            state = state.Failure;
            current_id = Some 0;
            current = Some 1;
            progress = End;
            retrans_count = 0;
            last_request = 1 ∷ 0 ∷ 0 ∷ 5 ∷ 1 ∷ [];
            proposed = [];
          };
          views = server.views_started example_setup.server
              (of_server.both_of example_setup.server.methods);
        };
        pass = initial_pass 0 4;
      };
      sent = record { port = port.Peer; octets = 1 ∷ 0 ∷ 0 ∷ 5 ∷ 1 ∷ [] }
          ∷ record { port = port.Server; octets = 2 ∷ 0 ∷ 0 ∷ 10 ∷ 1 ∷ codes "alice" }
          ∷ record { port = port.Peer; octets = 4 ∷ 0 ∷ 0 ∷ 4 ∷ [] } ∷ [];
      book = [];
      counts = record { events = 3; deliveries = 3; discards = 0 };
      held = record { peer = false; server = false };
      conversations = record {
        peer_left = [];
        server_left = [];
        begun = beginning 0 end.Peer (replicate 32 17)
            ∷ beginning 0 end.Server (replicate 32 34) ∷ [];
        fresh = true;
      };
      version = 1;
      started = true;
    }
unfolding run_after world_start world_step act conversed_by reported_before server_start
    server_receives server_deliver peer_receives peer_deliver select_action next_kind packet_of
    fault spelled example_setup three peer.views_started server.views_started peer.peer_report_of
    server.server_report_of
identity_round = refl

-- what is told of its events
identity_round_reported : map (λ out. out.told)
    (outcomes_after (world_start (initial_world example_setup)).after three)
    ≡ record {
      event = 1;
      party = Some party.Peer;
      path = state.Received ∷ state.Identity ∷ state.SendResponse ∷ state.Idle ∷ [];
      cause = None;
      skip = None;
      sent = Some (record { number = 2; port = port.Server });
      named = None;
    }
    ∷ record {
      event = 2;
      party = Some party.Server;
      path = state.Received ∷ state.IntegrityCheck ∷ state.MethodResponse ∷ state.SelectAction
          ∷ state.Failure ∷ [];
      cause = None;
      skip = None;
      sent = Some (record { number = 3; port = port.Peer });
      named = None;
    }
    ∷ record {
      event = 3;
      party = Some party.Peer;
      path = state.Received ∷ state.Failure ∷ [];
      cause = None;
      skip = None;
      sent = None;
      named = None;
    } ∷ []
unfolding outcomes_after world_start world_step act conversed_by reported_before server_start
    server_receives server_deliver peer_receives peer_deliver select_action next_kind packet_of
    fault spelled example_setup three peer.views_started server.views_started peer.peer_report_of
    server.server_report_of
identity_round_reported = refl
