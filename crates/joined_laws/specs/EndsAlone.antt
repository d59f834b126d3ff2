-- Any number of ends that run alone, as the handles of the library for C: each over its own inputs,
-- with a nonce of its own.
use Rattle.std.specs.Prelude.{◌≡◌, ℕ, List, [], ◌∷◌, ◌++◌, map, true}
use Rattle.std.specs.List.{list_all}
use Rattle.eap_method.specs.BothPeers as both_peers
use Rattle.eap_method.specs.BothServers as both_servers
use Rattle.eap_method.specs.Peer.{key_for}
use Rattle.eap_method.specs.declared.tags.TagRecord.{TagRecord}
use Rattle.end_pipe.specs.EndRun.{EndNow, EndTold, end_after, told_of, started_peer, peer_step}
use Rattle.end_pipe.specs.EndRun.{started_server, server_step}
use Rattle.end_pipe.specs.Inputs.{is_of_peer, is_of_server}
use Rattle.end_pipe.specs.declared.input.EndInput.{EndInput}
use Rattle.eap_world.specs.Judgement.{is_success}
use Rattle.login_laws.specs.AnyEnds.{AreMade, HonestAmong, MatchAmong, MatchesOne, NoncesDiffer}
use Rattle.login_laws.specs.UnderKey.{IsOfKey}
use Rattle.login_setup.specs.declared.setup.Mode.TheVariants as mode
use Rattle.login_setup.specs.declared.setup.Setup.{Setup}
use Rattle.peer_machine.specs.PeerTable as peers
use Rattle.peer_machine.specs.PeerTable.{PeerNow}
use Rattle.server_machine.specs.ServerTable as servers
use Rattle.server_machine.specs.ServerTable.{ServerNow}
use Rattle.world_laws.specs.EachConversation.{IsOneOf, OfPeer, OfServer, all_produced}
use Rattle.world_laws.specs.Whole.{IsWhole}

-- an end that runs alone: its nonce, and its inputs in their order
pub record EndAlone : Type 0 where
  pub nonce : List ℕ
  pub inputs : List EndInput

-- the tags that an end accepted, and made, at its inputs
unfoldable pub accepted_at : List EndTold → List TagRecord
accepted_at [] = []
accepted_at (told ∷ rest) = told.step.tags.accepted ++ accepted_at rest

unfoldable pub made_at : List EndTold → List TagRecord
made_at [] = []
made_at (told ∷ rest) = told.step.tags.made ++ made_at rest

-- a peer with this nonce, and what it is after its inputs
abbrev pub peer_setup : Setup → EndAlone → Setup
peer_setup setup one =
    record setup { mode = mode.Alone; peer = peers.setup_with_nonce setup.peer one.nonce }

abbrev pub peer_initial : Setup → EndAlone → EndNow PeerNow
peer_initial setup one = started_peer (peers.setup_with_nonce setup.peer one.nonce)
    (both_peers.both_of setup.peer.methods)

abbrev pub peer_after : Setup → EndAlone → OfPeer
peer_after setup one = record {
  now = (end_after peer_step (peer_initial setup one) one.inputs).now;
  accepted = accepted_at (told_of peer_step (peer_initial setup one) one.inputs);
  made = made_at (told_of peer_step (peer_initial setup one) one.inputs);
}

-- a server with this nonce, which has started
abbrev pub server_setup : Setup → EndAlone → Setup
server_setup setup one =
    record setup { mode = mode.Alone; server = servers.setup_with_nonce setup.server one.nonce }

abbrev pub server_initial : Setup → EndAlone → EndNow ServerNow
server_initial setup one = started_server (servers.setup_with_nonce setup.server one.nonce)
    (both_servers.both_of setup.server.methods) setup.first_id setup.max_retrans

abbrev pub server_after : Setup → EndAlone → OfServer
server_after setup one = record {
  now = (end_after server_step (server_initial setup one) one.inputs).now;
  accepted = accepted_at (told_of server_step (server_initial setup one) one.inputs);
  made = made_at (told_of server_step (server_initial setup one) one.inputs);
}

-- the settings are those of a scenario, and the inputs those of a peer, or of a server
pub record IsPeerAlone (setup : Setup) (one : EndAlone) : Type 0 where
  pub whole : IsWhole (peer_setup setup one)
  pub inputs : list_all is_of_peer one.inputs ≡ true

pub record IsServerAlone (setup : Setup) (one : EndAlone) : Type 0 where
  pub whole : IsWhole (server_setup setup one)
  pub inputs : list_all is_of_server one.inputs ≡ true

abbrev pub peers_after : Setup → List EndAlone → List OfPeer
peers_after setup = map (peer_after setup)

abbrev pub servers_after : Setup → List EndAlone → List OfServer
servers_after setup = map (server_after setup)

-- they match as the conversations of any runs do
abbrev pub EndsAloneMatch : Type 0
EndsAloneMatch =
    (setup : Setup) (kind : ℕ) (ps ss : List EndAlone)
    → ((one : EndAlone) → IsOneOf one ps → IsPeerAlone setup one)
    → ((one : EndAlone) → IsOneOf one ss → IsServerAlone setup one)
    → NoncesDiffer (peers_after setup ps) (servers_after setup ss)
    → HonestAmong (key_for setup.peer kind) (peers_after setup ps) (servers_after setup ss)
    → MatchAmong setup kind (peers_after setup ps) (servers_after setup ss)

-- so does one of the servers, if a peer made what it accepted itself
abbrev pub ServersAloneMatch : Type 0
ServersAloneMatch =
    (setup : Setup) (kind : ℕ) (ps ss : List EndAlone)
    → ((one : EndAlone) → IsOneOf one ps → IsPeerAlone setup one)
    → ((one : EndAlone) → IsOneOf one ss → IsServerAlone setup one)
    → NoncesDiffer (peers_after setup ps) (servers_after setup ss)
    → (s : OfServer) → IsOneOf s (servers_after setup ss) → is_success s.now.vars.state ≡ true
    → IsOfKey setup (key_for setup.peer kind) s.now
    → AreMade (key_for setup.peer kind) s.accepted (all_produced (peers_after setup ps))
    → MatchesOne (peers_after setup ps) (servers_after setup ss) s
