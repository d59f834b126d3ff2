-- Runs whose ends have objects of the two methods alone, one of each method that they name.
use Rattle.std.specs.Prelude.{◌≡◌, ℕ, List, [], ◌∷◌, ◌++◌}
use Rattle.login_setup.specs.declared.event.Event.{Event}
use Rattle.login_setup.specs.declared.setup.PeerSetup.{PeerSetup}
use Rattle.login_setup.specs.Setup.{ServerSetup}
use Rattle.login_setup.specs.declared.setup.Setup.{Setup}
use Rattle.eap_method.specs.BothPeers as peers
use Rattle.eap_method.specs.BothServers as servers
use Rattle.eap_method.specs.Peer as wide_peers
use Rattle.eap_method.specs.Peer.{PeerShown, PeerViews}
use Rattle.eap_method.specs.Server as wide_servers
use Rattle.eap_method.specs.Server.{ServerShown, ServerViews}
use Rattle.peer_machine.specs.PeerTable as wide_peer
use Rattle.peer_machine.specs.PeerTable.{PeerNow}
use Rattle.server_machine.specs.ServerTable as wide_server
use Rattle.server_machine.specs.ServerTable.{ServerNow}
use Rattle.server_machine.specs.declared.variables.Role.{Role}
use Rattle.eap_world.specs.Run as wide
use Rattle.eap_world.specs.World as wide_world
use Rattle.eap_world.specs.World.{WorldNow, WorldValue, now_of}

abbrev pub initial_peer : PeerSetup → PeerNow
initial_peer setup = wide_peer.initial_peer setup (peers.both_of setup.methods)

abbrev pub initial_server : Role → ServerSetup → ℕ → ℕ → ServerNow
initial_server role setup first_id max_retrans =
    wide_server.initial_server role setup (servers.both_of setup.methods) first_id max_retrans

abbrev pub initial_world : Setup → WorldNow
initial_world setup = wide_world.initial_world setup (peers.both_of setup.peer.methods)
    (servers.both_of setup.server.methods)

abbrev pub run_of : Setup → List Event → WorldNow
run_of setup events = wide.run_of setup (peers.both_of setup.peer.methods)
    (servers.both_of setup.server.methods) events

-- what a start, or an event, does to a world of such a run: it goes on with the run
module _ {P S : Type 0} (peer_shown : P → PeerShown) (server_shown : S → ServerShown) where
  abbrev pub StartsRun : WorldValue P S → WorldValue P S → Type 0
  StartsRun before after =
      (setup : Setup) → now_of peer_shown server_shown before ≡ initial_world setup
      → now_of peer_shown server_shown after ≡ run_of setup []

  abbrev pub HasContinued : Event → WorldValue P S → WorldValue P S → Type 0
  HasContinued event before after = (setup : Setup) (events : List Event)
      → now_of peer_shown server_shown before ≡ run_of setup events
      → now_of peer_shown server_shown after ≡ run_of setup (events ++ (event ∷ []))

-- the views of ends that begin so
abbrev pub views_started : PeerSetup → PeerViews
views_started setup = wide_peers.views_started setup (peers.both_of setup.methods)

abbrev pub server_views_started : ServerSetup → ServerViews
server_views_started setup = wide_servers.views_started setup (servers.both_of setup.methods)
