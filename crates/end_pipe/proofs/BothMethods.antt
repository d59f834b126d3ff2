-- An end whose objects are of the two methods alone that its text can name, one at least of each
-- that it names, begins as over lines.
use Rattle.std.proofs.Common.{◌≡◌, ℕ, List, true, false, ap, ◌∙◌}
use Rattle.login_setup.specs.declared.setup.PeerSetup.{PeerSetup}
use Rattle.login_setup.specs.Setup.{ServerSetup}
use Rattle.eap_method.specs.BothPeers as both_peers
use Rattle.eap_method.specs.BothServers as both_servers
use Rattle.eap_method.specs.Peer.{PeerShown, PeerViews, peer_views, peer_kinds, have_each}
use Rattle.eap_method.specs.Server.{ServerShown, ServerViews, server_views, server_kinds}
use Rattle.eap_method.proofs.BothPeers as peers_begin
use Rattle.eap_method.proofs.BothServers as servers_begin
use Rattle.peer_machine.specs.PeerTable as peers
use Rattle.peer_machine.specs.PeerTable.{PeerNow}
use Rattle.server_machine.specs.ServerTable as servers
use Rattle.server_machine.specs.ServerTable.{ServerNow}
use Rattle.server_machine.specs.declared.variables.Role.TheVariants.{StandAlone}
use Rattle.end_pipe.specs.EndRun.{EndNow, started_peer, server_unstarted}

abbrev peer_with : PeerSetup → PeerViews → EndNow PeerNow
peer_with setup views =
    record { now = record { vars = peers.initial_vars setup; views = views }; held = false }

pub peer_starts : (setup : PeerSetup) (shown : List PeerShown) (e : EndNow PeerNow)
    → e ≡ started_peer setup (peer_views setup.methods shown)
    → both_peers.are_both shown ≡ true → have_each (peer_kinds shown) setup.methods ≡ true
    → e ≡ started_peer setup (both_peers.both_of setup.methods)
peer_starts setup shown e is both each =
    is ∙ ap (peer_with setup) (peers_begin.starts_as_both setup shown both each)

abbrev server_with : ServerSetup → ℕ → ℕ → ServerViews → EndNow ServerNow
server_with setup first_id max_retrans views =
    record {
      now = record {
        vars = servers.initial_vars_of StandAlone setup first_id max_retrans;
        views = views;
      };
      held = false;
    }

pub server_starts : (setup : ServerSetup) (first_id max_retrans : ℕ) (shown : List ServerShown)
    (e : EndNow ServerNow)
    → e ≡ server_unstarted setup (server_views setup.methods shown) first_id max_retrans
    → both_servers.are_both shown ≡ true → have_each (server_kinds shown) setup.methods ≡ true
    → e ≡ server_unstarted setup (both_servers.both_of setup.methods) first_id max_retrans
server_starts setup first_id max_retrans shown e is both each =
    is ∙ ap (server_with setup first_id max_retrans) (servers_begin.starts_as_both setup
    shown both each)
