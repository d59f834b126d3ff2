-- A world whose ends have objects of the two methods alone, one at least of each method that
-- they name, begins as its run.
use Rattle.std.proofs.Common.{◌≡◌, List, true, None, ap₂, ◌∙◌}
use Rattle.login_setup.specs.declared.setup.Setup.{Setup}
use Rattle.eap_method.specs.BothPeers as both_peers
use Rattle.eap_method.specs.BothServers as both_servers
use Rattle.eap_method.specs.Peer.{PeerShown, PeerViews, peer_views, peer_kinds, have_each}
use Rattle.eap_method.specs.Server.{ServerShown, ServerViews, server_views, server_kinds}
use Rattle.eap_method.proofs.BothPeers as peers_begin
use Rattle.eap_method.proofs.BothServers as servers_begin
use Rattle.eap_world.specs.World as wide
use Rattle.eap_world.specs.World.{WorldNow}
use Rattle.world_laws.specs.Runs.{initial_world}

-- the world before its start, of ends with these views
abbrev of_views : Setup → PeerViews → ServerViews → WorldNow
of_views setup peer server =
    let w = wide.initial_world setup (λ kind. None) (λ kind. None) in
    record w {
      parties = record w.parties {
        peer = record w.parties.peer { views = peer };
        server = record w.parties.server { views = server };
      };
    }

pub starts_as_run : (setup : Setup) (peer : List PeerShown) (server : List ServerShown)
    (w : WorldNow)
    → w ≡ wide.initial_world setup (peer_views setup.peer.methods peer) (server_views
    setup.server.methods server)
    → both_peers.are_both peer ≡ true → have_each (peer_kinds peer) setup.peer.methods ≡ true
    → both_servers.are_both server ≡ true
    → have_each (server_kinds server) setup.server.methods ≡ true
    → w ≡ initial_world setup
starts_as_run setup peer server w is peers_both peers_each servers_both servers_each =
    is ∙ ap₂ (of_views setup)
    (peers_begin.starts_as_both setup.peer peer peers_both peers_each)
    (servers_begin.starts_as_both setup.server server servers_both servers_each)
