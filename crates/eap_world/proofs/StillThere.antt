-- The objects that an end had it still has.
use Rattle.std.proofs.Common.{◌≡◌, List, ℕ, true, map, ap}
use Rattle.login_setup.specs.declared.setup.PeerSetup.{PeerSetup}
use Rattle.login_setup.specs.Setup.{ServerSetup}
use Rattle.eap_method.specs.Peer.{PeerShown, PeerViews, have_each, peer_kinds}
use Rattle.eap_method.specs.Server.{ServerShown, ServerViews, server_kinds}
use Rattle.eap_method.specs.Unnamed.{PreservesPeers, PreservesServers}
use Rattle.peer_machine.specs.PeerTable as peers
use Rattle.peer_machine.specs.PeerTable.{PeerNow, PeerValue, initial_peer}
use Rattle.server_machine.specs.ServerTable as servers
use Rattle.server_machine.specs.ServerTable.{ServerNow, ServerValue, initial_server}
use Rattle.server_machine.specs.declared.variables.Role.{Role}
use Rattle.eap_world.specs.World.{HaveObjects, PreservesObjects}

-- so a machine that has just been made, and so one of the same objects whose settings name the same
-- methods
module _ {P : Type 0} (shown : P → PeerShown) where
  pub peer_created_with : (setup : PeerSetup) (views : PeerViews) (objects : List P)
      (m : PeerValue P) → peers.now_of shown m ≡ initial_peer setup views
      → PreservesPeers setup.methods (map shown objects) (map shown m.methods)
      → have_each (peer_kinds (map shown objects)) setup.methods ≡ true
      → have_each (peer_kinds (map shown m.methods)) m.vars.setup.methods ≡ true
  peer_created_with setup views objects m made kept has =
      let named : m.vars.setup.methods ≡ setup.methods =
      ap (λ (now : PeerNow). now.vars.setup.methods) made in
      rw (kept.methods, named) has

module _ {S : Type 0} (shown : S → ServerShown) where
  pub server_created_with : (of : Role) (setup : ServerSetup) (views : ServerViews)
      (first_id max_retrans : ℕ) (objects : List S) (m : ServerValue S)
      → servers.now_of shown m ≡ initial_server of setup views first_id max_retrans
      → PreservesServers setup.methods (map shown objects) (map shown m.methods)
      → have_each (server_kinds (map shown objects)) setup.methods ≡ true
      → have_each (server_kinds (map shown m.methods)) m.vars.setup.methods ≡ true
  server_created_with of setup views first_id max_retrans objects m made kept has =
      let named : m.vars.setup.methods ≡ setup.methods =
      ap (λ (now : ServerNow). now.vars.setup.methods) made in
      rw (kept.methods, named) has

module _ {P S : Type 0} (peer_shown : P → PeerShown) (server_shown : S → ServerShown) where
  pub still_there : (peer peer_after : PeerValue P) (server server_after : ServerValue S)
      → PreservesObjects peer_shown server_shown peer.vars.setup.methods server.vars.setup.methods
      peer.methods server.methods peer_after.methods server_after.methods
      → peer_after.vars.setup.methods ≡ peer.vars.setup.methods → server_after.vars.setup.methods
      ≡ server.vars.setup.methods
      → HaveObjects peer_shown server_shown peer server
      → HaveObjects peer_shown server_shown peer_after server_after
  still_there peer peer_after server server_after kept peer_named server_named has = record {
    peer = rw (kept.peer_preserved.methods, peer_named) has.peer;
    server = rw (kept.server_preserved.methods, server_named) has.server;
  }
