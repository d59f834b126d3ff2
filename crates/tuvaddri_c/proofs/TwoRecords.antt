-- An end that has just been made has its objects, of EAP-PSK or of EAP-GPSK, and each call leaves
-- it those that it had.
use Rattle.std.proofs.Common.{◌≡◌, List, [], ◌∷◌, ℕ, true, map, refl, ap, sym, ◌∙◌}
use Rattle.login_setup.specs.declared.setup.PeerSetup.{PeerSetup}
use Rattle.login_setup.specs.Setup.{ServerSetup}
use Rattle.eap_method.specs.BothPeers as both_peers
use Rattle.eap_method.specs.BothServers as both_servers
use Rattle.eap_method.specs.Peer.{PeerViews, have_each, peer_kinds, peer_views}
use Rattle.eap_method.specs.Server.{ServerViews}
use Rattle.eap_method.specs.Unnamed.{PreservesPeers, PreservesServers}
use Rattle.eap_method.proofs.BothPeers as peers_begin
use Rattle.eap_method.proofs.BothServers as servers_begin
use Rattle.peer_machine.specs.PeerTable as peers
use Rattle.peer_machine.specs.PeerTable.{PeerNow, PeerValue, initial_peer}
use Rattle.server_machine.specs.ServerTable as servers
use Rattle.server_machine.specs.ServerTable.{ServerNow, ServerValue, initial_vars_of}
use Rattle.server_machine.specs.ServerTable.{initial_server, made_again, setup_with_nonce}
use Rattle.server_machine.specs.ServerTable.{own_users, with_users}
use Rattle.server_machine.specs.declared.variables.Role.{Role}
use Rattle.server_machine.specs.Variables.{ServerVariables}
use Rattle.end_objects.specs.Objects.{peer_object_shown, server_object_shown}
use Rattle.end_objects.specs.Settings.{SettingsValue, kinds_of, server_setup_of, users_of}
use Rattle.end_objects.specs.declared.objects.PeerObject.{PeerObject}
use Rattle.end_objects.specs.declared.objects.PeerObject.TheVariants as peer_objects
use Rattle.end_objects.specs.declared.objects.ServerObject.{ServerObject}
use Rattle.end_objects.specs.declared.objects.ServerObject.TheVariants as server_objects
use Rattle.tuvaddri_c.specs.Ends.{peer_has_objects, server_has_objects}

-- each object is of one of the two methods
peers_both : (objects : List PeerObject)
    → both_peers.are_both (map peer_object_shown objects) ≡ true
peers_both [] = refl
peers_both (peer_objects.Psk view ∷ rest) = peers_both rest
peers_both (peer_objects.Gpsk view ∷ rest) = peers_both rest

servers_both : (objects : List ServerObject)
    → both_servers.are_both (map server_object_shown objects) ≡ true
servers_both [] = refl
servers_both (server_objects.Psk view ∷ rest) = servers_both rest
servers_both (server_objects.Gpsk view ∷ rest) = servers_both rest

pub peer_started_with : (setup : PeerSetup) (objects : List PeerObject) (m : PeerValue PeerObject)
    → peers.now_of peer_object_shown m
    ≡ initial_peer setup (peer_views setup.methods (map peer_object_shown objects))
    → have_each (peer_kinds (map peer_object_shown objects)) setup.methods ≡ true
    → peers.now_of peer_object_shown m ≡ initial_peer setup (both_peers.both_of setup.methods)
peer_started_with setup objects m made has =
    made ∙ ap (λ (views : PeerViews).
    record (initial_peer setup (both_peers.both_of setup.methods)) { views = views })
    (peers_begin.starts_as_both setup (map peer_object_shown objects) (peers_both objects) has)

pub peer_created_with : (setup : PeerSetup) (views : PeerViews) (objects : List PeerObject)
    (m : PeerValue PeerObject)
    → peers.now_of peer_object_shown m ≡ initial_peer setup views
    → PreservesPeers setup.methods (map peer_object_shown objects) (map peer_object_shown m.methods)
    → have_each (peer_kinds (map peer_object_shown objects)) setup.methods ≡ true
    → peer_has_objects m ≡ true
peer_created_with setup views objects m made kept has =
    let named : m.vars.setup.methods ≡ setup.methods =
    ap (λ (now : PeerNow). now.vars.setup.methods) made in
    rw (kept.methods, named) has

-- a server without users, which then has those of the settings, and begins
pub server_started_with : (of : Role) (told : SettingsValue) (nonce : List ℕ) (setup : ServerSetup)
    (first_id max_retrans : ℕ) (alone m : ServerValue ServerObject) (after : ServerNow)
    → setup ≡ record (server_setup_of told nonce) { users = [] }
    → alone.vars ≡ initial_vars_of of setup first_id max_retrans
    → m ≡ with_users alone (users_of told)
    → made_again (servers.now_of server_object_shown m) nonce ≡ after → server_has_objects m ≡ true
    → after ≡ initial_server of (server_setup_of told nonce) (both_servers.both_of
    (kinds_of told)) first_id max_retrans
unfolding server_setup_of
server_started_with of told nonce setup first_id max_retrans alone m after is vars given made has =
    let shown = map server_object_shown m.methods in
    let now : ServerSetup → ServerSetup = λ s. setup_with_nonce s nonce in
    let filled : ServerSetup → ServerSetup = λ s. now (own_users s (users_of told)) in
    let begun : Role → ServerSetup → ℕ → ℕ → ServerNow = λ role s first most.
    initial_server role s (both_servers.both_of s.methods) first most in
    sym made ∙ (ap (λ (views : ServerViews). record (begun m.vars.role (now m.vars.setup)
    m.vars.first_id m.vars.max_retrans) { views = views })
    (servers_begin.starts_as_both (now m.vars.setup) shown (servers_both m.methods) has)
    ∙ (ap (λ (v : ServerValue ServerObject). begun v.vars.role (now v.vars.setup)
    v.vars.first_id v.vars.max_retrans) given
    ∙ (ap (λ (v : ServerVariables). begun v.role (filled v.setup) v.first_id v.max_retrans) vars
    ∙ ap (λ (s : ServerSetup). begun of (filled s) first_id max_retrans) is)))

pub peer_preserved : (m after : PeerValue PeerObject)
    → PreservesPeers m.vars.setup.methods (map peer_object_shown m.methods)
    (map peer_object_shown after.methods)
    → after.vars.setup.methods ≡ m.vars.setup.methods → peer_has_objects m ≡ true
    → peer_has_objects after ≡ true
peer_preserved m after kept named has = rw (kept.methods, named) has

pub server_preserved : (m after : ServerValue ServerObject)
    → PreservesServers m.vars.setup.methods (map server_object_shown m.methods)
    (map server_object_shown after.methods)
    → after.vars.setup.methods ≡ m.vars.setup.methods → server_has_objects m ≡ true
    → server_has_objects after ≡ true
server_preserved m after kept named has = rw (kept.methods, named) has
