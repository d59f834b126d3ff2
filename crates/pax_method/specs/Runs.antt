-- Two ends whose only objects are of EAP-PAX agree in every run in which each accepted tag was made
-- earlier by either end, and no end has begun a second conversation.
use Rattle.std.specs.Prelude.{◌≡◌, ℕ, List, [], length, true, ◌==◌, if◌then◌else◌, Some, None}
use Rattle.login_setup.specs.declared.event.Event.{Event}
use Rattle.login_setup.specs.declared.setup.Setup.{Setup}
use Rattle.octet_lists.specs.Among.{is_among}
use Rattle.eap_method.specs.Peer as peer
use Rattle.eap_method.specs.Peer.{PeerViews}
use Rattle.eap_method.specs.Server as server
use Rattle.eap_method.specs.Server.{ServerViews}
use Rattle.eap_world.specs.Run.{run_of}
use Rattle.world_laws.specs.MethodsAgree.{MethodsAgreeIn}
use Rattle.pax_method.specs.Packets.{pax_kind}
use Rattle.pax_method.specs.PaxPeer.{pax_peer}
use Rattle.pax_method.specs.PaxServer.{pax_server}

-- an object of EAP-PAX that hasn't begun, at its own Type
abbrev pub pax_peers : List ℕ → List ℕ → PeerViews
pax_peers ak name =
    λ kind. if kind == pax_kind then Some (peer.other (pax_peer ak name) []) else None

abbrev pub pax_servers : List ℕ → List ℕ → ServerViews
pax_servers ak name =
    λ kind. if kind == pax_kind then Some (server.other (pax_server ak name) []) else None

abbrev pub PaxRunsAgree : Type 0
PaxRunsAgree = (ak other name : List ℕ) (setup : Setup) (events : List Event)
    → is_among setup.peer.methods pax_kind ≡ true → is_among setup.server.methods pax_kind ≡ true
    → length setup.peer.nonce ≡ 32 → length setup.server.nonce ≡ 32
    → MethodsAgreeIn setup (run_of setup (pax_peers ak name) (pax_servers other name) events)
