-- An end whose objects are of EAP-PSK and EAP-GPSK alone, one of each method that it names.
use Rattle.std.specs.Prelude.{ℕ, List}
use Rattle.eap_method.specs.BothPeers as peers
use Rattle.eap_method.specs.BothServers as servers
use Rattle.eap_method.specs.Peer.{PeerViews}
use Rattle.eap_method.specs.Server.{ServerViews}
use Rattle.method_laws.specs.Objects.{PeerHasMethods, ServerHasMethods}

abbrev pub PeerHasBoth : List ℕ → PeerViews → Type 0
PeerHasBoth methods views = PeerHasMethods methods (peers.both_of methods) views

abbrev pub ServerHasBoth : List ℕ → ServerViews → Type 0
ServerHasBoth methods views = ServerHasMethods methods (servers.both_of methods) views
