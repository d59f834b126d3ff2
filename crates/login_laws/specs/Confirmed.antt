-- Key confirmation to a server by EAP-GPSK (RFC 5433 section 3): if one conversation of the peer made
-- each tag that one of the server in SUCCESS accepted, and that made each tag that this accepted,
-- the peer's has succeeded, with just the report of the server's. Or each made by any of them: then
-- so it is, or two logins have different keys under which the same octets have the same MAC.
use Rattle.std.specs.Prelude.{◌≡◌, ◌⊎◌, ℕ, List, true, Some}
use Rattle.eap_method.specs.Peer.{key_for}
use Rattle.eap_method.specs.declared.tags.TagRecord.{TagRecord}
use Rattle.eap_world.specs.Judgement.{is_success}
use Rattle.login_laws.specs.AnyEnds.{AreOfSomeRuns, HonestAmong, IsOfSomePeer, IsOfSomeServer}
use Rattle.login_laws.specs.AnyEnds.{NoncesDiffer}
use Rattle.login_laws.specs.Matching.{RestsOn}
use Rattle.login_laws.specs.UnderKey.{IsOfKey}
use Rattle.login_setup.specs.declared.setup.Setup.{Setup}
use Rattle.method_laws.specs.Records.{IsIn}
use Rattle.method_laws.specs.RightMacs.{IsPeersMac, IsServersMac}
use Rattle.octet_lists.specs.Among.{gpsk_kind}
use Rattle.peer_machine.specs.PeerTable.{peer_reports}
use Rattle.server_machine.specs.ServerTable.{server_reports}
use Rattle.world_laws.specs.EachConversation.{IsOneOf, OfPeer, OfServer, peer_nonce, server_nonce}

-- each of these tags is among those
pub record AreIn (tags all : List TagRecord) : Type 0 where
  pub each : (t : TagRecord) → IsIn t tags → IsIn t all

-- of conversations of any runs
abbrev pub GpskServersConfirmed : Type 0
GpskServersConfirmed =
    (setup : Setup) (s : OfServer) → IsOfSomeServer setup s → is_success s.now.vars.state ≡ true
    → s.now.vars.current ≡ Some gpsk_kind → (p : OfPeer) → IsOfSomePeer setup p
    → AreIn s.accepted p.made → AreIn p.accepted s.made
    → peer_reports p.now ≡ server_reports s.now

-- a tag that one of the server accepted and one of the peer made in another login: the right MAC of
-- its octets under a key of each, which they derive from different inputs (RFC 5433 section 4)
pub record Collision (setup : Setup) (ps : List OfPeer) (s : OfServer) : Type 0 where
  pub by : OfPeer
  pub is_one : IsOneOf by ps
  pub tag : TagRecord
  pub accepted : IsIn tag s.accepted
  pub made : IsIn tag by.made
  pub server_mac : IsServersMac setup.server (server_nonce s) s.now.vars.current s.now.views tag
  pub peer_mac : IsPeersMac setup.peer (peer_nonce by) by.now.vars.selected by.now.views tag
  pub differ : server_mac.inputs ≡ peer_mac.inputs → ⊥

-- of the one of the peer on which one of the server with a user of its key rests, under the
-- premises of `AnyEndsMatch`
abbrev pub GpskServersConfirmedOrCollide : Type 0
GpskServersConfirmedOrCollide =
    (setup : Setup) (kind : ℕ) (ps : List OfPeer) (ss : List OfServer)
    → AreOfSomeRuns setup ps ss → NoncesDiffer ps ss
    → HonestAmong (key_for setup.peer kind) ps ss
    → (s : OfServer) → IsOneOf s ss → is_success s.now.vars.state ≡ true
    → IsOfKey setup (key_for setup.peer kind) s.now → s.now.vars.current ≡ Some gpsk_kind
    → (p : OfPeer) → IsOneOf p ps → RestsOn s.accepted p.made
    → (peer_reports p.now ≡ server_reports s.now) ⊎ Collision setup ps s
