-- A peer by EAP-GPSK accepts none of its own tags, in whichever of its conversations it made them, if
-- its nonce doesn't begin with the length of its own name in two octets: GPSK-2, which the peer
-- sends, begins with ID_Peer and its length, and GPSK-3, which it accepts, with RAND_Peer (RFC 5433
-- sections 9.2 and 9.3).
use Rattle.std.specs.Prelude.{◌≡◌, ℕ, List, length, take, true, Some}
use Rattle.eap_packet.specs.Packet.{two_octets}
use Rattle.eap_world.specs.Judgement.{is_success}
use Rattle.login_laws.specs.AnyEnds.{IsOfSomePeer}
use Rattle.login_laws.specs.Matching.{RestsOn}
use Rattle.login_setup.specs.declared.setup.Setup.{Setup}
use Rattle.octet_lists.specs.Among.{gpsk_kind}
use Rattle.world_laws.specs.EachConversation.{OfPeer, peer_nonce}

-- a nonce that can't be read as the beginning of a name with its length
abbrev pub IsNoName : List ℕ → List ℕ → Type 0
IsNoName nonce name = take 2 nonce ≡ two_octets (length name) → ⊥

abbrev pub GpskPeersAcceptNoOwnTags : Type 0
GpskPeersAcceptNoOwnTags =
    (setup : Setup) (p q : OfPeer) → IsOfSomePeer setup p → IsOfSomePeer setup q
    → is_success p.now.vars.state ≡ true → p.now.vars.selected ≡ Some gpsk_kind
    → IsNoName (peer_nonce p) setup.peer.name → RestsOn p.accepted q.made → ⊥
