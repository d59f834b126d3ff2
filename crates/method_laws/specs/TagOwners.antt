-- What a conversation's view says of its nonces and tags, and which conversations can have made a
-- tag.
use Rattle.std.specs.Prelude.{◌≡◌, ℕ, List, length, Option, Some}
use Rattle.login_setup.specs.declared.setup.PeerSetup.{PeerSetup}
use Rattle.login_setup.specs.Setup.{ServerSetup}
use Rattle.eap_method.specs.declared.tags.TagRecord.{TagRecord}
use Rattle.eap_method.specs.Peer.{PeerViews}
use Rattle.eap_method.specs.Server.{ServerViews}
use Rattle.eap_method.specs.PskTags.{rand_of}
use Rattle.method_laws.specs.ByMethod.{peer_foreign, server_foreign, PeerTags, ServerTags}
use Rattle.method_laws.specs.Records.{IsIn}

-- a conversation of the peer with this nonce, which has that nonce of the server, has accepted and
-- made these tags
pub record PeerTagOwner (setup : PeerSetup) (nonce : List ℕ) (held : Option (List ℕ))
    (accepted made : List TagRecord) : Type 0 where
  pub selected : Option ℕ
  pub views : PeerViews
  pub tags : PeerTags (record setup { nonce = nonce }) selected views accepted made
  pub held_is : peer_foreign selected views ≡ held

-- only a conversation with the one nonce, which has the other, can have made the tag
pub record OnlyByPeer (t : TagRecord) (own foreign : List ℕ) : Type 0 where
  pub tells : (setup : PeerSetup) (nonce : List ℕ) (held : Option (List ℕ))
      (accepted made : List TagRecord) → length nonce ≡ 32
      → PeerTagOwner setup nonce held accepted made → IsIn t made → (rand_of nonce ≡ own)
      × (held ≡ Some foreign)

-- a conversation of the server with this nonce, which has that nonce of the peer, has accepted and
-- made these tags
pub record ServerTagOwner (setup : ServerSetup) (nonce : List ℕ) (held : Option (List ℕ))
    (accepted made : List TagRecord) : Type 0 where
  pub current : Option ℕ
  pub views : ServerViews
  pub tags : ServerTags (record setup { nonce = nonce }) current views accepted made
  pub held_is : server_foreign current views ≡ held

-- only a conversation that has the nonce can have made the tag
pub record OnlyByServer (t : TagRecord) (foreign : List ℕ) : Type 0 where
  pub tells : (setup : ServerSetup) (nonce : List ℕ) (held : Option (List ℕ))
      (accepted made : List TagRecord)
      → ServerTagOwner setup nonce held accepted made → IsIn t made → held ≡ Some foreign

-- no conversation of the server can have made the tag
pub record NotByServer (setup : ServerSetup) (t : TagRecord) : Type 0 where
  pub none : (nonce : List ℕ) (held : Option (List ℕ)) (accepted made : List TagRecord)
      → length nonce ≡ 32
      → ServerTagOwner setup nonce held accepted made → IsIn t made → ⊥
