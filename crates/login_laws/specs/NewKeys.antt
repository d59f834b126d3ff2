-- By EAP-PSK no two conversations of the peer have one MSK or one EMSK, if nonces are fresh (RFC
-- 4764 section 3.2).
use Rattle.std.specs.Prelude.{◌≡◌, List, true, Some}
use Rattle.login_setup.specs.declared.event.Event.{Event}
use Rattle.login_setup.specs.declared.setup.Setup.{Setup}
use Rattle.octet_lists.specs.Among.{psk_kind}
use Rattle.aes_block.specs.Blocks.{IsBlock}
use Rattle.eap_method.specs.Peer.{key_for}
use Rattle.eap_world.specs.Conversations.{front}
use Rattle.world_laws.specs.Whole.{IsWhole}
use Rattle.world_laws.specs.EachConversation.{AreTwoOf, OfPeer, peer_conversations, peer_nonce}
use Rattle.world_laws.specs.Runs.{run_of}
use Rattle.login_laws.specs.SessionIds.{SessionOf, peer_session}

-- the method of this conversation has succeeded by EAP-PSK, whose RAND_P is a block
pub record HasByPsk (p : OfPeer) (session : SessionOf) : Type 0 where
  pub has : peer_session p.now ≡ Some session
  pub by_psk : session.report.method ≡ psk_kind
  pub rand_p : IsBlock (front (peer_nonce p))

-- what two have derived differs
pub record HaveOwnKeys (one other : SessionOf) : Type 0 where
  pub msk : one.report.msk ≡ other.report.msk → ⊥
  pub emsk : one.report.emsk ≡ other.report.emsk → ⊥

abbrev pub KeysAreNew : Type 0
KeysAreNew =
    (setup : Setup) (events : List Event) → IsWhole setup → IsBlock (key_for setup.peer psk_kind)
    → (run_of setup events).conversations.fresh ≡ true
    → (p q : OfPeer) → AreTwoOf p q (peer_conversations setup events)
    → (one other : SessionOf) → HasByPsk p one → HasByPsk q other → HaveOwnKeys one other
