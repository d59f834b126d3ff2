-- The two present conversations, and one end's success, if the server has other users: what is
-- asked of tags is asked of those under the key that the peer has for a method, and of no other.
use Rattle.std.specs.Prelude.{◌≡◌, ℕ, List, length, true, Some}
use Rattle.login_setup.specs.declared.event.Event.{Event}
use Rattle.login_setup.specs.declared.setup.Setup.{Setup}
use Rattle.octet_lists.specs.Among.{psk_kind}
use Rattle.eap_method.specs.Peer.{key_for}
use Rattle.tag_book.specs.Book.{tags_verdict, tags_verdict_either, under}
use Rattle.tag_book.specs.declared.book.TagsVerdict.TheVariants.{Honest}
use Rattle.eap_world.specs.Judgement.{is_success, verdict_of}
use Rattle.eap_world.specs.declared.verdict.Verdict.TheVariants.{Agree, Apart}
use Rattle.eap_world.specs.World.{WorldNow}
use Rattle.login_laws.specs.Agreement.{AgreeAnew, AreApart, AreTheirs}
use Rattle.world_laws.specs.Whole.{IsWhole}
use Rattle.login_laws.specs.Alone.{PeerIsAccepted, PeerKnows, ServerAccepts}
use Rattle.world_laws.specs.EachConversation.{OfPeer, OfServer, peer_conversations}
use Rattle.world_laws.specs.EachConversation.{server_conversations}
use Rattle.login_laws.specs.UnderKey.{IsOfKey}
use Rattle.world_laws.specs.Runs.{run_of}

-- two ends agree, on names, key and suite that are their own
pub record AgreeOnTheirs (setup : Setup) (w : WorldNow) : Type 0 where
  pub agree : verdict_of w ≡ Agree
  pub theirs : AreTheirs setup w.parties.peer w.parties.server

-- both ends are in SUCCESS, the peer by this method
pub record SucceedBy (kind : ℕ) (w : WorldNow) : Type 0 where
  pub peer : is_success w.parties.peer.vars.state ≡ true
  pub method : w.parties.peer.vars.selected ≡ Some kind
  pub server : is_success w.parties.server.vars.state ≡ true

-- what holds of two ends in SUCCESS, the peer by this method
pub record AgreesUnder (setup : Setup) (kind : ℕ) (w : WorldNow) : Type 0 where
  -- if the other end made each accepted tag under the peer's key, and the server's success is of a
  -- user of that key
  pub agrees : tags_verdict (under (key_for setup.peer kind) w.book) ≡ Honest
      → AreApart w.conversations → SucceedBy kind w
      → IsOfKey setup (key_for setup.peer kind) w.parties.server → AgreeOnTheirs setup w
  -- and if nonces are fresh, each has the other's nonce
  pub anew : tags_verdict (under (key_for setup.peer kind) w.book) ≡ Honest
      → w.conversations.fresh ≡ true → SucceedBy kind w
      → IsOfKey setup (key_for setup.peer kind) w.parties.server → AgreeAnew setup w
  -- if either end made it, and no end has begun a second conversation
  pub reflected_agrees : tags_verdict_either (under (key_for setup.peer kind) w.book) ≡ Honest
      → length w.conversations.begun ≡ 2 → SucceedBy kind w
      → IsOfKey setup (key_for setup.peer kind) w.parties.server → AgreeOnTheirs setup w
  -- by EAP-PSK also if nonces are fresh
  pub reflected_anew : kind ≡ psk_kind → tags_verdict_either (under (key_for setup.peer kind)
      w.book) ≡ Honest → w.conversations.fresh ≡ true
      → SucceedBy kind w → IsOfKey setup (key_for setup.peer kind) w.parties.server
      → AgreeAnew setup w
  -- as long as no end has begun a second conversation, the server's success is of a user of that
  -- key
  pub of_key : tags_verdict (under (key_for setup.peer kind) w.book) ≡ Honest → length w.conversations.begun ≡ 2 → SucceedBy kind w
      → IsOfKey setup (key_for setup.peer kind) w.parties.server
  -- so then they are never apart; later not if the server's success is of a user of that key
  pub once_never_apart : tags_verdict (under (key_for setup.peer kind) w.book) ≡ Honest
      → length w.conversations.begun ≡ 2
      → w.parties.peer.vars.selected ≡ Some kind → verdict_of w ≡ Apart → ⊥
  pub never_apart : tags_verdict (under (key_for setup.peer kind) w.book) ≡ Honest
      → w.conversations.fresh ≡ true
      → w.parties.peer.vars.selected ≡ Some kind
      → IsOfKey setup (key_for setup.peer kind) w.parties.server → verdict_of w ≡ Apart → ⊥

abbrev pub EndsAgreeUnder : Type 0
EndsAgreeUnder = (setup : Setup) (events : List Event) (kind : ℕ) → IsWhole setup
    → AgreesUnder setup kind (run_of setup events)

-- what one end's success implies: the peer's by this method, the server's of a user of the peer's
-- key for it
pub record ImpliedUnder (setup : Setup) (kind : ℕ) (w : WorldNow) (peers : List OfPeer)
    (servers : List OfServer) : Type 0 where
  pub by_peer : tags_verdict (under (key_for setup.peer kind) w.book) ≡ Honest
      → w.conversations.fresh ≡ true
      → is_success w.parties.peer.vars.state ≡ true → w.parties.peer.vars.selected ≡ Some kind
      → PeerIsAccepted setup w.book servers w.parties.peer
  pub by_psk_peer : kind ≡ psk_kind → tags_verdict_either (under (key_for setup.peer kind) w.book)
      ≡ Honest → w.conversations.fresh ≡ true
      → is_success w.parties.peer.vars.state ≡ true → w.parties.peer.vars.selected ≡ Some kind
      → PeerIsAccepted setup w.book servers w.parties.peer
  pub by_server : tags_verdict_either (under (key_for setup.peer kind) w.book) ≡ Honest
      → is_success w.parties.server.vars.state ≡ true
      → IsOfKey setup (key_for setup.peer kind) w.parties.server → ServerAccepts setup w.book peers w.parties.server
  pub by_server_once : tags_verdict (under (key_for setup.peer kind) w.book) ≡ Honest
      → length w.conversations.begun ≡ 2
      → is_success w.parties.server.vars.state ≡ true
      → IsOfKey setup (key_for setup.peer kind) w.parties.server → PeerKnows setup w

abbrev pub OneEndImpliesUnder : Type 0
OneEndImpliesUnder =
    (setup : Setup) (events : List Event) (kind : ℕ) → IsWhole setup
    → ImpliedUnder setup kind (run_of setup events) (peer_conversations setup events)
    (server_conversations setup events)
