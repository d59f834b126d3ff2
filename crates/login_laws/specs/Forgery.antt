-- A broken tag is a forgery: each tag in the book of a run is the right MAC of its octets, under
-- the key that its label derives from the shared key. So a run whose book isn't honest shows octets
-- with the right MAC, which no conversation had computed before.
use Rattle.std.specs.Prelude.{◌≡◌, ◌⊎◌, ℕ, List, [], ◌∷◌, ◌++◌, length, true}
use Rattle.login_setup.specs.declared.event.Event.{Event}
use Rattle.login_setup.specs.declared.setup.Setup.{Setup}
use Rattle.octet_lists.specs.Among.{psk_kind}
use Rattle.eap_method.specs.declared.tags.TagRecord.{TagRecord}
use Rattle.eap_method.specs.Peer.{key_for}
use Rattle.tag_book.specs.Book.{first_broken, may_make, under, verdict_on}
use Rattle.tag_book.specs.declared.book.End.TheVariants as end
use Rattle.tag_book.specs.declared.book.Entry.{Entry}
use Rattle.tag_book.specs.declared.book.RecordOwner.{RecordOwner}
use Rattle.tag_book.specs.declared.book.RecordOwner.TheVariants.{Either, Other}
use Rattle.tag_book.specs.declared.book.TagsVerdict.TheVariants.{Broken, Honest}
use Rattle.tag_book.specs.declared.book.Use.{Use}
use Rattle.tag_book.specs.declared.book.Use.TheVariants.{Accepted, Made}
use Rattle.eap_world.specs.declared.verdict.Verdict.TheVariants.{Agree}
use Rattle.eap_world.specs.Judgement.{is_success, verdict_of}
use Rattle.eap_world.specs.World.{WorldNow}
use Rattle.login_laws.specs.Agreement.{AgreeAnew, AreApart}
use Rattle.world_laws.specs.Whole.{IsWhole}
use Rattle.world_laws.specs.EachConversation.{Conversation, IsOneOf, OfPeer, OfServer}
use Rattle.world_laws.specs.EachConversation.{peer_conversations, peer_nonce, server_conversations}
use Rattle.world_laws.specs.EachConversation.{server_nonce}
use Rattle.method_laws.specs.Records.{IsIn}
use Rattle.login_laws.specs.PresentUnderKey.{AgreeOnTheirs, SucceedBy}
use Rattle.method_laws.specs.RightMacs.{IsPeersMac, IsServersMac}
use Rattle.login_laws.specs.UnderKey.{IsOfKey}
use Rattle.world_laws.specs.Runs.{run_of}

-- the tags that a conversation accepted, or made
abbrev pub tags_in : {N : Type 0} → Use → Conversation N → List TagRecord
tags_in Accepted k = k.accepted
tags_in Made k = k.made

-- the tag of an entry of the book is one of a conversation of its end, and is right under a key
-- that this derives
pub data IsOfConversation (setup : Setup) (peers : List OfPeer) (servers : List OfServer)
    (e : Entry) : Type 0 where
  of_peer : (p : OfPeer) (by_peer : e.end ≡ end.Peer) (is_one : IsOneOf p peers)
      (is_in : IsIn e.tag (tags_in e.used p)) (right : IsPeersMac setup.peer
      (peer_nonce p) p.now.vars.selected p.now.views e.tag) → IsOfConversation setup peers servers e
  of_server : (s : OfServer) (by_server : e.end ≡ end.Server) (is_one : IsOneOf s servers)
      (is_in : IsIn e.tag (tags_in e.used s)) (right : IsServersMac setup.server (server_nonce s)
      s.now.vars.current s.now.views e.tag) → IsOfConversation setup peers servers e

-- each tag that an end accepted or made, in any of its conversations
abbrev pub EachTagIsRight : Type 0
EachTagIsRight = (setup : Setup) (events : List Event) → IsWhole setup → (e : Entry)
    → IsOneOf e (run_of setup events).book
    → IsOfConversation setup (peer_conversations setup events) (server_conversations setup events) e

-- the first accepted tag of a book that no such end had made before: the right MAC of its octets,
-- which that end had not computed
pub record Forgery (setup : Setup) (peers : List OfPeer) (servers : List OfServer)
    (makers : RecordOwner) (book : List Entry) : Type 0 where
  pub before : List Entry
  pub forged : Entry
  pub after : List Entry
  pub parts : book ≡ before ++ forged ∷ after
  pub honest_before : verdict_on (first_broken makers [] before) ≡ Honest
  pub broken : verdict_on (first_broken makers [] book) ≡ Broken forged.event
  pub accepted : forged.used ≡ Accepted
  pub right : IsOfConversation setup peers servers forged
  pub not_computed : (e : Entry) → IsOneOf e before → e.used ≡ Made
      → may_make makers e.end forged.end ≡ true → e.tag ≡ forged.tag → ⊥

-- a book is honest, or shows a forgery
abbrev pub HonestOrForged : Setup → List OfPeer → List OfServer → RecordOwner → List Entry → Type 0
HonestOrForged setup peers servers makers book =
    (verdict_on (first_broken makers [] book) ≡ Honest) ⊎ Forgery setup peers servers makers book

-- of the tags of a run, of those under one key, by the other end or by either; so two ends in
-- SUCCESS agree, or there is a forgery
pub record AgreesOrForged (setup : Setup) (w : WorldNow) (peers : List OfPeer)
    (servers : List OfServer) : Type 0 where
  pub whole : (makers : RecordOwner) → HonestOrForged setup peers servers makers w.book
  pub keyed : (makers : RecordOwner) (key : List ℕ)
      → HonestOrForged setup peers servers makers (under key w.book)
  pub agrees : AreApart w.conversations → is_success w.parties.peer.vars.state ≡ true
      → is_success w.parties.server.vars.state ≡ true
      → (verdict_of w ≡ Agree) ⊎ Forgery setup peers servers Other w.book
  -- of one user, whatever the server's other users do: so it is of the tags under the peer's key
  -- alone
  pub agrees_under : (kind : ℕ) → AreApart w.conversations → SucceedBy kind w → IsOfKey setup (key_for setup.peer kind) w.parties.server
      → AgreeOnTheirs setup w
      ⊎ Forgery setup peers servers Other (under (key_for setup.peer kind) w.book)
  -- as long as no end has begun a second conversation, and by EAP-PSK with fresh nonces, neither
  -- end had computed the tag: one that came back to its maker is no forgery
  pub reflected_agrees : (kind : ℕ) → length w.conversations.begun ≡ 2 → SucceedBy kind w
      → IsOfKey setup (key_for setup.peer kind) w.parties.server
      → AgreeOnTheirs setup w
      ⊎ Forgery setup peers servers Either (under (key_for setup.peer kind) w.book)
  pub reflected_anew : (kind : ℕ) → kind ≡ psk_kind → w.conversations.fresh ≡ true
      → SucceedBy kind w
      → IsOfKey setup (key_for setup.peer kind) w.parties.server
      → AgreeAnew setup w
      ⊎ Forgery setup peers servers Either (under (key_for setup.peer kind) w.book)

abbrev pub AgreeOrForged : Type 0
AgreeOrForged = (setup : Setup) (events : List Event) → IsWhole setup
    → AgreesOrForged setup (run_of setup events) (peer_conversations setup events)
    (server_conversations setup events)
