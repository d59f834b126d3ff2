-- Two present ends in SUCCESS agree, and one end's success tells of the other, if the tags under
-- the peer's key are honest.
use Rattle.std.proofs.Common.{◌≡◌, ℕ, List, length, true, Some, refl, sym, ap, ◌∙◌, inl, inr}
use Rattle.login_setup.specs.declared.event.Event.{Event}
use Rattle.login_setup.specs.declared.setup.Setup.{Setup}
use Rattle.octet_lists.specs.Among.{psk_kind}
use Rattle.eap_method.specs.declared.tags.TagRecord.{TagRecord}
use Rattle.eap_method.specs.Peer.{key_for}
use Rattle.peer_machine.specs.PeerTable as peers
use Rattle.peer_machine.specs.PeerTable.{PeerNow}
use Rattle.server_machine.specs.ServerTable as servers
use Rattle.server_machine.specs.ServerTable.{ServerNow}
use Rattle.tag_book.specs.Book.{tags_verdict, tags_verdict_either, under}
use Rattle.tag_book.specs.declared.book.End.TheVariants as end
use Rattle.tag_book.specs.declared.book.TagsVerdict.TheVariants.{Honest}
use Rattle.tag_book.specs.declared.book.Use.TheVariants.{Accepted, Made}
use Rattle.eap_world.specs.Judgement.{is_success}
use Rattle.eap_world.specs.World.{WorldNow}
use Rattle.login_laws.specs.Agreement.{AgreeAnew, AreApart}
use Rattle.world_laws.specs.Whole.{IsWhole}
use Rattle.login_laws.specs.Alone.{PeerKnows}
use Rattle.world_laws.specs.EachConversation.{IsOneOf, OfPeer, OfServer, peer_nonce}
use Rattle.login_laws.specs.Matching.{PeerMatches, ServerRests}
use Rattle.login_laws.specs.PresentUnderKey.{AgreeOnTheirs, EndsAgreeUnder, OneEndImpliesUnder}
use Rattle.login_laws.specs.PresentUnderKey.{SucceedBy}
use Rattle.method_laws.specs.Records.{IsIn, tags_by}
use Rattle.method_laws.specs.TagOwners.{NotByServer, PeerTagOwner}
use Rattle.login_laws.specs.UnderKey.{IsOfKey}
use Rattle.login_laws.proofs.Alone.{knows, peer_tells, server_tells}
use Rattle.method_laws.proofs.Asks.{AsksServer}
use Rattle.method_laws.proofs.AsksByMethod.{peer_asks}
use Rattle.login_laws.proofs.Conversations.{run_known}
use Rattle.world_laws.proofs.Conversing.{BothConverse, run_converses}
use Rattle.world_laws.proofs.EndInvariants.{BothInvariantFirst, every_run_so_far, invariant_first}
use Rattle.login_laws.proofs.FreshAgree.{agree_anew, peer_won, server_won}
use Rattle.world_laws.proofs.HonestOfEither.{honest_of_either}
use Rattle.login_laws.proofs.HonestRuns.{not_apart, once_agree}
use Rattle.login_laws.proofs.KeyedTags.{either_under, other_under}
use Rattle.login_laws.proofs.Matching.{AllKnown}
use Rattle.login_laws.proofs.Matching as matching
use Rattle.method_laws.proofs.OneKey.{keyed_peer, peer_one, peer_tag, server_one, server_tag}
use Rattle.login_laws.proofs.UserKeys.{keyed_server, server_user}
use Rattle.login_laws.proofs.OneLogin.{first_is_in}
use Rattle.world_laws.proofs.PastConversations.{accepted_now}
use Rattle.login_laws.proofs.PskMatching as psk
use Rattle.login_laws.proofs.PskReflected.{asks_another, asks_listed, asks_present, not_peers}
use Rattle.login_laws.proofs.Reflected.{not_servers}
use Rattle.method_laws.proofs.Among.{one_of}
use Rattle.method_laws.proofs.Succeeding.{peer_succeeds, PeerSucceeds, server_succeeds}
use Rattle.method_laws.proofs.Succeeding.{ServerSucceeds}
use Rattle.login_laws.proofs.UnderKey as under_key
use Rattle.world_laws.specs.Runs.{run_of}
use Rattle.world_laws.proofs.EndTags.{peer_success, peer_tags, server_success, server_tags}

-- ---- with fresh nonces

module _ (setup : Setup) (kind : ℕ) (w : WorldNow) (h : BothConverse setup w)
    (fresh : w.conversations.fresh ≡ true) (both : SucceedBy kind w)
    (of_key : IsOfKey setup (key_for setup.peer kind) w.parties.server) where
  abbrev key : List ℕ
  key = key_for setup.peer kind

  -- what the peer asks is under its key
  asked_key : (asks : AsksServer h.peer_nonce h.peer.accepted) → asks.tag.psk ≡ key
  asked_key asks =
      keyed_peer (peers.setup_with_nonce setup.peer h.peer_nonce)
      _ _ kind h.peer.accepted h.peer.made (peer_won setup w h both.peer) both.method
      asks.tag (first_is_in asks.tag asks.rest h.peer.accepted asks.first)

  agree_from : tags_verdict_either (under key w.book) ≡ Honest
      → (asks : AsksServer h.peer_nonce h.peer.accepted)
      → IsIn asks.tag (tags_by end.Server Made w.book) → AgreeAnew setup w
  agree_from honest asks made =
      let theirs : (t : TagRecord) → t.psk ≡ key → IsIn t (tags_by end.Server Accepted w.book)
      → NotByServer setup.server t → IsIn t (tags_by end.Peer Made w.book) =
      λ t its is alien. one_of (either_under key w.book end.Server honest t its is)
      (not_servers setup w h t alien) in
      let keyed = keyed_server setup key w.parties.server
      (servers.setup_with_nonce setup.server h.server_nonce) h.server.accepted h.server.made refl
      (server_won setup w h both.server) of_key in
      agree_anew setup w h fresh both.peer both.server asks made
      (λ t now is alien. theirs t (keyed t now) is alien)
      (λ t is same alien. theirs t (same ∙ asked_key asks) is alien)

  agree_fresh : tags_verdict (under key w.book) ≡ Honest → AgreeAnew setup w
  agree_fresh honest =
      let asks = peer_asks setup.peer h.peer_nonce _ _ h.peer.accepted h.peer.made
      h.peer.size (peer_won setup w h both.peer) in
      agree_from (honest_of_either (under key w.book) honest) asks
      (other_under key w.book end.Peer honest asks.tag (asked_key asks)
      (accepted_now (PeerTagOwner setup.peer) _ _ _ _ h.peer asks.tag
      (first_is_in asks.tag asks.rest h.peer.accepted asks.first)))

  agree_reflected : kind ≡ psk_kind → tags_verdict_either (under key w.book) ≡ Honest
      → AgreeAnew setup w
  agree_reflected by_psk honest =
      let asked = asks_present setup w h both.peer (both.method ∙ ap (λ (k : ℕ). Some k) by_psk) in
      agree_from honest asked.asks
      (one_of (either_under key w.book end.Peer honest asked.asks.tag (asked_key asked.asks)
      (asks_listed setup w h asked)) (not_peers setup w h fresh asked))

-- ---- as long as no end has begun a second conversation

module _ (setup : Setup) (kind : ℕ) (whole : IsWhole setup) (w : WorldNow)
    (first : BothInvariantFirst setup w.parties w.book) (both : SucceedBy kind w) where
  abbrev shared : List ℕ
  shared = key_for setup.peer kind

  peer_has : PeerSucceeds setup.peer w.parties.peer.vars.selected w.parties.peer.views
      (tags_by end.Peer Accepted w.book) (tags_by end.Peer Made w.book)
  peer_has =
      let stands = first.peer_invariant in
      peer_succeeds setup.peer _ _ _ _ (peer_tags stands)
      (peer_success stands both.peer)

  server_has : ServerSucceeds setup.server w.parties.server.vars.current w.parties.server.views
      (tags_by end.Server Accepted w.book) (tags_by end.Server Made w.book)
  server_has = let stands = first.server_invariant in
      server_succeeds setup.server _ _ _ _ (server_tags stands) (server_success stands both.server)

  its_key : (t : TagRecord) → IsIn t (tags_by end.Peer Accepted w.book) → t.psk ≡ shared
  its_key t is = keyed_peer setup.peer _ _ kind _ _ peer_has both.method t is

  agree_once : tags_verdict_either (under shared w.book) ≡ Honest
      → IsOfKey setup shared w.parties.server → AgreeOnTheirs setup w
  agree_once honest of_key =
      once_agree setup whole w first
      (record { each = λ t is. either_under shared w.book end.Peer honest t (its_key t is) is })
      (record {
        each = λ t is. either_under shared w.book end.Server honest t (keyed_server setup shared
            w.parties.server setup.server _ _ refl server_has of_key t is) is;
      })
      both.peer both.server

  -- the server made the peer's tag, and all that it made and accepted are under one key
  once_of_key : tags_verdict (under shared w.book) ≡ Honest → IsOfKey setup shared w.parties.server
  once_of_key honest =
      let its = peer_tag setup.peer _ _ _ _ peer_has in
      let one = server_one setup.server w.parties.server.vars.current w.parties.server.views _ _
      (server_tags first.server_invariant) in
      let made =
      other_under shared w.book end.Peer honest its.tag (its_key its.tag its.is_in) its.is_in in
      server_user setup shared w.parties.server _ _ server_has (λ t is. one.of_accepted t is
      ∙ (sym (one.of_created its.tag made) ∙ its_key its.tag its.is_in))

-- ---- one end

module _ (setup : Setup) (kind : ℕ) (w : WorldNow) (ps : List OfPeer) (ss : List OfServer)
    (all : AllKnown setup w ps ss) where
  abbrev own_key : List ℕ
  own_key = key_for setup.peer kind

  psk_matches : kind ≡ psk_kind → tags_verdict_either (under own_key w.book) ≡ Honest
      → w.conversations.fresh ≡ true → (p : OfPeer) → IsOneOf p ps
      → is_success p.now.vars.state ≡ true → p.now.vars.selected ≡ Some kind → PeerMatches ps ss p
  psk_matches by_psk honest fresh p is p_in selected =
      let known = all.peers p is in
      let asked = asks_another setup.peer (peer_nonce p) _ _ p.accepted p.made known.size
      (matching.peer_won setup p known p_in) (selected ∙ ap (λ (k : ℕ). Some k) by_psk) in
      let its = under_key.its_first setup w ps ss all kind p is p_in selected in
      let made = one_of (either_under own_key w.book end.Peer honest asked.asks.tag
      (its asked.asks.tag asked.asks.rest asked.asks.first)
      (matching.listed_peer setup w ps ss all p is asked.asks))
      (psk.not_peers setup w ps ss all fresh p is asked) in
      under_key.peer_matches setup w ps ss all own_key
      (either_under own_key w.book end.Server honest) fresh p is p_in
      (matching.in_one setup w ps ss all p is p_in (matching.rests_on setup w ps ss all p is
      asked.asks (matching.by_server setup w ps ss all asked.asks.tag made)))
      (λ s s_is rests. under_key.keyed_by_made setup w ps ss all own_key s s_is rests.tag
      rests.is_made (its rests.tag rests.more rests.first))

  rests : tags_verdict_either (under own_key w.book) ≡ Honest → (s : OfServer) → IsOneOf s ss
      → is_success s.now.vars.state ≡ true
      → IsOfKey setup own_key s.now → ServerRests ps s
  rests honest s is s_in of_key =
      let a = matching.server_in setup s (all.servers s is) s_in in
      under_key.answered setup w ps ss all own_key
      (either_under own_key w.book end.Server honest) s is
      (under_key.of_user setup w ps ss all kind s is s_in of_key) a.foreign a.holds

  knows_once : IsWhole setup → BothInvariantFirst setup w.parties w.book
      → tags_verdict (under own_key w.book) ≡ Honest
      → is_success w.parties.server.vars.state ≡ true → IsOfKey setup own_key w.parties.server
      → PeerKnows setup w
  knows_once whole first honest s_in of_key =
      let won = server_succeeds setup.server _ _ _ _ (server_tags first.server_invariant)
      (server_success first.server_invariant s_in) in
      let keyed = keyed_server setup own_key w.parties.server setup.server _ _ refl won of_key in
      let its = server_tag setup.server _ _ _ _ won in
      let one = peer_one setup.peer w.parties.peer.vars.selected w.parties.peer.views _ _
      (peer_tags first.peer_invariant) in
      let made =
      other_under own_key w.book end.Server honest its.tag (keyed its.tag its.is_in) its.is_in in
      knows setup whole w first
      (λ t is. other_under own_key w.book end.Server honest t (keyed t is) is)
      (λ t is. other_under own_key w.book end.Peer honest t (one.of_accepted t is
      ∙ (sym (one.of_created its.tag made) ∙ keyed its.tag its.is_in)) is) s_in

-- ---- every run

module _ (setup : Setup) (events : List Event) (kind : ℕ) (whole : IsWhole setup) where
  abbrev last : WorldNow
  last = run_of setup events

  abbrev theirs : List ℕ
  theirs = key_for setup.peer kind

  first_of : length last.conversations.begun ≡ 2 → BothInvariantFirst setup last.parties last.book
  first_of two = invariant_first setup last (every_run_so_far setup events) two

  anew : tags_verdict (under theirs last.book) ≡ Honest → last.conversations.fresh ≡ true
      → SucceedBy kind last
      → IsOfKey setup theirs last.parties.server → AgreeAnew setup last
  anew honest fresh both of_key =
      agree_fresh setup kind last (run_converses setup events whole) fresh both of_key honest

  agrees : tags_verdict (under theirs last.book) ≡ Honest → AreApart last.conversations
      → SucceedBy kind last
      → IsOfKey setup theirs last.parties.server → AgreeOnTheirs setup last
  agrees honest (inl two) both of_key = agree_once setup kind whole last (first_of two) both
      (honest_of_either (under theirs last.book) honest) of_key
  agrees honest (inr fresh) both of_key =
      let a = anew honest fresh both of_key in record { agree = a.agree; theirs = a.theirs }

  of_user : tags_verdict (under theirs last.book) ≡ Honest → length last.conversations.begun ≡ 2
      → SucceedBy kind last
      → IsOfKey setup theirs last.parties.server
  of_user honest two both = once_of_key setup kind whole last (first_of two) both honest

-- All tags of a conversation are under one key: those of a peer in SUCCESS under its own for the
-- method, those of a server in SUCCESS under its user's. So the proof of `honest_ends_agree` asks
-- of no tag under another key. As long as no end has begun a second conversation, the server made
-- the peer's first tag: so its user has that key.
pub ends_agree_under : EndsAgreeUnder
ends_agree_under setup events kind whole =
    let w = run_of setup events in
    record {
      agrees = agrees setup events kind whole;
      anew = anew setup events kind whole;
      reflected_agrees = λ honest two both of_key. agree_once setup kind whole w
          (first_of setup events kind whole two) both honest of_key;
      reflected_anew = λ by_psk honest fresh both of_key. agree_reflected setup kind w
          (run_converses setup events whole) fresh both of_key by_psk honest;
      of_key = of_user setup events kind whole;
      once_never_apart = λ honest two method.
          not_apart w
          (λ p_in s_in.
          (let both : SucceedBy kind w = record { peer = p_in; method = method; server = s_in } in
          (agrees setup events kind whole honest (inl two) both
          (of_user setup events kind whole honest two both)).agree));
      never_apart = λ honest fresh method of_key.
          not_apart w (λ p_in s_in. (anew setup events kind whole honest fresh
          (record { peer = p_in; method = method; server = s_in }) of_key).agree);
    }

-- As for `one_end_implies`, over the conversations that match under the key. By EAP-PSK a tag that
-- came back to the peer is none of its own, so that the server made it (`psk_matches`).
pub one_end_implies_under : OneEndImpliesUnder
one_end_implies_under setup events kind whole =
    let w = run_of setup events in
    let all = run_known setup events whole in
    record {
      by_peer = λ honest fresh.
          peer_tells setup w _ _ all (λ (p : PeerNow). p.vars.selected ≡ Some kind)
          (under_key.match_peers setup w _ _ all kind honest fresh);
      by_psk_peer = λ by_psk honest fresh.
          peer_tells setup w _ _ all (λ (p : PeerNow). p.vars.selected ≡ Some kind)
          (psk_matches setup kind w _ _ all by_psk honest fresh);
      by_server = λ honest s_in of_key.
          server_tells setup w _ _ all (λ (s : ServerNow). IsOfKey setup (key_for setup.peer kind)
          s) (rests setup kind w _ _ all honest) s_in of_key;
      by_server_once = λ honest two. knows_once setup kind w _ _ all whole
          (first_of setup events kind whole two) honest;
    }
