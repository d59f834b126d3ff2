-- No end takes its own tags for the other's, in whichever conversation it made them, where the peer
-- succeeds by EAP-PSK.
use Rattle.std.proofs.Common.{◌≡◌, ℕ, List, [], length, true, Option, Some, refl, sym, ap, subst}
use Rattle.std.proofs.Common.{◌∙◌, arith, inl, inr}
use Rattle.login_setup.specs.declared.setup.PeerSetup.{PeerSetup}
use Rattle.login_setup.specs.declared.setup.Setup.{Setup}
use Rattle.octet_lists.specs.Among.{psk_kind, gpsk_kind}
use Rattle.eap_method.specs.declared.tags.TagRecord.{TagRecord}
use Rattle.eap_method.specs.Peer.{PeerViews}
use Rattle.eap_method.specs.PskPeer as psk
use Rattle.eap_method.specs.PskTags.{ak_record, rand_of, mac_p_octets, mac_s_octets}
use Rattle.peer_machine.specs.PeerTable as peers
use Rattle.tag_book.specs.Book.{first_broken, tags_verdict_either}
use Rattle.eap_world.specs.Conversations.{front}
use Rattle.eap_world.specs.Judgement.{is_success}
use Rattle.login_laws.specs.Agreement.{AgreeAnew}
use Rattle.method_laws.specs.ByMethod.{PeerTags}
use Rattle.method_laws.specs.PskPeerInvariant.{PskPeerTags, psk_unset, psk_fresh, psk_waits}
use Rattle.method_laws.specs.PskPeerInvariant.{psk_over, PskStarted, psk2_record}
use Rattle.login_laws.specs.PskReflected.{ReflectedEndsAgree}
use Rattle.method_laws.specs.Records.{IsIn, tags_by}
use Rattle.method_laws.specs.TagOwners.{OnlyByServer, PeerTagOwner}
use Rattle.method_laws.proofs.Among.{among_one, among_two}
use Rattle.method_laws.proofs.Asks.{AsksServer}
use Rattle.world_laws.proofs.Conversing.{BothConverse, run_converses}
use Rattle.method_laws.proofs.Fields.{ends}
use Rattle.login_laws.proofs.FreshAgree.{agree_anew, peer_won}
use Rattle.world_laws.proofs.HonestOfEither.{none_if_honest}
use Rattle.login_laws.proofs.OneLogin.{first_is_in}
use Rattle.method_laws.proofs.OneMethod.{apart}
use Rattle.world_laws.proofs.PastConversations.{accepted_now, where_created}
use Rattle.method_laws.proofs.PeerByMethod.{created_by_psk}
use Rattle.method_laws.proofs.PskAgrees as psk_agrees
use Rattle.method_laws.proofs.PskFields.{front_size}
use Rattle.method_laws.proofs.PskPeerOwners.{labels_apart}
use Rattle.method_laws.proofs.PskServerOwners.{mac_s_created}
use Rattle.login_laws.proofs.Reflected.{of_peer}
use Rattle.method_laws.proofs.Among.{one_of}
use Rattle.method_laws.proofs.Succeeding.{PeerSucceeds, with_gpsk, with_psk}
use Rattle.method_laws.proofs.TagsOfEnds.{honest_tags}
use Rattle.eap_world.specs.World.{WorldNow}
use Rattle.tag_book.specs.declared.book.End.TheVariants as end
use Rattle.tag_book.specs.declared.book.RecordOwner.TheVariants.{Either}
use Rattle.tag_book.specs.declared.book.TagsVerdict.TheVariants.{Honest}
use Rattle.tag_book.specs.declared.book.Use.TheVariants.{Accepted, Made}
use Rattle.world_laws.specs.Runs.{run_of}
use Rattle.eap_method.specs.BothPeers.{psk_in}

-- ---- MAC_S among the tags of a conversation of the peer

-- MAC_P and MAC_S of equal octets end in the same RAND_P
same_end : (id_s rand_p id_p name rand_s rand_p' : List ℕ) → length rand_p ≡ 16
    → length rand_p' ≡ 16
    → mac_s_octets id_s rand_p ≡ mac_p_octets id_p name rand_s rand_p' → rand_p ≡ rand_p'
unfolding mac_s_octets mac_p_octets
same_end id_s rand_p id_p name rand_s rand_p' p p' e = (ends 16 id_s rand_p _ rand_p' p p' e).1

-- a conversation of the peer that made such a tag has that RAND_P
module _ (key id_s rand_p mac : List ℕ) (p_size : length rand_p ≡ 16) (setup : PeerSetup)
    (nonce : List ℕ) (size : length nonce ≡ 32) where
  abbrev tag : TagRecord
  tag = ak_record key (mac_s_octets id_s rand_p) mac

  by_psk2 : (login : psk.Login) → PskStarted (peers.setup_with_nonce setup nonce) login
      → tag ≡ psk2_record login → front nonce ≡ rand_p
  unfolding psk.mac_p_covers
  by_psk2 login facts e =
      sym (same_end id_s rand_p login.cred.id_p login.id_s login.rand_s (rand_of login.nonce) p_size
      (front_size login.nonce (omega (arith, ap length facts.nonce, size)))
      (ap (λ (r : TagRecord). r.octets) e) ∙ ap front facts.nonce)

  in_view : (view : psk.View) (accepted made : List TagRecord)
      → PskPeerTags (peers.setup_with_nonce setup nonce) view accepted made → IsIn tag made
      → front nonce ≡ rand_p
  in_view _ _ _ psk_unset is = elim is [ ]
  in_view _ _ _ (psk_fresh allowed) is = elim is [ ]
  in_view _ _ _ (psk_waits login facts) is = by_psk2 login facts (among_one _ _ is)
  in_view _ _ _ (psk_over login good header sealed id facts) is =
      elim (among_two _ _ _ is) [
        | inl e ↦ by_psk2 login facts e
        | inr e ↦ labels_apart (ap (λ (r : TagRecord). r.label) e)
      ]

  in_tags : (selected : Option ℕ) (views : PeerViews) (accepted made : List TagRecord)
      → PeerTags (peers.setup_with_nonce setup nonce) selected views accepted made
      → IsIn tag made → front nonce ≡ rand_p
  in_tags selected views accepted made told is =
      in_view (psk_in views) accepted made (created_by_psk (peers.setup_with_nonce setup nonce)
      selected views accepted made tag told is refl).1 is

-- ---- what a peer that has succeeded by EAP-PSK asks of the server

pub record AsksAnother (setup : PeerSetup) (nonce : List ℕ)
    (accepted made : List TagRecord) : Type 0 where
  pub asks : AsksServer nonce accepted
  -- it made no such tag itself, and no conversation of the peer with another nonce did
  pub not_own : IsIn asks.tag made → ⊥
  pub no_other : (other : List ℕ) (held : Option (List ℕ))
      (their_accepted their_made : List TagRecord) → length other ≡ 32
      → PeerTagOwner setup other held their_accepted their_made → IsIn asks.tag their_made
      → front other ≡ front nonce

pub asks_another : (setup : PeerSetup) (nonce : List ℕ) (selected : Option ℕ) (views : PeerViews)
    (accepted made : List TagRecord) → length nonce ≡ 32
    → PeerSucceeds (peers.setup_with_nonce setup nonce) selected views accepted made
    → selected ≡ Some psk_kind → AsksAnother setup nonce accepted made
unfolding psk.mac_s_covers
asks_another setup nonce selected views _ _ size
    (with_psk login header sealed id is_selected in_psk facts) by_psk =
    let t = ak_record login.cred.psk (psk.mac_s_covers login) (psk.mac_s_of login) in
    let n_front : length (rand_of login.nonce) ≡ 16 =
    front_size login.nonce (omega (arith, ap length facts.nonce, size)) in
    record {
      asks = record {
        tag = t;
        rest = _;
        first = refl;
        made = subst (λ (x : List ℕ). OnlyByServer t x) (ap front facts.nonce) (mac_s_created
            login.cred.psk login.id_s (rand_of login.nonce) (psk.mac_s_of login) n_front);
      };
      not_own = psk_agrees.peer_not_own (peers.setup_with_nonce setup nonce) login facts id;
      no_other = λ other held their_accepted their_made other_size told is.
          (in_tags login.cred.psk login.id_s (rand_of login.nonce) (psk.mac_s_of login)
          n_front setup other other_size told.selected told.views their_accepted
          their_made told.tags is
          ∙ ap front facts.nonce);
    }
asks_another setup nonce selected views _ _ size
    (with_gpsk login list pd is_selected in_gpsk facts) by_psk =
    apart selected gpsk_kind psk_kind refl is_selected by_psk

-- ---- whose the tags are

module _ (setup : Setup) (w : WorldNow) (h : BothConverse setup w) where
  pub not_peers : w.conversations.fresh ≡ true
      → (asked : AsksAnother setup.peer h.peer_nonce h.peer.accepted h.peer.made)
      → IsIn asked.asks.tag (tags_by end.Peer Made w.book) → ⊥
  not_peers fresh asked is =
      elim (where_created (PeerTagOwner setup.peer) _ _ _ _ h.peer asked.asks.tag is) [
        | inl now ↦ asked.not_own now
        | inr past ↦ past.holds.differs fresh
            (asked.no_other past.conversation.nonce past.conversation.held
            past.conversation.accepted past.conversation.made past.holds.size past.holds.told
            past.is_made)
      ]

  -- the tag that a peer in SUCCESS by EAP-PSK asks is one that it accepted
  pub asks_listed : (asked : AsksAnother setup.peer h.peer_nonce h.peer.accepted h.peer.made)
      → IsIn asked.asks.tag (tags_by end.Peer Accepted w.book)
  asks_listed asked =
      accepted_now (PeerTagOwner setup.peer) _ _ _ _ h.peer asked.asks.tag
      (first_is_in asked.asks.tag asked.asks.rest h.peer.accepted asked.asks.first)

  pub asks_present : is_success w.parties.peer.vars.state ≡ true
      → w.parties.peer.vars.selected ≡ Some psk_kind
      → AsksAnother setup.peer h.peer_nonce h.peer.accepted h.peer.made
  asks_present p_in by_psk =
      asks_another setup.peer h.peer_nonce _ _ h.peer.accepted h.peer.made h.peer.size
      (peer_won setup w h p_in) by_psk

-- ---- both ends

reflected : (setup : Setup) (w : WorldNow) → BothConverse setup w
    → tags_verdict_either w.book ≡ Honest → w.conversations.fresh ≡ true
    → is_success w.parties.peer.vars.state ≡ true → is_success w.parties.server.vars.state ≡ true
    → w.parties.peer.vars.selected ≡ Some psk_kind → AgreeAnew setup w
reflected setup w h honest fresh p_in s_in by_psk =
    let asked = asks_present setup w h p_in by_psk in
    let all = honest_tags end.Peer w.book (none_if_honest (first_broken Either [] w.book) honest) in
    agree_anew setup w h fresh p_in s_in asked.asks
    (one_of (all.each asked.asks.tag (asks_listed setup w h asked))
    (not_peers setup w h fresh asked)) (λ t now is alien. of_peer setup w h honest t is alien)
    (λ t is same alien. of_peer setup w h honest t is alien)

pub reflected_ends_agree : ReflectedEndsAgree
reflected_ends_agree setup events whole = record {
  agrees = λ honest fresh p_in s_in by_psk. reflected setup (run_of setup events)
      (run_converses setup events whole) honest fresh p_in s_in by_psk;
}
