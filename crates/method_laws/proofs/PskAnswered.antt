-- The PSK-4 that a server accepts tells, by RAND_S in its header, which conversation of the peer
-- made it: that has accepted PSK-3.
use Rattle.std.proofs.Common.{◌≡◌, ℕ, Bool, List, length, drop, Option, Some, refl, sym, ap, subst}
use Rattle.std.proofs.Common.{◌∙◌, arith, inl, inr}
use Rattle.login_setup.specs.declared.setup.PeerSetup.{PeerSetup}
use Rattle.login_setup.specs.Setup.{ServerSetup}
use Rattle.eap_method.specs.declared.tags.TagRecord.{TagRecord}
use Rattle.eap_method.specs.Peer.{PeerViews}
use Rattle.eap_method.specs.PskPeer as psk_peer
use Rattle.eap_method.specs.PskServer as psk_server
use Rattle.eap_method.specs.PskTags.{ak_record, rand_of, tek_record}
use Rattle.method_laws.specs.ByMethod.{peer_foreign, PeerTags}
use Rattle.method_laws.specs.PskPeerInvariant.{psk_rand_s, PskPeerTags, psk_unset, psk_fresh}
use Rattle.method_laws.specs.PskPeerInvariant.{psk_waits}
use Rattle.method_laws.specs.PskPeerInvariant as psk_peer_stands
use Rattle.method_laws.specs.PskServerInvariant.{PskServerTags, psk_over}
use Rattle.method_laws.specs.Records.{IsIn, here, later}
use Rattle.method_laws.specs.TagOwners.{OnlyByServer}
use Rattle.method_laws.proofs.Among.{among_one, among_two}
use Rattle.method_laws.proofs.Asks.{AsksServer}
use Rattle.method_laws.proofs.PeerByMethod.{created_by_psk}
use Rattle.method_laws.proofs.PskFields.{front_size}
use Rattle.method_laws.proofs.PskHeaders.{header_created, same_header}
use Rattle.method_laws.proofs.PskPeerOwners.{labels_apart}
use Rattle.method_laws.proofs.PskServerOwners.{mac_s_created}
use Rattle.eap_method.specs.BothPeers.{psk_in}

-- a conversation of the server with this nonce has accepted a PSK-4, whose header ends in its
-- RAND_S
pub record HasPsk4 (nonce : List ℕ) (accepted : List TagRecord) : Type 0 where
  pub psk : List ℕ
  pub header : List ℕ
  pub sealed : ℕ
  pub tag : List ℕ
  pub is_in : IsIn (tek_record psk 1 header sealed tag) accepted
  pub rand_in : drop 6 header ≡ rand_of nonce

pub psk4_taken : (setup : ServerSetup) (nonce : List ℕ) (login : psk_server.Login) (good : Bool)
    (accepted made : List TagRecord)
    → PskServerTags (record setup { nonce = nonce }) (psk_server.over login
    good) accepted made → HasPsk4 nonce accepted
psk4_taken setup nonce login _ _ _ (psk_over _ _ header sealed id facts r_sent rand_in r_came) =
    record {
      psk = login.psk;
      header = header;
      sealed = sealed;
      tag = _;
      is_in = later _ _ (here _);
      rand_in = rand_in ∙ ap rand_of facts.nonce;
    }

-- a conversation of the peer holds this RAND_S, and asks of the server what only one that holds its
-- nonce can have made
pub record HasAsked (nonce rand_s : List ℕ) (held : Option (List ℕ))
    (accepted : List TagRecord) : Type 0 where
  pub holds : held ≡ Some rand_s
  pub asks : AsksServer nonce accepted

module _ (psk header : List ℕ) (sealed : ℕ) (tag rand_s : List ℕ) (rand_in : drop 6 header ≡ rand_s)
    (setup : PeerSetup) (nonce : List ℕ) (size : length nonce ≡ 32) where
  abbrev psk4_tag : TagRecord
  psk4_tag = tek_record psk 1 header sealed tag

  view_asked : (view : psk_peer.View) (accepted made : List TagRecord)
      → PskPeerTags (record setup { nonce = nonce }) view accepted made → IsIn psk4_tag made
      → HasAsked nonce rand_s (psk_rand_s view) accepted
  unfolding psk_peer.mac_s_covers
  view_asked _ _ _ psk_unset is = elim is [ ]
  view_asked _ _ _ (psk_fresh allowed) is = elim is [ ]
  view_asked _ _ _ (psk_waits login facts) is =
      labels_apart (sym (ap (λ (r : TagRecord). r.label) (among_one _ _ is)))
  view_asked _ _ _ (psk_peer_stands.psk_over login good their_header their_sealed id facts) is =
      elim (among_two _ _ _ is) [
        | inl e ↦ labels_apart (sym (ap (λ (r : TagRecord). r.label) e))
        | inr e ↦
            let headers = same_header header (psk_peer.psk4_header login id) _ _
            (ap (λ (r : TagRecord). r.octets) e) in
            let n_front : length (rand_of login.nonce) ≡ 16 =
            front_size login.nonce (omega (arith, ap length facts.nonce, size)) in
            let t = ak_record login.cred.psk (psk_peer.mac_s_covers login)
            (psk_peer.mac_s_of login) in
            record {
              holds = ap (λ (x : List ℕ). Some x) (sym (header_created login id facts.size)
                  ∙ (sym (ap (drop 6) headers) ∙ rand_in));
              asks = record {
                tag = t;
                rest = _;
                first = refl;
                made = subst (λ (x : List ℕ). OnlyByServer t x) (ap rand_of facts.nonce)
                    (mac_s_created login.cred.psk login.id_s (rand_of login.nonce)
                    (psk_peer.mac_s_of login) n_front);
              };
            }
      ]

  pub has_asked : (selected : Option ℕ) (views : PeerViews) (accepted made : List TagRecord)
      → PeerTags (record setup { nonce = nonce }) selected views accepted made
      → IsIn psk4_tag made → HasAsked nonce rand_s (peer_foreign selected views) accepted
  has_asked selected views accepted made told is =
      let by = created_by_psk (record setup { nonce = nonce })
      selected views accepted made psk4_tag told is refl in
      let h = view_asked (psk_in views) accepted made by.1 is in
      record { holds = ap (λ (o : Option ℕ). peer_foreign o views) by.0 ∙ h.holds; asks = h.asks }
