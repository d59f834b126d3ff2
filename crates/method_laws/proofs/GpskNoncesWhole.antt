-- By EAP-GPSK two conversations of which one rests on the other hold the whole of each other's
-- nonces.
use Rattle.std.proofs.Common.{◌≡◌, ℕ, Bool, true, false, List, ◌∷◌, length, Some, refl, sym, ap}
use Rattle.std.proofs.Common.{subst, ◌∙◌}
use Rattle.login_setup.specs.declared.setup.PeerSetup.{PeerSetup}
use Rattle.login_setup.specs.Setup.{ServerSetup}
use Rattle.eap_method.specs.declared.tags.TagRecord.{TagRecord}
use Rattle.eap_method.specs.GpskPeer as peer
use Rattle.eap_method.specs.GpskServer as server
use Rattle.eap_method.specs.GpskTags.{sk_record}
use Rattle.method_laws.specs.GpskPeerInvariant.{gpsk_whole_rand_s, GpskStarted, GpskPeerTags}
use Rattle.method_laws.specs.GpskPeerInvariant.{gpsk3_of_login}
use Rattle.method_laws.specs.GpskServerInvariant.{gpsk_whole_rand_p, GpskChecked, GpskServerTags}
use Rattle.method_laws.specs.GpskServerInvariant.{gpsk2_of_login}
use Rattle.method_laws.specs.GpskServerInvariant as gpsk_server_stands
use Rattle.method_laws.specs.Records.{IsIn}
use Rattle.method_laws.proofs.Among.{first_is, no_tag}
use Rattle.method_laws.proofs.GpskPeerOwners as gpsk_peer_tells
use Rattle.method_laws.proofs.GpskServerOwners as gpsk_server_tells

-- the tag is that of a GPSK-2 that a conversation of the server accepted, whose RAND_Peer it holds
pub record HasChained (setup : ServerSetup) (view : server.View) (tag : TagRecord) : Type 0 where
  pub login : server.Login
  pub barred : Bool
  pub pd : List ℕ
  pub facts : GpskChecked setup login barred
  pub holds : gpsk_whole_rand_p view ≡ Some login.rand_p
  pub is : tag ≡ sk_record login.psk (gpsk2_of_login login pd)

-- so is the first that it accepted
pub first_taken : (setup : ServerSetup) (view : server.View) (accepted made : List TagRecord)
    → GpskServerTags setup view accepted made
    → (tag : TagRecord) (more : List TagRecord) → accepted ≡ tag ∷ more → HasChained setup view tag
first_taken setup _ _ _ (gpsk_server_stands.gpsk_asked ordered) tag more first =
    no_tag tag more first
first_taken setup _ _ _ gpsk_server_stands.gpsk_refusing tag more first = no_tag tag more first
first_taken setup _ _ _ gpsk_server_stands.gpsk_refused tag more first = no_tag tag more first
first_taken setup _ _ _ (gpsk_server_stands.gpsk_barring login pd facts) tag more first =
    record {
      login = login;
      barred = true;
      pd = pd;
      facts = facts;
      holds = refl;
      is = first_is _ tag _ more first;
    }
first_taken setup _ _ _ (gpsk_server_stands.gpsk_checked login pd facts) tag more first =
    record {
      login = login;
      barred = false;
      pd = pd;
      facts = facts;
      holds = refl;
      is = first_is _ tag _ more first;
    }
first_taken setup _ _ _ (gpsk_server_stands.gpsk_barred login pd facts) tag more first =
    record {
      login = login;
      barred = true;
      pd = pd;
      facts = facts;
      holds = refl;
      is = first_is _ tag _ more first;
    }
first_taken setup _ _ _ (gpsk_server_stands.gpsk_confirmed login pd last_pd facts) tag more first =
    record {
      login = login;
      barred = false;
      pd = pd;
      facts = facts;
      holds = refl;
      is = first_is _ tag _ more first;
    }

module _ (peer_setup : PeerSetup) (server_setup : ServerSetup) (nonce server_nonce : List ℕ)
    (size : length nonce ≡ 32) (server_size : length server_nonce ≡ 32) where
  -- one of the server that rests on one of the peer
  pub server_on : (view : server.View) (tag : TagRecord)
      → HasChained (record server_setup { nonce = server_nonce }) view tag
      → (peer_view : peer.View) (accepted made : List TagRecord)
      → GpskPeerTags (record peer_setup { nonce = nonce }) peer_view accepted made
      → IsIn tag made
      → (gpsk_whole_rand_s peer_view ≡ Some server_nonce) × (gpsk_whole_rand_p view ≡ Some nonce)
  server_on view tag taken peer_view accepted made told is =
      let facts = taken.facts in
      let both = gpsk_peer_tells.gpsk_view_implies taken.login taken.pd facts.size
      (ap length facts.nonce ∙ server_size) peer_setup nonce peer_view accepted made size
      told (subst (λ (t : TagRecord). IsIn t made) taken.is is) in (
        both.1 ∙ ap (λ (x : List ℕ). Some x) facts.nonce,
        taken.holds ∙ ap (λ (x : List ℕ). Some x) (sym both.0),
      )

  -- one of the peer that rests on one of the server
  pub peer_on : (login : peer.Login) (list pd : List ℕ)
      → GpskStarted (record peer_setup { nonce = nonce }) login list
      → (view : server.View) (accepted made : List TagRecord)
      → GpskServerTags (record server_setup { nonce = server_nonce }) view accepted made
      → IsIn (sk_record login.cred.psk (gpsk3_of_login login pd)) made
      → (Some login.rand_s ≡ Some server_nonce) × (gpsk_whole_rand_p view ≡ Some nonce)
  peer_on login list pd facts view accepted made told is =
      let both = gpsk_server_tells.gpsk_view_implies login pd (ap length facts.nonce ∙ size)
      (record server_setup { nonce = server_nonce }) view accepted made told is in (
        ap (λ (x : List ℕ). Some x) (both.rand_s facts.size server_size),
        both.rand_p ∙ ap (λ (x : List ℕ). Some x) facts.nonce,
      )
