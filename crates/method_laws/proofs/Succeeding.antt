-- Two ends of EAP-PSK or EAP-GPSK that have succeeded agree, where the first tag that each accepted
-- is one that either end made: a server that has succeeded can't have made the tag itself that the
-- login rests on, nor can a peer by EAP-PSK.
use Rattle.std.proofs.Common.{◌≡◌, ◌≢◌, ℕ, true, false, List, [], ◌∷◌, length, Option, Some, refl}
use Rattle.std.proofs.Common.{sym, ap, subst, ◌∙◌, arith, inl, inr}
use Rattle.login_setup.specs.declared.setup.PeerSetup.{PeerSetup}
use Rattle.login_setup.specs.Setup.{ServerSetup}
use Rattle.login_setup.specs.declared.setup.Setup.{Setup}
use Rattle.octet_lists.specs.Among.{psk_kind, gpsk_kind}
use Rattle.eap_method.specs.BothPeers as peers
use Rattle.eap_method.specs.BothPeers.{gpsk_in, psk_in}
use Rattle.eap_method.specs.BothServers as servers
use Rattle.eap_method.specs.BothServers.{gpsk_at, psk_at}
use Rattle.eap_method.specs.declared.tags.TagRecord.{TagRecord}
use Rattle.eap_method.specs.declared.values.Decision.{Decision}
use Rattle.eap_method.specs.declared.values.Decision.TheVariants as decision
use Rattle.eap_method.specs.PskPeer as psk_peer
use Rattle.eap_method.specs.PskServer as psk_server
use Rattle.eap_method.specs.GpskPeer as gpsk_peer
use Rattle.eap_method.specs.GpskServer as gpsk_server
use Rattle.eap_method.specs.GpskTags.{sk_record}
use Rattle.eap_method.specs.Peer as peer
use Rattle.eap_method.specs.Peer.{PeerShown, PeerViews, peer_report_of}
use Rattle.eap_method.specs.Server as server
use Rattle.eap_method.specs.Server.{ServerShown, ServerViews, server_report_of}
use Rattle.method_laws.specs.Agreeing.{Agrees, BothAgree}
use Rattle.method_laws.specs.ByMethod.{server_foreign}
use Rattle.method_laws.specs.ByMethod as by_method
use Rattle.method_laws.specs.GpskPeerInvariant as gpsk_peer_stands
use Rattle.method_laws.specs.GpskServerInvariant.{gpsk_rand_p_in}
use Rattle.method_laws.specs.GpskServerInvariant as gpsk_server_stands
use Rattle.method_laws.specs.PeerHistory.{PeerHistory, ImpliedOf}
use Rattle.method_laws.specs.PskPeerInvariant as psk_peer_stands
use Rattle.method_laws.specs.PskServerInvariant.{psk_rand_p_in}
use Rattle.method_laws.specs.PskServerInvariant as psk_server_stands
use Rattle.method_laws.specs.Records.{FirstInEither, IsIn}
use Rattle.method_laws.specs.ServerHistory.{ServerHistory, ImpliedOf as ServerImpliedOf}
use Rattle.method_laws.proofs.Among.{among_two, one_of}
use Rattle.method_laws.proofs.GpskAgrees as gpsk
use Rattle.method_laws.proofs.OneMethod.{apart as one_method, some_same}
use Rattle.method_laws.proofs.PeerByMethod as peer_by_method
use Rattle.method_laws.proofs.PeerImplied as peer_implied
use Rattle.method_laws.proofs.PskAgrees as psk
use Rattle.method_laws.proofs.ServerByMethod as server_by_method
use Rattle.method_laws.proofs.ServerImplied as server_implied

-- a record of a method isn't among two of the other
apart : psk_kind ≡ gpsk_kind → ⊥
apart e = absurd (omega (arith, e))

other_method : (tag one other : TagRecord) → IsIn tag (one ∷ other ∷ [])
    → (tag.method ≡ one.method → ⊥) → (tag.method ≡ other.method → ⊥) → ⊥
other_method tag one other is_in not_one not_other =
    elim (among_two tag one other is_in) [
      | inl e ↦ not_one (ap (λ (t : TagRecord). t.method) e)
      | inr e ↦ not_other (ap (λ (t : TagRecord). t.method) e)
    ]

-- both ends have succeeded by one method, and speak of the same login
pub data BothSucceed (peer_setup : PeerSetup) (server_setup : ServerSetup) (selected : Option ℕ)
    (views : PeerViews) (current : Option ℕ) (server_views : ServerViews) : Type 0 where
  by_psk : (login : psk_peer.Login) (facts : psk_peer_stands.PskStarted peer_setup login)
      (other : psk_server.Login) (checked : psk_server_stands.PskChecked server_setup other)
      (is_selected : selected ≡ Some psk_kind)
      (in_view : psk_in views ≡ psk_peer.over login true)
      (is_current : current ≡ Some psk_kind)
      (in_other : psk_at server_views ≡ Some (psk_server.over other true)) (r_sent : other.r ≡ 2)
      (same : psk.IsSame login other)
      → BothSucceed peer_setup server_setup selected views current server_views
  by_gpsk : (login : gpsk_peer.Login) (list : List ℕ)
      (facts : gpsk_peer_stands.GpskStarted peer_setup login list)
      (other : gpsk_server.Login) (pd : List ℕ)
      (checked : gpsk_server_stands.GpskChecked server_setup other false)
      (is_selected : selected ≡ Some gpsk_kind)
      (in_view : gpsk_in views ≡ gpsk_peer.over login true)
      (is_current : current ≡ Some gpsk_kind)
      (in_other : gpsk_at server_views ≡ Some (gpsk_server.over other true))
      (same : gpsk.IsSame login list other)
      → BothSucceed peer_setup server_setup selected views current server_views

-- a peer, or a server, that has succeeded, with its tags
pub data PeerSucceeds (setup : PeerSetup) (selected : Option ℕ) (views : PeerViews)
    : List TagRecord → List TagRecord → Type 0 where
  with_psk : (login : psk_peer.Login) (header : List ℕ) (sealed id : ℕ)
      (is_selected : selected ≡ Some psk_kind) (in_view : psk_in views
      ≡ psk_peer.over login true) (facts : psk_peer_stands.PskStarted setup login)
      → PeerSucceeds setup selected views (psk_peer_stands.psk3_records_of login header sealed)
      (psk_peer_stands.psk2_record login ∷ psk_peer.psk4_record login id 2)
  with_gpsk : (login : gpsk_peer.Login) (list pd : List ℕ)
      (is_selected : selected ≡ Some gpsk_kind) (in_view : gpsk_in views
      ≡ gpsk_peer.over login true) (facts : gpsk_peer_stands.GpskStarted setup login list)
      → PeerSucceeds setup selected views
      (sk_record login.cred.psk (gpsk_peer_stands.gpsk3_of_login login pd) ∷ [])
      (gpsk_peer_stands.gpsk2_record login list
      ∷ sk_record login.cred.psk (gpsk_peer.gpsk4_of login) ∷ [])

pub data ServerSucceeds (setup : ServerSetup) (current : Option ℕ) (views : ServerViews)
    : List TagRecord → List TagRecord → Type 0 where
  of_psk : (login : psk_server.Login) (header : List ℕ) (sealed id : ℕ)
      (is_current : current ≡ Some psk_kind)
      (in_view : psk_at views ≡ Some (psk_server.over login true))
      (facts : psk_server_stands.PskChecked setup login) (r_sent : login.r ≡ 2)
      → ServerSucceeds setup current views (psk_server_stands.psk2_record login
      ∷ psk_server_stands.psk4_taken login header sealed ∷ []) (psk_server.psk3_records login id)
  of_gpsk : (login : gpsk_server.Login) (pd last_pd : List ℕ)
      (is_current : current ≡ Some gpsk_kind)
      (in_view : gpsk_at views ≡ Some (gpsk_server.over login true))
      (facts : gpsk_server_stands.GpskChecked setup login false)
      → ServerSucceeds setup current views
      (sk_record login.psk (gpsk_server_stands.gpsk2_of_login login pd)
      ∷ sk_record login.psk (gpsk_server_stands.gpsk4_of_login login last_pd) ∷ [])
      (sk_record login.psk (gpsk_server.gpsk3_of login) ∷ [])

module _ (setup : PeerSetup) (selected : Option ℕ) (views : PeerViews) where
  peer_psk : (login : psk_peer.Login) → selected ≡ Some psk_kind
      → psk_in views ≡ psk_peer.over login true
      → (accepted made : List TagRecord) → psk_peer_stands.PskPeerTags setup (psk_peer.over login
      true) accepted made → PeerSucceeds setup selected views accepted made
  peer_psk login is_selected in_view _ _ (psk_peer_stands.psk_over _ _ header sealed id facts) =
      with_psk login header sealed id is_selected in_view facts

  peer_gpsk : (login : gpsk_peer.Login) → selected ≡ Some gpsk_kind
      → gpsk_in views ≡ gpsk_peer.over login true
      → (accepted made : List TagRecord) → gpsk_peer_stands.GpskPeerTags setup (gpsk_peer.over login
      true) accepted made → PeerSucceeds setup selected views accepted made
  peer_gpsk login is_selected in_view _ _ (gpsk_peer_stands.gpsk_confirmed _ list pd facts) =
      with_gpsk login list pd is_selected in_view facts

  pub peer_succeeds : (accepted made : List TagRecord)
      → by_method.PeerTags setup selected views accepted made
      → by_method.PeerHasSucceeded selected views
      → PeerSucceeds setup selected views accepted made
  peer_succeeds accepted made tags (by_method.psk_peer_succeeded login is_selected in_view) =
      peer_psk login is_selected in_view accepted made
      (subst (λ (v : psk_peer.View). psk_peer_stands.PskPeerTags setup v accepted made) in_view
      (peer_by_method.reported_by_psk setup selected views accepted made
      (one_method selected psk_kind gpsk_kind refl is_selected) tags))
  peer_succeeds accepted made tags (by_method.gpsk_peer_succeeded login is_selected in_view) =
      peer_gpsk login is_selected in_view accepted made
      (subst (λ (v : gpsk_peer.View). gpsk_peer_stands.GpskPeerTags setup v accepted made) in_view
      (peer_by_method.reported_by_gpsk setup selected views accepted made
      (one_method selected gpsk_kind psk_kind refl is_selected) tags))

module _ (setup : ServerSetup) (current : Option ℕ) (views : ServerViews) where
  server_psk : (login : psk_server.Login) → current ≡ Some psk_kind
      → psk_at views ≡ Some (psk_server.over login true)
      → (accepted made : List TagRecord) → psk_server_stands.PskServerTags setup (psk_server.over
      login true) accepted made → ServerSucceeds setup current views accepted made
  server_psk login is_current in_view _ _
      (psk_server_stands.psk_over _ _ header sealed id facts r_sent rand_in r_came) =
      of_psk login header sealed id is_current in_view facts (r_sent refl)

  server_gpsk : (login : gpsk_server.Login) → current ≡ Some gpsk_kind
      → gpsk_at views ≡ Some (gpsk_server.over login true)
      → (accepted made : List TagRecord) → gpsk_server_stands.GpskServerTags setup (gpsk_server.over
      login true) accepted made → ServerSucceeds setup current views accepted made
  server_gpsk login is_current in_view _ _ (gpsk_server_stands.gpsk_confirmed _ pd last_pd facts) =
      of_gpsk login pd last_pd is_current in_view facts

  pub server_succeeds : (accepted made : List TagRecord)
      → by_method.ServerTags setup current views accepted made
      → by_method.ServerHasSucceeded current views
      → ServerSucceeds setup current views accepted made
  server_succeeds accepted made tags (by_method.psk_server_succeeded login is_current in_view) =
      server_psk login is_current in_view accepted made (server_by_method.reported_by_psk setup
      current views _ accepted made is_current in_view tags)
  server_succeeds accepted made tags (by_method.gpsk_server_succeeded login is_current in_view) =
      server_gpsk login is_current in_view accepted made (server_by_method.reported_by_gpsk setup
      current views _ accepted made is_current in_view tags)

module _ (peer_setup : PeerSetup) (server_setup : ServerSetup) (selected : Option ℕ)
    (views : PeerViews) (current : Option ℕ) (server_views : ServerViews)
    (peer_nonce : length peer_setup.nonce ≡ 32)
    (server_nonce : length server_setup.nonce ≡ 32) where
  -- the server's first tag is the peer's; so is the peer's first tag the server's, which only
  -- EAP-PSK asks
  pub both_succeed : (peer_accepted initial_peer server_accepted initial_server : List TagRecord)
      → PeerSucceeds peer_setup selected views peer_accepted initial_peer
      → ServerSucceeds server_setup current server_views server_accepted initial_server
      → FirstInEither peer_accepted initial_server initial_peer
      → FirstInEither server_accepted initial_peer initial_server
      → BothSucceed peer_setup server_setup selected views current server_views
  both_succeed _ _ _ _ (with_psk login header sealed id is_selected in_view facts)
      (of_psk other _ _ other_id is_current in_other checked r_sent) of_peer of_server =
      by_psk login facts other checked is_selected in_view is_current in_other r_sent
      (psk.same_login peer_setup server_setup login facts other checked peer_nonce server_nonce id
      other_id (one_of (of_server.is _ _ refl) (psk.server_not_own server_setup other checked
      server_nonce other_id)) (one_of (of_peer.is _ _ refl)
      (psk.peer_not_own peer_setup login facts id)))
  both_succeed _ _ _ _ (with_psk login header sealed id is_selected in_view facts)
      (of_gpsk other pd _ is_current in_other checked) of_peer of_server =
      absurd (other_method _ _ _ (one_of (of_server.is _ _ refl) (gpsk.not_own other pd))
      (λ e. apart (sym e)) (λ e. apart (sym e)))
  both_succeed _ _ _ _ (with_gpsk login list pd is_selected in_view facts)
      (of_psk other _ _ other_id is_current in_other checked r_sent) of_peer of_server =
      absurd (other_method _ _ _ (one_of (of_server.is _ _ refl)
      (psk.server_not_own server_setup other checked server_nonce other_id)) apart apart)
  both_succeed _ _ _ _ (with_gpsk login list _ is_selected in_view facts)
      (of_gpsk other pd _ is_current in_other checked) of_peer of_server =
      by_gpsk login list facts other pd checked is_selected in_view is_current in_other
      (gpsk.same_login peer_setup server_setup login list facts other pd checked peer_nonce
      server_nonce (one_of (of_server.is _ _ refl) (gpsk.not_own other pd)))

-- ---- by their histories

peer_done : (setup : PeerSetup) (s : PeerShown) (last : Decision) (accepted made : List TagRecord)
    → peers.is_one s.method ≡ true → PeerHistory setup s last accepted made
    → last ≢ decision.Fail
    → PeerSucceeds setup (Some (peer.peer_kind s)) (λ kind. Some s) accepted made
peer_done setup s last accepted made one history sure =
    by s.method s.view one (peer_implied.peer_histories_imply setup s last accepted made history)
  where
    by : (m : peer.Method) (view : peer.View m) → peers.is_one m ≡ true
        → ImpliedOf setup m view last accepted made
        → (let s : PeerShown = record { method = m; view = view } in
        PeerSucceeds setup (Some (peer.peer_kind s)) (λ kind. Some s) accepted made)
    by peer.by_psk view one implied =
        let won = implied.decided sure in
        peer_psk setup (Some psk_kind) (λ kind. Some (peer.psk view)) won.0 refl won.1 accepted
        made (subst (λ (v : psk_peer.View). psk_peer_stands.PskPeerTags setup v accepted made)
        won.1 implied.tags)
    by peer.by_gpsk view one implied =
        let won = implied.decided sure in
        peer_gpsk setup (Some gpsk_kind) (λ kind. Some (peer.gpsk view)) won.0 refl won.1 accepted
        made (subst (λ (v : gpsk_peer.View). gpsk_peer_stands.GpskPeerTags setup v accepted made)
        won.1 implied.tags)
    by (peer.by_other custom) view one implied = absurd cc

server_done : (setup : ServerSetup) (s : ServerShown) (accepted made : List TagRecord)
    → servers.is_one s.method ≡ true → ServerHistory setup s true accepted made
    → ServerSucceeds setup (Some (server.server_kind s)) (λ kind. Some s) accepted made
server_done setup s accepted made one history =
    by s.method s.view one (server_implied.server_histories_imply setup s true accepted made history)
  where
    by : (m : server.Method) (view : server.View m) → servers.is_one m ≡ true
        → ServerImpliedOf setup m view true accepted made
        → (let s : ServerShown = record { method = m; view = view } in
        ServerSucceeds setup (Some (server.server_kind s)) (λ kind. Some s) accepted made)
    by server.by_psk view one implied =
        let won = implied.well refl in
        server_psk setup (Some psk_kind) (λ kind. Some (server.psk view)) won.0 refl
        (ap (λ (v : psk_server.View). Some v) won.1) accepted made
        (subst (λ (v : psk_server.View). psk_server_stands.PskServerTags setup v accepted made)
        won.1 implied.tags)
    by server.by_gpsk view one implied =
        let won = implied.well refl in
        server_gpsk setup (Some gpsk_kind) (λ kind. Some (server.gpsk view)) won.0 refl
        (ap (λ (v : gpsk_server.View). Some v) won.1) accepted made
        (subst (λ (v : gpsk_server.View). gpsk_server_stands.GpskServerTags setup v accepted made)
        won.1 implied.tags)
    by (server.by_other custom) view one implied = absurd cc

-- what both ends report agrees
pub agrees : (setup : Setup) (kind server_kind : ℕ) (views : PeerViews) (server_views : ServerViews)
    → BothSucceed setup.peer setup.server (Some kind) views (Some server_kind) server_views
    → Agrees setup (peer_report_of kind views) (server_report_of server_kind server_views)
agrees setup kind server_kind views server_views
    (by_psk login facts other checked is_selected in_view is_current in_other r_sent same) =
    psk.psk_agree setup login facts other checked r_sent same _ _
    (ap (λ (k : ℕ). peer_report_of k views) (some_same kind psk_kind is_selected)
    ∙ psk.peer_reported views login in_view)
    (ap (λ (k : ℕ). server_report_of k server_views) (some_same server_kind psk_kind is_current)
    ∙ psk.server_reported server_views other in_other)
agrees setup kind server_kind views server_views
    (by_gpsk login list facts other pd checked is_selected in_view is_current in_other same) =
    gpsk.gpsk_agree setup login list facts other pd checked same _ _
    (ap (λ (k : ℕ). peer_report_of k views) (some_same kind gpsk_kind is_selected)
    ∙ gpsk.peer_reported views login in_view)
    (ap (λ (k : ℕ). server_report_of k server_views) (some_same server_kind gpsk_kind is_current)
    ∙ gpsk.server_reported server_views other in_other)

pub both_agree : BothAgree
unfolding peer_report_of server_report_of
both_agree p s one other setup last accepted made server_accepted server_made peer_nonce
    server_nonce history sure server_history of_peer of_server =
    agrees setup (peer.peer_kind p) (server.server_kind s) (λ kind. Some p) (λ kind. Some s)
    (both_succeed setup.peer setup.server _ _ _ _ peer_nonce server_nonce _ _ _ _
    (peer_done setup.peer p last accepted made one history sure)
    (server_done setup.server s server_accepted server_made other server_history)
    of_peer of_server)

-- a server that has succeeded holds a nonce of the peer
pub record Holds (o : Option (List ℕ)) : Type 0 where
  pub foreign : List ℕ
  pub is : o ≡ Some foreign

pub server_knows_nonce : (setup : ServerSetup) (current : Option ℕ) (views : ServerViews)
    (accepted made : List TagRecord)
    → ServerSucceeds setup current views accepted made
    → Holds (server_foreign current views)
server_knows_nonce setup current views _ _
    (of_psk login header sealed id is_current in_view facts r_sent) =
    record {
      foreign = _;
      is = ap (λ (o : Option ℕ). server_foreign o views) is_current ∙ ap psk_rand_p_in in_view;
    }
server_knows_nonce setup current views _ _ (of_gpsk login pd last_pd is_current in_view facts) =
    record {
      foreign = _;
      is = ap (λ (o : Option ℕ). server_foreign o views) is_current ∙ ap gpsk_rand_p_in in_view;
    }
