-- Two conversations of which one rests on the other are of one method, and their logins lead to the
-- same; by EAP-GPSK they hold the whole of each other's nonces.
use Rattle.std.proofs.Common.{◌≡◌, ℕ, false, List, ◌∷◌, length, Option, Some, refl, sym, ap, subst}
use Rattle.std.proofs.Common.{◌∙◌}
use Rattle.login_setup.specs.declared.setup.PeerSetup.{PeerSetup}
use Rattle.login_setup.specs.Setup.{ServerSetup}
use Rattle.octet_lists.specs.Among.{psk_kind, gpsk_kind}
use Rattle.eap_method.specs.declared.tags.TagRecord.{TagRecord}
use Rattle.eap_method.specs.GpskServer as gpsk_server
use Rattle.eap_method.specs.GpskTags.{sk_record}
use Rattle.eap_method.specs.Peer.{PeerViews}
use Rattle.eap_method.specs.PskServer as psk_server
use Rattle.eap_method.specs.Server.{ServerViews}
use Rattle.peer_machine.specs.PeerTable as peers
use Rattle.peer_machine.specs.PeerTable.{PeerNow}
use Rattle.server_machine.specs.ServerTable as servers
use Rattle.server_machine.specs.ServerTable.{ServerNow, server_reports}
use Rattle.method_laws.specs.ByMethod.{peer_login, server_login, PeerTags, ServerTags}
use Rattle.method_laws.specs.ByMethod as by_method
use Rattle.method_laws.specs.GpskLogins.{HaveWhole}
use Rattle.method_laws.specs.GpskPeerInvariant.{gpsk_whole_rand_s}
use Rattle.method_laws.specs.GpskServerInvariant.{gpsk_whole_rand_p_in, gpsk_server_login}
use Rattle.method_laws.specs.GpskServerInvariant.{GpskChecked, gpsk2_of_login}
use Rattle.login_laws.specs.Matching.{RestsOn}
use Rattle.method_laws.specs.PskServerInvariant.{psk_server_login, PskChecked}
use Rattle.method_laws.specs.PskServerInvariant as psk_server_stands
use Rattle.method_laws.specs.Records.{IsIn, here, later}
use Rattle.method_laws.proofs.Among.{first_is, no_tag}
use Rattle.method_laws.proofs.GpskAgrees as gpsk_agrees
use Rattle.login_laws.proofs.GpskLogins as gpsk
use Rattle.method_laws.proofs.GpskNoncesWhole as whole
use Rattle.login_laws.proofs.Results.{ResultsIn, PeersLogin, ServersLogin, reaches_too, login_too}
use Rattle.login_laws.proofs.Results.{server_report_is}
use Rattle.method_laws.proofs.OneMethod.{apart as one_method}
use Rattle.method_laws.proofs.PeerByMethod as peer_by_method
use Rattle.method_laws.proofs.PskAgrees as psk_agrees
use Rattle.login_laws.proofs.PskLogins as psk
use Rattle.method_laws.proofs.ServerByMethod as server_by_method
use Rattle.method_laws.proofs.Among.{first_in, FirstIn}
use Rattle.method_laws.proofs.Succeeding.{of_gpsk, of_psk, PeerSucceeds, ServerSucceeds, with_gpsk}
use Rattle.method_laws.proofs.Succeeding.{with_psk}
use Rattle.eap_method.specs.BothPeers.{psk_in}
use Rattle.eap_method.specs.BothPeers.{gpsk_in}

-- ---- one method, and the whole of the nonces

-- the conversation of the peer with the one nonce and the one of the server with the other are of
-- one method
pub record AreOne (selected : Option ℕ) (views : PeerViews) (nonce : List ℕ) (current : Option ℕ)
    (server_views : ServerViews) (server_nonce : List ℕ) : Type 0 where
  pub method : selected ≡ current
  pub whole : selected ≡ Some gpsk_kind → HaveWhole views nonce server_views server_nonce
  pub whole_too : current ≡ Some gpsk_kind → HaveWhole views nonce server_views server_nonce

module _ (selected : Option ℕ) (views : PeerViews) (nonce : List ℕ) (current : Option ℕ)
    (server_views : ServerViews) (server_nonce : List ℕ) where
  one_by_psk : selected ≡ Some psk_kind → current ≡ Some psk_kind
      → AreOne selected views nonce current server_views server_nonce
  one_by_psk is_selected is_current = record {
    method = is_selected ∙ sym is_current;
    whole = one_method selected psk_kind gpsk_kind refl is_selected;
    whole_too = one_method current psk_kind gpsk_kind refl is_current;
  }

  one_by_gpsk : selected ≡ Some gpsk_kind → current ≡ Some gpsk_kind
      → HaveWhole views nonce server_views server_nonce
      → AreOne selected views nonce current server_views server_nonce
  one_by_gpsk is_selected is_current hold =
      record { method = is_selected ∙ sym is_current; whole = λ _. hold; whole_too = λ _. hold }

module _ (peer_setup : PeerSetup) (server_setup : ServerSetup) (nonce server_nonce : List ℕ)
    (size : length nonce ≡ 32) (server_size : length server_nonce ≡ 32) where
  abbrev own : PeerSetup
  own = peers.setup_with_nonce peer_setup nonce

  abbrev servers_own : ServerSetup
  servers_own = servers.setup_with_nonce server_setup server_nonce

  -- one of the server that rests on one of the peer: the first tag that it accepted is one that the
  -- peer's has made
  pub server_on : (selected : Option ℕ) (views : PeerViews) (current : Option ℕ)
      (server_views : ServerViews)
      → (server_accepted initial_server : List TagRecord)
      → ServerTags servers_own current server_views server_accepted initial_server
      → (accepted made : List TagRecord) → PeerTags own selected views accepted made
      → (tag : TagRecord) (more : List TagRecord) → server_accepted ≡ tag ∷ more → IsIn tag made
      → AreOne selected views nonce current server_views server_nonce
  server_on selected views current server_views _ _ (by_method.none_current none)
      accepted made told tag more first is = no_tag tag more first
  server_on selected views current server_views _ _ (by_method.identity_current is_current)
      accepted made told tag more first is = no_tag tag more first
  server_on selected views current server_views _ _ (by_method.psk_current view server_accepted
      initial_server is_current in_view theirs) accepted made told tag more first is =
      let by_psk =
      psk.first_method servers_own view server_accepted initial_server theirs tag more first in
      one_by_psk selected views nonce current server_views server_nonce
      (peer_by_method.created_by_psk own selected views accepted made tag told is by_psk).0
      is_current
  server_on selected views current server_views _ _ (by_method.gpsk_current view server_accepted
      initial_server is_current in_view theirs) accepted made told tag more first is =
      let taken =
      whole.first_taken servers_own view server_accepted initial_server theirs tag more first in
      let by = peer_by_method.created_by_gpsk own selected views accepted made tag told is
      (ap (λ (t : TagRecord). t.method) taken.is) in
      let both = whole.server_on peer_setup server_setup nonce server_nonce size server_size view
      tag taken (gpsk_in views) accepted made by.1 is in
      one_by_gpsk selected views nonce current server_views server_nonce by.0 is_current
      (record { rand_s = both.0; rand_p = ap gpsk_whole_rand_p_in in_view ∙ both.1 })

  -- one of the peer in SUCCESS that rests on one of the server: the first tag that it accepted is
  -- one that the server's has made
  pub peer_on : (now : PeerNow) (current : Option ℕ) (server_views : ServerViews)
      (accepted made : List TagRecord) → PeerSucceeds own now.vars.selected now.views accepted made
      → (server_accepted initial_server : List TagRecord)
      → ServerTags servers_own current server_views server_accepted initial_server
      → (tag : TagRecord) (more : List TagRecord) → accepted ≡ tag ∷ more → IsIn tag initial_server
      → AreOne now.vars.selected now.views nonce current server_views server_nonce
  peer_on now current server_views _ _ (with_psk login header sealed id is_selected in_view facts)
      server_accepted initial_server theirs tag more first is =
      let by_psk = ap (λ (t : TagRecord). t.method) (first_is _ tag _ more first) in
      one_by_psk now.vars.selected now.views nonce current server_views server_nonce is_selected
      (server_by_method.created_by_psk servers_own current server_views server_accepted
      initial_server tag theirs is by_psk).is_current
  peer_on now current server_views _ _ (with_gpsk login list pd is_selected in_view facts)
      server_accepted initial_server theirs tag more first is =
      let same = first_is _ tag _ more first in
      let by = server_by_method.created_by_gpsk servers_own current server_views server_accepted
      initial_server tag theirs is (ap (λ (t : TagRecord). t.method) same) in
      let both = whole.peer_on peer_setup server_setup nonce server_nonce size server_size login
      list pd facts by.view server_accepted initial_server by.told
      (subst (λ (t : TagRecord). IsIn t initial_server) same is) in
      one_by_gpsk now.vars.selected now.views nonce current server_views server_nonce is_selected
      by.is_current (record {
        rand_s = ap gpsk_whole_rand_s in_view ∙ both.0;
        rand_p = ap gpsk_whole_rand_p_in by.in_view ∙ both.1;
      })

-- ---- one login

module _ (peer_setup : PeerSetup) (server_setup : ServerSetup) (peer_nonce : length peer_setup.nonce
    ≡ 32) (server_nonce : length server_setup.nonce ≡ 32) where
  -- a peer that has succeeded, and a conversation of the server that made the first tag that it
  -- accepted
  pub peers_login : (now : PeerNow) (accepted made : List TagRecord)
      → PeerSucceeds peer_setup now.vars.selected now.views accepted made
      → (current : Option ℕ) (views : ServerViews) (their_accepted their_made : List TagRecord)
      → ServerTags server_setup current views their_accepted their_made
      → FirstIn accepted their_made → FirstIn their_accepted made
      → PeersLogin peer_setup server_setup now (server_login current views)
  peers_login now _ _ (with_psk login header sealed id is_selected in_view facts)
      current views their_accepted their_made told asked first =
      let is = asked.is _ _ refl in
      let by = server_by_method.created_by_psk server_setup current views their_accepted their_made
      _ told is refl in
      psk.peers_login peer_setup server_setup peer_nonce server_nonce now login facts
      is_selected in_view _ (login_too server_setup _ _ _ _
      (ap (λ (o : Option ℕ). server_login o views) by.is_current ∙ ap psk_server_login by.in_view)
      (psk.server_reaches peer_setup server_setup peer_nonce server_nonce login facts id by.view
      their_accepted their_made by.told is first))
  peers_login now _ _ (with_gpsk login list pd is_selected in_view facts)
      current views their_accepted their_made told asked first =
      let is = asked.is _ _ refl in
      let by = server_by_method.created_by_gpsk server_setup current views their_accepted their_made
      _ told is refl in
      gpsk.peers_login peer_setup server_setup peer_nonce server_nonce now login list facts
      is_selected in_view _ (login_too server_setup _ _ _ _
      (ap (λ (o : Option ℕ). server_login o views) by.is_current ∙ ap gpsk_server_login by.in_view)
      (gpsk.server_reaches peer_setup server_setup peer_nonce server_nonce login list pd facts
      by.view their_accepted their_made by.told is first))

  -- a server that has succeeded, and a conversation of the peer that made the first tag that it
  -- accepted
  module _ (selected : Option ℕ) (views : PeerViews) (their_accepted their_made : List TagRecord)
      (told : PeerTags peer_setup selected views their_accepted their_made) where
    psk_reaches : (login : psk_server.Login) → PskChecked server_setup login
        → IsIn (psk_server_stands.psk2_record login) their_made
        → ResultsIn peer_setup (peer_login selected views) (psk_server.report_of login) login.psk
    psk_reaches login checked is =
        let by = peer_by_method.created_by_psk peer_setup selected views their_accepted their_made _
        told is refl in
        reaches_too peer_setup _ _ _ _ (ap (λ (o : Option ℕ). peer_login o views) by.0)
        (psk.peer_reaches peer_setup server_setup peer_nonce server_nonce login checked
        (psk_in views) their_accepted their_made by.1 is)

    gpsk_reaches : (login : gpsk_server.Login) (pd : List ℕ) → GpskChecked server_setup login false
        → IsIn (sk_record login.psk (gpsk2_of_login login pd)) their_made
        → ResultsIn peer_setup (peer_login selected views) (gpsk_server.report_of login) login.psk
    gpsk_reaches login pd checked is =
        let by = peer_by_method.created_by_gpsk peer_setup selected views their_accepted their_made
        _ told is refl in
        reaches_too peer_setup _ _ _ _ (ap (λ (o : Option ℕ). peer_login o views) by.0)
        (gpsk.peer_reaches peer_setup server_setup peer_nonce server_nonce login pd checked
        (gpsk_in views) their_accepted their_made by.1 is)

    pub servers_login : (now : ServerNow) (accepted made : List TagRecord)
        → ServerSucceeds server_setup now.vars.current now.views accepted made
        → FirstIn accepted their_made
        → ServersLogin peer_setup server_setup now (peer_login selected views)
    servers_login now _ _ (of_psk login header sealed id is_current in_view checked r_sent) asks =
        psk.servers_login peer_setup server_setup peer_nonce server_nonce now login checked r_sent
        is_current in_view _ (psk_reaches login checked (asks.is _ _ refl))
    servers_login now _ _ (of_gpsk login pd last_pd is_current in_view checked) asks =
        gpsk.servers_login peer_setup server_setup peer_nonce server_nonce now login checked
        is_current in_view _ (gpsk_reaches login pd checked (asks.is _ _ refl))

    -- the peer's leads to just what the server reports: by EAP-PSK where it rests on the server's
    -- in its turn
    pub same_report : (now : ServerNow) (accepted made : List TagRecord)
        → ServerSucceeds server_setup now.vars.current now.views accepted made
        → RestsOn accepted their_made
        → (now.vars.current ≡ Some psk_kind → RestsOn their_accepted made)
        → peer_login selected views ≡ server_reports now
    same_report now _ _ (of_psk login header sealed id is_current in_view checked r_sent)
        rests back =
        let is = (first_in _ _ rests.tag rests.more rests.first rests.is_made).is _ _ refl in
        let by = peer_by_method.created_by_psk peer_setup selected views their_accepted their_made _
        told is refl in
        ap (λ (o : Option ℕ). peer_login o views) by.0
        ∙ (psk.rests_reaches peer_setup server_setup peer_nonce server_nonce login checked id
        (psk_in views) their_accepted their_made by.1 is (back is_current)
        ∙ sym (server_report_is now psk_kind _ is_current
        (psk_agrees.server_reported now.views login in_view)))
    same_report now _ _ (of_gpsk login pd last_pd is_current in_view checked) rests back =
        gpsk.reaches_whole peer_setup server_setup peer_nonce server_nonce login _
        (gpsk_reaches login pd checked
        ((first_in _ _ rests.tag rests.more rests.first rests.is_made).is _ _ refl))
        ∙ sym (server_report_is now gpsk_kind _ is_current
        (gpsk_agrees.server_reported now.views login in_view))

    -- so it is where both tags that the server accepted are the peer's, and each that the peer
    -- accepted is the server's
    pub whole_login : (now : ServerNow) (accepted made : List TagRecord)
        → ServerSucceeds server_setup now.vars.current now.views accepted made
        → ((t : TagRecord) → IsIn t accepted → IsIn t their_made)
        → ((t : TagRecord) → IsIn t their_accepted → IsIn t made)
        → peer_login selected views ≡ server_reports now
    whole_login now _ _ (of_psk login header sealed id is_current in_view checked r_sent)
        theirs back =
        let is = theirs _ (here _) in
        let by = peer_by_method.created_by_psk peer_setup selected views their_accepted their_made _
        told is refl in
        same_report now _ _ (of_psk login header sealed id is_current in_view checked r_sent)
        (record { tag = _; more = _; first = refl; is_made = is })
        (λ _. psk.psk4_rests peer_setup server_setup peer_nonce server_nonce login header sealed
        (psk_in views) their_accepted their_made _ by.1 (theirs _ (later _ _ (here _))) back)
    whole_login now _ _ (of_gpsk login pd last_pd is_current in_view checked) theirs back =
        same_report now _ _ (of_gpsk login pd last_pd is_current in_view checked)
        (record { tag = _; more = _; first = refl; is_made = theirs _ (here _) })
        (one_method now.vars.current gpsk_kind psk_kind refl is_current)
