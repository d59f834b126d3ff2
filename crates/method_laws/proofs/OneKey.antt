-- The tags of one conversation are under one key: those of a peer that has succeeded under its own
-- for the method, those of a server that has succeeded under its user's.
use Rattle.std.proofs.Common.{◌≡◌, ℕ, List, [], ◌∷◌, Option, Some, refl, sym, ap, ◌∙◌, inl}
use Rattle.std.proofs.Common.{inr}
use Rattle.login_setup.specs.declared.setup.PeerSetup.{PeerSetup}
use Rattle.login_setup.specs.Setup.{ServerSetup}
use Rattle.login_setup.specs.declared.users.User.{User}
use Rattle.login_setup.specs.Users.{user_of}
use Rattle.octet_lists.specs.Among.{gpsk_kind, psk_kind}
use Rattle.eap_method.specs.declared.tags.TagRecord.{TagRecord}
use Rattle.eap_method.specs.declared.values.Report.{Report}
use Rattle.eap_method.specs.GpskPeer as gpsk_peer
use Rattle.eap_method.specs.GpskServer as gpsk_server
use Rattle.eap_method.specs.PskPeer as psk_peer
use Rattle.eap_method.specs.PskServer as psk_server
use Rattle.eap_method.specs.Peer.{PeerViews, key_for}
use Rattle.eap_method.specs.Server.{ServerViews, server_report_of}
use Rattle.method_laws.specs.ByMethod as by_method
use Rattle.method_laws.specs.ByMethod.{PeerTags, ServerTags}
use Rattle.method_laws.specs.GpskPeerInvariant as gpsk_peer_stands
use Rattle.method_laws.specs.GpskServerInvariant as gpsk_server_stands
use Rattle.method_laws.specs.PskPeerInvariant as psk_peer_stands
use Rattle.method_laws.specs.PskServerInvariant as psk_server_stands
use Rattle.method_laws.specs.Records.{IsIn, here}
use Rattle.method_laws.proofs.Among.{among_one, among_two}
use Rattle.method_laws.proofs.GpskAgrees as gpsk_agrees
use Rattle.method_laws.proofs.OneMethod.{some_same}
use Rattle.method_laws.proofs.PskAgrees as psk_agrees
use Rattle.method_laws.proofs.Credentials.{own_key}
use Rattle.method_laws.proofs.Succeeding.{PeerSucceeds, ServerSucceeds, with_psk, with_gpsk}
use Rattle.method_laws.proofs.Succeeding.{of_psk, of_gpsk}
use Rattle.eap_method.specs.BothPeers.{psk_in}
use Rattle.eap_method.specs.BothPeers.{gpsk_in}

pub record OneKey (accepted made : List TagRecord) : Type 0 where
  pub key : List ℕ
  pub of_accepted : (t : TagRecord) → IsIn t accepted → t.psk ≡ key
  pub of_created : (t : TagRecord) → IsIn t made → t.psk ≡ key

no_tags : OneKey [] []
no_tags = record { key = []; of_accepted = λ t is. elim is [ ]; of_created = λ t is. elim is [ ] }

one_of_one : (t a : TagRecord) → IsIn t (a ∷ []) → t.psk ≡ a.psk
one_of_one t a is = ap (λ (r : TagRecord). r.psk) (among_one t a is)

one_of_two : (t a b : TagRecord) (key : List ℕ) → a.psk ≡ key → b.psk ≡ key → IsIn t (a ∷ b ∷ [])
    → t.psk ≡ key
one_of_two t a b key first second is =
    elim (among_two t a b is) [
      | inl e ↦ ap (λ (r : TagRecord). r.psk) e ∙ first
      | inr e ↦ ap (λ (r : TagRecord). r.psk) e ∙ second
    ]

-- ---- the server

server_by_psk : (setup : ServerSetup) (view : psk_server.View) (accepted made : List TagRecord)
    → psk_server_stands.PskServerTags setup view accepted made → OneKey accepted made
server_by_psk setup _ _ _ (psk_server_stands.psk_asked ordered) = no_tags
server_by_psk setup _ _ _ (psk_server_stands.psk_checked login id facts) =
    record {
      key = login.psk;
      of_accepted = λ t is. one_of_one t _ is;
      of_created = λ t is. one_of_two t _ _ login.psk refl refl is;
    }
server_by_psk setup _ _ _ psk_server_stands.psk_refused = no_tags
server_by_psk setup _ _ _
    (psk_server_stands.psk_over login good header sealed id facts r_sent rand_in r_came) =
    record {
      key = login.psk;
      of_accepted = λ t is. one_of_two t _ _ login.psk refl refl is;
      of_created = λ t is. one_of_two t _ _ login.psk refl refl is;
    }

server_by_gpsk : (setup : ServerSetup) (view : gpsk_server.View) (accepted made : List TagRecord)
    → gpsk_server_stands.GpskServerTags setup view accepted made → OneKey accepted made
server_by_gpsk setup _ _ _ (gpsk_server_stands.gpsk_asked ordered) = no_tags
server_by_gpsk setup _ _ _ gpsk_server_stands.gpsk_refusing = no_tags
server_by_gpsk setup _ _ _ gpsk_server_stands.gpsk_refused = no_tags
server_by_gpsk setup _ _ _ (gpsk_server_stands.gpsk_barring login pd facts) =
    record {
      key = login.psk;
      of_accepted = λ t is. one_of_one t _ is;
      of_created = λ t is. one_of_one t _ is;
    }
server_by_gpsk setup _ _ _ (gpsk_server_stands.gpsk_checked login pd facts) =
    record {
      key = login.psk;
      of_accepted = λ t is. one_of_one t _ is;
      of_created = λ t is. one_of_one t _ is;
    }
server_by_gpsk setup _ _ _ (gpsk_server_stands.gpsk_barred login pd facts) =
    record {
      key = login.psk;
      of_accepted = λ t is. one_of_two t _ _ login.psk refl refl is;
      of_created = λ t is. one_of_one t _ is;
    }
server_by_gpsk setup _ _ _ (gpsk_server_stands.gpsk_confirmed login pd last_pd facts) =
    record {
      key = login.psk;
      of_accepted = λ t is. one_of_two t _ _ login.psk refl refl is;
      of_created = λ t is. one_of_one t _ is;
    }

pub server_one : (setup : ServerSetup) (current : Option ℕ) (views : ServerViews)
    (accepted made : List TagRecord) → ServerTags setup current views accepted made
    → OneKey accepted made
server_one setup current views _ _ (by_method.none_current none) = no_tags
server_one setup current views _ _ (by_method.identity_current is_current) = no_tags
server_one setup current views _ _ (by_method.psk_current view accepted made is_current in_view
    told) = server_by_psk setup view accepted made told
server_one setup current views _ _ (by_method.gpsk_current view accepted made is_current in_view
    told) = server_by_gpsk setup view accepted made told

-- ---- the peer

peer_by_psk : (setup : PeerSetup) (view : psk_peer.View) (accepted made : List TagRecord)
    → psk_peer_stands.PskPeerTags setup view accepted made → OneKey accepted made
peer_by_psk setup _ _ _ psk_peer_stands.psk_unset = no_tags
peer_by_psk setup _ _ _ (psk_peer_stands.psk_fresh allowed) = no_tags
peer_by_psk setup _ _ _ (psk_peer_stands.psk_waits login facts) =
    record {
      key = login.cred.psk;
      of_accepted = λ t is. elim is [ ];
      of_created = λ t is. one_of_one t _ is;
    }
peer_by_psk setup _ _ _ (psk_peer_stands.psk_over login good header sealed id facts) =
    record {
      key = login.cred.psk;
      of_accepted = λ t is. one_of_two t _ _ login.cred.psk refl refl is;
      of_created = λ t is. one_of_two t _ _ login.cred.psk refl refl is;
    }

peer_by_gpsk : (setup : PeerSetup) (view : gpsk_peer.View) (accepted made : List TagRecord)
    → gpsk_peer_stands.GpskPeerTags setup view accepted made → OneKey accepted made
peer_by_gpsk setup _ _ _ gpsk_peer_stands.gpsk_unset = no_tags
peer_by_gpsk setup _ _ _ (gpsk_peer_stands.gpsk_fresh allowed) = no_tags
peer_by_gpsk setup _ _ _ (gpsk_peer_stands.gpsk_waits login list facts) =
    record {
      key = login.cred.psk;
      of_accepted = λ t is. elim is [ ];
      of_created = λ t is. one_of_one t _ is;
    }
peer_by_gpsk setup _ _ _ (gpsk_peer_stands.gpsk_confirmed login list pd facts) =
    record {
      key = login.cred.psk;
      of_accepted = λ t is. one_of_one t _ is;
      of_created = λ t is. one_of_two t _ _ login.cred.psk refl refl is;
    }
peer_by_gpsk setup _ _ _ (gpsk_peer_stands.gpsk_failed login list facts) =
    record {
      key = login.cred.psk;
      of_accepted = λ t is. elim is [ ];
      of_created = λ t is. one_of_one t _ is;
    }
peer_by_gpsk setup _ _ _ (gpsk_peer_stands.gpsk_barred login list code facts) =
    record {
      key = login.cred.psk;
      of_accepted = λ t is. one_of_one t _ is;
      of_created = λ t is. one_of_two t _ _ login.cred.psk refl refl is;
    }

pub peer_one : (setup : PeerSetup) (selected : Option ℕ) (views : PeerViews)
    (accepted made : List TagRecord) → PeerTags setup selected views accepted made
    → OneKey accepted made
peer_one setup selected views _ _ (by_method.none_selected unselected psk_verdict gpsk_verdict) =
    no_tags
peer_one setup selected views _ _ (by_method.psk_selected accepted made is_selected told) =
    peer_by_psk setup (psk_in views) accepted made told
peer_one setup selected views _ _ (by_method.gpsk_selected accepted made is_selected told) =
    peer_by_gpsk setup (gpsk_in views) accepted made told

-- ---- after a success

-- a peer has accepted tags of its key for the method
pub keyed_peer : (setup : PeerSetup) (selected : Option ℕ) (views : PeerViews) (kind : ℕ)
    (accepted made : List TagRecord) → PeerSucceeds setup selected views accepted made
    → selected ≡ Some kind → (t : TagRecord) → IsIn t accepted → t.psk ≡ key_for setup kind
keyed_peer setup selected views kind _ _ (with_psk login header sealed id is_selected in_view facts)
    same t is =
    one_of_two t _ _ login.cred.psk refl refl is ∙ own_key setup psk_kind login.cred facts.cred
    ∙ ap (key_for setup) (some_same psk_kind kind (sym is_selected ∙ same))
keyed_peer setup selected views kind _ _ (with_gpsk login list pd is_selected in_view facts)
    same t is =
    one_of_one t _ is ∙ own_key setup gpsk_kind login.cred facts.cred
    ∙ ap (key_for setup) (some_same gpsk_kind kind (sym is_selected ∙ same))

-- a server has accepted tags of the key of the user whom it reports
pub record OfUser (setup : ServerSetup) (current : Option ℕ) (views : ServerViews)
    (accepted : List TagRecord) : Type 0 where
  pub kind : ℕ
  pub is_current : current ≡ Some kind
  pub report : Report
  pub reported : server_report_of kind views ≡ Some report
  pub user : User
  pub known : user_of setup.users report.id_p report.method ≡ Some user
  pub key : (t : TagRecord) → IsIn t accepted → t.psk ≡ user.psk

pub of_user : (setup : ServerSetup) (current : Option ℕ) (views : ServerViews)
    (accepted made : List TagRecord) → ServerSucceeds setup current views accepted made
    → OfUser setup current views accepted
unfolding psk_server.report_of gpsk_server.report_of
of_user setup current views _ _ (of_psk login header sealed id is_current in_view facts r_sent) =
    record {
      kind = psk_kind;
      is_current = is_current;
      report = psk_server.report_of login;
      reported = psk_agrees.server_reported views login in_view;
      user = facts.user;
      known = facts.known;
      key = λ t is. one_of_two t _ _ login.psk refl refl is ∙ facts.key;
    }
of_user setup current views _ _ (of_gpsk login pd last_pd is_current in_view facts) =
    record {
      kind = gpsk_kind;
      is_current = is_current;
      report = gpsk_server.report_of login;
      reported = gpsk_agrees.server_reported views login in_view;
      user = facts.user;
      known = facts.known;
      key = λ t is. one_of_two t _ _ login.psk refl refl is ∙ facts.key;
    }

-- an end has accepted a tag
pub record HasTag (accepted : List TagRecord) : Type 0 where
  pub tag : TagRecord
  pub is_in : IsIn tag accepted

pub server_tag : (setup : ServerSetup) (current : Option ℕ) (views : ServerViews)
    (accepted made : List TagRecord) → ServerSucceeds setup current views accepted made
    → HasTag accepted
server_tag setup current views _ _ (of_psk login header sealed id is_current in_view facts r_sent) =
    record { tag = _; is_in = here _ }
server_tag setup current views _ _ (of_gpsk login pd last_pd is_current in_view facts) =
    record { tag = _; is_in = here _ }

pub peer_tag : (setup : PeerSetup) (selected : Option ℕ) (views : PeerViews)
    (accepted made : List TagRecord) → PeerSucceeds setup selected views accepted made
    → HasTag accepted
peer_tag setup selected views _ _ (with_psk login header sealed id is_selected in_view facts) =
    record { tag = _; is_in = here _ }
peer_tag setup selected views _ _ (with_gpsk login list pd is_selected in_view facts) =
    record { tag = _; is_in = here _ }
