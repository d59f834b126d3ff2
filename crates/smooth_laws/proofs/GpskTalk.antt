-- A login by EAP-GPSK as both machines see it: its four messages and their tags.
use Rattle.std.proofs.Common.{◌≡◌, ℕ, ◌*◌, ◌≤◌, List, [], ◌∷◌, length, true, false, Some, refl, sym}
use Rattle.std.proofs.Common.{ap, ◌∙◌, arith}
use Rattle.std.specs.Prelude.{option_map}
use Rattle.std.proofs.lemmas.Bool.{cond-true}
use Rattle.login_setup.specs.declared.setup.PeerSetup.{PeerSetup}
use Rattle.login_setup.specs.Setup.{ServerSetup}
use Rattle.octet_lists.specs.declared.suite.Suite.{Suite}
use Rattle.login_setup.specs.declared.users.User.{User}
use Rattle.octet_lists.specs.Among.{gpsk_kind, is_among}
use Rattle.login_setup.specs.Setup.{accepts_name}
use Rattle.octet_lists.specs.Suite.{ks_of}
use Rattle.login_setup.specs.Users.{user_of}
use Rattle.gpsk_messages.specs.Message.{Message, mac_of, spelled}
use Rattle.gpsk_messages.proofs.Grammar.{encodings_are_sized}
use Rattle.login_keys.proofs.GpskLaws.{ks_le, length_gpsk_tag_of}
use Rattle.login_policy.specs.Policy.{picked_suite}
use Rattle.eap_method.specs.GpskPeer as gpsk_peer
use Rattle.eap_method.specs.GpskServer as gpsk_server
use Rattle.eap_method.specs.GpskTags.{gpsk_request, gpsk_response, sk_record, suite_list}
use Rattle.eap_method.specs.Peer as peers
use Rattle.eap_method.specs.Peer.{PeerViews, credential_for, key_for, peer_turn}
use Rattle.eap_method.specs.Server as servers
use Rattle.eap_method.specs.Server.{ServerViews, server_offer, server_turn, side_of}
use Rattle.eap_method.proofs.PeerViews.{begins}
use Rattle.eap_method.specs.Turns.{PeerOutcome, ServerOutcome, requested, done}
use Rattle.eap_method.specs.declared.values.Decision.TheVariants.{CondSucc}
use Rattle.method_laws.specs.GpskLogin.{Ends, Compatible, IsSuccessful, peer_login, server_login}
use Rattle.method_laws.proofs.GpskWhole.{gpsk_logins_go_through}
use Rattle.smooth_laws.proofs.ServerSide.{IsOffer, Made, after_id}
use Rattle.smooth_laws.proofs.Talk.{IsShort, Talks}
use Rattle.method_laws.proofs.PeerByMethod.{gpsk_turn}
use Rattle.method_laws.proofs.ServerByMethod as at_server
use Rattle.world_laws.specs.Runs.{views_started}

-- both ends have a key in common, accept each other, and there is a suite for both
pub record Shares (peer : PeerSetup) (server : ServerSetup) (user : User)
    (suite : Suite) : Type 0 where
  pub allowed : is_among peer.methods gpsk_kind ≡ true
  pub known : user_of server.users peer.name gpsk_kind ≡ Some user
  pub not_barred : user.barred ≡ false
  pub one_key : user.psk ≡ key_for peer gpsk_kind
  pub accepted : accepts_name peer.accepts server.name ≡ true
  pub picked : picked_suite peer.suites (suite_list server.suites) ≡ Some suite
  pub peer_name : length peer.name ≤ 253
  pub peer_nonce : length peer.nonce ≡ 32
  pub short : IsShort server
  pub some_suites : 1 ≤ length server.suites

abbrev ends_of : PeerSetup → ServerSetup → User → Suite → Ends
ends_of peer server user suite = record {
  cred = credential_for peer gpsk_kind;
  nonce = peer.nonce;
  own = side_of server;
  setup_with_nonce = server.nonce;
  users = server.users;
  user = user;
  suite = suite;
}

fits : (peer : PeerSetup) (server : ServerSetup) (user : User) (suite : Suite)
    → Shares peer server user suite → Compatible (ends_of peer server user suite)
unfolding credential_for side_of
fits peer server user suite shares =
    let few = shares.short.suites in let some = shares.some_suites in record {
      accepted = shares.accepted;
      picked = shares.picked;
      known = shares.known;
      not_barred = shares.not_barred;
      one_key = shares.one_key;
      peer_name = shares.peer_name;
      server_name = shares.short.name;
      peer_nonce = shares.peer_nonce;
      server_nonce = shares.short.nonce;
      some_suites = omega arith;
      few_suites = omega arith;
    }

own_suites : (peer : PeerSetup) (server : ServerSetup) (user : User) (suite : Suite)
    → Shares peer server user suite
    → length (ends_of peer server user suite).own.suites ≤ 2
unfolding side_of
own_suites peer server user suite shares = shares.short.suites

-- ---- the sizes of the messages

length_suite_list : (suites : List ℕ) → length (suite_list suites) ≡ 6 * length suites
unfolding suite_list
length_suite_list [] = refl
length_suite_list (suite ∷ suites) = let rest = length_suite_list suites in omega arith

module _ (ends : Ends) (fit : Compatible ends) where
  answer_bounds : length ends.own.suites ≤ 2
      → length (spelled (gpsk_peer.gpsk2_of (peer_login ends) (suite_list ends.own.suites))) ≤ 1488
  answer_bounds few =
      let size =
      encodings_are_sized (gpsk_peer.gpsk2_of (peer_login ends) (suite_list ends.own.suites)) in
      let mac : length (mac_of (gpsk_peer.gpsk2_of (peer_login ends) (suite_list ends.own.suites)))
      ≡ ks_of ends.suite = length_gpsk_tag_of _ _ _ in
      let list = length_suite_list ends.own.suites in
      let ks = ks_le ends.suite in
      let peer_name = fit.peer_name in
      let server_name = fit.server_name in
      let peer_nonce = fit.peer_nonce in
      let server_nonce = fit.server_nonce in
      omega arith

  check_bounds : length (spelled (gpsk_server.gpsk3_of (server_login ends))) ≤ 1488
  check_bounds =
      let size = encodings_are_sized (gpsk_server.gpsk3_of (server_login ends)) in
      let mac : length (mac_of (gpsk_server.gpsk3_of (server_login ends))) ≡ ks_of ends.suite =
      length_gpsk_tag_of _ _ _ in
      let ks = ks_le ends.suite in
      let server_name = fit.server_name in
      let peer_nonce = fit.peer_nonce in
      let server_nonce = fit.server_nonce in
      omega arith

  confirm_bounds : length (spelled (gpsk_peer.gpsk4_of (peer_login ends))) ≤ 1488
  confirm_bounds =
      let size = encodings_are_sized (gpsk_peer.gpsk4_of (peer_login ends)) in
      let mac : length (mac_of (gpsk_peer.gpsk4_of (peer_login ends))) ≡ ks_of ends.suite =
      length_gpsk_tag_of _ _ _ in
      let ks = ks_le ends.suite in
      omega arith

-- ---- the first Request

module _ (made : Made) (short : IsShort made.setup) (id : ℕ) (begun : ServerViews) where
  pub gpsk_bounded : length (spelled (gpsk_server.gpsk1_of (side_of made.setup) made.setup.nonce))
      ≤ 1488
  unfolding side_of
  gpsk_bounded =
      let size = encodings_are_sized (gpsk_server.gpsk1_of (side_of made.setup) made.setup.nonce) in
      let list = length_suite_list made.setup.suites in
      let name = short.name in
      let nonce = short.nonce in
      let few = short.suites in
      omega arith

  pub gpsk_offered : (view : gpsk_server.View) → begun gpsk_kind ≡ Some (servers.gpsk view)
      → IsOffer made gpsk_kind id begun
      (gpsk_request id (gpsk_server.gpsk1_of (side_of made.setup) made.setup.nonce))
      (servers.put gpsk_kind
      (servers.gpsk (gpsk_server.asked (side_of made.setup) made.setup.nonce)) begun)
  unfolding server_offer servers.server_first_step gpsk_server.first_step gpsk_server.first
  gpsk_offered view is = record {
    is = ap (servers.offered (side_of made.setup) made.setup.nonce gpsk_kind id begun) is;
  }

-- ---- the turns at both machines

module _ (peer : PeerSetup) (made : Made) (user : User) (suite : Suite)
    (shares : Shares peer made.setup user suite) (id : ℕ) where
  goes : IsSuccessful (ends_of peer made.setup user suite) id (after_id id) (after_id (after_id id))
  goes = gpsk_logins_go_through (ends_of peer made.setup user suite) id (after_id id)
      (after_id (after_id id)) (fits peer made.setup user suite shares)

  -- the peer's view of the method that it allows is fresh
  fresh_there : views_started peer gpsk_kind
      ≡ Some (peers.gpsk (gpsk_peer.fresh (credential_for peer gpsk_kind) peer.nonce))
  unfolding peers.views_started
  fresh_there =
      ap (option_map (peers.peer_started_in peer))
      (cond-true (is_among peer.methods gpsk_kind) _ _ shares.allowed)
      ∙ ap (λ (s : peers.PeerShown). Some s)
      (sym (begins peer (peers.gpsk gpsk_peer.unset) shares.allowed))

  answered : (views : PeerViews) (view : gpsk_peer.View) (octets : List ℕ)
      (out : PeerOutcome gpsk_peer.View) → views gpsk_kind ≡ Some (peers.gpsk view)
      → gpsk_peer.step view octets ≡ out
      → peer_turn gpsk_kind views octets ≡ gpsk_turn views out
  unfolding peer_turn peers.peer_step
  answered views view octets out at is =
      ap (peers.turned gpsk_kind views octets) at
      ∙ ap (λ (found : PeerOutcome gpsk_peer.View). gpsk_turn views found) is

  heard : (next : ℕ) (views : ServerViews) (view : gpsk_server.View) (octets : List ℕ)
      (out : ServerOutcome gpsk_server.View)
      → views gpsk_kind ≡ Some (servers.gpsk view)
      → gpsk_server.step made.setup.users next view octets ≡ out
      → server_turn made.setup.users next gpsk_kind views octets ≡ at_server.gpsk_turn views out
  unfolding server_turn servers.server_step
  heard next views view octets out at is =
      ap (servers.turned made.setup.users next gpsk_kind views octets) at
      ∙ ap (λ (found : ServerOutcome gpsk_server.View). at_server.gpsk_turn views found) is

  -- what the server makes and accepts is under the peer's key
  pub gpsk_talks : (begun : ServerViews) (view : gpsk_server.View)
      → begun gpsk_kind ≡ Some (servers.gpsk view) → Talks peer made gpsk_kind id begun
  gpsk_talks begun view is =
      let e : Ends = ends_of peer made.setup user suite in
      let fit : Compatible e = fits peer made.setup user suite shares in
      let psk : List ℕ = (credential_for peer gpsk_kind).psk in
      let gpsk2 : Message = gpsk_peer.gpsk2_of (peer_login e) (suite_list e.own.suites) in
      let gpsk3 : Message = gpsk_server.gpsk3_of (server_login e) in
      let gpsk4 : Message = gpsk_peer.gpsk4_of (peer_login e) in
      let waits : PeerViews =
      peers.put gpsk_kind (peers.gpsk (gpsk_peer.wait (peer_login e))) (views_started peer) in
      let asked : ServerViews = servers.put gpsk_kind
      (servers.gpsk (gpsk_server.asked (side_of made.setup) made.setup.nonce)) begun in
      let checked : ServerViews =
      servers.put gpsk_kind (servers.gpsk (gpsk_server.checked (server_login e))) asked in
      record {
        is_method = record {
          not_identity = refl;
          not_notification = refl;
          not_nak = refl;
          not_expanded = refl;
          has_plain = refl;
        };
        asks = spelled (gpsk_server.gpsk1_of (side_of made.setup) made.setup.nonce);
        answers = spelled gpsk2;
        checks = spelled gpsk3;
        confirms = spelled gpsk4;
        asks_bounded = gpsk_bounded made shares.short id begun;
        answers_bounded = answer_bounds e fit (own_suites peer made.setup user suite shares);
        checks_bounded = check_bounds e fit;
        confirms_bounded = confirm_bounds e fit;
        waiting = waits;
        over = peers.put gpsk_kind (peers.gpsk (gpsk_peer.over (peer_login e) true)) waits;
        asked = asked;
        checked = checked;
        finished =
            servers.put gpsk_kind (servers.gpsk (gpsk_server.over (server_login e) true)) checked;
        decided = CondSucc;
        sure = refl;
        answer_tags = sk_record psk gpsk2 ∷ [];
        check_tags = sk_record psk gpsk3 ∷ [];
        confirm_tags = sk_record psk gpsk4 ∷ [];
        offered = gpsk_offered made shares.short id begun view is;
        answered = answered (views_started peer) _ (gpsk_request id (gpsk_server.gpsk1_of
            (side_of made.setup) made.setup.nonce)) _ fresh_there goes.answers;
        was_checked = heard (after_id id) asked (gpsk_server.asked (side_of made.setup)
            made.setup.nonce) (gpsk_response id gpsk2) _ refl
            (goes.checks ∙ ap (λ (key : List ℕ). requested (gpsk_server.checked (server_login e))
            (gpsk_request (after_id id) gpsk3) (sk_record key gpsk2 ∷ [])
            (sk_record key gpsk3 ∷ [])) fit.one_key);
        confirmed = answered waits (gpsk_peer.wait (peer_login e))
            (gpsk_request (after_id id) gpsk3) _ refl goes.confirms;
        was_finished = heard (after_id (after_id id)) checked (gpsk_server.checked (server_login e))
            (gpsk_response (after_id id) gpsk4) _ refl (goes.finishes ∙ ap (λ (key : List ℕ). done
            (gpsk_server.over (server_login e) true) true (sk_record key gpsk4 ∷ [])) fit.one_key);
      }
