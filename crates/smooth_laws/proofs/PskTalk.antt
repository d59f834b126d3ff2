-- A login by EAP-PSK as both machines see it: its four messages and their tags.
use Rattle.std.proofs.Common.{◌≡◌, ℕ, ◌≤◌, List, length, true, false, Some, refl, sym, ap, ◌∙◌}
use Rattle.std.proofs.Common.{arith}
use Rattle.std.specs.Prelude.{option_map}
use Rattle.std.proofs.lemmas.Bool.{cond-true}
use Rattle.std.proofs.lemmas.List.{length-take-le}
use Rattle.cmac_mac.proofs.Laws.{length_aes_cmac}
use Rattle.login_setup.specs.declared.setup.PeerSetup.{PeerSetup}
use Rattle.login_setup.specs.Setup.{ServerSetup}
use Rattle.login_setup.specs.declared.users.User.{User}
use Rattle.octet_lists.specs.Among.{psk_kind, is_among}
use Rattle.login_setup.specs.Setup.{accepts_name}
use Rattle.login_setup.specs.Users.{user_of}
use Rattle.psk_messages.specs.Message.{Message, psk1, spelled}
use Rattle.psk_messages.proofs.Grammar.{encodings_are_sized}
use Rattle.eap_method.specs.PskPeer as psk_peer
use Rattle.eap_method.specs.PskServer as psk_server
use Rattle.eap_method.specs.PskTags.{psk_request, psk_response, done_success, rand_of}
use Rattle.eap_method.specs.Peer as peers
use Rattle.eap_method.specs.Peer.{PeerViews, credential_for, key_for, peer_turn}
use Rattle.eap_method.specs.Server as servers
use Rattle.eap_method.specs.Server.{ServerViews, server_offer, server_turn, side_of}
use Rattle.eap_method.proofs.PeerViews.{begins}
use Rattle.eap_method.specs.Turns.{PeerOutcome, ServerOutcome}
use Rattle.eap_method.specs.declared.values.Decision.TheVariants.{UncondSucc}
use Rattle.method_laws.specs.PskLogin.{Ends, Compatible, IsSuccessful, peer_login, server_login}
use Rattle.method_laws.specs.PskLogin.{psk1_of, psk2_records}
use Rattle.method_laws.proofs.PskChannel.{length_sealed_tag}
use Rattle.method_laws.proofs.PskWhole.{psk_logins_go_through}
use Rattle.smooth_laws.proofs.ServerSide.{IsOffer, Made, after_id}
use Rattle.smooth_laws.proofs.Talk.{IsShort, Talks}
use Rattle.method_laws.proofs.PeerByMethod.{psk_turn}
use Rattle.method_laws.proofs.ServerByMethod as at_server
use Rattle.world_laws.specs.Runs.{views_started}

-- both ends have a key in common and accept each other
pub record Shares (peer : PeerSetup) (server : ServerSetup) (user : User) : Type 0 where
  pub allowed : is_among peer.methods psk_kind ≡ true
  pub known : user_of server.users peer.name psk_kind ≡ Some user
  pub not_barred : user.barred ≡ false
  pub one_key : user.psk ≡ key_for peer psk_kind
  pub accepted : accepts_name peer.accepts server.name ≡ true
  pub peer_name : length peer.name ≤ 253
  pub peer_nonce : length peer.nonce ≡ 32
  pub short : IsShort server

abbrev ends_of : PeerSetup → ServerSetup → User → Ends
ends_of peer server user = record {
  cred = credential_for peer psk_kind;
  nonce = peer.nonce;
  own = side_of server;
  setup_with_nonce = server.nonce;
  users = server.users;
  user = user;
}

fits : (peer : PeerSetup) (server : ServerSetup) (user : User) → Shares peer server user
    → Compatible (ends_of peer server user)
unfolding credential_for side_of
fits peer server user shares = record {
  accepted = shares.accepted;
  known = shares.known;
  not_barred = shares.not_barred;
  one_key = shares.one_key;
  peer_name = shares.peer_name;
  server_name = shares.short.name;
  peer_nonce = shares.peer_nonce;
  server_nonce = shares.short.nonce;
}

-- ---- the sizes of the messages

length_rand : (nonce : List ℕ) → length nonce ≡ 32 → length (rand_of nonce) ≡ 16
length_rand nonce size = length-take-le 16 nonce (omega arith)

length_mac_p : (login : psk_peer.Login) → length (psk_peer.mac_p_of login) ≡ 16
unfolding psk_peer.mac_p_of
length_mac_p login = length_aes_cmac _ _

length_mac_s : (login : psk_server.Login) → length (psk_server.mac_s_of login) ≡ 16
unfolding psk_server.mac_s_of
length_mac_s login = length_aes_cmac _ _

length_psk3_tag : (login : psk_server.Login) (id : ℕ)
    → length (psk_server.psk3_sealed login id).tag ≡ 16
unfolding psk_server.psk3_sealed
length_psk3_tag login id = length_sealed_tag _ _ _ _

length_psk4_tag : (login : psk_peer.Login) (id r : ℕ)
    → length (psk_peer.psk4_sealed login id r).tag ≡ 16
unfolding psk_peer.psk4_sealed
length_psk4_tag login id r = length_sealed_tag _ _ _ _

module _ (ends : Ends) (fit : Compatible ends) where
  answer_bounds : length (spelled (psk_peer.psk2_of (peer_login ends))) ≤ 1488
  answer_bounds =
      let size = encodings_are_sized (psk_peer.psk2_of (peer_login ends)) in
      let mac = length_mac_p (peer_login ends) in
      let rand_p = length_rand ends.nonce fit.peer_nonce in
      let rand_s = length_rand ends.setup_with_nonce fit.server_nonce in
      let name = fit.peer_name in
      omega arith

  check_bounds : (id : ℕ) → length (spelled (psk_server.psk3_of (server_login ends) id)) ≤ 1488
  check_bounds id =
      let size = encodings_are_sized (psk_server.psk3_of (server_login ends) id) in
      let mac = length_mac_s (server_login ends) in
      let tag = length_psk3_tag (server_login ends) id in
      let rand_s = length_rand ends.setup_with_nonce fit.server_nonce in
      omega arith

  confirm_bounds : (id : ℕ)
      → length (spelled (psk_peer.psk4_of (peer_login ends) id done_success)) ≤ 1488
  confirm_bounds id =
      let size = encodings_are_sized (psk_peer.psk4_of (peer_login ends) id done_success) in
      let tag = length_psk4_tag (peer_login ends) id done_success in
      let rand_s = length_rand ends.setup_with_nonce fit.server_nonce in
      omega arith

-- ---- the first Request

module _ (made : Made) (short : IsShort made.setup) (id : ℕ) (begun : ServerViews) where
  pub psk_bounded : length (spelled (psk1 (rand_of made.setup.nonce) (side_of made.setup).id_s))
      ≤ 1488
  unfolding side_of
  psk_bounded =
      let size = encodings_are_sized (psk1 (rand_of made.setup.nonce) made.setup.name) in
      let name = short.name in
      let nonce = short.nonce in
      let rand = length-take-le 16 made.setup.nonce (omega arith) in
      omega arith

  pub psk_offered : (view : psk_server.View) → begun psk_kind ≡ Some (servers.psk view)
      → IsOffer made psk_kind id begun
      (psk_request id (psk1 (rand_of made.setup.nonce) (side_of made.setup).id_s))
      (servers.put psk_kind
      (servers.psk (psk_server.asked (side_of made.setup) made.setup.nonce)) begun)
  unfolding server_offer servers.server_first_step psk_server.first_step psk_server.first
  psk_offered view is = record {
    is = ap (servers.offered (side_of made.setup) made.setup.nonce psk_kind id begun) is;
  }

-- ---- the turns at both machines

module _ (peer : PeerSetup) (made : Made) (user : User) (shares : Shares peer made.setup user)
    (id : ℕ) where
  goes : IsSuccessful (ends_of peer made.setup user) id (after_id id) (after_id (after_id id))
  goes = psk_logins_go_through (ends_of peer made.setup user) id (after_id id)
      (after_id (after_id id)) (fits peer made.setup user shares)

  -- the peer's view of the method that it allows is fresh
  fresh_there : views_started peer psk_kind
      ≡ Some (peers.psk (psk_peer.fresh (credential_for peer psk_kind) peer.nonce))
  unfolding peers.views_started
  fresh_there =
      ap (option_map (peers.peer_started_in peer))
      (cond-true (is_among peer.methods psk_kind) _ _ shares.allowed)
      ∙ ap (λ (s : peers.PeerShown). Some s)
      (sym (begins peer (peers.psk psk_peer.unset) shares.allowed))

  answered : (views : PeerViews) (view : psk_peer.View) (octets : List ℕ)
      (out : PeerOutcome psk_peer.View) → views psk_kind ≡ Some (peers.psk view)
      → psk_peer.step view octets ≡ out
      → peer_turn psk_kind views octets ≡ psk_turn views out
  unfolding peer_turn peers.peer_step
  answered views view octets out at is =
      ap (peers.turned psk_kind views octets) at
      ∙ ap (λ (found : PeerOutcome psk_peer.View). psk_turn views found) is

  heard : (next : ℕ) (views : ServerViews) (view : psk_server.View) (octets : List ℕ)
      (out : ServerOutcome psk_server.View)
      → views psk_kind ≡ Some (servers.psk view)
      → psk_server.step made.setup.users next view octets ≡ out
      → server_turn made.setup.users next psk_kind views octets ≡ at_server.psk_turn views out
  unfolding server_turn servers.server_step
  heard next views view octets out at is =
      ap (servers.turned made.setup.users next psk_kind views octets) at
      ∙ ap (λ (found : ServerOutcome psk_server.View). at_server.psk_turn views found) is

  pub psk_talks : (begun : ServerViews) (view : psk_server.View)
      → begun psk_kind ≡ Some (servers.psk view) → Talks peer made psk_kind id begun
  psk_talks begun view is =
      let e : Ends = ends_of peer made.setup user in
      let fit : Compatible e = fits peer made.setup user shares in
      let next : ℕ = after_id id in
      let psk2 : Message = psk_peer.psk2_of (peer_login e) in
      let psk3 : Message = psk_server.psk3_of (server_login e) next in
      let psk4 : Message = psk_peer.psk4_of (peer_login e) next done_success in
      let waits : PeerViews =
      peers.put psk_kind (peers.psk (psk_peer.wait (peer_login e))) (views_started peer) in
      let asked : ServerViews = servers.put psk_kind
      (servers.psk (psk_server.asked (side_of made.setup) made.setup.nonce)) begun in
      let checked : ServerViews =
      servers.put psk_kind (servers.psk (psk_server.checked (server_login e))) asked in
      record {
        is_method = record {
          not_identity = refl;
          not_notification = refl;
          not_nak = refl;
          not_expanded = refl;
          has_plain = refl;
        };
        asks = spelled (psk1_of e);
        answers = spelled psk2;
        checks = spelled psk3;
        confirms = spelled psk4;
        asks_bounded = psk_bounded made shares.short id begun;
        answers_bounded = answer_bounds e fit;
        checks_bounded = check_bounds e fit next;
        confirms_bounded = confirm_bounds e fit next;
        waiting = waits;
        over = peers.put psk_kind (peers.psk (psk_peer.over (peer_login e) true)) waits;
        asked = asked;
        checked = checked;
        finished =
            servers.put psk_kind (servers.psk (psk_server.over (server_login e) true)) checked;
        decided = UncondSucc;
        sure = refl;
        answer_tags = psk2_records e;
        check_tags = psk_server.psk3_records (server_login e) next;
        confirm_tags = psk_peer.psk4_record (peer_login e) next done_success;
        offered = psk_offered made shares.short id begun view is;
        answered =
            answered (views_started peer) _ (psk_request id (psk1_of e)) _ fresh_there goes.answers;
        was_checked = heard next asked (psk_server.asked (side_of made.setup) made.setup.nonce)
            (psk_response id psk2) _ refl goes.checks;
        confirmed = answered waits (psk_peer.wait (peer_login e)) (psk_request next psk3)
            _ refl goes.confirms;
        was_finished = heard (after_id next) checked (psk_server.checked (server_login e))
            (psk_response next psk4) _ refl goes.finishes;
      }
