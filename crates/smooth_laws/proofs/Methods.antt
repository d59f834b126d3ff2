-- The methods of a smooth login: which a server has, the first Request of each, and its turns where
-- two ends fit by it.
use Rattle.std.proofs.Common.{◌≡◌, ℕ, ◌≤◌, List, length, true, false, Some, refl, sym, ap, subst}
use Rattle.std.proofs.Common.{◌∙◌, inl, inr}
use Rattle.std.specs.Prelude.{◌==◌, ◌||◌, ◌⊎◌, None, if◌then◌else◌, option_map}
use Rattle.std.specs.List.{list_any, list_all}
use Rattle.std.proofs.lemmas.Bool.{and_parts, cond-true}
use Rattle.login_setup.specs.declared.setup.Mode.{Mode}
use Rattle.login_setup.specs.Setup.{ServerSetup}
use Rattle.login_setup.specs.declared.setup.Setup.{Setup}
use Rattle.login_setup.specs.declared.users.User.{User}
use Rattle.octet_lists.specs.Among.{psk_kind, gpsk_kind, is_kind, is_among, is_filled, are_distinct}
use Rattle.login_setup.specs.Setup.{accepts_name, are_kinds}
use Rattle.login_setup.specs.Users.{user_of}
use Rattle.eap_packet.specs.Packet.{request}
use Rattle.eap_packet.specs.Packet as packets
use Rattle.gpsk_messages.specs.Message as gpsk_messages
use Rattle.psk_messages.specs.Message as psk_messages
use Rattle.eap_method.specs.GpskServer as gpsk_server
use Rattle.eap_method.specs.Peer.{key_for}
use Rattle.eap_method.specs.PskServer as psk_server
use Rattle.eap_method.specs.PskTags.{rand_of}
use Rattle.eap_method.specs.Server as servers
use Rattle.eap_method.specs.Server.{ServerShown, ServerViews, put, server_kind, server_started_in}
use Rattle.eap_method.specs.Server.{side_of, started_server}
use Rattle.eap_method.proofs.ServerViews.{begins}
use Rattle.world_laws.specs.Whole.{IsWhole}
use Rattle.world_laws.specs.Runs.{server_views_started}
use Rattle.smooth_laws.specs.Smooth.{HasShortNames}
use Rattle.smooth_laws.proofs.Carried.{IsMethod}
use Rattle.smooth_laws.proofs.Choosing.{either, few_of, few_suites, some_picked, some_suites}
use Rattle.smooth_laws.proofs.GpskTalk.{gpsk_bounded, gpsk_offered, gpsk_talks}
use Rattle.smooth_laws.proofs.Opening.{made_in}
use Rattle.smooth_laws.proofs.PskTalk.{psk_bounded, psk_offered, psk_talks}
use Rattle.smooth_laws.proofs.ServerSide.{Made, IsOffer}
use Rattle.smooth_laws.proofs.Talk.{IsShort, Talks}

pub few_kinds : (kinds : List ℕ) → are_kinds kinds ≡ true → length kinds ≤ 2
few_kinds kinds h = let both = and_parts (list_all is_kind kinds) (are_distinct kinds) h in
    few_of psk_kind gpsk_kind kinds both.0 both.1

-- the server has an object of this method
pub data Has (views : ServerViews) : ℕ → Type 0 where
  psk : (view : psk_server.View) → views psk_kind ≡ Some (servers.psk view) → Has views psk_kind
  gpsk : (view : gpsk_server.View) → views gpsk_kind ≡ Some (servers.gpsk view)
      → Has views gpsk_kind

-- what a method asks first; of each method of which there was an object there still is one
pub record Offers (made : Made) (kind id : ℕ) (begun : ServerViews) : Type 0 where
  pub is_method : IsMethod kind
  pub asks : List ℕ
  pub fits : length asks ≤ 1488
  pub asked : ServerViews
  pub offered : IsOffer made kind id begun (packets.spelled (request id kind asks)) asked
  pub keeps : (other : ℕ) → Has begun other → Has asked other

module _ (made : Made) (short : IsShort made.setup) (id : ℕ) (begun : ServerViews) where
  preserves_gpsk : (left : gpsk_server.View) (other : ℕ) → Has begun other
      → Has (put gpsk_kind (servers.gpsk left) begun) other
  preserves_gpsk left other (psk view is) = psk view is
  preserves_gpsk left other (gpsk view is) = gpsk left refl

  preserves_psk : (left : psk_server.View) (other : ℕ) → Has begun other
      → Has (put psk_kind (servers.psk left) begun) other
  preserves_psk left other (psk view is) = psk left refl
  preserves_psk left other (gpsk view is) = gpsk view is

  gpsk_offers : (view : gpsk_server.View) → begun gpsk_kind ≡ Some (servers.gpsk view)
      → Offers made gpsk_kind id begun
  gpsk_offers view is = record {
    is_method = record {
      not_identity = refl;
      not_notification = refl;
      not_nak = refl;
      not_expanded = refl;
      has_plain = refl;
    };
    asks = gpsk_messages.spelled (gpsk_server.gpsk1_of (side_of made.setup) made.setup.nonce);
    fits = gpsk_bounded made short id begun;
    asked = put gpsk_kind
        (servers.gpsk (gpsk_server.asked (side_of made.setup) made.setup.nonce)) begun;
    offered = gpsk_offered made short id begun view is;
    keeps = preserves_gpsk (gpsk_server.asked (side_of made.setup) made.setup.nonce);
  }

  psk_offers : (view : psk_server.View) → begun psk_kind ≡ Some (servers.psk view)
      → Offers made psk_kind id begun
  psk_offers view is = record {
    is_method = record {
      not_identity = refl;
      not_notification = refl;
      not_nak = refl;
      not_expanded = refl;
      has_plain = refl;
    };
    asks = psk_messages.spelled
        (psk_messages.psk1 (rand_of made.setup.nonce) (side_of made.setup).id_s);
    fits = psk_bounded made short id begun;
    asked = put psk_kind
        (servers.psk (psk_server.asked (side_of made.setup) made.setup.nonce)) begun;
    offered = psk_offered made short id begun view is;
    keeps = preserves_psk (psk_server.asked (side_of made.setup) made.setup.nonce);
  }

-- each method of which the server has an object asks first
pub offers_of : (made : Made) (short : IsShort made.setup) (kind id : ℕ) (begun : ServerViews)
    → Has begun kind → Offers made kind id begun
offers_of made short kind id begun (psk view is) = psk_offers made short id begun view is
offers_of made short kind id begun (gpsk view is) = gpsk_offers made short id begun view is

-- a server that begins has an object of each method of its order
fresh_at : (setup : ServerSetup) (s : ServerShown) → is_among setup.methods (server_kind s) ≡ true
    → option_map (server_started_in setup) (if is_among setup.methods (server_kind s) then Some s
    else None) ≡ Some (started_server (side_of setup) setup.nonce s)
fresh_at setup s named =
    ap (option_map (server_started_in setup))
    (cond-true (is_among setup.methods (server_kind s)) _ _ named)
    ∙ ap (λ (t : ServerShown). Some t) (sym (begins setup s named))

has_at : (setup : ServerSetup) (kind : ℕ) → (kind ≡ psk_kind) ⊎ (kind ≡ gpsk_kind)
    → is_among setup.methods kind ≡ true → Has (server_views_started setup) kind
unfolding servers.views_started
has_at setup kind (inl e) among =
    subst (Has (server_views_started setup)) (sym e)
    (psk (psk_server.begun (side_of setup) setup.nonce)
    (fresh_at setup (servers.psk psk_server.unset) (ap (is_among setup.methods) (sym e) ∙ among)))
has_at setup kind (inr e) among =
    subst (Has (server_views_started setup)) (sym e)
    (gpsk (gpsk_server.begun (side_of setup) setup.nonce)
    (fresh_at setup (servers.gpsk gpsk_server.unset) (ap (is_among setup.methods) (sym e) ∙ among)))

pub has_each : (setup : ServerSetup) (kind : ℕ) → is_kind kind ≡ true
    → is_among setup.methods kind ≡ true → Has (server_views_started setup) kind
has_each setup kind is among =
    has_at setup kind (either psk_kind gpsk_kind kind is) among

-- ---- the turns

module _ (setup : Setup) (whole : IsWhole setup) (names : HasShortNames setup) where
  pub short : IsShort setup.server
  short = record {
    name = names.server;
    nonce = whole.server_nonce;
    suites = few_suites setup.server.suites whole.server.suites;
  }

  known_suites : list_all (λ suite. (suite == 1) || (suite == 2)) setup.server.suites ≡ true
  known_suites = (and_parts (list_all (λ suite. (suite == 1) || (suite == 2)) setup.server.suites)
      (are_distinct setup.server.suites)
      (and_parts (is_filled setup.server.suites) _ whole.server.suites).1).0

  -- the method's turns, where both ends fit by it
  pub talks_of : (runs : Mode) (kind id : ℕ) (user : User) → is_among setup.peer.methods kind ≡ true
      → user_of setup.server.users setup.peer.name kind ≡ Some user → user.barred ≡ false
      → user.psk ≡ key_for setup.peer kind
      → accepts_name setup.peer.accepts setup.server.name ≡ true
      → (kind ≡ gpsk_kind → list_any (is_among setup.peer.suites) setup.server.suites ≡ true)
      → (begun : ServerViews) → Has begun kind → Talks setup.peer (made_in runs setup) kind id begun
  talks_of runs kind id user allowed known not_barred one_key accepted suite begun (psk view is) =
      psk_talks setup.peer (made_in runs setup) user
      (record {
        allowed = allowed;
        known = known;
        not_barred = not_barred;
        one_key = one_key;
        accepted = accepted;
        peer_name = names.peer;
        peer_nonce = whole.peer_nonce;
        short = short;
      })
      id begun view is
  talks_of runs kind id user allowed known not_barred one_key accepted suite begun (gpsk view is) =
      let picks = some_picked setup.peer.suites setup.server.suites known_suites (suite refl) in
      gpsk_talks setup.peer (made_in runs setup) user picks.suite
      (record {
        allowed = allowed;
        known = known;
        not_barred = not_barred;
        one_key = one_key;
        accepted = accepted;
        picked = picks.is;
        peer_name = names.peer;
        peer_nonce = whole.peer_nonce;
        short = short;
        some_suites = some_suites setup.server.suites whole.server.suites;
      })
      id begun view is
