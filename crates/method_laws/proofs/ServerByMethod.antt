-- The server by the method of a Type: what holds of the turns, the offer, the nonce and the tags of
-- each method holds of a Type's.
use Rattle.std.proofs.Common.{◌≡◌, ℕ, List, [], Option, Some, None, refl, ap, sym, subst, ◌∙◌}
use Rattle.std.proofs.Common.{arith}
use Rattle.login_setup.specs.Setup.{ServerSetup}
use Rattle.login_setup.specs.declared.users.User.{User}
use Rattle.octet_lists.specs.Among.{psk_kind, gpsk_kind, identity_kind}
use Rattle.eap_packet.specs.declared.cause.Cause.{Cause}
use Rattle.eap_method.specs.BothServers.{IsOne, gpsk_at, gpsk_shown, is_gpsk, is_psk, psk_at}
use Rattle.eap_method.specs.BothServers.{psk_shown}
use Rattle.eap_method.specs.declared.tags.TagRecord.{TagRecord}
use Rattle.eap_method.specs.declared.values.ServerSide.{ServerSide}
use Rattle.eap_method.specs.GpskServer as gpsk
use Rattle.eap_method.specs.PskServer as psk
use Rattle.eap_method.specs.Server.{Offer, ServerShown, ServerViews, offered, offering, put}
use Rattle.eap_method.specs.Server.{putting, server_first_step, server_offer, server_step}
use Rattle.eap_method.specs.Server.{server_turn, side_of, started_server, turned}
use Rattle.eap_method.specs.Server as shown
use Rattle.eap_method.specs.Turns.{ServerOutcome, body_of, dropped}
use Rattle.method_laws.specs.GpskServerRows.{GpskServerRow}
use Rattle.method_laws.specs.PskServerRows.{PskServerRow}
use Rattle.method_laws.proofs.GpskServerCases.{gpsk_server_steps_are_rows}
use Rattle.method_laws.proofs.PskServerCases.{psk_server_steps_are_rows}
use Rattle.method_laws.specs.ByMethod.{ServerTags, gpsk_current}
use Rattle.method_laws.specs.ByMethod.{identity_current, none_current}
use Rattle.method_laws.specs.ByMethod.{psk_current, server_foreign}
use Rattle.method_laws.specs.ByMethod.{server_foreign_of}
use Rattle.method_laws.specs.Both.{ServerHasBoth}
use Rattle.method_laws.proofs.ServerObjects.{is_one}
use Rattle.method_laws.specs.GpskServerInvariant.{GpskServerTags, gpsk_rand_p}
use Rattle.method_laws.specs.GpskServerInvariant.{gpsk_rand_p_in}
use Rattle.method_laws.specs.PskServerInvariant.{PskServerTags, psk_rand_p}
use Rattle.method_laws.specs.PskServerInvariant.{psk_rand_p_in}
use Rattle.method_laws.specs.Records.{AreFew, IsIn}
use Rattle.method_laws.proofs.GpskServerTurns.{gpsk_asks, gpsk_few, gpsk_first, gpsk_from_sender}
use Rattle.method_laws.proofs.GpskServerTurns.{gpsk_method, gpsk_none}
use Rattle.method_laws.proofs.Receiving.{Receives, as_before}
use Rattle.method_laws.proofs.OneMethod.{apart}
use Rattle.method_laws.proofs.PeerByMethod.{kinds_apart}
use Rattle.method_laws.proofs.PskServerTurns.{psk_asks, psk_few, psk_first, psk_from_sender}
use Rattle.method_laws.proofs.PskServerTurns.{psk_method, psk_none}
use Rattle.method_laws.proofs.ServerTurns.{Asks, IsRequest, asks_none}

-- ---- the turn of a Type

abbrev pub psk_turn : ServerViews → ServerOutcome psk.View → ServerOutcome ServerViews
psk_turn views out = record { turn = out.turn; after = put psk_kind (shown.psk out.after) views }

abbrev pub gpsk_turn : ServerViews → ServerOutcome gpsk.View → ServerOutcome ServerViews
gpsk_turn views out = record { turn = out.turn; after = put gpsk_kind (shown.gpsk out.after) views }

-- it is that of its method
pub data TurnOf (users : List User) (id kind : ℕ) (views : ServerViews)
    (octets : List ℕ) : ServerOutcome ServerViews → Type 0 where
  of_psk : (same : kind ≡ psk_kind) (view : psk.View) (at_view : psk_at views ≡ Some view)
      (out : ServerOutcome psk.View) (row : PskServerRow users id view octets out)
      → TurnOf users id kind views octets (psk_turn views out)
  of_gpsk : (same : kind ≡ gpsk_kind) (view : gpsk.View) (at_view : gpsk_at views ≡ Some view)
      (out : ServerOutcome gpsk.View) (row : GpskServerRow users id view octets out)
      → TurnOf users id kind views octets (gpsk_turn views out)
  of_none : (c : Cause) → TurnOf users id kind views octets (dropped views c)

module _ (users : List User) (id kind : ℕ) (views : ServerViews) (octets : List ℕ) where
  of_one : (s : ServerShown) → IsOne kind s → views kind ≡ Some s
      → TurnOf users id kind views octets (putting kind views (server_step users id s octets))
  unfolding server_step
  of_one _ (is_psk same view) is =
      subst (λ (k : ℕ). TurnOf users id kind views octets
      (putting k views (server_step users id (shown.psk view) octets))) (sym same)
      (of_psk same view (ap psk_shown (ap views (sym same) ∙ is)) (psk.step users id view octets)
      (psk_server_steps_are_rows users id view octets))
  of_one _ (is_gpsk same view) is =
      subst (λ (k : ℕ). TurnOf users id kind views octets
      (putting k views (server_step users id (shown.gpsk view) octets))) (sym same)
      (of_gpsk same view (ap gpsk_shown (ap views (sym same) ∙ is)) (gpsk.step users id view octets)
      (gpsk_server_steps_are_rows users id view octets))

  of_found : (found : Option ServerShown) → views kind ≡ found
      → ((s : ServerShown) → views kind ≡ Some s → IsOne kind s)
      → TurnOf users id kind views octets (turned users id kind views octets found)
  of_found None is both = of_none _
  of_found (Some s) is both = of_one s (both s is) is

  pub turn_of : {methods : List ℕ} → ServerHasBoth methods views
      → TurnOf users id kind views octets (server_turn users id kind views octets)
  unfolding server_turn
  turn_of both = of_found (views kind) refl (is_one both kind)

  -- each Request has the next Identifier
  pub turn_asks : (out : ServerOutcome ServerViews) → TurnOf users id kind views octets out
      → Asks id out.turn
  turn_asks _ (of_psk same view at_view out row) = psk_asks users id octets view out row
  turn_asks _ (of_gpsk same view at_view out row) = gpsk_asks users id octets view out row
  turn_asks _ (of_none c) = asks_none id c

  -- of the nonce it holds what it held, or what came
  pub turn_received : (out : ServerOutcome ServerViews) → TurnOf users id kind views octets out
      → Receives (Some (body_of octets)) (server_foreign_of views kind)
      (server_foreign_of out.after kind)
  turn_received _ (of_psk same view at_view out row) =
      subst (λ (k : ℕ). Receives (Some (body_of octets)) (server_foreign_of views k)
      (server_foreign_of (psk_turn views out).after k)) (sym same)
      (subst (λ (o : Option psk.View). Receives (Some (body_of octets)) (psk_rand_p_in o)
      (psk_rand_p out.after)) (sym at_view) (psk_from_sender users id octets view out row))
  turn_received _ (of_gpsk same view at_view out row) =
      subst (λ (k : ℕ). Receives (Some (body_of octets)) (server_foreign_of views k)
      (server_foreign_of (gpsk_turn views out).after k)) (sym same)
      (subst (λ (o : Option gpsk.View). Receives (Some (body_of octets)) (gpsk_rand_p_in o)
      (gpsk_rand_p out.after)) (sym at_view) (gpsk_from_sender users id octets view out row))
  turn_received _ (of_none c) = as_before refl

-- ---- the tags

one_view : {V : Type 0} (held : Option V) (one other : V) → held ≡ Some one → held ≡ Some other
    → other ≡ one
one_view held one other is_one is_other = cc

-- what the current method tells
module _ (setup : ServerSetup) (current : Option ℕ) (views : ServerViews) where
  pub reported_by_psk : (view : psk.View) (accepted made : List TagRecord) → current ≡ Some psk_kind
      → psk_at views ≡ Some view
      → ServerTags setup current views accepted made → PskServerTags setup view accepted made
  reported_by_psk view _ _ at_psk at_view (none_current none) = absurd cc
  reported_by_psk view _ _ at_psk at_view (identity_current is_current) =
      apart current identity_kind psk_kind refl is_current at_psk
  reported_by_psk view _ _ at_psk at_view
      (psk_current other accepted made is_current in_view told) =
      subst (λ (v : psk.View). PskServerTags setup v accepted made)
      (one_view (psk_at views) view other at_view in_view) told
  reported_by_psk view _ _ at_psk at_view (gpsk_current other accepted made is_current in_view
      told) = apart current gpsk_kind psk_kind refl is_current at_psk

  pub reported_by_gpsk : (view : gpsk.View) (accepted made : List TagRecord)
      → current ≡ Some gpsk_kind → gpsk_at views ≡ Some view
      → ServerTags setup current views accepted made → GpskServerTags setup view accepted made
  reported_by_gpsk view _ _ at_gpsk at_view (none_current none) = absurd cc
  reported_by_gpsk view _ _ at_gpsk at_view (identity_current is_current) =
      apart current identity_kind gpsk_kind refl is_current at_gpsk
  reported_by_gpsk view _ _ at_gpsk at_view (psk_current other accepted made is_current in_view
      told) = apart current psk_kind gpsk_kind refl is_current at_gpsk
  reported_by_gpsk view _ _ at_gpsk at_view
      (gpsk_current other accepted made is_current in_view told) =
      subst (λ (v : gpsk.View). GpskServerTags setup v accepted made)
      (one_view (gpsk_at views) view other at_view in_view) told

-- what the method of a tag tells
pub record PskCreated (setup : ServerSetup) (current : Option ℕ) (views : ServerViews)
    (accepted made : List TagRecord) : Type 0 where
  pub view : psk.View
  pub is_current : current ≡ Some psk_kind
  pub in_view : psk_at views ≡ Some view
  pub told : PskServerTags setup view accepted made

pub record GpskCreated (setup : ServerSetup) (current : Option ℕ) (views : ServerViews)
    (accepted made : List TagRecord) : Type 0 where
  pub view : gpsk.View
  pub is_current : current ≡ Some gpsk_kind
  pub in_view : gpsk_at views ≡ Some view
  pub told : GpskServerTags setup view accepted made

module _ (setup : ServerSetup) (current : Option ℕ) (views : ServerViews) where
  pub created_by_psk : (accepted made : List TagRecord) (t : TagRecord)
      → ServerTags setup current views accepted made → IsIn t made → t.method ≡ psk_kind
      → PskCreated setup current views accepted made
  created_by_psk _ _ t (none_current none) is same = elim is [ ]
  created_by_psk _ _ t (identity_current is_current) is same = elim is [ ]
  created_by_psk _ _ t (psk_current view accepted made is_current in_view told) is same =
      record { view = view; is_current = is_current; in_view = in_view; told = told }
  created_by_psk _ _ t (gpsk_current view accepted made is_current in_view told) is same =
      kinds_apart t.method same (gpsk_method setup view accepted made t told is)

  pub created_by_gpsk : (accepted made : List TagRecord) (t : TagRecord)
      → ServerTags setup current views accepted made → IsIn t made → t.method ≡ gpsk_kind
      → GpskCreated setup current views accepted made
  created_by_gpsk _ _ t (none_current none) is same = elim is [ ]
  created_by_gpsk _ _ t (identity_current is_current) is same = elim is [ ]
  created_by_gpsk _ _ t (psk_current view accepted made is_current in_view told) is same =
      kinds_apart t.method (psk_method setup view accepted made t told is) same
  created_by_gpsk _ _ t (gpsk_current view accepted made is_current in_view told) is same =
      record { view = view; is_current = is_current; in_view = in_view; told = told }

-- where no tag is accepted no nonce is held
pub untagged_none : (setup : ServerSetup) (current : Option ℕ) (views : ServerViews)
    (accepted made : List TagRecord)
    → ServerTags setup current views accepted made → accepted ≡ []
    → server_foreign current views ≡ None
untagged_none setup current views _ _ (none_current none) e =
    ap (λ (o : Option ℕ). server_foreign o views) none
untagged_none setup current views _ _ (identity_current is_current) e =
    ap (λ (o : Option ℕ). server_foreign o views) is_current
untagged_none setup current views _ _ (psk_current view accepted made is_current in_view told) e =
    ap (λ (o : Option ℕ). server_foreign o views) is_current
    ∙ (ap psk_rand_p_in in_view ∙ psk_none setup view accepted made told e)
untagged_none setup current views _ _ (gpsk_current view accepted made is_current in_view told) e =
    ap (λ (o : Option ℕ). server_foreign o views) is_current
    ∙ (ap gpsk_rand_p_in in_view ∙ gpsk_none setup view accepted made told e)

pub tags_few : (setup : ServerSetup) (current : Option ℕ) (views : ServerViews)
    (accepted made : List TagRecord)
    → ServerTags setup current views accepted made → AreFew accepted made
tags_few setup current views _ _ (none_current none) =
    record { few_accepted = omega arith; few_produced = omega arith }
tags_few setup current views _ _ (identity_current is_current) =
    record { few_accepted = omega arith; few_produced = omega arith }
tags_few setup current views _ _ (psk_current view accepted made is_current in_view told) =
    psk_few setup view accepted made told
tags_few setup current views _ _ (gpsk_current view accepted made is_current in_view told) =
    gpsk_few setup view accepted made told

-- ---- the offer of a Type

-- it is that of its method, if there is an object of it
pub data OfferOf (own : ServerSide) (nonce : List ℕ) (kind id : ℕ) (views : ServerViews) : Offer
    → Type 0 where
  by_psk : (same : kind ≡ psk_kind)
      → OfferOf own nonce kind id views (record {
        packet = Some (psk.first own nonce id);
        after = put psk_kind (shown.psk (psk.asked own nonce)) views;
      })
  by_gpsk : (same : kind ≡ gpsk_kind)
      → OfferOf own nonce kind id views (record {
        packet = Some (gpsk.first own nonce id);
        after = put gpsk_kind (shown.gpsk (gpsk.asked own nonce)) views;
      })
  by_none : OfferOf own nonce kind id views (record { packet = None; after = views })

module _ (own : ServerSide) (nonce : List ℕ) (kind id : ℕ) (views : ServerViews) where
  offer_one : (s : ServerShown) → IsOne kind s → OfferOf own nonce kind id views (offering kind
      views (server_first_step (started_server own nonce s) id))
  unfolding server_first_step psk.first_step gpsk.first_step
  offer_one _ (is_psk same view) =
      subst (λ (k : ℕ). OfferOf own nonce kind id views (offering k views
      (server_first_step (started_server own nonce (shown.psk view)) id))) (sym same) (by_psk same)
  offer_one _ (is_gpsk same view) =
      subst (λ (k : ℕ). OfferOf own nonce kind id views (offering k views (server_first_step
      (started_server own nonce (shown.gpsk view)) id))) (sym same) (by_gpsk same)

  offer_found : (found : Option ServerShown) → views kind ≡ found
      → ((s : ServerShown) → views kind ≡ Some s → IsOne kind s)
      → OfferOf own nonce kind id views (offered own nonce kind id views found)
  offer_found None is both = by_none
  offer_found (Some s) is both = offer_one s (both s is)

  pub offer_of : {methods : List ℕ} → ServerHasBoth methods views
      → OfferOf own nonce kind id views (server_offer own nonce kind id views)
  unfolding server_offer
  offer_of both = offer_found (views kind) refl (is_one both kind)

  -- it is a Request with its Identifier
  pub offer_asks : (offer : Offer) → OfferOf own nonce kind id views offer → (packet : List ℕ)
      → offer.packet ≡ Some packet → IsRequest id packet
  offer_asks _ (by_psk same) packet e = let is : psk.first own nonce id ≡ packet = cc in
      subst (IsRequest id) is (psk_first own nonce id)
  offer_asks _ (by_gpsk same) packet e = let is : gpsk.first own nonce id ≡ packet = cc in
      subst (IsRequest id) is (gpsk_first own nonce id)
  offer_asks _ by_none packet e = cc e

  -- it is of no Identity
  pub offers_no_identity : (offer : Offer) → OfferOf own nonce kind id views offer
      → (packet : List ℕ) → offer.packet ≡ Some packet → kind ≡ identity_kind → ⊥
  offers_no_identity _ (by_psk same) packet e is = omega (arith, same, is)
  offers_no_identity _ (by_gpsk same) packet e is = omega (arith, same, is)
  offers_no_identity _ by_none packet e is = cc e
