-- The first object of a method in a server's list of objects decides what the views of the list do.
use Rattle.std.proofs.Common.{◌≡◌, ◌≢◌, ℕ, List, [], ◌∷◌, true, false, Option, Some, None, inl, inr}
use Rattle.std.proofs.Common.{map, refl, sym, ◌∙◌, ap, ap₂, eq-eqb}
use Rattle.std.proofs.Math.Path.{fun_ext}
use Rattle.std.specs.Prelude.{◌==◌, ◌&&◌, find, is_some, option_map, if◌then◌else◌}
use Rattle.std.proofs.lemmas.Bool.{cases_Bool, cond-true, cond-false, eqb-true, ne_eqb, false≢true}
use Rattle.login_setup.specs.Setup.{ServerSetup}
use Rattle.login_setup.specs.declared.users.User.{User}
use Rattle.octet_lists.specs.Among.{is_among}
use Rattle.eap_packet.specs.declared.cause.Cause.{Cause}
use Rattle.eap_packet.specs.declared.cause.Cause.TheVariants.{WrongOp}
use Rattle.eap_method.specs.declared.values.Report.{Report}
use Rattle.eap_method.specs.declared.values.ServerSide.{ServerSide}
use Rattle.eap_method.specs.ServerTurn as answer
use Rattle.eap_method.specs.ServerTurn.{ServerTurn}
use Rattle.eap_method.specs.Server.{kind_of, method_of, ServerShown, ServerViews, Offer}
use Rattle.eap_method.specs.Server.{server_kind, server_methods, started_server, server_started_in}
use Rattle.eap_method.specs.Server.{server_first_step, server_offer, server_step, server_turn}
use Rattle.eap_method.specs.Server.{server_report, server_report_of, server_views, view_of, put}
use Rattle.eap_method.specs.Server.{offering, offered, putting, turned, reported, first_of}
use Rattle.eap_method.specs.Server.{server_kinds}
use Rattle.eap_method.specs.Turns.{FirstOutcome, ServerOutcome, dropped}
use Rattle.eap_method.proofs.Discards.{ServerPreserves, drop_keeps}
use Rattle.eap_method.proofs.Lists.{find_mapped}
use Rattle.eap_method.proofs.ServerViews.{step_method, step_keeps, started_method, first_method}
use Rattle.eap_method.proofs.ServerViews.{view_none}

-- beginning, a first Request and a step keep the method, and so the Type
pub started_methods : (setup : ServerSetup) (shown : List ServerShown)
    → server_methods (map (server_started_in setup) shown) ≡ server_methods shown
started_methods setup [] = refl
started_methods setup (s ∷ rest) =
    ap₂ (λ method methods. method ∷ methods) (started_method setup s) (started_methods setup rest)

pub requests_method : (s after : ServerShown) (id : ℕ) (packet : List ℕ) → server_first_step s id
    ≡ record { packet = packet; after = after } → method_of after ≡ method_of s
requests_method s after id packet makes =
    ap (λ (out : FirstOutcome ServerShown). method_of out.after) (sym makes) ∙ first_method s id

pub steps_method : (users : List User) (next_id : ℕ) (s after : ServerShown) (octets : List ℕ)
    (turn : ServerTurn)
    → server_step users next_id s octets ≡ record { turn = turn; after = after }
    → method_of after ≡ method_of s
steps_method users next_id s after octets turn step =
    ap (λ (out : ServerOutcome ServerShown). method_of out.after) (sym step)
    ∙ step_method users next_id s octets

pub step_kind : (users : List User) (next_id : ℕ) (s after : ServerShown) (octets : List ℕ)
    (turn : ServerTurn)
    → server_step users next_id s octets ≡ record { turn = turn; after = after }
    → server_kind after ≡ server_kind s
step_kind users next_id s after octets turn step =
    ap kind_of (steps_method users next_id s after octets turn step)

offer_kind : (own : ServerSide) (nonce : List ℕ) (id : ℕ) (s begun after : ServerShown)
    (packet : List ℕ)
    → begun ≡ started_server own nonce s → server_first_step begun id
    ≡ record { packet = packet; after = after } → server_kind after ≡ server_kind s
offer_kind own nonce id s begun after packet begins makes =
    ap kind_of (requests_method begun after id packet makes ∙ ap method_of begins)

miss : (order : List ℕ) (kind : ℕ) (s : ServerShown) (rest : List ServerShown)
    → server_kind s ≢ kind
    → server_views order (s ∷ rest) kind ≡ server_views order rest kind
unfolding server_views
miss order kind s rest is_other = rw (ne_eqb (server_kind s) kind is_other) refl

-- ---- the first object is of the method

pub view_hit : (order : List ℕ) (kind : ℕ) (s : ServerShown) (rest : List ServerShown)
    → server_kind s ≡ kind → is_among order kind ≡ true
    → view_of (server_views order (s ∷ rest)) kind ≡ Some s
unfolding server_views
view_hit order kind s rest is_kind is_proposed =
    cond-true _ _ _ is_proposed ∙ cond-true _ _ _ (eq-eqb (server_kind s) kind is_kind)

put_first : (order : List ℕ) (kind : ℕ) (s after : ServerShown) (rest : List ServerShown)
    → server_kind s ≡ kind → server_kind after ≡ kind → is_among order kind ≡ true
    → put kind after (server_views order (s ∷ rest)) ≡ server_views order (after ∷ rest)
put_first order kind s after rest is_kind still is_proposed =
    fun_ext (λ other. elim (cases_Bool (other == kind)) [
      | inl is ↦ cond-true _ _ _ is
          ∙ sym (view_hit order other after rest (still ∙ sym (eqb-true other kind is))
          (ap (is_among order) (eqb-true other kind is) ∙ is_proposed))
      | inr is ↦ let apart : kind ≢ other =
          λ same. false≢true (sym is ∙ eq-eqb other kind (sym same)) in
          cond-false _ _ _ is ∙ (miss order other s rest (λ same. apart (sym is_kind ∙ same))
          ∙ sym (miss order other after rest (λ same. apart (sym still ∙ same))))
    ])

-- its first Request is the offer
abbrev offers : Option (List ℕ) → ServerViews → Offer
offers packet after = record { packet = packet; after = after }

pub offer_hit : (own : ServerSide) (nonce : List ℕ) (id : ℕ) (order : List ℕ) (kind : ℕ)
    (s begun after : ServerShown) (rest : List ServerShown) (packet : List ℕ)
    → begun ≡ started_server own nonce s
    → server_first_step begun id ≡ record { packet = packet; after = after }
    → server_kind s ≡ kind → is_among order kind ≡ true
    → server_offer own nonce kind id (server_views order (s ∷ rest))
    ≡ record { packet = Some packet; after = server_views order (after ∷ rest) }
unfolding server_offer
offer_hit own nonce id order kind s begun after rest packet begins makes is_kind is_proposed =
    let views : ServerViews = server_views order (s ∷ rest) in
    ap (offered own nonce kind id views) (view_hit order kind s rest is_kind is_proposed)
    ∙ (ap (offering kind views) (rw begins at makes)
    ∙ ap (offers (Some packet)) (put_first order kind s after rest is_kind
    (offer_kind own nonce id s begun after packet begins makes ∙ is_kind) is_proposed))

-- its step is the turn
abbrev turning : ServerTurn → ServerViews → ServerOutcome ServerViews
turning turn after = record { turn = turn; after = after }

pub turn_hit : (users : List User) (next_id : ℕ) (order octets : List ℕ) (kind : ℕ)
    (s after : ServerShown) (rest : List ServerShown) (turn : ServerTurn)
    → server_step users next_id s octets ≡ record { turn = turn; after = after }
    → server_kind s ≡ kind → is_among order kind ≡ true
    → server_turn users next_id kind (server_views order (s ∷ rest)) octets
    ≡ record { turn = turn; after = server_views order (after ∷ rest) }
unfolding server_turn
turn_hit users next_id order octets kind s after rest turn step is_kind is_proposed =
    let views = server_views order (s ∷ rest) in
    ap (turned users next_id kind views octets) (view_hit order kind s rest is_kind is_proposed)
    ∙ (ap (putting kind views) step
    ∙ ap (turning turn) (put_first order kind s after rest is_kind
    (step_kind users next_id s after octets turn step ∙ is_kind) is_proposed))

-- its report is the one
pub report_hit : (order : List ℕ) (kind : ℕ) (s : ServerShown) (rest : List ServerShown)
    → server_kind s ≡ kind → is_among order kind ≡ true
    → server_report s ≡ server_report_of kind (server_views order (s ∷ rest))
unfolding server_report_of
report_hit order kind s rest is_kind is_proposed =
    ap reported (sym (view_hit order kind s rest is_kind is_proposed))

-- ---- it is of another Type

pub view_miss : (order : List ℕ) (kind : ℕ) (s : ServerShown) (rest : List ServerShown)
    → server_kind s ≢ kind
    → view_of (server_views order (s ∷ rest)) kind ≡ view_of (server_views order rest) kind
view_miss order kind s rest is_other = miss order kind s rest is_other

abbrev above : List ℕ → ServerShown → ServerViews → ServerViews
above order s views =
    λ kind. if is_among order kind && server_kind s == kind then Some s else views kind

views_first : (order : List ℕ) (s : ServerShown) (rest : List ServerShown)
    → server_views order (s ∷ rest) ≡ above order s (server_views order rest)
unfolding server_views
views_first order s rest =
    fun_ext (λ kind.
    elim (cases_Bool (is_among order kind)) [ inl is ↦ rw is refl | inr is ↦ rw is refl ])

put_below : (order : List ℕ) (kind : ℕ) (s after : ServerShown) (views : ServerViews)
    → server_kind s ≢ kind
    → put kind after (above order s views) ≡ above order s (put kind after views)
put_below order kind s after views is_other =
    fun_ext (λ other. elim (cases_Bool (other == kind)) [
      | inl is ↦ let here : (server_kind s == other) ≡ false =
          ne_eqb (server_kind s) other (λ same. is_other (same ∙ eqb-true other kind is)) in
          elim (cases_Bool (is_among order other)) [
            | inl named ↦ rw (is, named, here) refl
            | inr named ↦ rw (is, named) refl
          ]
      | inr is ↦ rw is refl
    ])

offered_below : (own : ServerSide) (nonce : List ℕ) (id : ℕ) (order : List ℕ) (kind : ℕ)
    (s : ServerShown) (views : ServerViews) (found : Option ServerShown)
    → server_kind s ≢ kind
    → offered own nonce kind id (above order s views) found ≡ (let out = offered own nonce kind id
    views found in offers out.packet (above order s out.after))
offered_below own nonce id order kind s views None is_other = refl
offered_below own nonce id order kind s views (Some t) is_other =
    let out = server_first_step (started_server own nonce t) id in
    ap (offers (Some out.packet)) (put_below order kind s out.after views is_other)

pub offer_miss : (own : ServerSide) (nonce : List ℕ) (id : ℕ) (order : List ℕ) (kind : ℕ)
    (s : ServerShown) (rest after : List ServerShown) (packet : Option (List ℕ))
    → server_kind s ≢ kind
    → server_offer own nonce kind id (server_views order rest)
    ≡ record { packet = packet; after = server_views order after }
    → server_offer own nonce kind id (server_views order (s ∷ rest))
    ≡ record { packet = packet; after = server_views order (s ∷ after) }
unfolding server_offer
offer_miss own nonce id order kind s rest after packet is_other rests =
    ap (offered own nonce kind id (server_views order (s ∷ rest)))
    (view_miss order kind s rest is_other)
    ∙ (ap (λ views. offered own nonce kind id views (server_views order rest kind))
    (views_first order s rest)
    ∙ (offered_below own nonce id order kind s (server_views order rest)
    (server_views order rest kind) is_other
    ∙ (ap (λ (out : Offer). offers out.packet (above order s out.after)) rests
    ∙ ap (offers packet) (sym (views_first order s after)))))

turned_below : (users : List User) (next_id : ℕ) (order : List ℕ) (kind : ℕ) (s : ServerShown)
    (views : ServerViews) (octets : List ℕ) (found : Option ServerShown)
    → server_kind s ≢ kind
    → turned users next_id kind (above order s views) octets found
    ≡ (let out = turned users next_id kind views octets found in
    turning out.turn (above order s out.after))
turned_below users next_id order kind s views octets None is_other = refl
turned_below users next_id order kind s views octets (Some t) is_other =
    let out = server_step users next_id t octets in
    ap (turning out.turn) (put_below order kind s out.after views is_other)

pub turn_miss : (users : List User) (next_id : ℕ) (order octets : List ℕ) (kind : ℕ)
    (s : ServerShown) (rest after : List ServerShown) (turn : ServerTurn)
    → server_kind s ≢ kind
    → server_turn users next_id kind (server_views order rest) octets
    ≡ record { turn = turn; after = server_views order after }
    → server_turn users next_id kind (server_views order (s ∷ rest)) octets
    ≡ record { turn = turn; after = server_views order (s ∷ after) }
unfolding server_turn
turn_miss users next_id order octets kind s rest after turn is_other rests =
    ap (turned users next_id kind (server_views order (s ∷ rest)) octets)
    (view_miss order kind s rest is_other)
    ∙ (ap (λ views. turned users next_id kind views octets (server_views order rest kind))
    (views_first order s rest)
    ∙ (turned_below users next_id order kind s (server_views order rest) octets
    (server_views order rest kind) is_other
    ∙ (ap (λ (out : ServerOutcome ServerViews). turning out.turn (above order s out.after)) rests
    ∙ ap (turning turn) (sym (views_first order s after)))))

pub report_miss : (order : List ℕ) (kind : ℕ) (s : ServerShown) (rest : List ServerShown)
    (report : Option Report) → server_kind s ≢ kind
    → report ≡ server_report_of kind (server_views order rest)
    → report ≡ server_report_of kind (server_views order (s ∷ rest))
unfolding server_report_of
report_miss order kind s rest report is_other rests =
    rests ∙ ap reported (sym (view_miss order kind s rest is_other))

-- ---- there is no object

pub offer_none : (own : ServerSide) (nonce : List ℕ) (id : ℕ) (order : List ℕ) (kind : ℕ)
    → server_offer own nonce kind id (server_views order []) ≡ offers None (server_views order [])
unfolding server_offer
offer_none own nonce id order kind =
    ap (offered own nonce kind id (server_views order [])) (view_none order kind)

pub turn_none : (users : List User) (next_id : ℕ) (order octets : List ℕ) (kind : ℕ)
    → server_turn users next_id kind (server_views order []) octets
    ≡ dropped (server_views order []) WrongOp
unfolding server_turn
turn_none users next_id order octets kind =
    ap (turned users next_id kind (server_views order []) octets) (view_none order kind)

pub report_none : (order : List ℕ) (kind : ℕ) → None ≡ server_report_of kind (server_views order [])
unfolding server_report_of
report_none order kind = ap reported (sym (view_none order kind))

-- ---- there is an object of a Type where one is found
pub is_found : (kind : ℕ) (shown : List ServerShown)
    → is_some (first_of kind shown) ≡ is_among (server_kinds shown) kind
is_found kind [] = refl
is_found kind (s ∷ rest) = elim (cases_Bool (server_kind s == kind)) [
  | inl is ↦ rw is refl
  | inr is ↦ rw is (is_found kind rest)
]

-- ---- the first object of the method, if there is one, has its report

pub report_found : {M : Type 0} (shown : M → ServerShown) (order : List ℕ) (kind : ℕ)
    (objects : List M) (found : Option M)
    → found ≡ find (λ m. server_kind (shown m) == kind) objects → is_among order kind ≡ true
    → reported (option_map shown found)
    ≡ server_report_of kind (server_views order (map shown objects))
unfolding server_report_of server_views
report_found shown order kind objects found is is_proposed =
    rw (is, is_proposed, find_mapped shown (λ s. server_kind s == kind) objects) refl

-- ---- a discard keeps the views

put_same : (kind : ℕ) (s : ServerShown) (views : ServerViews) → views kind ≡ Some s
    → put kind s views ≡ views
put_same kind s views found =
    fun_ext (λ other. elim (cases_Bool (other == kind)) [
      | inl is ↦ cond-true _ _ _ is ∙ sym (ap views (eqb-true other kind is) ∙ found)
      | inr is ↦ cond-false _ _ _ is
    ])

turned_keeps : (users : List User) (next_id kind : ℕ) (views : ServerViews) (octets : List ℕ)
    (found : Option ServerShown) → views kind ≡ found
    → ServerPreserves views (turned users next_id kind views octets found)
turned_keeps users next_id kind views octets None is = drop_keeps _ _
turned_keeps users next_id kind views octets (Some s) is =
    record {
      keeps = λ cause is_discard.
          ap (λ t. put kind t views) ((step_keeps users next_id s octets).keeps cause is_discard)
          ∙ put_same kind s views is;
    }

turn_preserves : (users : List User) (next_id kind : ℕ) (views : ServerViews) (octets : List ℕ)
    → ServerPreserves views (server_turn users next_id kind views octets)
unfolding server_turn
turn_preserves users next_id kind views octets =
    turned_keeps users next_id kind views octets (views kind) refl

pub server_turn_preserves : (users : List User) (next_id kind : ℕ) (views after : ServerViews)
    (octets : List ℕ) (cause : Cause)
    → server_turn users next_id kind views octets
    ≡ record { turn = answer.Discard cause; after = after } → after ≡ views
server_turn_preserves users next_id kind views after octets cause is_discard =
    sym (ap (λ (out : ServerOutcome ServerViews). out.after) is_discard)
    ∙ (turn_preserves users next_id kind views octets).keeps cause
    (ap (λ (out : ServerOutcome ServerViews). out.turn) is_discard)
