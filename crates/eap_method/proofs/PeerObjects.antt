-- The first object of a method in a peer's list of objects decides what the views of the list do.
use Rattle.std.proofs.Common.{◌≡◌, ◌≢◌, ℕ, List, [], ◌∷◌, true, false, Option, Some, None, inl, inr}
use Rattle.std.proofs.Common.{map, refl, sym, ◌∙◌, ap, ap₂, eq-eqb}
use Rattle.std.specs.Prelude.{◌==◌, ◌&&◌, find, is_some, option_map, if◌then◌else◌}
use Rattle.std.proofs.lemmas.Bool.{cases_Bool, cond-true, cond-false, eqb-true, ne_eqb, false≢true}
use Rattle.std.proofs.Math.Path.{fun_ext}
use Rattle.login_setup.specs.declared.setup.PeerSetup.{PeerSetup}
use Rattle.octet_lists.specs.Among.{is_among}
use Rattle.eap_packet.specs.declared.cause.Cause.{Cause}
use Rattle.eap_method.specs.declared.values.Report.{Report}
use Rattle.eap_method.specs.PeerTurn as answer
use Rattle.eap_method.specs.PeerTurn.{PeerTurn}
use Rattle.eap_method.specs.Peer.{kind_of, method_of, peer_methods, PeerShown, PeerViews, peer_kind}
use Rattle.eap_method.specs.Peer.{peer_kinds, peer_step, peer_turn, peer_report, peer_report_of}
use Rattle.eap_method.specs.Peer.{peer_views, view_of, peer_started_in, put, putting, turned}
use Rattle.eap_method.specs.Peer.{reported, first_of}
use Rattle.eap_method.specs.Turns.{PeerOutcome}
use Rattle.eap_method.proofs.Discards.{PeerPreserves, discard_keeps}
use Rattle.eap_method.proofs.PeerViews.{step_method, step_keeps, started_method}
use Rattle.eap_method.proofs.Lists.{find_mapped}

-- a step keeps the method, and so the Type
pub steps_method : (s after : PeerShown) (octets : List ℕ) (turn : PeerTurn)
    → peer_step s octets ≡ record { turn = turn; after = after } → method_of after ≡ method_of s
steps_method s after octets turn step =
    ap (λ (out : PeerOutcome PeerShown). method_of out.after) (sym step) ∙ step_method s octets

pub step_kind : (s after : PeerShown) (octets : List ℕ) (turn : PeerTurn)
    → peer_step s octets ≡ record { turn = turn; after = after } → peer_kind after ≡ peer_kind s
step_kind s after octets turn step = ap kind_of (steps_method s after octets turn step)

miss : (allowed : List ℕ) (kind : ℕ) (s : PeerShown) (rest : List PeerShown) → peer_kind s ≢ kind
    → peer_views allowed (s ∷ rest) kind ≡ peer_views allowed rest kind
unfolding peer_views
miss allowed kind s rest is_other = rw (ne_eqb (peer_kind s) kind is_other) refl

-- ---- the first object is of the method

pub view_hit : (allowed : List ℕ) (kind : ℕ) (s : PeerShown) (rest : List PeerShown)
    → peer_kind s ≡ kind → is_among allowed kind ≡ true
    → view_of (peer_views allowed (s ∷ rest)) kind ≡ Some s
unfolding peer_views
view_hit allowed kind s rest is_kind is_allowed =
    cond-true _ _ _ is_allowed ∙ cond-true _ _ _ (eq-eqb (peer_kind s) kind is_kind)

-- its view after a step is put in its place
put_first : (allowed : List ℕ) (kind : ℕ) (s after : PeerShown) (rest : List PeerShown)
    → peer_kind s ≡ kind → peer_kind after ≡ kind → is_among allowed kind ≡ true
    → put kind after (peer_views allowed (s ∷ rest)) ≡ peer_views allowed (after ∷ rest)
put_first allowed kind s after rest is_kind still is_allowed =
    fun_ext (λ other. elim (cases_Bool (other == kind)) [
      | inl is ↦ cond-true _ _ _ is
          ∙ sym (view_hit allowed other after rest (still ∙ sym (eqb-true other kind is))
          (ap (is_among allowed) (eqb-true other kind is) ∙ is_allowed))
      | inr is ↦ let apart : kind ≢ other =
          λ same. false≢true (sym is ∙ eq-eqb other kind (sym same)) in
          cond-false _ _ _ is ∙ (miss allowed other s rest (λ same. apart (sym is_kind ∙ same))
          ∙ sym (miss allowed other after rest (λ same. apart (sym still ∙ same))))
    ])

-- its step is the turn
abbrev turning : PeerTurn → PeerViews → PeerOutcome PeerViews
turning turn after = record { turn = turn; after = after }

pub turn_hit : (allowed octets : List ℕ) (kind : ℕ) (s after : PeerShown) (rest : List PeerShown)
    (turn : PeerTurn)
    → peer_step s octets ≡ record { turn = turn; after = after } → peer_kind s ≡ kind
    → is_among allowed kind ≡ true
    → peer_turn kind (peer_views allowed (s ∷ rest)) octets
    ≡ record { turn = turn; after = peer_views allowed (after ∷ rest) }
unfolding peer_turn
turn_hit allowed octets kind s after rest turn step is_kind is_allowed =
    let views = peer_views allowed (s ∷ rest) in
    ap (turned kind views octets) (view_hit allowed kind s rest is_kind is_allowed)
    ∙ (ap (putting kind views) step
    ∙ ap (turning turn) (put_first allowed kind s after rest is_kind
    (step_kind s after octets turn step ∙ is_kind) is_allowed))

-- its report is the one
pub report_hit : (allowed : List ℕ) (kind : ℕ) (s : PeerShown) (rest : List PeerShown)
    → peer_kind s ≡ kind → is_among allowed kind ≡ true
    → peer_report s ≡ peer_report_of kind (peer_views allowed (s ∷ rest))
unfolding peer_report_of
report_hit allowed kind s rest is_kind is_allowed =
    ap reported (sym (view_hit allowed kind s rest is_kind is_allowed))

-- ---- it is of another Type

pub view_miss : (allowed : List ℕ) (kind : ℕ) (s : PeerShown) (rest : List PeerShown)
    → peer_kind s ≢ kind
    → view_of (peer_views allowed (s ∷ rest)) kind ≡ view_of (peer_views allowed rest) kind
view_miss allowed kind s rest is_other = miss allowed kind s rest is_other

-- the first object's view above those of the rest
abbrev above : List ℕ → PeerShown → PeerViews → PeerViews
above allowed s views =
    λ kind. if is_among allowed kind && peer_kind s == kind then Some s else views kind

views_first : (allowed : List ℕ) (s : PeerShown) (rest : List PeerShown)
    → peer_views allowed (s ∷ rest) ≡ above allowed s (peer_views allowed rest)
unfolding peer_views
views_first allowed s rest =
    fun_ext (λ kind.
    elim (cases_Bool (is_among allowed kind)) [ inl is ↦ rw is refl | inr is ↦ rw is refl ])

-- a turn of another Type leaves it there
put_below : (allowed : List ℕ) (kind : ℕ) (s after : PeerShown) (views : PeerViews)
    → peer_kind s ≢ kind
    → put kind after (above allowed s views) ≡ above allowed s (put kind after views)
put_below allowed kind s after views is_other =
    fun_ext (λ other. elim (cases_Bool (other == kind)) [
      | inl is ↦ let here : (peer_kind s == other) ≡ false =
          ne_eqb (peer_kind s) other (λ same. is_other (same ∙ eqb-true other kind is)) in
          elim (cases_Bool (is_among allowed other)) [
            | inl named ↦ rw (is, named, here) refl
            | inr named ↦ rw (is, named) refl
          ]
      | inr is ↦ rw is refl
    ])

turned_below : (allowed : List ℕ) (kind : ℕ) (s : PeerShown) (views : PeerViews) (octets : List ℕ)
    (found : Option PeerShown) → peer_kind s ≢ kind
    → turned kind (above allowed s views) octets found
    ≡ (let out = turned kind views octets found in turning out.turn (above allowed s out.after))
turned_below allowed kind s views octets None is_other = refl
turned_below allowed kind s views octets (Some t) is_other =
    let out =
    peer_step t octets in ap (turning out.turn) (put_below allowed kind s out.after views is_other)

pub turn_miss : (allowed octets : List ℕ) (kind : ℕ) (s : PeerShown) (rest after : List PeerShown)
    (turn : PeerTurn) → peer_kind s ≢ kind
    → peer_turn kind (peer_views allowed rest) octets
    ≡ record { turn = turn; after = peer_views allowed after }
    → peer_turn kind (peer_views allowed (s ∷ rest)) octets
    ≡ record { turn = turn; after = peer_views allowed (s ∷ after) }
unfolding peer_turn
turn_miss allowed octets kind s rest after turn is_other rests =
    ap (turned kind (peer_views allowed (s ∷ rest)) octets) (view_miss allowed kind s rest is_other)
    ∙ (ap (λ views. turned kind views octets (peer_views allowed rest kind))
    (views_first allowed s rest)
    ∙ (turned_below allowed kind s (peer_views allowed rest) octets
    (peer_views allowed rest kind) is_other
    ∙ (ap (λ (out : PeerOutcome PeerViews). turning out.turn (above allowed s out.after)) rests
    ∙ ap (turning turn) (sym (views_first allowed s after)))))

pub report_miss : (allowed : List ℕ) (kind : ℕ) (s : PeerShown) (rest : List PeerShown)
    (report : Option Report) → peer_kind s ≢ kind
    → report ≡ peer_report_of kind (peer_views allowed rest)
    → report ≡ peer_report_of kind (peer_views allowed (s ∷ rest))
unfolding peer_report_of
report_miss allowed kind s rest report is_other rests =
    rests ∙ ap reported (sym (view_miss allowed kind s rest is_other))

-- ---- there is an object of a Type where one is found
pub is_found : (kind : ℕ) (shown : List PeerShown)
    → is_some (first_of kind shown) ≡ is_among (peer_kinds shown) kind
is_found kind [] = refl
is_found kind (s ∷ rest) = elim (cases_Bool (peer_kind s == kind)) [
  | inl is ↦ rw is refl
  | inr is ↦ rw is (is_found kind rest)
]

-- ---- the first object of the method, if there is one, has its report

pub report_found : {M : Type 0} (shown : M → PeerShown) (allowed : List ℕ) (kind : ℕ)
    (objects : List M) (found : Option M)
    → found ≡ find (λ m. peer_kind (shown m) == kind) objects → is_among allowed kind ≡ true
    → reported (option_map shown found)
    ≡ peer_report_of kind (peer_views allowed (map shown objects))
unfolding peer_report_of peer_views
report_found shown allowed kind objects found is is_allowed =
    rw (is, is_allowed, find_mapped shown (λ s. peer_kind s == kind) objects) refl

-- ---- what is kept

-- a peer that begins keeps the methods
pub started_methods : (setup : PeerSetup) (shown : List PeerShown)
    → peer_methods (map (peer_started_in setup) shown) ≡ peer_methods shown
started_methods setup [] = refl
started_methods setup (s ∷ rest) =
    ap₂ (λ method methods. method ∷ methods) (started_method setup s) (started_methods setup rest)

-- a discard keeps the views
put_same : (kind : ℕ) (s : PeerShown) (views : PeerViews) → views kind ≡ Some s
    → put kind s views ≡ views
put_same kind s views found =
    fun_ext (λ other. elim (cases_Bool (other == kind)) [
      | inl is ↦ cond-true _ _ _ is ∙ sym (ap views (eqb-true other kind is) ∙ found)
      | inr is ↦ cond-false _ _ _ is
    ])

turned_keeps : (kind : ℕ) (views : PeerViews) (octets : List ℕ) (found : Option PeerShown)
    → views kind ≡ found → PeerPreserves views (turned kind views octets found)
turned_keeps kind views octets None is = discard_keeps _ _
turned_keeps kind views octets (Some s) is =
    record {
      keeps = λ cause is_discard. ap (λ t. put kind t views) ((step_keeps s octets).keeps cause
          is_discard) ∙ put_same kind s views is;
    }

turn_preserves : (kind : ℕ) (views : PeerViews) (octets : List ℕ)
    → PeerPreserves views (peer_turn kind views octets)
unfolding peer_turn
turn_preserves kind views octets = turned_keeps kind views octets (views kind) refl

pub peer_turn_preserves : (kind : ℕ) (views after : PeerViews) (octets : List ℕ) (cause : Cause)
    → peer_turn kind views octets ≡ record { turn = answer.Discard cause; after = after }
    → after ≡ views
peer_turn_preserves kind views after octets cause is_discard =
    sym (ap (λ (out : PeerOutcome PeerViews). out.after) is_discard)
    ∙ (turn_preserves kind views octets).keeps cause
    (ap (λ (out : PeerOutcome PeerViews). out.turn) is_discard)
