-- The peer by the method of a Type: what holds of the turns, the nonce and the tags of each method
-- holds of a Type's.
use Rattle.std.proofs.Common.{◌≡◌, ℕ, List, Bool, true, false, ◌||◌, Option, Some, None, refl}
use Rattle.std.proofs.Common.{sym, ap, subst, ◌∙◌, arith}
use Rattle.std.specs.Prelude.{◌==◌}
use Rattle.login_setup.specs.declared.setup.PeerSetup.{PeerSetup}
use Rattle.octet_lists.specs.Among.{psk_kind, gpsk_kind, is_kind}
use Rattle.eap_packet.specs.declared.cause.Cause.{Cause}
use Rattle.eap_method.specs.declared.tags.TagRecord.{TagRecord}
use Rattle.eap_method.specs.GpskPeer as gpsk
use Rattle.eap_method.specs.PskPeer as psk
use Rattle.eap_method.specs.Peer.{PeerShown, PeerViews, views_started, peer_started_in, put}
use Rattle.eap_method.specs.Peer.{putting, turned, peer_step, peer_turn}
use Rattle.eap_method.specs.Peer as shown
use Rattle.eap_method.specs.Turns.{PeerOutcome, body_of, discarded, id_of}
use Rattle.method_laws.specs.GpskPeerRows.{GpskPeerRow}
use Rattle.method_laws.specs.PskPeerRows.{PskPeerRow}
use Rattle.method_laws.proofs.GpskPeerCases.{gpsk_peer_steps_are_rows}
use Rattle.method_laws.proofs.PskPeerCases.{psk_peer_steps_are_rows}
use Rattle.method_laws.specs.ByMethod.{PeerTags, by_kind}
use Rattle.method_laws.specs.ByMethod.{gpsk_selected, none_selected, peer_foreign_of}
use Rattle.method_laws.specs.ByMethod.{psk_selected}
use Rattle.method_laws.specs.Both.{PeerHasBoth}
use Rattle.method_laws.proofs.PeerObjects.{is_one}
use Rattle.method_laws.specs.GpskPeerInvariant.{GpskPeerTags}
use Rattle.method_laws.specs.PskPeerInvariant.{PskPeerTags}
use Rattle.method_laws.specs.Records.{AreFew, IsIn}
use Rattle.eap_method.specs.BothPeers.{IsOne, is_psk, is_gpsk, psk_in, gpsk_in, psk_shown}
use Rattle.eap_method.specs.BothPeers.{gpsk_shown}
use Rattle.method_laws.proofs.GpskPeerTurns.{gpsk_few, gpsk_from_sender, gpsk_method, gpsk_none}
use Rattle.method_laws.proofs.GpskPeerTurns.{gpsk_responds}
use Rattle.method_laws.proofs.Receiving.{Receives, as_before}
use Rattle.method_laws.proofs.PeerTurns.{Answers, discards_none}
use Rattle.method_laws.proofs.PskPeerTurns.{psk_few, psk_from_sender, psk_method, psk_none}
use Rattle.method_laws.proofs.PskPeerTurns.{psk_responds}

pub kinds_apart : {A : Type 0} (k : ℕ) → k ≡ psk_kind → k ≡ gpsk_kind → A
kinds_apart k at_psk at_gpsk = absurd (omega (arith, at_psk, at_gpsk))

-- ---- the turn of a Type

abbrev pub psk_turn : PeerViews → PeerOutcome psk.View → PeerOutcome PeerViews
psk_turn views out = record { turn = out.turn; after = put psk_kind (shown.psk out.after) views }

abbrev pub gpsk_turn : PeerViews → PeerOutcome gpsk.View → PeerOutcome PeerViews
gpsk_turn views out = record { turn = out.turn; after = put gpsk_kind (shown.gpsk out.after) views }

-- it is that of its method
pub data TurnOf (kind : ℕ) (views : PeerViews) (octets : List ℕ) : PeerOutcome PeerViews
    → Type 0 where
  of_psk : (same : kind ≡ psk_kind) (out : PeerOutcome psk.View)
      (row : PskPeerRow (psk_in views) octets out) → TurnOf kind views octets (psk_turn views out)
  of_gpsk : (same : kind ≡ gpsk_kind) (out : PeerOutcome gpsk.View) (row : GpskPeerRow
      (gpsk_in views) octets out) → TurnOf kind views octets (gpsk_turn views out)
  of_none : (c : Cause) → TurnOf kind views octets (discarded views c)

module _ (kind : ℕ) (views : PeerViews) (octets : List ℕ) where
  of_one : (s : PeerShown) → IsOne kind s → views kind ≡ Some s
      → TurnOf kind views octets (putting kind views (peer_step s octets))
  unfolding peer_step
  of_one _ (is_psk same view) is =
      let held : psk_in views ≡ view = ap psk_shown (ap views (sym same) ∙ is) in
      subst (λ (k : ℕ). TurnOf kind views octets
      (putting k views (peer_step (shown.psk view) octets))) (sym same)
      (of_psk same (psk.step view octets) (subst (λ (v : psk.View). PskPeerRow v octets
      (psk.step view octets)) (sym held) (psk_peer_steps_are_rows view octets)))
  of_one _ (is_gpsk same view) is =
      let held : gpsk_in views ≡ view = ap gpsk_shown (ap views (sym same) ∙ is) in
      subst (λ (k : ℕ). TurnOf kind views octets
      (putting k views (peer_step (shown.gpsk view) octets))) (sym same)
      (of_gpsk same (gpsk.step view octets) (subst (λ (v : gpsk.View). GpskPeerRow v octets
      (gpsk.step view octets)) (sym held) (gpsk_peer_steps_are_rows view octets)))

  of_found : (found : Option PeerShown) → views kind ≡ found → ((s : PeerShown) → views kind
      ≡ Some s → IsOne kind s) → TurnOf kind views octets (turned kind views octets found)
  of_found None is both = of_none _
  of_found (Some s) is both = of_one s (both s is) is

  pub turn_of : {methods : List ℕ} → PeerHasBoth methods views
      → TurnOf kind views octets (peer_turn kind views octets)
  unfolding peer_turn
  turn_of both = of_found (views kind) refl (is_one both kind)

-- each Response has the Identifier of the Request
pub turn_answers : (kind : ℕ) (views : PeerViews) (octets : List ℕ) (out : PeerOutcome PeerViews)
    → TurnOf kind views octets out
    → Answers (id_of octets) out.turn
turn_answers kind views octets _ (of_psk same out row) = psk_responds (psk_in views) octets out row
turn_answers kind views octets _ (of_gpsk same out row) =
    gpsk_responds (gpsk_in views) octets out row
turn_answers kind views octets _ (of_none c) = discards_none _ c

-- of the nonce it holds what it held, or what came
pub turn_received : (kind : ℕ) (views : PeerViews) (octets : List ℕ) (out : PeerOutcome PeerViews)
    → TurnOf kind views octets out
    → Receives (Some (body_of octets)) (peer_foreign_of views kind) (peer_foreign_of out.after kind)
turn_received kind views octets _ (of_psk same out row) =
    subst (λ (k : ℕ). Receives (Some (body_of octets)) (peer_foreign_of views k)
    (peer_foreign_of (psk_turn views out).after k)) (sym same)
    (psk_from_sender octets (psk_in views) out row)
turn_received kind views octets _ (of_gpsk same out row) =
    subst (λ (k : ℕ). Receives (Some (body_of octets)) (peer_foreign_of views k)
    (peer_foreign_of (gpsk_turn views out).after k)) (sym same)
    (gpsk_from_sender octets (gpsk_in views) out row)
turn_received kind views octets _ (of_none c) = as_before refl

-- ---- the nonce of a Type

-- a nonce is held by a method
pub method_satisfies : (kind : ℕ) (psk gpsk : Option (List ℕ)) (x : List ℕ)
    → by_kind (kind == psk_kind) (kind == gpsk_kind) psk gpsk ≡ Some x → is_kind kind ≡ true
method_satisfies kind psk gpsk x = by (kind == psk_kind) (kind == gpsk_kind)
  where
    by : (a b : Bool) → by_kind a b psk gpsk ≡ Some x → (a || b) ≡ true
    by true b e = refl
    by false true e = refl
    by false false e = cc e

none_by : (a b : Bool) (psk gpsk : Option (List ℕ)) → psk ≡ None → gpsk ≡ None
    → by_kind a b psk gpsk ≡ None
none_by true b psk gpsk p g = p
none_by false true psk gpsk p g = g
none_by false false psk gpsk p g = refl

pub unselected_none : (setup : PeerSetup) (selected : Option ℕ) (views : PeerViews)
    (accepted made : List TagRecord) (kind : ℕ)
    → PeerTags setup selected views accepted made → selected ≡ None
    → peer_foreign_of views kind ≡ None
unselected_none setup selected views _ _ kind
    (none_selected unselected psk_verdict gpsk_verdict) e =
    none_by (kind == psk_kind) (kind == gpsk_kind) _ _ (psk_none setup
    (psk_in views) _ _ psk_verdict refl) (gpsk_none setup (gpsk_in views) _ _ gpsk_verdict refl)
unselected_none setup selected views _ _ kind (psk_selected accepted made is_selected told)
    e = absurd cc
unselected_none setup selected views _ _ kind (gpsk_selected accepted made is_selected told)
    e = absurd cc

-- ---- the tags

-- what the method that isn't excluded tells
pub reported_by_psk : (setup : PeerSetup) (selected : Option ℕ) (views : PeerViews)
    (accepted made : List TagRecord) → (selected ≡ Some gpsk_kind → ⊥)
    → PeerTags setup selected views accepted made → PskPeerTags setup (psk_in views) accepted made
reported_by_psk setup selected views _ _ alone (none_selected unselected psk_verdict gpsk_verdict) =
    psk_verdict
reported_by_psk setup selected views _ _ alone (psk_selected accepted made is_selected told) = told
reported_by_psk setup selected views _ _ alone (gpsk_selected accepted made is_selected told) =
    absurd (alone is_selected)

pub reported_by_gpsk : (setup : PeerSetup) (selected : Option ℕ) (views : PeerViews)
    (accepted made : List TagRecord) → (selected ≡ Some psk_kind → ⊥)
    → PeerTags setup selected views accepted made → GpskPeerTags setup (gpsk_in views) accepted made
reported_by_gpsk setup selected views _ _ alone
    (none_selected unselected psk_verdict gpsk_verdict) = gpsk_verdict
reported_by_gpsk setup selected views _ _ alone (psk_selected accepted made is_selected told) =
    absurd (alone is_selected)
reported_by_gpsk setup selected views _ _ alone (gpsk_selected accepted made is_selected told) =
    told

-- what the method of a tag tells
pub created_by_psk : (setup : PeerSetup) (selected : Option ℕ) (views : PeerViews)
    (accepted made : List TagRecord) (t : TagRecord)
    → PeerTags setup selected views accepted made → IsIn t made → t.method ≡ psk_kind
    → (selected ≡ Some psk_kind) × PskPeerTags setup (psk_in views) accepted made
created_by_psk setup selected views _ _ t (none_selected unselected psk_verdict gpsk_verdict)
    is same = elim is [ ]
created_by_psk setup selected views _ _ t (psk_selected accepted made is_selected told) is same =
    (is_selected, told)
created_by_psk setup selected views _ _ t (gpsk_selected accepted made is_selected told) is same =
    kinds_apart t.method same (gpsk_method setup (gpsk_in views) accepted made t told is)

pub created_by_gpsk : (setup : PeerSetup) (selected : Option ℕ) (views : PeerViews)
    (accepted made : List TagRecord) (t : TagRecord)
    → PeerTags setup selected views accepted made → IsIn t made → t.method ≡ gpsk_kind
    → (selected ≡ Some gpsk_kind) × GpskPeerTags setup (gpsk_in views) accepted made
created_by_gpsk setup selected views _ _ t (none_selected unselected psk_verdict gpsk_verdict)
    is same = elim is [ ]
created_by_gpsk setup selected views _ _ t (psk_selected accepted made is_selected told) is same =
    kinds_apart t.method (psk_method setup (psk_in views) accepted made t told is) same
created_by_gpsk setup selected views _ _ t (gpsk_selected accepted made is_selected told) is same =
    (is_selected, told)

pub tags_few : (setup : PeerSetup) (selected : Option ℕ) (views : PeerViews)
    (accepted made : List TagRecord)
    → PeerTags setup selected views accepted made → AreFew accepted made
tags_few setup selected views _ _ (none_selected unselected psk_verdict gpsk_verdict) =
    record { few_accepted = omega arith; few_produced = omega arith }
tags_few setup selected views _ _ (psk_selected accepted made is_selected told) =
    psk_few setup _ accepted made told
tags_few setup selected views _ _ (gpsk_selected accepted made is_selected told) =
    gpsk_few setup _ accepted made told
