-- What the peer makes of each packet of a smooth login (RFC 4137 section 4).
use Rattle.std.proofs.Common.{◌≡◌, ℕ, ◌≤◌, List, [], ◌∷◌, ◌++◌, length, Bool, true, false, not}
use Rattle.std.proofs.Common.{Option, None, Some, refl, ap, ◌∙◌}
use Rattle.std.specs.Prelude.{◌==◌, ◌&&◌, if◌then◌else◌, Ok}
use Rattle.std.proofs.lemmas.Bool.{and_from, and_left, cond-true, cond-false, eq-eqb}
use Rattle.login_setup.specs.declared.setup.PeerSetup.{PeerSetup}
use Rattle.octet_lists.specs.Among.{is_among, expanded_kind, ietf}
use Rattle.eap_packet.specs.Packet.{PacketValue, request, response, success, spelled}
use Rattle.eap_packet.specs.Fault.{packet_of}
use Rattle.eap_packet.specs.Expanded.{has_plain_form, is_bad_expanded, expanded_form}
use Rattle.eap_packet.specs.declared.state.State.{State}
use Rattle.eap_packet.specs.declared.state.State.TheVariants as state
use Rattle.eap_method.specs.Tags.{Tags, no_tags}
use Rattle.eap_method.specs.declared.values.MethodState.{MethodState}
use Rattle.eap_method.specs.declared.values.MethodState.TheVariants as method
use Rattle.eap_method.specs.declared.values.Decision.{Decision}
use Rattle.eap_method.specs.declared.values.Decision.TheVariants as decision
use Rattle.eap_method.specs.Peer.{PeerViews, peer_turn}
use Rattle.eap_method.specs.PeerTurn.{Reply}
use Rattle.eap_method.specs.Plain.{plain_octets}
use Rattle.eap_method.specs.Steps.{sends, is_end}
use Rattle.eap_method.specs.Turns.{PeerOutcome}
use Rattle.peer_machine.specs.Expanded.{expanded_nak_response, stores_sent, expanded_answer}
use Rattle.peer_machine.specs.Expanded.{expressed_unless, peer_reads, peer_receives}
use Rattle.peer_machine.specs.PeerTable.{PeerNow, PeerAnswer, answer, is_last_id, peer_row}
use Rattle.peer_machine.specs.PeerTable.{method_answers, peer_deliver, peer_method}
use Rattle.peer_machine.specs.PeerTable.{identity_response}
use Rattle.peer_machine.specs.PeerTable.{nak_response, is_done, is_fail, peer_ends}
use Rattle.smooth_laws.proofs.Carried.{IsMethod, carried, asks_read, wrapped_plain}
use Rattle.smooth_laws.proofs.Carried.{wrapped_accepted}
use Rattle.smooth_laws.proofs.Naks.{nak_as}
use Rattle.world_laws.specs.Runs.{initial_peer}
use Rattle.world_laws.specs.Runs.{views_started}

-- a peer that has not ended and has answered a Request
abbrev pub peer_at : PeerSetup → Option ℕ → MethodState → Decision → ℕ → List ℕ
    → PeerViews → PeerNow
peer_at setup selected m d id last views = record {
  vars = record {
    setup = setup;
    state = state.Idle;
    selected = selected;
    method_state = m;
    decision = d;
    last_id = Some id;
    last_response = last;
  };
  views = views;
}

-- the same before its method is selected
abbrev pub peer_unbound : PeerSetup → ℕ → List ℕ → PeerNow
peer_unbound setup id last =
    peer_at setup None method.NotSet decision.Fail id last (views_started setup)

-- it answers, and has not ended
abbrev pub replies : List State → List ℕ → Tags → PeerNow → PeerAnswer
replies path octets tags after = answer (sends path octets tags) after

module _ (setup : PeerSetup) where
  -- the Identity Request
  pub receives_identity : (octets : List ℕ) (id : ℕ) → packet_of octets ≡ Ok (request id 1 [])
      → peer_deliver (initial_peer setup) octets
      ≡ replies (state.Received ∷ state.Identity ∷ state.SendResponse ∷ state.Idle ∷ [])
      (identity_response id setup.name) no_tags
      (peer_unbound setup id (identity_response id setup.name))
  unfolding peer_deliver
  receives_identity octets id read = ap (λ packet. peer_row (initial_peer setup) packet) read

  -- a Request of a method that it doesn't allow
  pub refuses : (octets : List ℕ) (id kind : ℕ) (body : List ℕ) (last : ℕ) (said : List ℕ)
      → packet_of octets ≡ Ok (request id kind body)
      → (last == id) ≡ false → (kind == 1) ≡ false → (kind == 2) ≡ false
      → is_among setup.methods kind ≡ false
      → peer_deliver (peer_unbound setup last said) octets
      ≡ replies (state.Received ∷ state.GetMethod ∷ state.SendResponse ∷ state.Idle ∷ [])
      (nak_response id setup.methods) no_tags
      (peer_unbound setup id (nak_response id setup.methods))
  unfolding peer_deliver
  refuses octets id kind body last said read new not_1 not_2 barred =
      ap (λ packet. peer_row (peer_unbound setup last said) packet) read
      ∙ cond-false (last == id) _ _ new
      ∙ cond-false (kind == 1) _ _ not_1
      ∙ cond-false (kind == 2) _ _ not_2
      ∙ cond-false (is_among setup.methods kind) _ _ barred

  -- a turn of its method that is a reply
  turned : (selects : Bool) (now : PeerNow) (kind id : ℕ) (octets : List ℕ) (views : PeerViews)
      (packet : List ℕ) (m : MethodState) (d : Decision) (tags : Tags)
      → peer_turn kind now.views octets ≡ record { turn = Reply packet m d tags; after = views }
      → (is_done m && is_fail d) ≡ false
      → peer_method selects now kind id octets
      ≡ method_answers selects now kind id views (Reply packet m d tags)
  unfolding peer_method
  turned selects now kind id octets views packet m d tags turn unended =
      ap (λ (out : PeerOutcome PeerViews). method_answers selects now kind id out.after out.turn)
      turn

  -- the first Request of a method that it allows
  pub begins : (octets : List ℕ) (id kind : ℕ) (body : List ℕ) (last : ℕ) (said packet : List ℕ)
      (m : MethodState) (d : Decision) (tags : Tags) (views : PeerViews)
      → packet_of octets ≡ Ok (request id kind body)
      → (last == id) ≡ false → (kind == 1) ≡ false → (kind == 2) ≡ false
      → is_among setup.methods kind ≡ true
      → peer_turn kind (views_started setup) (spelled (request id kind body))
      ≡ record { turn = Reply packet m d tags; after = views }
      → (is_done m && is_fail d) ≡ false
      → peer_deliver (peer_unbound setup last said) octets
      ≡ replies (state.Received ∷ state.GetMethod ∷ state.Method ∷ state.SendResponse ∷ state.Idle
      ∷ []) packet tags
      (peer_at setup (Some kind) m d id packet views)
  unfolding peer_deliver
  begins octets id kind body last said packet m d tags views read new not_1 not_2 allowed
      turn unended =
      ap (λ found. peer_row (peer_unbound setup last said) found) read
      ∙ cond-false (last == id) _ _ new
      ∙ cond-false (kind == 1) _ _ not_1
      ∙ cond-false (kind == 2) _ _ not_2
      ∙ cond-true (is_among setup.methods kind) _ _ allowed
      ∙ turned true (peer_unbound setup last said) kind id (spelled (request id kind body))
      views packet m d tags turn unended
      ∙ cond-false (is_done m && is_fail d) _ _ unended

  -- the next Request of its method
  pub goes_on : (octets : List ℕ) (id kind : ℕ) (body : List ℕ) (last : ℕ) (said : List ℕ)
      (before : MethodState) (d_before : Decision) (views_before : PeerViews)
      (packet : List ℕ) (m : MethodState) (d : Decision) (tags : Tags) (views : PeerViews)
      → packet_of octets ≡ Ok (request id kind body)
      → (last == id) ≡ false → (kind == 2) ≡ false → is_done before ≡ false
      → peer_turn kind views_before (spelled (request id kind body))
      ≡ record { turn = Reply packet m d tags; after = views }
      → (is_done m && is_fail d) ≡ false
      → peer_deliver (peer_at setup (Some kind) before d_before last said views_before) octets
      ≡ replies (state.Received ∷ state.Method ∷ state.SendResponse ∷ state.Idle ∷ []) packet tags
      (peer_at setup (Some kind) m d id packet views)
  unfolding peer_deliver
  goes_on octets id kind body last said before d_before views_before packet m d tags views read new
      not_2 not_done turn unended =
      let now : PeerNow = peer_at setup (Some kind) before d_before last said views_before in
      ap (λ found. peer_row now found) read
      ∙ cond-false (last == id) _ _ new
      ∙ cond-false (kind == 2) _ _ not_2
      ∙ cond-true (kind == kind) _ _ (eq-eqb kind kind refl)
      ∙ cond-false (is_done before) _ _ not_done
      ∙ turned false now kind id (spelled (request id kind body)) views packet m d tags turn unended
      ∙ cond-false (is_done m && is_fail d) _ _ unended

  -- the Success
  pub succeeds : (octets : List ℕ) (id kind : ℕ) (m : MethodState) (d : Decision) (said : List ℕ)
      (views : PeerViews)
      → packet_of octets ≡ Ok (success id) → is_fail d ≡ false
      → (let now = peer_at setup (Some kind) m d id said views in
      peer_deliver now octets ≡ peer_ends now (state.Received ∷ []) state.Success)
  unfolding peer_deliver
  succeeds octets id kind m d said views read sure =
      let now : PeerNow = peer_at setup (Some kind) m d id said views in
      ap (λ found. peer_row now found) read
      ∙ cond-true (id == id) _ _ (eq-eqb id id refl)
      ∙ cond-false (is_fail d) _ _ sure

-- ---- a peer that reads Expanded Types, where the server writes them

same : {A : Type 0} (b : Bool) (x y : A) → x ≡ y → (if b then x else y) ≡ y
same true x y e = e
same false x y e = refl

-- a Request of another Type than 254 is read by the table, whatever the settings say
receives_plain : (now : PeerNow) (octets : List ℕ) (id kind : ℕ) (body : List ℕ)
    → packet_of octets ≡ Ok (request id kind body) → (kind == expanded_kind) ≡ false
    → peer_receives now octets ≡ peer_deliver now octets
unfolding peer_receives
receives_plain now octets id kind body read plain =
    same (now.vars.setup.expanded && not (is_end now.vars.state)) _ _
    (ap (λ found. peer_reads now octets found) read
    ∙ cond-false (is_bad_expanded (request id kind body)) _ _
    (and_left (kind == expanded_kind) _ plain)
    ∙ cond-false (kind == expanded_kind) _ _ plain)

-- so is a Success
receives_success : (now : PeerNow) (octets : List ℕ) (id : ℕ) → packet_of octets ≡ Ok (success id)
    → peer_receives now octets ≡ peer_deliver now octets
unfolding peer_receives
receives_success now octets id read =
    same (now.vars.setup.expanded && not (is_end now.vars.state)) _ _
    (ap (λ found. peer_reads now octets found) read)

-- a wrapped Request: the row of the plain one, expressed
receives_wrapped : (now : PeerNow) (id kind : ℕ) (body : List ℕ) → now.vars.setup.expanded ≡ true
    → is_end now.vars.state ≡ false
    → is_last_id now.vars.last_id id ≡ false → IsMethod kind → length body ≤ 1488
    → peer_receives now (expanded_form (spelled (request id kind body)))
    ≡ (let out = peer_deliver now (spelled (request id kind body)) in
    expanded_answer out out.step.sent)
unfolding peer_receives
receives_wrapped now id kind body reads going new is fits =
    let octets : List ℕ = expanded_form (spelled (request id kind body)) in
    let packet : PacketValue = request id expanded_kind (ietf ++ kind ∷ body) in
    cond-true (now.vars.setup.expanded && not (is_end now.vars.state)) _ _
    (and_from _ _ reads (ap not going))
    ∙ ap (λ found. peer_reads now octets found) (asks_read true id kind body is fits)
    ∙ cond-false (is_bad_expanded packet) _ _ (wrapped_accepted true kind body is)
    ∙ ap (λ (last : Bool). expressed_unless last (peer_deliver now (plain_octets octets packet)))
    new
    ∙ ap (λ (plain : List ℕ). let out = peer_deliver now plain in expanded_answer out out.step.sent)
    (cond-true (has_plain_form packet) _ _ (wrapped_plain kind body is)
    ∙ ap spelled (cond-true (has_plain_form packet) _ _ (wrapped_plain kind body is)))

-- what is sent of a wrapped Request is wrapped, and kept so
wraps_reply : (path : List State) (id kind : ℕ) (body : List ℕ) (tags : Tags) (setup : PeerSetup)
    (selected : Option ℕ) (m : MethodState) (d : Decision)
    (views : PeerViews) → (kind == 3) ≡ false
    → (let packet = spelled (response id kind body) in
    let out = replies path packet tags (peer_at setup selected m d id packet views) in
    expanded_answer out out.step.sent ≡ replies path (expanded_form packet) tags (peer_at setup
    selected m d id (expanded_form packet) views))
unfolding spelled
wraps_reply path id kind body tags setup selected m d views not_nak =
    let packet : List ℕ = spelled (response id kind body) in
    ap (λ (octets : List ℕ).
    stores_sent (replies path packet tags (peer_at setup selected m d id packet views)) octets)
    (cond-false (kind == 3) (expanded_nak_response id setup.methods) (expanded_form packet) not_nak)

means_nak : (path : List State) (id : ℕ) (tags : Tags) (setup : PeerSetup) (selected : Option ℕ)
    (m : MethodState) (d : Decision) (views : PeerViews)
    → (let packet = nak_response id setup.methods in
    let out = replies path packet tags (peer_at setup selected m d id packet views) in
    let said = expanded_nak_response id setup.methods in
    expanded_answer out out.step.sent
    ≡ replies path said tags (peer_at setup selected m d id said views))
unfolding spelled
means_nak path id tags setup selected m d views = refl

module _ (setup : PeerSetup) where
  -- the Identity Request is plain
  pub receives_asked : (octets : List ℕ) (id : ℕ) → packet_of octets ≡ Ok (request id 1 [])
      → peer_receives (initial_peer setup) octets
      ≡ replies (state.Received ∷ state.Identity ∷ state.SendResponse ∷ state.Idle ∷ [])
      (identity_response id setup.name) no_tags
      (peer_unbound setup id (identity_response id setup.name))
  receives_asked octets id read = receives_plain (initial_peer setup) octets id 1 [] read refl
      ∙ receives_identity setup octets id read

  -- a Request of a method that it doesn't allow
  pub refuses_as : (form : Bool) → (form ≡ true → setup.expanded ≡ true)
      → (id kind : ℕ) (body : List ℕ) (last : ℕ) (said : List ℕ)
      → IsMethod kind → length body ≤ 1488 → (last == id) ≡ false
      → is_among setup.methods kind ≡ false
      → peer_receives (peer_unbound setup last said) (carried form (spelled (request id kind body)))
      ≡ replies (state.Received ∷ state.GetMethod ∷ state.SendResponse ∷ state.Idle ∷ [])
      (nak_as form id setup.methods) no_tags (peer_unbound setup id (nak_as form id setup.methods))
  refuses_as false reads id kind body last said is fits new barred =
      let read = asks_read false id kind body is fits in
      receives_plain (peer_unbound setup last said) _ id kind body read is.not_expanded
      ∙ refuses setup _ id kind body last said read new is.not_identity is.not_notification barred
  refuses_as true reads id kind body last said is fits new barred =
      let read = asks_read false id kind body is fits in
      receives_wrapped (peer_unbound setup last said) id kind body (reads refl) refl new is fits
      ∙ ap (λ (out : PeerAnswer). expanded_answer out out.step.sent)
      (refuses setup _ id kind body last said read new is.not_identity is.not_notification barred)
      ∙ means_nak (state.Received ∷ state.GetMethod ∷ state.SendResponse ∷ state.Idle ∷ [])
      id no_tags setup None method.NotSet decision.Fail (views_started setup)

  -- the first Request of a method that it allows
  pub starts_as : (form : Bool) → (form ≡ true → setup.expanded ≡ true)
      → (id kind : ℕ) (body : List ℕ) (last : ℕ) (said answers : List ℕ)
      (m : MethodState) (d : Decision) (tags : Tags) (views : PeerViews)
      → IsMethod kind → length body ≤ 1488 → (last == id) ≡ false
      → is_among setup.methods kind ≡ true
      → peer_turn kind (views_started setup) (spelled (request id kind body))
      ≡ record { turn = Reply (spelled (response id kind answers)) m d tags; after = views }
      → (is_done m && is_fail d) ≡ false
      → peer_receives (peer_unbound setup last said) (carried form (spelled (request id kind body)))
      ≡ replies (state.Received ∷ state.GetMethod ∷ state.Method ∷ state.SendResponse ∷ state.Idle
      ∷ []) (carried form (spelled (response id kind answers))) tags
      (peer_at setup (Some kind) m d id (carried form (spelled (response id kind answers))) views)
  starts_as false reads id kind body last said answers m d tags views is fits new allowed
      turn unended =
      let read = asks_read false id kind body is fits in
      receives_plain (peer_unbound setup last said) _ id kind body read is.not_expanded
      ∙ begins setup _ id kind body last said _ m d tags views read new is.not_identity
      is.not_notification allowed turn unended
  starts_as true reads id kind body last said answers m d tags views is fits new allowed
      turn unended =
      let read = asks_read false id kind body is fits in
      receives_wrapped (peer_unbound setup last said) id kind body (reads refl) refl new is fits
      ∙ ap (λ (out : PeerAnswer). expanded_answer out out.step.sent)
      (begins setup _ id kind body last said _ m d tags views read new is.not_identity
      is.not_notification allowed turn unended)
      ∙ wraps_reply (state.Received ∷ state.GetMethod ∷ state.Method ∷ state.SendResponse
      ∷ state.Idle ∷ []) id kind answers tags setup (Some kind) m d views
      is.not_nak

  -- the next Request of its method
  pub continues_as : (form : Bool) → (form ≡ true → setup.expanded ≡ true)
      → (id kind : ℕ) (body : List ℕ) (last : ℕ) (said : List ℕ) (before : MethodState)
      (d_before : Decision) (views_before : PeerViews) (answers : List ℕ) (m : MethodState)
      (d : Decision) (tags : Tags) (views : PeerViews)
      → IsMethod kind → length body ≤ 1488 → (last == id) ≡ false → is_done before ≡ false
      → peer_turn kind views_before (spelled (request id kind body))
      ≡ record { turn = Reply (spelled (response id kind answers)) m d tags; after = views }
      → (is_done m && is_fail d) ≡ false
      → peer_receives (peer_at setup (Some kind) before d_before last said views_before)
      (carried form (spelled (request id kind body)))
      ≡ replies (state.Received ∷ state.Method ∷ state.SendResponse ∷ state.Idle ∷ [])
      (carried form (spelled (response id kind answers))) tags
      (peer_at setup (Some kind) m d id (carried form (spelled (response id kind answers))) views)
  continues_as false reads id kind body last said before d_before views_before answers m d tags
      views is fits new not_done turn unended =
      let read = asks_read false id kind body is fits in
      receives_plain (peer_at setup (Some kind) before d_before last said views_before)
      _ id kind body read is.not_expanded
      ∙ goes_on setup _ id kind body last said before d_before views_before _ m d tags views read
      new is.not_notification not_done turn unended
  continues_as true reads id kind body last said before d_before views_before answers m d tags views
      is fits new not_done turn unended =
      let read = asks_read false id kind body is fits in
      receives_wrapped (peer_at setup (Some kind) before d_before last said views_before)
      id kind body (reads refl) refl new is fits
      ∙ ap (λ (out : PeerAnswer). expanded_answer out out.step.sent)
      (goes_on setup _ id kind body last said before d_before views_before _ m d tags views read new
      is.not_notification not_done turn unended)
      ∙ wraps_reply (state.Received ∷ state.Method ∷ state.SendResponse ∷ state.Idle ∷ [])
      id kind answers tags setup (Some kind) m d views is.not_nak

  -- the Success is plain
  pub succeeds_as : (octets : List ℕ) (id kind : ℕ) (m : MethodState) (d : Decision) (said : List ℕ)
      (views : PeerViews)
      → packet_of octets ≡ Ok (success id) → is_fail d ≡ false
      → (let now = peer_at setup (Some kind) m d id said views in
      peer_receives now octets ≡ peer_ends now (state.Received ∷ []) state.Success)
  succeeds_as octets id kind m d said views read sure =
      receives_success (peer_at setup (Some kind) m d id said views) octets id read
      ∙ succeeds setup octets id kind m d said views read sure
