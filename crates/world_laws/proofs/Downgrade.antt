-- A server that has taken no Nak in its present conversation is at the first method of its order,
-- or at none.
use Rattle.std.proofs.Common.{◌≡◌, ℕ, ◌+◌, Bool, true, false, List, [], ◌∷◌, ◌++◌, Option, Some}
use Rattle.std.proofs.Common.{None, Ok, refl, sym, ap, subst, ◌∙◌, arith, inl, inr}
use Rattle.std.specs.Prelude.{◌⊎◌, ◌==◌, not, find}
use Rattle.std.specs.List.{list_all, list_any}
use Rattle.std.proofs.lemmas.Bool.{and_parts, cond_both, cond-true, false≢true}
use Rattle.login_setup.specs.declared.event.Event.{Event}
use Rattle.login_setup.specs.declared.event.Event.TheVariants as event
use Rattle.login_setup.specs.declared.setup.Port.{Port}
use Rattle.login_setup.specs.declared.setup.Port.TheVariants as port
use Rattle.login_setup.specs.declared.setup.Party.{Party}
use Rattle.login_setup.specs.declared.setup.Mode.{Mode}
use Rattle.login_setup.specs.declared.setup.Mode.TheVariants.{Alone, Through}
use Rattle.login_setup.specs.declared.setup.Party.TheVariants as party
use Rattle.login_setup.specs.Setup.{ServerSetup, is_method_kind}
use Rattle.login_setup.specs.declared.setup.Setup.{Setup}
use Rattle.octet_lists.specs.Among.{identity_kind, is_among, are_distinct}
use Rattle.eap_packet.specs.Fault.{code_of, packet_of}
use Rattle.eap_packet.specs.Packet.{response}
use Rattle.eap_packet.specs.declared.state.State.{State}
use Rattle.login_policy.specs.Policy.{next_kind}
use Rattle.method_laws.specs.Both.{ServerHasBoth}
use Rattle.eap_method.proofs.Amongs.{each_one}
use Rattle.eap_method.specs.Server.{Offer, side_of}
use Rattle.server_machine.specs.Expanded.{discards_bad, response_octets, wraps_sent}
use Rattle.peer_machine.specs.Inputs as peer_inputs
use Rattle.server_machine.specs.Inputs as server_inputs
use Rattle.server_machine.specs.Inputs.{ServerInput, octets, restart, server_accepts}
use Rattle.server_machine.specs.Inputs.{server_answers}
use Rattle.server_machine.specs.Rows as rows
use Rattle.server_machine.specs.Rows.{Selects, after_identity, after_nak, first_identity, first_nak}
use Rattle.server_machine.specs.Rows.{first_other}
use Rattle.server_machine.specs.ServerTable.{ServerAnswer, ServerNow, awaits_first, is_backend}
use Rattle.server_machine.specs.ServerTable.{is_started, next_id, server_restart, server_start}
use Rattle.server_machine.specs.Variables.{ServerVariables}
use Rattle.server_machine.proofs.Receiving.{ServerReceiving, as_it_is, bad, wrapping}
use Rattle.server_machine.proofs.ServerRows.{server_answers_are_rows}
use Rattle.tag_book.specs.declared.book.End.TheVariants as end
use Rattle.eap_world.specs.Conversations.{Conversations, beginning, initiated_by, peer_initiates}
use Rattle.eap_world.specs.Sent.{Sent, packet_numbered}
use Rattle.eap_world.specs.declared.conversations.Waiting.{Waiting}
use Rattle.eap_world.specs.World.{Call, WorldNow, WorldOutcome, act_of_call, call_at, call_octets}
use Rattle.eap_world.specs.World.{call_of, call_with, delivered_in_call, timer_call, run_after}
use Rattle.eap_world.specs.World.{start_call, to_pass, to_peer, to_server, world_start, world_step}
use Rattle.world_laws.specs.Whole.{IsWhole}
use Rattle.world_laws.specs.Downgrade.{DowngradesNeedNaks, IsPassedOver, TakesNak, is_nak}
use Rattle.world_laws.specs.Downgrade.{is_nak_state}
use Rattle.world_laws.specs.SingleSteps.{delivered_in}
use Rattle.world_laws.proofs.Accepting.{server_accepted_tags}
use Rattle.world_laws.proofs.Acting.{restart_is, some_call, step_steps, still_started}
use Rattle.world_laws.proofs.EndInvariants.{InvariantSoFar, every_run_so_far, step_invariant}
use Rattle.world_laws.proofs.Few.{started_more}
use Rattle.world_laws.proofs.NakAnswers.{naks_refuse, read_nak, response_nak}
use Rattle.world_laws.proofs.SingleSteps.{StepOf, is_called, is_skipped, step_of}
use Rattle.method_laws.proofs.ServerByMethod.{offer_of, offers_no_identity}
use Rattle.world_laws.specs.Runs.{initial_world, run_of}

-- ---- what each answer of the server does to its method

-- the current method is Identity's, or none
abbrev NoMethod : ServerVariables → Type 0
NoMethod vars = (kind : ℕ) → vars.current ≡ Some kind → kind ≡ identity_kind

-- it stays; none is proposed; the first of the order is; or a Nak was taken
data Offers (now : ServerNow) (input : ServerInput) (out : ServerAnswer) : Type 0 where
  stays : (proposed : out.after.vars.proposed ≡ now.vars.proposed)
      (current : out.after.vars.current ≡ now.vars.current)
      (methods : out.after.vars.setup.methods ≡ now.vars.setup.methods) → Offers now input out
  anew : (none : out.after.vars.proposed ≡ []) (no_method : NoMethod out.after.vars)
      → Offers now input out
  proposes : (kind : ℕ) (from : NoMethod now.vars)
      (next : next_kind now.vars.setup.methods now.vars.proposed None ≡ Some kind)
      (proposed : out.after.vars.proposed ≡ now.vars.proposed ++ kind ∷ [])
      (current : out.after.vars.current ≡ Some kind) (methods : out.after.vars.setup.methods
      ≡ now.vars.setup.methods) (no_identity : kind ≡ identity_kind → ⊥) → Offers now input out
  naks : (bytes : List ℕ) (came : input ≡ octets bytes) (nak : is_nak bytes ≡ true)
      (is : list_any is_nak_state out.step.path ≡ true) → Offers now input out

bytes_same : (one other : List ℕ) → octets one ≡ octets other → one ≡ other
bytes_same one other e = cc

some_kind : (one other : ℕ) → Some one ≡ Some other → one ≡ other
some_kind one other e = cc

-- a server that has not started has no method
module _ {order : List ℕ} (now : ServerNow) (both : ServerHasBoth order now.views)
    (untouched : is_started now.vars ≡ false → now.vars.current ≡ None) where
  unstarted : awaits_first now.vars ≡ true → NoMethod now.vars
  unstarted awaited kind e =
      let begun = (and_parts (is_backend now.vars) (not (is_started now.vars)) awaited).1 in
      absurd (let none = untouched (not_so (is_started now.vars) begun) in cc)
    where
      not_so : (b : Bool) → not b ≡ true → b ≡ false
      not_so true h = cc h
      not_so false h = refl

  identity_alone : now.vars.current ≡ Some identity_kind → NoMethod now.vars
  identity_alone is kind e = some_kind kind identity_kind (sym e ∙ is)

  -- a method is proposed after one of these, or a Nak was taken
  selected : (bytes : List ℕ) (id kind : ℕ) (body : List ℕ)
      (is_packet : packet_of bytes ≡ Ok (response id kind body)) (entered : List State)
      (vars : ServerVariables) (desired : Option (List ℕ)) (next : ℕ) (rest : List State)
      (out : ServerAnswer) → Selects now id kind body entered vars desired
      → out.step.path ≡ entered ++ rest
      → next_kind vars.setup.methods vars.proposed desired ≡ Some next
      → out.after.vars.proposed ≡ vars.proposed ++ next ∷ []
      → out.after.vars.current ≡ Some next → out.after.vars.setup.methods ≡ vars.setup.methods
      → (next ≡ identity_kind → ⊥) → Offers now (octets bytes) out
  selected bytes id kind body is_packet _ _ _ next rest out (after_identity is_id is_identity
      is_current unawaited) path is_next proposed current methods no_identity =
      proposes next (identity_alone is_current) is_next proposed current methods no_identity
  selected bytes id kind body is_packet _ _ _ next rest out (after_nak is_id is_nak_type waits
      unawaited) path is_next proposed current methods no_identity =
      naks bytes refl (response_nak bytes id kind body is_packet is_nak_type)
      (ap (list_any is_nak_state) path)
  selected bytes id kind body is_packet _ _ _ next rest out (first_identity awaited is_identity)
      path is_next proposed current methods no_identity =
      proposes next (unstarted awaited) is_next proposed current methods no_identity
  selected bytes id kind body is_packet _ _ _ next rest out (first_nak awaited is_nak_type)
      path is_next proposed current methods no_identity =
      naks bytes refl (response_nak bytes id kind body is_packet is_nak_type)
      (ap (list_any is_nak_state) path)
  selected bytes id kind body is_packet _ _ _ next rest out (first_other awaited no_nak
      no_identity_came) path is_next proposed current methods no_identity =
      proposes next (unstarted awaited) is_next proposed current methods no_identity

  -- and where none is, it stays
  fails : (bytes : List ℕ) (id kind : ℕ) (body : List ℕ)
      (is_packet : packet_of bytes ≡ Ok (response id kind body)) (entered : List State)
      (vars : ServerVariables) (desired : Option (List ℕ)) (rest : List State)
      (out : ServerAnswer) → Selects now id kind body entered vars desired
      → out.step.path ≡ entered ++ rest
      → out.after.vars.proposed ≡ vars.proposed → out.after.vars.current ≡ vars.current
      → out.after.vars.setup.methods ≡ vars.setup.methods → Offers now (octets bytes) out
  fails bytes id kind body is_packet _ _ _ rest out (after_identity is_id is_identity is_current
      unawaited) path proposed current methods = stays proposed current methods
  fails bytes id kind body is_packet _ _ _ rest out
      (after_nak is_id is_nak_type waits unawaited) path proposed current methods = naks bytes refl
      (response_nak bytes id kind body is_packet is_nak_type) (ap (list_any is_nak_state) path)
  fails bytes id kind body is_packet _ _ _ rest out (first_identity awaited is_identity)
      path proposed current methods = stays proposed current methods
  fails bytes id kind body is_packet _ _ _ rest out
      (first_nak awaited is_nak_type) path proposed current methods = naks bytes refl
      (response_nak bytes id kind body is_packet is_nak_type) (ap (list_any is_nak_state) path)
  fails bytes id kind body is_packet _ _ _ rest out (first_other awaited no_nak no_identity)
      path proposed current methods = stays proposed current methods

  restarts : (nonce : List ℕ) → Offers now (restart nonce) (server_restart now nonce)
  unfolding server_restart server_start
  restarts nonce =
      cond_both (is_backend now.vars) _ _ (Offers now (restart nonce)) (λ _.
      anew refl (λ kind e. cc e)) (λ _. anew refl (λ kind e. some_kind kind identity_kind (sym e)))

  row_offers : (input : ServerInput) (out : ServerAnswer) → rows.ServerRow now input out
      → Offers now input out
  row_offers _ _ (rows.begins nonce) = restarts nonce
  row_offers _ _ (rows.ended bytes over) = stays refl refl refl
  row_offers _ _ (rows.rests over) = stays refl refl refl
  row_offers _ _ (rows.goes_on is_initiated) = stays refl refl refl
  row_offers _ _ (rows.drops bytes path c going why) = stays refl refl refl
  row_offers _ _ (rows.starts begun) = anew refl (λ kind e. some_kind kind identity_kind (sym e))
  row_offers _ _ (rows.resends going in_time) = stays refl refl refl
  row_offers _ _ (rows.times_out going late) = stays refl refl refl
  row_offers _ _ (rows.proposes bytes id kind body entered vars desired next packet views heard
      selects next_is) =
      selected bytes id kind body heard.is_packet entered vars desired next _ _ selects refl
      next_is.is_next refl refl refl
      (offers_no_identity (side_of vars.setup) vars.setup.nonce next (next_id vars) now.views _
      (offer_of (side_of vars.setup) vars.setup.nonce next (next_id vars) now.views both) packet
      (ap (λ (offer : Offer). offer.packet) next_is.is_offer))
  row_offers _ _ (rows.proposes_without bytes id kind body entered vars desired next views heard
      selects next_is) =
      fails bytes id kind body heard.is_packet entered vars desired _ _ selects refl refl refl refl
  row_offers _ _ (rows.proposes_none bytes id kind body entered vars desired heard selects none) =
      fails bytes id kind body heard.is_packet entered vars desired _ _ selects refl refl refl refl
  row_offers _ _ (rows.requests bytes id kind body packet tags views heard turned) =
      stays refl refl refl
  row_offers _ _ (rows.succeeds bytes id kind body tags views heard turned) = stays refl refl refl
  row_offers _ _ (rows.method_fails bytes id kind body tags views heard turned) =
      stays refl refl refl

  -- with Expanded Types
  module _ (bytes plain : List ℕ) (of_plain : is_nak plain ≡ true → is_nak bytes ≡ true) where
    carried : (out after : ServerAnswer) → out.after.vars.proposed ≡ after.after.vars.proposed
        → out.after.vars.current ≡ after.after.vars.current
        → out.after.vars.setup ≡ after.after.vars.setup → out.step.path ≡ after.step.path
        → Offers now (octets plain) out → Offers now (octets bytes) after
    carried out after same is_current setups path (stays proposed current methods) =
        stays (sym same ∙ proposed) (sym is_current ∙ current)
        (ap (λ (s : ServerSetup). s.methods) (sym setups) ∙ methods)
    carried out after same is_current setups path (anew none no_method) =
        anew (sym same ∙ none) (λ kind e. no_method kind (is_current ∙ e))
    carried out after same is_current setups path
        (proposes kind from next proposed current methods no_identity) =
        proposes kind from next (sym same ∙ proposed) (sym is_current ∙ current)
        (ap (λ (s : ServerSetup). s.methods) (sym setups) ∙ methods) no_identity
    carried out after same is_current setups path (naks came_bytes came nak is) =
        naks bytes refl (of_plain (ap is_nak (bytes_same plain came_bytes came) ∙ nak))
        (ap (list_any is_nak_state) (sym path) ∙ is)

    wraps_offers : (out : ServerAnswer) (sent : Option (List ℕ)) → Offers now (octets plain) out
        → Offers now (octets bytes) (wraps_sent out sent)
    wraps_offers out None offers = carried out out refl refl refl refl offers
    wraps_offers out (Some packet) offers =
        cond_both (code_of packet == 1) _ _ (Offers now (octets bytes))
        (λ _. carried out _ refl refl refl refl offers)
        (λ _. carried out out refl refl refl refl offers)

  answer_offers : (input : ServerInput) → Offers now input (server_answers now input)
  answer_offers input = row_offers input _ (server_answers_are_rows now input)

  bad_offers : (bytes : List ℕ) → Offers now (octets bytes) (discards_bad now)
  bad_offers bytes = cond_both (awaits_first now.vars) _ _ (Offers now (octets bytes))
      (λ _. stays refl refl refl) (λ _. stays refl refl refl)

  receiving_offers : (bytes : List ℕ) (out : ServerAnswer) → ServerReceiving now bytes out
      → Offers now (octets bytes) out
  receiving_offers bytes _ as_it_is = answer_offers (octets bytes)
  receiving_offers bytes _ (bad id kind body answers is_bad) = bad_offers bytes
  receiving_offers bytes _ (wrapping id kind body answers good) =
      let plain : List ℕ = response_octets now.vars bytes id kind body in
      let out = server_answers now (octets plain) in
      wraps_offers bytes plain (read_nak now.vars bytes id kind body answers.is_packet)
      out out.step.sent (answer_offers (octets plain))

  server_offers : (input : ServerInput) → Offers now input (server_accepts now input)
  server_offers = server_accepted_tags now (Offers now) answer_offers receiving_offers

-- the server takes a Nak that comes
record Takes (input : ServerInput) (out : ServerAnswer) : Type 0 where
  bytes : List ℕ
  came : input ≡ octets bytes
  nak : is_nak bytes ≡ true
  is : list_any is_nak_state out.step.path ≡ true

-- ---- without a Nak

data Unrefused (vars : ServerVariables) : Type 0 where
  unproposed : (none : vars.proposed ≡ []) (no_method : NoMethod vars) → Unrefused vars
  proposed : (kind : ℕ) (no_identity : kind ≡ identity_kind → ⊥) (only : vars.proposed ≡ kind ∷ [])
      (current : vars.current ≡ Some kind)
      (is_first : next_kind vars.setup.methods [] None ≡ Some kind) → Unrefused vars

module _ (now : ServerNow) (input : ServerInput) (out : ServerAnswer) where
  first_is : (kind : ℕ) → next_kind now.vars.setup.methods now.vars.proposed None ≡ Some kind
      → now.vars.proposed ≡ []
      → out.after.vars.setup.methods ≡ now.vars.setup.methods
      → next_kind out.after.vars.setup.methods [] None ≡ Some kind
  first_is kind next none methods =
      ap (λ (order : List ℕ). next_kind order [] None) methods
      ∙ (sym (ap (λ (l : List ℕ). next_kind now.vars.setup.methods l None) none) ∙ next)

  goes_on : Offers now input out → Unrefused now.vars → Unrefused out.after.vars ⊎ Takes input out
  goes_on (stays same current methods) (unproposed none no_method) =
      inl (unproposed (same ∙ none) (λ kind e. no_method kind (sym current ∙ e)))
  goes_on (stays same current methods) (proposed kind no_identity only is_current is_first) =
      inl (proposed kind no_identity (same ∙ only) (current ∙ is_current)
      (ap (λ (order : List ℕ). next_kind order [] None) methods ∙ is_first))
  goes_on (anew none no_method) was = inl (unproposed none no_method)
  goes_on (proposes kind from next more current methods no_identity) (unproposed none no_method) =
      inl (proposed kind no_identity (more ∙ ap (λ (l : List ℕ). l ++ kind ∷ []) none) current
      (first_is kind next none methods))
  goes_on (proposes kind from next more current methods no_identity)
      (proposed other other_no only is_current is_first) =
      absurd (other_no (from other is_current))
  goes_on (naks bytes came nak is) was =
      inr (record { bytes = bytes; came = came; nak = nak; is = is })

-- ---- an event

-- the server begins a conversation, or goes on
data Goes (w : WorldNow) (e : Event) (out : WorldOutcome) : Type 0 where
  begins : Unrefused out.after.parties.server.vars → Goes w e out
  on : (same : initiated_by end.Server out.after.conversations.begun
      ≡ initiated_by end.Server w.conversations.begun)
      (each : Unrefused w.parties.server.vars
      → Unrefused out.after.parties.server.vars
      ⊎ ((out.told.party ≡ Some party.Server) × ((list_any is_nak_state out.told.path ≡ true)
      × (is_nak (delivered_in w.sent e) ≡ true)))) → Goes w e out

-- what is handed to the server
at_server : (to : Port) (given bytes : List ℕ)
    → call_at to given ≡ to_server (server_inputs.octets bytes) → bytes ≡ given
at_server port.Peer given bytes e = cc e
at_server port.Server given bytes e = cc
at_server port.PassPeer given bytes e = cc e
at_server port.PassServer given bytes e = cc e

with_server : (packet : Option Sent) (given bytes : List ℕ)
    → call_with packet given ≡ Some (to_server (server_inputs.octets bytes)) → bytes ≡ given
with_server None given bytes e = cc e
with_server (Some packet) given bytes e = at_server packet.port given bytes (some_call _ _ e)

timer_server : (of : Party) (bytes : List ℕ) {A : Type 0}
    → timer_call of ≡ to_server (server_inputs.octets bytes) → A
timer_server party.Peer bytes e = absurd cc
timer_server party.Pass bytes e = absurd cc
timer_server party.Server bytes e = absurd cc

passed_to_server : (conversations : Conversations) (sent : List Sent) (e : Event) (bytes : List ℕ)
    → call_of conversations sent e ≡ Some (to_server (server_inputs.octets bytes))
    → bytes ≡ delivered_in sent e
passed_to_server conversations sent (event.Deliver n) bytes is =
    with_server (packet_numbered sent n) _ bytes is
passed_to_server conversations sent (event.Alter n place mask) bytes is =
    with_server (packet_numbered sent n) _ bytes is
passed_to_server conversations sent (event.Cut n keep) bytes is =
    with_server (packet_numbered sent n) _ bytes is
passed_to_server conversations sent (event.Inject to given) bytes is =
    at_server to given bytes (some_call _ _ is)
passed_to_server conversations sent (event.Timeout of) bytes is =
    timer_server of bytes (some_call _ _ is)
passed_to_server conversations sent event.AaaTimeout bytes is = cc is
passed_to_server conversations sent event.AaaNoReq bytes is = cc is
passed_to_server conversations sent event.Idle bytes is = cc is
passed_to_server conversations sent event.AltAccept bytes is = cc is
passed_to_server conversations sent event.AltReject bytes is = cc is
passed_to_server conversations sent (event.Restart of) bytes is =
    restart_is (λ (call : Call). call ≡ to_server (server_inputs.octets bytes) → bytes ≡ [])
    (λ nonce same. cc same) (λ same. cc same) (λ nonce same. cc same)
    conversations of _ is refl

module _ (setup : Setup) (w : WorldNow) (so : InvariantSoFar setup w) (e : Event) where
  untouched : is_started w.parties.server.vars ≡ false → w.parties.server.vars.current ≡ None
  untouched none = (so.both.server_invariant.unstarted none).no_method

  -- a call of the server in which it begins no conversation
  server_goes : (input : ServerInput) (out : WorldOutcome) → call_of w.conversations w.sent e
      ≡ Some (to_server input)
      → initiated_by end.Server out.after.conversations.begun
      ≡ initiated_by end.Server w.conversations.begun
      → out.after.parties.server ≡ (server_accepts w.parties.server input).after
      → out.told.party ≡ Some party.Server
      → out.told.path ≡ (server_accepts w.parties.server input).step.path → Goes w e out
  server_goes input out is_call same after by path = on same (λ was.
      elim (goes_on w.parties.server input (server_accepts w.parties.server input)
      (server_offers w.parties.server so.both.server_invariant.objects untouched input) was) [
        | inl still ↦ inl (subst (λ (now : ServerNow). Unrefused now.vars) (sym after) still)
        | inr t ↦ inr (
          by,
          (
            ap (list_any is_nak_state) path ∙ t.is,
            ap is_nak (sym (passed_to_server w.conversations w.sent e t.bytes
                (is_call ∙ ap (λ (i : ServerInput). Some (to_server i)) t.came))) ∙ t.nak,
          ),
        )
      ])

  restarted : (nonce : List ℕ) → Unrefused (server_restart w.parties.server nonce).after.vars
  unfolding server_restart server_start
  restarted nonce =
      cond_both (is_backend w.parties.server.vars) _ _
      (λ (out : ServerAnswer). Unrefused out.after.vars) (λ _. unproposed refl (λ kind e. cc e))
      (λ _. unproposed refl (λ kind e. some_kind kind identity_kind (sym e)))

  peer_begins : (left : List Waiting)
      → initiated_by end.Server (peer_initiates (w.counts.events + 1) w.conversations left).begun
      ≡ initiated_by end.Server w.conversations.begun
  peer_begins [] = refl
  peer_begins (one ∷ left) = started_more end.Server w.conversations.begun (beginning
      (w.counts.events + 1) end.Peer one.nonce) ∙ (omega arith)

  no_more : (given : Option (List ℕ)) → initiated_by end.Server (delivered_in_call w.conversations
      given).begun ≡ initiated_by end.Server w.conversations.begun
  no_more given = ap (initiated_by end.Server) (still_started w.conversations given)

  step_goes : (out : WorldOutcome) → StepOf w e out → Goes w e out
  step_goes _ (is_skipped skip) = on refl (λ was. inl was)
  step_goes _ (is_called (to_peer (peer_inputs.octets bytes)) unskipped is_call) =
      on (no_more (Some bytes)) (λ was. inl was)
  step_goes _ (is_called (to_peer peer_inputs.idle) unskipped is_call) = on refl (λ was. inl was)
  step_goes _ (is_called (to_peer peer_inputs.alt_accept) unskipped is_call) =
      on refl (λ was. inl was)
  step_goes _ (is_called (to_peer peer_inputs.alt_reject) unskipped is_call) =
      on refl (λ was. inl was)
  step_goes _ (is_called (to_peer (peer_inputs.restart nonce)) unskipped is_call) =
      on (peer_begins w.conversations.peer_left) (λ was. inl was)
  step_goes _ (is_called (to_server server_inputs.start) unskipped is_call) =
      server_goes server_inputs.start _ is_call refl refl refl refl
  step_goes _ (is_called (to_server server_inputs.timeout) unskipped is_call) =
      server_goes server_inputs.timeout _ is_call refl refl refl refl
  step_goes _ (is_called (to_server (server_inputs.octets bytes)) unskipped is_call) =
      server_goes (server_inputs.octets bytes) _ is_call (no_more (Some bytes)) refl refl refl
  step_goes _ (is_called (to_server (server_inputs.restart nonce)) unskipped is_call) =
      begins (restarted nonce)
  step_goes _ (is_called (to_pass input) unskipped is_call) =
      on (no_more (call_octets (to_pass input))) (λ was. inl was)

-- ---- a run

-- in one of these events, from this world on, the server took a Nak, and it has begun no new
-- conversation since
record HasTakenNak (w : WorldNow) (events : List Event) : Type 0 where
  before : List Event
  taken : Event
  after : List Event
  parts : events ≡ before ++ taken ∷ after
  takes : TakesNak (run_after w before) taken
  present : initiated_by end.Server (run_after w events).conversations.begun
      ≡ initiated_by end.Server (run_after w before).conversations.begun

abbrev Ends : WorldNow → List Event → Type 0
Ends w events = Unrefused (run_after w events).parties.server.vars ⊎ HasTakenNak w events

later : (w : WorldNow) (e : Event) (rest : List Event) → Ends (world_step w e).after rest
    → Ends w (e ∷ rest)
unfolding run_after
later w e rest (inl still) = inl still
later w e rest (inr h) = inr (record {
  before = e ∷ h.before;
  taken = h.taken;
  after = h.after;
  parts = ap (λ (l : List Event). e ∷ l) h.parts;
  takes = h.takes;
  present = h.present;
})

-- it begins no conversation in these events
abbrev GoesOn : WorldNow → List Event → Type 0
GoesOn w events = initiated_by end.Server (run_after w events).conversations.begun
    ≡ initiated_by end.Server w.conversations.begun

here : (w : WorldNow) (e : Event) (rest : List Event) → TakesNak w e → GoesOn w (e ∷ rest)
    → Ends w (e ∷ rest)
unfolding run_after
here w e rest takes same = inr
    (record { before = []; taken = e; after = rest; parts = refl; takes = takes; present = same })

-- of a world in which it may have taken one, and of one in which it has taken none
record Runs (w : WorldNow) (events : List Event) : Type 0 where
  any : Ends w events ⊎ GoesOn w events
  good : Unrefused w.parties.server.vars → Ends w events

further : (w : WorldNow) (e : Event) (rest : List Event) → Goes w e (world_step w e)
    → Runs (world_step w e).after rest → Runs w (e ∷ rest)
unfolding run_after
further w e rest (begins good) next = record {
  any = inl (later w e rest (next.good good));
  good = λ was. later w e rest (next.good good);
}
further w e rest (on same each) next = record {
  any = elim next.any [ inl ends ↦ inl (later w e rest ends) | inr still ↦ inr (still ∙ same) ];
  good = λ was. (elim (each was) [
    | inl good ↦ later w e rest (next.good good)
    | inr took ↦ elim next.any [
      | inl ends ↦ later w e rest ends
      | inr still ↦ here w e rest
          (record { by_server = took.0; is_taken = took.1.0; nak = took.1.1 }) (still ∙ same)
    ]
  ]);
}

runs : (setup : Setup) (w : WorldNow) → InvariantSoFar setup w → (events : List Event)
    → Runs w events
unfolding run_after
runs setup w so [] = record { any = inr refl; good = λ was. inl was }
runs setup w so (e ∷ rest) =
    further w e rest (step_goes setup w so e (world_step w e) (step_of w e))
    (runs setup (world_step w e).after
    (step_invariant setup w (world_step w e) (step_steps w e) so) rest)

start_by : (mode : Mode) (setup : Setup)
    → (let w = initial_world setup in
    Unrefused (act_of_call w.parties (start_call mode)).after.server.vars)
unfolding server_start
start_by Alone setup = unproposed refl (λ kind e. some_kind kind identity_kind (sym e))
start_by Through setup = unproposed refl (λ kind e. cc e)

started : (setup : Setup) → Unrefused (run_of setup []).parties.server.vars
unfolding run_after world_start
started setup = start_by setup.mode setup

run_is : (setup : Setup) (events : List Event)
    → run_of setup events ≡ run_after (run_of setup []) events
unfolding run_after
run_is setup events = refl

-- ---- it is not passed over then

head_is : (order : List ℕ) (kind : ℕ) → next_kind order [] None ≡ Some kind → (test : ℕ → Bool)
    → test kind ≡ true → find test order ≡ Some kind
unfolding next_kind
head_is [] kind e test is = cc e
head_is (k ∷ rest) kind e test is =
    let same : k ≡ kind = some_kind k kind e in
    cond-true (test k) _ _ (ap test same ∙ is) ∙ ap (λ (n : ℕ). Some n) same

not_over : (setup : Setup) (w : WorldNow) → IsWhole setup → w.parties.server.vars.setup.methods
    ≡ setup.server.methods → IsPassedOver setup w
    → Unrefused w.parties.server.vars → ⊥
not_over setup w whole methods over (unproposed none no_method) =
    let is : over.other ≡ identity_kind = no_method over.other over.current in
    let kinds = and_parts (list_all is_method_kind setup.peer.methods)
    (are_distinct setup.peer.methods) whole.peer.methods in
    false≢true (subst (λ (k : ℕ). is_method_kind k ≡ true) is
    (each_one is_method_kind setup.peer.methods over.other kinds.0 over.allowed))
not_over setup w whole methods over (proposed kind no_identity only current is_first) =
    let same : kind ≡ over.other = some_kind kind over.other (sym current ∙ over.current) in
    let head : next_kind setup.server.methods [] None ≡ Some kind =
    ap (λ (order : List ℕ). next_kind order [] None) (sym methods) ∙ is_first in
    let found = head_is setup.server.methods kind head (is_among setup.peer.methods)
    (ap (is_among setup.peer.methods) same ∙ over.allowed) in
    over.apart (some_kind over.other over.first
    (ap (λ (n : ℕ). Some n) (sym same) ∙ (sym found ∙ over.is_first)))

takes_one : (setup : Setup) (events : List Event) → IsWhole setup
    → IsPassedOver setup (run_of setup events) → HasTakenNak (run_of setup []) events
takes_one setup events whole over =
    let own : (run_of setup events).parties.server.vars.setup.methods ≡ setup.server.methods =
    ap (λ (s : ServerSetup). s.methods) (every_run_so_far setup events).both.server_invariant.own in
    elim ((runs setup (run_of setup []) (every_run_so_far setup []) events).good (started setup)) [
      | inl still ↦ absurd (not_over setup (run_of setup events) whole own over
          (subst (λ (w : WorldNow). Unrefused w.parties.server.vars)
          (sym (run_is setup events)) still))
      | inr taken ↦ taken
    ]

-- As long as the server has taken no Nak in its present conversation, it is at the first method of
-- its order or at none: each row of its table keeps this but the one that takes a Nak. If the peer
-- allows that method, it is the first that it allows, which the premise excludes (`not_over`). So
-- there was a Nak, and `naks_refuse` says what the peer answers by those octets.
pub downgrades_need_naks : DowngradesNeedNaks
unfolding run_after
downgrades_need_naks setup events whole over =
    let t = takes_one setup events whole over in
    record {
      before = t.before;
      taken = t.taken;
      after = t.after;
      parts = t.parts;
      takes = t.takes;
      present = t.present;
      no_answer = λ earlier e packet sends new same. naks_refuse setup earlier e packet sends new
          (ap is_nak same ∙ t.takes.nak);
    }
