-- What the server sends: a Request with the next Identifier, the last one again, or its end.
use Rattle.std.proofs.Common.{◌≡◌, ℕ, ◌+◌, List, ◌++◌, true, false, Option, Some, None, refl, sym}
use Rattle.std.proofs.Common.{ap, subst, ◌∙◌}
use Rattle.std.specs.Prelude.{◌==◌, ◌%◌, not}
use Rattle.std.specs.List.{list_any}
use Rattle.std.proofs.lemmas.Bool.{and_parts, cond_both, eqb-true, false≢true}
use Rattle.eap_packet.specs.Fault.{code_of}
use Rattle.eap_packet.specs.Packet.{response, success, failure, spelled}
use Rattle.eap_packet.specs.declared.state.State.{State}
use Rattle.eap_packet.specs.declared.state.State.TheVariants as state
use Rattle.method_laws.specs.Both.{ServerHasBoth}
use Rattle.eap_method.specs.Server.{Offer, ServerViews, side_of}
use Rattle.eap_method.specs.Steps.{is_end}
use Rattle.eap_method.specs.Turns.{ServerOutcome}
use Rattle.server_machine.specs.Expanded.{response_octets, discards_bad, wraps, wraps_sent}
use Rattle.server_machine.specs.Inputs.{ServerInput, start, timeout, octets, restart}
use Rattle.server_machine.specs.Inputs.{server_answers, server_accepts}
use Rattle.server_machine.specs.Rows as rows
use Rattle.server_machine.specs.Rows.{Selects, after_identity, after_nak, first_identity, first_nak}
use Rattle.server_machine.specs.Rows.{first_other}
use Rattle.server_machine.specs.ServerTable.{ServerNow, ServerAnswer, is_started, is_backend}
use Rattle.server_machine.specs.ServerTable.{awaits_first, next_id, next_id_after, server_restart}
use Rattle.server_machine.specs.ServerTable.{server_start}
use Rattle.server_machine.specs.Variables.{ServerVariables}
use Rattle.server_machine.proofs.Receiving.{ServerReceiving, as_it_is, bad, wrapping}
use Rattle.server_machine.proofs.ServerRows.{server_answers_are_rows}
use Rattle.world_laws.specs.SingleSteps.{is_again}
use Rattle.method_laws.proofs.ServerByMethod.{offer_asks, offer_of, turn_asks, turn_of}
use Rattle.method_laws.proofs.ServerTurns.{IsRequest, request_is}
use Rattle.world_laws.proofs.Accepting.{server_accepted_tags}

-- ---- a Success or a Failure

pub record IsEnd (packet : List ℕ) : Type 0 where
  pub code : code_of packet ≡ 1 → ⊥

success_is : (id : ℕ) → IsEnd (spelled (success id))
unfolding spelled
success_is id = record { code = λ e. cc e }

failure_is : (id : ℕ) → IsEnd (spelled (failure id))
unfolding spelled
failure_is id = record { code = λ e. cc e }

-- ---- the rows

-- the Identifier that follows the current one
pub record Follows (now : ServerNow) (id : ℕ) : Type 0 where
  pub before : ℕ
  pub was : now.vars.current_id ≡ Some before
  pub next : id ≡ (before + 1) % 256

pub data ServerSpeaks (now : ServerNow) (input : ServerInput) (out : ServerAnswer) : Type 0 where
  -- nothing is sent, and what was sent last stays
  rests : (unsent : out.step.sent ≡ None) (same_state : out.after.vars.state ≡ now.vars.state)
      (same_id : out.after.vars.current_id ≡ now.vars.current_id)
      (same : out.after.vars.last_request ≡ now.vars.last_request) → ServerSpeaks now input out
  -- a new Request, which in a delivery to a stand-alone server follows the last
  asks : (packet : List ℕ) (id : ℕ) (is : IsRequest id packet)
      (going : is_end now.vars.state ≡ false) (sent : out.step.sent ≡ Some packet)
      (new : list_any is_again out.step.path ≡ false)
      (current : out.after.vars.current_id ≡ Some id) (last : out.after.vars.last_request ≡ packet)
      (follows : is_backend now.vars ≡ false → (input ≡ start → ⊥) → Follows now id)
      → ServerSpeaks now input out
  -- the last one again
  repeats : (is_timer : input ≡ timeout) (going : is_end now.vars.state ≡ false)
      (sent : out.step.sent ≡ Some now.vars.last_request)
      (same_state : out.after.vars.state ≡ now.vars.state)
      (same_id : out.after.vars.current_id ≡ now.vars.current_id)
      (same : out.after.vars.last_request ≡ now.vars.last_request) → ServerSpeaks now input out
  -- the end, with a Success, a Failure or nothing
  ends : (going : is_end now.vars.state ≡ false) (over : is_end out.after.vars.state ≡ true)
      (new : list_any is_again out.step.path ≡ false) (each : (packet : List ℕ)
      → out.step.sent ≡ Some packet → IsEnd packet) → ServerSpeaks now input out
  gives_up : (going : is_end now.vars.state ≡ false) (over : is_end out.after.vars.state ≡ true)
      (unsent : out.step.sent ≡ None) → ServerSpeaks now input out
  -- a new conversation, which a backend awaits and a stand-alone server begins with the Identity
  -- Request
  awaits : (nonce : List ℕ) (is_restart : input ≡ restart nonce) (unsent : out.step.sent ≡ None)
      (unstarted : is_started out.after.vars ≡ false)
      → ServerSpeaks now input out
  begins : (nonce : List ℕ) (is_restart : input ≡ restart nonce) (packet : List ℕ) (id : ℕ)
      (is : IsRequest id packet) (sent : out.step.sent ≡ Some packet)
      (new : list_any is_again out.step.path ≡ false)
      (current : out.after.vars.current_id ≡ Some id) (last : out.after.vars.last_request ≡ packet)
      → ServerSpeaks now input out

unstarted_proceeds : (s : State) → (elim s [ state.Initialize ↦ false | _ ↦ true ]) ≡ false
    → is_end s ≡ false
unstarted_proceeds state.Initialize e = refl
unstarted_proceeds s e = absurd (false≢true (sym e))

one_end : (packet : List ℕ) → IsEnd packet → (other : List ℕ) → Some packet ≡ Some other
    → IsEnd other
one_end packet is other e = let same : packet ≡ other = cc in subst IsEnd same is

module _ {methods : List ℕ} (now : ServerNow) (both : ServerHasBoth methods now.views) where
  follows_id : (id : ℕ) → now.vars.current_id ≡ Some id → Follows now (next_id now.vars)
  follows_id id is_id =
      record { before = id; was = is_id; next = ap (next_id_after now.vars.first_id) is_id }

  no_backend : {A : Type 0} → awaits_first now.vars ≡ true → is_backend now.vars ≡ false → A
  no_backend awaited alone = absurd (false≢true
      (sym alone ∙ (and_parts (is_backend now.vars) (not (is_started now.vars)) awaited).0))

  -- the states before SELECT_ACTION are new ones
  selects_new : (id kind : ℕ) (body : List ℕ) (entered : List State) (vars : ServerVariables)
      (desired : Option (List ℕ)) (rest : List State)
      → Selects now id kind body entered vars desired → list_any is_again rest ≡ false
      → list_any is_again (entered ++ rest) ≡ false
  selects_new id kind body _ _ _ rest (after_identity is_id is_identity is_current unawaited) new =
      new
  selects_new id kind body _ _ _ rest (after_nak is_id is_nak waits unawaited) new = new
  selects_new id kind body _ _ _ rest (first_identity awaited is_identity) new = new
  selects_new id kind body _ _ _ rest (first_nak awaited is_nak) new = new
  selects_new id kind body _ _ _ rest (first_other awaited no_nak no_identity) new = new

  selects_next : (id kind : ℕ) (body : List ℕ) (entered : List State) (vars : ServerVariables)
      (desired : Option (List ℕ))
      → Selects now id kind body entered vars desired → is_backend now.vars ≡ false
      → Follows now (next_id vars)
  selects_next id kind body _ _ _ (after_identity is_id is_identity is_current unawaited) alone =
      follows_id id is_id
  selects_next id kind body _ _ _ (after_nak is_id is_nak waits unawaited) alone =
      follows_id id is_id
  selects_next id kind body _ _ _ (first_identity awaited is_identity) alone =
      no_backend awaited alone
  selects_next id kind body _ _ _ (first_nak awaited is_nak) alone = no_backend awaited alone
  selects_next id kind body _ _ _ (first_other awaited no_nak no_identity) alone =
      no_backend awaited alone

  restart_speaks : (nonce : List ℕ) → ServerSpeaks now (restart nonce) (server_restart now nonce)
  unfolding server_restart server_start
  restart_speaks nonce =
      cond_both (is_backend now.vars) _ _ (ServerSpeaks now (restart nonce))
      (λ _. awaits nonce refl refl refl) (λ _. begins nonce refl _ now.vars.first_id
      (request_is now.vars.first_id _ _) refl refl refl refl)

  row_speaks : (input : ServerInput) (out : ServerAnswer) → rows.ServerRow now input out
      → ServerSpeaks now input out
  unfolding server_start
  row_speaks _ _ (rows.begins nonce) = restart_speaks nonce
  row_speaks _ _ (rows.ended bytes over) = rests refl refl refl refl
  row_speaks _ _ (rows.rests over) = rests refl refl refl refl
  row_speaks _ _ (rows.goes_on is_initiated) = rests refl refl refl refl
  row_speaks _ _ (rows.drops bytes path c going why) = rests refl refl refl refl
  row_speaks _ _ (rows.starts unstarted) =
      asks _ now.vars.first_id (request_is now.vars.first_id _ _)
      (unstarted_proceeds now.vars.state unstarted) refl refl refl refl
      (λ _ later. absurd (later refl))
  row_speaks _ _ (rows.resends going in_time) = repeats refl going refl refl refl refl
  row_speaks _ _ (rows.times_out going late) = gives_up going refl refl
  row_speaks _ _ (rows.proposes bytes id kind body entered vars desired next packet views heard
      selects next_is) =
      asks packet (next_id vars)
      (offer_asks (side_of vars.setup) vars.setup.nonce next (next_id vars) now.views _
      (offer_of (side_of vars.setup) vars.setup.nonce next (next_id vars) now.views both) packet
      (ap (λ (offer : Offer). offer.packet) next_is.is_offer))
      heard.going refl (selects_new id kind body entered vars desired _ selects refl) refl refl
      (λ alone _. selects_next id kind body entered vars desired selects alone)
  row_speaks _ _ (rows.proposes_without bytes id kind body entered vars desired next views heard
      selects next_is) =
      ends heard.going refl (selects_new id kind body entered vars desired _ selects refl)
      (one_end _ (failure_is id))
  row_speaks _ _ (rows.proposes_none bytes id kind body entered vars desired heard selects none) =
      ends heard.going refl (selects_new id kind body entered vars desired _ selects refl)
      (one_end _ (failure_is id))
  row_speaks _ _ (rows.requests bytes id kind body packet tags views heard turned) =
      asks packet (next_id now.vars)
      ((turn_asks now.vars.setup.users (next_id now.vars) kind now.views _ _
      (turn_of now.vars.setup.users (next_id now.vars) kind now.views
      (spelled (response id kind body)) both)).each packet tags
      (ap (λ (out : ServerOutcome ServerViews). out.turn) turned.is_turn))
      heard.going refl refl refl refl (λ _ _. follows_id id turned.is_id)
  row_speaks _ _ (rows.succeeds bytes id kind body tags views heard turned) =
      ends heard.going refl refl (one_end _ (success_is id))
  row_speaks _ _ (rows.method_fails bytes id kind body tags views heard turned) =
      ends heard.going refl refl (one_end _ (failure_is id))

-- ---- with Expanded Types

module _ {methods : List ℕ} (now : ServerNow) (both : ServerHasBoth methods now.views) where
  abbrev Speaks : ServerInput → ServerAnswer → Type 0
  Speaks input out = ServerSpeaks now input out

  answer_speaks : (input : ServerInput) → Speaks input (server_answers now input)
  answer_speaks input = row_speaks now both input _ (server_answers_are_rows now input)

  -- a Success and a Failure aren't wrapped
  end_wraps : (out : ServerAnswer) (packet : List ℕ) → IsEnd packet
      → wraps_sent out (Some packet) ≡ out
  end_wraps out packet is =
      cond_both (code_of packet == 1) _ _ (λ (o : ServerAnswer). o ≡ out)
      (λ e. absurd (is.code (eqb-true (code_of packet) 1 e))) (λ _. refl)

  -- what answers other octets, wrapped
  module _ (bytes plain : List ℕ) where
    wraps_end : (out : ServerAnswer) (sent : Option (List ℕ))
        → ((packet : List ℕ) → sent ≡ Some packet → IsEnd packet) → Speaks (octets bytes) out
        → Speaks (octets bytes) (wraps_sent out sent)
    wraps_end out None each speaks = speaks
    wraps_end out (Some packet) each speaks =
        subst (Speaks (octets bytes)) (sym (end_wraps out packet (each packet refl))) speaks

    -- where nothing is sent nothing is wrapped
    wraps_none : (out : ServerAnswer) → out.step.sent ≡ None → Speaks (octets bytes) out
        → Speaks (octets bytes) (wraps out)
    wraps_none out unsent speaks = subst (λ (sent : Option (List ℕ)). Speaks (octets bytes)
        (wraps_sent out sent)) (sym unsent) speaks

    wraps_speak : (out : ServerAnswer) → Speaks (octets plain) out
        → Speaks (octets bytes) (wraps out)
    wraps_speak out (rests unsent same_state same_id same) =
        wraps_none out unsent (rests unsent same_state same_id same)
    wraps_speak out (asks packet id is going sent new current last follows) =
        subst (λ (sent : Option (List ℕ)). Speaks (octets bytes) (wraps_sent out sent)) (sym sent)
        (cond_both (code_of packet == 1) _ _ (Speaks (octets bytes))
        (λ _. asks _ id (record { code = is.code; same = is.same }) going refl new current refl
        (λ alone _. follows alone (λ e. cc e)))
        (λ _. asks packet id is going sent new current last (λ alone _. follows alone (λ e. cc e))))
    wraps_speak out (repeats is_timer going sent same_state same_id same) =
        absurd (let e = is_timer in cc)
    wraps_speak out (ends going over new each) =
        wraps_end out out.step.sent each (ends going over new each)
    wraps_speak out (gives_up going over unsent) =
        wraps_none out unsent (gives_up going over unsent)
    wraps_speak out (awaits nonce is_restart unsent unstarted) = absurd (let e = is_restart in cc)
    wraps_speak out (begins nonce is_restart packet id is sent new current last) =
        absurd (let e = is_restart in cc)

  bad_speaks : (bytes : List ℕ) → Speaks (octets bytes) (discards_bad now)
  bad_speaks bytes =
      cond_both (awaits_first now.vars) _ _ (Speaks (octets bytes)) (λ _. rests refl refl refl refl)
      (λ _. rests refl refl refl refl)

  receiving_speaks : (bytes : List ℕ) (out : ServerAnswer) → ServerReceiving now bytes out
      → Speaks (octets bytes) out
  receiving_speaks bytes _ as_it_is = answer_speaks (octets bytes)
  receiving_speaks bytes _ (bad id kind body answers is_bad) = bad_speaks bytes
  receiving_speaks bytes _ (wrapping id kind body answers good) =
      wraps_speak bytes (response_octets now.vars bytes id kind body) _ (answer_speaks (octets _))

pub server_speaks : {methods : List ℕ} (now : ServerNow) → ServerHasBoth methods now.views
    → (input : ServerInput) → ServerSpeaks now input (server_accepts now input)
server_speaks now both =
    server_accepted_tags now (ServerSpeaks now) (answer_speaks now both) (receiving_speaks now both)
