-- No input changes the role, and a server to which octets may come stays one.
use Rattle.std.proofs.Common.{◌≡◌, ℕ, List, Bool, true, false, ◌&&◌, ◌||◌, not, Option, Some, None}
use Rattle.std.proofs.Common.{refl, sym, ap, ◌∙◌}
use Rattle.std.proofs.lemmas.Bool.{cond_both, or_left, or_right}
use Rattle.std.specs.Prelude.{◌==◌}
use Rattle.eap_packet.specs.Fault.{code_of}
use Rattle.eap_packet.specs.declared.state.State.{State}
use Rattle.eap_method.specs.Server.{ServerViews}
use Rattle.eap_method.specs.Steps.{Step, is_end}
use Rattle.server_machine.specs.Expanded.{response_octets, discards_bad, server_receives}
use Rattle.server_machine.specs.Expanded.{wraps_sent}
use Rattle.server_machine.specs.Inputs.{ServerInput, server_answers}
use Rattle.server_machine.specs.Inputs as inputs
use Rattle.server_machine.specs.Laws.{StaysReady, StaysAsItIs}
use Rattle.server_machine.specs.Rows.{Selects, after_identity, after_nak, first_identity, first_nak}
use Rattle.server_machine.specs.Rows.{first_other, ServerRow, ended, rests}
use Rattle.server_machine.specs.Rows.{goes_on, drops, starts, resends, times_out, proposes}
use Rattle.server_machine.specs.Rows.{proposes_without, proposes_none, requests, begins}
use Rattle.server_machine.specs.Rows.{succeeds, method_fails}
use Rattle.server_machine.specs.ServerTable.{ServerNow, ServerAnswer, answer, awaits_first}
use Rattle.server_machine.specs.ServerTable.{has_timer, is_backend, is_ready, is_started}
use Rattle.server_machine.specs.ServerTable.{server_deliver, server_restart, server_start}
use Rattle.server_machine.specs.declared.variables.Role.TheVariants.{Backend, StandAlone}
use Rattle.server_machine.specs.Variables.{ServerVariables}
use Rattle.server_machine.proofs.Receiving.{ServerReceiving, as_it_is, bad, wrapping}
use Rattle.server_machine.proofs.Receiving.{server_receives_so}
use Rattle.server_machine.proofs.ServerRows.{server_answers_are_rows}

-- the role is the same, and a server that has started doesn't stand in INITIALIZE again
record StaysStarted (before after : ServerVariables) : Type 0 where
  pub role : after.role ≡ before.role
  pub started : is_started before ≡ true → is_started after ≡ true

-- a server that may hear still may
or_step : (backend before after : Bool) → (before ≡ true → after ≡ true)
    → (backend || before) ≡ true → (backend || after) ≡ true
or_step true before after step is = refl
or_step false before after step is = step is

still_ready : (before after : ServerVariables) → StaysStarted before after → StaysReady before after
still_ready before after same = record {
  role = same.role;
  ready = λ is. (rw same.role
      (or_step (is_backend before) (is_started before) (is_started after) same.started is));
}

stays : (vars : ServerVariables) → StaysStarted vars vars
stays vars = record { role = refl; started = λ was. was }

selects_stays : (now : ServerNow) (id kind : ℕ) (body : List ℕ) (entered : List State)
    (vars : ServerVariables) (desired : Option (List ℕ))
    → Selects now id kind body entered vars desired → StaysStarted now.vars vars
selects_stays now id kind body _ _ _ (after_identity is_id is_identity is_current unawaited) =
    record { role = refl; started = λ was. was }
selects_stays now id kind body _ _ _ (after_nak is_id is_nak waits unawaited) = stays now.vars
selects_stays now id kind body _ _ _ (first_identity awaited is_identity) =
    record { role = refl; started = λ was. refl }
selects_stays now id kind body _ _ _ (first_nak awaited is_nak) =
    record { role = refl; started = λ was. refl }
selects_stays now id kind body _ _ _ (first_other awaited no_nak no_identity) =
    record { role = refl; started = λ was. refl }

-- the rows of a conversation
row_stays : (now : ServerNow) (input : ServerInput) (out : ServerAnswer) → ServerRow now input out
    → ((nonce : List ℕ) → input ≡ inputs.restart nonce → ⊥)
    → StaysStarted now.vars out.after.vars
row_stays now _ _ (ended bytes over) same = stays now.vars
row_stays now _ _ (rests over) same = stays now.vars
row_stays now _ _ (goes_on is_initiated) same = stays now.vars
row_stays now _ _ (drops bytes path c going why) same = stays now.vars
row_stays now _ _ (starts unstarted) same = record { role = refl; started = λ was. refl }
row_stays now _ _ (resends going in_time) same = record { role = refl; started = λ was. was }
row_stays now _ _ (times_out going late) same = record { role = refl; started = λ was. refl }
row_stays now _ _ (proposes bytes id kind body entered vars desired next packet views heard selects
    next_is) same =
    let before = selects_stays now id kind body entered vars desired selects in
    record { role = before.role; started = before.started }
row_stays now _ _ (proposes_without bytes id kind body entered vars desired next views heard selects
    next_is) same =
    record {
      role = (selects_stays now id kind body entered vars desired selects).role;
      started = λ was. refl;
    }
row_stays now _ _ (proposes_none bytes id kind body entered vars desired heard selects none) same =
    record {
      role = (selects_stays now id kind body entered vars desired selects).role;
      started = λ was. refl;
    }
row_stays now _ _ (requests bytes id kind body packet tags views heard turned) same =
    record { role = refl; started = λ was. was }
row_stays now _ _ (succeeds bytes id kind body tags views heard turned) same =
    record { role = refl; started = λ was. refl }
row_stays now _ _ (method_fails bytes id kind body tags views heard turned) same =
    record { role = refl; started = λ was. refl }
row_stays now _ _ (begins nonce) same = absurd (same nonce refl)

-- a new one: a backend is ready from the first, and a stand-alone server has started
again_ready : (now : ServerNow) (nonce : List ℕ)
    → StaysReady now.vars (server_restart now nonce).after.vars
unfolding server_restart server_start
again_ready now nonce =
    cond_both (is_backend now.vars) _ _ (λ (out : ServerAnswer). StaysReady now.vars out.after.vars)
    (λ backend. record { role = refl; ready = λ _. or_left (is_backend now.vars) false backend })
    (λ _. record { role = refl; ready = λ _. or_right (is_backend now.vars) true refl })

of_conversation : (now : ServerNow) (input : ServerInput)
    → ((nonce : List ℕ) → input ≡ inputs.restart nonce → ⊥)
    → StaysReady now.vars (server_answers now input).after.vars
of_conversation now input same =
    still_ready now.vars (server_answers now input).after.vars
    (row_stays now input (server_answers now input) (server_answers_are_rows now input) same)

of_octets : (now : ServerNow) (bytes : List ℕ)
    → StaysReady now.vars (server_deliver now bytes).after.vars
of_octets now bytes = of_conversation now (inputs.octets bytes) (λ nonce e. cc e)

-- what is wrapped changes lastReqData alone
wraps_ready : (vars : ServerVariables) (out : ServerAnswer) (sent : Option (List ℕ))
    → StaysReady vars out.after.vars
    → StaysReady vars (wraps_sent out sent).after.vars
wraps_ready vars out None same = same
wraps_ready vars out (Some packet) same =
    cond_both (code_of packet == 1) _ _ (λ (next : ServerAnswer). StaysReady vars next.after.vars)
    (λ _. record { role = same.role; ready = same.ready }) (λ _. same)

bad_ready : (now : ServerNow) → StaysReady now.vars (discards_bad now).after.vars
bad_ready now =
    cond_both (awaits_first now.vars) _ _ (λ (next : ServerAnswer).
    StaysReady now.vars next.after.vars) (λ _. record { role = refl; ready = λ was. was })
    (λ _. record { role = refl; ready = λ was. was })

of_receiving : (now : ServerNow) (bytes : List ℕ) (out : ServerAnswer)
    → ServerReceiving now bytes out → StaysReady now.vars out.after.vars
of_receiving now bytes _ as_it_is = of_octets now bytes
of_receiving now bytes _ (bad id kind body answers is_bad) = bad_ready now
of_receiving now bytes _ (wrapping id kind body answers good) =
    let plain = response_octets now.vars bytes id kind body in
    wraps_ready now.vars (server_deliver now plain) (server_deliver now plain).step.sent
    (of_octets now plain)

pub stays_as_it_is : StaysAsItIs
stays_as_it_is now inputs.start = of_conversation now inputs.start (λ nonce e. cc e)
stays_as_it_is now inputs.timeout = of_conversation now inputs.timeout (λ nonce e. cc e)
stays_as_it_is now (inputs.octets bytes) = of_receiving now bytes _ (server_receives_so now bytes)
stays_as_it_is now (inputs.restart nonce) = again_ready now nonce

-- a backend is ready from the first, and stays one
pub backend_is_ready : (vars : ServerVariables) → vars.role ≡ Backend → is_ready vars ≡ true
backend_is_ready vars is = rw is refl

pub backend_stays : (before after : ServerVariables) (shown views : ServerViews) (octets : List ℕ)
    (step : Step)
    → server_receives (record { vars = before; views = shown }) octets
    ≡ answer step (record { vars = after; views = views })
    → before.role ≡ Backend → after.role ≡ Backend
backend_stays before after shown views octets step delivered is =
    let now : ServerNow = record { vars = before; views = shown } in
    let same = stays_as_it_is now (inputs.octets octets) in
    ap (λ (out : ServerAnswer). out.after.vars.role) (sym delivered) ∙ (same.role ∙ is)

-- the retransmission timer of a stand-alone server that has started and has not ended
timer_runs_if : (backend begun over : Bool) → backend ≡ false → (backend || begun) ≡ true
    → over ≡ false → (not backend && (begun && not over)) ≡ true
timer_runs_if true begun over alone ready going = cc alone
timer_runs_if false true true alone ready going = cc going
timer_runs_if false true false alone ready going = refl
timer_runs_if false false over alone ready going = cc ready

pub timer_runs : (vars : ServerVariables) → vars.role ≡ StandAlone → is_ready vars ≡ true
    → is_end vars.state ≡ false → has_timer vars ≡ true
timer_runs vars alone ready going = timer_runs_if (is_backend vars) (is_started vars)
    (is_end vars.state) (rw alone refl) ready going

timer_going : (backend begun over : Bool) → (not backend && (begun && not over)) ≡ true
    → over ≡ false
timer_going true begun over runs = cc runs
timer_going false false over runs = cc runs
timer_going false true true runs = cc runs
timer_going false true false runs = refl

pub timer_is_running : (vars : ServerVariables) → has_timer vars ≡ true → is_end vars.state ≡ false
timer_is_running vars runs =
    timer_going (is_backend vars) (is_started vars) (is_end vars.state) runs
