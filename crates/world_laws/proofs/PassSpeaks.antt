-- What the pass-through sends: what came, on to the other side, or the last packet to the peer
-- again.
use Rattle.std.proofs.Common.{◌≡◌, ℕ, List, true, false, Some, None, refl, sym, subst, ◌∙◌}
use Rattle.std.specs.List.{list_any}
use Rattle.std.proofs.lemmas.Bool.{false≢true}
use Rattle.eap_packet.specs.declared.state.State.{State}
use Rattle.eap_packet.specs.declared.state.State.TheVariants as state
use Rattle.pass_through.specs.Inputs.{PassInput, start, restart, pass_accepts}
use Rattle.pass_through.specs.PassTable.{Peer, Server, PassAnswer, is_over, is_started}
use Rattle.pass_through.specs.PassTable.{pass_restart, pass_start}
use Rattle.pass_through.specs.Rows as rows
use Rattle.pass_through.specs.declared.variables.PassVariables.{PassVariables}
use Rattle.pass_through.proofs.PassRows.{pass_answers_are_rows}
use Rattle.world_laws.specs.SingleSteps.{is_again}

-- it has started and not ended
pub record Proceed (s : State) : Type 0 where
  pub begun : is_started s ≡ true
  pub going : is_over s ≡ false

pub data PassSpeaks (vars : PassVariables) (input : PassInput) (out : PassAnswer) : Type 0 where
  -- nothing is sent, and what was sent last stays; it goes on only where it did
  rests : (unsent : out.step.sent ≡ None) (same : out.after.last_request ≡ vars.last_request)
      (was : Proceed out.after.state → Proceed vars.state)
      (still : is_started vars.state ≡ false → is_started out.after.state ≡ false)
      → PassSpeaks vars input out
  -- a packet goes on to the server
  onwards : (to : out.step.to ≡ Server) (goes : Proceed vars.state)
      (new : list_any is_again out.step.path ≡ false)
      (same : out.after.last_request ≡ vars.last_request) → PassSpeaks vars input out
  -- a packet goes to the peer, and is kept to be sent again, or is the last
  asks : (packet : List ℕ) (to : out.step.to ≡ Peer) (going : is_over vars.state ≡ false)
      (sent : out.step.sent ≡ Some packet) (new : list_any is_again out.step.path ≡ false)
      (last : is_over out.after.state ≡ false → out.after.last_request ≡ packet)
      (begins : is_started vars.state ≡ false → input ≡ start) → PassSpeaks vars input out
  -- the last one again
  repeats : (to : out.step.to ≡ Peer) (goes : Proceed vars.state)
      (sent : out.step.sent ≡ Some vars.last_request)
      (same : out.after.last_request ≡ vars.last_request) → PassSpeaks vars input out
  -- a new one, which asks for the identity
  starts_anew : (is_restart : input ≡ restart) (packet : List ℕ) (to : out.step.to ≡ Peer)
      (sent : out.step.sent ≡ Some packet) (new : list_any is_again out.step.path ≡ false)
      (last : out.after.last_request ≡ packet) → PassSpeaks vars input out

unstarted_running : (s : State) → is_started s ≡ false → is_over s ≡ false
unstarted_running state.Initialize e = refl
unstarted_running s e = absurd (false≢true (sym e))

-- one of the states that go on
goes_in : {s : State} (at : State) → s ≡ at → is_started at ≡ true → is_over at ≡ false → Proceed s
goes_in at stands begun going = subst Proceed (sym stands) (record { begun = begun; going = going })

timer_proceeds : (s entered back over : State) → rows.TimerRuns s entered back over → Proceed s
timer_proceeds s _ _ _ (rows.of_idle stands) = goes_in state.Idle stands refl refl
timer_proceeds s _ _ _ (rows.of_idle2 stands) = goes_in state.Idle2 stands refl refl

module _ (vars : PassVariables) where
  -- what begins in a state that goes on
  started_no : {A : Type 0} → Proceed vars.state → is_started vars.state ≡ false → A
  started_no goes e = absurd (false≢true (sym e ∙ goes.begun))

  -- a packet of the server, on to the peer
  hands_on : (input : PassInput) (out : PassAnswer) (packet : List ℕ) → vars.state ≡ state.AaaIdle
      → out.step.to ≡ Peer → out.step.sent ≡ Some packet
      → list_any is_again out.step.path ≡ false → (is_over out.after.state ≡ false
      → out.after.last_request ≡ packet) → PassSpeaks vars input out
  hands_on input out packet stands to sent new last =
      let goes : Proceed vars.state = goes_in state.AaaIdle stands refl refl in
      asks packet to goes.going sent new last (started_no goes)

  speaks : (input : PassInput) (out : PassAnswer) → rows.PassRow vars input out
      → PassSpeaks vars input out
  unfolding pass_restart pass_start
  speaks _ _ (rows.stays input why) = rests refl refl (λ goes. goes) (λ unstarted. unstarted)
  speaks _ _ (rows.drops_of_peer octets path c why) =
      rests refl refl (λ goes. goes) (λ unstarted. unstarted)
  speaks _ _ (rows.drops_of_server octets path c why) =
      rests refl refl (λ goes. goes) (λ unstarted. unstarted)
  speaks _ _ (rows.starts unstarted) =
      asks _ refl (unstarted_running vars.state unstarted) refl refl (λ _. refl) (λ _. refl)
  speaks _ _ rows.begins = starts_anew refl _ refl refl refl refl
  speaks _ _ (rows.resends entered back over place in_time) =
      repeats refl (timer_proceeds _ _ _ _ place) refl refl
  speaks _ _ (rows.times_out entered back over place late) =
      let goes : Proceed vars.state =
      timer_proceeds _ _ _ _ place in rests refl refl (λ _. goes) (started_no goes)
  speaks _ _ (rows.loses_server stands) = let goes : Proceed vars.state =
      goes_in _ stands refl refl in rests refl refl (λ _. goes) (started_no goes)
  speaks _ _ (rows.asks_nothing stands) = let goes : Proceed vars.state =
      goes_in _ stands refl refl in rests refl refl (λ _. goes) (started_no goes)
  speaks _ _ (rows.passes_identity octets id body stands is_packet is_id) =
      onwards refl (goes_in _ stands refl refl) refl refl
  speaks _ _ (rows.passes_response octets id kind body stands is_packet is_id) =
      onwards refl (goes_in _ stands refl refl) refl refl
  speaks _ _ (rows.passes_request octets id kind body stands is_packet) =
      hands_on _ _ _ stands refl refl refl (λ _. refl)
  speaks _ _ (rows.passes_success octets id stands is_packet) =
      hands_on _ _ _ stands refl refl refl (λ e. absurd (false≢true (sym e)))
  speaks _ _ (rows.passes_failure octets id stands is_packet) =
      hands_on _ _ _ stands refl refl refl (λ e. absurd (false≢true (sym e)))

pub pass_speaks : (vars : PassVariables) (input : PassInput)
    → PassSpeaks vars input (pass_accepts vars input)
pass_speaks vars input = speaks vars input _ (pass_answers_are_rows vars input)
