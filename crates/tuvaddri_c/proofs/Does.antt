-- What a machine's step says is what is told of it.
use Rattle.std.proofs.Common.{◌≡◌, refl, ℕ, List, sym, ap, subst, Bool, true, false, None}
use Rattle.std.specs.Prelude.{if◌then◌else◌, Some}
use Rattle.eap_packet.specs.declared.state.State.{State}
use Rattle.eap_method.specs.Steps.{step_with}
use Rattle.eap_method.specs.declared.step.Step as brief
use Rattle.eap_method.specs.Tags.{Tags}
use Rattle.peer_machine.specs.PeerTable.{PeerValue, PeerAnswer}
use Rattle.peer_machine.specs.PeerTable as peer
use Rattle.server_machine.specs.ServerTable.{ServerValue, ServerAnswer}
use Rattle.server_machine.specs.ServerTable as server
use Rattle.end_objects.specs.Objects.{peer_object_shown, server_object_shown}
use Rattle.tuvaddri_c.specs.Sent.{Sent, after_turn}
use Rattle.tuvaddri_c.specs.Turns.{turn_of, PeerDoes, ServerDoes, PassDoes, is_some}
use Rattle.pass_through.specs.PassTable.{Side, PassAnswer, step_to}
use Rattle.pass_through.specs.PassTable as pass
use Rattle.pass_through.specs.declared.variables.PassVariables.{PassVariables}
use Rattle.eap_method.specs.Peer.{PeerShown}
use Rattle.eap_method.specs.Server.{ServerShown}
use Rattle.eap_method.specs.PeerTurn.{peer_turn_with}
use Rattle.eap_method.specs.ServerTurn.{server_turn_with}
use Rattle.eap_method.specs.Turns.{PeerOutcome, ServerOutcome}
use Rattle.eap_method.specs.declared.turn.PeerAnswer as peer_briefs
use Rattle.eap_method.specs.declared.turn.PeerAnswer.TheVariants as peer_answer
use Rattle.eap_method.specs.declared.turn.ServerAnswer as server_briefs
use Rattle.eap_method.specs.declared.turn.ServerAnswer.TheVariants as server_answer
use Rattle.tuvaddri_c.specs.Methods.{PeerTurns, ServerTurns, peer_brief, server_brief}
use Rattle.end_objects.specs.declared.objects.PeerObject.{PeerObject}
use Rattle.end_objects.specs.declared.objects.ServerObject.{ServerObject}
use Rattle.supplicant.specs.Table as supplicant
use Rattle.supplicant.specs.Table.{SupplicantValue}
use Rattle.supplicant.specs.declared.step.SupplicantStep as supplicant_brief
use Rattle.switch_port.specs.Port as port
use Rattle.switch_port.specs.Port.{PortVariables, PortAnswer}
use Rattle.switch_port.specs.declared.step.PortStep as port_brief
use Rattle.tuvaddri_c.specs.Supplicants.{SupplicantDoes, turn_of_step}
use Rattle.tuvaddri_c.specs.Ports.{PortDoes, port_turn, sent_by}

sends_so : (b : Bool) (p : List ℕ) → is_some (if b then Some p else None) ≡ b
sends_so true p = refl
sends_so false p = refl

says_so : (step : brief.Step) (packet : List ℕ) (s : State)
    → turn_of step s
    ≡ record (turn_of step s) { sends = is_some (if step.sends then Some packet else None) }
says_so step packet s =
    ap (λ (b : Bool). record (turn_of step s) { sends = b }) (sym (sends_so step.sends packet))

pub peer_does : (row : PeerAnswer) (step : brief.Step) (packet : List ℕ) (tags : Tags)
    (after : PeerValue PeerObject) (before sent : Sent)
    → row ≡ peer.answer (step_with step packet tags) (peer.now_of peer_object_shown after)
    → sent ≡ after_turn (if step.sends then Some packet else None) before
    → PeerDoes row before (turn_of step after.vars.state) sent after
peer_does row step packet tags after before sent e s =
    subst (λ (r : PeerAnswer). PeerDoes r before (turn_of step after.vars.state) sent after) (sym e)
    (record { turn_is = says_so step packet after.vars.state; sent_is = s; machine = refl })

pub server_does : (row : ServerAnswer) (step : brief.Step) (packet : List ℕ) (tags : Tags)
    (after : ServerValue ServerObject) (before sent : Sent)
    → row ≡ server.answer (step_with step packet tags) (server.now_of server_object_shown after)
    → sent ≡ after_turn (if step.sends then Some packet else None) before
    → ServerDoes row before (turn_of step after.vars.state) sent after
server_does row step packet tags after before sent e s = subst (λ (r : ServerAnswer).
    ServerDoes r before (turn_of step after.vars.state) sent after) (sym e)
    (record { turn_is = says_so step packet after.vars.state; sent_is = s; machine = refl })

pub pass_does : (to : Side) (row : PassAnswer) (step : brief.Step) (packet : List ℕ)
    (after : PassVariables) (before sent : Sent)
    → row ≡ pass.answer (step_to to step packet) after
    → sent ≡ after_turn (if step.sends then Some packet else None) before
    → PassDoes row before (turn_of step after.state) sent after
pass_does to row step packet after before sent e s =
    subst (λ (r : PassAnswer). PassDoes r before (turn_of step after.state) sent after) (sym e)
    (record { turn_is = says_so step packet after.state; sent_is = s; machine = refl })

-- a method's turn sends the packet that it wrote, where it says so
peer_replies : (b : peer_briefs.PeerAnswer) (packet : List ℕ) (tags : Tags) (after : PeerObject)
    (before sent : Sent)
    → sent ≡ after_turn (if (peer_brief b).sends then Some packet else None) before
    → PeerTurns (record { turn = peer_turn_with b packet tags; after = peer_object_shown after })
    before (peer_brief b) sent after
peer_replies (peer_answer.Discard c) packet tags after before sent s =
    record { turn_is = refl; sent_is = s; object = refl }
peer_replies (peer_answer.Reply m d) packet tags after before sent s =
    record { turn_is = refl; sent_is = s; object = refl }

pub peer_turns : (out : PeerOutcome PeerShown) (b : peer_briefs.PeerAnswer) (packet : List ℕ)
    (tags : Tags) (after : PeerObject) (before sent : Sent)
    → out ≡ record { turn = peer_turn_with b packet tags; after = peer_object_shown after }
    → sent ≡ after_turn (if (peer_brief b).sends then Some packet else None) before
    → PeerTurns out before (peer_brief b) sent after
peer_turns out b packet tags after before sent e s =
    subst (λ (o : PeerOutcome PeerShown). PeerTurns o before (peer_brief b) sent after) (sym e)
    (peer_replies b packet tags after before sent s)

server_asks : (b : server_briefs.ServerAnswer) (packet : List ℕ) (tags : Tags)
    (after : ServerObject) (before sent : Sent)
    → sent ≡ after_turn (if (server_brief b).sends then Some packet else None) before
    → ServerTurns (record {
      turn = server_turn_with b packet tags;
      after = server_object_shown after;
    }) before (server_brief b) sent after
server_asks (server_answer.Discard c) packet tags after before sent s =
    record { turn_is = refl; sent_is = s; object = refl }
server_asks server_answer.Request packet tags after before sent s =
    record { turn_is = refl; sent_is = s; object = refl }
server_asks (server_answer.Done true) packet tags after before sent s =
    record { turn_is = refl; sent_is = s; object = refl }
server_asks (server_answer.Done false) packet tags after before sent s =
    record { turn_is = refl; sent_is = s; object = refl }

pub server_turns : (out : ServerOutcome ServerShown) (b : server_briefs.ServerAnswer)
    (packet : List ℕ) (tags : Tags) (after : ServerObject) (before sent : Sent)
    → out ≡ record { turn = server_turn_with b packet tags; after = server_object_shown after }
    → sent ≡ after_turn (if (server_brief b).sends then Some packet else None) before
    → ServerTurns out before (server_brief b) sent after
server_turns out b packet tags after before sent e s =
    subst (λ (o : ServerOutcome ServerShown). ServerTurns o before (server_brief b) sent after)
    (sym e) (server_asks b packet tags after before sent s)

-- a supplicant's step sends the frame that it wrote, where it says so
supplicant_turn_is : (step : supplicant_brief.SupplicantStep) (frame : List ℕ)
    (after : SupplicantValue PeerObject) → turn_of_step step after.authorized after.state
    ≡ record (turn_of_step step after.authorized after.state)
    { sends = is_some (if step.sends then Some frame else None) }
supplicant_turn_is step frame after = ap (λ (b : Bool).
    record (turn_of_step step after.authorized after.state) { sends = b })
    (sym (sends_so step.sends frame))

pub supplicant_does : (row : supplicant.Answer) (step : supplicant_brief.SupplicantStep)
    (frame : List ℕ) (after : SupplicantValue PeerObject) (before sent : Sent)
    → row ≡ supplicant.answer (supplicant.step_with step frame)
    (supplicant.shows peer_object_shown after)
    → sent ≡ after_turn (if step.sends then Some frame else None) before
    → SupplicantDoes row before (turn_of_step step after.authorized after.state) sent after
supplicant_does row step frame after before sent e s = subst (λ (r : supplicant.Answer).
    SupplicantDoes r before (turn_of_step step after.authorized after.state) sent after) (sym e)
    (record { turn_is = supplicant_turn_is step frame after; sent_is = s; machine = refl })

pub port_does : (row : PortAnswer) (step : port_brief.PortStep) (packet : List ℕ)
    (after : PortVariables) (before sent : Sent)
    → row ≡ port.answer (port.step_with step packet) after
    → sent ≡ after_turn (sent_by (port.step_with step packet)) before
    → PortDoes row before (port_turn (port.step_with step packet) after) sent after
port_does row step packet after before sent e s = subst (λ (r : PortAnswer).
    PortDoes r before (port_turn (port.step_with step packet) after) sent after) (sym e)
    (record { turn_is = refl; sent_is = s; machine = refl })
