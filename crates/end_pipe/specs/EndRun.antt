-- One end over its inputs: what it does at each of them, and its state then.
use Rattle.std.specs.Prelude.{◌≡◌, ℕ, List, [], ◌∷◌, ◌++◌, Bool, true, false, ◌||◌, if◌then◌else◌}
use Rattle.std.specs.Prelude.{Option, Some, None, is_some, unwrap_or, Result, Ok}
use Rattle.login_setup.specs.declared.setup.PeerSetup.{PeerSetup}
use Rattle.login_setup.specs.Setup.{ServerSetup}
use Rattle.eap_packet.specs.declared.state.State.{State}
use Rattle.eap_method.specs.BothPeers as both_peers
use Rattle.eap_method.specs.BothServers as both_servers
use Rattle.eap_method.specs.Peer.{PeerShown, PeerViews}
use Rattle.eap_method.specs.Server.{ServerShown, ServerViews}
use Rattle.eap_method.specs.Steps.{Step, enters, step_with}
use Rattle.eap_method.specs.Tags.{Tags, no_tags}
use Rattle.eap_method.specs.declared.values.Report.{Report}
use Rattle.peer_machine.specs.Inputs.{PeerInput, peer_accepts}
use Rattle.peer_machine.specs.PeerTable as peers
use Rattle.peer_machine.specs.PeerTable.{PeerValue, PeerNow, PeerAnswer, initial_peer, peer_reports}
use Rattle.server_machine.specs.Inputs.{ServerInput, server_accepts}
use Rattle.server_machine.specs.ServerTable as servers
use Rattle.server_machine.specs.ServerTable.{ServerValue, ServerNow, ServerAnswer, is_started}
use Rattle.server_machine.specs.ServerTable.{initial_server, server_reports, server_start}
use Rattle.server_machine.specs.declared.variables.Role.TheVariants.{StandAlone}
use Rattle.server_machine.specs.Variables.{ServerVariables}
use Rattle.text_tables.specs.Fields.{◌>>=◌}
use Rattle.text_tables.specs.declared.fault.LineFault.{LineFault}
use Rattle.scenario_text.specs.Reading.{peer_setup_of, server_setup_of}
use Rattle.scenario_text.specs.declared.settings.Settings.{Settings}
use Rattle.end_pipe.specs.Inputs.{peer_input, server_input, is_skipped}
use Rattle.end_pipe.specs.declared.input.EndInput.{EndInput}
use Rattle.end_pipe.specs.declared.told.EndStep as brief

-- what an end does at its start or at an input: its machine's step, whether the input was skipped,
-- and a report that the end first has
pub record EndTold : Type 0 where
  pub step : Step
  pub skipped : Bool
  pub named : Option Report

-- the result of a call, with the packet and the records that it wrote
abbrev pub result_with : brief.EndStep → List ℕ → Tags → EndTold
result_with told packet tags =
    record { step = step_with told.step packet tags; skipped = told.skipped; named = told.named }

-- an end: what its machine is, and whether it has had a report
pub record EndNow (N : Type 0) : Type 0 where
  pub now : N
  pub held : Bool

-- the result of an input, and the end after it
pub record EndOutcome (N : Type 0) : Type 0 where
  pub told : EndTold
  pub after : EndNow N

abbrev pub outcome : {N : Type 0} → EndTold → EndNow N → EndOutcome N
outcome told after = record { told = told; after = after }

-- a skipped input changes nothing, and its result says nothing else
abbrev pub skips : {N : Type 0} → EndNow N → EndOutcome N
skips e = outcome (record { step = enters [] no_tags; skipped = true; named = None }) e

-- a report is named if the end first has one
abbrev pub first_report : Bool → Option Report → Option Report
first_report held report = if held then None else report

-- what a machine does at an input, and what it is then
pub record Moved (N : Type 0) : Type 0 where
  pub step : Step
  pub after : N

abbrev pub move_of : {N : Type 0} → Step → N → Moved N
move_of step after = record { step = step; after = after }

-- what settings begin: an end, and the result of its start, if it has one
pub record EndStart (N : Type 0) : Type 0 where
  pub told : Option EndTold
  pub after : EndNow N

-- a machine: what settings begin, what it does at each input, its state, and what it reports
pub record MachineTable (N : Type 0) : Type 0 where
  pub begins : Settings → Result (EndStart N) LineFault
  pub moves : N → EndInput → Moved N
  pub state : N → State
  pub reports : N → Option Report

-- the result says what the machine did, and a report is named if the end first has one
abbrev pub goes : {N : Type 0} → (N → Option Report) → Bool → Moved N → EndOutcome N
goes reports held out =
    let report = reports out.after in
    outcome (record { step = out.step; skipped = false; named = first_report held report })
    (record { now = out.after; held = held || is_some report })

-- an end at an input
unfoldable pub end_step : {N : Type 0} → MachineTable N → EndNow N → EndInput → EndOutcome N
end_step table e input = if is_skipped (table.state e.now) input then skips e
    else goes table.reports e.held (table.moves e.now input)

-- the peer

abbrev pub peer_answers : PeerNow → Option PeerInput → PeerAnswer
peer_answers now (Some input) = peer_accepts now input
peer_answers now None = peers.answer (enters [] no_tags) now

abbrev pub peer_moved : PeerAnswer → Moved PeerNow
peer_moved out = move_of out.step out.after

-- a peer that begins, of objects with these views
abbrev pub started_peer : PeerSetup → PeerViews → EndNow PeerNow
started_peer setup views = record { now = initial_peer setup views; held = false }

-- over lines it has an object of each of the two methods that it allows
abbrev pub peer_table : MachineTable PeerNow
peer_table = record {
  begins = λ settings. peer_setup_of settings >>= λ setup.
      Ok (record { told = None; after = started_peer setup (both_peers.both_of setup.methods) });
  moves = λ now input. peer_moved (peer_answers now (peer_input input));
  state = λ now. now.vars.state;
  reports = peer_reports;
}

abbrev pub peer_step : EndNow PeerNow → EndInput → EndOutcome PeerNow
peer_step = end_step peer_table

-- the server; its start is no input

abbrev pub server_answers : ServerNow → Option ServerInput → ServerAnswer
server_answers now (Some input) = server_accepts now input
server_answers now None = servers.answer (enters [] no_tags) now

abbrev pub server_moved : ServerAnswer → Moved ServerNow
server_moved out = move_of out.step out.after

abbrev pub server_unstarted : ServerSetup → ServerViews → ℕ → ℕ → EndNow ServerNow
server_unstarted setup views first_id max_retrans = record {
  now = initial_server StandAlone setup views first_id max_retrans;
  held = false;
}

unfoldable pub server_starts : EndNow ServerNow → EndOutcome ServerNow
server_starts e = goes server_reports e.held (server_moved (server_start e.now))

abbrev pub started_with : EndOutcome ServerNow → EndStart ServerNow
started_with out = record { told = Some out.told; after = out.after }

abbrev pub started_server : ServerSetup → ServerViews → ℕ → ℕ → EndNow ServerNow
started_server setup views first_id max_retrans =
    (server_starts (server_unstarted setup views first_id max_retrans)).after

abbrev pub server_table : MachineTable ServerNow
server_table = record {
  begins = λ settings.
      server_setup_of settings >>= λ setup.
      Ok (started_with (server_starts (server_unstarted setup (both_servers.both_of setup.methods)
      (unwrap_or settings.first_id 0) (unwrap_or settings.max_retrans 4))));
  moves = λ now input. server_moved (server_answers now (server_input input));
  state = λ now. now.vars.state;
  reports = server_reports;
}

abbrev pub server_step : EndNow ServerNow → EndInput → EndOutcome ServerNow
server_step = end_step server_table

-- an end that does this at an input
module _ {N : Type 0} (step : EndNow N → EndInput → EndOutcome N) where
  -- its state after inputs, one after the other, and the result of each
  unfoldable pub end_after : EndNow N → List EndInput → EndNow N
  end_after e [] = e
  end_after e (input ∷ rest) = end_after (step e input).after rest

  unfoldable pub told_of : EndNow N → List EndInput → List EndTold
  told_of e [] = []
  told_of e (input ∷ rest) = (step e input).told ∷ told_of (step e input).after rest

  -- an end that has begun so has had these inputs if it is as they have left it
  abbrev pub IsStateAfter : EndNow N → List EndInput → EndNow N → Type 0
  IsStateAfter begun inputs e = e ≡ end_after begun inputs

  -- one more input, and its result: that is the next of the results of the inputs, and the end has
  -- then had them all
  pub record HasContinued (begun : EndNow N) (inputs : List EndInput) (input : EndInput)
      (told : EndTold) (after : EndNow N) : Type 0 where
    pub next : told_of begun (inputs ++ input ∷ []) ≡ told_of begun inputs ++ told ∷ []
    pub stands : IsStateAfter begun (inputs ++ input ∷ []) after

abbrev pub IsPeerAfter : PeerSetup → PeerViews → List EndInput → EndNow PeerNow → Type 0
IsPeerAfter setup views = IsStateAfter peer_step (started_peer setup views)

-- a server that has started
abbrev pub IsServerAfter : ServerSetup → ServerViews → ℕ → ℕ → List EndInput
    → EndNow ServerNow → Type 0
IsServerAfter setup views first_id max_retrans =
    IsStateAfter server_step (started_server setup views first_id max_retrans)

-- a pipe as its fields show it, and what it is, if that of its machine is shown
pub record PipeValue (E : Type 0) : Type 0 where
  pub machine : E
  pub held : Bool

abbrev pub end_now : {E N : Type 0} → (E → N) → PipeValue E → EndNow N
end_now shown pipe = record { now = shown pipe.machine; held = pipe.held }

abbrev pub peer_end : {M : Type 0} → (M → PeerShown) → PipeValue (PeerValue M) → EndNow PeerNow
peer_end shown = end_now (peers.now_of shown)

abbrev pub server_end : {M : Type 0} → (M → ServerShown) → PipeValue (ServerValue M)
    → EndNow ServerNow
server_end shown = end_now (servers.now_of shown)

-- a stand-alone server that has started
pub record IsServing (vars : ServerVariables) : Type 0 where
  pub role : vars.role ≡ StandAlone
  pub started : is_started vars ≡ true
