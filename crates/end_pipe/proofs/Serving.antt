-- A stand-alone server that has started stays one, whatever comes to it.
use Rattle.std.proofs.Common.{◌≡◌, Option, Some, None, true, false, refl, ◌∙◌, subst}
use Rattle.std.proofs.lemmas.Bool.{or_right}
use Rattle.server_machine.specs.Inputs.{ServerInput, server_accepts, timeout}
use Rattle.server_machine.specs.ServerTable.{ServerAnswer, ServerNow, answer, is_backend, is_ready}
use Rattle.server_machine.specs.ServerTable.{is_started, server_start, server_timeout}
use Rattle.server_machine.specs.declared.variables.Role.TheVariants.{StandAlone}
use Rattle.server_machine.specs.Variables.{ServerVariables}
use Rattle.server_machine.proofs.Starting.{stays_as_it_is}
use Rattle.eap_method.specs.Steps.{Step, is_end}
use Rattle.end_pipe.specs.EndRun.{IsServing, server_answers}

-- a stand-alone server to which octets may come has started
started_if : (vars : ServerVariables) → vars.role ≡ StandAlone → is_ready vars ≡ true
    → is_started vars ≡ true
started_if vars alone ready = rw alone at ready

serves : (now : ServerNow) (input : Option ServerInput) → IsServing now.vars
    → IsServing (server_answers now input).after.vars
serves now None serving = serving
serves now (Some input) serving =
    let same = stays_as_it_is now input in
    let alone = same.role ∙ serving.role in
    record {
      role = alone;
      started = started_if (server_accepts now input).after.vars alone
          (same.ready (or_right (is_backend now.vars) (is_started now.vars) serving.started));
    }

pub still_serves : (now after : ServerNow) (input : Option ServerInput) (step : Step)
    → server_answers now input ≡ answer step after → IsServing now.vars
    → IsServing after.vars
still_serves now after input step is serving =
    subst (λ (out : ServerAnswer). IsServing out.after.vars) is (serves now input serving)

pub timer_serves : (now after : ServerNow) (step : Step) → is_end now.vars.state ≡ false
    → server_timeout now ≡ answer step after → IsServing now.vars
    → IsServing after.vars
timer_serves now after step going is serving =
    still_serves now after (Some timeout) step (rw going is) serving

pub start_serves : (now after : ServerNow) (step : Step) → now.vars.role ≡ StandAlone
    → server_start now ≡ answer step after → IsServing after.vars
unfolding server_start
start_serves now after step role is = subst (λ (out : ServerAnswer). IsServing out.after.vars) is
    (record { role = role; started = refl })
