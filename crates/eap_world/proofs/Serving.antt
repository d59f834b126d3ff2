-- The server of a world that has started has the role of the mode, and octets may come to it.
use Rattle.std.proofs.Common.{◌≡◌, List, false, Option, Some, None, refl, sym, subst, ◌∙◌}
use Rattle.login_setup.specs.declared.event.Event.{Event}
use Rattle.login_setup.specs.declared.setup.Mode.{Mode}
use Rattle.login_setup.specs.declared.setup.Mode.TheVariants as mode
use Rattle.server_machine.specs.Inputs.{server_accepts, start}
use Rattle.server_machine.specs.ServerTable.{ServerNow, is_started, server_start}
use Rattle.server_machine.specs.declared.variables.Role.TheVariants.{StandAlone}
use Rattle.server_machine.proofs.Starting.{backend_is_ready, stays_as_it_is}
use Rattle.eap_world.specs.Conversations.{Conversations}
use Rattle.eap_world.specs.Sent.{Sent}
use Rattle.eap_world.specs.World.{Acted, Action, Call, IsServing, Parties, act, act_with, call_of}
use Rattle.eap_world.specs.World.{act_of_call, called_unless, first_skip}
use Rattle.eap_world.specs.World.{role_in, skip_table, start_call, to_pass, to_peer, to_server}
use Rattle.eap_world.specs.declared.told.Skip.{Skip}

-- the server after a start or an event serves in the mode that it left
abbrev Serves : Acted → Type 0
Serves out = IsServing out.after.mode out.after.server.vars

call_serves : (parties : Parties) (call : Call) → IsServing parties.mode parties.server.vars
    → Serves (act_of_call parties call)
call_serves parties (to_peer input) serving = serving
call_serves parties (to_server input) serving =
    let same = stays_as_it_is parties.server input in
    record { role = same.role ∙ serving.role; ready = same.ready serving.ready }
call_serves parties (to_pass input) serving = serving

unless_serves : (parties : Parties) (skip : Option Skip) (call : Option Call)
    → IsServing parties.mode parties.server.vars
    → Serves (called_unless parties skip call)
unless_serves parties (Some skip) call serving = serving
unless_serves parties None None serving = serving
unless_serves parties None (Some call) serving = call_serves parties call serving

pub act_serves : (parties after : Parties) (conversations : Conversations) (sent : List Sent)
    (e : Event) (action : Action)
    → act parties conversations sent e ≡ act_with action after
    → IsServing parties.mode parties.server.vars → IsServing after.mode after.server.vars
unfolding act
act_serves parties after conversations sent e action is serving =
    subst Serves is (unless_serves parties (first_skip (skip_table parties conversations sent e))
    (call_of conversations sent e) serving)

-- the stand-alone server starts
alone_starts : (server : ServerNow) → server.vars.role ≡ StandAlone → is_started server.vars ≡ false
    → IsServing mode.Alone (server_accepts server start).after.vars
unfolding server_start
alone_starts server alone unstarted = rw unstarted (record { role = alone; ready = rw alone refl })

-- or the pass-through before the backend
begins : (runs : Mode) (parties : Parties) → parties.server.vars.role ≡ role_in runs
    → is_started parties.server.vars ≡ false
    → IsServing runs (act_of_call parties (start_call runs)).after.server.vars
begins mode.Alone parties role unstarted = alone_starts parties.server role unstarted
begins mode.Through parties role unstarted =
    record { role = role; ready = backend_is_ready parties.server.vars role }

mode_stays : (parties : Parties) (call : Call) → (act_of_call parties call).after.mode
    ≡ parties.mode
mode_stays parties (to_peer input) = refl
mode_stays parties (to_server input) = refl
mode_stays parties (to_pass input) = refl

pub start_serves : (parties after : Parties) (action : Action)
    → act_of_call parties (start_call parties.mode) ≡ act_with action after
    → parties.server.vars.role ≡ role_in parties.mode → is_started parties.server.vars ≡ false
    → IsServing after.mode after.server.vars
start_serves parties after action is role unstarted =
    subst Serves is
    (subst (λ (runs : Mode).
    IsServing runs (act_of_call parties (start_call parties.mode)).after.server.vars)
    (sym (mode_stays parties (start_call parties.mode)))
    (begins parties.mode parties role unstarted))
