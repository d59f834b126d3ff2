-- The pass-through's inputs, and what it does at each (RFC 4137 section 7).
use Rattle.std.specs.Prelude.{ℕ, List, [], if◌then◌else◌}
use Rattle.pass_through.specs.PassTable.{PassAnswer, answer, rests, is_started, has_timer}
use Rattle.pass_through.specs.PassTable.{is_aaa_idle, pass_start, pass_restart, pass_timeout}
use Rattle.pass_through.specs.PassTable.{pass_aaa_timeout, pass_aaa_noreq, pass_from_peer}
use Rattle.pass_through.specs.PassTable.{pass_from_backend}
use Rattle.pass_through.specs.declared.variables.PassVariables.{PassVariables}

-- the start, the end of the retransmission timer, a server that is lost or has nothing to ask, or
-- octets from either side
pub data PassInput : Type 0 where
  start : PassInput
  timeout : PassInput
  aaa_timeout : PassInput
  aaa_noreq : PassInput
  from_peer : List ℕ → PassInput
  from_backend : List ℕ → PassInput
  -- the pass-through restarts
  restart : PassInput

abbrev pub pass_rests : PassVariables → PassAnswer
pass_rests vars = answer (rests []) vars

-- out of place, all but octets does nothing
abbrev pub pass_accepts : PassVariables → PassInput → PassAnswer
pass_accepts vars start = if is_started vars.state then pass_rests vars else pass_start vars
pass_accepts vars timeout = if has_timer vars.state then pass_timeout vars else pass_rests vars
pass_accepts vars aaa_timeout =
    if is_aaa_idle vars.state then pass_aaa_timeout vars else pass_rests vars
pass_accepts vars aaa_noreq =
    if is_aaa_idle vars.state then pass_aaa_noreq vars else pass_rests vars
pass_accepts vars (from_peer octets) = pass_from_peer vars octets
pass_accepts vars (from_backend octets) = pass_from_backend vars octets
pass_accepts vars restart = pass_restart vars
