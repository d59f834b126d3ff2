-- The supplicant's inputs, and what it is after them.
use Rattle.std.specs.Prelude.{ℕ, List, [], ◌∷◌}
use Rattle.supplicant.specs.declared.settings.Control.{Control}
use Rattle.supplicant.specs.Table.{Answer, SupplicantNow, control_is_set, frame_comes, link_comes_up}
use Rattle.supplicant.specs.Table.{link_is_lost, second_goes_by, user_logs_off, user_logs_on}

pub data Input : Type 0 where
  link_up : Input
  link_down : Input
  -- octets of a frame, and a nonce
  frame : List ℕ → List ℕ → Input
  tick : Input
  logoff : Input
  logon : Input
  sets : Control → Input

abbrev pub accepts : SupplicantNow → Input → Answer
accepts now link_up = link_comes_up now
accepts now link_down = link_is_lost now
accepts now (frame octets nonce) = frame_comes octets nonce now
accepts now tick = second_goes_by now
accepts now logoff = user_logs_off now
accepts now logon = user_logs_on now
accepts now (sets by) = control_is_set by now

unfoldable pub after_inputs : SupplicantNow → List Input → SupplicantNow
after_inputs now [] = now
after_inputs now (input ∷ rest) = after_inputs (accepts now input).after rest
