-- The state of a server of EAP-PSK, and its state after a call, as its definition says it.
use Rattle.std.specs.Prelude.{ℕ, List, [], false, Option, Some, None, Result, Ok, Err}
use Rattle.eap_packet.specs.declared.cause.Cause.{Cause}
use Rattle.eap_method.specs.Tags.{Tags}
use Rattle.eap_method.specs.declared.turn.ServerAnswer as brief
use Rattle.eap_method.specs.ServerTurn.{server_turn_with}
use Rattle.eap_method.specs.PskServer.{View, Login, unset, begun, asked, checked, refused, over}
use Rattle.eap_method.specs.PskServer.{r_for, answers}
use Rattle.eap_method.specs.Turns.{ServerOutcome, dropped, done}
use Rattle.psk_ends.specs.declared.server.login.Initial.{Initial}
use Rattle.psk_ends.specs.declared.server.login.UserPsk2.{UserPsk2}
use Rattle.psk_ends.specs.declared.server.stage.EarlyPhase.{EarlyPhase}
use Rattle.psk_ends.specs.declared.server.stage.EarlyPhase.TheVariants as early
use Rattle.psk_ends.specs.declared.server.stage.KnownPhase.{KnownPhase}
use Rattle.psk_ends.specs.declared.server.stage.KnownPhase.TheVariants as known
use Rattle.psk_ends.specs.declared.server.stage.Stage.{Stage}
use Rattle.psk_ends.specs.declared.server.stage.Stage.TheVariants as stage

-- the state of a server without a login
abbrev pub in_early : EarlyPhase → Initial → View
in_early early.Initial own = begun own.side own.nonce
in_early early.Asked own = asked own.side own.nonce
in_early early.Refused own = refused own.side own.nonce

-- the state of a server with a login
abbrev pub in_known : KnownPhase → Login → View
in_known known.Checked login = checked login
in_known (known.Over success) login = over login success

-- the server's state
abbrev pub view_of : Stage → View
view_of stage.Unset = unset
view_of (stage.Early own phase) = in_early phase own
view_of (stage.Known login phase) = in_known phase login

-- a turn with what it wrote, and the server's state after it
abbrev pub outcome_with : brief.ServerAnswer → List ℕ → Tags → View → ServerOutcome View
outcome_with turn packet tags
    after = record { turn = server_turn_with turn packet tags; after = after }

-- the login that begins with PSK-2
abbrev pub login_with : Initial → UserPsk2 → Login
login_with own found = record {
  own = own.side;
  nonce = own.nonce;
  id_p = found.psk2.id_p.now;
  psk = found.user.now.psk;
  rand_p = found.psk2.rand_p;
  r = r_for found.user.now.barred;
}

-- what a server that has sent PSK-1 makes of the PSK-2 that it accepts, of one without a user, or
-- of the cause why it accepts none
abbrev pub asked_with : Initial → ℕ → Result (Option UserPsk2) Cause → ServerOutcome View
asked_with own next_id (Err cause) = dropped (asked own.side own.nonce) cause
asked_with own next_id (Ok None) = done (refused own.side own.nonce) false []
asked_with own next_id (Ok (Some found)) = answers (login_with own found) next_id found.psk2.mac
