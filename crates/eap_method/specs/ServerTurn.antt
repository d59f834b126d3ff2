-- A server's whole answer to a Response of its method, with what it writes.
use Rattle.std.specs.Prelude.{ℕ, List, Bool}
use Rattle.eap_packet.specs.declared.cause.Cause.{Cause}
use Rattle.eap_method.specs.Tags.{Tags, no_tags}
use Rattle.eap_method.specs.declared.turn.ServerAnswer as brief
use Rattle.eap_method.specs.declared.turn.ServerAnswer.TheVariants as answer
use Rattle.eap_method.specs.declared.turn.ServerTurn as whole
use Rattle.eap_method.specs.declared.turn.ServerTurn.TheVariants as turn

-- a discard; the next Request; or the end of the method, with success or not; with the records of
-- the tags accepted and made
pub data ServerTurn : Type 0 where
  Discard : Cause → ServerTurn
  Request : List ℕ → Tags → ServerTurn
  Done : Bool → Tags → ServerTurn

-- the turn of a call that answers so, with the packet and the records that it wrote
abbrev pub server_turn_with : brief.ServerAnswer → List ℕ → Tags → ServerTurn
server_turn_with (answer.Discard cause) packet tags = Discard cause
server_turn_with answer.Request packet tags = Request packet tags
server_turn_with (answer.Done success) packet tags = Done success tags

-- the records of a turn; a discard has none
abbrev pub server_tags : ServerTurn → Tags
server_tags (Discard cause) = no_tags
server_tags (Request packet tags) = tags
server_tags (Done success tags) = tags

-- a turn that is answered whole
abbrev pub server_turn_of : whole.ServerTurn → ServerTurn
server_turn_of (turn.Discard cause) = Discard cause
server_turn_of (turn.Request packet tags) = Request packet tags
server_turn_of (turn.Done success tags) = Done success tags
