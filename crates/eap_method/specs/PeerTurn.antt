-- A peer's whole answer to a Request of its method, with what it writes.
use Rattle.std.specs.Prelude.{ℕ, List}
use Rattle.eap_packet.specs.declared.cause.Cause.{Cause}
use Rattle.eap_method.specs.Tags.{Tags, no_tags}
use Rattle.eap_method.specs.declared.turn.PeerAnswer as brief
use Rattle.eap_method.specs.declared.turn.PeerAnswer.TheVariants as answer
use Rattle.eap_method.specs.declared.turn.PeerTurn as whole
use Rattle.eap_method.specs.declared.turn.PeerTurn.TheVariants as turn
use Rattle.eap_method.specs.declared.values.MethodState.{MethodState}
use Rattle.eap_method.specs.declared.values.Decision.{Decision}

-- a discard; or a Response, the methodState and the decision after it, and the records of the tags
-- accepted and made
pub data PeerTurn : Type 0 where
  Discard : Cause → PeerTurn
  Reply : List ℕ → MethodState → Decision → Tags → PeerTurn

-- the turn of a call that answers so, with the packet and the records that it wrote
abbrev pub peer_turn_with : brief.PeerAnswer → List ℕ → Tags → PeerTurn
peer_turn_with (answer.Discard cause) packet tags = Discard cause
peer_turn_with (answer.Reply state decision) packet tags = Reply packet state decision tags

-- the records of a turn; a discard has none
abbrev pub peer_tags : PeerTurn → Tags
peer_tags (Discard cause) = no_tags
peer_tags (Reply packet state decision tags) = tags

-- a turn that is answered whole
abbrev pub peer_turn_of : whole.PeerTurn → PeerTurn
peer_turn_of (turn.Discard cause) = Discard cause
peer_turn_of (turn.Reply packet state decision tags) = Reply packet state decision tags
