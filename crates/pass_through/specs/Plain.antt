-- A step of the pass-through with a packet for each side, of which at most one is there.
use Rattle.std.specs.Prelude.{ℕ, List, Option, None}
use Rattle.eap_packet.specs.declared.cause.Cause.{Cause}
use Rattle.eap_packet.specs.declared.state.State.{State}
use Rattle.pass_through.specs.PassTable.{Side, Peer, Server, PassStep}

pub record PlainStep : Type 0 where
  pub path : List State
  pub cause : Option Cause
  pub to_peer : Option (List ℕ)
  pub to_server : Option (List ℕ)

-- what goes to the one side and to the other
abbrev pub for_peer : Side → Option (List ℕ) → Option (List ℕ)
for_peer Peer sent = sent
for_peer Server sent = None

abbrev pub for_server : Side → Option (List ℕ) → Option (List ℕ)
for_server Peer sent = None
for_server Server sent = sent

abbrev pub plain_step : PassStep → PlainStep
plain_step step = record {
  path = step.path;
  cause = step.cause;
  to_peer = for_peer step.to step.sent;
  to_server = for_server step.to step.sent;
}
