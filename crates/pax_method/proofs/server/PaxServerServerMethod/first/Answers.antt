use Rattle.std.proofs.Common.{ℕ, List, ap}
use Rattle.eap_method.specs.Server.{ServerShown, other, server_first_step}
use Rattle.eap_method.specs.Turns.{FirstOutcome}
use Rattle.pax_method.specs.PaxServer.{asks, pax_server}
use Rattle.pax_method.proofs.Steps.{first_in}
use Rattle.pax_method.proofs.server.PaxServerServerMethod.first.Goals as goal

pub returns-clause-first : goal.returns-clause-first
unfolding server_first_step asks
returns-clause-first c =
    rw (
      ← c.self.view_is,
      c.std_1_of-packet.ensures.packet,
      c.after_first-self-inside.ensures,
    )
    (ap (λ (out : FirstOutcome (List ℕ)). (let one : FirstOutcome ServerShown = record {
      packet = out.packet;
      after = other (pax_server c.self.inside.ak c.self.inside.server) out.after;
    } in one))
    (first_in c.self.inside.phase c.self.inside.login c.args.id c.self.invariant.0
    c.self.invariant.1 (rw (← c.self.view_is) at c.requires)))
