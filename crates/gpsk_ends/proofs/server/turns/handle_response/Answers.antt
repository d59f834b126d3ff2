use Rattle.std.proofs.Common.{ap}
use Rattle.eap_method.proofs.Capacities.{sends_nothing}
use Rattle.gpsk_ends.proofs.server.turns.handle_response.Goals as goal

pub returns-in-Refusing-clause-capacity : goal.returns-in-Refusing-clause-capacity
returns-in-Refusing-clause-capacity g c = λ sent.
    let reads = c.refusing_reads in
    let none = sends_nothing reads.result reads.new.tags _ (λ packet. ap (λ out. out.turn)
    (reads.ensures c.stage.inside.own.side c.stage.inside.own.nonce packet)) in
    cc

pub returns-in-Login-clause-capacity : goal.returns-in-Login-clause-capacity
returns-in-Login-clause-capacity g c = λ sent.
    let reads = c.login_reads in
    let none = sends_nothing reads.result reads.new.tags _
    (λ packet. ap (λ out. out.turn) (reads.ensures packet)) in
    cc
