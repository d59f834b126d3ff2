-- What the pass-through makes of octets goes to one side, and is nothing new if it sends nothing.
use Rattle.std.proofs.Common.{◌≡◌, ℕ, List, None, refl}
use Rattle.pass_through.specs.Inputs.{from_peer, from_backend}
use Rattle.pass_through.specs.PassTable.{Side, Peer, Server, PassAnswer, pass_from_peer}
use Rattle.pass_through.specs.PassTable.{pass_from_backend}
use Rattle.pass_through.specs.Rows.{PassRow, stays, drops_of_peer, drops_of_server, passes_identity}
use Rattle.pass_through.specs.Rows.{passes_response, passes_request, passes_success, passes_failure}
use Rattle.pass_through.specs.declared.variables.PassVariables.{PassVariables}
use Rattle.pass_through.proofs.PassRows.{pass_answers_are_rows}

pub record IsForwarding (vars : PassVariables) (to : Side) (out : PassAnswer) : Type 0 where
  pub side : out.step.to ≡ to
  pub unchanged : out.step.sent ≡ None → out.after ≡ vars

of_peer : (vars : PassVariables) (octets : List ℕ) (out : PassAnswer)
    → PassRow vars (from_peer octets) out → IsForwarding vars Server out
of_peer vars octets _ (stays _ why) = elim why [ ]
of_peer vars octets _ (drops_of_peer _ path c why) = record { side = refl; unchanged = λ _. refl }
of_peer vars octets _ (passes_identity _ id body stands is_packet is_id) =
    record { side = refl; unchanged = λ none. cc none }
of_peer vars octets _ (passes_response _ id kind body stands is_packet is_id) =
    record { side = refl; unchanged = λ none. cc none }

of_backend : (vars : PassVariables) (octets : List ℕ) (out : PassAnswer)
    → PassRow vars (from_backend octets) out → IsForwarding vars Peer out
of_backend vars octets _ (stays _ why) = elim why [ ]
of_backend vars octets _ (drops_of_server _ path c why) =
    record { side = refl; unchanged = λ _. refl }
of_backend vars octets _ (passes_request _ id kind body stands is_packet) =
    record { side = refl; unchanged = λ none. cc none }
of_backend vars octets _ (passes_success _ id stands is_packet) =
    record { side = refl; unchanged = λ none. cc none }
of_backend vars octets _ (passes_failure _ id stands is_packet) =
    record { side = refl; unchanged = λ none. cc none }

pub from_peer_forwards : (vars : PassVariables) (octets : List ℕ)
    → IsForwarding vars Server (pass_from_peer vars octets)
from_peer_forwards vars octets =
    of_peer vars octets _ (pass_answers_are_rows vars (from_peer octets))

pub from_backend_forwards : (vars : PassVariables) (octets : List ℕ)
    → IsForwarding vars Peer (pass_from_backend vars octets)
from_backend_forwards vars octets =
    of_backend vars octets _ (pass_answers_are_rows vars (from_backend octets))
