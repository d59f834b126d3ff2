-- What holds of each answer of a table, and of each delivery as it is heard, holds of all that an
-- end takes.
use Rattle.std.proofs.Common.{ℕ, List}
use Rattle.peer_machine.specs.Inputs as peer_inputs
use Rattle.peer_machine.specs.Inputs.{PeerInput, peer_answers, peer_accepts}
use Rattle.peer_machine.specs.PeerTable.{PeerNow, PeerAnswer}
use Rattle.peer_machine.proofs.Receiving.{PeerReceiving, peer_receives_so}
use Rattle.server_machine.specs.Inputs as server_inputs
use Rattle.server_machine.specs.Inputs.{ServerInput, server_answers, server_accepts}
use Rattle.server_machine.specs.ServerTable.{ServerNow, ServerAnswer}
use Rattle.server_machine.proofs.Receiving.{ServerReceiving, server_receives_so}

pub peer_accepted_tags : (now : PeerNow) (P : PeerInput → PeerAnswer → Type 0)
    → ((input : PeerInput) → P input (peer_answers now input))
    → ((bytes : List ℕ) (out : PeerAnswer) → PeerReceiving now bytes out
    → P (peer_inputs.octets bytes) out)
    → (input : PeerInput) → P input (peer_accepts now input)
peer_accepted_tags now P answers hears (peer_inputs.octets bytes) =
    hears bytes _ (peer_receives_so now bytes)
peer_accepted_tags now P answers hears peer_inputs.idle = answers peer_inputs.idle
peer_accepted_tags now P answers hears peer_inputs.alt_accept = answers peer_inputs.alt_accept
peer_accepted_tags now P answers hears peer_inputs.alt_reject = answers peer_inputs.alt_reject
peer_accepted_tags now P answers hears (peer_inputs.restart nonce) =
    answers (peer_inputs.restart nonce)

pub server_accepted_tags : (now : ServerNow) (P : ServerInput → ServerAnswer → Type 0)
    → ((input : ServerInput) → P input (server_answers now input))
    → ((bytes : List ℕ) (out : ServerAnswer) → ServerReceiving now bytes out
    → P (server_inputs.octets bytes) out)
    → (input : ServerInput) → P input (server_accepts now input)
server_accepted_tags now P answers hears server_inputs.start = answers server_inputs.start
server_accepted_tags now P answers hears server_inputs.timeout = answers server_inputs.timeout
server_accepted_tags now P answers hears (server_inputs.octets bytes) =
    hears bytes _ (server_receives_so now bytes)
server_accepted_tags now P answers hears (server_inputs.restart nonce) =
    answers (server_inputs.restart nonce)
