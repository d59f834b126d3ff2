-- The inputs of an end, and which input of its machine each is.
use Rattle.std.specs.Prelude.{Bool, true, false, ◌&&◌, not, Option, Some, None}
use Rattle.eap_packet.specs.declared.state.State.{State}
use Rattle.eap_method.specs.Steps.{is_end}
use Rattle.peer_machine.specs.Inputs as peer_inputs
use Rattle.peer_machine.specs.Inputs.{PeerInput}
use Rattle.server_machine.specs.Inputs as server_inputs
use Rattle.server_machine.specs.Inputs.{ServerInput}
use Rattle.end_pipe.specs.declared.input.EndInput.{EndInput}
use Rattle.end_pipe.specs.declared.input.EndInput.TheVariants as inputs

abbrev pub is_octets : EndInput → Bool
is_octets (inputs.Octets octets) = true
is_octets other = false

-- the input of the peer that it is; the end of a timer is none
abbrev pub peer_input : EndInput → Option PeerInput
peer_input (inputs.Octets octets) = Some (peer_inputs.octets octets)
peer_input inputs.Idle = Some peer_inputs.idle
peer_input inputs.AltAccept = Some peer_inputs.alt_accept
peer_input inputs.AltReject = Some peer_inputs.alt_reject
peer_input inputs.Timeout = None

-- the input of the server that it is; a report of the lower layer is none
abbrev pub server_input : EndInput → Option ServerInput
server_input (inputs.Octets octets) = Some (server_inputs.octets octets)
server_input inputs.Timeout = Some server_inputs.timeout
server_input other = None

abbrev pub is_of_peer : EndInput → Bool
is_of_peer inputs.Timeout = false
is_of_peer other = true

abbrev pub is_of_server : EndInput → Bool
is_of_server (inputs.Octets octets) = true
is_of_server inputs.Timeout = true
is_of_server other = false

-- after the end a timer and the lower layer have nothing to say
abbrev pub is_skipped : State → EndInput → Bool
is_skipped state input = not (is_octets input) && is_end state
