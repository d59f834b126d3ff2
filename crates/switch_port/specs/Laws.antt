-- Who opens a port in mode Auto, and what a discard changes.
use Rattle.std.specs.Prelude.{◌≡◌, ℕ, List, [], ◌∷◌, Bool, true, Ok}
use Rattle.eap_packet.specs.Packet.{success}
use Rattle.eap_packet.specs.Fault.{packet_of}
use Rattle.pass_through.specs.PassTable.{is_aaa_idle}
use Rattle.pass_through.specs.declared.variables.PassVariables.{PassVariables}
use Rattle.switch_port.specs.declared.settings.PortControl.{PortControl}
use Rattle.switch_port.specs.declared.settings.PortControl.TheVariants.{Auto}
use Rattle.switch_port.specs.declared.settings.PortLimits.{PortLimits}
use Rattle.switch_port.specs.declared.step.PortCause.{PortCause}
use Rattle.switch_port.specs.declared.step.ServerAnswer.{ServerAnswer}
use Rattle.switch_port.specs.declared.step.ServerAnswer.TheVariants.{Accept}
use Rattle.switch_port.specs.Port.{PortAnswer, PortVariables, discarded, initial_port, port_answer}
use Rattle.switch_port.specs.Port.{port_control, port_frame, port_link, port_reauthenticate}
use Rattle.switch_port.specs.Port.{port_server_lost, port_tick}

-- all that comes to a port
pub data PortInput : Type 0 where
  link : Bool → PortInput
  -- the station's octets
  frame : List ℕ → PortInput
  -- a second has gone by
  tick : PortInput
  -- an answer to the outstanding request, with its EAP packet; no answer comes any more
  answered : ServerAnswer → List ℕ → PortInput
  server_lost : PortInput
  -- the management sets the control, or asks for a reauthentication
  sets : PortControl → PortInput
  reauthenticates : PortInput

abbrev pub port_accepts : PortVariables → PortInput → PortAnswer
port_accepts port (link up) = port_link port up
port_accepts port (frame octets) = port_frame port octets
port_accepts port tick = port_tick port
port_accepts port (answered code octets) = port_answer port code octets
port_accepts port server_lost = port_server_lost port
port_accepts port (sets control) = port_control port control
port_accepts port reauthenticates = port_reauthenticate port

unfoldable pub port_after : PortVariables → List PortInput → PortVariables
port_after port [] = port
port_after port (input ∷ rest) = port_after (port_accepts port input).after rest

-- the port is open, under the control of logins
pub record IsOpen (port : PortVariables) : Type 0 where
  pub opened : port.authorized ≡ true
  pub auto : port.control ≡ Auto

-- this input lets the station in: an Access-Accept with a Success, while the server was waited for
pub data LetsIn (port : PortVariables) : PortInput → Type 0 where
  by_accept : (octets : List ℕ) (id : ℕ) (asked : is_aaa_idle port.pass.state ≡ true)
      (is_success : packet_of octets ≡ Ok (success id)) → LetsIn port (answered Accept octets)

-- at each moment from here on
pub data StaysOpen : PortVariables → List PortInput → Type 0 where
  still : (port : PortVariables) (is : IsOpen port) → StaysOpen port []
  goes_on : (port : PortVariables) (input : PortInput) (rest : List PortInput) (is : IsOpen port)
      (on : StaysOpen (port_accepts port input).after rest) → StaysOpen port (input ∷ rest)

-- some input of the run let it in, and the port has been open since
pub data WasLetIn : PortVariables → List PortInput → Type 0 where
  now : (port : PortVariables) (input : PortInput) (rest : List PortInput) (by : LetsIn port input)
      (since : StaysOpen (port_accepts port input).after rest) → WasLetIn port (input ∷ rest)
  later : (port : PortVariables) (input : PortInput) (rest : List PortInput)
      (in_rest : WasLetIn (port_accepts port input).after rest) → WasLetIn port (input ∷ rest)

abbrev pub OpensOnlyByAccept : Type 0
OpensOnlyByAccept =
    (limits : PortLimits) (control : PortControl) (pass : PassVariables) (came : List PortInput)
    → IsOpen (port_after (initial_port limits control pass) came)
    → WasLetIn (initial_port limits control pass) came

-- a discard changes no variable; a step that is a discard sends nothing
abbrev pub DiscardsChangeNothing : Type 0
DiscardsChangeNothing =
    (port : PortVariables) (input : PortInput) (c : PortCause)
    → (port_accepts port input).step ≡ discarded c → (port_accepts port input).after ≡ port
