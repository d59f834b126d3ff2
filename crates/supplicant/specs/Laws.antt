-- Laws of the supplicant, over any inputs.
use Rattle.std.specs.Prelude.{◌≡◌, ℕ, List, Bool, true, false, IsSome, is_some, Some}
use Rattle.peer_machine.specs.Expanded.{peer_receives}
use Rattle.peer_machine.specs.Inputs.{octets, peer_accepts, restart}
use Rattle.peer_machine.specs.PeerTable.{PeerNow, peer_reports}
use Rattle.supplicant.specs.declared.settings.Limits.{Limits}
use Rattle.supplicant.specs.declared.settings.Control.{Control}
use Rattle.supplicant.specs.declared.settings.PaeState.TheVariants as pae
use Rattle.supplicant.specs.Table.{Answer, SupplicantNow, initial_supplicant, logoff_frame}
use Rattle.supplicant.specs.Table.{packet_frame, start_frame}
use Rattle.supplicant.specs.Runs.{Input, accepts, after_inputs}

-- a supplicant that is AUTHENTICATED has a report, unless its settings open an unanswered port
abbrev pub AuthenticatedReports : Type 0
AuthenticatedReports =
    (limits : Limits) (by : Control) (peer : PeerNow) (came : List Input)
    → limits.port_valid ≡ false
    → (after_inputs (initial_supplicant limits by peer) came).state ≡ pae.Authenticated
    → is_some (peer_reports (after_inputs (initial_supplicant limits by peer) came).peer) ≡ true

-- what is discarded, and took no nonce, changes nothing
abbrev pub DiscardsChangeNothing : Type 0
DiscardsChangeNothing =
    (now : SupplicantNow) (input : Input) → IsSome (accepts now input).step.cause
    → (accepts now input).step.took ≡ false → (accepts now input).after ≡ now

-- what is sent is an EAPOL-Start, an EAPOL-Logoff, or a Response with which the peer answers a
-- packet
pub data IsOwnFrame : List ℕ → Type 0 where
  is_start : IsOwnFrame start_frame
  is_logoff : IsOwnFrame logoff_frame
  is_response : (peer : PeerNow) (came octets : List ℕ)
      → (peer_receives peer came).step.sent ≡ Some octets → IsOwnFrame (packet_frame octets)

abbrev pub SendsOwnFrames : Type 0
SendsOwnFrames =
    (now : SupplicantNow) (input : Input) (octets : List ℕ)
    → (accepts now input).step.sent ≡ Some octets → IsOwnFrame octets

-- what an input brings to the peer: nothing; a packet; or a new conversation with the nonce, and its
-- first packet
pub data Brings (peer after : PeerNow) : Type 0 where
  nothing : (same : after ≡ peer) → Brings peer after
  packet : (came : List ℕ) (step : after ≡ (peer_accepts peer (octets came)).after)
      → Brings peer after
  login : (nonce came : List ℕ) (step : after
      ≡ (peer_accepts (peer_accepts peer (restart nonce)).after (octets came)).after)
      → Brings peer after

-- the peer is an end alone: each call brings it inputs of its own table
abbrev pub PeerIsAnEnd : Type 0
PeerIsAnEnd =
    (now : SupplicantNow) (input : Input) → Brings now.peer (accepts now input).after.peer
