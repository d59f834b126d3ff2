-- What a login server answers: to whom, and by which reply.
use Rattle.std.specs.Prelude.{◌≡◌, ℕ, List, Option, None, Ok}
use Rattle.eap_packet.specs.declared.state.State.{State}
use Rattle.eap_packet.specs.declared.state.State.TheVariants as state
use Rattle.eap_method.specs.declared.values.Report.{Report}
use Rattle.radius_carry.specs.Fault.{packet_of}
use Rattle.radius_carry.specs.Packet.{RadiusPacket, number_of, spelled}
use Rattle.radius_carry.specs.Tags.{IsGoodRequest}
use Rattle.radius_carry.specs.Written.{reply_of}
use Rattle.radius_carry.specs.declared.view.RadiusKind.{RadiusKind}
use Rattle.radius_carry.specs.declared.view.RadiusKind.TheVariants.{Accept, Reject, Challenge}

-- a datagram is the request of one who knows the secret
pub record IsRequestUnder (secret datagram : List ℕ) (request : RadiusPacket) : Type 0 where
  pub read : packet_of datagram ≡ Ok request
  pub good : IsGoodRequest secret request

-- the reply that a backend's state calls for (RFC 3579 section 2.1)
abbrev pub reply_kind : State → RadiusKind
reply_kind s = elim s [ state.Success ↦ Accept | state.Failure ↦ Reject | _ ↦ Challenge ]

-- the datagram that answers a request with this EAP packet, from a backend in this state
abbrev pub answer_to : List ℕ → RadiusPacket → State → List ℕ → List ℕ → List ℕ
answer_to secret request s state eap =
    spelled (reply_of secret (number_of (reply_kind s)) request.id request.authenticator state eap)

-- what a login that succeeded gives
abbrev pub report_in : State → Option Report → Option Report
report_in s report = elim s [ state.Success ↦ report | _ ↦ None ]
