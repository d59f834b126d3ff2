-- A decoded Response is one that its method may be handed.
use Rattle.std.proofs.Common.{◌≡◌, ℕ, List}
use Rattle.eap_packet.specs.Packet.{value_with, spelled, IsPacket}
use Rattle.eap_packet.specs.declared.packet.Code.{Code}
use Rattle.eap_packet.specs.declared.packet.Code.TheVariants.{Request, Response, Success, Failure}
use Rattle.eap_method.specs.Server.{IsResponse}

pub is_response : (code : Code) (id kind : ℕ) (body whole : List ℕ) → code ≡ Response
    → IsPacket (value_with code id kind body)
    → whole ≡ spelled (value_with code id kind body) → IsResponse kind whole
is_response Request id kind body whole is_code packet encoding_of = cc
is_response Response id kind body whole is_code packet encoding_of =
    record { id = id; body = body; packet = packet; encoding_of = encoding_of }
is_response Success id kind body whole is_code packet encoding_of = cc
is_response Failure id kind body whole is_code packet encoding_of = cc
