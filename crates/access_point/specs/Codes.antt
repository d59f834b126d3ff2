-- Which Code a reply of the server has, by the EAP packet that it carries.
use Rattle.std.specs.Prelude.{ℕ, ◌==◌, Bool, false, Result, Ok, Err}
use Rattle.eap_packet.specs.Packet.{PacketValue, request, response, success, failure}
use Rattle.eap_packet.specs.declared.cause.Cause.{Cause}

-- whether a reply of this Code says what its packet says (RFC 3579 section 2.6.3): a Challenge a
-- Request, an Accept a Success, a Reject a Failure
abbrev pub code_matches : ℕ → Result PacketValue Cause → Bool
code_matches code (Ok (request id kind body)) = code == 11
code_matches code (Ok (response id kind body)) = false
code_matches code (Ok (success id)) = code == 2
code_matches code (Ok (failure id)) = code == 3
code_matches code (Err cause) = false
