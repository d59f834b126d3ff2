-- Worked values of the definitions.
use Rattle.std.proofs.Common.{◌≡◌, ℕ, List, length, [], ◌∷◌, Some, None, Ok, refl, arith}
use Rattle.std.proofs.lemmas.Bool.Decides.{nat_tests}
use Rattle.eap_packet.specs.Packet.{request, response, success, failure, spelled}
use Rattle.eap_packet.specs.Fault.{fault, packet_of}
use Rattle.eap_packet.specs.declared.cause.Cause.TheVariants.{Short, BadCode, BadLength, Truncated}
use Rattle.eap_packet.specs.declared.cause.Cause.TheVariants.{TooLong, NakRequest, BadNak}

-- the first cause, one row each
short : fault (1 ∷ 2 ∷ 3 ∷ []) ≡ Some Short
unfolding fault
short = refl

bad_code : fault (5 ∷ 0 ∷ 0 ∷ 4 ∷ []) ≡ Some BadCode
unfolding fault
bad_code = refl

-- a Request has a Type
no_type : fault (1 ∷ 0 ∷ 0 ∷ 4 ∷ []) ≡ Some BadLength
unfolding fault
no_type = refl

truncated : fault (1 ∷ 0 ∷ 0 ∷ 10 ∷ 1 ∷ []) ≡ Some Truncated
unfolding fault
truncated = refl

-- a Success has no Type
success_of_five : fault (3 ∷ 2 ∷ 0 ∷ 5 ∷ 0 ∷ []) ≡ Some BadLength
unfolding fault
success_of_five = refl

-- at 1,500 octets nothing is wrong, at 1,501 the Length is
longest : (rest : List ℕ) → length rest ≡ 1495 → fault (1 ∷ 0 ∷ 5 ∷ 220 ∷ 1 ∷ rest) ≡ None
unfolding fault
longest rest size = grind (arith, nat_tests)

too_long : (rest : List ℕ) → length rest ≡ 1496 → fault (1 ∷ 0 ∷ 5 ∷ 221 ∷ 1 ∷ rest) ≡ Some TooLong
unfolding fault
too_long rest size = grind (arith, nat_tests)

nak_request : fault (1 ∷ 0 ∷ 0 ∷ 5 ∷ 3 ∷ []) ≡ Some NakRequest
unfolding fault
nak_request = refl

bad_nak : fault (2 ∷ 0 ∷ 0 ∷ 5 ∷ 3 ∷ []) ≡ Some BadNak
unfolding fault
bad_nak = refl

-- the octets past Length are ignored
padded : packet_of (2 ∷ 7 ∷ 0 ∷ 7 ∷ 1 ∷ 97 ∷ 98 ∷ 255 ∷ 255 ∷ []) ≡ Ok (response 7 1 (97 ∷ 98 ∷ []))
unfolding packet_of fault
padded = refl

-- one spelling of each Code
a_request : spelled (request 9 1 []) ≡ 1 ∷ 9 ∷ 0 ∷ 5 ∷ 1 ∷ []
unfolding spelled
a_request = refl

a_response : spelled (response 7 1 (97 ∷ 98 ∷ [])) ≡ 2 ∷ 7 ∷ 0 ∷ 7 ∷ 1 ∷ 97 ∷ 98 ∷ []
unfolding spelled
a_response = refl

a_success : spelled (success 7) ≡ 3 ∷ 7 ∷ 0 ∷ 4 ∷ []
unfolding spelled
a_success = refl

a_failure : spelled (failure 255) ≡ 4 ∷ 255 ∷ 0 ∷ 4 ∷ []
unfolding spelled
a_failure = refl
