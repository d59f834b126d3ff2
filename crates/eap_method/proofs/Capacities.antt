-- A packet that is spelled has room for an Expanded Type where its Type-Data is short enough.
use Rattle.std.proofs.Common.{◌≡◌, ℕ, ◌≤◌, List, [], ◌∷◌, length, IsTrue, false, refl, arith}
use Rattle.eap_packet.specs.declared.packet.Code.{Code}
use Rattle.eap_packet.specs.declared.packet.Code.TheVariants as code
use Rattle.eap_packet.specs.Packet.{request, response, spelled, has_type, value_with}
use Rattle.eap_method.specs.Tags.{Tags}
use Rattle.eap_method.specs.declared.turn.ServerAnswer as brief
use Rattle.eap_method.specs.declared.turn.ServerAnswer.TheVariants as turn
use Rattle.eap_method.specs.ServerTurn.{ServerTurn, server_turn_with}
use Rattle.eap_method.specs.Capacity.{HasCapacity, requests}

pub request_has_capacity : (id kind : ℕ) (body : List ℕ) → length body ≤ 1488
    → HasCapacity (spelled (request id kind body))
unfolding spelled
request_has_capacity id kind body short =
    record { typed = omega arith; whole = omega arith; fits = omega (arith, short) }

pub response_has_capacity : (id kind : ℕ) (body : List ℕ) → length body ≤ 1488
    → HasCapacity (spelled (response id kind body))
unfolding spelled
response_has_capacity id kind body short =
    record { typed = omega arith; whole = omega arith; fits = omega (arith, short) }

-- the same of either
pub typed_has_capacity : (code : Code) (id kind : ℕ) (body : List ℕ) → IsTrue (has_type code)
    → length body ≤ 1488 →
    HasCapacity (spelled (value_with code id kind body))
typed_has_capacity code.Request id kind body typed short = request_has_capacity id kind body short
typed_has_capacity code.Response id kind body typed short = response_has_capacity id kind body short
typed_has_capacity code.Success id kind body typed short = cc
typed_has_capacity code.Failure id kind body typed short = cc

-- a turn that is the same whatever was written sends nothing
pub sends_nothing : (answer : brief.ServerAnswer) (tags : Tags) (made : ServerTurn) →
    ((packet : List ℕ) → server_turn_with answer packet tags ≡ made) → requests answer ≡ false
sends_nothing (turn.Discard cause) tags made same = refl
sends_nothing turn.Request tags made same =
    let none = same [] in
    let some = same (0 ∷ []) in
    cc
sends_nothing (turn.Done success) tags made same = refl
