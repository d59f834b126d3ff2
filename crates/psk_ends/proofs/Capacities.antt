-- The packets of messages have room for an Expanded Type.
use Rattle.std.proofs.Common.{◌≡◌, ◌∙◌, ℕ, ◌+◌, ◌-◌, ◌≤◌, List, [], ◌∷◌, ◌++◌, length, take, subst}
use Rattle.std.proofs.Common.{arith}
use Rattle.eap_packet.specs.Packet.{spelled}
use Rattle.psk_messages.specs.Message.{Message, psk3, psk4, size_of}
use Rattle.psk_messages.specs.Message as messages
use Rattle.psk_messages.proofs.Grammar.{encodings_are_sized}
use Rattle.eap_method.specs.Capacity.{HasCapacity}
use Rattle.eap_method.specs.PskTags.{psk_request, psk_response, blank_tag}
use Rattle.eap_method.proofs.Capacities.{request_has_capacity, response_has_capacity}
use Rattle.psk_ends.proofs.Filled.{filled3, filled4}

pub capacity_in_request : (id : ℕ) (message : Message) (packet : List ℕ) → size_of message ≤ 1488
    → packet ≡ psk_request id message → HasCapacity packet
capacity_in_request id message packet short e =
    rw e (request_has_capacity id 47 (messages.spelled message)
    (omega (arith, short, encodings_are_sized message)))

pub capacity_in_response : (id : ℕ) (message : Message) (packet : List ℕ) → size_of message ≤ 1488
    → packet ≡ psk_response id message → HasCapacity packet
capacity_in_response id message packet short e =
    rw e (response_has_capacity id 47 (messages.spelled message)
    (omega (arith, short, encodings_are_sized message)))

-- the size of PSK-3 whose PCHANNEL is blank
short3 : (id : ℕ) (rand_s mac : List ℕ) → HasCapacity (psk_request id
    (psk3 rand_s mac 0 blank_tag 0)) → length rand_s + length mac + 22 ≤ 1488
unfolding spelled
short3 id rand_s mac room =
    omega (arith, room.fits, encodings_are_sized (psk3 rand_s mac 0 blank_tag 0))

-- it has as many octets as the one whose PCHANNEL is filled in
pub capacity_filled3 : (id : ℕ) (rand_s mac tag blank packet : List ℕ) (sealed : ℕ)
    → length tag ≡ 16 → HasCapacity blank →
    blank ≡ psk_request id (psk3 rand_s mac 0 blank_tag 0)
    → packet ≡ take (length blank - 17) blank ++ (tag ++ sealed ∷ []) → HasCapacity packet
capacity_filled3 id rand_s mac tag blank packet sealed sixteen room b p =
    let short = short3 id rand_s mac (subst HasCapacity b room) in
    capacity_in_request id (psk3 rand_s mac 0 tag sealed) packet (omega (arith, short, sixteen))
    (p ∙ rw b (filled3 id rand_s mac tag sealed sixteen))

-- the same of PSK-4
short4 : (id : ℕ) (rand_s : List ℕ) → HasCapacity (psk_response id (psk4 rand_s 1 blank_tag 0))
    → length rand_s + 22 ≤ 1488
unfolding spelled
short4 id rand_s room = omega (arith, room.fits, encodings_are_sized (psk4 rand_s 1 blank_tag 0))

pub capacity_filled4 : (id : ℕ) (rand_s tag blank packet : List ℕ) (sealed : ℕ) → length tag ≡ 16
    → HasCapacity blank →
    blank ≡ psk_response id (psk4 rand_s 1 blank_tag 0)
    → packet ≡ take (length blank - 17) blank ++ (tag ++ sealed ∷ []) → HasCapacity packet
capacity_filled4 id rand_s tag blank packet sealed sixteen room b p =
    let short = short4 id rand_s (subst HasCapacity b room) in
    capacity_in_response id (psk4 rand_s 1 tag sealed) packet (omega (arith, short, sixteen))
    (p ∙ rw b (filled4 id rand_s tag sealed sixteen))
