-- The Identifier of a packet is the second octet of what begins with it, and of its plain form.
use Rattle.std.proofs.Common.{◌≡◌, ℕ, List, ◌-◌, take, drop, slice_index, Ok, refl, ap, ◌∙◌, sym}
use Rattle.std.specs.Prelude.{◌==◌}
use Rattle.std.proofs.lemmas.Bool.{cond_both}
use Rattle.eap_packet.specs.declared.packet.Code.{Code}
use Rattle.eap_packet.specs.declared.packet.Code.TheVariants.{Request, Response, Success, Failure}
use Rattle.eap_packet.specs.Packet.{PacketValue, request, response, success, failure, value_with}
use Rattle.eap_packet.specs.Packet.{spelled}
use Rattle.eap_packet.specs.Fault.{code_of, length_of, type_of, fields_of, packet_of}
use Rattle.eap_packet.specs.Expanded.{is_wrapped, inner_kind, inner_body, plain}
use Rattle.eap_packet.proofs.Grammar.{fields_if_read}

abbrev id_of : PacketValue → ℕ
id_of (request id kind body) = id
id_of (response id kind body) = id
id_of (success id) = id
id_of (failure id) = id

id_of_value : (code : Code) (id kind : ℕ) (body : List ℕ)
    → id_of (value_with code id kind body) ≡ id
id_of_value Request id kind body = refl
id_of_value Response id kind body = refl
id_of_value Success id kind body = refl
id_of_value Failure id kind body = refl

id_of_fields : (code : ℕ) (octets : List ℕ) → id_of (fields_of code octets) ≡ slice_index octets 1
id_of_fields code octets =
    let id = slice_index octets 1 in
    let body = take (length_of octets - 5) (drop 5 octets) in
    let IsSecond : PacketValue → Type 0 = λ packet. id_of packet ≡ id in
    cond_both (code == 1) (request id (type_of octets) body) _ IsSecond (λ _. refl)
    (λ _. cond_both (code == 2) (response id (type_of octets) body) _ IsSecond (λ _. refl)
    (λ _. cond_both (code == 3) (success id) (failure id) IsSecond (λ _. refl) (λ _. refl)))

-- of octets that begin with the packet
pub second_is_id : (code : Code) (id kind : ℕ) (body octets : List ℕ)
    → packet_of octets ≡ Ok (value_with code id kind body) → slice_index octets 1 ≡ id
second_is_id code id kind body octets is =
    sym (id_of_fields (code_of octets) octets)
    ∙ ap (λ packet. id_of packet) (fields_if_read octets (value_with code id kind body) is)
    ∙ id_of_value code id kind body

-- of its plain form
pub plain_second_is_id : (code : Code) (id kind : ℕ) (body : List ℕ)
    → slice_index (spelled (plain (value_with code id kind body))) 1 ≡ id
unfolding spelled
plain_second_is_id Request id kind body =
    cond_both (is_wrapped kind body) (request id (inner_kind body) (inner_body body))
    (request id kind body) (λ packet. slice_index (spelled packet) 1 ≡ id)
    (λ _. refl) (λ _. refl)
plain_second_is_id Response id kind body =
    cond_both (is_wrapped kind body) (response id (inner_kind body) (inner_body body))
    (response id kind body) (λ packet. slice_index (spelled packet) 1 ≡ id)
    (λ _. refl) (λ _. refl)
plain_second_is_id Success id kind body = refl
plain_second_is_id Failure id kind body = refl
