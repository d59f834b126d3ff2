-- The Type-Data of a packet stands in the octets that begin with it.
use Rattle.std.proofs.Common.{◌≡◌, ℕ, ◌-◌, List, [], take, drop, true, Result, Ok, Err, refl, subst}
use Rattle.std.specs.Prelude.{◌==◌, if◌then◌else◌}
use Rattle.std.proofs.lemmas.Bool.{cond_both, cond-true}
use Rattle.octet_lists.specs.Among.{is_kind}
use Rattle.eap_packet.specs.Expanded.{inner_kind, inner_body, is_wrapped}
use Rattle.eap_packet.specs.Packet.{PacketValue, request, response, success, failure, spelled}
use Rattle.eap_packet.specs.Fault.{code_of, length_of, type_of, fields_of, packet_of}
use Rattle.eap_packet.specs.declared.cause.Cause.{Cause}
use Rattle.eap_packet.proofs.Grammar.{fields_if_read}
use Rattle.eap_method.specs.Plain.{plain_octets}
use Rattle.eap_method.specs.Turns.{body_of}
use Rattle.method_laws.proofs.Occurrence.{Occurrence, trailing_of, none_within, part_of, rest_of}
use Rattle.method_laws.proofs.Occurrence.{within}

abbrev pub BodyOccurs : List ℕ → PacketValue → Type 0
BodyOccurs octets (request id kind body) = Occurrence body octets
BodyOccurs octets (response id kind body) = Occurrence body octets
BodyOccurs octets packet = Unit {0}

fields_occur : (code : ℕ) (octets : List ℕ) → BodyOccurs octets (fields_of code octets)
fields_occur code octets =
    cond_both (code == 1) (request _ _ (take (length_of octets - 5) (drop 5 octets))) _
    (BodyOccurs octets) (λ _. trailing_of 5 (length_of octets - 5) octets)
    (λ _. cond_both (code == 2) (response _ _ (take (length_of octets - 5) (drop 5 octets))) _
    (BodyOccurs octets) (λ _. trailing_of 5 (length_of octets - 5) octets)
    (λ _. cond_both (code == 3) (success _) (failure _) (BodyOccurs octets) (λ _. tt) (λ _. tt)))

pub body_occurs : (octets : List ℕ) (packet : PacketValue) → packet_of octets ≡ Ok packet
    → BodyOccurs octets packet
body_occurs octets packet e = subst (BodyOccurs octets) (fields_if_read octets packet e)
    (fields_occur (code_of octets) octets)

pub request_body : (id kind : ℕ) (body : List ℕ) → body_of (spelled (request id kind body)) ≡ body
unfolding spelled
request_body id kind body = refl

pub response_body : (id kind : ℕ) (body : List ℕ) → body_of (spelled (response id kind body)) ≡ body
unfolding spelled
response_body id kind body = refl

-- ---- the Type-Data that a method is handed

abbrev pub data_in : PacketValue → List ℕ
data_in (request id kind body) = if is_kind kind then body else []
data_in (response id kind body) = if is_kind kind then body else []
data_in packet = []

-- of octets that begin with a packet
abbrev pub data_read : Result PacketValue Cause → List ℕ
data_read (Ok packet) = data_in packet
data_read (Err c) = []

-- it is the packet's where its Type is a method's
pub request_data : (octets : List ℕ) (id kind : ℕ) (body : List ℕ)
    → packet_of octets ≡ Ok (request id kind body) → is_kind kind ≡ true
    → data_read (packet_of octets) ≡ body
request_data octets id kind body e is = rw e (cond-true (is_kind kind) body [] is)

pub response_data : (octets : List ℕ) (id kind : ℕ) (body : List ℕ)
    → packet_of octets ≡ Ok (response id kind body) → is_kind kind ≡ true
    → data_read (packet_of octets) ≡ body
response_data octets id kind body e is = rw e (cond-true (is_kind kind) body [] is)

-- it stands behind the Type
stored_data : (octets : List ℕ) (size kind : ℕ)
    → Occurrence (if is_kind kind then take size (drop 5 octets) else []) (body_of octets)
stored_data octets size kind =
    cond_both (is_kind kind) _ _ (λ (part : List ℕ). Occurrence part (body_of octets))
    (λ _. part_of size (drop 5 octets)) (λ _. none_within (body_of octets))

fields_data : (code : ℕ) (octets : List ℕ)
    → Occurrence (data_in (fields_of code octets)) (body_of octets)
fields_data code octets =
    let OccursInMessage : PacketValue
    → Type 0 = λ (packet : PacketValue). Occurrence (data_in packet) (body_of octets) in
    cond_both (code == 1) (request _ _ (take (length_of octets - 5) (drop 5 octets)))
    _ OccursInMessage (λ _. stored_data octets (length_of octets - 5) (type_of octets))
    (λ _. cond_both (code == 2) (response _ _ (take (length_of octets - 5) (drop 5 octets)))
    _ OccursInMessage (λ _. stored_data octets (length_of octets - 5) (type_of octets))
    (λ _. cond_both (code == 3) (success _) (failure _) OccursInMessage
    (λ _. none_within (body_of octets)) (λ _. none_within (body_of octets))))

read_data : (octets : List ℕ) (packet : Result PacketValue Cause) → packet_of octets ≡ packet
    → Occurrence (data_read packet) (body_of octets)
read_data octets (Err c) e = none_within (body_of octets)
read_data octets (Ok packet) e =
    subst (λ (p : PacketValue). Occurrence (data_in p) (body_of octets))
    (fields_if_read octets packet e) (fields_data (code_of octets) octets)

-- the Type-Data of octets, and of the plain form of a packet that others begin with
pub data_occurs : (octets whole : List ℕ) → Occurrence (body_of octets) whole
    → Occurrence (data_read (packet_of octets)) whole
data_occurs octets whole stands =
    within _ (body_of octets) whole (read_data octets (packet_of octets) refl) stands

pub own_data : (octets : List ℕ) → Occurrence (data_read (packet_of octets)) octets
own_data octets = data_occurs octets octets (rest_of 5 octets)

pub plain_request : (octets : List ℕ) (id kind : ℕ) (body : List ℕ)
    → packet_of octets ≡ Ok (request id kind body)
    → Occurrence (body_of (plain_octets octets (request id kind body))) octets
plain_request octets id kind body e =
    cond_both (is_wrapped kind body) _ _ (λ (o : List ℕ). Occurrence (body_of o) octets)
    (λ is. rw (is, request_body id (inner_kind body) (inner_body body))
    (within (inner_body body) body octets (rest_of 7 body)
    (body_occurs octets (request id kind body) e))) (λ _. rest_of 5 octets)

pub plain_response : (octets : List ℕ) (id kind : ℕ) (body : List ℕ)
    → packet_of octets ≡ Ok (response id kind body)
    → Occurrence (body_of (plain_octets octets (response id kind body))) octets
plain_response octets id kind body e =
    cond_both (is_wrapped kind body) _ _ (λ (o : List ℕ). Occurrence (body_of o) octets)
    (λ is. rw (is, response_body id (inner_kind body) (inner_body body))
    (within (inner_body body) body octets (rest_of 7 body)
    (body_occurs octets (response id kind body) e))) (λ _. rest_of 5 octets)

-- that of a Nak is no method's
pub nak_data : (id : ℕ) (list whole : List ℕ)
    → Occurrence (data_read (packet_of (spelled (response id 3 list)))) whole
unfolding spelled
nak_data id list whole = read (packet_of (spelled (response id 3 list))) refl
  where
    read : (packet : Result PacketValue Cause) → packet_of (spelled (response id 3 list)) ≡ packet
        → Occurrence (data_read packet) whole
    read (Err c) e = none_within whole
    read (Ok packet) e =
        subst (λ (p : PacketValue). Occurrence (data_in p) whole)
        (fields_if_read (spelled (response id 3 list)) packet e) (none_within whole)
