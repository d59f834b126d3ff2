-- The fields of a Request and of a Response, read off their octets.
use Rattle.std.proofs.Common.{◌≡◌, ℕ, List, refl}
use Rattle.eap_packet.specs.Packet.{spelled, request, response}
use Rattle.eap_method.specs.Turns.{id_of, body_of}

pub request_id : (id kind : ℕ) (body : List ℕ) → id_of (spelled (request id kind body)) ≡ id
unfolding spelled
request_id id kind body = refl

pub request_body : (id kind : ℕ) (body : List ℕ) → body_of (spelled (request id kind body)) ≡ body
unfolding spelled
request_body id kind body = refl

pub response_body : (id kind : ℕ) (body : List ℕ) → body_of (spelled (response id kind body)) ≡ body
unfolding spelled
response_body id kind body = refl
