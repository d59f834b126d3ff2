-- A packet that was spelled is read as it was, whatever octets it has.
use Rattle.std.proofs.Common.{◌≡◌, ◌≢◌, ℕ, ◌-◌, ◌<◌, ◌≤◌, List, ◌∷◌, length, take, drop, Ok, refl}
use Rattle.std.proofs.Common.{ap, ◌∙◌, arith}
use Rattle.std.proofs.lemmas.List.{take_all}
use Rattle.eap_packet.specs.Packet.{request, response, success, spelled, frame_of}
use Rattle.eap_packet.specs.Fault.{length_of, packet_of, fault}
use Rattle.eap_packet.proofs.Faults.{StartsAt}
use Rattle.eap_packet.proofs.IsEncodingOf.{read_if_starts}
use Rattle.pass_through.specs.PassTable.{without_padding}

starts_typed : (code id kind : ℕ) (body : List ℕ) → 1 ≤ code → code ≤ 2 → length body ≤ 1495 →
    (code ≡ 1 → kind ≢ 3) → (code ≡ 2 → kind ≡ 3 → 0 < length body)
    → StartsAt (frame_of code id (kind ∷ body))
starts_typed code id kind body low high size no_nak desires =
    record {
      four = omega arith;
      low = low;
      high = omega arith;
      typed = λ h. omega arith;
      plain = λ h. absurd (omega arith);
      whole = omega arith;
      fits = omega arith;
      no_nak = no_nak;
      desires = λ h k s. absurd (omega (arith, desires h k));
    }

body_typed : (code id kind : ℕ) (body : List ℕ) →
    (let octets =
    frame_of code id (kind ∷ body) in take (length_of octets - 5) (drop 5 octets) ≡ body)
body_typed code id kind body = take_all _ body (omega arith)

-- a Request, but for a Nak
pub request_read : (id kind : ℕ) (body : List ℕ) → length body ≤ 1495 → kind ≢ 3
    → packet_of (spelled (request id kind body)) ≡ Ok (request id kind body)
unfolding spelled
request_read id kind body size no_nak =
    read_if_starts (frame_of 1 id (kind ∷ body)) (starts_typed 1 id kind body (omega arith)
    (omega arith) size (λ _. no_nak) (λ h. absurd (omega arith)))
    ∙ ap (λ octets. Ok (request id kind octets)) (body_typed 1 id kind body)

-- a Response; a Nak desires some method
pub response_read : (id kind : ℕ) (body : List ℕ) → length body ≤ 1495
    → (kind ≡ 3 → 0 < length body)
    → packet_of (spelled (response id kind body)) ≡ Ok (response id kind body)
unfolding spelled
response_read id kind body size desires =
    read_if_starts (frame_of 2 id (kind ∷ body)) (starts_typed 2 id kind body (omega arith)
    (omega arith) size (λ h. absurd (omega arith)) (λ _. desires))
    ∙ ap (λ octets. Ok (response id kind octets)) (body_typed 2 id kind body)

pub success_read : (id : ℕ) → packet_of (spelled (success id)) ≡ Ok (success id)
unfolding packet_of fault spelled
success_read id = refl

-- nothing stands past the Length of what was spelled
whole_typed : (code id kind : ℕ) (body : List ℕ) → without_padding (frame_of code id (kind ∷ body))
    ≡ frame_of code id (kind ∷ body)
whole_typed code id kind body = take_all _ (frame_of code id (kind ∷ body)) (omega arith)

pub request_whole : (id kind : ℕ) (body : List ℕ) → without_padding (spelled (request id kind body))
    ≡ spelled (request id kind body)
unfolding spelled
request_whole id kind body = whole_typed 1 id kind body

pub response_whole : (id kind : ℕ) (body : List ℕ)
    → without_padding (spelled (response id kind body)) ≡ spelled (response id kind body)
unfolding spelled
response_whole id kind body = whole_typed 2 id kind body

pub success_whole : (id : ℕ) → without_padding (spelled (success id)) ≡ spelled (success id)
unfolding spelled
success_whole id = refl
