-- A wrapped packet: its plain form, and its octets.
use Rattle.std.proofs.Common.{◌≡◌, ℕ, ◌+◌, ◌-◌, List, ◌∷◌, ◌++◌, length, take, drop, Bool, true}
use Rattle.std.proofs.Common.{false, refl, ap, ◌∙◌, arith}
use Rattle.std.proofs.lemmas.Bool.{and_from, le-leb}
use Rattle.std.proofs.lemmas.Bool.Decides.{nat_tests}
use Rattle.std.proofs.lemmas.List.{take_at}
use Rattle.std.specs.Prelude.{◌↔◌, if◌then◌else◌}
use Rattle.octet_lists.specs.Among.{ietf}
use Rattle.eap_packet.specs.Packet.{PacketValue, request, response, success, failure, spelled}
use Rattle.eap_packet.specs.Packet.{frame_of, two_octets}
use Rattle.eap_packet.specs.Fault.{length_of}
use Rattle.eap_packet.specs.Expanded.{has_plain, is_plain_body, is_wrapped, inner_kind, inner_body}
use Rattle.eap_packet.specs.Expanded.{expanded_form}
use Rattle.eap_packet.specs.Laws.{PlainOfWrap, WrapsTheEncoding, OnlyWrappedDiffer}

if_so : {A : Type 0} (b : Bool) (one other : A) → b ≡ true → (if b then one else other) ≡ one
if_so true one other e = refl
if_so false one other e = absurd cc

wrapped_plain : (kind : ℕ) (body : List ℕ) → has_plain kind ≡ true
    → is_plain_body (ietf ++ kind ∷ body) ≡ true
wrapped_plain kind body has =
    and_from _ _ (and_from _ _ (le-leb 7 (length (ietf ++ kind ∷ body)) (omega arith)) refl) has

pub plain_of_wrap : PlainOfWrap
plain_of_wrap (request id kind body) has =
    if_so (is_plain_body (ietf ++ kind ∷ body)) (request id kind body)
    (request id 254 (ietf ++ kind ∷ body)) (wrapped_plain kind body has)
plain_of_wrap (response id kind body) has =
    if_so (is_plain_body (ietf ++ kind ∷ body)) (response id kind body)
    (response id 254 (ietf ++ kind ∷ body)) (wrapped_plain kind body has)
plain_of_wrap (success id) has = refl
plain_of_wrap (failure id) has = refl

-- the Length of a Request or a Response, and the octets behind it
length_typed : (code id kind : ℕ) (body rest : List ℕ)
    → length_of (frame_of code id (kind ∷ body) ++ rest) ≡ length body + 5
length_typed code id kind body rest = omega arith

trailing_length : (code id kind : ℕ) (body rest : List ℕ) →
    (let octets = frame_of code id (kind ∷ body) ++ rest in
    take (length_of octets - 4) (drop 4 octets) ≡ kind ∷ body)
trailing_length code id kind body rest = take_at (kind ∷ body) rest _ (omega arith)

wrapped_framed : (code id kind : ℕ) (body rest : List ℕ) →
    expanded_form (frame_of code id (kind ∷ body) ++ rest)
    ≡ frame_of code id (254 ∷ ietf ++ kind ∷ body)
wrapped_framed code id kind body rest =
    ap (λ (n : ℕ). code ∷ id ∷ two_octets n ++ 254
    ∷ ietf ++ take (length_of (frame_of code id (kind ∷ body) ++ rest) - 4) (kind ∷ body ++ rest))
    (let size = length_typed code id kind body rest in omega arith)
    ∙ ap (λ (tail : List ℕ). code ∷ id ∷ two_octets (length body + 12) ++ 254 ∷ ietf ++ tail)
    (trailing_length code id kind body rest)
    ∙ ap (λ (n : ℕ). code ∷ id ∷ two_octets n ++ 254 ∷ ietf ++ kind ∷ body) (omega arith)

pub wraps_the_encoding : WrapsTheEncoding
unfolding spelled
wraps_the_encoding (request id kind body) rest is = wrapped_framed 1 id kind body rest
wraps_the_encoding (response id kind body) rest is = wrapped_framed 2 id kind body rest
wraps_the_encoding (success id) rest is = elim is [ ]
wraps_the_encoding (failure id) rest is = elim is [ ]

-- the Type inside is another than 254
inner_differs : (kind : ℕ) (body : List ℕ) → is_wrapped kind body ≡ true
    → inner_kind body ≡ kind → ⊥
inner_differs kind body is same = grind (arith, nat_tests, is, same)

-- a packet is its plain form where a test fails, and another where it holds
itself : (b : Bool) (one other : PacketValue) → (b ≡ true → one ≡ other → ⊥)
    → (b ≡ false) ↔ ((if b then one else other) ≡ other)
itself true one other differs = (λ e. absurd cc, λ e. absurd (differs refl e))
itself false one other differs = (λ e. refl, λ e. refl)

pub only_wrapped_differ : OnlyWrappedDiffer
only_wrapped_differ (request id kind body) =
    itself (is_wrapped kind body) (request id (inner_kind body) (inner_body body))
    (request id kind body) (λ is e. inner_differs kind body is cc)
only_wrapped_differ (response id kind body) =
    itself (is_wrapped kind body) (response id (inner_kind body) (inner_body body))
    (response id kind body) (λ is e. inner_differs kind body is cc)
only_wrapped_differ (success id) = (λ e. refl, λ e. refl)
only_wrapped_differ (failure id) = (λ e. refl, λ e. refl)
