-- A packet whose PCHANNEL is filled in at its end.
use Rattle.std.proofs.Common.{◌≡◌, ℕ, ◌+◌, ◌-◌, ◌≤◌, ◌/◌, ◌%◌, List, [], ◌∷◌, ◌++◌, length, take}
use Rattle.std.proofs.Common.{refl, arith, append_assoc}
use Rattle.std.proofs.lemmas.List.{length-append}
use Rattle.std.proofs.Math.Seq.{take-append_seam}
use Rattle.eap_packet.specs.Packet.{spelled}
use Rattle.psk_messages.specs.Message as messages
use Rattle.psk_messages.specs.Message.{psk3, psk4}
use Rattle.eap_method.specs.PskTags.{psk_request, psk_response, blank_tag}

-- other octets take the place of the end
refilled : (front end other : List ℕ)
    → take (length (front ++ end) - length end) (front ++ end) ++ other ≡ front ++ other
refilled front end other =
    let size : length (front ++ end) - length end ≡ length front =
    omega (arith, length-append front end) in
    rw size (rw (take-append_seam front end) refl)

-- PSK-3 up to PCHANNEL's tag
abbrev front3 : ℕ → List ℕ → List ℕ → List ℕ
front3 id rand_s mac =
    1 ∷ id ∷ (length rand_s + length mac + 27) / 256 ∷ (length rand_s + length mac + 27)
    % 256 ∷ 47 ∷ 128
    ∷ (rand_s ++ (mac ++ 0 ∷ 0 ∷ 0 ∷ 0 ∷ []))

-- PCHANNEL of PSK-3
abbrev channel3 : List ℕ → ℕ → List ℕ
channel3 tag sealed = 0 ∷ 0 ∷ 0 ∷ 0 ∷ (tag ++ sealed ∷ [])

split3 : (id : ℕ) (rand_s mac tag : List ℕ) (sealed : ℕ) → length tag ≡ 16
    → psk_request id (psk3 rand_s mac 0 tag sealed) ≡ front3 id rand_s mac ++ (tag ++ sealed ∷ [])
unfolding spelled messages.spelled
split3 id rand_s mac tag sealed sixteen =
    let size : length (47 ∷ 128 ∷ (rand_s ++ (mac ++ channel3 tag sealed))) + 4
    ≡ length rand_s + length mac + 27
    = omega (
      arith,
      length-append rand_s (mac ++ channel3 tag sealed),
      length-append mac (channel3 tag sealed),
      length-append tag (sealed ∷ []),
      sixteen,
    ) in
    rw size (simp append_assoc)

-- PSK-4 up to PCHANNEL's tag
abbrev front4 : ℕ → List ℕ → List ℕ
front4 id rand_s =
    2 ∷ id ∷ (length rand_s + 27) / 256 ∷ (length rand_s + 27) % 256 ∷ 47 ∷ 192
    ∷ (rand_s ++ 0 ∷ 0 ∷ 0 ∷ 1 ∷ [])

split4 : (id : ℕ) (rand_s tag : List ℕ) (sealed : ℕ) → length tag ≡ 16
    → psk_response id (psk4 rand_s 1 tag sealed) ≡ front4 id rand_s ++ (tag ++ sealed ∷ [])
unfolding spelled messages.spelled
split4 id rand_s tag sealed sixteen =
    let size : length (47 ∷ 192 ∷ (rand_s ++ 0 ∷ 0 ∷ 0 ∷ 1 ∷ (tag ++ sealed ∷ []))) + 4
    ≡ length rand_s + 27
    = omega (
      arith,
      length-append rand_s (0 ∷ 0 ∷ 0 ∷ 1 ∷ (tag ++ sealed ∷ [])),
      length-append tag (sealed ∷ []),
      sixteen,
    ) in
    rw size (simp append_assoc)

-- PSK-3 with a blank PCHANNEL has room for its tag and octet
pub room3 : (id : ℕ) (rand_s mac : List ℕ)
    → 17 ≤ length (psk_request id (psk3 rand_s mac 0 blank_tag 0))
room3 id rand_s mac =
    rw (split3 id rand_s mac blank_tag 0 refl)
    (omega (arith, length-append (front3 id rand_s mac) (blank_tag ++ 0 ∷ [])))

-- and with both in their place it is whole
pub filled3 : (id : ℕ) (rand_s mac tag : List ℕ) (sealed : ℕ) → length tag ≡ 16
    → take (length (psk_request id (psk3 rand_s mac 0 blank_tag 0)) - 17) (psk_request id
    (psk3 rand_s mac 0 blank_tag 0)) ++ (tag ++ sealed ∷ [])
    ≡ psk_request id (psk3 rand_s mac 0 tag sealed)
filled3 id rand_s mac tag sealed sixteen =
    rw (split3 id rand_s mac blank_tag 0 refl) (rw (split3 id rand_s mac tag sealed sixteen)
    (refilled (front3 id rand_s mac) (blank_tag ++ 0 ∷ []) (tag ++ sealed ∷ [])))

-- the same of PSK-4
pub room4 : (id : ℕ) (rand_s : List ℕ) → 17 ≤ length (psk_response id (psk4 rand_s 1 blank_tag 0))
room4 id rand_s =
    rw (split4 id rand_s blank_tag 0 refl)
    (omega (arith, length-append (front4 id rand_s) (blank_tag ++ 0 ∷ [])))

pub filled4 : (id : ℕ) (rand_s tag : List ℕ) (sealed : ℕ) → length tag ≡ 16
    → take (length (psk_response id (psk4 rand_s 1 blank_tag 0)) - 17) (psk_response id
    (psk4 rand_s 1 blank_tag 0)) ++ (tag ++ sealed ∷ [])
    ≡ psk_response id (psk4 rand_s 1 tag sealed)
filled4 id rand_s tag sealed sixteen =
    rw (split4 id rand_s blank_tag 0 refl) (rw (split4 id rand_s tag sealed sixteen)
    (refilled (front4 id rand_s) (blank_tag ++ 0 ∷ []) (tag ++ sealed ∷ [])))
