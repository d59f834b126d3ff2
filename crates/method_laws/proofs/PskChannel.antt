-- PCHANNEL (RFC 4764 section 5.3): what one end seals, the other opens under the same header.
use Rattle.std.proofs.Common.{◌≡◌, ℕ, List, [], ◌∷◌, ◌++◌, length, true, refl, ap, ◌∙◌, ◌+◌, arith}
use Rattle.std.proofs.Common.{take, length-append}
use Rattle.std.specs.Prelude.{slice_index}
use Rattle.std.specs.Str.{bytes_eq}
use Rattle.std.proofs.lemmas.List.{take_at}
use Rattle.eap_packet.specs.Packet.{two_octets}
use Rattle.eap_packet.specs.Packet as packets
use Rattle.psk_messages.specs.Message.{psk3, psk4, channel}
use Rattle.psk_messages.specs.Message as messages
use Rattle.psk_messages.proofs.ChannelParts.{length_channel}
use Rattle.eax_mode.specs.Eax.{eax_accepts, eax_ciphertext, eax_plaintext, eax_tag}
use Rattle.eax_mode.proofs.Laws.{length_eax_ciphertext, length_eax_tag}
use Rattle.eax_mode.proofs.Sealing.{eax_plaintext_eax_ciphertext}
use Rattle.eap_method.specs.PskTags.{psk_request, psk_response, header_of, channel_nonce}
use Rattle.eap_method.specs.PskTags.{sealed_result, is_sealed, hidden_octet, octet_with}
use Rattle.method_laws.proofs.Tests.{bytes_same}

-- ---- the sealed octet

alone : (octets : List ℕ) → length octets ≡ 1 → slice_index octets 0 ∷ [] ≡ octets
alone [] size = absurd (omega arith)
alone (x ∷ []) size = refl
alone (x ∷ y ∷ octets) size = absurd (omega arith)

-- the tag has sixteen octets
pub length_sealed_tag : (tek : List ℕ) (number : ℕ) (header : List ℕ) (r : ℕ)
    → length (sealed_result tek number header r).tag ≡ 16
unfolding sealed_result
length_sealed_tag tek number header r = length_eax_tag tek (channel_nonce number) header _

-- the octet that was sealed is found under the tag
pub sealed_accepted : (tek : List ℕ) (number : ℕ) (header : List ℕ) (r : ℕ)
    → is_sealed tek number header (slice_index
    (sealed_result tek number header r).ciphertext 0) (sealed_result tek number header r).tag ≡ true
unfolding sealed_result eax_accepts
sealed_accepted tek number header r =
    let hidden : List ℕ = eax_ciphertext tek (channel_nonce number) (octet_with r ∷ []) in
    ap (λ octets. bytes_eq (eax_tag tek (channel_nonce number) header octets)
    (eax_tag tek (channel_nonce number) header hidden))
    (alone hidden (length_eax_ciphertext tek (channel_nonce number) (octet_with r ∷ [])))
    ∙ bytes_same (eax_tag tek (channel_nonce number) header hidden)

-- and is opened
pub sealed_opened : (tek : List ℕ) (number : ℕ) (header : List ℕ) (r : ℕ)
    → hidden_octet tek number (slice_index (sealed_result tek number header r).ciphertext 0)
    ≡ octet_with r
unfolding sealed_result
sealed_opened tek number header r =
    let hidden : List ℕ = eax_ciphertext tek (channel_nonce number) (octet_with r ∷ []) in
    ap (λ octets. slice_index (eax_plaintext tek (channel_nonce number) octets) 0)
    (alone hidden (length_eax_ciphertext tek (channel_nonce number) (octet_with r ∷ [])))
    ∙ ap (λ (octets : List ℕ). slice_index octets 0)
    (eax_plaintext_eax_ciphertext tek (channel_nonce number) (octet_with r ∷ []))

-- ---- the headers: the first 22 octets, up to MAC_S or PCHANNEL

pub psk3_header_is : (id : ℕ) (rand_s mac tag : List ℕ) (sealed : ℕ) → length rand_s ≡ 16
    → length mac ≡ 16 → length tag ≡ 16
    → header_of (psk_request id (psk3 rand_s mac 0 tag sealed))
    ≡ 1 ∷ id ∷ two_octets 59 ++ (47 ∷ 128 ∷ rand_s)
unfolding packets.spelled messages.spelled
psk3_header_is id rand_s mac tag sealed rand_size mac_size tag_size =
    let rest : List ℕ = mac ++ channel 0 tag sealed in
    let front : ℕ → List ℕ = λ size. 1 ∷ id ∷ two_octets size ++ (47 ∷ 128 ∷ rand_s) in
    let size : length (47 ∷ 128 ∷ rand_s ++ rest) + 4 ≡ 59 =
    omega (
      arith,
      length-append rand_s rest,
      length-append mac (channel 0 tag sealed),
      length_channel 0 sealed tag tag_size,
    ) in
    ap (λ count. take 22 (front count ++ rest)) size ∙ take_at (front 59) rest 22 (omega arith)

pub psk4_header_is : (id : ℕ) (rand_s tag : List ℕ) (sealed : ℕ) → length rand_s ≡ 16
    → length tag ≡ 16
    → header_of (psk_response id (psk4 rand_s 1 tag sealed))
    ≡ 2 ∷ id ∷ two_octets 43 ++ (47 ∷ 192 ∷ rand_s)
unfolding packets.spelled messages.spelled
psk4_header_is id rand_s tag sealed rand_size tag_size =
    let rest : List ℕ = channel 1 tag sealed in
    let front : ℕ → List ℕ = λ size. 2 ∷ id ∷ two_octets size ++ (47 ∷ 192 ∷ rand_s) in
    let size : length (47 ∷ 192 ∷ rand_s ++ rest) + 4 ≡ 43 =
    omega (arith, length-append rand_s rest, length_channel 1 sealed tag tag_size) in
    ap (λ count. take 22 (front count ++ rest)) size ∙ take_at (front 43) rest 22 (omega arith)
