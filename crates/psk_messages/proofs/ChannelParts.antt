-- PCHANNEL: its parts are read off its octets, and its octets are those of its parts.
use Rattle.std.proofs.Common.{◌≡◌, ℕ, ◌^◌, ◌<◌, List, [], ◌∷◌, ◌++◌, length, suc, zero, take, drop}
use Rattle.std.proofs.Common.{get_or, slice_index, refl, sym, ap, ◌∙◌, arith, length-append}
use Rattle.std.proofs.Common.{drop-cons}
use Rattle.std.proofs.Math.ListN.{drop_of_length-le}
use Rattle.std.proofs.Math.Seq.{get_or-append_seam}
use Rattle.std.proofs.lemmas.List.{take_at, take-append-drop, length-take-le}
use Rattle.std.proofs.lemmas.Nat.{be_bytes_4, from_be_bytes-to_be_bytes_4}
use Rattle.eap_packet.specs.Packet.{IsOctets}
use Rattle.psk_messages.specs.Message.{channel}
use Rattle.psk_messages.specs.Reading.{nonce_at, tag_at, sealed_at}

pub nonce_at_channel : (nonce sealed : ℕ) (tag : List ℕ) → nonce < 2 ^ 32
    → nonce_at (channel nonce tag sealed) ≡ nonce
nonce_at_channel nonce sealed tag small = from_be_bytes-to_be_bytes_4 nonce small

pub tag_at_channel : (nonce sealed : ℕ) (tag : List ℕ) → length tag ≡ 16
    → tag_at (channel nonce tag sealed) ≡ tag
tag_at_channel nonce sealed tag size = take_at tag (sealed ∷ []) 16 size

seam : (tag : List ℕ) (sealed n : ℕ) → length tag ≡ n → get_or (tag ++ sealed ∷ []) n 0 ≡ sealed
seam tag sealed n size =
    ap (λ k. get_or (tag ++ sealed ∷ []) k 0) (sym size) ∙ get_or-append_seam tag sealed [] 0

pub sealed_at_channel : (nonce sealed : ℕ) (tag : List ℕ) → length tag ≡ 16
    → sealed_at (channel nonce tag sealed) ≡ sealed
sealed_at_channel nonce sealed tag size = seam tag sealed 16 size

pub length_channel : (nonce sealed : ℕ) (tag : List ℕ) → length tag ≡ 16
    → length (channel nonce tag sealed) ≡ 21
length_channel nonce sealed tag size = omega (arith, length-append tag (sealed ∷ []))

-- the octets behind the Nonce
tag_and_sealed : (rest : List ℕ) → length rest ≡ 17
    → take 16 rest ++ (slice_index rest 16 ∷ []) ≡ rest
tag_and_sealed rest size =
    let last : drop 16 rest ≡ slice_index rest 16 ∷ [] =
    drop-cons rest 16 0 (omega arith)
    ∙ ap (λ xs. slice_index rest 16 ∷ xs) (drop_of_length-le rest {i = 17} (omega arith)) in
    ap (λ xs. take 16 rest ++ xs) (sym last) ∙ take-append-drop 16 rest

below : (a b c d : ℕ) → a < 256 → b < 256 → c < 256 → d < 256 → (i : ℕ)
    → get_or (a ∷ b ∷ c ∷ d ∷ []) i 0 < 256
below a b c d p q r s zero = p
below a b c d p q r s (suc zero) = q
below a b c d p q r s (suc (suc zero)) = r
below a b c d p q r s (suc (suc (suc zero))) = s
below a b c d p q r s (suc (suc (suc (suc i)))) = omega arith

-- what the octets of PCHANNEL say
pub record AreParts (octets : List ℕ) : Type 0 where
  pub nonce : nonce_at octets < 2 ^ 32
  pub tag : length (tag_at octets) ≡ 16
  pub encoding_of : channel (nonce_at octets) (tag_at octets) (sealed_at octets) ≡ octets

pub parts : (octets : List ℕ) → IsOctets octets → length octets ≡ 21 → AreParts octets
parts [] small size = absurd (omega arith)
parts (a ∷ []) small size = absurd (omega arith)
parts (a ∷ b ∷ []) small size = absurd (omega arith)
parts (a ∷ b ∷ c ∷ []) small size = absurd (omega arith)
parts (a ∷ b ∷ c ∷ d ∷ rest) small size =
    let p = small 0 0 (omega arith) in
    let q = small 1 0 (omega arith) in
    let r = small 2 0 (omega arith) in
    let s = small 3 0 (omega arith) in
    let number = be_bytes_4 (a ∷ b ∷ c ∷ d ∷ []) _ refl (below a b c d p q r s) refl in
    record {
      nonce = omega (arith, p, q, r, s);
      tag = omega (arith, length-take-le 16 rest (omega arith));
      encoding_of = ap (λ xs. xs ++ (take 16 rest ++ (slice_index rest 16 ∷ []))) number
          ∙ ap (λ xs. a ∷ b ∷ c ∷ d ∷ xs) (tag_and_sealed rest (omega arith));
    }
