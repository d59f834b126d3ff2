-- The blocks of PAX-KDF: one has 16 octets, and so four have 64.
use Rattle.std.proofs.Common.{◌≡◌, ℕ, List, [], ◌++◌, length, take, sym, ap, ◌∙◌, arith}
use Rattle.std.proofs.Common.{append_assoc, append-nil, ◌≤◌}
use Rattle.std.proofs.lemmas.List.{length-append, length-take-le, take_all}
use Rattle.std.proofs.Math.Seq.{take-append_seam}
use Rattle.hmac_mac.specs.Hmac.{hmac_sha256}
use Rattle.hmac_mac.proofs.Laws.{length_hmac_sha256}
use Rattle.pax_method.specs.Keys.{mac, kdf, kdf_block}

-- a MAC has 16 octets
pub length_mac : (key octets : List ℕ) → length (mac key octets) ≡ 16
unfolding mac
length_mac key octets =
    length-take-le 16 (hmac_sha256 key octets) (omega (arith, length_hmac_sha256 key octets))

front_of : (front rest : List ℕ) → length front ≡ 16 → front ≡ take 16 (front ++ rest)
front_of front rest size = sym (ap (λ n. take n (front ++ rest)) (sym size)
    ∙ take-append_seam front rest)

pub first_block : (key label entropy : List ℕ)
    → kdf_block key label entropy 1 ≡ kdf 16 key label entropy
unfolding kdf
first_block key label entropy = front_of _ _ (length_mac key _)

-- four of 16 octets each
whole : (one two three four : List ℕ) → length one ≡ 16 → length two ≡ 16
    → length three ≡ 16 → length four ≡ 16
    → length (one ++ (two ++ (three ++ (four ++ [])))) ≤ 64
whole one two three four a b c d = omega (
  arith,
  length-append one (two ++ (three ++ (four ++ []))),
  length-append two (three ++ (four ++ [])),
  length-append three (four ++ []),
  length-append four [],
  a,
  b,
  c,
  d,
)

turned : (one two three four : List ℕ)
    → ((one ++ two) ++ three) ++ four ≡ one ++ (two ++ (three ++ (four ++ [])))
turned one two three four =
    append_assoc (one ++ two) three four
    ∙ append_assoc one two (three ++ four)
    ∙ ap (λ xs. one ++ (two ++ (three ++ xs))) (sym (append-nil four))

joined_blocks : (one two three four : List ℕ) → length one ≡ 16 → length two ≡ 16
    → length three ≡ 16 → length four ≡ 16
    → ((one ++ two) ++ three) ++ four ≡ take 64 (one ++ (two ++ (three ++ (four ++ []))))
joined_blocks one two three four a b c d =
    turned one two three four
    ∙ sym (take_all 64 (one ++ (two ++ (three ++ (four ++ [])))) (whole one two three four a b c d))

pub four_blocks : (key label entropy : List ℕ)
    → ((kdf_block key label entropy 1 ++ kdf_block key label entropy 2)
    ++ kdf_block key label entropy 3) ++ kdf_block key label entropy 4
    ≡ kdf 64 key label entropy
unfolding kdf
four_blocks key label entropy = joined_blocks _ _ _ _ (length_mac key _) (length_mac key _)
    (length_mac key _) (length_mac key _)
