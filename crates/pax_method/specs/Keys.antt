-- The MAC and the key schedule of EAP-PAX with MAC ID 0x02, HMAC_SHA256_128 (RFC 4746), on whole
-- lists of octets.
use Rattle.std.specs.Prelude.{ℕ, List, [], ◌∷◌, ◌++◌, take, codes}
use Rattle.std.specs.List.{flat_map}
use Rattle.hmac_mac.specs.Hmac.{hmac_sha256}
use Rattle.pax_method.specs.declared.login.Login.{Login}

-- the first 16 octets of HMAC-SHA-256 (section 3.1.3)
unfoldable pub mac : List ℕ → List ℕ → List ℕ
mac key octets = take 16 (hmac_sha256 key octets)

-- the n-th block: MAC_X (Y || Z || n)
abbrev pub kdf_block : List ℕ → List ℕ → List ℕ → ℕ → List ℕ
kdf_block key label entropy n = mac key (label ++ (entropy ++ n ∷ []))

-- PAX-KDF-W (X, Y, Z) of at most 64 octets: the first W octets of the blocks joined (section 2.6)
unfoldable pub kdf : ℕ → List ℕ → List ℕ → List ℕ → List ℕ
kdf size key label entropy = take size (flat_map (kdf_block key label entropy) (1 ∷ 2 ∷ 3 ∷ 4 ∷ []))

-- E = A || B, and the keys of a login under AK (section 2.4)
abbrev pub entropy : Login → List ℕ
entropy login = login.a ++ login.b

unfoldable pub mk_of : List ℕ → Login → List ℕ
mk_of ak login = kdf 16 ak (codes "Master Key") (entropy login)

unfoldable pub ck_of : List ℕ → Login → List ℕ
ck_of ak login = kdf 16 (mk_of ak login) (codes "Confirmation Key") (entropy login)

unfoldable pub ick_of : List ℕ → Login → List ℕ
ick_of ak login = kdf 16 (mk_of ak login) (codes "Integrity Check Key") (entropy login)

unfoldable pub msk_of : List ℕ → Login → List ℕ
msk_of ak login = kdf 64 (mk_of ak login) (codes "Master Session Key") (entropy login)

unfoldable pub emsk_of : List ℕ → Login → List ℕ
emsk_of ak login = kdf 64 (mk_of ak login) (codes "Extended Master Session Key") (entropy login)
