-- The MAC of an EAP-GPSK ciphersuite, the key derivation function over it and the key schedule (RFC
-- 5433), on whole lists of octets.
use Rattle.std.specs.Prelude.{ℕ, ◌+◌, List, ◌++◌, length, take, slice_range}
use Rattle.std.specs.Int.{w16, div_ceil, to_be_bytes}
use Rattle.std.specs.List.{flat_map, range_with_len}
use Rattle.octet_lists.specs.Suite.{ks_of, suite_octets}
use Rattle.octet_lists.specs.declared.suite.Suite.{Suite}
use Rattle.octet_lists.specs.declared.suite.Suite.TheVariants.{Cmac, Hmac}
use Rattle.cmac_mac.specs.Cmac.{aes_cmac}
use Rattle.hmac_mac.specs.Hmac.{hmac_sha256}
use Rattle.login_keys.specs.declared.gpsk.GpskKeys.{GpskKeys}

-- the MAC of octets under a key: AES-CMAC for suite 1, HMAC-SHA256 for suite 2 (sections 8.1.2
-- and 8.2.2)
unfoldable pub gpsk_tag_of : Suite → List ℕ → List ℕ → List ℕ
gpsk_tag_of Cmac key octets = aes_cmac key octets
gpsk_tag_of Hmac key octets = hmac_sha256 key octets

-- a number in two octets
abbrev pub two_octets : ℕ → List ℕ
two_octets n = to_be_bytes w16 n

-- the n-th block: MAC_Y (n || Z)
unfoldable pub gkdf_block : Suite → List ℕ → List ℕ → ℕ → List ℕ
gkdf_block suite y z n = gpsk_tag_of suite y (two_octets n ++ z)

-- as many blocks, from the first on, joined
unfoldable pub gkdf_blocks : Suite → List ℕ → List ℕ → ℕ → List ℕ
gkdf_blocks suite y z count = flat_map (gkdf_block suite y z) (range_with_len 1 count)

-- GKDF-X (Y, Z): the first X octets of MAC_Y (1 || Z) || MAC_Y (2 || Z) || .. (section 7)
unfoldable pub gkdf : Suite → ℕ → List ℕ → List ℕ → List ℕ
gkdf suite x y z = take x (gkdf_blocks suite y z (div_ceil x (ks_of suite)))

-- inputString = RAND_Peer || ID_Peer || RAND_Server || ID_Server (section 4)
abbrev pub input_string : List ℕ → List ℕ → List ℕ → List ℕ → List ℕ
input_string rand_p id_p rand_s id_s = rand_p ++ (id_p ++ (rand_s ++ id_s))

-- MK = GKDF-KS (PSK[0..KS-1], PL || PSK || CSuite_Sel || inputString)
unfoldable pub master_key : Suite → List ℕ → List ℕ → List ℕ
master_key suite psk input =
    gkdf suite (ks_of suite) (take (ks_of suite) psk)
    (two_octets (length psk) ++ (psk ++ (suite_octets suite ++ input)))

-- the octets of PK, the key of AES-CBC: suite 2 has none
abbrev pub pk_size : Suite → ℕ
pk_size Cmac = 16
pk_size Hmac = 0

-- the master key, and the keys that are cut from GKDF-160 (MK, inputString)
abbrev pub keys_from : Suite → List ℕ → List ℕ → GpskKeys
keys_from suite mk out = record {
  mk = mk;
  msk = slice_range out 0 64;
  emsk = slice_range out 64 128;
  sk = slice_range out 128 (128 + ks_of suite);
  pk = slice_range out (128 + ks_of suite) (128 + ks_of suite + pk_size suite);
}

-- the keys of a login between a peer and a server that share a key
unfoldable pub gpsk_keys_of : Suite → List ℕ → List ℕ → List ℕ → List ℕ → List ℕ → GpskKeys
gpsk_keys_of suite psk rand_p id_p rand_s id_s =
    let input = input_string rand_p id_p rand_s id_s in
    let mk = master_key suite psk input in
    keys_from suite mk (gkdf suite 160 mk input)
