-- The key schedule of EAP-PSK (RFC 4764, sections 3.1 and 3.2), on whole lists of octets. A block
-- is a list of sixteen octets.
use Rattle.std.specs.Prelude.{ℕ, List, [], ◌∷◌, replicate, bit_xor}
use Rattle.std.specs.Int.{w128, from_be_bytes, to_be_bytes}
use Rattle.std.specs.List.{flat_map}
use Rattle.aes_block.specs.Cipher.{aes128}
use Rattle.login_keys.specs.declared.psk.PskLong.{PskLong}
use Rattle.login_keys.specs.declared.psk.PskKeys.{PskKeys}

-- the block of zeros
abbrev pub zero_block : List ℕ
zero_block = replicate 16 0

-- a block combined with the number c of sixteen octets
unfoldable pub combined_with : List ℕ → ℕ → List ℕ
combined_with block c = to_be_bytes w128 (bit_xor (from_be_bytes w128 block) c)

-- the modified counter mode: the output block for the counter c, of a key and an input block
unfoldable pub counter_block : List ℕ → List ℕ → ℕ → List ℕ
counter_block key block c = aes128 key (combined_with (aes128 key block) c)

-- AK and KDK: the blocks 1 and 2 of the shared key and the block of zeros (3.1)
unfoldable pub psk_long_of : List ℕ → PskLong
psk_long_of
    psk = record { ak = counter_block psk zero_block 1; kdk = counter_block psk zero_block 2 }

-- TEK, MSK and EMSK: the blocks 1, 2 to 5 and 6 to 9 of KDK and RAND_P (3.2)
unfoldable pub psk_keys_of : List ℕ → List ℕ → PskKeys
psk_keys_of kdk rand_p = record {
  tek = counter_block kdk rand_p 1;
  msk = flat_map (counter_block kdk rand_p) (2 ∷ 3 ∷ 4 ∷ 5 ∷ []);
  emsk = flat_map (counter_block kdk rand_p) (6 ∷ 7 ∷ 8 ∷ 9 ∷ []);
}
