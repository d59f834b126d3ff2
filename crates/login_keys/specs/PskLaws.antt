-- The keys of two EAP-PSK logins under one key differ if their RAND_P does (RFC 4764 section 3.2).
use Rattle.std.specs.Prelude.{◌≡◌, ℕ, List}
use Rattle.aes_block.specs.Blocks.{IsBlock}
use Rattle.login_keys.specs.Psk.{psk_keys_of, psk_long_of}
use Rattle.login_keys.specs.declared.psk.PskKeys.{PskKeys}

-- the keys of a login, from the shared key and RAND_P
abbrev pub login_keys_of : List ℕ → List ℕ → PskKeys
login_keys_of psk rand_p = psk_keys_of (psk_long_of psk).kdk rand_p

-- two logins have a key in common only if they have one RAND_P
pub record ShareNone (psk one other : List ℕ) : Type 0 where
  pub tek : (login_keys_of psk one).tek ≡ (login_keys_of psk other).tek → one ≡ other
  pub msk : (login_keys_of psk one).msk ≡ (login_keys_of psk other).msk → one ≡ other
  pub emsk : (login_keys_of psk one).emsk ≡ (login_keys_of psk other).emsk → one ≡ other

abbrev pub PskKeysDiffer : Type 0
PskKeysDiffer =
    (psk one other : List ℕ) → IsBlock psk → IsBlock one → IsBlock other → ShareNone psk one other
