-- The keys of a login at a peer of EAP-PSK.
use Rattle.std.specs.Prelude.{◌≡◌, ℕ, List}
use Rattle.login_keys.specs.Psk.{psk_long_of, psk_keys_of}
use Rattle.eap_method.specs.PskTags.{rand_of}
use Rattle.psk_ends.specs.declared.peer.login.Keys.{Keys}

-- those that come from the shared key and the peer's nonce
pub record AreKeysOf (psk nonce : List ℕ) (kept : Keys) : Type 0 where
  pub ak : kept.ak ≡ (psk_long_of psk).ak
  pub keys : kept.keys ≡ psk_keys_of (psk_long_of psk).kdk (rand_of nonce)
  pub tek : kept.tek ≡ kept.keys.tek
