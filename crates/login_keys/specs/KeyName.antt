-- The name of a key, by which it can be compared without being shown.
use Rattle.std.specs.Prelude.{ℕ, List, ◌∷◌, ◌++◌, take, codes}
use Rattle.sha2.specs.Sha256.{sha256}

-- the first 8 octets of SHA-256 over a label, one zero octet and the key
unfoldable pub key_name_of : List ℕ → List ℕ
key_name_of key = take 8 (sha256 (codes "eap-key-name" ++ 0 ∷ key))
