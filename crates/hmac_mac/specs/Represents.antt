-- What a contract sees of an `HmacKey` and an `Hmac`: the key that they were made of, and the text
-- that was fed.
use Rattle.std.specs.Prelude.{ℕ, List, ◌++◌}
use Rattle.sha2.specs.Hashers.{Holds256}
use Rattle.hmac_mac.specs.Hmac.{block_key, padded, inner_pad, outer_pad}
use Rattle.hmac_mac.specs.declared.Hmac.{Hmac}
use Rattle.hmac_mac.specs.declared.HmacKey.{HmacKey}

-- the value represents this text under this key: the inner hash was fed the inner key and the text,
-- the outer hash the outer key alone
unfoldable pub Represents : Hmac → List ℕ → List ℕ → Type 0
Represents mac key text =
    Holds256 mac.inner (padded (block_key key) inner_pad ++ text)
    × Holds256 mac.outer (padded (block_key key) outer_pad)

-- the value represents this key: the inner hash was fed the inner key, the outer hash the outer key
unfoldable pub IsKeyOf : HmacKey → List ℕ → Type 0
IsKeyOf made key =
    Holds256 made.inner (padded (block_key key) inner_pad)
    × Holds256 made.outer (padded (block_key key) outer_pad)
