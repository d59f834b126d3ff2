-- Which ciphersuite of EAP-GPSK and which key a `MacKey` represents.
use Rattle.std.specs.Prelude.{◌≡◌, ℕ, List}
use Rattle.octet_lists.specs.declared.suite.Suite.{Suite}
use Rattle.octet_lists.specs.declared.suite.Suite.TheVariants as suite_of
use Rattle.hmac_mac.specs.Represents.{IsKeyOf}
use Rattle.login_keys.specs.declared.gpsk.mac_key.MacKey.{MacKey}
use Rattle.login_keys.specs.declared.gpsk.mac_key.MacKey.TheVariants.{Cmac, Hmac}

-- AES-CMAC with this key for suite 1, HMAC-SHA256 with it for suite 2
unfoldable pub IsMacKey : MacKey → Suite → List ℕ → Type 0
IsMacKey (Cmac made) suite key = (suite ≡ suite_of.Cmac) × (made ≡ key)
IsMacKey (Hmac made) suite key = (suite ≡ suite_of.Hmac) × IsKeyOf made key
