-- The size of a result, for those who cut it or send it.
use Rattle.std.proofs.Common.{◌≡◌, ℕ, List, length}
use Rattle.sha2.proofs.Facts256.{length-sha256}
use Rattle.hmac_mac.specs.Hmac.{hmac, hmac_sha256}

-- HMAC-SHA256 has 32 octets
pub length_hmac_sha256 : (key text : List ℕ) → length (hmac_sha256 key text) ≡ 32
unfolding hmac hmac_sha256
length_hmac_sha256 key text = length-sha256 _
