-- What a contract sees of a `Mac`: the secret that it was made of, and the text that was fed.
use Rattle.std.specs.Prelude.{◌≤◌, ℕ, List, ◌++◌, length}
use Rattle.hmac_mac.specs.Hmac.{filled, padded, inner_pad, outer_pad}
use Rattle.md5.specs.Md5 as hash
use Rattle.radius_carry.specs.declared.mac.Mac.{Mac}

-- the value represents this text under this secret of at most a block: the inner hash was fed the
-- inner key and the text, the outer hash the outer key alone
unfoldable pub Holds : Mac → List ℕ → List ℕ → Type 0
Holds mac secret text =
    (length secret ≤ 64)
    × hash.Holds mac.inner (padded (filled secret) inner_pad ++ text)
    × hash.Holds mac.outer (padded (filled secret) outer_pad)
