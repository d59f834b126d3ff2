-- Whole blocks in the chain, and the rest that is held back.
use Rattle.std.specs.Prelude.{◌≡◌, ℕ, ◌+◌, ◌-◌, ◌*◌, ◌≤◌, List, ◌++◌, length, drop, replicate}
use Rattle.cmac_mac.specs.Cmac.{chain}

-- the text is of n whole blocks, and this is the chain over them
pub record IsChained (value key text : List ℕ) (n : ℕ) : Type 0 where
  pub same : value ≡ chain key text n
  pub whole : length text ≡ 16 * n

-- what is held is `count` octets, at most a block, and then zeros
pub record IsPending (held : List ℕ) (count : ℕ) (octets : List ℕ) : Type 0 where
  pub same : held ≡ octets ++ replicate (16 - count) 0
  pub counted : length octets ≡ count
  pub within : count ≤ 16

-- the chain has taken in the first n blocks of a text, and the rest is held
pub record IsInChain (value held : List ℕ) (count : ℕ) (key text : List ℕ) (n : ℕ) : Type 0 where
  pub chained : value ≡ chain key text n
  pub counted : 16 * n + count ≡ length text
  pub rest : held ≡ drop (16 * n) text ++ replicate (16 - count) 0
