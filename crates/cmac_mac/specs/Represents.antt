-- Which key and text a `Cmac` represents.
use Rattle.std.specs.Prelude.{◌≡◌, ℕ, List}
use Rattle.cmac_mac.specs.Cmac.{inner_count}
use Rattle.cmac_mac.specs.Chained.{IsInChain}
use Rattle.cmac_mac.specs.declared.taken.ChainState.{ChainState}
use Rattle.cmac_mac.specs.declared.Cmac.{Cmac}

-- the text so far: all its blocks before the last one are in the chain
unfoldable pub HasChained : ChainState → List ℕ → List ℕ → Type 0
HasChained taken key text = IsInChain taken.chain taken.held taken.count key text (inner_count text)

-- the value represents this text under this key
unfoldable pub Represents : Cmac → List ℕ → List ℕ → Type 0
Represents mac key text = (mac.key ≡ key) × HasChained mac.taken key text
