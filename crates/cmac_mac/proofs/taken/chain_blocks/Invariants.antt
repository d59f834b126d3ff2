use Rattle.std.proofs.Common.{ℕ, ◌+◌, List, ◌++◌, take}
use Rattle.std.specs.List.{concat}
use Rattle.cmac_mac.specs.Chained.{IsChained}
use Rattle.cmac_mac.proofs.taken.chain_blocks.Given as goal

-- the blocks so far are in the chain
abbrev pub invariant-loop-block : goal.invariant-loop-block
invariant-loop-block l =
    (text : List ℕ) (n : ℕ) → IsChained l.fn.before l.cipher text n
    → IsChained l.chain l.cipher (text ++ concat (take l.block-index l.blocks)) (n + l.block-index)
