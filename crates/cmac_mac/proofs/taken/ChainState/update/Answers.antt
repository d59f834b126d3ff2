use Rattle.std.proofs.Common.{ℕ, List, ◌++◌, subst, sym, arith}
use Rattle.cmac_mac.specs.Cmac.{inner_count}
use Rattle.cmac_mac.specs.Chained.{IsInChain}
use Rattle.cmac_mac.specs.Represents.{HasChained}
use Rattle.cmac_mac.proofs.Growing.{pieces, stays_accepted}
use Rattle.cmac_mac.proofs.taken.ChainState.update.Goals as goal

pub returns-then-piece-room : goal.returns-then-piece-room
unfolding HasChained
returns-then-piece-room c = λ text before.
    stays_accepted _ _ c.args.key.now text c.args.piece.now c.args.self.now.count _ before.counted
    (omega arith) (c.append.ensures.chained c.args.key.now text (inner_count text) before)

pub returns-else-piece-room : goal.returns-else-piece-room
unfolding HasChained
returns-else-piece-room c = λ text before.
    let m : ℕ = inner_count text in
    let cipher : List ℕ = c.cipher.result.now in
    let front : List ℕ = c.split_at.result.0.now in
    let under : IsInChain c.args.self.now.chain c.args.self.now.held c.args.self.now.count
    cipher text m =
    subst (λ key. IsInChain c.args.self.now.chain c.args.self.now.held c.args.self.now.count key
    text m) (sym c.cipher.ensures) before in
    let after = c.chain_in.ensures (text ++ front) m
    (c.append-else-piece-room.ensures.chained cipher text m under) in
    let whole = pieces text front c.split_at.result.1.now c.args.piece.now _
    c.split_at.ensures.front c.split_at.ensures.back in
    let new : List ℕ → List ℕ → Type 0 = λ key grown.
    IsInChain c.chain_in.new.self.chain c.chain_in.new.self.held c.chain_in.new.self.count key grown
    (inner_count grown) in
    subst (λ key. new key (text ++ c.args.piece.now)) c.cipher.ensures
    (subst (new cipher) whole after)
