use Rattle.std.proofs.Common.{ℕ, List, ◌+◌, ◌-◌, ◌++◌, length, take, drop, arith, ap}
use Rattle.cmac_mac.proofs.Growing.{accepted_more}
use Rattle.cmac_mac.proofs.taken.ChainState.append.Goals as goal

pub returns-clause-chained : goal.returns-clause-chained
returns-clause-chained c = λ key text n before.
    let held : List ℕ = c.args.self.now.held in
    let count : ℕ = c.args.self.now.count in
    let size : ℕ = count + length c.args.octets.now - count in
    let with_part : List ℕ
    → List ℕ = λ part. take count held ++ (part ++ drop size (drop count held)) in
    accepted_more c.args.self.now.chain held (with_part c.copy_from_slice.new.self)
    key text c.args.octets.now count size n before (omega arith)
    c.requires (ap with_part c.copy_from_slice.ensures.after)
