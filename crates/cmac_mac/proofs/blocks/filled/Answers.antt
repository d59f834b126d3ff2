use Rattle.std.proofs.Common.{List, ℕ, ◌++◌, length, drop, replicate, ap, ◌∙◌}
use Rattle.std.proofs.lemmas.List.{drop-replicate}
use Rattle.cmac_mac.proofs.blocks.filled.Goals as goal

pub returns : goal.returns
returns c =
    ap (λ l. l ++ drop (length c.args.octets.now) (replicate 16 0)) c.copy_from_slice.ensures.after
    ∙ ap (λ (l : List ℕ). c.args.octets.now ++ l) (drop-replicate (length c.args.octets.now) 16 0)
