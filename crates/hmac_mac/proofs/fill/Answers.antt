use Rattle.std.proofs.Common.{List, ℕ, ◌++◌, length, drop, replicate, ap, ◌∙◌}
use Rattle.std.proofs.lemmas.List.{drop-replicate}
use Rattle.hmac_mac.specs.Hmac.{filled}
use Rattle.hmac_mac.proofs.fill.Goals as goal

pub returns : goal.returns
unfolding filled
returns c =
    ap (λ l. l ++ drop (length c.args.octets.now) (replicate 64 0)) c.copy_from_slice.ensures.after
    ∙ ap (λ (l : List ℕ). c.args.octets.now ++ l) (drop-replicate (length c.args.octets.now) 64 0)
