use Rattle.std.proofs.Common.{[], ◌++◌, ap, ◌∙◌, take, rules, arith}
use Rattle.hmac_mac.specs.Represents.{Represents}
use Rattle.hmac_mac.specs.Hmac.{hmac_sha256}
use Rattle.cmac_mac.proofs.Pieces.{joined, fed_none, fed_more, fed_all}
use Rattle.login_keys.proofs.gpsk.mac_key.hmac_tag.Goals as goal

pub loop-piece-init : goal.loop-piece-init
loop-piece-init c = λ octets is_key.
    fed_none (Represents c.update.new.self octets) c.args.front.now
    (c.update.ensures octets [] (c.start-mac.ensures octets is_key))

pub loop-piece-preserved : goal.loop-piece-preserved
loop-piece-preserved c = λ octets is_key.
    fed_more (Represents c.update-in-loop-piece.new.self octets)
    c.args.front.now c.args.pieces.now c.loop-piece.piece-index _ (search rules)
    (c.update-in-loop-piece.ensures octets
    (c.args.front.now ++ joined (take c.loop-piece.piece-index c.args.pieces.now))
    (c.loop-piece.invariant octets is_key))

pub returns : goal.returns
returns c = λ octets is_key.
    c.finish.ensures octets _ (c.loop-piece.invariant octets is_key)
    ∙ ap (hmac_sha256 octets)
    (fed_all c.args.front.now c.args.pieces.now c.loop-piece.piece-index (omega arith))
