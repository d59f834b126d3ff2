use Rattle.std.proofs.Common.{◌++◌, ap, ◌∙◌, append-nil}
use Rattle.cmac_mac.specs.Cmac.{aes_cmac}
use Rattle.eax_mode.specs.Eax.{omac}
use Rattle.eax_mode.proofs.omac.Goals as goal

pub returns : goal.returns
unfolding omac
returns c =
    c.tag.ensures
    ∙ ap (λ text. aes_cmac c.args.key.now (c.to_be_bytes.result ++ text))
    (append-nil c.args.text.now)
    ∙ ap (λ block. aes_cmac c.args.key.now (block ++ c.args.text.now)) c.to_be_bytes.ensures
