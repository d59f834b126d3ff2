use Rattle.std.proofs.Common.{◌≡◌, rules}
use Rattle.eax_mode.specs.Eax.{eax_plaintext, eax_tag}
use Rattle.eax_mode.proofs.Sealing.{only_text}
use Rattle.eax_mode.proofs.eax_unseal_with.Goals as goal

pub returns-clause-only : goal.returns-clause-only
unfolding eax_plaintext eax_tag
returns-clause-only c =
    let is_tag : c.args.tag.now
    ≡ eax_tag c.args.key.now c.args.nonce.now c.args.header.now c.args.text.now = search rules in
    let is_text : c.apply_key_stream.new.text
    ≡ eax_plaintext c.args.key.now c.args.nonce.now c.args.text.now = search rules in
    only_text _ _ _ _ _ _ is_tag is_text
