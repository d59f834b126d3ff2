use Rattle.std.proofs.Common.{sym, ap, ◌∙◌}
use Rattle.aes_block.specs.Field.{sub_byte}
use Rattle.aes_block.specs.Words.{octets_of}
use Rattle.aes_block.proofs.Schedule.{get_or_ROUND_CONSTANTS, change_at_first}
use Rattle.aes_block.proofs.word_schedule.change.Goals as goal

pub returns : goal.returns
returns c =
    c.word.ensures
    ∙ rw (
      c.substitute.ensures ∙ ap sub_byte c.octet.ensures,
      c.substitute-2.ensures ∙ ap sub_byte c.octet-2.ensures,
      c.substitute-3.ensures ∙ ap sub_byte c.octet-3.ensures,
      c.substitute-4.ensures ∙ ap sub_byte c.octet-4.ensures,
      get_or_ROUND_CONSTANTS c.args.round c.requires,
    )
    (sym (change_at_first c.args.round (octets_of c.args.last)))
