use Rattle.end_commands.specs.EndText.{told_text}
use Rattle.end_commands.proofs.lines.write_step.Goals as goal

pub returns-else-told : goal.returns-else-told
unfolding told_text
returns-else-told g c tags = rw c.if-told.false (c.write_acted.ensures tags)
