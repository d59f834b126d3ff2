use Rattle.std.proofs.Common.{refl, sym}
use Rattle.command_driver.proofs.Responding.{never_lacks}
use Rattle.end_commands.proofs.Answering.{server_answers}
use Rattle.end_commands.proofs.server.answer_server.Goals as goal

pub returns : goal.returns
returns g c = never_lacks (λ _ _. refl) (λ octets. sym (server_answers octets))
    c.drive.ensures.wanting (rw c.new-end.ensures.seen at c.drive.ensures.responds)
