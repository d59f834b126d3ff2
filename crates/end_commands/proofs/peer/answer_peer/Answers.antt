use Rattle.std.proofs.Common.{refl, sym}
use Rattle.command_driver.proofs.Responding.{never_lacks}
use Rattle.end_commands.proofs.Answering.{peer_answers}
use Rattle.end_commands.proofs.peer.answer_peer.Goals as goal

pub returns : goal.returns
returns g c = never_lacks (λ _ _. refl) (λ octets. sym (peer_answers octets))
    c.drive.ensures.wanting (rw c.new-end.ensures.seen at c.drive.ensures.responds)
