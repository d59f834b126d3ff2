use Rattle.std.proofs.Common.{refl, sym}
use Rattle.command_driver.proofs.Responding.{never_lacks}
use Rattle.capture_commands.proofs.Checking.{check_answers}
use Rattle.capture_commands.proofs.check.check_capture.Goals as goal

pub returns : goal.returns
returns g c = never_lacks (λ _ _. refl) (λ octets. sym (check_answers octets))
    c.drive.ensures.wanting (rw c.new.ensures at c.drive.ensures.responds)
