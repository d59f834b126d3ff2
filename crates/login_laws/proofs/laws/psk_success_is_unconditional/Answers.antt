use Rattle.login_laws.proofs.UnconditionalPsk.{psk_success_is_unconditional}
use Rattle.login_laws.proofs.laws.psk_success_is_unconditional.Goals as goal

pub returns : goal.returns
returns c = psk_success_is_unconditional
