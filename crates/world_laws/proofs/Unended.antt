-- An end that goes on doesn't stand in SUCCESS.
use Rattle.std.proofs.Common.{◌≡◌, true, false, sym}
use Rattle.std.proofs.lemmas.Bool.{false≢true}
use Rattle.eap_packet.specs.declared.state.State.{State}
use Rattle.eap_packet.specs.declared.state.State.TheVariants as state
use Rattle.eap_method.specs.Steps.{is_end}
use Rattle.eap_world.specs.Judgement.{is_success}

pub goes_on : (s : State) → is_end s ≡ false → is_success s ≡ true → ⊥
goes_on state.Success going ended = false≢true (sym going)
goes_on s going ended = false≢true ended
