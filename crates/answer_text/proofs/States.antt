-- The states of a path, one by one.
use Rattle.std.proofs.Common.{◌≡◌, ℕ, ◌+◌, ◌<◌, List, ◌++◌, refl, length, drop, get_or, add-one}
use Rattle.std.proofs.Common.{drop-cons}
use Rattle.eap_packet.specs.declared.state.State.{State}
use Rattle.answer_text.specs.Paths.{state_text, states_text}

pub states_text_drop : (states : List State) (i : ℕ) (d : State) → i < length states
    → states_text (drop i states)
    ≡ state_text (get_or states i d) ++ states_text (drop (i + 1) states)
states_text_drop states i d h = rw (add-one, drop-cons states i d h) refl
