-- Laws of the peer (RFC 4137 section 4), over its table alone.
use Rattle.std.specs.Prelude.{◌≡◌, ℕ, List, Bool, true, false, Some, None, IsSome}
use Rattle.eap_packet.specs.declared.state.State.{State}
use Rattle.eap_packet.specs.declared.state.State.TheVariants as state
use Rattle.eap_method.specs.Tags.{no_tags}
use Rattle.peer_machine.specs.Inputs.{PeerInput, alt_reject, restart, peer_accepts}
use Rattle.peer_machine.specs.PeerTable.{PeerNow, PeerAnswer, is_done, is_uncond}

-- no variable and no view of a method changed, nothing was sent, and no tag was accepted or made
pub record PreservesThePeer (before : PeerNow) (out : PeerAnswer) : Type 0 where
  pub all : out.after ≡ before
  pub sent : out.step.sent ≡ None
  pub tags : out.step.tags ≡ no_tags

-- a discard changes nothing
abbrev pub DiscardsChangeNothing : Type 0
DiscardsChangeNothing =
    (now : PeerNow) (input : PeerInput) → IsSome (peer_accepts now input).step.cause
    → PreservesThePeer now (peer_accepts now input)

abbrev pub is_failed : State → Bool
is_failed s = elim s [ state.Failure ↦ true | state.TimeoutFailure ↦ true | _ ↦ false ]

-- the method is over and has decided for a success that nothing can undo (UNCOND_SUCC), and the
-- peer hasn't failed
pub record HasUnconditionalSuccess (now : PeerNow) : Type 0 where
  pub kind : ℕ
  pub selected : now.vars.selected ≡ Some kind
  pub over : is_done now.vars.method_state ≡ true
  pub sure : is_uncond now.vars.decision ≡ true
  pub stands : is_failed now.vars.state ≡ false

-- it stays so whatever octets come and whatever the lower layer reports but a failure, till a new
-- conversation
abbrev pub UnconditionalSuccessStays : Type 0
UnconditionalSuccessStays =
    (now : PeerNow) (input : PeerInput) → HasUnconditionalSuccess now → (input ≡ alt_reject → ⊥)
    → ((nonce : List ℕ) → input ≡ restart nonce → ⊥)
    → HasUnconditionalSuccess (peer_accepts now input).after
