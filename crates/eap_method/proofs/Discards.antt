-- An outcome that keeps the view where its turn is a discard.
use Rattle.std.proofs.Common.{◌≡◌, ℕ, List, Bool, true, false, refl}
use Rattle.std.specs.Prelude.{if◌then◌else◌}
use Rattle.eap_packet.specs.declared.cause.Cause.{Cause}
use Rattle.eap_method.specs.declared.tags.TagRecord.{TagRecord}
use Rattle.eap_method.specs.PeerTurn as peer_answer
use Rattle.eap_method.specs.ServerTurn as server_answer
use Rattle.eap_method.specs.declared.values.MethodState.{MethodState}
use Rattle.eap_method.specs.declared.values.Decision.{Decision}
use Rattle.eap_method.specs.Turns.{PeerOutcome, ServerOutcome, discarded, replied, dropped}
use Rattle.eap_method.specs.Turns.{requested, done}

-- where a peer's turn is a discard, the view after it is the one before
pub record PeerPreserves {V : Type 0} (view : V) (out : PeerOutcome V) : Type 0 where
  pub keeps : (cause : Cause) → out.turn ≡ peer_answer.Discard cause → out.after ≡ view

-- where a server's turn is a discard, the view after it is the one before
pub record ServerPreserves {V : Type 0} (view : V) (out : ServerOutcome V) : Type 0 where
  pub keeps : (cause : Cause) → out.turn ≡ server_answer.Discard cause → out.after ≡ view

-- what holds of both outcomes of a test holds of the one that is chosen
pub by_test : {A : Type 0} (P : A → Type 0) (test : Bool) (x y : A) → P x → P y
    → P (if test then x else y)
by_test P true x y on_true on_false = on_true
by_test P false x y on_true on_false = on_false

pub discard_keeps : {V : Type 0} (view : V) (cause : Cause)
    → PeerPreserves view (discarded view cause)
discard_keeps view cause = record { keeps = λ _ _. refl }

pub reply_keeps : {V : Type 0} (view after : V) (packet : List ℕ) (state : MethodState)
    (decision : Decision) (accepted made : List TagRecord)
    → PeerPreserves view (replied after packet state decision accepted made)
reply_keeps view after packet state decision accepted made =
    record { keeps = λ cause is_discard. cc is_discard }

pub drop_keeps : {V : Type 0} (view : V) (cause : Cause) → ServerPreserves view (dropped view cause)
drop_keeps view cause = record { keeps = λ _ _. refl }

pub request_keeps : {V : Type 0} (view after : V) (packet : List ℕ) (accepted made : List TagRecord)
    → ServerPreserves view (requested after packet accepted made)
request_keeps view after packet accepted made = record { keeps = λ cause is_discard. cc is_discard }

pub done_keeps : {V : Type 0} (view after : V) (success : Bool) (accepted : List TagRecord)
    → ServerPreserves view (done after success accepted)
done_keeps view after success accepted = record { keeps = λ cause is_discard. cc is_discard }
