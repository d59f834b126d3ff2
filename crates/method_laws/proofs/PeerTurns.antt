-- What is asked of a turn of a peer's method: each Response has the Identifier of the Request, and
-- the view after it tells the tags.
use Rattle.std.proofs.Common.{◌≡◌, ℕ, List, ◌++◌, ◌≢◌, refl, subst}
use Rattle.eap_packet.specs.Fault.{code_of}
use Rattle.eap_packet.specs.Packet.{response, spelled}
use Rattle.eap_packet.specs.declared.cause.Cause.{Cause}
use Rattle.eap_method.specs.declared.tags.TagRecord.{TagRecord}
use Rattle.eap_method.specs.declared.values.Decision.{Decision}
use Rattle.eap_method.specs.declared.values.Decision.TheVariants as decision
use Rattle.eap_method.specs.declared.values.MethodState.{MethodState}
use Rattle.eap_method.specs.Tags.{Tags}
use Rattle.eap_method.specs.PeerTurn.{PeerTurn, Discard, Reply}
use Rattle.eap_method.specs.Turns.{PeerOutcome, discarded, id_of}

-- ---- a Response with an Identifier

pub record IsResponse (id : ℕ) (packet : List ℕ) : Type 0 where
  pub code : code_of packet ≡ 2
  pub same : id_of packet ≡ id

pub response_is : (id kind : ℕ) (body : List ℕ) → IsResponse id (spelled (response id kind body))
unfolding spelled
response_is id kind body = record { code = refl; same = refl }

-- each Response of a turn has the Identifier of the Request
pub record Answers (id : ℕ) (turn : PeerTurn) : Type 0 where
  pub each : (packet : List ℕ) (m : MethodState) (d : Decision) (tags : Tags)
      → turn ≡ Reply packet m d tags → IsResponse id packet

pub discards_none : (id : ℕ) (c : Cause) → Answers id (Discard c)
discards_none id c = record { each = λ packet m d tags e. cc e }

pub replies_one : (id kind : ℕ) (body : List ℕ) (m : MethodState) (d : Decision) (tags : Tags)
    → Answers id (Reply (spelled (response id kind body)) m d tags)
replies_one id kind body m d tags = record {
  each = λ packet m' d' tags' e.
      let same : spelled (response id kind body) ≡ packet =
      cc in subst (IsResponse id) same (response_is id kind body);
}

-- ---- tags

-- a discard, or a Response, whose tags are told by the view after it, which is a success where the
-- decision isn't FAIL
pub data Turned (V : Type 0) (IsResult : V → List TagRecord → List TagRecord → Type 0)
    (Succeeds : V → Type 0) (accepted made : List TagRecord)
    : PeerOutcome V → Type 0 where
  drops : (view : V) (c : Cause) → Turned V IsResult Succeeds accepted made (discarded view c)
  replies : (packet : List ℕ) (m : MethodState) (d : Decision) (tags : Tags) (view : V)
      (told : IsResult view (accepted ++ tags.accepted) (made ++ tags.made))
      (decided : d ≢ decision.Fail → Succeeds view)
      → Turned V IsResult Succeeds accepted made
      (record { turn = Reply packet m d tags; after = view })

-- where the turn is a Response, so it is
pub after_reply : {V : Type 0} {IsResult : V → List TagRecord → List TagRecord → Type 0}
    {Succeeds : V → Type 0} (accepted made : List TagRecord) (out : PeerOutcome V)
    → Turned V IsResult Succeeds accepted made out → (packet : List ℕ) (m : MethodState)
    (d : Decision) (tags : Tags) → out.turn ≡ Reply packet m d tags
    → IsResult out.after (accepted ++ tags.accepted) (made ++ tags.made)
    × (d ≢ decision.Fail → Succeeds out.after)
after_reply accepted made _ (drops view c) packet m d tags e = absurd cc
after_reply {IsResult = IsResult} {Succeeds = Succeeds} accepted made _
    (replies packet' m' d' tags' view told decided) packet m d tags e =
    let same : tags' ≡ tags = cc in
    let decides : d' ≡ d = cc in (
      subst (λ (t : Tags). IsResult view (accepted ++ t.accepted) (made ++ t.made)) same told,
      subst (λ (decided_so : Decision). decided_so ≢ decision.Fail → Succeeds view) decides decided,
    )
