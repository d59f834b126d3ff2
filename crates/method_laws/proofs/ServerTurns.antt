-- What is asked of a turn of a server's method: each Request has the next Identifier, and the view
-- after it tells the tags.
use Rattle.std.proofs.Common.{◌≡◌, ℕ, List, ◌++◌, Bool, true, refl, subst}
use Rattle.eap_packet.specs.Fault.{code_of}
use Rattle.eap_packet.specs.Packet.{request, spelled}
use Rattle.eap_packet.specs.declared.cause.Cause.{Cause}
use Rattle.eap_method.specs.declared.tags.TagRecord.{TagRecord}
use Rattle.eap_method.specs.ServerTurn.{ServerTurn}
use Rattle.eap_method.specs.ServerTurn as turn
use Rattle.eap_method.specs.Tags.{Tags}
use Rattle.eap_method.specs.Turns.{ServerOutcome, dropped, id_of}

-- ---- a Request with an Identifier

pub record IsRequest (id : ℕ) (packet : List ℕ) : Type 0 where
  pub code : code_of packet ≡ 1
  pub same : id_of packet ≡ id

pub request_is : (id kind : ℕ) (body : List ℕ) → IsRequest id (spelled (request id kind body))
unfolding spelled
request_is id kind body = record { code = refl; same = refl }

-- each Request of a turn has the next Identifier
pub record Asks (id : ℕ) (answered : ServerTurn) : Type 0 where
  pub each : (packet : List ℕ) (tags : Tags) → answered ≡ turn.Request packet tags
      → IsRequest id packet

pub asks_none : (id : ℕ) (c : Cause) → Asks id (turn.Discard c)
asks_none id c = record { each = λ packet tags e. cc e }

pub asks_no_more : (id : ℕ) (good : Bool) (tags : Tags) → Asks id (turn.Done good tags)
asks_no_more id good tags = record { each = λ packet tags' e. cc e }

pub asks_one : (id kind : ℕ) (body : List ℕ) (tags : Tags)
    → Asks id (turn.Request (spelled (request id kind body)) tags)
asks_one id kind body tags = record {
  each = λ packet tags' e. let same : spelled (request id kind body) ≡ packet = cc in
      subst (IsRequest id) same (request_is id kind body);
}

-- ---- tags

-- a discard, or a turn whose tags are told by the view after it, which is a success where the turn
-- says so
pub data Turned (V : Type 0) (IsResult : V → List TagRecord → List TagRecord → Type 0)
    (Succeeds : V → Type 0) (accepted made : List TagRecord)
    : ServerOutcome V → Type 0 where
  drops : (view : V) (c : Cause) → Turned V IsResult Succeeds accepted made (dropped view c)
  requests : (packet : List ℕ) (tags : Tags) (view : V)
      (told : IsResult view (accepted ++ tags.accepted) (made ++ tags.made))
      → Turned V IsResult Succeeds accepted made
      (record { turn = turn.Request packet tags; after = view })
  ends : (good : Bool) (tags : Tags) (view : V) (told : IsResult view (accepted ++ tags.accepted)
      (made ++ tags.made)) (well : good ≡ true → Succeeds view)
      → Turned V IsResult Succeeds accepted made
      (record { turn = turn.Done good tags; after = view })

-- where the turn is a Request, or the end, so it is
pub requested_by : {V : Type 0} {IsResult : V → List TagRecord → List TagRecord → Type 0}
    {Succeeds : V → Type 0} (accepted made : List TagRecord) (out : ServerOutcome V)
    → Turned V IsResult Succeeds accepted made out → (packet : List ℕ) (tags : Tags)
    → out.turn ≡ turn.Request packet tags
    → IsResult out.after (accepted ++ tags.accepted) (made ++ tags.made)
requested_by accepted made _ (drops view c) packet tags e = absurd cc
requested_by {IsResult = IsResult} accepted made _
    (requests packet' tags' view told) packet tags e =
    let same : tags' ≡ tags = cc in
    subst (λ (t : Tags). IsResult view (accepted ++ t.accepted) (made ++ t.made)) same told
requested_by accepted made _ (ends good tags' view told well) packet tags e = absurd cc

pub ended_by : {V : Type 0} {IsResult : V → List TagRecord → List TagRecord → Type 0}
    {Succeeds : V → Type 0} (accepted made : List TagRecord) (out : ServerOutcome V)
    → Turned V IsResult Succeeds accepted made out → (good : Bool) (tags : Tags)
    → out.turn ≡ turn.Done good tags
    → IsResult out.after (accepted ++ tags.accepted) (made ++ tags.made)
    × (good ≡ true → Succeeds out.after)
ended_by accepted made _ (drops view c) good tags e = absurd cc
ended_by accepted made _ (requests packet tags' view told) good tags e = absurd cc
ended_by {IsResult = IsResult} {Succeeds = Succeeds} accepted made _
    (ends good' tags' view told well) good tags e =
    let same : tags' ≡ tags = cc in
    let is : good' ≡ good = cc in (
      subst (λ (t : Tags). IsResult view (accepted ++ t.accepted) (made ++ t.made)) same told,
      subst (λ (b : Bool). b ≡ true → Succeeds view) is well,
    )
