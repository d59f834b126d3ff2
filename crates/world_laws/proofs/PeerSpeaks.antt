-- What the peer sends: a Response to what came, new or as it was sent before.
use Rattle.std.proofs.Common.{◌≡◌, ℕ, List, ◌++◌, Bool, true, false, Option, Some, None, Ok, refl}
use Rattle.std.proofs.Common.{sym, ap, subst, ◌∙◌}
use Rattle.std.specs.Prelude.{◌==◌}
use Rattle.std.specs.List.{list_any}
use Rattle.std.proofs.lemmas.Bool.{cond_both, eqb-true, eq-eqb, false≢true}
use Rattle.eap_packet.specs.Fault.{type_of, packet_of}
use Rattle.eap_packet.specs.Expanded.{is_wrapped}
use Rattle.eap_packet.specs.Packet.{request, spelled}
use Rattle.eap_packet.specs.declared.packet.Code.TheVariants.{Request}
use Rattle.eap_packet.specs.declared.state.State.{State}
use Rattle.eap_method.specs.Tags.{Tags}
use Rattle.eap_method.specs.declared.values.Decision.{Decision}
use Rattle.eap_method.specs.declared.values.MethodState.{MethodState}
use Rattle.eap_method.specs.Peer.{PeerViews, peer_turn}
use Rattle.eap_method.specs.Plain.{plain_octets}
use Rattle.eap_method.specs.Steps.{is_end}
use Rattle.eap_method.specs.PeerTurn.{Reply}
use Rattle.eap_method.specs.Turns.{PeerOutcome}
use Rattle.peer_machine.specs.Expanded.{express, expanded_answer, expanded_nak_response}
use Rattle.peer_machine.specs.Inputs.{PeerInput, octets, restart, peer_answers, peer_accepts}
use Rattle.peer_machine.specs.PeerTable.{PeerNow, PeerAnswer, before_method, is_last_id}
use Rattle.peer_machine.specs.PeerTable.{peer_restart}
use Rattle.peer_machine.specs.Rows as rows
use Rattle.peer_machine.proofs.Receiving.{PeerReceiving, as_it_is, bad, again, expresses}
use Rattle.peer_machine.proofs.Identifiers.{plain_second_is_id, second_is_id}
use Rattle.peer_machine.proofs.PeerRows.{peer_answers_are_rows}
use Rattle.world_laws.specs.SingleSteps.{identifier_of, is_again}
use Rattle.method_laws.proofs.PeerByMethod.{turn_answers, turn_of}
use Rattle.method_laws.proofs.PeerTurns.{IsResponse, response_is}
use Rattle.world_laws.proofs.Accepting.{peer_accepted_tags}
use Rattle.method_laws.specs.Both.{PeerHasBoth}

-- ---- the Identifier of a packet

arrived_with : (bytes : List ℕ) (id kind : ℕ) (body : List ℕ)
    → packet_of bytes ≡ Ok (request id kind body) → id ≡ identifier_of bytes
arrived_with bytes id kind body is_packet = sym (second_is_id Request id kind body bytes is_packet)

last_is : (held : Option ℕ) (id : ℕ) → is_last_id held id ≡ true → held ≡ Some id
last_is None id e = cc e
last_is (Some last) id e = ap (λ (n : ℕ). Some n) (eqb-true last id e)

-- ---- the method's Response

request_id : (id kind : ℕ) (body : List ℕ) → identifier_of (spelled (request id kind body)) ≡ id
unfolding spelled
request_id id kind body = refl

method_answers : {methods : List ℕ} (id kind : ℕ) (body packet : List ℕ) (m : MethodState)
    (d : Decision) (tags : Tags) (views after : PeerViews)
    → peer_turn kind views (spelled (request id kind body)) ≡ record {
      turn = Reply packet m d tags;
      after = after;
    } → PeerHasBoth methods views → IsResponse id packet
method_answers id kind body packet m d tags views after turned both =
    subst (λ (n : ℕ). IsResponse n packet) (request_id id kind body)
    ((turn_answers kind views (spelled (request id kind body)) _
    (turn_of kind views (spelled (request id kind body)) both)).each packet m d tags
    (ap (λ (out : PeerOutcome PeerViews). out.turn) turned))

-- ---- the rows

-- nothing is sent, and what was sent last stays
pub data PeerSpeaks (now : PeerNow) : PeerInput → PeerAnswer → Type 0 where
  rests : (input : PeerInput) (out : PeerAnswer) (unsent : out.step.sent ≡ None)
      (same_id : out.after.vars.last_id ≡ now.vars.last_id)
      (same : out.after.vars.last_response ≡ now.vars.last_response) → PeerSpeaks now input out
  -- a new Response
  answers : (bytes packet : List ℕ) (out : PeerAnswer)
      (is : IsResponse (identifier_of bytes) packet) (going : is_end now.vars.state ≡ false)
      (sent : out.step.sent ≡ Some packet) (new : list_any is_again out.step.path ≡ false)
      (last_id : out.after.vars.last_id ≡ Some (identifier_of bytes))
      (last : out.after.vars.last_response ≡ packet)
      → PeerSpeaks now (octets bytes) out
  -- the last one again
  repeats : (bytes : List ℕ) (out : PeerAnswer) (was_last : now.vars.last_id
      ≡ Some (identifier_of bytes)) (going : is_end now.vars.state ≡ false)
      (sent : out.step.sent ≡ Some now.vars.last_response)
      (same_id : out.after.vars.last_id ≡ now.vars.last_id)
      (same : out.after.vars.last_response ≡ now.vars.last_response)
      → PeerSpeaks now (octets bytes) out
  -- nothing is sent, and no Response stands in a new conversation
  begins : (nonce : List ℕ) (out : PeerAnswer) (unsent : out.step.sent ≡ None)
      (none : out.after.vars.last_id ≡ None) → PeerSpeaks now (restart nonce) out

module _ {methods : List ℕ} (now : PeerNow) (both : PeerHasBoth methods now.views) where
  answers_to : (bytes packet : List ℕ) (id kind : ℕ) (body : List ℕ) (out : PeerAnswer)
      → packet_of bytes ≡ Ok (request id kind body)
      → is_end now.vars.state ≡ false → IsResponse id packet → out.step.sent ≡ Some packet
      → list_any is_again out.step.path ≡ false
      → out.after.vars.last_id ≡ Some id → out.after.vars.last_response ≡ packet
      → PeerSpeaks now (octets bytes) out
  answers_to bytes packet id kind body out is_packet going is sent new last_id last =
      let came : id ≡ identifier_of bytes = arrived_with bytes id kind body is_packet in
      answers bytes packet out (subst (λ (n : ℕ). IsResponse n packet) came is) going sent new
      (last_id ∙ ap (λ (n : ℕ). Some n) came) last

  -- the states before METHOD are new ones
  before_new : (selects : Bool) (rest : List State) → list_any is_again rest ≡ false
      → list_any is_again (before_method selects ++ rest) ≡ false
  before_new true rest new = new
  before_new false rest new = new

  row_speaks : (input : PeerInput) (out : PeerAnswer) → rows.PeerRow now input out
      → PeerSpeaks now input out
  unfolding peer_restart
  row_speaks _ _ (rows.ended bytes over) = rests _ _ refl refl refl
  row_speaks _ _ (rows.rests report no_octets no_restart over) = rests _ _ refl refl refl
  row_speaks _ _ (rows.begins nonce) = begins nonce _ refl refl
  row_speaks _ _ (rows.drops bytes path c going why) = rests _ _ refl refl refl
  row_speaks _ _ (rows.waits going fails goes_on) = rests _ _ refl refl refl
  row_speaks _ _ (rows.identifies bytes id kind body heard unselected is_identity) =
      answers_to bytes _ id kind body _ heard.is_packet heard.going (response_is id _ _)
      refl refl refl refl
  row_speaks _ _ (rows.notifies bytes id kind body heard unselected is_notification) =
      answers_to bytes _ id kind body _ heard.is_packet heard.going (response_is id _ _)
      refl refl refl refl
  row_speaks _ _
      (rows.naks bytes id kind body heard unselected no_identity no_notification barred) =
      answers_to bytes _ id kind body _ heard.is_packet heard.going (response_is id _ _)
      refl refl refl refl
  row_speaks _ _ (rows.resends bytes id kind body heard) =
      repeats bytes _ (last_is now.vars.last_id id heard.last
      ∙ ap (λ (n : ℕ). Some n) (arrived_with bytes id kind body heard.is_packet))
      heard.going refl refl refl
  row_speaks _ _ (rows.ends_well input entered going sure why) = rests _ _ refl refl refl
  row_speaks _ _ (rows.ends_badly input entered going why) = rests _ _ refl refl refl
  row_speaks _ _
      (rows.method_replies bytes selects id kind body packet m d tags views heard calls turned _) =
      answers_to bytes packet id kind body _ heard.is_packet heard.going
      (method_answers id kind body packet m d tags now.views views turned both)
      refl (before_new selects _ refl) refl refl
  row_speaks _ _ (rows.method_fails bytes selects id kind body packet m d tags views heard calls
      turned _) = rests _ _ refl refl refl

-- ---- with Expanded Types

-- the plain form of a Request has its Identifier
plain_id : (bytes : List ℕ) (id kind : ℕ) (body : List ℕ)
    → packet_of bytes ≡ Ok (request id kind body)
    → identifier_of (plain_octets bytes (request id kind body)) ≡ identifier_of bytes
plain_id bytes id kind body is_packet =
    cond_both (is_wrapped kind body) _ _ (λ (o : List ℕ). identifier_of o ≡ identifier_of bytes)
    (λ _. plain_second_is_id Request id kind body ∙ arrived_with bytes id kind body is_packet)
    (λ _. refl)

-- a Response that is expressed has its Identifier
express_is : (id : ℕ) (methods packet : List ℕ) → IsResponse id packet
    → IsResponse id (express methods packet)
express_is id methods packet is =
    cond_both (type_of packet == 3) _ _ (IsResponse id)
    (λ _. subst (λ (n : ℕ). IsResponse n (expanded_nak_response (identifier_of packet) methods))
    is.same (response_is (identifier_of packet) _ _))
    (λ _. record { code = is.code; same = is.same })

was_last_id : (held : Option ℕ) (id : ℕ) → held ≡ Some id → is_last_id held id ≡ true
was_last_id None id e = absurd cc
was_last_id (Some last) id e = eq-eqb last id (let same : last ≡ id = cc in same)

module _ {methods : List ℕ} (now : PeerNow) (both : PeerHasBoth methods now.views) where
  abbrev Speaks : PeerInput → PeerAnswer → Type 0
  Speaks input out = PeerSpeaks now input out

  answer_speaks : (input : PeerInput) → Speaks input (peer_answers now input)
  answer_speaks input = row_speaks now both input _ (peer_answers_are_rows now input)

  -- what answers other octets with the same Identifier, as it is, and expressed where they are no
  -- Request again
  module _ (bytes plain : List ℕ) (same : identifier_of plain ≡ identifier_of bytes) where
    still_speaks : (out : PeerAnswer) → Speaks (octets plain) out → Speaks (octets bytes) out
    still_speaks _ (rests _ out unsent same_id still) = rests _ out unsent same_id still
    still_speaks _ (answers _ packet out is going sent new last_id last) =
        answers bytes packet out (subst (λ (n : ℕ). IsResponse n packet) same is) going sent new
        (last_id ∙ ap (λ (n : ℕ). Some n) same) last
    still_speaks _ (repeats _ out was_last going sent same_id still) =
        repeats bytes out (was_last ∙ ap (λ (n : ℕ). Some n) same) going sent same_id still

    expressed_speaks : is_last_id now.vars.last_id (identifier_of bytes) ≡ false
        → (out : PeerAnswer) → Speaks (octets plain) out
        → Speaks (octets bytes) (expanded_answer out out.step.sent)
    expressed_speaks new_id _ (rests _ out unsent same_id still) =
        subst (λ (sent : Option (List ℕ)). Speaks (octets bytes) (expanded_answer out sent))
        (sym unsent) (rests _ out unsent same_id still)
    expressed_speaks new_id _ (answers _ packet out is going sent new last_id last) =
        subst (λ (sent : Option (List ℕ)). Speaks (octets bytes) (expanded_answer out sent))
        (sym sent) (answers bytes _ _
        (express_is _ _ packet (subst (λ (n : ℕ). IsResponse n packet) same is)) going refl new
        (last_id ∙ ap (λ (n : ℕ). Some n) same) refl)
    expressed_speaks new_id _ (repeats _ out was_last going sent same_id still) =
        absurd (false≢true (sym new_id ∙ was_last_id now.vars.last_id (identifier_of
        bytes) (was_last ∙ ap (λ (n : ℕ). Some n) same)))

  receiving_speaks : (bytes : List ℕ) (out : PeerAnswer) → PeerReceiving now bytes out
      → Speaks (octets bytes) out
  receiving_speaks bytes _ as_it_is = answer_speaks (octets bytes)
  receiving_speaks bytes _ (bad id kind body asks is_bad) = rests _ _ refl refl refl
  receiving_speaks bytes _ (again id kind body asks last) =
      still_speaks bytes (plain_octets bytes (request id kind body))
      (plain_id bytes id kind body asks.asks.is_packet) _ (answer_speaks (octets _))
  receiving_speaks bytes _ (expresses id kind body asks new) =
      expressed_speaks bytes (plain_octets bytes (request id kind body))
      (plain_id bytes id kind body asks.asks.is_packet) (ap (is_last_id now.vars.last_id) (sym
      (arrived_with bytes id kind body asks.asks.is_packet)) ∙ new) _ (answer_speaks (octets _))

pub peer_speaks : {methods : List ℕ} (now : PeerNow) → PeerHasBoth methods now.views
    → (input : PeerInput) → PeerSpeaks now input (peer_accepts now input)
peer_speaks now both =
    peer_accepted_tags now (PeerSpeaks now) (answer_speaks now both) (receiving_speaks now both)
