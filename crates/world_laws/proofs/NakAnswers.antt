-- Each Nak that the peer sends anew answers a Request of a Type that it doesn't allow.
use Rattle.std.proofs.Common.{◌≡◌, ℕ, ◌-◌, zero, suc, List, [], ◌∷◌, Bool, true, false, Option}
use Rattle.std.proofs.Common.{Some, None, Result, Ok, Err, take, drop, refl, sym, ap, subst, ◌∙◌}
use Rattle.std.specs.Prelude.{◌==◌, ◌&&◌, ◌||◌, if◌then◌else◌, not, slice_index}
use Rattle.std.specs.List.{list_any}
use Rattle.std.proofs.lemmas.Bool.{and_from, and_parts, cond_both, eq-eqb, eqb-true, false≢true}
use Rattle.std.proofs.lemmas.Bool.{or_left, or_right}
use Rattle.login_setup.specs.declared.event.Event.{Event}
use Rattle.login_setup.specs.declared.setup.Party.TheVariants as party
use Rattle.login_setup.specs.declared.setup.PeerSetup.{PeerSetup}
use Rattle.login_setup.specs.declared.setup.Setup.{Setup}
use Rattle.octet_lists.specs.Among.{expanded_kind, is_among, nak_kind}
use Rattle.eap_packet.specs.declared.cause.Cause.{Cause}
use Rattle.eap_packet.specs.Expanded.{expanded_form, has_plain, inner_body, inner_kind}
use Rattle.eap_packet.specs.Expanded.{is_bad_expanded, is_ietf, is_nak_body, is_wrapped}
use Rattle.eap_packet.specs.Fault.{code_of, fields_of, length_of, packet_of, type_of}
use Rattle.eap_packet.specs.Packet.{PacketValue, failure, request, response, spelled, success}
use Rattle.eap_packet.proofs.Grammar.{fields_if_read}
use Rattle.eap_method.specs.Peer.{PeerViews}
use Rattle.eap_method.specs.PeerTurn.{PeerTurn, Reply}
use Rattle.eap_method.specs.Plain.{plain_octets}
use Rattle.eap_method.specs.Steps.{is_end}
use Rattle.eap_method.specs.Tags.{Tags}
use Rattle.eap_method.specs.Turns.{PeerOutcome}
use Rattle.eap_method.specs.declared.values.Decision.{Decision}
use Rattle.eap_method.specs.declared.values.MethodState.{MethodState}
use Rattle.peer_machine.specs.Expanded.{expanded_answer, expressed_unless, express, peer_reads}
use Rattle.peer_machine.specs.Expanded.{peer_receives}
use Rattle.peer_machine.specs.Inputs.{PeerInput, octets, peer_accepts}
use Rattle.peer_machine.specs.PeerTable.{PeerAnswer, PeerNow, is_last_id, peer_deliver}
use Rattle.peer_machine.specs.PeerTable.{peer_discard, peer_restart, setup_with_nonce}
use Rattle.peer_machine.specs.Rows as rows
use Rattle.peer_machine.proofs.PeerRows.{peer_answers_are_rows}
use Rattle.eap_world.specs.Sent.{Sent}
use Rattle.eap_world.specs.World.{WorldNow, WorldOutcome, to_pass, to_peer, to_server}
use Rattle.server_machine.specs.Expanded.{accepts_nak, response_octets}
use Rattle.server_machine.specs.Variables.{ServerVariables}
use Rattle.world_laws.specs.Downgrade.{IsRefused, NaksRefuse, asked_kind, asks_for, is_nak}
use Rattle.world_laws.specs.SingleSteps.{Sends, delivered_in, is_again}
use Rattle.world_laws.proofs.EndInvariants.{every_run_so_far}
use Rattle.method_laws.proofs.PeerByMethod.{turn_of}
use Rattle.method_laws.proofs.PeerKinds.{AreOfMethod, turn_is_of_method}
use Rattle.world_laws.proofs.PeerSpeaks as peering
use Rattle.world_laws.proofs.PeerSpeaks.{PeerSpeaks, peer_speaks}
use Rattle.world_laws.proofs.SingleSteps.{StepOf, cancel, is_called, is_skipped, one_sent}
use Rattle.world_laws.proofs.SingleSteps.{passed_to_peer, step_of}
use Rattle.method_laws.specs.Both.{PeerHasBoth}
use Rattle.world_laws.specs.Runs.{run_of}

-- ---- Types of packets

type_of_fields : (code : ℕ) (bytes : List ℕ) (id kind : ℕ) (body : List ℕ)
    → fields_of code bytes ≡ request id kind body → type_of bytes ≡ kind
type_of_fields code bytes id kind body =
    cond_both (code == 1) (request _ (type_of bytes) _) _
    (λ (p : PacketValue). p ≡ request id kind body → type_of bytes ≡ kind) (λ _ e. cc)
    (λ _. cond_both (code == 2) (response _ (type_of bytes) _) _
    (λ (p : PacketValue). p ≡ request id kind body → type_of bytes ≡ kind) (λ _ e. cc e)
    (λ _. cond_both (code == 3) (success _) (failure _) (λ (p : PacketValue). p
    ≡ request id kind body → type_of bytes ≡ kind) (λ _ e. cc e) (λ _ e. cc e)))

request_type : (bytes : List ℕ) (id kind : ℕ) (body : List ℕ)
    → packet_of bytes ≡ Ok (request id kind body) → type_of bytes ≡ kind
request_type bytes id kind body is = type_of_fields (code_of bytes) bytes id kind body
    (fields_if_read bytes (request id kind body) is)

value_is : (code : ℕ) (bytes : List ℕ) (id kind : ℕ) (body : List ℕ)
    → fields_of code bytes ≡ response id kind body
    → (type_of bytes ≡ kind) × (take (length_of bytes - 5) (drop 5 bytes) ≡ body)
value_is code bytes id kind body =
    let Same : PacketValue → Type 0 = λ p. p ≡ response id kind body → (type_of bytes ≡ kind)
    × (take (length_of bytes - 5) (drop 5 bytes) ≡ body) in
    cond_both (code == 1) (request _ (type_of bytes) _) _ Same (λ _ e. cc e)
    (λ _. cond_both (code == 2) (response _ (type_of bytes)
    (take (length_of bytes - 5) (drop 5 bytes))) _ Same (λ _ e. (cc, cc))
    (λ _. cond_both (code == 3) (success _) (failure _) Same (λ _ e. cc e) (λ _ e. cc e)))

response_is : (bytes : List ℕ) (id kind : ℕ) (body : List ℕ)
    → packet_of bytes ≡ Ok (response id kind body)
    → (type_of bytes ≡ kind) × (take (length_of bytes - 5) (drop 5 bytes) ≡ body)
response_is bytes id kind body is =
    value_is (code_of bytes) bytes id kind body (fields_if_read bytes (response id kind body) is)

-- a Nak is one
pub response_nak : (bytes : List ℕ) (id kind : ℕ) (body : List ℕ)
    → packet_of bytes ≡ Ok (response id kind body) → kind ≡ nak_kind → is_nak bytes ≡ true
response_nak bytes id kind body is same = or_left (type_of bytes == nak_kind) _
    (eq-eqb (type_of bytes) nak_kind ((response_is bytes id kind body is).0 ∙ same))

-- a Response of another Type is no Nak
no_nak : (id kind : ℕ) (body : List ℕ) → (kind == nak_kind) ≡ false
    → (kind == expanded_kind) ≡ false → is_nak (spelled (response id kind body)) ≡ false
unfolding spelled
no_nak id kind body other plain =
    ap (λ (b : Bool). b || ((kind
    == expanded_kind) && (slice_index (spelled (response id kind body)) 11 == nak_kind))) other
    ∙ ap (λ (b : Bool). b && (slice_index (spelled (response id kind body)) 11 == nak_kind)) plain

-- ---- a method's Responses

record NoNaks (turn : PeerTurn) : Type 0 where
  each : (packet : List ℕ) (m : MethodState) (d : Decision) (tags : Tags)
      → turn ≡ Reply packet m d tags → is_nak packet ≡ false

turn_none : (turn : PeerTurn) → AreOfMethod turn → NoNaks turn
turn_none turn are = record {
  each = λ packet m d tags e. (let is = are.each packet m d tags e in
      subst (λ (p : List ℕ). is_nak p ≡ false) (sym is.same)
      (no_nak is.id is.kind is.body is.no_nak is.plain));
}

-- ---- the rows

-- octets that the table reads as a Request of a Type that isn't allowed
record IsBarred (now : PeerNow) (bytes : List ℕ) : Type 0 where
  id : ℕ
  kind : ℕ
  body : List ℕ
  is_packet : packet_of bytes ≡ Ok (request id kind body)
  going : is_end now.vars.state ≡ false
  barred : is_among now.vars.setup.methods kind ≡ false

-- a Nak that is sent anew answers them
record NaksSo (now : PeerNow) (bytes : List ℕ) (out : PeerAnswer) : Type 0 where
  each : (packet : List ℕ) → out.step.sent ≡ Some packet → list_any is_again out.step.path ≡ false
      → is_nak packet ≡ true → IsBarred now bytes

some_same : (one other : List ℕ) → Some one ≡ Some other → one ≡ other
some_same one other e = cc

other_sent : {A : Type 0} (one packet : List ℕ) → is_nak one ≡ false → Some one ≡ Some packet
    → is_nak packet ≡ true → A
other_sent one packet none same is =
    absurd (false≢true (sym none ∙ (ap is_nak (some_same one packet same) ∙ is)))

bytes_same : (one other : List ℕ) → octets one ≡ octets other → one ≡ other
bytes_same one other e = cc

module _ {methods : List ℕ} (now : PeerNow) (bytes : List ℕ)
    (both : PeerHasBoth methods now.views) where
  row_naks : (input : PeerInput) (out : PeerAnswer) → rows.PeerRow now input out
      → input ≡ octets bytes → NaksSo now bytes out
  unfolding peer_restart
  row_naks _ _ (rows.ended _ over) same = record { each = λ packet sent new is. cc sent }
  row_naks _ _ (rows.rests report no_octets no_restart over) same =
      record { each = λ packet sent new is. cc sent }
  row_naks _ _ (rows.begins nonce) same = record { each = λ packet sent new is. cc sent }
  row_naks _ _ (rows.drops _ path c going why) same =
      record { each = λ packet sent new is. cc sent }
  row_naks _ _ (rows.waits going fails goes_on) same =
      record { each = λ packet sent new is. cc sent }
  row_naks _ _ (rows.identifies _ id kind body heard unselected is_identity) same =
      record {
        each = λ packet sent new is. other_sent _ packet
            (no_nak id 1 now.vars.setup.name refl refl) sent is;
      }
  row_naks _ _ (rows.notifies _ id kind body heard unselected is_notification) same =
      record { each = λ packet sent new is. other_sent _ packet (no_nak id 2 [] refl refl) sent is }
  row_naks _ _ (rows.naks own id kind body heard unselected no_identity no_notification barred)
      same = record {
        each = λ packet sent new is.
            record {
              id = id;
              kind = kind;
              body = body;
              is_packet = subst (λ (o : List ℕ). packet_of o ≡ Ok (request id kind body))
                  (bytes_same own bytes same) heard.is_packet;
              going = heard.going;
              barred = barred;
            };
      }
  row_naks _ _ (rows.resends _ id kind body heard) same =
      record { each = λ packet sent new is. cc new }
  row_naks _ _ (rows.ends_well input entered going sure why) same =
      record { each = λ packet sent new is. cc sent }
  row_naks _ _ (rows.ends_badly input entered going why) same =
      record { each = λ packet sent new is. cc sent }
  row_naks _ _ (rows.method_replies _ selects id kind body one m d tags views heard calls turned _)
      same = record {
        each = λ packet sent new is.
            other_sent one packet
            ((turn_none _ (turn_is_of_method kind now.views (spelled (request id kind body)) _
            (turn_of kind now.views (spelled (request id kind body)) both))).each one m d tags
            (ap (λ (out : PeerOutcome PeerViews). out.turn) turned))
            sent is;
      }
  row_naks _ _ (rows.method_fails _ selects id kind body one m d tags views heard calls turned _)
      same = record { each = λ packet sent new is. cc sent }

  table_naks : NaksSo now bytes (peer_deliver now bytes)
  table_naks = row_naks (octets bytes) _ (peer_answers_are_rows now (octets bytes)) refl

-- ---- with Expanded Types

front_of : (n : ℕ) (l : List ℕ) (i k : ℕ) → slice_index (take n l) i ≡ suc k
    → slice_index l i ≡ suc k
front_of zero l i k e = cc e
front_of (suc n) [] i k e = e
front_of (suc n) (x ∷ rest) zero k e = e
front_of (suc n) (x ∷ rest) (suc i) k e = front_of n rest i k e

fifth : (o : List ℕ) → slice_index (drop 4 o) 0 ≡ slice_index o 4
fifth [] = refl
fifth (a ∷ []) = refl
fifth (a ∷ b ∷ []) = refl
fifth (a ∷ b ∷ c ∷ []) = refl
fifth (a ∷ b ∷ c ∷ d ∷ []) = refl
fifth (a ∷ b ∷ c ∷ d ∷ e ∷ rest) = refl

twelfth : (o : List ℕ) → slice_index (drop 5 o) 6 ≡ slice_index o 11
twelfth [] = refl
twelfth (a ∷ []) = refl
twelfth (a ∷ b ∷ []) = refl
twelfth (a ∷ b ∷ c ∷ []) = refl
twelfth (a ∷ b ∷ c ∷ d ∷ []) = refl
twelfth (a ∷ b ∷ c ∷ d ∷ e ∷ rest) = refl

form_nak : (o : List ℕ) → is_nak (expanded_form o) ≡ true → is_nak o ≡ true
form_nak o is =
    let inner : slice_index (take (length_of o - 4) (drop 4 o)) 0 ≡ nak_kind = eqb-true _ _ is in
    or_left (type_of o == nak_kind) _
    (eq-eqb (type_of o) nak_kind (sym (fifth o) ∙ front_of (length_of o - 4) (drop 4 o) 0 2 inner))

express_nak : (methods o : List ℕ) → is_nak (express methods o) ≡ true → is_nak o ≡ true
express_nak methods o =
    cond_both (type_of o == nak_kind) _ _ (λ (p : List ℕ). is_nak p ≡ true → is_nak o ≡ true)
    (λ is _. or_left (type_of o == nak_kind) _ is) (λ _. form_nak o)

-- what a server reads as a Nak is one
not_true : (b : Bool) → not b ≡ true → b ≡ false
not_true true e = cc e
not_true false e = refl

plain_nak : (bytes : List ℕ) (id kind : ℕ) (body : List ℕ)
    → is_nak (plain_octets bytes (response id kind body)) ≡ true → is_nak bytes ≡ true
plain_nak bytes id kind body = by (is_wrapped kind body) refl
  where
    by : (b : Bool) → is_wrapped kind body ≡ b
        → is_nak (if b then spelled (if b then response id (inner_kind body) (inner_body body)
        else response id kind body) else bytes) ≡ true → is_nak bytes ≡ true
    by false wrapped is = is
    by true wrapped is =
        let body_is = (and_parts (kind == expanded_kind) _ wrapped).1 in
        let plain = (and_parts (is_ietf body) (has_plain (inner_kind body)) body_is).1 in
        let rest = (and_parts (not (inner_kind body == 0)) _ plain).1 in
        let both = and_parts (not (inner_kind body == nak_kind))
        (not (inner_kind body == expanded_kind)) rest in
        absurd (false≢true (sym (no_nak id (inner_kind body) (inner_body body) (not_true (inner_kind
        body == nak_kind) both.0) (not_true (inner_kind body == expanded_kind) both.1)) ∙ is))

pub read_nak : (vars : ServerVariables) (bytes : List ℕ) (id kind : ℕ) (body : List ℕ)
    → packet_of bytes ≡ Ok (response id kind body)
    → is_nak (response_octets vars bytes id kind body) ≡ true → is_nak bytes ≡ true
read_nak vars bytes id kind body is =
    cond_both ((kind == expanded_kind) && (is_nak_body body && accepts_nak vars)) _ _
    (λ (o : List ℕ). is_nak o ≡ true → is_nak bytes ≡ true)
    (λ read _.
    let one = and_parts (kind == expanded_kind) _ read in
    let two = and_parts (is_nak_body body) (accepts_nak vars) one.1 in
    let three = and_parts (is_ietf body) (inner_kind body == nak_kind) two.0 in
    let facts = response_is bytes id kind body is in
    let inner : slice_index (take (length_of bytes - 5) (drop 5 bytes)) 6 ≡ nak_kind =
    ap (λ (l : List ℕ). slice_index l 6) facts.1 ∙ eqb-true _ _ three.1 in
    or_right (type_of bytes == nak_kind) _
    (and_from (type_of bytes == expanded_kind) (slice_index bytes 11 == nak_kind)
    (ap (λ (k : ℕ). k == expanded_kind) facts.0 ∙ one.0)
    (eq-eqb (slice_index bytes 11) nak_kind
    (sym (twelfth bytes) ∙ front_of (length_of bytes - 5) (drop 5 bytes) 6 2 inner))))
    (λ _. plain_nak bytes id kind body)

-- how the peer reads a delivery: as it is, so that what it asks for is its Type; as one that no
-- party accepts; or in its plain form
data Reads (now : PeerNow) (bytes : List ℕ) : PeerAnswer → Type 0 where
  plainly : (asked : (id kind : ℕ) (body : List ℕ) → packet_of bytes ≡ Ok (request id kind body)
      → is_end now.vars.state ≡ false
      → asks_for now.vars.setup.expanded bytes ≡ Some kind)
      → Reads now bytes (peer_deliver now bytes)
  refused : (c : Cause) → Reads now bytes (peer_discard now c)
  unwrapped : (id kind : ℕ) (body : List ℕ) (is_packet : packet_of bytes
      ≡ Ok (request id kind body)) (reads : now.vars.setup.expanded ≡ true) (is_last : Bool)
      → Reads now bytes
      (expressed_unless is_last (peer_deliver now (plain_octets bytes (request id kind body))))

plain_kind : (b x : Bool) (one other : ℕ) → b ≡ false
    → (if true && (b && x) then one else other) ≡ other
plain_kind true x one other e = cc e
plain_kind false x one other e = refl

same_kind : (id kind other_id other : ℕ) (body other_body : List ℕ) (r : Result PacketValue Cause)
    → r ≡ Ok (request id kind body) → r ≡ Ok (request other_id other other_body)
    → kind ≡ other
same_kind id kind other_id other body other_body r one two = cc

module _ (now : PeerNow) (bytes : List ℕ) where
  read_so : now.vars.setup.expanded ≡ true → (packet : Result PacketValue Cause)
      → packet_of bytes ≡ packet → Reads now bytes (peer_reads now bytes packet)
  read_so expanded (Err c) is =
      plainly (λ id kind body e going. absurd (let both = sym is ∙ e in cc both))
  read_so expanded (Ok (response id kind body)) is =
      plainly (λ id kind body e going. absurd (let both = sym is ∙ e in cc both))
  read_so expanded (Ok (success id)) is =
      plainly (λ id kind body e going. absurd (let both = sym is ∙ e in cc both))
  read_so expanded (Ok (failure id)) is =
      plainly (λ id kind body e going. absurd (let both = sym is ∙ e in cc both))
  read_so expanded (Ok (request id kind body)) is =
      cond_both (is_bad_expanded (request id kind body)) _ _ (Reads now bytes) (λ _. refused _)
      (λ _. cond_both (kind == expanded_kind) _ _ (Reads now bytes)
      (λ _. unwrapped id kind body is expanded (is_last_id now.vars.last_id id))
      (λ plain. plainly (λ other_id other other_body e going.
      (let same : kind ≡ other =
      same_kind id kind other_id other body other_body (packet_of bytes) is e in
      ap (λ (b : Bool). asks_for b bytes) expanded ∙ (ap (asked_kind true) e
      ∙ ap (λ (k : ℕ). Some k) (plain_kind (other == expanded_kind) _ _ other
      (sym (ap (λ (k : ℕ). k == expanded_kind) same) ∙ plain)))))))

  reads_by : (expanded over : Bool) → now.vars.setup.expanded ≡ expanded
      → is_end now.vars.state ≡ over
      → Reads now bytes (if expanded && not over then peer_reads now bytes (packet_of bytes)
      else peer_deliver now bytes)
  reads_by false over reads_expanded is = plainly (λ id kind body e going.
      ap (λ (b : Bool). asks_for b bytes) reads_expanded ∙ ap (asked_kind false) e)
  reads_by true true reads_expanded is =
      plainly (λ id kind body e going. absurd (false≢true (sym going ∙ is)))
  reads_by true false reads_expanded is = read_so reads_expanded (packet_of bytes) refl

  reads_is : Reads now bytes (peer_receives now bytes)
  unfolding peer_receives
  reads_is = reads_by now.vars.setup.expanded (is_end now.vars.state) refl refl

  -- what the plain form asks for
  plain_asks : (id kind : ℕ) (body : List ℕ) → packet_of bytes ≡ Ok (request id kind body)
      → now.vars.setup.expanded ≡ true
      → asks_for now.vars.setup.expanded bytes
      ≡ Some (type_of (plain_octets bytes (request id kind body)))
  unfolding spelled
  plain_asks id kind body is expanded =
      ap (λ (b : Bool). asks_for b bytes) expanded ∙ (ap (asked_kind true) is
      ∙ ap (λ (k : ℕ). Some k) (by (is_wrapped kind body) (request_type bytes id kind body is)))
    where
      by : (b : Bool) → type_of bytes ≡ kind
          → (if true && b then inner_kind body else kind)
          ≡ type_of (if b then spelled (if b then request id (inner_kind body) (inner_body body)
          else request id kind body) else bytes)
      by true e = refl
      by false e = sym e

record Refused (now : PeerNow) (bytes : List ℕ) : Type 0 where
  kind : ℕ
  asked : asks_for now.vars.setup.expanded bytes ≡ Some kind
  barred : is_among now.vars.setup.methods kind ≡ false

module _ {methods : List ℕ} (now : PeerNow) (bytes packet : List ℕ)
    (both : PeerHasBoth methods now.views) where
  abbrev Refuses : PeerAnswer → Type 0
  Refuses out = out.step.sent ≡ Some packet → list_any is_again out.step.path ≡ false
      → is_nak packet ≡ true → Refused now bytes

  -- expressed or not
  expressed_so : (out : PeerAnswer) (is_last : Bool) (sent : Option (List ℕ)) → out.step.sent ≡ sent
      → (expressed_unless is_last out).step.sent ≡ Some packet
      → list_any is_again (expressed_unless is_last out).step.path ≡ false → is_nak packet ≡ true
      → (P : Type 0)
      → ((one : List ℕ) → out.step.sent ≡ Some one → list_any is_again out.step.path ≡ false
      → is_nak one ≡ true → P) → P
  expressed_so out true sent was is_sent new is P each = each packet is_sent new is
  expressed_so out false None was is_sent new is P each =
      absurd (let none = sym (ap (λ (o : Option (List ℕ)). (expanded_answer out o).step.sent) was)
      ∙ is_sent in let both = sym was ∙ none in cc both)
  expressed_so out false (Some one) was is_sent new is P each =
      let sent_is =
      sym (ap (λ (o : Option (List ℕ)). (expanded_answer out o).step.sent) was) ∙ is_sent in
      each one was (sym (ap
      (λ (o : Option (List ℕ)). list_any is_again (expanded_answer out o).step.path) was) ∙ new)
      (express_nak out.after.vars.setup.methods one (ap is_nak (some_same _ packet sent_is) ∙ is))

  reading_refuses : (out : PeerAnswer) → Reads now bytes out → Refuses out
  reading_refuses _ (plainly asked) sent new is =
      let b = (table_naks now bytes both).each packet sent new is in
      record {
        kind = b.kind;
        asked = asked b.id b.kind b.body b.is_packet b.going;
        barred = b.barred;
      }
  reading_refuses _ (refused c) sent new is = cc sent
  reading_refuses _ (unwrapped id kind body is_packet expanded is_last) sent new is =
      let plain : List ℕ = plain_octets bytes (request id kind body) in
      let out : PeerAnswer = peer_deliver now plain in
      expressed_so out is_last out.step.sent refl sent new is (Refused now bytes)
      (λ one was fresh nak.
      (let b = (table_naks now plain both).each one was fresh nak in
      record {
        kind = b.kind;
        asked = plain_asks now bytes id kind body is_packet expanded
            ∙ ap (λ (k : ℕ). Some k) (request_type plain b.id b.kind b.body b.is_packet);
        barred = b.barred;
      }))

-- it sends something in a delivery alone
by_delivery : (now : PeerNow) (packet : List ℕ) (P : Type 0) (input : PeerInput) (out : PeerAnswer)
    → PeerSpeaks now input out → out.step.sent ≡ Some packet
    → ((bytes : List ℕ) → input ≡ octets bytes → P) → P
by_delivery now packet P _ _ (peering.rests input out unsent same_id same) sent each =
    absurd (let both = sym unsent ∙ sent in cc both)
by_delivery now packet P _ _ (peering.answers bytes one out is going is_sent new last_id last)
    sent each = each bytes refl
by_delivery now packet P _ _ (peering.repeats bytes out was_last going is_sent same_id same)
    sent each = each bytes refl
by_delivery now packet P _ _ (peering.begins nonce out unsent none) sent each =
    absurd (let both = sym unsent ∙ sent in cc both)

-- ---- every step

module _ {methods : List ℕ} (setup : Setup) (w : WorldNow) (e : Event)
    (own : w.parties.peer.vars.setup ≡ setup_with_nonce setup.peer w.parties.peer.vars.setup.nonce)
    (both : PeerHasBoth methods w.parties.peer.views) where
  refused_so : (bytes : List ℕ) → bytes ≡ delivered_in w.sent e → Refused w.parties.peer bytes
      → IsRefused setup.peer (delivered_in w.sent e)
  refused_so bytes came r = record {
    kind = r.kind;
    asked = subst (λ (o : List ℕ). asks_for setup.peer.expanded o ≡ Some r.kind) came
        (ap (λ (s : PeerSetup). asks_for s.expanded bytes) (sym own) ∙ r.asked);
    barred = ap (λ (s : PeerSetup). is_among s.methods r.kind) (sym own) ∙ r.barred;
  }

  pub step_refuses : (out : WorldOutcome) → StepOf w e out → (packet : Sent)
      → Sends w out party.Peer packet
      → list_any is_again out.told.path ≡ false → is_nak packet.octets ≡ true
      → IsRefused setup.peer (delivered_in w.sent e)
  step_refuses _ (is_skipped skip) packet sends new nak =
      absurd (let other = sends.acts in cc other)
  step_refuses _ (is_called (to_server input) unskipped is_call) packet sends new nak =
      absurd (let other = sends.acts in cc other)
  step_refuses _ (is_called (to_pass input) unskipped is_call) packet sends new nak =
      absurd (let other = sends.acts in cc other)
  step_refuses _ (is_called (to_peer input) unskipped is_call) packet sends new nak =
      let is = one_sent _ _ packet (cancel w.sent _ _ sends.adds) in
      by_delivery w.parties.peer packet.octets (IsRefused setup.peer (delivered_in w.sent e))
      input _ (peer_speaks w.parties.peer both input) is.sent
      (λ bytes same.
      (let sent = subst (λ (i : PeerInput). (peer_accepts w.parties.peer i).step.sent
      ≡ Some packet.octets) same is.sent in
      let fresh = subst (λ (i : PeerInput).
      list_any is_again (peer_accepts w.parties.peer i).step.path ≡ false) same new in
      refused_so bytes (passed_to_peer w.conversations w.sent e bytes
      (is_call ∙ ap (λ (i : PeerInput). Some (to_peer i)) same))
      (reading_refuses w.parties.peer bytes packet.octets both _ (reads_is w.parties.peer bytes)
      sent fresh nak)))

-- A packet of the peer comes of a call of the peer. One that is sent anew and is a Nak comes of a
-- delivery, and there only of the row for a Type that isn't allowed: no other row's packet is a Nak
-- (`row_naks`). With Expanded Types that row is the one of the plain form.
pub naks_refuse : NaksRefuse
naks_refuse setup events e packet sends new nak =
    let stands = (every_run_so_far setup events).both.peer_invariant in
    step_refuses setup (run_of setup events) e stands.own stands.objects _
    (step_of (run_of setup events) e) packet sends new nak
