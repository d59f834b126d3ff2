-- The transitions of the peer's table (RFC 4137 section 4), each with all that is then known.
use Rattle.std.specs.Prelude.{◌≡◌, ℕ, List, [], ◌∷◌, ◌++◌, Bool, true, false, ◌==◌, ◌&&◌, Some}
use Rattle.std.specs.Prelude.{None, Ok, Err}
use Rattle.octet_lists.specs.Among.{is_among, identity_kind, notification_kind}
use Rattle.eap_packet.specs.Fault.{packet_of}
use Rattle.eap_packet.specs.Packet.{PacketValue, request, response, success, failure, spelled}
use Rattle.eap_packet.specs.declared.cause.Cause.{Cause}
use Rattle.eap_packet.specs.declared.cause.Cause.TheVariants as cause
use Rattle.eap_packet.specs.declared.state.State.{State}
use Rattle.eap_packet.specs.declared.state.State.TheVariants as state
use Rattle.eap_method.specs.Tags.{Tags, no_tags}
use Rattle.eap_method.specs.PeerTurn.{Discard, Reply}
use Rattle.eap_method.specs.declared.values.Decision.{Decision}
use Rattle.eap_method.specs.declared.values.MethodState.{MethodState}
use Rattle.eap_method.specs.Peer.{PeerViews, peer_turn}
use Rattle.eap_method.specs.Steps.{sends, enters, discards, is_end}
use Rattle.peer_machine.specs.Inputs.{PeerInput, octets, idle, alt_accept, alt_reject, restart}
use Rattle.peer_machine.specs.Inputs.{peer_answers}
use Rattle.peer_machine.specs.PeerTable.{PeerNow, PeerAnswer, answer, is_last_id, is_done, is_cont}
use Rattle.peer_machine.specs.PeerTable.{is_fail, is_uncond, before_method, peer_respond}
use Rattle.peer_machine.specs.PeerTable.{peer_restart, peer_retransmit, peer_ends}
use Rattle.peer_machine.specs.PeerTable.{identity_response, notification_response, nak_response}

-- this packet has come to a peer that has not ended; its Identifier is lastId, or isn't
pub record Receives (now : PeerNow) (bytes : List ℕ) (id : ℕ) (packet : PacketValue)
    (is_last : Bool) : Type 0 where
  pub going : is_end now.vars.state ≡ false
  pub is_packet : packet_of bytes ≡ Ok packet
  pub last : is_last_id now.vars.last_id id ≡ is_last

-- the method of this Type is called: GET_METHOD has just selected it, or it was selected and isn't
-- DONE
pub data Calls (now : PeerNow) (kind : ℕ) : Bool → Type 0 where
  first : (unselected : now.vars.selected ≡ None)
      (allowed : is_among now.vars.setup.methods kind ≡ true) → Calls now kind true
  again : (is_selected : now.vars.selected ≡ Some kind)
      (undone : is_done now.vars.method_state ≡ false) → Calls now kind false

-- octets are discarded before any method sees them
abbrev pub unheard : List State
unheard = state.Received ∷ state.Discard ∷ state.Idle ∷ []

-- a method discards a packet, which GET_METHOD may have selected it for
abbrev pub discard_path : Bool → List State
discard_path selects = before_method selects ++ state.Method ∷ state.Discard ∷ state.Idle ∷ []

-- why octets are discarded before the end, with this cause and on this path
pub data Drops (now : PeerNow) (bytes : List ℕ) : Cause → List State → Type 0 where
  no_packet : (c : Cause) (is_fault : packet_of bytes ≡ Err c) → Drops now bytes c unheard
  no_request : (id kind : ℕ) (body : List ℕ) (is_packet : packet_of bytes
      ≡ Ok (response id kind body)) → Drops now bytes cause.WrongRole unheard
  other_success : (id : ℕ) (heard : Receives now bytes id (success id) false)
      → Drops now bytes cause.IdMismatch unheard
  other_failure : (id : ℕ) (heard : Receives now bytes id (failure id) false)
      → Drops now bytes cause.IdMismatch unheard
  early_success : (id : ℕ) (heard : Receives now bytes id (success id) true)
      (fails : is_fail now.vars.decision ≡ true) (goes_on : is_cont now.vars.method_state ≡ true)
      → Drops now bytes cause.EarlySuccess unheard
  late_failure : (id : ℕ) (heard : Receives now bytes id (failure id) true)
      (sure : is_uncond now.vars.decision ≡ true)
      → Drops now bytes cause.LateFailure unheard
  early_failure : (id : ℕ) (heard : Receives now bytes id (failure id) true)
      (unsure : is_uncond now.vars.decision ≡ false)
      (goes_on : is_cont now.vars.method_state ≡ true) → Drops now bytes cause.EarlyFailure unheard
  late_notification : (id kind selected : ℕ) (body : List ℕ)
      (heard : Receives now bytes id (request id kind body) false)
      (is_selected : now.vars.selected ≡ Some selected) (is_notification : kind ≡ notification_kind)
      → Drops now bytes cause.NotAllowed unheard
  other_method : (id kind selected : ℕ) (body : List ℕ)
      (heard : Receives now bytes id (request id kind body) false)
      (is_selected : now.vars.selected ≡ Some selected) (other : (kind == selected) ≡ false)
      (no_notification : (kind == notification_kind) ≡ false)
      → Drops now bytes cause.OtherMethod unheard
  done_method : (id kind : ℕ) (body : List ℕ)
      (heard : Receives now bytes id (request id kind body) false)
      (is_selected : now.vars.selected ≡ Some kind) (is_over : is_done now.vars.method_state ≡ true)
      → Drops now bytes cause.MethodDone unheard
  by_method : (selects : Bool) (id kind : ℕ) (body : List ℕ) (c : Cause) (views : PeerViews)
      (heard : Receives now bytes id (request id kind body) false)
      (calls : Calls now kind selects) (turn : peer_turn kind now.views (spelled
      (request id kind body)) ≡ record { turn = Discard c; after = views })
      → Drops now bytes c (discard_path selects)

-- the peer may end in SUCCESS
pub data EndsWell (now : PeerNow) : PeerInput → List State → Type 0 where
  by_success : (bytes : List ℕ) (id : ℕ) (heard : Receives now bytes id (success id) true)
      → EndsWell now (octets bytes) (state.Received ∷ [])
  by_idle : (sure : is_uncond now.vars.decision ≡ true) → EndsWell now idle []
  by_accept : EndsWell now alt_accept []

-- the peer ends in FAILURE without a method's turn
pub data EndsBadly (now : PeerNow) : PeerInput → List State → Type 0 where
  late_success : (bytes : List ℕ) (id : ℕ) (heard : Receives now bytes id (success id) true)
      (fails : is_fail now.vars.decision ≡ true) (over : is_cont now.vars.method_state ≡ false)
      → EndsBadly now (octets bytes) (state.Received ∷ [])
  by_failure : (bytes : List ℕ) (id : ℕ) (heard : Receives now bytes id (failure id) true)
      (unsure : is_uncond now.vars.decision ≡ false) (over : is_cont now.vars.method_state ≡ false)
      → EndsBadly now (octets bytes) (state.Received ∷ [])
  by_idle_unsure : (unsure : is_uncond now.vars.decision ≡ false) → EndsBadly now idle []
  late_accept : (fails : is_fail now.vars.decision ≡ true)
      (over : is_cont now.vars.method_state ≡ false) → EndsBadly now alt_accept []
  by_reject : EndsBadly now alt_reject []

-- what the peer does at an input
pub data PeerRow (now : PeerNow) : PeerInput → PeerAnswer → Type 0 where
  -- after the end octets are discarded, and a report does nothing
  ended : (bytes : List ℕ) (over : is_end now.vars.state ≡ true)
      → PeerRow now (octets bytes) (answer (discards [] cause.Ended) now)
  rests : (report : PeerInput) (no_octets : (bytes : List ℕ) → report ≡ octets bytes → ⊥)
      (no_restart : (nonce : List ℕ) → report ≡ restart nonce → ⊥)
      (over : is_end now.vars.state ≡ true)
      → PeerRow now report (answer (enters [] no_tags) now)
  -- a new conversation, whatever the peer's state was
  begins : (nonce : List ℕ) → PeerRow now (restart nonce) (peer_restart now nonce)
  -- octets that are no packet or out of place, and what the method discards
  drops : (bytes : List ℕ) (path : List State) (c : Cause) (going : is_end now.vars.state ≡ false)
      (why : Drops now bytes c path)
      → PeerRow now (octets bytes) (answer (discards path c) now)
  -- a method that goes on isn't ended by a report of success
  waits : (going : is_end now.vars.state ≡ false) (fails : is_fail now.vars.decision ≡ true)
      (goes_on : is_cont now.vars.method_state ≡ true)
      → PeerRow now alt_accept (answer (enters [] no_tags) now)
  -- IDENTITY, NOTIFICATION, and GET_METHOD with a Nak, while no method is selected
  identifies : (bytes : List ℕ) (id kind : ℕ) (body : List ℕ)
      (heard : Receives now bytes id (request id kind body) false)
      (unselected : now.vars.selected ≡ None) (is_identity : kind ≡ identity_kind)
      → PeerRow now (octets bytes)
      (peer_respond now state.Identity id (identity_response id now.vars.setup.name))
  notifies : (bytes : List ℕ) (id kind : ℕ) (body : List ℕ)
      (heard : Receives now bytes id (request id kind body) false)
      (unselected : now.vars.selected ≡ None) (is_notification : kind ≡ notification_kind)
      → PeerRow now (octets bytes)
      (peer_respond now state.Notification id (notification_response id))
  naks : (bytes : List ℕ) (id kind : ℕ) (body : List ℕ)
      (heard : Receives now bytes id (request id kind body) false)
      (unselected : now.vars.selected ≡ None) (no_identity : (kind == identity_kind) ≡ false)
      (no_notification : (kind == notification_kind) ≡ false)
      (barred : is_among now.vars.setup.methods kind ≡ false)
      → PeerRow now (octets bytes)
      (peer_respond now state.GetMethod id (nak_response id now.vars.setup.methods))
  -- RETRANSMIT
  resends : (bytes : List ℕ) (id kind : ℕ) (body : List ℕ)
      (heard : Receives now bytes id (request id kind body) true)
      → PeerRow now (octets bytes) (peer_retransmit now)
  -- SUCCESS and FAILURE
  ends_well : (input : PeerInput) (entered : List State) (going : is_end now.vars.state ≡ false)
      (sure : is_fail now.vars.decision ≡ false) (why : EndsWell now input entered)
      → PeerRow now input (peer_ends now entered state.Success)
  ends_badly : (input : PeerInput) (entered : List State) (going : is_end now.vars.state ≡ false)
      (why : EndsBadly now input entered)
      → PeerRow now input (peer_ends now entered state.Failure)
  -- METHOD: a Response, or FAILURE of a method that is over and has failed
  method_replies : (bytes : List ℕ) (selects : Bool) (id kind : ℕ) (body packet : List ℕ)
      (m : MethodState) (d : Decision) (tags : Tags) (views : PeerViews)
      (heard : Receives now bytes id (request id kind body) false) (calls : Calls now kind selects)
      (turn : peer_turn kind now.views (spelled (request id kind body))
      ≡ record { turn = Reply packet m d tags; after = views })
      (goes_on : (is_done m && is_fail d) ≡ false)
      → PeerRow now (octets bytes)
      (answer (sends (before_method selects ++ state.Method ∷ state.SendResponse ∷ state.Idle ∷ [])
      packet tags) (record {
        vars = record now.vars {
          selected = Some kind;
          method_state = m;
          decision = d;
          last_id = Some id;
          last_response = packet;
        };
        views = views;
      }))
  method_fails : (bytes : List ℕ) (selects : Bool) (id kind : ℕ) (body packet : List ℕ)
      (m : MethodState) (d : Decision) (tags : Tags) (views : PeerViews)
      (heard : Receives now bytes id (request id kind body) false) (calls : Calls now kind selects)
      (turn : peer_turn kind now.views (spelled (request id kind body))
      ≡ record { turn = Reply packet m d tags; after = views })
      (has_failed : (is_done m && is_fail d) ≡ true)
      → PeerRow now (octets bytes)
      (answer (enters (before_method selects ++ state.Method ∷ state.Failure ∷ []) tags)
      (record {
        vars = record now.vars {
          state = state.Failure;
          selected = Some kind;
          method_state = m;
          decision = d;
        };
        views = views;
      }))

-- what comes of every input by the table is one of these transitions
abbrev pub PeerAnswersAreRows : Type 0
PeerAnswersAreRows =
    (now : PeerNow) (input : PeerInput) → PeerRow now input (peer_answers now input)
