-- The transitions of the server's table (RFC 4137 sections 5 and 6), each with all that is then
-- known.
use Rattle.std.specs.Prelude.{◌≡◌, ℕ, ◌+◌, List, [], ◌∷◌, ◌++◌, true, false, ◌==◌, ◌&&◌, nat_le}
use Rattle.std.specs.Prelude.{Option, Some, None, Ok, Err}
use Rattle.octet_lists.specs.Among.{identity_kind, nak_kind}
use Rattle.eap_packet.specs.Fault.{packet_of}
use Rattle.eap_packet.specs.Packet.{PacketValue, response, spelled}
use Rattle.eap_packet.specs.declared.cause.Cause.{Cause}
use Rattle.eap_packet.specs.declared.cause.Cause.TheVariants as cause
use Rattle.eap_packet.specs.declared.state.State.{State}
use Rattle.eap_packet.specs.declared.state.State.TheVariants as state
use Rattle.login_policy.specs.Policy.{next_kind}
use Rattle.eap_method.specs.Tags.{Tags, no_tags}
use Rattle.eap_method.specs.ServerTurn.{ServerTurn}
use Rattle.eap_method.specs.ServerTurn as turn
use Rattle.eap_method.specs.Server.{ServerViews, Offer, side_of, server_offer, server_turn}
use Rattle.eap_method.specs.Steps.{sends, enters, discards, is_end}
use Rattle.server_machine.specs.Inputs.{ServerInput, start, timeout, octets, restart, server_rests}
use Rattle.server_machine.specs.Inputs.{server_answers}
use Rattle.server_machine.specs.ServerTable.{ServerNow, ServerAnswer, answer, next_id}
use Rattle.server_machine.specs.ServerTable.{identity_request, success_packet, failure_packet}
use Rattle.server_machine.specs.ServerTable.{before_proposal, is_awaited, is_proposed, is_started}
use Rattle.server_machine.specs.ServerTable.{awaits_first, picked_up, server_restart}
use Rattle.server_machine.specs.declared.variables.Progress.TheVariants as progress
use Rattle.server_machine.specs.declared.variables.ProposalPath.TheVariants as way
use Rattle.server_machine.specs.Variables.{ServerVariables}

-- this Response has come to a server that has not ended
pub record Receives (now : ServerNow) (bytes : List ℕ) (id kind : ℕ) (body : List ℕ) : Type 0 where
  pub going : is_end now.vars.state ≡ false
  pub is_packet : packet_of bytes ≡ Ok (response id kind body)

-- a method is to be proposed, after the Identity round, a Nak or a backend's first Response: the
-- states before it, the variables then, and what the Nak desires
pub data Selects (now : ServerNow) (id kind : ℕ) (body : List ℕ) : List State → ServerVariables
    → Option (List ℕ) → Type 0 where
  after_identity : (is_id : now.vars.current_id ≡ Some id) (is_identity : kind ≡ identity_kind)
      (is_current : now.vars.current ≡ Some identity_kind)
      (unawaited : awaits_first now.vars ≡ false)
      → Selects now id kind body (before_proposal way.AfterResponse)
      (record now.vars { progress = progress.End }) None
  after_nak : (is_id : now.vars.current_id ≡ Some id) (is_nak : kind ≡ nak_kind)
      (waits : is_proposed now.vars.progress ≡ true) (unawaited : awaits_first now.vars ≡ false)
      → Selects now id kind body (before_proposal way.AfterNak) now.vars (Some body)
  first_identity : (awaited : awaits_first now.vars ≡ true) (is_identity : kind ≡ identity_kind)
      → Selects now id kind body (before_proposal way.FirstIdentity)
      (record (picked_up now.vars id) { progress = progress.End }) None
  first_nak : (awaited : awaits_first now.vars ≡ true) (is_nak : kind ≡ nak_kind)
      → Selects now id kind body (before_proposal way.FirstNak) (picked_up now.vars id) (Some body)
  first_other : (awaited : awaits_first now.vars ≡ true) (no_nak : (kind == nak_kind) ≡ false)
      (no_identity : (kind == identity_kind) ≡ false)
      → Selects now id kind body (before_proposal way.FirstOther) (picked_up now.vars id) None

-- the method that is proposed next, and its offer
pub record Proposes (now : ServerNow) (vars : ServerVariables) (desired : Option (List ℕ))
    (next : ℕ) (offer : Offer) : Type 0 where
  pub is_next : next_kind vars.setup.methods vars.proposed desired ≡ Some next
  pub is_offer : server_offer (side_of vars.setup) vars.setup.nonce next (next_id vars) now.views
      ≡ offer

-- the current method has this turn, and both views are these after it
pub record Turns (now : ServerNow) (id kind : ℕ) (body : List ℕ) (turn : ServerTurn)
    (views : ServerViews) : Type 0 where
  pub is_id : now.vars.current_id ≡ Some id
  pub is_current : now.vars.current ≡ Some kind
  pub no_identity : (kind == identity_kind) ≡ false
  pub no_nak : ((kind == nak_kind) && is_proposed now.vars.progress) ≡ false
  pub is_turn : server_turn now.vars.setup.users (next_id now.vars) kind now.views (spelled
      (response id kind body)) ≡ record { turn = turn; after = views }
  pub unawaited : awaits_first now.vars ≡ false

-- the states of octets that are discarded before any method sees them, and of those that a method
-- discards
abbrev pub unheard : List State
unheard = state.Received ∷ state.Discard ∷ state.Idle ∷ []

abbrev pub discard_path : List State
discard_path = state.Received ∷ state.IntegrityCheck ∷ state.Discard ∷ state.Idle ∷ []

-- octets are discarded before any method sees them; a backend that awaits its first Response enters
-- no state
pub data Unheard (now : ServerNow) : List State → Type 0 where
  outside : (awaited : awaits_first now.vars ≡ true) → Unheard now []
  received : (unawaited : awaits_first now.vars ≡ false) → Unheard now unheard

-- why octets are discarded before the end, with this cause and on this path
pub data Drops (now : ServerNow) (bytes : List ℕ) : Cause → List State → Type 0 where
  no_packet : (c : Cause) (is_fault : packet_of bytes ≡ Err c) (path : List State)
      (place : Unheard now path) → Drops now bytes c path
  no_response : (packet : PacketValue) (is_packet : packet_of bytes ≡ Ok packet)
      (other : (id kind : ℕ) (body : List ℕ) → packet ≡ response id kind body → ⊥)
      (path : List State) (place : Unheard now path) → Drops now bytes cause.WrongRole path
  other_id : (id kind : ℕ) (body : List ℕ) (is_packet : packet_of bytes
      ≡ Ok (response id kind body)) (other : is_awaited now.vars.current_id id ≡ false)
      (unawaited : awaits_first now.vars ≡ false) → Drops now bytes cause.IdMismatch unheard
  other_method : (id kind : ℕ) (body : List ℕ) (heard : Receives now bytes id kind body)
      (is_id : now.vars.current_id ≡ Some id) (other : is_awaited now.vars.current kind ≡ false)
      (no_nak : ((kind == nak_kind) && is_proposed now.vars.progress) ≡ false)
      (unawaited : awaits_first now.vars ≡ false)
      → Drops now bytes cause.WrongMethod unheard
  by_method : (id kind : ℕ) (body : List ℕ) (c : Cause) (views : ServerViews)
      (heard : Receives now bytes id kind body)
      (turned : Turns now id kind body (turn.Discard c) views) → Drops now bytes c discard_path

-- what the server does at an input
pub data ServerRow (now : ServerNow) : ServerInput → ServerAnswer → Type 0 where
  -- after the end octets are discarded, and the timer does nothing; a second start does nothing
  ended : (bytes : List ℕ) (over : is_end now.vars.state ≡ true)
      → ServerRow now (octets bytes) (answer (discards [] cause.Ended) now)
  rests : (over : is_end now.vars.state ≡ true) → ServerRow now timeout (server_rests now)
  goes_on : (is_initiated : is_started now.vars ≡ true) → ServerRow now start (server_rests now)
  -- octets that are no packet or out of place, and what the method discards
  drops : (bytes : List ℕ) (path : List State) (c : Cause) (going : is_end now.vars.state ≡ false)
      (why : Drops now bytes c path)
      → ServerRow now (octets bytes) (answer (discards path c) now)
  -- the Identity Request
  starts : (unstarted : is_started now.vars ≡ false)
      → ServerRow now start
      (answer
      (sends (state.Initialize ∷ state.SelectAction ∷ state.ProposeMethod ∷ state.MethodRequest
      ∷ state.SendRequest ∷ state.Idle ∷ [])
      (identity_request now.vars.first_id) no_tags)
      (record {
        vars = record now.vars {
          state = state.Idle;
          current_id = Some now.vars.first_id;
          current = Some identity_kind;
          progress = progress.Continue;
          retrans_count = 0;
          last_request = identity_request now.vars.first_id;
          proposed = [];
        };
        views = now.views;
      }))
  -- a new conversation, whatever the server's state was
  begins : (nonce : List ℕ) → ServerRow now (restart nonce) (server_restart now nonce)
  -- RETRANSMIT, at most MaxRetrans times, and TIMEOUT_FAILURE
  resends : (going : is_end now.vars.state ≡ false)
      (in_time : nat_le (now.vars.retrans_count + 1) now.vars.max_retrans ≡ true)
      → ServerRow now timeout
      (answer (sends (state.Retransmit ∷ state.Idle ∷ []) now.vars.last_request no_tags)
      (record {
        vars = record now.vars { retrans_count = now.vars.retrans_count + 1 };
        views = now.views;
      }))
  times_out : (going : is_end now.vars.state ≡ false)
      (late : nat_le (now.vars.retrans_count + 1) now.vars.max_retrans ≡ false)
      → ServerRow now timeout
      (answer (enters (state.Retransmit ∷ state.TimeoutFailure ∷ []) no_tags)
      (record {
        vars = record now.vars {
          retrans_count = now.vars.retrans_count + 1;
          state = state.TimeoutFailure;
        };
        views = now.views;
      }))
  -- SELECT_ACTION with a method that is offered, with one that can't be, and with none
  proposes : (bytes : List ℕ) (id kind : ℕ) (body : List ℕ) (entered : List State)
      (vars : ServerVariables) (desired : Option (List ℕ))
      (next : ℕ) (packet : List ℕ) (views : ServerViews)
      (heard : Receives now bytes id kind body)
      (selects : Selects now id kind body entered vars desired)
      (next_is : Proposes now vars desired next (record { packet = Some packet; after = views }))
      → ServerRow now (octets bytes)
      (answer (sends (entered ++ state.ProposeMethod ∷ state.MethodRequest ∷ state.SendRequest
      ∷ state.Idle ∷ []) packet no_tags)
      (record {
        vars = record vars {
          current_id = Some (next_id vars);
          retrans_count = 0;
          last_request = packet;
          current = Some next;
          progress = progress.Proposed;
          proposed = vars.proposed ++ next ∷ [];
        };
        views = views;
      }))
  proposes_without : (bytes : List ℕ) (id kind : ℕ) (body : List ℕ) (entered : List State)
      (vars : ServerVariables) (desired : Option (List ℕ))
      (next : ℕ) (views : ServerViews)
      (heard : Receives now bytes id kind body)
      (selects : Selects now id kind body entered vars desired)
      (next_is : Proposes now vars desired next (record { packet = None; after = views }))
      → ServerRow now (octets bytes)
      (answer (sends (entered ++ state.Failure ∷ []) (failure_packet id) no_tags)
      (record { vars = record vars { state = state.Failure }; views = views }))
  proposes_none : (bytes : List ℕ) (id kind : ℕ) (body : List ℕ) (entered : List State)
      (vars : ServerVariables) (desired : Option (List ℕ))
      (heard : Receives now bytes id kind body)
      (selects : Selects now id kind body entered vars desired)
      (none : next_kind vars.setup.methods vars.proposed desired ≡ None)
      → ServerRow now (octets bytes)
      (answer (sends (entered ++ state.Failure ∷ []) (failure_packet id) no_tags)
      (record { vars = record vars { state = state.Failure }; views = now.views }))
  -- METHOD_REQUEST after the method's turn; SUCCESS and FAILURE if it is over
  requests : (bytes : List ℕ) (id kind : ℕ) (body packet : List ℕ) (tags : Tags)
      (views : ServerViews) (heard : Receives now bytes id kind body)
      (turned : Turns now id kind body (turn.Request packet tags) views)
      → ServerRow now (octets bytes)
      (answer
      (sends (state.Received ∷ state.IntegrityCheck ∷ state.MethodResponse ∷ state.MethodRequest
      ∷ state.SendRequest ∷ state.Idle ∷ []) packet tags)
      (record {
        vars = record now.vars {
          current_id = Some (next_id now.vars);
          retrans_count = 0;
          last_request = packet;
          progress = progress.Continue;
        };
        views = views;
      }))
  succeeds : (bytes : List ℕ) (id kind : ℕ) (body : List ℕ) (tags : Tags) (views : ServerViews)
      (heard : Receives now bytes id kind body)
      (turned : Turns now id kind body (turn.Done true tags) views)
      → ServerRow now (octets bytes)
      (answer (sends (before_proposal way.AfterResponse ++ state.Success ∷ [])
      (success_packet id) tags) (record {
        vars = record now.vars { progress = progress.End; state = state.Success };
        views = views;
      }))
  method_fails : (bytes : List ℕ) (id kind : ℕ) (body : List ℕ) (tags : Tags) (views : ServerViews)
      (heard : Receives now bytes id kind body)
      (turned : Turns now id kind body (turn.Done false tags) views)
      → ServerRow now (octets bytes)
      (answer (sends (before_proposal way.AfterResponse ++ state.Failure ∷ [])
      (failure_packet id) tags) (record {
        vars = record now.vars { progress = progress.End; state = state.Failure };
        views = views;
      }))

-- what comes of every input is one of these transitions
abbrev pub ServerAnswersAreRows : Type 0
ServerAnswersAreRows =
    (now : ServerNow) (input : ServerInput) → ServerRow now input (server_answers now input)
