-- What a method's object makes of a packet: a turn, and the object's state after it.
use Rattle.std.specs.Prelude.{ℕ, List, [], Bool, if◌then◌else◌, Option, Some, slice_index, drop}
use Rattle.eap_packet.specs.declared.cause.Cause.{Cause}
use Rattle.eap_method.specs.declared.tags.TagRecord.{TagRecord}
use Rattle.eap_method.specs.PeerTurn.{PeerTurn}
use Rattle.eap_method.specs.PeerTurn as peer
use Rattle.eap_method.specs.ServerTurn.{ServerTurn}
use Rattle.eap_method.specs.ServerTurn as server
use Rattle.eap_method.specs.declared.values.MethodState.{MethodState}
use Rattle.eap_method.specs.declared.values.Decision.{Decision}

-- a peer's turn, and its view after it
pub record PeerOutcome (V : Type 0) : Type 0 where
  pub turn : PeerTurn
  pub after : V

-- a server's turn, and its view after it
pub record ServerOutcome (V : Type 0) : Type 0 where
  pub turn : ServerTurn
  pub after : V

-- a server's first Request, and its view after it
pub record FirstOutcome (V : Type 0) : Type 0 where
  pub packet : List ℕ
  pub after : V

-- the Identifier and the Type-Data of a Request or a Response with nothing past its Length
abbrev pub id_of : List ℕ → ℕ
id_of packet = slice_index packet 1

abbrev pub body_of : List ℕ → List ℕ
body_of packet = drop 5 packet

-- the first cause whose test holds
abbrev pub fault_if : Bool → Cause → Option Cause → Option Cause
fault_if test cause rest = if test then Some cause else rest

-- a discard keeps the view and makes no record
abbrev pub discarded : {V : Type 0} → V → Cause → PeerOutcome V
discarded view cause = record { turn = peer.Discard cause; after = view }

-- a Response, with the records of the tags accepted and made
abbrev pub replied : {V : Type 0} → V → List ℕ → MethodState → Decision → List TagRecord
    → List TagRecord → PeerOutcome V
replied view packet state decision accepted made =
    record {
      turn = peer.Reply packet state decision (record { accepted = accepted; made = made });
      after = view;
    }

abbrev pub dropped : {V : Type 0} → V → Cause → ServerOutcome V
dropped view cause = record { turn = server.Discard cause; after = view }

-- the next Request
abbrev pub requested : {V : Type 0} → V → List ℕ → List TagRecord → List TagRecord → ServerOutcome V
requested view packet accepted made =
    record {
      turn = server.Request packet (record { accepted = accepted; made = made });
      after = view;
    }

-- the end of the method
abbrev pub done : {V : Type 0} → V → Bool → List TagRecord → ServerOutcome V
done view success accepted = record {
  turn = server.Done success (record { accepted = accepted; made = [] });
  after = view;
}
