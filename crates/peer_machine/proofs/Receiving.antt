-- What a delivery to a peer comes to: the row of its table, a refusal, or the row of the plain
-- form, expressed.
use Rattle.std.proofs.Common.{◌≡◌, ℕ, List, Bool, true, false, ◌&&◌, not, Result, Ok, Err, refl}
use Rattle.std.specs.Prelude.{◌==◌, if◌then◌else◌}
use Rattle.std.proofs.lemmas.Bool.{cond_both}
use Rattle.octet_lists.specs.Among.{expanded_kind}
use Rattle.eap_packet.specs.Packet.{PacketValue, request, response, success, failure}
use Rattle.eap_packet.specs.Fault.{packet_of}
use Rattle.eap_packet.specs.Expanded.{is_bad_expanded}
use Rattle.eap_packet.specs.declared.cause.Cause.{Cause}
use Rattle.eap_packet.specs.declared.cause.Cause.TheVariants as cause
use Rattle.eap_method.specs.Plain.{plain_octets}
use Rattle.eap_method.specs.Steps.{is_end}
use Rattle.peer_machine.specs.Expanded.{expanded_answer, expressed_unless, peer_reads}
use Rattle.peer_machine.specs.Expanded.{peer_receives}
use Rattle.peer_machine.specs.PeerTable.{PeerNow, PeerAnswer, is_last_id, peer_discard}
use Rattle.peer_machine.specs.PeerTable.{peer_deliver}

-- this Request has come to a peer that has not ended
pub record Asks (now : PeerNow) (octets : List ℕ) (id kind : ℕ) (body : List ℕ) : Type 0 where
  pub reads : now.vars.setup.expanded ≡ true
  pub going : is_end now.vars.state ≡ false
  pub is_packet : packet_of octets ≡ Ok (request id kind body)

-- one of Type 254 that the peer takes
pub record AsksExpanded (now : PeerNow) (octets : List ℕ) (id kind : ℕ)
    (body : List ℕ) : Type 0 where
  pub asks : Asks now octets id kind body
  pub is_expanded : (kind == expanded_kind) ≡ true
  pub good : is_bad_expanded (request id kind body) ≡ false

pub data PeerReceiving (now : PeerNow) (octets : List ℕ) : PeerAnswer → Type 0 where
  as_it_is : PeerReceiving now octets (peer_deliver now octets)
  bad : (id kind : ℕ) (body : List ℕ) (asks : Asks now octets id kind body)
      (is_bad : is_bad_expanded (request id kind body) ≡ true)
      → PeerReceiving now octets (peer_discard now cause.BadExpanded)
  -- RETRANSMIT
  again : (id kind : ℕ) (body : List ℕ) (asks : AsksExpanded now octets id kind body)
      (last : is_last_id now.vars.last_id id ≡ true)
      → PeerReceiving now octets (peer_deliver now (plain_octets octets (request id kind body)))
  expresses : (id kind : ℕ) (body : List ℕ) (asks : AsksExpanded now octets id kind body)
      (new : is_last_id now.vars.last_id id ≡ false)
      → PeerReceiving now octets
      (let out = peer_deliver now (plain_octets octets (request id kind body)) in
      expanded_answer out out.step.sent)

module _ (now : PeerNow) (octets : List ℕ) where
  abbrev IsReceiving : PeerAnswer → Type 0
  IsReceiving out = PeerReceiving now octets out

  expressing : (id kind : ℕ) (body : List ℕ) → AsksExpanded now octets id kind body
      → (is_last : Bool) → is_last_id now.vars.last_id id ≡ is_last
      → IsReceiving
      (expressed_unless is_last (peer_deliver now (plain_octets octets (request id kind body))))
  expressing id kind body asks true last = again id kind body asks last
  expressing id kind body asks false new = expresses id kind body asks new

  reads : now.vars.setup.expanded ≡ true → is_end now.vars.state ≡ false
      → (packet : Result PacketValue Cause) → packet_of octets ≡ packet
      → IsReceiving (peer_reads now octets packet)
  reads expanded going (Err c) is = as_it_is
  reads expanded going (Ok (response id kind body)) is = as_it_is
  reads expanded going (Ok (success id)) is = as_it_is
  reads expanded going (Ok (failure id)) is = as_it_is
  reads expanded going (Ok (request id kind body)) is =
      let asks : Asks now octets id kind body =
      record { reads = expanded; going = going; is_packet = is } in
      cond_both (is_bad_expanded (request id kind body)) _ _ IsReceiving
      (λ is_bad. bad id kind body asks is_bad)
      (λ good. cond_both (kind == expanded_kind) _ _ IsReceiving
      (λ is_expanded.
      let both : AsksExpanded now octets id kind body =
      record { asks = asks; is_expanded = is_expanded; good = good } in
      expressing id kind body both (is_last_id now.vars.last_id id) refl)
      (λ _. as_it_is))

  hears : (expanded over : Bool) → now.vars.setup.expanded ≡ expanded → is_end now.vars.state ≡ over
      → IsReceiving (if expanded && not over then peer_reads now octets (packet_of octets)
      else peer_deliver now octets)
  hears false over reads_expanded is = as_it_is
  hears true true reads_expanded is = as_it_is
  hears true false reads_expanded going = reads reads_expanded going (packet_of octets) refl

-- what comes of a delivery is one of these
pub peer_receives_so : (now : PeerNow) (octets : List ℕ)
    → PeerReceiving now octets (peer_receives now octets)
unfolding peer_receives
peer_receives_so now octets =
    hears now octets now.vars.setup.expanded (is_end now.vars.state) refl refl
