-- What a delivery to a server comes to: the row of its table, a refusal, or the row of the plain
-- form, whose Request is wrapped.
use Rattle.std.proofs.Common.{◌≡◌, ℕ, List, Bool, true, false, ◌&&◌, not, Result, Ok, Err, refl}
use Rattle.std.specs.Prelude.{if◌then◌else◌}
use Rattle.std.proofs.lemmas.Bool.{cond_both}
use Rattle.eap_packet.specs.Packet.{PacketValue, request, response, success, failure}
use Rattle.eap_packet.specs.Fault.{packet_of}
use Rattle.eap_packet.specs.Expanded.{is_bad_expanded}
use Rattle.eap_packet.specs.declared.cause.Cause.{Cause}
use Rattle.eap_method.specs.Steps.{is_end}
use Rattle.server_machine.specs.Expanded.{response_octets, wraps, discards_bad, server_reads}
use Rattle.server_machine.specs.Expanded.{server_receives}
use Rattle.server_machine.specs.ServerTable.{ServerNow, ServerAnswer, server_deliver}

-- this Response has come to a server that has not ended
pub record Answers (now : ServerNow) (octets : List ℕ) (id kind : ℕ) (body : List ℕ) : Type 0 where
  pub reads : now.vars.setup.expanded ≡ true
  pub going : is_end now.vars.state ≡ false
  pub is_packet : packet_of octets ≡ Ok (response id kind body)

pub data ServerReceiving (now : ServerNow) (octets : List ℕ) : ServerAnswer → Type 0 where
  as_it_is : ServerReceiving now octets (server_deliver now octets)
  bad : (id kind : ℕ) (body : List ℕ) (answers : Answers now octets id kind body)
      (is_bad : is_bad_expanded (response id kind body) ≡ true)
      → ServerReceiving now octets (discards_bad now)
  wrapping : (id kind : ℕ) (body : List ℕ) (answers : Answers now octets id kind body)
      (good : is_bad_expanded (response id kind body) ≡ false)
      → ServerReceiving now octets
      (wraps (server_deliver now (response_octets now.vars octets id kind body)))

module _ (now : ServerNow) (octets : List ℕ) where
  abbrev IsReceiving : ServerAnswer → Type 0
  IsReceiving out = ServerReceiving now octets out

  reads : now.vars.setup.expanded ≡ true → is_end now.vars.state ≡ false
      → (packet : Result PacketValue Cause) → packet_of octets ≡ packet
      → IsReceiving (server_reads now octets packet)
  reads expanded going (Err c) is = as_it_is
  reads expanded going (Ok (request id kind body)) is = as_it_is
  reads expanded going (Ok (success id)) is = as_it_is
  reads expanded going (Ok (failure id)) is = as_it_is
  reads expanded going (Ok (response id kind body)) is =
      let answers : Answers now octets id kind body =
      record { reads = expanded; going = going; is_packet = is } in
      cond_both (is_bad_expanded (response id kind body)) _ _ IsReceiving
      (λ is_bad. bad id kind body answers is_bad) (λ good. wrapping id kind body answers good)

  hears : (expanded over : Bool) → now.vars.setup.expanded ≡ expanded → is_end now.vars.state ≡ over
      → IsReceiving (if expanded && not over then server_reads now octets (packet_of octets)
      else server_deliver now octets)
  hears false over reads_expanded is = as_it_is
  hears true true reads_expanded is = as_it_is
  hears true false reads_expanded going = reads reads_expanded going (packet_of octets) refl

-- what comes of a delivery is one of these
pub server_receives_so : (now : ServerNow) (octets : List ℕ)
    → ServerReceiving now octets (server_receives now octets)
unfolding server_receives
server_receives_so now octets =
    hears now octets now.vars.setup.expanded (is_end now.vars.state) refl refl
