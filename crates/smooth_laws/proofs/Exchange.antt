-- What one end sends comes to the other: in one delivery, or in two through the pass-through.
use Rattle.std.proofs.Common.{◌≡◌, ℕ, ◌+◌, List}
use Rattle.std.specs.Prelude.{Ok}
use Rattle.login_setup.specs.declared.setup.Mode.{Mode}
use Rattle.login_setup.specs.declared.setup.Mode.TheVariants as mode
use Rattle.login_setup.specs.declared.setup.Port.TheVariants as port
use Rattle.eap_packet.specs.Packet.{request, response, success, spelled}
use Rattle.eap_packet.specs.Fault.{packet_of}
use Rattle.eap_packet.specs.declared.state.State.{State}
use Rattle.eap_packet.specs.declared.state.State.TheVariants as state
use Rattle.eap_method.specs.Steps.{sends}
use Rattle.eap_method.specs.declared.tags.TagRecord.{TagRecord}
use Rattle.peer_machine.specs.PeerTable as peers
use Rattle.peer_machine.specs.PeerTable.{PeerNow}
use Rattle.peer_machine.specs.Expanded.{peer_receives}
use Rattle.server_machine.specs.ServerTable as servers
use Rattle.server_machine.specs.ServerTable.{ServerNow}
use Rattle.server_machine.specs.Expanded.{server_receives}
use Rattle.pass_through.specs.PassTable.{without_padding}
use Rattle.pass_through.specs.declared.variables.PassVariables.{PassVariables}
use Rattle.eap_world.specs.World.{WorldNow}
use Rattle.tag_book.specs.declared.book.End.TheVariants as end
use Rattle.smooth_laws.proofs.Moves.{Stage, delivered, packet_to, peer_moves, server_moves}
use Rattle.smooth_laws.proofs.Moves.{passes_to_server, passes_to_peer}
use Rattle.smooth_laws.proofs.Packets.{success_whole, success_read}
use Rattle.smooth_laws.proofs.PassSide.{pass_at, passes_response, passes_request, passes_success}

-- the pass-through, where there is one, waits for the peer's Response to the Request of this
-- Identifier
pub data AwaitsPeer (id : ℕ) : Mode → PassVariables → Type 0 where
  alone : (pass : PassVariables) → AwaitsPeer id mode.Alone pass
  in_idle2 : (first_id max_retrans : ℕ) (last : List ℕ)
      → AwaitsPeer id mode.Through (pass_at first_id max_retrans state.Idle2 id last)

-- or for the server
pub data AwaitsServer : Mode → PassVariables → Type 0 where
  alone : (pass : PassVariables) → AwaitsServer mode.Alone pass
  in_aaa_idle : (first_id max_retrans id : ℕ) (last : List ℕ)
      → AwaitsServer mode.Through (pass_at first_id max_retrans state.AaaIdle id last)

-- octets that come to an end are the next packet, and the pass-through stands so
pub record ToPeer (w : WorldNow) (runs : Mode) (number id : ℕ) (peer : PeerNow) (server : ServerNow)
    (octets : List ℕ) (tags : List TagRecord) : Type 0 where
  pub pass : PassVariables
  pub awaits : AwaitsPeer id runs pass
  pub stage : Stage w runs number peer server pass (packet_to port.Peer octets) end.Peer tags

pub record ToServer (w : WorldNow) (runs : Mode) (number : ℕ) (peer : PeerNow) (server : ServerNow)
    (octets : List ℕ) (tags : List TagRecord) : Type 0 where
  pub pass : PassVariables
  pub awaits : AwaitsServer runs pass
  pub stage : Stage w runs number peer server pass (packet_to port.Server octets) end.Server tags

-- the last packet, after which the pass-through awaits nothing
pub record EndsAtPeer (w : WorldNow) (runs : Mode) (number : ℕ) (peer : PeerNow)
    (server : ServerNow) (octets : List ℕ) (tags : List TagRecord) : Type 0 where
  pub pass : PassVariables
  pub stage : Stage w runs number peer server pass (packet_to port.Peer octets) end.Peer tags

-- the world after a packet has come to one end, and what that end has sent to the other; the number
-- of the packet that is then the last
abbrev pub exchanged : Mode → WorldNow → ℕ → WorldNow
exchanged mode.Alone w number = delivered w number
exchanged mode.Through w number = delivered (delivered w number) (number + 1)

abbrev pub number_after : Mode → ℕ → ℕ
number_after mode.Alone number = number + 1
number_after mode.Through number = number + 1 + 1

-- the peer answers a Request
peer_turns_in : (runs : Mode) (pass : PassVariables) (w : WorldNow) (number id kind : ℕ)
    (p : PeerNow) (s : ServerNow) (x : List ℕ) (accepted : List TagRecord)
    → AwaitsPeer id runs pass
    → Stage w runs number p s pass (packet_to port.Peer x) end.Peer accepted
    → (path : List State) (y body : List ℕ) (made : List TagRecord) (after : PeerNow)
    → packet_of y ≡ Ok (response id kind body) → without_padding y ≡ y
    → peer_receives p x
    ≡ peers.answer (sends path y (record { accepted = accepted; made = made })) after
    → ToServer (exchanged runs w number) runs (number_after runs number) after s y made
peer_turns_in runs pass w number id kind p s x accepted
    (alone v) stage path y body made after read whole takes =
    record {
      pass = v;
      awaits = alone v;
      stage = peer_moves w mode.Alone number p s v x accepted stage path _ made after takes;
    }
peer_turns_in runs pass w number id kind p s x accepted (in_idle2 first_id max_retrans last)
    stage path y body made after read whole takes =
    let was : PassVariables = pass_at first_id max_retrans state.Idle2 id last in
    record {
      pass = pass_at first_id max_retrans state.AaaIdle id last;
      awaits = in_aaa_idle first_id max_retrans id last;
      stage = passes_to_server (delivered w number) (number + 1) after s was y end.Server made
          (peer_moves w mode.Through number p s was x accepted stage path _ made after takes) _ _ _
          (passes_response first_id max_retrans y id kind body last read whole);
    }

pub peer_turns : (runs : Mode) (w : WorldNow) (number id kind : ℕ) (p : PeerNow) (s : ServerNow)
    (x : List ℕ) (accepted : List TagRecord)
    → ToPeer w runs number id p s x accepted
    → (path : List State) (y body : List ℕ) (made : List TagRecord) (after : PeerNow)
    → packet_of y ≡ Ok (response id kind body) → without_padding y ≡ y
    → peer_receives p x
    ≡ peers.answer (sends path y (record { accepted = accepted; made = made })) after
    → ToServer (exchanged runs w number) runs (number_after runs number) after s y made
peer_turns runs w number id kind p s x accepted to path y body made after read whole takes =
    peer_turns_in runs to.pass w number id kind p s x accepted to.awaits to.stage path y body made
    after read whole takes

-- the server asks again
server_turns_in : (runs : Mode) (pass : PassVariables) (w : WorldNow) (number id kind : ℕ)
    (p : PeerNow) (s : ServerNow) (x : List ℕ) (accepted : List TagRecord)
    → AwaitsServer runs pass
    → Stage w runs number p s pass (packet_to port.Server x) end.Server accepted
    → (path : List State) (y body : List ℕ) (made : List TagRecord) (after : ServerNow)
    → packet_of y ≡ Ok (request id kind body) → without_padding y ≡ y
    → server_receives s x
    ≡ servers.answer (sends path y (record { accepted = accepted; made = made })) after
    → ToPeer (exchanged runs w number) runs (number_after runs number) id p after y made
server_turns_in runs pass w number id kind p s x accepted
    (alone v) stage path y body made after read whole takes =
    record {
      pass = v;
      awaits = alone v;
      stage = server_moves w mode.Alone number p s v x accepted stage path _ made after takes;
    }
server_turns_in runs pass w number id kind p s x accepted
    (in_aaa_idle first_id max_retrans was_id last) stage path y body made after read whole takes =
    let was : PassVariables = pass_at first_id max_retrans state.AaaIdle was_id last in
    record {
      pass = pass_at first_id max_retrans state.Idle2 id y;
      awaits = in_idle2 first_id max_retrans y;
      stage = passes_to_peer (delivered w number) (number + 1) p after was y end.Peer made
          (server_moves w mode.Through number p s was x accepted stage path _ made after takes)
          _ _ _ (passes_request first_id max_retrans y id kind body was_id last read whole);
    }

pub server_turns : (runs : Mode) (w : WorldNow) (number id kind : ℕ) (p : PeerNow) (s : ServerNow)
    (x : List ℕ) (accepted : List TagRecord)
    → ToServer w runs number p s x accepted
    → (path : List State) (y body : List ℕ) (made : List TagRecord) (after : ServerNow)
    → packet_of y ≡ Ok (request id kind body) → without_padding y ≡ y
    → server_receives s x
    ≡ servers.answer (sends path y (record { accepted = accepted; made = made })) after
    → ToPeer (exchanged runs w number) runs (number_after runs number) id p after y made
server_turns runs w number id kind p s x accepted to path y body made after read whole takes =
    server_turns_in runs to.pass w number id kind p s x accepted to.awaits to.stage path y body made
    after read whole takes

-- the server ends in SUCCESS
server_ends_in : (runs : Mode) (pass : PassVariables) (w : WorldNow) (number id : ℕ) (p : PeerNow)
    (s : ServerNow) (x : List ℕ) (accepted : List TagRecord)
    → AwaitsServer runs pass
    → Stage w runs number p s pass (packet_to port.Server x) end.Server accepted
    → (path : List State) (made : List TagRecord) (after : ServerNow)
    → server_receives s x ≡ servers.answer (sends path (spelled (success id))
    (record { accepted = accepted; made = made })) after
    → EndsAtPeer (exchanged runs w number) runs (number_after runs number) p after
    (spelled (success id)) made
server_ends_in runs pass w number id p s x accepted (alone v) stage path made after takes =
    record {
      pass = v;
      stage = server_moves w mode.Alone number p s v x accepted stage path _ made after takes;
    }
server_ends_in runs pass w number id p s x accepted (in_aaa_idle first_id max_retrans was_id last)
    stage path made after takes =
    let was : PassVariables = pass_at first_id max_retrans state.AaaIdle was_id last in
    record {
      pass = pass_at first_id max_retrans state.Success2 was_id last;
      stage = passes_to_peer (delivered w number) (number + 1) p after was (spelled (success id))
          end.Peer made (server_moves w mode.Through number p s was x accepted stage path _ made
          after takes) _ _ _ (passes_success first_id max_retrans (spelled (success id))
          id was_id last (success_read id) (success_whole id));
    }

pub server_ends : (runs : Mode) (w : WorldNow) (number id : ℕ) (p : PeerNow) (s : ServerNow)
    (x : List ℕ) (accepted : List TagRecord)
    → ToServer w runs number p s x accepted
    → (path : List State) (made : List TagRecord) (after : ServerNow)
    → server_receives s x ≡ servers.answer (sends path (spelled (success id))
    (record { accepted = accepted; made = made })) after
    → EndsAtPeer (exchanged runs w number) runs (number_after runs number) p after
    (spelled (success id)) made
server_ends runs w number id p s x accepted to path made after takes =
    server_ends_in runs to.pass w number id p s x accepted to.awaits to.stage path made after takes
