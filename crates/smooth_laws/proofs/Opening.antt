-- The Identity round, up to the first Request of a method; and a Nak, up to that of the next.
use Rattle.std.proofs.Common.{◌≡◌, ℕ, ◌≤◌, List, [], ◌∷◌, length, Bool, true, false, None, Some}
use Rattle.std.proofs.Common.{refl, arith}
use Rattle.std.specs.Prelude.{◌==◌, Ok}
use Rattle.login_setup.specs.declared.setup.Mode.{Mode}
use Rattle.login_setup.specs.declared.setup.Mode.TheVariants as mode
use Rattle.login_setup.specs.declared.setup.PeerSetup.{PeerSetup}
use Rattle.login_setup.specs.declared.setup.Port.TheVariants as port
use Rattle.login_setup.specs.declared.setup.Setup.{Setup}
use Rattle.octet_lists.specs.Among.{is_among}
use Rattle.eap_packet.specs.Packet.{request, response, spelled}
use Rattle.eap_packet.specs.Fault.{packet_of}
use Rattle.eap_packet.specs.declared.state.State.TheVariants as state
use Rattle.login_policy.specs.Policy.{next_kind, nak_of}
use Rattle.eap_method.specs.Server.{ServerViews}
use Rattle.peer_machine.specs.PeerTable.{PeerNow, identity_response}
use Rattle.server_machine.specs.ServerTable.{ServerNow, identity_request, server_start}
use Rattle.server_machine.specs.declared.variables.Progress.TheVariants as progress
use Rattle.server_machine.specs.declared.variables.Role.TheVariants as role
use Rattle.pass_through.specs.PassTable.{initial_pass, pass_start}
use Rattle.pass_through.specs.declared.variables.PassVariables.{PassVariables}
use Rattle.tag_book.specs.Book.{first_broken}
use Rattle.eap_world.specs.World.{WorldNow, role_in, world_start}
use Rattle.tag_book.specs.declared.book.End.TheVariants as end
use Rattle.smooth_laws.proofs.Carried.{IsMethod, carried, kind_as, body_as, asks_read}
use Rattle.smooth_laws.proofs.Carried.{request_carried_whole}
use Rattle.smooth_laws.proofs.Exchange.{ToPeer, ToServer, alone, in_idle2, exchanged, number_after}
use Rattle.smooth_laws.proofs.Exchange.{peer_turns, server_turns}
use Rattle.smooth_laws.proofs.Moves.{Stage, delivered, packet_to, peer_moves, server_moves}
use Rattle.smooth_laws.proofs.Moves.{passes_to_server, passes_to_peer}
use Rattle.smooth_laws.proofs.Naks.{ReadsBack, nak_as, nak_kind, nak_body, nak_read, nak_whole}
use Rattle.smooth_laws.proofs.Packets.{request_read, response_read, response_whole}
use Rattle.smooth_laws.proofs.PassSide as passes
use Rattle.smooth_laws.proofs.PassSide.{pass_at}
use Rattle.smooth_laws.proofs.PeerSide as peers
use Rattle.smooth_laws.proofs.PeerSide.{peer_unbound}
use Rattle.smooth_laws.proofs.ServerSide as servers
use Rattle.smooth_laws.proofs.ServerSide.{Made, IsOffer, after_id, server_at}
use Rattle.world_laws.specs.Runs.{initial_peer, initial_server, initial_world, server_views_started}

-- the setup in a mode, and its server
abbrev pub in_mode : Mode → Setup → Setup
in_mode runs setup = record setup { mode = runs }

abbrev pub made_in : Mode → Setup → Made
made_in runs setup = record {
  role = role_in runs;
  setup = setup.server;
  first_id = setup.first_id;
  max_retrans = setup.max_retrans;
}

-- the world after the start
abbrev pub started : Mode → Setup → WorldNow
started runs setup = (world_start (initial_world (in_mode runs setup))).after

-- the world after the Identity round, and the number of the packet that is then the last
abbrev pub opened : Mode → WorldNow → WorldNow
opened mode.Alone w = delivered (delivered w 1) 2
opened mode.Through w = delivered (delivered (delivered (delivered w 1) 2) 3) 4

abbrev pub number_opened : Mode → ℕ
number_opened mode.Alone = 3
number_opened mode.Through = 5

module _ (setup : Setup) where
  -- the one who asks for the identity has started
  starts_alone : Stage (started mode.Alone setup) mode.Alone 1 (initial_peer setup.peer)
      (server_at (made_in mode.Alone setup) setup.first_id 1 progress.Continue
      (identity_request setup.first_id) [] (server_views_started setup.server))
      (initial_pass setup.first_id setup.max_retrans)
      (packet_to port.Peer (identity_request setup.first_id)) end.Peer []
  unfolding world_start server_start first_broken
  starts_alone = record {
    parties = refl;
    before = [];
    sent = refl;
    count = refl;
    none_discarded = refl;
    honest = refl;
    vouched = refl;
  }

  starts_through : Stage (started mode.Through setup) mode.Through 1 (initial_peer setup.peer)
      (initial_server role.Backend setup.server setup.first_id setup.max_retrans)
      (pass_at setup.first_id setup.max_retrans state.Idle setup.first_id
      (identity_request setup.first_id))
      (packet_to port.Peer (identity_request setup.first_id)) end.Peer []
  unfolding world_start pass_start first_broken
  starts_through = record {
    parties = refl;
    before = [];
    sent = refl;
    count = refl;
    none_discarded = refl;
    honest = refl;
    vouched = refl;
  }

  identity_read : packet_of (identity_request setup.first_id) ≡ Ok (request setup.first_id 1 [])
  identity_read = request_read setup.first_id 1 [] (omega arith) (λ e. omega arith)

  name_read : length setup.peer.name ≤ 253 → packet_of (identity_response setup.first_id
      setup.peer.name) ≡ Ok (response setup.first_id 1 setup.peer.name)
  name_read short =
      response_read setup.first_id 1 setup.peer.name (omega arith) (λ e. absurd (omega arith))

  -- the first method is proposed
  pub opens : (runs : Mode) (form : Bool) → setup.server.expanded ≡ form
      → (kind : ℕ) (asks : List ℕ) (asked : ServerViews)
      → length setup.peer.name ≤ 253 → IsMethod kind → length asks ≤ 1488
      → next_kind setup.server.methods [] None ≡ Some kind
      → IsOffer (made_in runs setup) kind (after_id setup.first_id) (server_views_started
      setup.server) (spelled (request (after_id setup.first_id) kind asks)) asked
      → ToPeer (opened runs (started runs setup)) runs (number_opened runs)
      (after_id setup.first_id)
      (peer_unbound setup.peer setup.first_id (identity_response setup.first_id setup.peer.name))
      (server_at (made_in runs setup) (after_id setup.first_id) kind progress.Proposed
      (carried form (spelled (request (after_id setup.first_id) kind asks)))
      (kind ∷ []) asked)
      (carried form (spelled (request (after_id setup.first_id) kind asks))) []
  opens mode.Alone form writes kind asks asked short m fits chosen offered =
      let w : WorldNow = started mode.Alone setup in
      let id : ℕ = setup.first_id in
      let pass : PassVariables = initial_pass id setup.max_retrans in
      let name : List ℕ = identity_response id setup.peer.name in
      let p : PeerNow = peer_unbound setup.peer id name in
      let offer : List ℕ = carried form (spelled (request (after_id id) kind asks)) in
      let s : ServerNow = server_at (made_in mode.Alone setup) id 1 progress.Continue
      (identity_request id) [] (server_views_started setup.server) in
      let named = peer_moves w mode.Alone 1 (initial_peer setup.peer) s pass (identity_request id)
      [] starts_alone _ name [] p
      (peers.receives_asked setup.peer (identity_request id) id identity_read) in
      record {
        pass = pass;
        awaits = alone pass;
        stage = server_moves (delivered w 1) mode.Alone 2 p s pass name [] named _ offer [] _
            (servers.receives_named (made_in mode.Alone setup) form writes name id kind
            setup.peer.name (identity_request id) (server_views_started setup.server) asked asks
            (name_read short) chosen offered);
      }
  opens mode.Through form writes kind asks asked short m fits chosen offered =
      let w : WorldNow = started mode.Through setup in
      let id : ℕ = setup.first_id in
      let most : ℕ = setup.max_retrans in
      let asked_id : List ℕ = identity_request id in
      let name : List ℕ = identity_response id setup.peer.name in
      let p : PeerNow = peer_unbound setup.peer id name in
      let offer : List ℕ = carried form (spelled (request (after_id id) kind asks)) in
      let s_1 : ServerNow = initial_server role.Backend setup.server id most in
      let s_2 : ServerNow = server_at (made_in mode.Through setup)
      (after_id id) kind progress.Proposed offer (kind ∷ []) asked in
      let v_1 : PassVariables = pass_at id most state.Idle id asked_id in
      let v_2 : PassVariables = pass_at id most state.AaaIdle id asked_id in
      let named = peer_moves w mode.Through 1 (initial_peer setup.peer)
      s_1 v_1 asked_id [] starts_through _ name [] p
      (peers.receives_asked setup.peer asked_id id identity_read) in
      let handed = passes_to_server (delivered w 1) 2 p s_1 v_1 name end.Server [] named _ name v_2
      (passes.passes_identity id most name id setup.peer.name asked_id (name_read short)
      (response_whole id 1 setup.peer.name)) in
      let picked = server_moves (delivered (delivered w 1) 2)
      mode.Through 3 p s_1 v_2 name [] handed _ offer [] s_2
      (servers.picks_up_as form setup.server writes id most name id kind setup.peer.name asked asks
      (name_read short) chosen offered) in
      record {
        pass = pass_at id most state.Idle2 (after_id id) offer;
        awaits = in_idle2 id most offer;
        stage = passes_to_peer (delivered (delivered (delivered w 1) 2) 3)
            4 p s_2 v_2 offer end.Peer [] picked _ offer _
            (passes.passes_request id most offer (after_id id) (kind_as form kind)
            (body_as form kind asks) id asked_id (asks_read form (after_id id) kind asks m fits)
            (request_carried_whole form (after_id id) kind asks));
      }

-- a method that the peer doesn't allow is refused by a Nak, and the next is proposed
pub proposes_next : (peer : PeerSetup) (made : Made) (runs : Mode) (form : Bool) (w : WorldNow)
    (number id refused kind last : ℕ) (asks said next_asks : List ℕ) (views asked : ServerViews)
    → (form ≡ true → peer.expanded ≡ true) → made.setup.expanded ≡ form
    → IsMethod refused → IsMethod kind → length asks ≤ 1488 → length next_asks ≤ 1488
    → ReadsBack peer.methods
    → (last == id) ≡ false → is_among peer.methods refused ≡ false
    → next_kind made.setup.methods (refused ∷ []) (Some (nak_of peer.methods)) ≡ Some kind
    → IsOffer made kind (after_id id) views (spelled (request (after_id id) kind next_asks)) asked
    → ToPeer w runs number id (peer_unbound peer last said)
    (server_at made id refused progress.Proposed (carried form (spelled (request id refused asks)))
    (refused ∷ []) views) (carried form (spelled (request id refused asks))) []
    → ToPeer (exchanged runs (exchanged runs w number) (number_after runs number)) runs
    (number_after runs (number_after runs number)) (after_id id)
    (peer_unbound peer id (nak_as form id peer.methods))
    (server_at made (after_id id) kind progress.Proposed
    (carried form (spelled (request (after_id id) kind next_asks))) (refused ∷ kind ∷ []) asked)
    (carried form (spelled (request (after_id id) kind next_asks))) []
proposes_next peer made runs form w number id refused kind last asks said next_asks views asked
    reads writes r m fits next_fits back new barred chosen offered to =
    let nak : List ℕ = nak_as form id peer.methods in
    let first : List ℕ = carried form (spelled (request id refused asks)) in
    let next : List ℕ = carried form (spelled (request (after_id id) kind next_asks)) in
    let p : PeerNow = peer_unbound peer id nak in
    let s : ServerNow = server_at made id refused progress.Proposed first (refused ∷ []) views in
    let heard : ToServer (exchanged runs w number) runs (number_after runs number) p s nak [] =
    peer_turns runs w number id (nak_kind form) (peer_unbound peer last said) s first [] to _ nak
    (nak_body form peer.methods) [] p (nak_read form id peer.methods back)
    (nak_whole form id peer.methods)
    (peers.refuses_as peer form reads id refused asks last said r fits new barred) in
    server_turns runs (exchanged runs w number) (number_after runs number) (after_id id)
    (kind_as form kind) p s nak [] heard _ next (body_as form kind next_asks) [] _
    (asks_read form (after_id id) kind next_asks m next_fits)
    (request_carried_whole form (after_id id) kind next_asks)
    (servers.receives_nak_as made form writes id refused kind peer.methods asks views asked
    next_asks back chosen offered)
