-- A method's four messages, from its first Request to the Success.
use Rattle.std.proofs.Common.{◌≡◌, ℕ, ◌≤◌, List, [], length, Bool, true, false, Some, refl, ap}
use Rattle.std.proofs.Common.{arith}
use Rattle.std.specs.Prelude.{◌==◌}
use Rattle.std.proofs.lemmas.Bool.{ne_eqb}
use Rattle.login_setup.specs.declared.setup.Mode.{Mode}
use Rattle.login_setup.specs.declared.setup.PeerSetup.{PeerSetup}
use Rattle.login_setup.specs.Setup.{ServerSetup}
use Rattle.octet_lists.specs.Among.{is_among}
use Rattle.eap_packet.specs.Packet.{request, response, success, spelled}
use Rattle.eap_method.specs.Peer.{PeerViews, peer_turn}
use Rattle.eap_method.specs.PeerTurn.{Reply}
use Rattle.eap_method.specs.Server.{ServerViews, server_turn}
use Rattle.eap_method.specs.ServerTurn.{Request, Done}
use Rattle.eap_method.specs.declared.tags.TagRecord.{TagRecord}
use Rattle.eap_method.specs.Tags.{Tags}
use Rattle.eap_method.specs.declared.values.Decision.{Decision}
use Rattle.eap_method.specs.declared.values.Decision.TheVariants as decision
use Rattle.eap_method.specs.declared.values.MethodState.TheVariants as method
use Rattle.peer_machine.specs.PeerTable.{PeerNow, is_fail}
use Rattle.server_machine.specs.ServerTable.{ServerNow}
use Rattle.server_machine.specs.declared.variables.Progress.TheVariants as progress
use Rattle.eap_world.specs.Judgement.{is_success}
use Rattle.eap_world.specs.World.{WorldNow, Parties}
use Rattle.smooth_laws.proofs.Exchange.{ToPeer, ToServer, EndsAtPeer, exchanged, number_after}
use Rattle.smooth_laws.proofs.Exchange.{peer_turns, server_turns, server_ends}
use Rattle.smooth_laws.proofs.Moves.{BothIn, delivered, peer_ends}
use Rattle.smooth_laws.proofs.Carried.{IsMethod, carried, kind_as, body_as, asks_read, answers_read}
use Rattle.smooth_laws.proofs.Carried.{request_carried_whole, response_carried_whole}
use Rattle.smooth_laws.proofs.Packets.{success_read}
use Rattle.smooth_laws.proofs.PeerSide as peers
use Rattle.smooth_laws.proofs.PeerSide.{peer_at, peer_unbound}
use Rattle.smooth_laws.proofs.ServerSide as servers
use Rattle.smooth_laws.proofs.ServerSide.{Made, IsOffer, after_id, server_at, server_done}
use Rattle.world_laws.specs.Runs.{views_started}

abbrev pub tags_of : List TagRecord → List TagRecord → Tags
tags_of accepted made = record { accepted = accepted; made = made }

-- a server that can be asked: its name, its nonce and its list of suites are short
pub record IsShort (setup : ServerSetup) : Type 0 where
  pub name : length setup.name ≤ 253
  pub nonce : length setup.nonce ≡ 32
  pub suites : length setup.suites ≤ 2

-- the method's turns at both ends, where its first Request has this Identifier: the Type-Data of
-- its four messages, what each end keeps, and the tags that each message brings
pub record Talks (peer : PeerSetup) (made : Made) (kind id : ℕ) (begun : ServerViews) : Type 0 where
  pub is_method : IsMethod kind
  pub asks : List ℕ
  pub answers : List ℕ
  pub checks : List ℕ
  pub confirms : List ℕ
  pub asks_bounded : length asks ≤ 1488
  pub answers_bounded : length answers ≤ 1488
  pub checks_bounded : length checks ≤ 1488
  pub confirms_bounded : length confirms ≤ 1488
  pub waiting : PeerViews
  pub over : PeerViews
  pub asked : ServerViews
  pub checked : ServerViews
  pub finished : ServerViews
  pub decided : Decision
  pub sure : is_fail decided ≡ false
  pub answer_tags : List TagRecord
  pub check_tags : List TagRecord
  pub confirm_tags : List TagRecord
  pub offered : IsOffer made kind id begun (spelled (request id kind asks)) asked
  pub answered : peer_turn kind (views_started peer) (spelled (request id kind asks))
      ≡ record {
        turn = Reply (spelled (response id kind answers)) method.Cont decision.Fail
            (tags_of [] answer_tags);
        after = waiting;
      }
  pub was_checked : server_turn made.setup.users (after_id id) kind asked
      (spelled (response id kind answers))
      ≡ record {
        turn = Request (spelled (request (after_id id) kind checks))
            (tags_of answer_tags check_tags);
        after = checked;
      }
  pub confirmed : peer_turn kind waiting (spelled (request (after_id id) kind checks))
      ≡ record {
        turn = Reply (spelled (response (after_id id) kind confirms)) method.Done decided
            (tags_of check_tags confirm_tags);
        after = over;
      }
  pub was_finished : server_turn made.setup.users (after_id (after_id id)) kind checked
      (spelled (response (after_id id) kind confirms))
      ≡ record { turn = Done true (tags_of confirm_tags []); after = finished }

-- each Identifier differs from the one before
pub ids_differ : (id : ℕ) → (id == after_id id) ≡ false
ids_differ id = ne_eqb id (after_id id) (λ e. omega arith)

-- the world after the four messages, before the Success comes to the peer
abbrev pub talked : Mode → WorldNow → ℕ → WorldNow
talked runs w number =
    let second = number_after runs number in
    let third = number_after runs second in
    let fourth = number_after runs third in
    exchanged runs (exchanged runs (exchanged runs (exchanged runs w number) second) third) fourth

-- the number of the packet that is then the last
abbrev pub last_number : Mode → ℕ → ℕ
last_number runs number =
    number_after runs (number_after runs (number_after runs (number_after runs number)))

-- the peer has not succeeded, and after one more delivery both ends have
pub record EndsWell (before after : WorldNow) (number : ℕ) : Type 0 where
  pub waits : is_success before.parties.peer.vars.state ≡ false
  pub both : BothIn after number

-- where the method's first Request comes to a peer that allows the method, both ends come to
-- succeed
pub talks_through : (peer : PeerSetup) (made : Made) (kind id : ℕ) (begun : ServerViews)
    (talk : Talks peer made kind id begun) (runs : Mode) (form : Bool) (w : WorldNow)
    (number last : ℕ) (said was : List ℕ) (proposed : List ℕ)
    → (form ≡ true → peer.expanded ≡ true) → made.setup.expanded ≡ form
    → (last == id) ≡ false → is_among peer.methods kind ≡ true
    → ToPeer w runs number id (peer_unbound peer last said)
    (server_at made id kind progress.Proposed was proposed talk.asked)
    (carried form (spelled (request id kind talk.asks))) []
    → EndsWell (talked runs w number) (delivered (talked runs w number) (last_number runs number))
    (last_number runs number)
talks_through peer made kind id begun talk runs form w number last said was proposed reads writes
    new allowed to =
    let next : ℕ = after_id id in
    let n_2 : ℕ = number_after runs number in
    let n_3 : ℕ = number_after runs n_2 in
    let n_4 : ℕ = number_after runs n_3 in
    let n_5 : ℕ = number_after runs n_4 in
    let w_2 : WorldNow = exchanged runs w number in
    let w_3 : WorldNow = exchanged runs w_2 n_2 in
    let w_4 : WorldNow = exchanged runs w_3 n_3 in
    let w_5 : WorldNow = exchanged runs w_4 n_4 in
    let m : IsMethod kind = talk.is_method in
    let first : List ℕ = carried form (spelled (request id kind talk.asks)) in
    let second : List ℕ = carried form (spelled (response id kind talk.answers)) in
    let third : List ℕ = carried form (spelled (request next kind talk.checks)) in
    let fourth : List ℕ = carried form (spelled (response next kind talk.confirms)) in
    let p_1 : PeerNow = peer_unbound peer last said in
    let p_2 : PeerNow = peer_at peer (Some kind) method.Cont decision.Fail id second talk.waiting in
    let p_3 : PeerNow = peer_at peer (Some kind) method.Done talk.decided next fourth talk.over in
    let s_1 : ServerNow = server_at made id kind progress.Proposed was proposed talk.asked in
    let s_2 : ServerNow = server_at made next kind progress.Continue third proposed talk.checked in
    let s_3 : ServerNow = server_done made next kind third proposed talk.finished in
    let answered : ToServer w_2 runs n_2 p_2 s_1 second talk.answer_tags =
    peer_turns runs w number id (kind_as form kind) p_1 s_1 first [] to _ second
    (body_as form kind talk.answers) talk.answer_tags p_2
    (answers_read form id kind talk.answers m talk.answers_bounded)
    (response_carried_whole form id kind talk.answers) (peers.starts_as peer form reads id kind
    talk.asks last said talk.answers method.Cont decision.Fail _ talk.waiting
    m talk.asks_bounded new allowed talk.answered refl) in
    let checked : ToPeer w_3 runs n_3 next p_2 s_2 third talk.check_tags =
    server_turns runs w_2 n_2 next (kind_as form kind) p_2 s_1 second talk.answer_tags answered _
    third (body_as form kind talk.checks) talk.check_tags s_2
    (asks_read form next kind talk.checks m talk.checks_bounded)
    (request_carried_whole form next kind talk.checks) (servers.continues_as made form writes id
    kind talk.answers was progress.Proposed proposed talk.asked talk.checked talk.checks _
    m talk.answers_bounded talk.was_checked) in
    let confirmed : ToServer w_4 runs n_4 p_3 s_2 fourth talk.confirm_tags =
    peer_turns runs w_3 n_3 next (kind_as form kind) p_2 s_2 third talk.check_tags checked _ fourth
    (body_as form kind talk.confirms) talk.confirm_tags p_3
    (answers_read form next kind talk.confirms m talk.confirms_bounded)
    (response_carried_whole form next kind talk.confirms)
    (peers.continues_as peer form reads next kind talk.checks id second method.Cont decision.Fail
    talk.waiting talk.confirms method.Done talk.decided _
    talk.over m talk.checks_bounded (ids_differ id) refl talk.confirmed talk.sure) in
    let ended : EndsAtPeer w_5 runs n_5 p_3 s_3 (spelled (success next)) [] =
    server_ends runs w_4 n_4 next p_3 s_2 fourth talk.confirm_tags confirmed _ [] s_3
    (servers.finishes_as made form writes next kind talk.confirms third progress.Continue proposed
    talk.checked talk.finished _ m talk.confirms_bounded talk.was_finished) in
    record {
      waits = ap (λ (all : Parties). is_success all.peer.vars.state) ended.stage.parties;
      both = peer_ends w_5 runs n_5 p_3 s_3 ended.pass (spelled (success next)) [] ended.stage _ _
          (peers.succeeds_as peer (spelled (success next))
          next kind method.Done talk.decided fourth talk.over (success_read next) talk.sure)
          refl refl;
    }
