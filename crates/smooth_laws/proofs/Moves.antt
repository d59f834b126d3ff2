-- A delivery of the packet that was sent last: the world after it.
use Rattle.std.proofs.Common.{◌≡◌, ℕ, zero, suc, ◌+◌, ◌-◌, ◌<◌, List, [], ◌∷◌, ◌++◌, length, Bool}
use Rattle.std.proofs.Common.{true, false, Option, None, Some, refl, sym, ap, subst, ◌∙◌}
use Rattle.std.proofs.Common.{arith, append-nil}
use Rattle.std.specs.Prelude.{◌==◌}
use Rattle.std.proofs.lemmas.Bool.{cond-false, ne_eqb}
use Rattle.std.proofs.lemmas.List.{length_push, get_or_push}
use Rattle.std.proofs.lemmas.Option.{slice_get-get_or, slice_get_past}
use Rattle.login_setup.specs.declared.event.Event.TheVariants.{Deliver}
use Rattle.login_setup.specs.declared.setup.Mode.{Mode}
use Rattle.login_setup.specs.declared.setup.Mode.TheVariants as mode
use Rattle.login_setup.specs.declared.setup.Party.TheVariants as party
use Rattle.login_setup.specs.declared.setup.Port.{Port}
use Rattle.login_setup.specs.declared.setup.Port.TheVariants as port
use Rattle.eap_packet.specs.declared.state.State.{State}
use Rattle.eap_method.specs.Steps.{Step, sends, enters}
use Rattle.eap_method.specs.Tags.{no_tags}
use Rattle.eap_method.specs.declared.tags.TagRecord.{TagRecord}
use Rattle.peer_machine.specs.PeerTable as peers
use Rattle.peer_machine.specs.PeerTable.{PeerNow, PeerAnswer}
use Rattle.peer_machine.specs.Expanded.{peer_receives}
use Rattle.server_machine.specs.ServerTable as servers
use Rattle.server_machine.specs.ServerTable.{ServerNow, ServerAnswer}
use Rattle.server_machine.specs.Expanded.{server_receives}
use Rattle.pass_through.specs.Inputs as pass_inputs
use Rattle.pass_through.specs.PassTable as passes
use Rattle.pass_through.specs.PassTable.{PassAnswer, pass_from_peer, pass_from_backend}
use Rattle.pass_through.specs.declared.variables.PassVariables.{PassVariables}
use Rattle.tag_book.specs.Book.{first_broken}
use Rattle.eap_world.specs.Conversations.{Conversations}
use Rattle.eap_world.specs.Judgement.{is_success}
use Rattle.eap_world.specs.Sent.{Sent, packet_numbered}
use Rattle.eap_world.specs.World.{WorldNow, Parties, Acted, Called, act_with, act, call_at}
use Rattle.eap_world.specs.World.{call_with, act_of_call, called_unless, did_by, did_pass}
use Rattle.eap_world.specs.World.{first_skip}
use Rattle.eap_world.specs.World.{WorldOutcome, conversations_after, conversed_by, conversed_unless}
use Rattle.eap_world.specs.World.{port_to, reported_before, is_absent, octets_of, packet_skips}
use Rattle.eap_world.specs.World.{run_after, act_of_skip, world_step}
use Rattle.tag_book.specs.declared.book.End.{End}
use Rattle.tag_book.specs.declared.book.End.TheVariants as end
use Rattle.tag_book.specs.declared.book.RecordOwner.TheVariants.{Other}
use Rattle.eap_world.specs.declared.told.Skip.{Skip}
use Rattle.eap_world.specs.declared.told.Skip.TheVariants.{NoParty, Unsent, Place}
use Rattle.world_laws.proofs.Acting.{counted_acted}
use Rattle.smooth_laws.specs.Smooth.{deliveries}
use Rattle.smooth_laws.proofs.Vouching.{are_vouched, stays_honest}

abbrev pub parties_at : Mode → PeerNow → ServerNow → PassVariables → Parties
parties_at runs peer server pass = record { mode = runs; peer = peer; server = server; pass = pass }

abbrev pub packet_to : Port → List ℕ → Sent
packet_to to octets = record { port = to; octets = octets }

-- the parties stand so, the packet of this number was sent last, nothing was discarded, and what
-- stands in the book is honest; the other end has made these tags, which this one is to accept
pub record Stage (w : WorldNow) (runs : Mode) (number : ℕ) (peer : PeerNow) (server : ServerNow)
    (pass : PassVariables) (last : Sent) (accepts : End)
    (tags : List TagRecord)
    : Type 0 where
  pub parties : w.parties ≡ parties_at runs peer server pass
  pub before : List Sent
  pub sent : w.sent ≡ before ++ last ∷ []
  pub count : length before + 1 ≡ number
  pub none_discarded : w.counts.discards ≡ 0
  pub honest : first_broken Other [] w.book ≡ None
  pub vouched : are_vouched w.book accepts tags ≡ true

-- both ends have succeeded, so many packets were sent, nothing was discarded, and the book is
-- honest
pub record BothIn (w : WorldNow) (number : ℕ) : Type 0 where
  pub peer : is_success w.parties.peer.vars.state ≡ true
  pub server : is_success w.parties.server.vars.state ≡ true
  pub count : length w.sent ≡ number
  pub none_discarded : w.counts.discards ≡ 0
  pub honest : first_broken Other [] w.book ≡ None

-- the world after the delivery of a packet
abbrev pub delivered : WorldNow → ℕ → WorldNow
delivered w number = (world_step w (Deliver number)).after

-- a delivery begins no conversation
at_port_started : (event : ℕ) (all : Conversations) (to : Port) (octets : List ℕ)
    → (conversations_after event all (call_at to octets)).begun ≡ all.begun
at_port_started event all port.Peer octets = refl
at_port_started event all port.Server octets = refl
at_port_started event all port.PassPeer octets = refl
at_port_started event all port.PassServer octets = refl

unless_started : (event : ℕ) (all : Conversations) (skip : Option Skip) (packet : Option Sent)
    (octets : List ℕ)
    → (conversed_unless event all skip (call_with packet octets)).begun ≡ all.begun
unless_started event all (Some skip) packet octets = refl
unless_started event all None None octets = refl
unless_started event all None (Some packet) octets = at_port_started event all packet.port octets

delivered_started : (w : WorldNow) (number : ℕ) → (delivered w number).conversations.begun
    ≡ w.conversations.begun
unfolding world_step conversed_by
delivered_started w number =
    unless_started (w.counts.events + 1) w.conversations
    (first_skip (packet_skips w.parties.mode (packet_numbered w.sent number) false))
    (packet_numbered w.sent number) (octets_of (packet_numbered w.sent number))

pub all_started : (w : WorldNow) (first count : ℕ)
    → (run_after w (deliveries first count)).conversations.begun ≡ w.conversations.begun
unfolding run_after deliveries
all_started w first zero = refl
all_started w first (suc count) =
    all_started (delivered w first) (first + 1) count ∙ delivered_started w first

last_numbered : (before : List Sent) (last : Sent) (number : ℕ) → length before + 1 ≡ number
    → packet_numbered (before ++ last ∷ []) number ≡ Some last
last_numbered before last number count =
    let size = length_push before last in
    cond-false (number == 0) _ _ (ne_eqb number 0 (λ e. omega arith))
    ∙ slice_get-get_or (before ++ last ∷ []) (number - 1) last (omega arith)
    ∙ ap (λ (x : Sent). Some x) (get_or_push before last last (number - 1) (omega arith))

called_at : (w : WorldNow) (number : ℕ) (packet : Sent)
    → packet_numbered w.sent number ≡ Some packet → is_absent w.parties.mode packet.port ≡ false
    → act w.parties w.conversations w.sent (Deliver number)
    ≡ act_of_call w.parties (call_at packet.port packet.octets)
unfolding act
called_at w number packet is there =
    ap (λ (found : Option Sent). called_unless w.parties
    (first_skip (packet_skips w.parties.mode found false)) (call_with found (octets_of found))) is
    ∙ ap (λ (absent : Bool). called_unless w.parties
    (first_skip ((absent, NoParty) ∷ (false, Unsent) ∷ (false, Place) ∷ []))
    (Some (call_at packet.port packet.octets))) there

-- where the parties have done so
abbrev delivered_as : WorldNow → ℕ → Acted → WorldOutcome
delivered_as w number out =
    counted_acted w (reported_before w.held w.parties w.conversations w.sent (Deliver number))
    (conversed_by (w.counts.events + 1) w.parties w.conversations w.sent (Deliver number)) out

after_is : (w : WorldNow) (number : ℕ) (out : Acted)
    → act w.parties w.conversations w.sent (Deliver number) ≡ out
    → delivered w number ≡ (delivered_as w number out).after
unfolding world_step
after_is w number out is = ap (λ (one : Acted). (delivered_as w number one).after) is

peer_there : (runs : Mode) → is_absent runs port.Peer ≡ false
peer_there mode.Alone = refl
peer_there mode.Through = refl

server_there : (runs : Mode) → is_absent runs port.Server ≡ false
server_there mode.Alone = refl
server_there mode.Through = refl

-- what a call that sends something, or nothing, makes of the world
module _ (w : WorldNow) (runs : Mode) (number : ℕ) (p : PeerNow) (s : ServerNow)
    (v : PassVariables) where
  handed : (last : Sent) (accepts : End) (tags : List TagRecord)
      → Stage w runs number p s v last accepts tags
      → is_absent w.parties.mode last.port ≡ false
      → (out : Acted) → act_of_call (parties_at runs p s v) (call_at last.port last.octets) ≡ out
      → delivered w number ≡ (delivered_as w number out).after
  handed last accepts tags stage there out is =
      after_is w number out
      (called_at w number last (ap (λ (sent : List Sent). packet_numbered sent number) stage.sent
      ∙ last_numbered stage.before last number stage.count) there
      ∙ ap (λ (parties : Parties). act_of_call parties (call_at last.port last.octets))
      stage.parties
      ∙ is)

  counts_up : (last : Sent) (accepts : End) (tags : List TagRecord)
      → Stage w runs number p s v last accepts tags → length w.sent + 1 ≡ number + 1
  counts_up last accepts tags stage =
      let size = length_push stage.before last in
      let count = stage.count in
      ap (λ (sent : List Sent). length sent + 1) stage.sent ∙ (omega arith)

  -- the peer answers
  pub peer_moves : (x : List ℕ) (accepted : List TagRecord)
      → Stage w runs number p s v (packet_to port.Peer x) end.Peer accepted
      → (path : List State) (y : List ℕ) (made : List TagRecord) (after : PeerNow)
      → peer_receives p x
      ≡ peers.answer (sends path y (record { accepted = accepted; made = made })) after
      → Stage (delivered w number) runs (number + 1) after s v
      (packet_to (port_to party.Peer runs) y) end.Server made
  peer_moves x accepted stage path y made after takes =
      let step : Step = sends path y (record { accepted = accepted; made = made }) in
      let to : Parties = parties_at runs after s v in
      let out : Acted = act_with (Called (did_by runs party.Peer true step)) to in
      let book =
      stays_honest (w.counts.events + 1) end.Peer w.book accepted made stage.honest stage.vouched in
      let discards = stage.none_discarded in
      subst (λ (now : WorldNow). Stage now runs (number + 1) after s v
      (packet_to (port_to party.Peer runs) y) end.Server made)
      (sym (handed (packet_to port.Peer x) end.Peer accepted stage (peer_there w.parties.mode) out
      (ap (λ (found : PeerAnswer). act_with (Called (did_by runs party.Peer true found.step))
      (parties_at runs found.after s v)) takes))) (record {
        parties = refl;
        before = w.sent;
        sent = refl;
        count = counts_up (packet_to port.Peer x) end.Peer accepted stage;
        none_discarded = omega arith;
        honest = book.honest;
        vouched = book.vouched;
      })

  -- the server answers
  pub server_moves : (x : List ℕ) (accepted : List TagRecord)
      → Stage w runs number p s v (packet_to port.Server x) end.Server accepted
      → (path : List State) (y : List ℕ) (made : List TagRecord) (after : ServerNow)
      → server_receives s x
      ≡ servers.answer (sends path y (record { accepted = accepted; made = made })) after
      → Stage (delivered w number) runs (number + 1) p after v
      (packet_to (port_to party.Server runs) y) end.Peer made
  server_moves x accepted stage path y made after takes =
      let step : Step = sends path y (record { accepted = accepted; made = made }) in
      let to : Parties = parties_at runs p after v in
      let out : Acted = act_with (Called (did_by runs party.Server true step)) to in
      let book = stays_honest (w.counts.events + 1)
      end.Server w.book accepted made stage.honest stage.vouched in
      let discards = stage.none_discarded in
      subst (λ (now : WorldNow). Stage now runs (number + 1) p after v
      (packet_to (port_to party.Server runs) y) end.Peer made)
      (sym (handed (packet_to port.Server x) end.Server accepted stage
      (server_there w.parties.mode) out (ap (λ (found : ServerAnswer). act_with (Called
      (did_by runs party.Server true found.step)) (parties_at runs p found.after v)) takes)))
      (record {
        parties = refl;
        before = w.sent;
        sent = refl;
        count = counts_up (packet_to port.Server x) end.Server accepted stage;
        none_discarded = omega arith;
        honest = book.honest;
        vouched = book.vouched;
      })

  -- the peer takes the last packet and sends nothing
  pub peer_ends : (x : List ℕ) (accepted : List TagRecord)
      → Stage w runs number p s v (packet_to port.Peer x) end.Peer accepted
      → (path : List State) (after : PeerNow)
      → peer_receives p x ≡ peers.answer (enters path no_tags) after
      → is_success after.vars.state ≡ true → is_success s.vars.state ≡ true
      → BothIn (delivered w number) number
  peer_ends x accepted stage path after takes peer_in server_in =
      let step : Step = enters path no_tags in
      let to : Parties = parties_at runs after s v in
      let out : Acted = act_with (Called (did_by runs party.Peer true step)) to in
      let discards = stage.none_discarded in
      let count = counts_up (packet_to port.Peer x) end.Peer accepted stage in
      subst (λ (now : WorldNow). BothIn now number)
      (sym (handed (packet_to port.Peer x) end.Peer accepted stage (peer_there w.parties.mode) out
      (ap (λ (found : PeerAnswer). act_with (Called (did_by runs party.Peer true found.step))
      (parties_at runs found.after s v)) takes))) (record {
        peer = peer_in;
        server = server_in;
        count = rw (append-nil w.sent) (omega arith);
        none_discarded = omega arith;
        honest = rw (append-nil w.book) stage.honest;
      })

-- the pass-through hands on what comes from the peer, and what comes from the server
module _ (w : WorldNow) (number : ℕ) (p : PeerNow) (s : ServerNow) (v : PassVariables) where
  through_there : (last : Sent) (accepts : End) (tags : List TagRecord)
      → Stage w mode.Through number p s v last accepts tags
      → is_absent w.parties.mode last.port ≡ false
  through_there last accepts tags stage =
      ap (λ (parties : Parties). is_absent parties.mode last.port) stage.parties

  pub passes_to_server : (x : List ℕ) (accepts : End) (tags : List TagRecord)
      → Stage w mode.Through number p s v (packet_to port.PassPeer x) accepts tags
      → (path : List State) (y : List ℕ) (after : PassVariables)
      → pass_from_peer v x ≡ passes.answer (passes.passes_on path y) after
      → Stage (delivered w number) mode.Through (number + 1) p s after (packet_to port.Server y)
      accepts tags
  passes_to_server x accepts tags stage path y after takes =
      let out : Acted =
      act_with (Called (did_pass (pass_inputs.from_peer x) (passes.passes_on path y)))
      (parties_at mode.Through p s after) in
      let discards = stage.none_discarded in
      subst (λ (now : WorldNow). Stage now mode.Through (number + 1) p s after
      (packet_to port.Server y) accepts tags)
      (sym (handed w mode.Through number p s v (packet_to port.PassPeer x) accepts tags stage
      (through_there (packet_to port.PassPeer x) accepts tags stage) out
      (ap (λ (found : PassAnswer). act_with (Called (did_pass (pass_inputs.from_peer x) found.step))
      (parties_at mode.Through p s found.after)) takes)))
      (record {
        parties = refl;
        before = w.sent;
        sent = refl;
        count = counts_up w mode.Through number p s v (packet_to port.PassPeer x)
            accepts tags stage;
        none_discarded = omega arith;
        honest = rw (append-nil w.book) stage.honest;
        vouched = rw (append-nil w.book) stage.vouched;
      })

  pub passes_to_peer : (x : List ℕ) (accepts : End) (tags : List TagRecord)
      → Stage w mode.Through number p s v (packet_to port.PassServer x) accepts tags
      → (path : List State) (y : List ℕ) (after : PassVariables)
      → pass_from_backend v x ≡ passes.answer (passes.asks path y) after
      → Stage (delivered w number) mode.Through (number + 1) p s after (packet_to port.Peer y)
      accepts tags
  passes_to_peer x accepts tags stage path y after takes =
      let out : Acted =
      act_with (Called (did_pass (pass_inputs.from_backend x) (passes.asks path y)))
      (parties_at mode.Through p s after) in
      let discards = stage.none_discarded in
      subst (λ (now : WorldNow). Stage now mode.Through (number + 1) p s after
      (packet_to port.Peer y) accepts tags)
      (sym (handed w mode.Through number p s v (packet_to port.PassServer x) accepts tags stage
      (through_there (packet_to port.PassServer x) accepts tags stage) out
      (ap (λ (found : PassAnswer). act_with (Called (did_pass (pass_inputs.from_backend x)
      found.step)) (parties_at mode.Through p s found.after)) takes)))
      (record {
        parties = refl;
        before = w.sent;
        sent = refl;
        count = counts_up w mode.Through number p s v (packet_to port.PassServer x)
            accepts tags stage;
        none_discarded = omega arith;
        honest = rw (append-nil w.book) stage.honest;
        vouched = rw (append-nil w.book) stage.vouched;
      })

-- ---- further deliveries

-- a packet that wasn't sent isn't delivered
preserved_unsent : (w : WorldNow) (number later : ℕ) → BothIn w number → number < later
    → BothIn (delivered w later) number
unfolding act
preserved_unsent w number later both past =
    let count = both.count in
    let discards = both.none_discarded in
    let none : packet_numbered w.sent later ≡ None =
    cond-false (later == 0) _ _ (ne_eqb later 0 (λ e. omega arith))
    ∙ slice_get_past w.sent (later - 1) (omega arith) in
    subst (λ (now : WorldNow). BothIn now number)
    (sym (after_is w later (act_of_skip w.parties Unsent)
    (ap (λ (found : Option Sent). called_unless w.parties (first_skip
    (packet_skips w.parties.mode found false)) (call_with found (octets_of found))) none)))
    (record {
      peer = both.peer;
      server = both.server;
      count = rw (append-nil w.sent) both.count;
      none_discarded = both.none_discarded;
      honest = rw (append-nil w.book) both.honest;
    })

-- so both ends stay as they are
pub stay_in : (w : WorldNow) (number first count : ℕ) → BothIn w number → number < first
    → BothIn (run_after w (deliveries first count)) number
unfolding run_after deliveries
stay_in w number first zero both past = both
stay_in w number first (suc count) both past = stay_in (delivered w first) number (first + 1) count
    (preserved_unsent w number first both past) (omega arith)
