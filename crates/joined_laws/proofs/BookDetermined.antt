-- The book of the world over an interleaving is that of the tags which both ends tell.
use Rattle.std.proofs.Common.{◌≡◌, ℕ, ◌+◌, List, [], ◌∷◌, ◌++◌, Bool, true, false, map, Some, refl}
use Rattle.std.proofs.Common.{sym, ap, ◌∙◌, cond, append_assoc, append-nil, Option}
use Rattle.std.proofs.lemmas.Bool.{and_parts}
use Rattle.std.specs.List.{list_all}
use Rattle.eap_method.specs.BothPeers as both_peers
use Rattle.eap_method.specs.BothServers as both_servers
use Rattle.login_setup.specs.declared.setup.Mode.TheVariants as mode
use Rattle.login_setup.specs.declared.setup.Setup.{Setup}
use Rattle.eap_method.specs.Steps.{is_end}
use Rattle.eap_method.specs.Tags.{Tags, no_tags}
use Rattle.eap_method.specs.declared.values.Report.{Report}
use Rattle.peer_machine.specs.Inputs as peer_inputs
use Rattle.peer_machine.specs.Inputs.{PeerInput, peer_accepts}
use Rattle.peer_machine.specs.PeerTable.{PeerNow}
use Rattle.server_machine.specs.Inputs as server_inputs
use Rattle.server_machine.specs.Inputs.{server_accepts}
use Rattle.server_machine.specs.ServerTable.{ServerNow, server_start}
use Rattle.tag_book.specs.Book.{entries_of}
use Rattle.eap_world.specs.World as world
use Rattle.eap_world.specs.World.{Action, Called, Parties, Skipped, WorldNow, act, booked_by}
use Rattle.eap_world.specs.World.{called_unless, counts_after, first_skip, run_after, world_start}
use Rattle.eap_world.specs.World.{world_step}
use Rattle.tag_book.specs.declared.book.End.TheVariants as end
use Rattle.tag_book.specs.declared.book.Entry.{Entry}
use Rattle.eap_world.specs.declared.told.Counts.{Counts}
use Rattle.eap_world.specs.declared.told.Skip.TheVariants.{Ended, NoTimer}
use Rattle.end_pipe.specs.EndRun.{EndNow, MachineTable, Moved, end_step, goes as end_goes}
use Rattle.end_pipe.specs.EndRun.{peer_answers, started_peer, peer_step, peer_table, server_answers}
use Rattle.end_pipe.specs.EndRun.{started_server, server_step, server_table, skips}
use Rattle.end_pipe.specs.Inputs.{is_skipped, peer_input, server_input}
use Rattle.end_pipe.specs.declared.input.EndInput.{EndInput}
use Rattle.end_pipe.specs.declared.input.EndInput.TheVariants as inputs
use Rattle.joined_laws.proofs.Interleaved.{acts_so, begun, moves, peer_moved, server_moved}
use Rattle.joined_laws.specs.Joined.{BookIsDetermined, Arrives, event_of, is_input, to_peer}
use Rattle.joined_laws.specs.Joined.{to_server, interleaved_book}
use Rattle.world_laws.specs.Runs.{initial_world}

-- the tags of an end at an input
abbrev peer_tags : PeerNow → EndInput → Tags
peer_tags now input =
    cond (is_skipped now.vars.state input) no_tags (peer_answers now (peer_input input)).step.tags

abbrev server_tags : ServerNow → EndInput → Tags
server_tags now input = cond (is_skipped now.vars.state input) no_tags
    (server_answers now (server_input input)).step.tags

-- that it tells
implies_by : {N : Type 0} (reports : N → Option Report) (e : EndNow N) (out : Moved N)
    (skipped : Bool)
    → (cond skipped (skips e) (end_goes reports e.held out)).told.step.tags
    ≡ cond skipped no_tags out.step.tags
implies_by reports e out true = refl
implies_by reports e out false = refl

tells : {N : Type 0} (table : MachineTable N) (e : EndNow N) (input : EndInput)
    → (end_step table e input).told.step.tags
    ≡ cond (is_skipped (table.state e.now) input) no_tags (table.moves e.now input).step.tags
unfolding end_step
tells table e input =
    implies_by table.reports e (table.moves e.now input) (is_skipped (table.state e.now) input)

-- ---- that the world books

report_books : (number : ℕ) (parties : Parties) (input : PeerInput) (over : Bool)
    → booked_by number
    (called_unless parties (first_skip ((over, Ended) ∷ [])) (Some (world.to_peer input))).action
    ≡ entries_of number end.Peer (cond over no_tags (peer_accepts parties.peer input).step.tags)
report_books number parties input true = refl
report_books number parties input false = refl

timer_books : (number : ℕ) (parties : Parties) (over : Bool)
    → booked_by number (called_unless parties (first_skip ((over, Ended) ∷ (false, NoTimer) ∷ []))
    (Some (world.to_server server_inputs.timeout))).action
    ≡ entries_of number end.Server
    (cond over no_tags (server_accepts parties.server server_inputs.timeout).step.tags)
timer_books number parties true = refl
timer_books number parties false = refl

abbrev tags_at : ℕ → Parties → Arrives → List Entry
tags_at number parties (to_peer input) = entries_of number end.Peer (peer_tags parties.peer input)
tags_at number parties (to_server input) =
    entries_of number end.Server (server_tags parties.server input)

books_so : (number : ℕ) (w : WorldNow) (input : Arrives) → w.parties.mode ≡ mode.Alone
    → is_input input ≡ true
    → booked_by number (act w.parties w.conversations w.sent (event_of input)).action
    ≡ tags_at number w.parties input
unfolding act
books_so number w (to_peer (inputs.Octets octets)) alone fits = rw alone refl
books_so number w (to_peer inputs.Idle) alone fits =
    report_books number w.parties peer_inputs.idle (is_end w.parties.peer.vars.state)
books_so number w (to_peer inputs.AltAccept) alone fits =
    report_books number w.parties peer_inputs.alt_accept (is_end w.parties.peer.vars.state)
books_so number w (to_peer inputs.AltReject) alone fits =
    report_books number w.parties peer_inputs.alt_reject (is_end w.parties.peer.vars.state)
books_so number w (to_peer inputs.Timeout) alone fits = absurd cc
books_so number w (to_server (inputs.Octets octets)) alone fits = rw alone refl
books_so number w (to_server inputs.Timeout) alone fits =
    rw alone (timer_books number _ (is_end w.parties.server.vars.state))
books_so number w (to_server other) alone fits = absurd cc

-- ---- one event after the other

counts_one : (c : Counts) (action : Action) → (counts_after c action).events ≡ c.events + 1
counts_one c (Skipped skip) = refl
counts_one c (Called did) = refl

-- the world after an event
record Stepped (w after : WorldNow) (booked_so : List Entry) : Type 0 where
  book : after.book ≡ w.book ++ booked_so
  events : after.counts.events ≡ w.counts.events + 1

steps : (w : WorldNow) (input : Arrives) → w.parties.mode ≡ mode.Alone → is_input input ≡ true
    → Stepped w (world_step w (event_of input)).after
    (tags_at (w.counts.events + 1) w.parties input)
unfolding world_step
steps w input alone fits = record {
  book = ap (λ (all : List Entry). w.book ++ all)
      (books_so (w.counts.events + 1) w input alone fits);
  events = counts_one w.counts (act w.parties w.conversations w.sent (event_of input)).action;
}

told : (w : WorldNow) (p : EndNow PeerNow) (s : EndNow ServerNow) (list : List Arrives)
    → w.parties.mode ≡ mode.Alone
    → w.parties.peer ≡ p.now → w.parties.server ≡ s.now → list_all is_input list ≡ true
    → (run_after w (map event_of list)).book ≡ w.book ++ interleaved_book w.counts.events p s list
unfolding run_after interleaved_book world_step
told w p s [] alone peer server fit = sym (append-nil w.book)
told w p s (to_peer input ∷ rest) alone peer server fit =
    let parts = and_parts (is_input (to_peer input)) (list_all is_input rest) fit in
    let n = acts_so w.parties w.conversations w.sent (to_peer input) alone parts.0 in
    let next : WorldNow = (world_step w (event_of (to_peer input))).after in
    let stepped = steps w (to_peer input) alone parts.0 in
    let out = peer_step p input in
    let tags = ap (λ (now : PeerNow). peer_tags now input) peer ∙ sym (tells peer_table p input) in
    let moved =
    n.peer ∙ (ap (λ (now : PeerNow). peer_moved now input) peer ∙ sym (moves peer_table p input)) in
    told next out.after s rest n.alone moved (n.server ∙ server) parts.1
    ∙ ap (λ (all : List Entry). all ++ interleaved_book next.counts.events out.after s rest)
    stepped.book
    ∙ ap (λ (number : ℕ). (w.book ++ entries_of (w.counts.events + 1) end.Peer (peer_tags
    w.parties.peer input)) ++ interleaved_book number out.after s rest) stepped.events
    ∙ ap (λ (t : Tags). (w.book ++ entries_of (w.counts.events + 1) end.Peer t) ++ interleaved_book
    (w.counts.events + 1) out.after s rest) tags
    ∙ append_assoc w.book (entries_of (w.counts.events + 1) end.Peer out.told.step.tags)
    (interleaved_book (w.counts.events + 1) out.after s rest)
told w p s (to_server input ∷ rest) alone peer server fit =
    let parts = and_parts (is_input (to_server input)) (list_all is_input rest) fit in
    let n = acts_so w.parties w.conversations w.sent (to_server input) alone parts.0 in
    let next : WorldNow = (world_step w (event_of (to_server input))).after in
    let stepped = steps w (to_server input) alone parts.0 in
    let out = server_step s input in
    let tags =
    ap (λ (now : ServerNow). server_tags now input) server ∙ sym (tells server_table s input) in
    let moved = n.server ∙ (ap (λ (now : ServerNow). server_moved now input) server
    ∙ sym (moves server_table s input)) in
    told next p out.after rest n.alone (n.peer ∙ peer) moved parts.1
    ∙ ap (λ (all : List Entry). all ++ interleaved_book next.counts.events p out.after rest)
    stepped.book
    ∙ ap (λ (number : ℕ). (w.book ++ entries_of (w.counts.events + 1) end.Server (server_tags
    w.parties.server input)) ++ interleaved_book number p out.after rest)
    stepped.events
    ∙ ap (λ (t : Tags). (w.book ++ entries_of (w.counts.events + 1) end.Server t)
    ++ interleaved_book (w.counts.events + 1) p out.after rest) tags
    ∙ append_assoc w.book (entries_of (w.counts.events + 1) end.Server out.told.step.tags)
    (interleaved_book (w.counts.events + 1) p out.after rest)

-- the start books nothing and is no event
record Starts (w : WorldNow) : Type 0 where
  book : w.book ≡ []
  events : w.counts.events ≡ 0

starts : (setup : Setup) → setup.mode ≡ mode.Alone
    → Starts (world_start (initial_world setup)).after
unfolding world_start server_start
starts setup alone = rw alone (record { book = refl; events = refl })

pub book_is_determined : BookIsDetermined
book_is_determined setup list alone fit =
    let b = begun setup alone in
    let p = started_peer setup.peer (both_peers.both_of setup.peer.methods) in
    let s = started_server setup.server (both_servers.both_of setup.server.methods)
    setup.first_id setup.max_retrans in
    let w : WorldNow = (world_start (initial_world setup)).after in
    let first = starts setup alone in
    told w p s list b.alone b.peer b.server fit
    ∙ ap (λ (all : List Entry). all ++ interleaved_book w.counts.events p s list) first.book
    ∙ ap (λ (number : ℕ). interleaved_book number p s list) first.events
