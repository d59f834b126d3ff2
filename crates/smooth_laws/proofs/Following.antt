-- A world whose parties stand as those of another, and whose packets end with those of the other,
-- goes on as the other.
use Rattle.std.proofs.Common.{◌≡◌, ℕ, zero, suc, ◌+◌, ◌-◌, ◌≤◌, List, [], ◌∷◌, ◌++◌, length, Bool}
use Rattle.std.proofs.Common.{true, false, cond, map, Option, None, Some, inl, inr, refl, sym, ap}
use Rattle.std.proofs.Common.{subst, ◌∙◌}
use Rattle.std.proofs.Common.{arith, append_assoc, append-nil}
use Rattle.std.specs.Prelude.{◌==◌, ◌||◌, is_some, nat_le, nat_lt, slice_get}
use Rattle.std.specs.List.{list_any}
use Rattle.std.proofs.Math.Bool.{or-false, or_assoc}
use Rattle.std.proofs.lemmas.Bool.{cond-false, false≢true, ne_eqb, or_cases, or_left, or_right}
use Rattle.std.proofs.lemmas.List.{map-append}
use Rattle.login_setup.specs.declared.event.Event.{Event}
use Rattle.login_setup.specs.declared.event.Event.TheVariants as event
use Rattle.login_setup.specs.declared.setup.Party.{Party}
use Rattle.login_setup.specs.declared.setup.Party.TheVariants as party
use Rattle.login_setup.specs.declared.setup.Port.{Port}
use Rattle.login_setup.specs.declared.setup.Port.TheVariants as port
use Rattle.eap_method.specs.declared.tags.TagRecord.{TagRecord}
use Rattle.eap_method.specs.Tags.{Tags}
use Rattle.tag_book.specs.Book.{entry, first_broken, is_accepted, is_honest, vouches}
use Rattle.eap_world.specs.Conversations.{Conversations}
use Rattle.eap_world.specs.Sent.{Sent, packet_numbered}
use Rattle.tag_book.specs.declared.book.End.{End}
use Rattle.tag_book.specs.declared.book.Entry.{Entry}
use Rattle.tag_book.specs.declared.book.RecordOwner.TheVariants.{Other}
use Rattle.tag_book.specs.declared.book.Use.{Use}
use Rattle.tag_book.specs.declared.book.Use.TheVariants.{Accepted, Made}
use Rattle.eap_world.specs.declared.told.Counts.{Counts}
use Rattle.eap_world.specs.declared.told.Skip.{Skip}
use Rattle.eap_world.specs.declared.world.HasReported.{HasReported}
use Rattle.eap_world.proofs.InConversation.{still_reported}
use Rattle.eap_method.specs.declared.values.Report.{Report}
use Rattle.tag_book.proofs.FirstBroken.{passed}
use Rattle.method_laws.proofs.TagsOfEnds.{unbroken}
use Rattle.peer_machine.specs.Inputs as peer_inputs
use Rattle.server_machine.specs.Inputs as server_inputs
use Rattle.pass_through.specs.Inputs as pass_inputs
use Rattle.eap_world.specs.World.{WorldNow, Parties, Acted, Action, Call, Called, Skipped, act}
use Rattle.eap_world.specs.World.{alteration, booked_by, booked_of, call_at, call_with}
use Rattle.eap_world.specs.World.{called_unless}
use Rattle.eap_world.specs.World.{conversations_after, conversed_by, conversed_unless, counts_after}
use Rattle.eap_world.specs.World.{end_of, first_report, first_skip, delivered_in_call, has_reported}
use Rattle.eap_world.specs.World.{named_by, octets_of, one_if, packet_skips, pass_octets, report_of}
use Rattle.eap_world.specs.World.{reported_after, reported_before, run_after}
use Rattle.eap_world.specs.World.{sent_by, skip_table, timer_call, to_pass, to_peer, to_server}
use Rattle.eap_world.specs.World.{world_step}
use Rattle.world_laws.proofs.Acting.{starts_anew}
use Rattle.std.specs.Prelude.{All, take}
use Rattle.std.proofs.lemmas.List.Elements.{All-head, All-tail, All-nil, All-cons}
use Rattle.smooth_laws.specs.Trailing.{Follows, event_past, is_restart, later, number_behind}
use Rattle.smooth_laws.specs.Smooth.{deliveries}

-- ---- packets

get_after : {X : Type 0} (before list : List X) (i : ℕ)
    → slice_get (before ++ list) (length before + i) ≡ slice_get list i
get_after [] list i = let none : 0 + i ≡ i = omega arith in rw none refl
get_after (x ∷ rest) list i = let one_more : suc (length rest) + i ≡ suc (length rest + i) =
    omega arith in rw one_more (get_after rest list i)

numbered_after : (before sent : List Sent) (n : ℕ) → 1 ≤ n
    → packet_numbered (before ++ sent) (length before + n) ≡ packet_numbered sent n
numbered_after before sent n some =
    let place : length before + n - 1 ≡ length before + (n - 1) = omega arith in
    cond-false (length before + n == 0) _ _ (ne_eqb (length before + n) 0 (λ e. omega arith))
    ∙ ap (slice_get (before ++ sent)) place
    ∙ get_after before sent (n - 1)
    ∙ sym (cond-false (n == 0) _ _ (ne_eqb n 0 (λ e. omega arith)))

-- ---- the book

entries_later : (shift event : ℕ) (end : End) (how : Use) (tags : List TagRecord)
    → map (entry (shift + event) end how) tags ≡ map (later shift) (map (entry event end how) tags)
entries_later shift event end how [] = refl
entries_later shift event end how (tag ∷ rest) = ap (λ (all : List Entry).
    entry (shift + event) end how tag ∷ all) (entries_later shift event end how rest)

of_end_later : (shift event : ℕ) (end : Option End) (tags : Tags)
    → booked_of (shift + event) end tags ≡ map (later shift) (booked_of event end tags)
of_end_later shift event None tags = refl
of_end_later shift event (Some end) tags =
    ap (λ (front : List Entry). front ++ map (entry (shift + event) end Made) tags.made)
    (entries_later shift event end Accepted tags.accepted)
    ∙ ap (λ (back : List Entry). map (later shift) (map (entry event end Accepted)
    tags.accepted) ++ back) (entries_later shift event end Made tags.made)
    ∙ sym (map-append (later shift) (map (entry event end Accepted) tags.accepted)
    (map (entry event end Made) tags.made))

booked_later : (shift event : ℕ) (action : Action) → booked_by (shift + event) action
    ≡ map (later shift) (booked_by event action)
booked_later shift event (Skipped skip) = refl
booked_later shift event (Called did) = of_end_later shift event (end_of did.party) did.step.tags

-- ---- counts

counted_events : (c : Counts) (action : Action) → (counts_after c action).events ≡ c.events + 1
counted_events c (Skipped skip) = refl
counted_events c (Called did) = refl

abbrev discards_in : Action → ℕ
discards_in (Skipped skip) = 0
discards_in (Called did) = one_if (is_some did.step.cause)

counted_discards : (c : Counts) (action : Action) → (counts_after c action).discards
    ≡ c.discards + discards_in action
counted_discards c (Skipped skip) = omega arith
counted_discards c (Called did) = refl

abbrev deliveries_in : Action → ℕ
deliveries_in (Skipped skip) = 0
deliveries_in (Called did) = one_if did.is_delivery

counted_deliveries : (c : Counts) (action : Action) → (counts_after c action).deliveries
    ≡ c.deliveries + deliveries_in action
counted_deliveries c (Skipped skip) = omega arith
counted_deliveries c (Called did) = refl

-- ---- which ends have had a report

-- whether the peer, and the server, is the party that acted and has a report
abbrev peer_has : Party → Option Report → Bool
peer_has party.Peer report = is_some report
peer_has party.Pass report = false
peer_has party.Server report = false

abbrev server_has : Party → Option Report → Bool
server_has party.Peer report = false
server_has party.Pass report = false
server_has party.Server report = is_some report

abbrev peer_in : Acted → Bool
peer_in out = elim out.action [
  | Skipped skip ↦ false
  | Called did ↦ peer_has did.party (report_of out.after did.party)
]

abbrev server_in : Acted → Bool
server_in out = elim out.action [
  | Skipped skip ↦ false
  | Called did ↦ server_has did.party (report_of out.after did.party)
]

abbrev reported_with : Bool → Bool → Party → Option Report → HasReported
reported_with peer server of report =
    let held : HasReported = record { peer = peer; server = server } in
    reported_after held (first_report (has_reported held of) of report)

peer_with : (peer server : Bool) (of : Party) (report : Option Report)
    → (reported_with peer server of report).peer ≡ (peer || peer_has of report)
peer_with true server party.Peer report = refl
peer_with false server party.Peer None = refl
peer_with false server party.Peer (Some report) = refl
peer_with peer server party.Pass None = sym (or-false peer)
peer_with peer server party.Pass (Some report) = sym (or-false peer)
peer_with peer true party.Server report = sym (or-false peer)
peer_with peer false party.Server None = sym (or-false peer)
peer_with peer false party.Server (Some report) = sym (or-false peer)

server_with : (peer server : Bool) (of : Party) (report : Option Report)
    → (reported_with peer server of report).server ≡ (server || server_has of report)
server_with peer true party.Server report = refl
server_with peer false party.Server None = refl
server_with peer false party.Server (Some report) = refl
server_with peer server party.Pass None = sym (or-false server)
server_with peer server party.Pass (Some report) = sym (or-false server)
server_with true server party.Peer report = sym (or-false server)
server_with false server party.Peer None = sym (or-false server)
server_with false server party.Peer (Some report) = sym (or-false server)

abbrev held_after : HasReported → Acted → HasReported
held_after held out = reported_after held (named_by held out.after out.action)

peer_after : (held : HasReported) (after : Parties) (action : Action)
    → (let out : Acted = record { action = action; after = after } in
    (held_after held out).peer ≡ (held.peer || peer_in out))
peer_after held after (Skipped skip) = sym (or-false held.peer)
peer_after held after (Called did) =
    peer_with held.peer held.server did.party (report_of after did.party)

server_after : (held : HasReported) (after : Parties) (action : Action)
    → (let out : Acted = record { action = action; after = after } in
    (held_after held out).server ≡ (held.server || server_in out))
server_after held after (Skipped skip) = sym (or-false held.server)
server_after held after (Called did) =
    server_with held.peer held.server did.party (report_of after did.party)

one_more : (now since then more : Bool) → now ≡ (since || then)
    → (now || more) ≡ (since || (then || more))
one_more now since then more e = ap (λ (b : Bool). b || more) e ∙ or_assoc since then more

-- ---- an event

module _ (since : WorldNow) (before : List Sent) (w v : WorldNow)
    (f : Follows since before w v) where
  steps : (e one : Event) → act w.parties w.conversations w.sent e
      ≡ act v.parties v.conversations v.sent one
      → (conversed_by (w.counts.events + 1) w.parties w.conversations w.sent e).begun
      ≡ w.conversations.begun
      → (conversed_by (w.counts.events + 1) w.parties w.conversations w.sent e).fresh
      ≡ w.conversations.fresh
      → w.held ≡ reported_before w.held w.parties w.conversations w.sent e
      → v.held ≡ reported_before v.held v.parties v.conversations v.sent one
      → Follows since before (world_step w e).after (world_step v one).after
  unfolding world_step
  steps e one same begun fresh held was =
      let out : Acted = act v.parties v.conversations v.sent one in
      let k : ℕ = since.counts.events in
      let events = f.events in
      let discards = f.discards in
      let event : w.counts.events + 1 ≡ k + (v.counts.events + 1) = omega arith in
      let w_events = counted_events w.counts out.action in
      let v_events = counted_events v.counts out.action in
      let deliveries = f.deliveries in
      let w_deliveries = counted_deliveries w.counts out.action in
      let v_deliveries = counted_deliveries v.counts out.action in
      let w_discards = counted_discards w.counts out.action in
      let v_discards = counted_discards v.counts out.action in
      record {
        parties = ap (λ (o : Acted). o.after) same;
        sent = ap (λ (o : Acted). w.sent ++ sent_by o.action) same
            ∙ ap (λ (all : List Sent). all ++ sent_by out.action) f.sent
            ∙ append_assoc before v.sent (sent_by out.action);
        events = ap (λ (o : Acted). (counts_after w.counts o.action).events) same ∙ (omega arith);
        deliveries =
            ap (λ (o : Acted). (counts_after w.counts o.action).deliveries) same ∙ (omega arith);
        discards =
            ap (λ (o : Acted). (counts_after w.counts o.action).discards) same ∙ (omega arith);
        peer_reported = ap (λ (h : HasReported).
            (held_after h (act w.parties w.conversations w.sent e)).peer) (sym held)
            ∙ ap (λ (o : Acted). (held_after w.held o).peer) same
            ∙ peer_after w.held out.after out.action
            ∙ one_more w.held.peer since.held.peer v.held.peer (peer_in out) f.peer_reported
            ∙ ap (λ (b : Bool). since.held.peer || b)
            (sym (peer_after v.held out.after out.action)
            ∙ ap (λ (h : HasReported). (held_after h out).peer) was);
        server_reported = ap (λ (h : HasReported).
            (held_after h (act w.parties w.conversations w.sent e)).server) (sym held)
            ∙ ap (λ (o : Acted). (held_after w.held o).server) same
            ∙ server_after w.held out.after out.action
            ∙ one_more w.held.server since.held.server v.held.server
            (server_in out) f.server_reported
            ∙ ap (λ (b : Bool). since.held.server || b)
            (sym (server_after v.held out.after out.action)
            ∙ ap (λ (h : HasReported). (held_after h out).server) was);
        book = ap (λ (o : Acted). w.book ++ booked_by (w.counts.events + 1) o.action) same
            ∙ ap (λ (number : ℕ). w.book ++ booked_by number out.action) event
            ∙ ap (λ (all : List Entry). w.book ++ all)
            (booked_later k (v.counts.events + 1) out.action)
            ∙ ap (λ (all : List Entry).
            all ++ map (later k) (booked_by (v.counts.events + 1) out.action)) f.book
            ∙ append_assoc since.book (map (later k) v.book)
            (map (later k) (booked_by (v.counts.events + 1) out.action))
            ∙ ap (λ (all : List Entry). since.book ++ all)
            (sym (map-append (later k) v.book (booked_by (v.counts.events + 1) out.action)));
        begun = begun ∙ f.begun;
        fresh = fresh ∙ f.fresh;
      }

-- ---- an event in which no party begins again

numbered_so : (before sent : List Sent) (n : ℕ)
    → packet_numbered (before ++ sent) (number_behind (length before) n) ≡ packet_numbered sent n
numbered_so before sent zero = refl
numbered_so before sent (suc n) =
    ap (packet_numbered (before ++ sent))
    (cond-false (suc n == 0) _ _ (ne_eqb (suc n) 0 (λ e. omega arith)))
    ∙ numbered_after before sent (suc n) (omega arith)

-- it begins no conversation
record Same (after before : Conversations) : Type 0 where
  begun : after.begun ≡ before.begun
  fresh : after.fresh ≡ before.fresh

received_same : (all : Conversations) (came : Option (List ℕ))
    → Same (delivered_in_call all came) all
received_same all None = record { begun = refl; fresh = refl }
received_same all (Some octets) = record { begun = refl; fresh = refl }

call_same : (event : ℕ) (all : Conversations) (call : Call) → starts_anew call ≡ false
    → Same (conversations_after event all call) all
call_same event all (to_peer (peer_inputs.octets bytes)) stays = received_same all (Some bytes)
call_same event all (to_peer peer_inputs.idle) stays = received_same all None
call_same event all (to_peer peer_inputs.alt_accept) stays = received_same all None
call_same event all (to_peer peer_inputs.alt_reject) stays = received_same all None
call_same event all (to_peer (peer_inputs.restart nonce)) stays = cc stays
call_same event all (to_server server_inputs.start) stays = received_same all None
call_same event all (to_server server_inputs.timeout) stays = received_same all None
call_same event all (to_server (server_inputs.octets bytes)) stays = received_same all (Some bytes)
call_same event all (to_server (server_inputs.restart nonce)) stays = cc stays
call_same event all (to_pass input) stays = received_same all (pass_octets input)

unless_same : (event : ℕ) (all : Conversations) (skip : Option Skip) (call : Call)
    → starts_anew call ≡ false
    → Same (conversed_unless event all skip (Some call)) all
unless_same event all (Some skip) call stays = record { begun = refl; fresh = refl }
unless_same event all None call stays = call_same event all call stays

at_port_same : (event : ℕ) (all : Conversations) (skip : Option Skip) (to : Port) (octets : List ℕ)
    → Same (conversed_unless event all skip (Some (call_at to octets))) all
at_port_same event all skip port.Peer octets =
    unless_same event all skip (call_at port.Peer octets) refl
at_port_same event all skip port.Server octets =
    unless_same event all skip (call_at port.Server octets) refl
at_port_same event all skip port.PassPeer octets =
    unless_same event all skip (call_at port.PassPeer octets) refl
at_port_same event all skip port.PassServer octets =
    unless_same event all skip (call_at port.PassServer octets) refl

packet_same : (event : ℕ) (all : Conversations) (skip : Option Skip) (packet : Option Sent)
    (octets : List ℕ)
    → Same (conversed_unless event all skip (call_with packet octets)) all
packet_same event all (Some skip) None octets = record { begun = refl; fresh = refl }
packet_same event all None None octets = record { begun = refl; fresh = refl }
packet_same event all skip (Some packet) octets = at_port_same event all skip packet.port octets

timer_same : (event : ℕ) (all : Conversations) (skip : Option Skip) (of : Party)
    → Same (conversed_unless event all skip (Some (timer_call of))) all
timer_same event all skip party.Peer = unless_same event all skip (timer_call party.Peer) refl
timer_same event all skip party.Pass = unless_same event all skip (timer_call party.Pass) refl
timer_same event all skip party.Server = unless_same event all skip (timer_call party.Server) refl

event_same : (number : ℕ) (p : Parties) (all : Conversations) (sent : List Sent) (e : Event)
    → is_restart e ≡ false → Same (conversed_by number p all sent e) all
unfolding conversed_by
event_same number p all sent (event.Deliver n) stays =
    packet_same number all (first_skip (skip_table p all sent (event.Deliver n)))
    (packet_numbered sent n) (octets_of (packet_numbered sent n))
event_same number p all sent (event.Alter n place mask) stays =
    packet_same number all (first_skip (skip_table p all sent (event.Alter n place mask)))
    (packet_numbered sent n) (alteration (octets_of (packet_numbered sent n)) place mask)
event_same number p all sent (event.Cut n keep) stays =
    packet_same number all (first_skip (skip_table p all sent (event.Cut n keep)))
    (packet_numbered sent n) (take keep (octets_of (packet_numbered sent n)))
event_same number p all sent (event.Inject to octets) stays =
    at_port_same number all (first_skip (skip_table p all sent (event.Inject to octets))) to octets
event_same number p all sent (event.Timeout of) stays =
    timer_same number all (first_skip (skip_table p all sent (event.Timeout of))) of
event_same number p all sent event.AaaTimeout stays =
    unless_same number all (first_skip (skip_table p all sent event.AaaTimeout))
    (to_pass pass_inputs.aaa_timeout) refl
event_same number p all sent event.AaaNoReq stays = unless_same number all
    (first_skip (skip_table p all sent event.AaaNoReq)) (to_pass pass_inputs.aaa_noreq) refl
event_same number p all sent event.Idle stays = unless_same number all
    (first_skip (skip_table p all sent event.Idle)) (to_peer peer_inputs.idle) refl
event_same number p all sent event.AltAccept stays = unless_same number all
    (first_skip (skip_table p all sent event.AltAccept)) (to_peer peer_inputs.alt_accept) refl
event_same number p all sent event.AltReject stays = unless_same number all
    (first_skip (skip_table p all sent event.AltReject)) (to_peer peer_inputs.alt_reject) refl
event_same number p all sent (event.Restart of) stays = cc stays

trailing_same : (shift : ℕ) (e : Event) → is_restart e ≡ false
    → is_restart (event_past shift e) ≡ false
trailing_same shift (event.Deliver n) stays = refl
trailing_same shift (event.Alter n place mask) stays = refl
trailing_same shift (event.Cut n keep) stays = refl
trailing_same shift (event.Inject to octets) stays = refl
trailing_same shift (event.Timeout of) stays = refl
trailing_same shift event.AaaTimeout stays = refl
trailing_same shift event.AaaNoReq stays = refl
trailing_same shift event.Idle stays = refl
trailing_same shift event.AltAccept stays = refl
trailing_same shift event.AltReject stays = refl
trailing_same shift (event.Restart of) stays = stays

no_restart : (e : Event) → is_restart e ≡ false → (of : Party) → e ≡ event.Restart of → ⊥
no_restart e stays of is = false≢true (sym stays ∙ ap is_restart is)

module _ (since : WorldNow) (before : List Sent) (w v : WorldNow)
    (f : Follows since before w v) where
  -- the packet is the same
  found_so : (n : ℕ) → packet_numbered w.sent (number_behind (length before) n)
      ≡ packet_numbered v.sent n
  found_so n =
      ap (λ (sent : List Sent). packet_numbered sent (number_behind (length before) n)) f.sent
      ∙ numbered_so before v.sent n

  -- and what comes of it
  abbrev handed : Bool → (List ℕ → List ℕ) → Option Sent → Acted
  handed is_misplaced part found =
      called_unless v.parties (first_skip (packet_skips v.parties.mode found is_misplaced))
      (call_with found (part (octets_of found)))

  same_of : (e : Event) → is_restart e ≡ false
      → act v.parties w.conversations w.sent (event_past (length before) e)
      ≡ act v.parties v.conversations v.sent e
  unfolding act
  same_of (event.Deliver n) stays = ap (handed false (λ (octets : List ℕ). octets)) (found_so n)
  same_of (event.Alter n place mask) stays =
      ap (λ (found : Option Sent). handed (nat_le (length (octets_of found)) place)
      (λ (octets : List ℕ). alteration octets place mask) found) (found_so n)
  same_of (event.Cut n keep) stays = ap (λ (found : Option Sent). handed (nat_lt
      (length (octets_of found)) keep) (λ (octets : List ℕ). take keep octets) found) (found_so n)
  same_of (event.Inject to octets) stays = refl
  same_of (event.Timeout of) stays = refl
  same_of event.AaaTimeout stays = refl
  same_of event.AaaNoReq stays = refl
  same_of event.Idle stays = refl
  same_of event.AltAccept stays = refl
  same_of event.AltReject stays = refl
  same_of (event.Restart of) stays = cc stays

  same_act : (e : Event) → is_restart e ≡ false
      → act w.parties w.conversations w.sent (event_past (length before) e)
      ≡ act v.parties v.conversations v.sent e
  same_act e stays =
      ap (λ (p : Parties). act p w.conversations w.sent (event_past (length before) e)) f.parties
      ∙ same_of e stays

  takes : (e : Event) → is_restart e ≡ false
      → Follows since before (world_step w (event_past (length before) e)).after
      (world_step v e).after
  takes e stays =
      let past : Event = event_past (length before) e in
      let s = event_same (w.counts.events + 1) w.parties w.conversations w.sent
      (event_past (length before) e) (trailing_same (length before) e stays) in
      steps since before w v f past e (same_act e stays) s.begun s.fresh
      (still_reported w.held w.parties w.conversations w.sent past
      (no_restart past (trailing_same (length before) e stays)))
      (still_reported v.held v.parties v.conversations v.sent e (no_restart e stays))

-- so a whole run does
pub accepts_each : (since : WorldNow) (before : List Sent) (events : List Event)
    → All (λ (e : Event). is_restart e ≡ false) events
    → (w v : WorldNow) → Follows since before w v
    → Follows since before (run_after w (map (event_past (length before)) events))
    (run_after v events)
unfolding run_after
accepts_each since before [] none w v f = f
accepts_each since before (e ∷ rest) none w v f =
    accepts_each since before rest (All-tail (λ (e : Event). is_restart e ≡ false) e rest none)
    (world_step w (event_past (length before) e)).after (world_step v e).after
    (takes since before w v f e (All-head (λ (e : Event). is_restart e ≡ false) e rest none))

-- deliveries in order begin none
delivers_none : (first count : ℕ)
    → All (λ (e : Event). is_restart e ≡ false) (deliveries first count)
unfolding deliveries
delivers_none first zero = All-nil (λ (e : Event). is_restart e ≡ false)
delivers_none first (suc count) = All-cons (λ (e : Event). is_restart e ≡ false)
    (event.Deliver first) (deliveries (first + 1) count) refl (delivers_none (first + 1) count)

deliveries_after : (shift first count : ℕ) → 1 ≤ first
    → map (event_past shift) (deliveries first count) ≡ deliveries (shift + first) count
unfolding deliveries
deliveries_after shift first zero some = refl
deliveries_after shift first (suc count) some =
    let next : shift + first + 1 ≡ shift + (first + 1) = omega arith in
    ap (λ (n : ℕ). event.Deliver n ∷ map (event_past shift) (deliveries (first + 1) count))
    (cond-false (first == 0) _ _ (ne_eqb first 0 (λ e. omega arith)))
    ∙ ap (λ (rest : List Event). event.Deliver (shift + first) ∷ rest)
    (deliveries_after shift (first + 1) count (omega arith)
    ∙ ap (λ (n : ℕ). deliveries n count) (sym next))

pub delivers_each : (since : WorldNow) (before : List Sent) (w v : WorldNow)
    → Follows since before w v → (first count : ℕ) → 1 ≤ first
    → Follows since before (run_after w (deliveries (length before + first) count))
    (run_after v (deliveries first count))
delivers_each since before w v f first count some =
    subst (λ (events : List Event). Follows since before (run_after w events)
    (run_after v (deliveries first count))) (deliveries_after (length before) first count some)
    (accepts_each since before (deliveries first count) (delivers_none first count) w v f)

-- ---- honest tags behind others

any_after : (test : Entry → Bool) (one other : List Entry) → list_any test other ≡ true
    → list_any test (one ++ other) ≡ true
any_after test [] other h = h
any_after test (e ∷ rest) other h =
    or_right (test e) (list_any test (rest ++ other)) (any_after test rest other h)

any_later : (shift : ℕ) (e : Entry) (all : List Entry) → list_any (vouches Other e) all ≡ true
    → list_any (vouches Other (later shift e)) (map (later shift) all) ≡ true
any_later shift e [] h = h
any_later shift e (one ∷ rest) h =
    elim (or_cases (vouches Other e one) (list_any (vouches Other e) rest) h) [
      | inl this ↦ or_left (vouches Other e one)
          (list_any (vouches Other (later shift e)) (map (later shift) rest)) this
      | inr behind ↦ or_right (vouches Other e one) (list_any (vouches Other (later shift e))
          (map (later shift) rest)) (any_later shift e rest behind)
    ]

honest_by : (b : Bool) (shift : ℕ) (old earlier : List Entry) (e : Entry)
    → cond b (list_any (vouches Other e) earlier) true ≡ true
    → cond b (list_any (vouches Other (later shift e)) (old ++ map (later shift) earlier)) true
    ≡ true
honest_by false shift old earlier e h = refl
honest_by true shift old earlier e h =
    any_after (vouches Other (later shift e)) old (map (later shift) earlier)
    (any_later shift e earlier h)

honest_later : (shift : ℕ) (old earlier : List Entry) (e : Entry) → is_honest Other earlier e ≡ true
    → is_honest Other (old ++ map (later shift) earlier) (later shift e) ≡ true
honest_later shift old earlier e h = honest_by (is_accepted e) shift old earlier e h

all_honest : (shift : ℕ) (old earlier rest : List Entry) → first_broken Other earlier rest ≡ None
    → first_broken Other (old ++ map (later shift) earlier) (map (later shift) rest) ≡ None
unfolding first_broken
all_honest shift old earlier [] none = refl
all_honest shift old earlier (e ∷ rest) none =
    let u = unbroken Other earlier e rest none in
    passed Other (old ++ map (later shift) earlier) (map (later shift) rest) (later shift e)
    (honest_later shift old earlier e u.honest)
    ∙ ap (λ (all : List Entry). first_broken Other all (map (later shift) rest))
    (append_assoc old (map (later shift) earlier) (later shift e ∷ [])
    ∙ ap (λ (all : List Entry). old ++ all) (sym (map-append (later shift) earlier (e ∷ []))))
    ∙ all_honest shift old (earlier ++ e ∷ []) rest u.behind

-- what is broken stays so, and what isn't is followed by what comes
abbrev or_then : Option ℕ → Option ℕ → Option ℕ
or_then None behind = behind
or_then (Some event) behind = Some event

parted_by : (b : Bool) (earlier one other : List Entry) (e : Entry)
    → first_broken Other (earlier ++ e ∷ []) (one ++ other)
    ≡ or_then (first_broken Other (earlier ++ e ∷ []) one)
    (first_broken Other ((earlier ++ e ∷ []) ++ one) other)
    → cond b (first_broken Other (earlier ++ e ∷ []) (one ++ other)) (Some e.event)
    ≡ or_then (cond b (first_broken Other (earlier ++ e ∷ []) one) (Some e.event))
    (first_broken Other ((earlier ++ e ∷ []) ++ one) other)
parted_by true earlier one other e h = h
parted_by false earlier one other e h = refl

parted : (earlier one other : List Entry)
    → first_broken Other earlier (one ++ other)
    ≡ or_then (first_broken Other earlier one) (first_broken Other (earlier ++ one) other)
unfolding first_broken
parted earlier [] other =
    ap (λ (all : List Entry). first_broken Other all other) (sym (append-nil earlier))
parted earlier (e ∷ rest) other =
    parted_by (is_honest Other earlier e) earlier rest other e
    (parted (earlier ++ e ∷ []) rest other)
    ∙ ap (λ (all : List Entry). or_then (first_broken Other earlier (e ∷ rest))
    (first_broken Other all other)) (append_assoc earlier (e ∷ []) rest)

then_none : (found : Option ℕ) → or_then found None ≡ found
then_none None = refl
then_none (Some event) = refl

pub as_honest : (shift : ℕ) (old new : List Entry) → first_broken Other [] new ≡ None
    → first_broken Other [] (old ++ map (later shift) new) ≡ first_broken Other [] old
as_honest shift old new none =
    parted [] old (map (later shift) new)
    ∙ ap (λ (behind : Option ℕ). or_then (first_broken Other [] old) behind)
    (ap (λ (all : List Entry). first_broken Other all (map (later shift) new)) (sym
    (append-nil old)) ∙ all_honest shift old [] new none)
    ∙ then_none (first_broken Other [] old)
