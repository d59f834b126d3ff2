-- In every run both ends stand as their views tell, in their present conversations.
use Rattle.std.proofs.Common.{◌≡◌, ◌<◌, ◌+◌, ℕ, List, [], ◌∷◌, ◌++◌, length, All, refl, sym, ap}
use Rattle.std.proofs.Common.{subst, ◌∙◌, arith, append-nil}
use Rattle.std.specs.Prelude.{if◌then◌else◌}
use Rattle.std.proofs.lemmas.List.Elements.{All-nil, All-weaker}
use Rattle.login_setup.specs.declared.setup.Mode.{Mode}
use Rattle.login_setup.specs.declared.setup.Mode.TheVariants as mode
use Rattle.login_setup.specs.declared.setup.PeerSetup.{PeerSetup}
use Rattle.login_setup.specs.Setup.{ServerSetup}
use Rattle.login_setup.specs.declared.setup.Setup.{Setup}
use Rattle.login_setup.specs.declared.event.Event.{Event}
use Rattle.eap_method.specs.BothPeers as peer_methods
use Rattle.eap_method.specs.BothServers as server_methods
use Rattle.eap_method.specs.Peer.{PeerViews}
use Rattle.eap_method.specs.Server.{ServerViews}
use Rattle.eap_method.specs.declared.tags.TagRecord.{TagRecord}
use Rattle.eap_method.specs.Tags.{Tags}
use Rattle.peer_machine.specs.Inputs as peer_inputs
use Rattle.peer_machine.specs.Inputs.{PeerInput, peer_accepts}
use Rattle.peer_machine.specs.PeerTable as peers
use Rattle.peer_machine.specs.PeerTable.{PeerNow}
use Rattle.server_machine.specs.Inputs as server_inputs
use Rattle.server_machine.specs.Inputs.{ServerInput, server_accepts, start}
use Rattle.server_machine.specs.ServerTable as servers
use Rattle.server_machine.specs.ServerTable.{ServerNow, server_start}
use Rattle.tag_book.specs.Book.{entries_of, same_end}
use Rattle.eap_world.specs.Conversations.{beginning, since_from, since_of}
use Rattle.world_laws.specs.EndInvariants.{BothInvariantsOf, EndInvariants, AnyEndInvariants}
use Rattle.world_laws.specs.PeerInvariant.{PeerInvariantOf}
use Rattle.method_laws.specs.Records.{since, tags_by}
use Rattle.world_laws.specs.ServerInvariant.{ServerInvariantOf}
use Rattle.eap_world.specs.World.{Parties, WorldNow, WorldOutcome, call_octets, act_of_call}
use Rattle.eap_world.specs.World.{start_call, to_pass, to_peer, to_server, world_acted, world_start}
use Rattle.tag_book.specs.declared.book.End.{End}
use Rattle.tag_book.specs.declared.book.End.TheVariants as end
use Rattle.tag_book.specs.declared.book.Entry.{Entry}
use Rattle.tag_book.specs.declared.book.Use.TheVariants.{Accepted, Made}
use Rattle.world_laws.proofs.Acting.{Steps, skips, calls, peer_restarts, server_restarts, peer_same}
use Rattle.world_laws.proofs.Acting.{run_preserves, server_same, still_started}
use Rattle.world_laws.proofs.Dates.{Dates, IsDated, IsOf, all_since, booked_of_event, books_date}
use Rattle.world_laws.proofs.Dates.{one_longer, present, present_anew, present_more, steps_book}
use Rattle.world_laws.proofs.Dates.{untagged}
use Rattle.world_laws.proofs.PeerPreserves as peer_calls
use Rattle.world_laws.proofs.ServerPreserves as server_calls
use Rattle.method_laws.proofs.TagsOfEnds.{grows, rests}
use Rattle.eap_world.specs.Run as wide
use Rattle.eap_world.specs.World as wide_world
use Rattle.method_laws.specs.Objects.{PeerHasOwn, ServerHasOwn}
use Rattle.method_laws.proofs.PeerObjects as peer_objects
use Rattle.method_laws.proofs.ServerObjects as server_objects
use Rattle.world_laws.specs.Runs.{initial_world, run_of}

-- both ends have the settings that they began with, and their present conversations are the whole
-- run
pub record AreFirst (setup : Setup) (w : WorldNow) : Type 0 where
  pub peer_own : w.parties.peer.vars.setup ≡ setup.peer
  pub server_own : w.parties.server.vars.setup ≡ setup.server
  pub since : (of : End) → since_of of w.conversations.begun ≡ 0

first_since : (of : End) (peer server : List ℕ)
    → since_of of (beginning 0 end.Peer peer ∷ beginning 0 end.Server server ∷ []) ≡ 0
unfolding since_from
first_since end.Peer peer server = refl
first_since end.Server peer server = refl

whole_book : (w : WorldNow) (of : End) → Dates w → since_of of w.conversations.begun ≡ 0
    → present of w ≡ w.book
whole_book w of dates is =
    ap (λ (event : ℕ). since event w.book) is
    ∙ all_since 0 w.book (All-weaker (IsDated w.counts.events) (λ (e : Entry). 0 < e.event)
    (λ e d. omega (arith, d.later)) w.book dates.dated)

module _ (peer_first : PeerViews) (server_first : ServerViews) where
  -- ---- an end with the entries of its present conversation

  abbrev PeerAt : PeerSetup → PeerNow → List Entry → Type 0
  PeerAt setup now entries =
      PeerInvariantOf peer_first (peers.setup_with_nonce setup now.vars.setup.nonce) now
      (tags_by end.Peer Accepted entries) (tags_by end.Peer Made entries)

  abbrev ServerAt : ServerSetup → ServerNow → List Entry → Type 0
  ServerAt setup now entries =
      ServerInvariantOf server_first (servers.setup_with_nonce setup now.vars.setup.nonce) now
      (tags_by end.Server Accepted entries) (tags_by end.Server Made entries)

  -- the nonce of its settings is the one with which it stands
  own_peer : (setup : PeerSetup) (nonce : List ℕ) (now : PeerNow) (accepted made : List TagRecord)
      → PeerInvariantOf peer_first (peers.setup_with_nonce setup nonce) now accepted made
      → PeerInvariantOf peer_first
      (peers.setup_with_nonce setup now.vars.setup.nonce) now accepted made
  own_peer setup nonce now accepted made stands =
      subst (λ (n : List ℕ). PeerInvariantOf peer_first
      (peers.setup_with_nonce setup n) now accepted made)
      (sym (ap (λ (s : PeerSetup). s.nonce) stands.own)) stands

  own_server : (setup : ServerSetup) (nonce : List ℕ) (now : ServerNow)
      (accepted made : List TagRecord)
      → ServerInvariantOf server_first (servers.setup_with_nonce setup nonce) now accepted made
      → ServerInvariantOf server_first
      (servers.setup_with_nonce setup now.vars.setup.nonce) now accepted made
  own_server setup nonce now accepted made stands =
      subst (λ (n : List ℕ). ServerInvariantOf server_first
      (servers.setup_with_nonce setup n) now accepted made)
      (sym (ap (λ (s : ServerSetup). s.nonce) stands.own)) stands

  module _ (setup : PeerSetup) (now : PeerNow) (entries : List Entry)
      (stands : PeerAt setup now entries) (event : ℕ) where
    peer_rests : (tags : Tags) → PeerAt setup now (entries ++ entries_of event end.Server tags)
    peer_rests tags = rests end.Peer (PeerInvariantOf peer_first
        (peers.setup_with_nonce setup now.vars.setup.nonce) now) entries event tags stands

    module _ (input : PeerInput)
        (same : (nonce : List ℕ) → input ≡ peer_inputs.restart nonce → ⊥) where
      peer_preserved : (let out = peer_accepts now input in
          PeerInvariantOf peer_first (peers.setup_with_nonce setup now.vars.setup.nonce) out.after
          (tags_by end.Peer Accepted entries ++ out.step.tags.accepted)
          (tags_by end.Peer Made entries ++ out.step.tags.made))
      peer_preserved = peer_calls.peer_preserves (peers.setup_with_nonce setup now.vars.setup.nonce)
          now _ _ input same stands

      peer_proceeds : (let out = peer_accepts now input in
          PeerAt setup out.after (entries ++ entries_of event end.Peer out.step.tags))
      peer_proceeds = let out = peer_accepts now input in
          own_peer setup now.vars.setup.nonce out.after _ _
          (grows end.Peer (PeerInvariantOf peer_first
          (peers.setup_with_nonce setup now.vars.setup.nonce)
          out.after) entries event out.step.tags peer_preserved)

      peer_still : (peer_accepts now input).after.vars.setup ≡ now.vars.setup
      peer_still = peer_preserved.own ∙ sym stands.own

    peer_anew : (nonce : List ℕ)
        → PeerAt setup (peer_accepts now (peer_inputs.restart nonce)).after []
    unfolding tags_by
    peer_anew nonce =
        own_peer setup nonce _ [] [] (peer_calls.peer_invariant_anew
        (peers.setup_with_nonce setup now.vars.setup.nonce) now nonce stands.own stands.objects)

  module _ (setup : ServerSetup) (now : ServerNow) (entries : List Entry)
      (stands : ServerAt setup now entries) (event : ℕ) where
    server_rests : (tags : Tags) → ServerAt setup now (entries ++ entries_of event end.Peer tags)
    server_rests tags = rests end.Server (ServerInvariantOf server_first
        (servers.setup_with_nonce setup now.vars.setup.nonce) now) entries event tags stands

    module _ (input : ServerInput) (later : input ≡ start → ⊥)
        (same : (nonce : List ℕ) → input ≡ server_inputs.restart nonce → ⊥) where
      server_preserved : (let out = server_accepts now input in
          ServerInvariantOf server_first
          (servers.setup_with_nonce setup now.vars.setup.nonce) out.after
          (tags_by end.Server Accepted entries ++ out.step.tags.accepted)
          (tags_by end.Server Made entries ++ out.step.tags.made))
      server_preserved = server_calls.server_preserves
          (servers.setup_with_nonce setup now.vars.setup.nonce) now _ _ input later same stands

      server_proceeds : (let out = server_accepts now input in
          ServerAt setup out.after (entries ++ entries_of event end.Server out.step.tags))
      server_proceeds = let out = server_accepts now input in
          own_server setup now.vars.setup.nonce out.after _ _
          (grows end.Server (ServerInvariantOf server_first
          (servers.setup_with_nonce setup now.vars.setup.nonce)
          out.after) entries event out.step.tags server_preserved)

      server_still : (server_accepts now input).after.vars.setup ≡ now.vars.setup
      server_still = server_preserved.own ∙ sym stands.own

    server_anew : (nonce : List ℕ)
        → ServerAt setup (server_accepts now (server_inputs.restart nonce)).after []
    unfolding tags_by
    server_anew nonce =
        own_server setup nonce _ [] [] (server_calls.server_invariant_anew
        (servers.setup_with_nonce setup now.vars.setup.nonce) now nonce stands.own stands.objects)

  -- ---- every step

  -- what holds in every run: the dates, what stands of both ends, and that nothing else has begun
  -- where no end has begun a second conversation
  pub record InvariantSoFarOf (setup : Setup) (w : WorldNow) : Type 0 where
    pub dates : Dates w
    pub both : BothInvariantsOf peer_first server_first setup w
    pub first : length w.conversations.begun ≡ 2 → AreFirst setup w

  module _ (setup : Setup) (w after : WorldNow) (so : InvariantSoFarOf setup w) where
    -- the conversations go on
    goes : (more : List Entry) → All (IsOf (w.counts.events + 1)) more
        → after.counts.events ≡ w.counts.events + 1 → after.book ≡ w.book ++ more
        → after.conversations.begun ≡ w.conversations.begun → Dates after
        → after.parties.peer.vars.setup ≡ w.parties.peer.vars.setup
        → after.parties.server.vars.setup
        ≡ w.parties.server.vars.setup
        → PeerAt setup.peer after.parties.peer (present end.Peer w ++ more)
        → ServerAt setup.server after.parties.server (present end.Server w ++ more)
        → InvariantSoFarOf setup after
    goes more are counts book same dates peer_own server_own peer_at server_at = record {
      dates = dates;
      both = record {
        peer_invariant = subst (λ (l : List Entry). PeerAt setup.peer after.parties.peer l)
            (sym (present_more w after so.dates more are counts book same end.Peer)) peer_at;
        server_invariant = subst (λ (l : List Entry). ServerAt setup.server after.parties.server l)
            (sym (present_more w after so.dates more are counts book same end.Server)) server_at;
      };
      first = λ two. (let was = so.first (sym (ap length same) ∙ two) in record {
        peer_own = peer_own ∙ was.peer_own;
        server_own = server_own ∙ was.server_own;
        since = λ of. ap (since_of of) same ∙ was.since of;
      });
    }

    -- the parties stay, but for the pass-through
    stays : after.counts.events ≡ w.counts.events + 1 → after.book ≡ w.book
        → after.conversations.begun ≡ w.conversations.begun → Dates after
        → after.parties.peer ≡ w.parties.peer → after.parties.server ≡ w.parties.server
        → InvariantSoFarOf setup after
    stays counts book same dates peer server =
        goes [] (All-nil (IsOf (w.counts.events + 1))) counts
        (book ∙ sym (append-nil w.book)) same dates (ap (λ (now : PeerNow). now.vars.setup) peer)
        (ap (λ (now : ServerNow). now.vars.setup) server)
        (rw (append-nil (present end.Peer w), peer) so.both.peer_invariant)
        (rw (append-nil (present end.Server w), server) so.both.server_invariant)

    -- an end begins a new one
    initiates_so : (own : End) (nonce : List ℕ) (counts : after.counts.events ≡ w.counts.events + 1)
        (book : after.book ≡ w.book) (longer : after.conversations.begun
        ≡ w.conversations.begun ++ beginning (w.counts.events + 1) own nonce ∷ []) → Dates after
        → PeerAt setup.peer after.parties.peer
        (if same_end own end.Peer then [] else present end.Peer w)
        → ServerAt setup.server after.parties.server
        (if same_end own end.Server then [] else present end.Server w)
        → InvariantSoFarOf setup after
    initiates_so own nonce counts book longer dates peer_at server_at = record {
      dates = dates;
      both = record {
        peer_invariant = subst (λ (l : List Entry). PeerAt setup.peer after.parties.peer l)
            (sym (present_anew w after so.dates own nonce counts book longer end.Peer)) peer_at;
        server_invariant = subst (λ (l : List Entry). ServerAt setup.server after.parties.server l)
            (sym (present_anew w after so.dates own nonce counts book longer end.Server)) server_at;
      };
      first = λ two. absurd (omega
          (arith, two, so.dates.many, one_longer w after so.dates own nonce counts book longer));
    }

  steps_invariant_of : (setup : Setup) (w : WorldNow) (out : WorldOutcome) → Steps w out
      → InvariantSoFarOf setup w → Dates out.after → InvariantSoFarOf setup out.after
  steps_invariant_of setup w _
      (skips skip) so dates = stays setup w _ so refl refl refl dates refl refl
  steps_invariant_of setup w _ (calls (to_peer input) later same) so dates =
      let goes_on = peer_same input same in
      goes setup w _ so _ (booked_of_event (w.counts.events + 1) end.Peer
      (peer_accepts w.parties.peer input).step.tags) refl refl
      (still_started w.conversations (call_octets (to_peer input))) dates
      (peer_still setup.peer w.parties.peer _ so.both.peer_invariant (w.counts.events + 1)
      input goes_on) refl (peer_proceeds setup.peer w.parties.peer _ so.both.peer_invariant
      (w.counts.events + 1) input goes_on) (server_rests setup.server w.parties.server _
      so.both.server_invariant (w.counts.events + 1) (peer_accepts w.parties.peer input).step.tags)
  steps_invariant_of setup w _ (calls (to_server input) later same) so dates =
      let goes_on = server_same input same in
      let started = λ (e : input ≡ start). later (ap to_server e) in
      goes setup w _ so _ (booked_of_event (w.counts.events + 1) end.Server
      (server_accepts w.parties.server input).step.tags) refl refl
      (still_started w.conversations (call_octets (to_server input))) dates
      refl (server_still setup.server w.parties.server _ so.both.server_invariant
      (w.counts.events + 1) input started goes_on) (peer_rests setup.peer w.parties.peer _
      so.both.peer_invariant (w.counts.events + 1)
      (server_accepts w.parties.server input).step.tags)
      (server_proceeds setup.server w.parties.server _ so.both.server_invariant
      (w.counts.events + 1)
      input started goes_on)
  -- the pass-through changes neither end, and books nothing
  steps_invariant_of setup w _ (calls (to_pass input) later same) so dates =
      stays setup w _ so refl (append-nil w.book)
      (still_started w.conversations (call_octets (to_pass input))) dates refl refl
  steps_invariant_of setup w _ (peer_restarts one left next) so dates =
      initiates_so setup w _ so end.Peer one.nonce refl
      (untagged w.book (w.counts.events + 1) end.Peer _
      (peer_calls.peer_tags_none w.parties.peer one.nonce)) refl dates
      (peer_anew setup.peer w.parties.peer _ so.both.peer_invariant (w.counts.events + 1) one.nonce)
      so.both.server_invariant
  steps_invariant_of setup w _ (server_restarts one left next) so dates =
      initiates_so setup w _ so end.Server one.nonce refl
      (untagged w.book (w.counts.events + 1) end.Server _
      (server_calls.server_tags_none w.parties.server one.nonce)) refl dates
      so.both.peer_invariant (server_anew setup.server w.parties.server _ so.both.server_invariant
      (w.counts.events + 1) one.nonce)

  pub step_invariant_of : (setup : Setup) (w : WorldNow) (out : WorldOutcome) → Steps w out
      → InvariantSoFarOf setup w → InvariantSoFarOf setup out.after
  step_invariant_of setup w out steps so =
      steps_invariant_of setup w out steps so (books_date w out.after so.dates
      (steps_book w out steps))

  -- ---- every run

  -- the start makes no tag: the server starts, or the pass-through in its place
  start_in : (runs : Mode) (setup : Setup) → setup.mode ≡ runs
      → PeerHasOwn setup.peer.methods peer_first → ServerHasOwn setup.server.methods server_first
      → (let w = wide_world.initial_world setup peer_first server_first in InvariantSoFarOf setup
      (world_acted w 0 w.counts w.held
      w.conversations (act_of_call w.parties (start_call runs))).after)
  unfolding server_start tags_by
  start_in mode.Alone setup is peer_own server_own = record {
    dates = record {
      dated = All-nil (IsDated 0);
      begun = λ of. omega (arith, first_since of setup.peer.nonce setup.server.nonce);
      many = omega arith;
    };
    both = record {
      peer_invariant = peer_calls.initiates_with setup.peer peer_first peer_first
          (peer_objects.first_methods peer_own);
      server_invariant = server_calls.starts_with _ setup.server server_first server_first
          (server_objects.first_methods server_own) setup.first_id setup.max_retrans;
    };
    first = λ two. record {
      peer_own = refl;
      server_own = refl;
      since = λ of. first_since of setup.peer.nonce setup.server.nonce;
    };
  }
  start_in mode.Through setup is peer_own server_own = record {
    dates = record {
      dated = All-nil (IsDated 0);
      begun = λ of. omega (arith, first_since of setup.peer.nonce setup.server.nonce);
      many = omega arith;
    };
    both = record {
      peer_invariant = peer_calls.initiates_with setup.peer peer_first peer_first
          (peer_objects.first_methods peer_own);
      server_invariant = server_calls.initiates_with _ setup.server server_first server_first
          (server_objects.first_methods server_own) setup.first_id setup.max_retrans;
    };
    first = λ two. record {
      peer_own = refl;
      server_own = refl;
      since = λ of. first_since of setup.peer.nonce setup.server.nonce;
    };
  }

  pub start_invariant_of : (setup : Setup) → PeerHasOwn setup.peer.methods peer_first
      → ServerHasOwn setup.server.methods server_first
      → InvariantSoFarOf setup (world_start
      (wide_world.initial_world setup peer_first server_first)).after
  unfolding world_start
  start_invariant_of setup = start_in setup.mode setup refl

  pub every_run_of : (setup : Setup) (events : List Event)
      → PeerHasOwn setup.peer.methods peer_first → ServerHasOwn setup.server.methods server_first
      → InvariantSoFarOf setup (wide.run_of setup peer_first server_first events)
  every_run_of setup events peer_own server_own =
      run_preserves (InvariantSoFarOf setup) (step_invariant_of setup)
      (world_start (wide_world.initial_world setup peer_first server_first)).after events
      (start_invariant_of setup peer_own server_own)

  -- ---- where no end has begun a second conversation

  -- both ends stand with the settings that they began with, and with all the tags of the book
  pub record BothInvariantFirstOf (setup : Setup) (parties : Parties)
      (book : List Entry) : Type 0 where
    pub peer_invariant : PeerInvariantOf peer_first setup.peer parties.peer
        (tags_by end.Peer Accepted book)
        (tags_by end.Peer Made book)
    pub server_invariant : ServerInvariantOf server_first setup.server parties.server
        (tags_by end.Server Accepted book) (tags_by end.Server Made book)

  pub invariant_first_of : (setup : Setup) (w : WorldNow) → InvariantSoFarOf setup w
      → length w.conversations.begun ≡ 2 → BothInvariantFirstOf setup w.parties w.book
  invariant_first_of setup w so two =
      let first = so.first two in
      record {
        peer_invariant = subst
            (λ (s : PeerSetup). PeerInvariantOf peer_first
            (peers.setup_with_nonce setup.peer s.nonce)
            w.parties.peer (tags_by end.Peer Accepted w.book) (tags_by end.Peer Made w.book))
            first.peer_own
            (subst (λ (l : List Entry). PeerAt setup.peer w.parties.peer l)
            (whole_book w end.Peer so.dates (first.since end.Peer)) so.both.peer_invariant);
        server_invariant = subst
            (λ (s : ServerSetup). ServerInvariantOf server_first
            (servers.setup_with_nonce setup.server s.nonce)
            w.parties.server (tags_by end.Server Accepted w.book) (tags_by end.Server Made w.book))
            first.server_own
            (subst (λ (l : List Entry). ServerAt setup.server w.parties.server l)
            (whole_book w end.Server so.dates (first.since end.Server)) so.both.server_invariant);
      }

pub any_end_invariants : AnyEndInvariants
any_end_invariants setup peer server events peer_own server_own =
    (every_run_of peer server setup events peer_own server_own).both

-- ---- of ends whose objects are of the two methods

abbrev pub InvariantSoFar : Setup → WorldNow → Type 0
InvariantSoFar setup = InvariantSoFarOf (peer_methods.both_of setup.peer.methods)
    (server_methods.both_of setup.server.methods) setup

abbrev pub BothInvariantFirst : Setup → Parties → List Entry → Type 0
BothInvariantFirst setup = BothInvariantFirstOf (peer_methods.both_of setup.peer.methods)
    (server_methods.both_of setup.server.methods) setup

pub step_invariant : (setup : Setup) (w : WorldNow) (out : WorldOutcome) → Steps w out
    → InvariantSoFar setup w → InvariantSoFar setup out.after
step_invariant setup = step_invariant_of (peer_methods.both_of setup.peer.methods)
    (server_methods.both_of setup.server.methods) setup

pub start_invariant : (setup : Setup)
    → InvariantSoFar setup (world_start (initial_world setup)).after
start_invariant setup = start_invariant_of (peer_methods.both_of setup.peer.methods)
    (server_methods.both_of setup.server.methods) setup
    (peer_objects.both_own setup.peer.methods) (server_objects.both_own setup.server.methods)

pub every_run_so_far : (setup : Setup) (events : List Event)
    → InvariantSoFar setup (run_of setup events)
every_run_so_far setup events = every_run_of (peer_methods.both_of setup.peer.methods)
    (server_methods.both_of setup.server.methods) setup events
    (peer_objects.both_own setup.peer.methods) (server_objects.both_own setup.server.methods)

pub every_run_invariant : EndInvariants
every_run_invariant setup events = (every_run_so_far setup events).both

pub invariant_first : (setup : Setup) (w : WorldNow) → InvariantSoFar setup w
    → length w.conversations.begun ≡ 2 → BothInvariantFirst setup w.parties w.book
invariant_first setup = invariant_first_of (peer_methods.both_of setup.peer.methods)
    (server_methods.both_of setup.server.methods) setup
