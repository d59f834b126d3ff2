-- In every run the conversations of both ends are as told: the present one stands as its views
-- tell, and each past one as its views told when it ended.
use Rattle.std.proofs.Common.{◌≡◌, ℕ, ◌+◌, true, false, List, [], ◌∷◌, ◌++◌, length, map, Option}
use Rattle.std.proofs.Common.{Some, None, refl, sym, ap, subst, arith, append-nil}
use Rattle.std.specs.Prelude.{All}
use Rattle.std.specs.Str.{bytes_eq}
use Rattle.std.proofs.lemmas.Bool.{cond_both, or_left, or_right}
use Rattle.std.proofs.lemmas.List.Elements.{All-head, All-tail}
use Rattle.std.proofs.lemmas.Slice.Eq.{bytes_eq-Decides}
use Rattle.login_setup.specs.declared.event.Event.{Event}
use Rattle.login_setup.specs.declared.setup.Mode.{Mode}
use Rattle.login_setup.specs.declared.setup.Mode.TheVariants as mode
use Rattle.login_setup.specs.declared.setup.PeerSetup.{PeerSetup}
use Rattle.login_setup.specs.Setup.{ServerSetup}
use Rattle.login_setup.specs.declared.setup.Setup.{Setup}
use Rattle.eap_packet.specs.declared.state.State.TheVariants as state
use Rattle.eap_method.specs.Steps.{enters}
use Rattle.eap_method.specs.Tags.{no_tags}
use Rattle.eap_method.specs.declared.tags.TagRecord.{TagRecord}
use Rattle.peer_machine.specs.Inputs as peer_inputs
use Rattle.peer_machine.specs.Inputs.{PeerInput, peer_accepts}
use Rattle.peer_machine.specs.PeerTable as peers
use Rattle.peer_machine.specs.PeerTable.{PeerNow, peer_restart}
use Rattle.server_machine.specs.Inputs as server_inputs
use Rattle.server_machine.specs.Inputs.{ServerInput, server_accepts}
use Rattle.server_machine.specs.ServerTable as servers
use Rattle.server_machine.specs.ServerTable.{ServerNow, ServerAnswer, answer, is_backend}
use Rattle.server_machine.specs.ServerTable.{made_again, server_restart, server_start}
use Rattle.world_laws.specs.Whole.{IsWhole}
use Rattle.eap_world.specs.Conversations.{Conversations, begins, beginning, front, hears}
use Rattle.eap_world.specs.Conversations.{since_from, since_of, waiting}
use Rattle.method_laws.specs.ByMethod.{peer_foreign, server_foreign}
use Rattle.method_laws.specs.Both.{PeerHasBoth}
use Rattle.world_laws.specs.PeerInvariant.{PeerInvariant}
use Rattle.method_laws.specs.Records.{tags_by}
use Rattle.method_laws.specs.Both.{ServerHasBoth}
use Rattle.world_laws.specs.ServerInvariant.{ServerInvariant}
use Rattle.eap_world.specs.World.{Acted, WorldNow, WorldOutcome, booked_by, act_of_call}
use Rattle.eap_world.specs.World.{delivered_in_call, pass_octets, peer_octets, server_octets}
use Rattle.eap_world.specs.World.{start_call, to_pass, to_peer, to_server, world_start}
use Rattle.tag_book.specs.declared.book.End.TheVariants as end
use Rattle.tag_book.specs.declared.book.Use.TheVariants.{Accepted, Made}
use Rattle.eap_world.specs.declared.conversations.Waiting.{Waiting}
use Rattle.eap_world.specs.declared.world.HasReported.{HasReported}
use Rattle.world_laws.proofs.Acting.{Steps, calls, counted_acted, peer_restarts, peer_same}
use Rattle.world_laws.proofs.Acting.{run_preserves, server_restarts, server_same, skips}
use Rattle.world_laws.proofs.Dates.{since_started, untagged}
use Rattle.method_laws.proofs.Receiving.{Receives, as_before, receives_now}
use Rattle.world_laws.proofs.NoncesLeft.{IsMarked, fewer_marked, first, marked_after, marked_now}
use Rattle.world_laws.proofs.NoncesLeft.{new_is, none_marked}
use Rattle.world_laws.proofs.PastConversations.{Conversed, Moment, Stays, starts_another, goes_on}
use Rattle.world_laws.proofs.PastConversations.{no_past, other_starts, stays_on}
use Rattle.world_laws.proofs.PeerReceives.{peer_received}
use Rattle.world_laws.proofs.PeerPreserves.{peer_initiates, peer_preserves, peer_invariant_anew}
use Rattle.world_laws.proofs.PeerPreserves.{peer_tags_none}
use Rattle.world_laws.proofs.ServerAccepts.{server_received}
use Rattle.world_laws.proofs.ServerPreserves.{server_initiates, server_preserves}
use Rattle.world_laws.proofs.ServerPreserves.{server_invariant_anew, server_tags_none}
use Rattle.world_laws.proofs.ServerPreserves.{started_invariant}
use Rattle.world_laws.proofs.OccursIn.{occurs_if}
use Rattle.method_laws.proofs.TagsOfEnds.{grows, rests}
use Rattle.method_laws.specs.TagOwners.{PeerTagOwner, ServerTagOwner}
use Rattle.world_laws.specs.Runs.{initial_world, run_of}
use Rattle.world_laws.proofs.EndTags.{peer_tags, server_tags}

-- ---- what a delivery does to the nonces that are left

received_started : (all : Conversations) (came : Option (List ℕ))
    → (delivered_in_call all came).begun ≡ all.begun
received_started all None = refl
received_started all (Some octets) = refl

pub received_fresh : (all : Conversations) (came : Option (List ℕ))
    → (delivered_in_call all came).fresh ≡ all.fresh
received_fresh all None = refl
received_fresh all (Some octets) = refl

peer_marked : (all : Conversations) (came held : Option (List ℕ)) → IsMarked all.peer_left held
    → IsMarked (delivered_in_call all came).peer_left held
peer_marked all None held m = m
peer_marked all (Some octets) held m = marked_after octets all.peer_left held m

server_marked : (all : Conversations) (came held : Option (List ℕ)) → IsMarked all.server_left held
    → IsMarked (delivered_in_call all came).server_left held
server_marked all None held m = m
server_marked all (Some octets) held m = marked_after octets all.server_left held m

-- what an end holds after a call is marked
peer_receives : (all : Conversations) (came before after : Option (List ℕ))
    → Receives came before after → IsMarked all.server_left before
    → IsMarked (delivered_in_call all came).server_left after
peer_receives all came before after (as_before same) m =
    server_marked all came after (subst (IsMarked all.server_left) (sym same) m)
peer_receives all came before after (receives_now octets x is_came is_after stands) m =
    subst (λ (o : Option (List ℕ)). IsMarked (delivered_in_call all o).server_left after)
    (sym is_came) (marked_now octets x all.server_left after is_after (occurs_if x octets stands))

server_receives : (all : Conversations) (came before after : Option (List ℕ))
    → Receives came before after → IsMarked all.peer_left before
    → IsMarked (delivered_in_call all came).peer_left after
server_receives all came before after (as_before same) m =
    peer_marked all came after (subst (IsMarked all.peer_left) (sym same) m)
server_receives all came before after (receives_now octets x is_came is_after stands) m =
    subst (λ (o : Option (List ℕ)). IsMarked (delivered_in_call all o).peer_left after)
    (sym is_came) (marked_now octets x all.peer_left after is_after (occurs_if x octets stands))

-- nonces of 32 octets
abbrev pub LeftSized : List Waiting → Type 0
LeftSized [] = Unit {0}
LeftSized (one ∷ rest) = (length one.nonce ≡ 32) × LeftSized rest

receives_sized : (octets : List ℕ) (left : List Waiting) → LeftSized left
    → LeftSized (map (hears octets) left)
receives_sized octets [] s = tt
receives_sized octets (one ∷ rest) s = (s.0, receives_sized octets rest s.1)

pub record BothSized (all : Conversations) : Type 0 where
  pub peer : LeftSized all.peer_left
  pub server : LeftSized all.server_left

received_sized : (all : Conversations) (came : Option (List ℕ)) → BothSized all
    → BothSized (delivered_in_call all came)
received_sized all None s = s
received_sized all (Some octets) s = record {
  peer = receives_sized octets all.peer_left s.peer;
  server = receives_sized octets all.server_left s.server;
}

-- ---- the moments

abbrev pub peer_moment : Conversations → ℕ → List ℕ → List ℕ → Moment
peer_moment all events peer_nonce server_nonce = record {
  of = end.Peer;
  since = since_of end.Peer all.begun;
  nonce = peer_nonce;
  other_since = since_of end.Server all.begun;
  other_nonce = server_nonce;
  other_left = all.server_left;
  begun = all.begun;
  fresh = all.fresh;
  events = events;
}

abbrev pub server_moment : Conversations → ℕ → List ℕ → List ℕ → Moment
server_moment all events peer_nonce server_nonce = record {
  of = end.Server;
  since = since_of end.Server all.begun;
  nonce = server_nonce;
  other_since = since_of end.Peer all.begun;
  other_nonce = peer_nonce;
  other_left = all.peer_left;
  begun = all.begun;
  fresh = all.fresh;
  events = events;
}

-- an end stands in its present conversation, and holds that nonce of the other
pub record PeerIs (setup : PeerSetup) (nonce : List ℕ) (now : PeerNow) (held : Option (List ℕ))
    (accepted made : List TagRecord) : Type 0 where
  pub stands : PeerInvariant (peers.setup_with_nonce setup nonce) now accepted made
  pub held_is : peer_foreign now.vars.selected now.views ≡ held

pub record ServerIs (setup : ServerSetup) (nonce : List ℕ) (now : ServerNow)
    (held : Option (List ℕ)) (accepted made : List TagRecord) : Type 0 where
  pub stands : ServerInvariant (servers.setup_with_nonce setup nonce) now accepted made
  pub held_is : server_foreign now.vars.current now.views ≡ held

peer_result : (setup : PeerSetup) (nonce : List ℕ) (now : PeerNow) (held : Option (List ℕ))
    (accepted made : List TagRecord)
    → PeerIs setup nonce now held accepted made → PeerTagOwner setup nonce held accepted made
peer_result setup nonce now held accepted made is =
    record {
      selected = now.vars.selected;
      views = now.views;
      tags = peer_tags is.stands;
      held_is = is.held_is;
    }

server_result : (setup : ServerSetup) (nonce : List ℕ) (now : ServerNow) (held : Option (List ℕ))
    (accepted made : List TagRecord)
    → ServerIs setup nonce now held accepted made → ServerTagOwner setup nonce held accepted made
server_result setup nonce now held accepted made is =
    record {
      current = now.vars.current;
      views = now.views;
      tags = server_tags is.stands;
      held_is = is.held_is;
    }

pub record BothConverse (setup : Setup) (w : WorldNow) : Type 0 where
  pub peer_nonce : List ℕ
  pub server_nonce : List ℕ
  pub peer : Conversed (PeerTagOwner setup.peer) (peer_moment w.conversations w.counts.events
      peer_nonce server_nonce) (PeerIs setup.peer peer_nonce w.parties.peer)
      (tags_by end.Peer Accepted w.book) (tags_by end.Peer Made w.book)
  pub server : Conversed (ServerTagOwner setup.server)
      (server_moment w.conversations w.counts.events peer_nonce server_nonce)
      (ServerIs setup.server server_nonce w.parties.server)
      (tags_by end.Server Accepted w.book) (tags_by end.Server Made w.book)
  pub sized : BothSized w.conversations

-- a server that begins anew holds no nonce of the peer
record SatisfiesNone (out : ServerAnswer) : Type 0 where
  pub none : server_foreign out.after.vars.current out.after.views ≡ None

module _ (setup : Setup) where
  -- ---- an event in which no end begins anew

  -- the moments after it, which hear what came
  peer_stays : (all : Conversations) (events : ℕ) (came : Option (List ℕ)) (pn sn : List ℕ)
      → Stays (peer_moment all events pn sn)
      (peer_moment (delivered_in_call all came) (events + 1) pn sn)
  peer_stays all events came pn sn = record {
    of = refl;
    since = ap (since_of end.Peer) (received_started all came);
    nonce = refl;
    other_since = ap (since_of end.Server) (received_started all came);
    other_nonce = refl;
    begun = received_started all came;
    fresh = received_fresh all came;
    events = omega arith;
    left = server_marked all came;
  }

  server_stays : (all : Conversations) (events : ℕ) (came : Option (List ℕ)) (pn sn : List ℕ)
      → Stays (server_moment all events pn sn)
      (server_moment (delivered_in_call all came) (events + 1) pn sn)
  server_stays all events came pn sn = record {
    of = refl;
    since = ap (since_of end.Server) (received_started all came);
    nonce = refl;
    other_since = ap (since_of end.Peer) (received_started all came);
    other_nonce = refl;
    begun = received_started all came;
    fresh = received_fresh all came;
    events = omega arith;
    left = peer_marked all came;
  }

  peer_called : (w : WorldNow) (held : HasReported) (input : PeerInput)
      → ((nonce : List ℕ) → input ≡ peer_inputs.restart nonce → ⊥) → BothConverse setup w
      → BothConverse setup (counted_acted w held (delivered_in_call w.conversations
      (peer_octets input)) (act_of_call w.parties (to_peer input))).after
  peer_called w held input no_restart h =
      let own = peers.setup_with_nonce setup.peer h.peer_nonce in
      let now = w.parties.peer in
      let out = peer_accepts now input in
      let after = out.after in
      let stands : PeerInvariant own after (h.peer.accepted ++ out.step.tags.accepted)
      (h.peer.made ++ out.step.tags.made) =
      peer_preserves own now h.peer.accepted h.peer.made input no_restart h.peer.now.stands in
      let heard =
      peer_received own now h.peer.accepted h.peer.made h.peer.now.stands input no_restart in
      let is : PeerIs setup.peer h.peer_nonce after (peer_foreign after.vars.selected after.views)
      (h.peer.accepted ++ out.step.tags.accepted) (h.peer.made ++ out.step.tags.made) =
      record { stands = stands; held_is = refl } in
      let more = grows end.Peer
      (λ (xs ys : List TagRecord). (xs ≡ tags_by end.Peer Accepted w.book ++ out.step.tags.accepted)
      × (ys ≡ tags_by end.Peer Made w.book ++ out.step.tags.made))
      w.book (w.counts.events + 1) out.step.tags (refl, refl) in
      let same = rests end.Server
      (λ (xs ys : List TagRecord). (xs ≡ tags_by end.Server Accepted w.book)
      × (ys ≡ tags_by end.Server Made w.book))
      w.book (w.counts.events + 1) out.step.tags (refl, refl) in
      record {
        peer_nonce = h.peer_nonce;
        server_nonce = h.server_nonce;
        peer = goes_on (PeerTagOwner setup.peer) _ _ _ _ (peer_stays w.conversations w.counts.events
            (peer_octets input) h.peer_nonce h.server_nonce) _ _ _ _ h.peer
            (peer_foreign after.vars.selected after.views) out.step.tags.accepted out.step.tags.made
            is (peer_result setup.peer h.peer_nonce after _ _ _ is)
            (peer_receives w.conversations (peer_octets input) _ _ heard
            (subst (IsMarked w.conversations.server_left) (sym h.peer.now.held_is) h.peer.marked))
            more.0 more.1;
        server = stays_on (ServerTagOwner setup.server) _ _ _ _ (server_stays w.conversations
            w.counts.events (peer_octets input) h.peer_nonce h.server_nonce)
            (λ o xs ys is. is) _ _ _ _ h.server same.0 same.1;
        sized = received_sized w.conversations (peer_octets input) h.sized;
      }

  server_called : (w : WorldNow) (held : HasReported) (input : ServerInput)
      → (input ≡ server_inputs.start → ⊥)
      → ((nonce : List ℕ) → input ≡ server_inputs.restart nonce → ⊥) → BothConverse setup w
      → BothConverse setup (counted_acted w held (delivered_in_call w.conversations
      (server_octets input)) (act_of_call w.parties (to_server input))).after
  server_called w held input later no_restart h =
      let own = servers.setup_with_nonce setup.server h.server_nonce in
      let now = w.parties.server in
      let out = server_accepts now input in
      let after = out.after in
      let stands : ServerInvariant own after (h.server.accepted ++ out.step.tags.accepted)
      (h.server.made ++ out.step.tags.made) =
      server_preserves own now h.server.accepted h.server.made input later no_restart
      h.server.now.stands in
      let heard = server_received own now h.server.accepted h.server.made h.server.now.stands input
      later no_restart in
      let is : ServerIs setup.server h.server_nonce after
      (server_foreign after.vars.current after.views) (h.server.accepted ++ out.step.tags.accepted)
      (h.server.made ++ out.step.tags.made) =
      record { stands = stands; held_is = refl } in
      let more = grows end.Server
      (λ (xs ys : List TagRecord).
      (xs ≡ tags_by end.Server Accepted w.book ++ out.step.tags.accepted)
      × (ys ≡ tags_by end.Server Made w.book ++ out.step.tags.made))
      w.book (w.counts.events + 1) out.step.tags (refl, refl) in
      let same = rests end.Peer
      (λ (xs ys : List TagRecord). (xs ≡ tags_by end.Peer Accepted w.book)
      × (ys ≡ tags_by end.Peer Made w.book))
      w.book (w.counts.events + 1) out.step.tags (refl, refl) in
      record {
        peer_nonce = h.peer_nonce;
        server_nonce = h.server_nonce;
        peer = stays_on (PeerTagOwner setup.peer) _ _ _ _ (peer_stays w.conversations
            w.counts.events (server_octets input) h.peer_nonce h.server_nonce)
            (λ o xs ys is. is) _ _ _ _ h.peer same.0 same.1;
        server = goes_on (ServerTagOwner setup.server) _ _ _ _
            (server_stays w.conversations w.counts.events (server_octets input)
            h.peer_nonce h.server_nonce) _ _ _ _ h.server
            (server_foreign after.vars.current after.views) out.step.tags.accepted
            out.step.tags.made is (server_result setup.server h.server_nonce after _ _ _ is)
            (server_receives w.conversations (server_octets input) _ _ heard
            (subst (IsMarked w.conversations.peer_left) (sym h.server.now.held_is) h.server.marked))
            more.0 more.1;
        sized = received_sized w.conversations (server_octets input) h.sized;
      }

  -- an event that changes neither end
  quiet : (w : WorldNow) (came : Option (List ℕ)) → BothConverse setup w → (v : WorldNow)
      → v.parties.peer ≡ w.parties.peer
      → v.parties.server ≡ w.parties.server → v.book ≡ w.book
      → v.counts.events ≡ w.counts.events + 1
      → v.conversations ≡ delivered_in_call w.conversations came → BothConverse setup v
  quiet w came h v peer server book events conversations = record {
    peer_nonce = h.peer_nonce;
    server_nonce = h.server_nonce;
    peer = rw (peer, book, events, conversations)
        (stays_on (PeerTagOwner setup.peer) _ _ (PeerIs setup.peer h.peer_nonce w.parties.peer)
        (PeerIs setup.peer h.peer_nonce w.parties.peer) (peer_stays w.conversations w.counts.events
        came h.peer_nonce h.server_nonce) (λ o xs ys is. is) _ _ _ _ h.peer refl refl);
    server = rw (server, book, events, conversations)
        (stays_on (ServerTagOwner setup.server) _ _ (ServerIs setup.server h.server_nonce
        w.parties.server) (ServerIs setup.server h.server_nonce w.parties.server)
        (server_stays w.conversations w.counts.events came h.peer_nonce h.server_nonce)
        (λ o xs ys is. is) _ _ _ _ h.server refl refl);
    sized = rw conversations (received_sized w.conversations came h.sized);
  }

  -- ---- an end begins anew

  peer_is_anew : (old nonce : List ℕ) (now : PeerNow) → now.vars.setup
      ≡ peers.setup_with_nonce setup.peer old → PeerHasBoth setup.peer.methods now.views
      → PeerIs setup.peer nonce (peer_accepts now (peer_inputs.restart nonce)).after None [] []
  unfolding peer_restart
  peer_is_anew old nonce now own both = record {
    stands = peer_invariant_anew (peers.setup_with_nonce setup.peer old) now nonce own both;
    held_is = refl;
  }

  peer_anew : (w : WorldNow) (one : Waiting) (left : List Waiting)
      → w.conversations.peer_left ≡ one ∷ left → BothConverse setup w
      → (v : WorldNow) → v.parties.peer ≡ (peer_accepts w.parties.peer
      (peer_inputs.restart one.nonce)).after → v.parties.server ≡ w.parties.server → v.book ≡ w.book
      → v.counts.events ≡ w.counts.events + 1
      → v.conversations ≡ begins (w.counts.events + 1) end.Peer one (record w.conversations {
        peer_left = left;
      }) → BothConverse setup v
  peer_anew w one left is_left h v peer server book events conversations =
      let all = w.conversations in
      let b = beginning (w.counts.events + 1) end.Peer one.nonce in
      let sized : LeftSized (one ∷ left) = subst LeftSized is_left h.sized.peer in
      let after = (peer_accepts w.parties.peer (peer_inputs.restart one.nonce)).after in
      let is = peer_is_anew h.peer_nonce one.nonce w.parties.peer h.peer.now.stands.own
      h.peer.now.stands.objects in
      record {
        peer_nonce = one.nonce;
        server_nonce = h.server_nonce;
        peer = rw (peer, book, events, conversations)
            (starts_another (PeerTagOwner setup.peer)
            (peer_moment all w.counts.events h.peer_nonce h.server_nonce)
            (peer_moment (begins (w.counts.events + 1) end.Peer one
            (record all { peer_left = left })) (w.counts.events + 1) one.nonce h.server_nonce)
            (PeerIs setup.peer h.peer_nonce w.parties.peer) (PeerIs setup.peer one.nonce after) b
            (record {
              of = refl;
              own = refl;
              since = since_started 0 end.Peer all.begun b;
              nonce = refl;
              other_since = since_started 0 end.Server all.begun b;
              other_nonce = refl;
              begun = refl;
              was_fresh = λ fresh. (new_is all.fresh all.begun one fresh).was;
              unused = λ fresh. (new_is all.fresh all.begun one fresh).unused;
              events = refl;
              left = refl;
            })
            sized.0 h.server.since _ _ h.peer is
            (peer_result setup.peer one.nonce after None [] [] is));
        server = rw (server, book, events, conversations)
            (other_starts (ServerTagOwner setup.server)
            (server_moment all w.counts.events h.peer_nonce h.server_nonce)
            (server_moment (begins (w.counts.events + 1) end.Peer one
            (record all { peer_left = left })) (w.counts.events + 1) one.nonce h.server_nonce)
            (ServerIs setup.server h.server_nonce w.parties.server) b
            (record {
              of = refl;
              since = since_started 0 end.Server all.begun b;
              nonce = refl;
              other_nonce = refl;
              begun = refl;
              was_fresh = λ fresh. (new_is all.fresh all.begun one fresh).was;
              unheard = λ fresh o marked holds.
                  (new_is all.fresh all.begun one fresh).unheard
                  ((subst (λ (l : List Waiting). IsMarked l o) is_left marked).each
                  (front one.nonce) one holds (first left) refl);
              events = refl;
              left = λ o marked. fewer_marked one left o
                  (subst (λ (l : List Waiting). IsMarked l o) is_left marked);
            })
            _ _ h.server);
        sized = rw conversations (record { peer = sized.1; server = h.sized.server });
      }

  satisfies_none : (now : ServerNow) (nonce : List ℕ)
      → SatisfiesNone (server_accepts now (server_inputs.restart nonce))
  unfolding server_restart server_start
  satisfies_none now nonce =
      cond_both (is_backend now.vars) (answer (enters (state.Initialize ∷ []) no_tags)
      (made_again now nonce)) (server_start (made_again now nonce)) SatisfiesNone
      (λ _. record { none = refl }) (λ _. record { none = refl })

  server_is_anew : (old nonce : List ℕ) (now : ServerNow) → now.vars.setup
      ≡ servers.setup_with_nonce setup.server old → ServerHasBoth setup.server.methods now.views
      → ServerIs setup.server nonce
      (server_accepts now (server_inputs.restart nonce)).after None [] []
  server_is_anew old nonce now own both =
      record {
        stands =
            server_invariant_anew (servers.setup_with_nonce setup.server old) now nonce own both;
        held_is = (satisfies_none now nonce).none;
      }

  server_anew : (w : WorldNow) (one : Waiting) (left : List Waiting)
      → w.conversations.server_left ≡ one ∷ left → BothConverse setup w
      → (v : WorldNow)
      → v.parties.server ≡ (server_accepts w.parties.server (server_inputs.restart one.nonce)).after
      → v.parties.peer ≡ w.parties.peer → v.book ≡ w.book
      → v.counts.events ≡ w.counts.events + 1
      → v.conversations ≡ begins (w.counts.events + 1) end.Server one (record w.conversations {
        server_left = left;
      }) → BothConverse setup v
  server_anew w one left is_left h v server peer book events conversations =
      let all = w.conversations in
      let b = beginning (w.counts.events + 1) end.Server one.nonce in
      let sized : LeftSized (one ∷ left) = subst LeftSized is_left h.sized.server in
      let after = (server_accepts w.parties.server (server_inputs.restart one.nonce)).after in
      let is = server_is_anew h.server_nonce one.nonce w.parties.server h.server.now.stands.own
      h.server.now.stands.objects in
      record {
        peer_nonce = h.peer_nonce;
        server_nonce = one.nonce;
        server = rw (server, book, events, conversations)
            (starts_another (ServerTagOwner setup.server)
            (server_moment all w.counts.events h.peer_nonce h.server_nonce)
            (server_moment (begins (w.counts.events + 1) end.Server one
            (record all { server_left = left })) (w.counts.events + 1) h.peer_nonce one.nonce)
            (ServerIs setup.server h.server_nonce w.parties.server)
            (ServerIs setup.server one.nonce after) b (record {
              of = refl;
              own = refl;
              since = since_started 0 end.Server all.begun b;
              nonce = refl;
              other_since = since_started 0 end.Peer all.begun b;
              other_nonce = refl;
              begun = refl;
              was_fresh = λ fresh. (new_is all.fresh all.begun one fresh).was;
              unused = λ fresh. (new_is all.fresh all.begun one fresh).unused;
              events = refl;
              left = refl;
            })
            sized.0 h.peer.since _ _ h.server is
            (server_result setup.server one.nonce after None [] [] is));
        peer = rw (peer, book, events, conversations)
            (other_starts (PeerTagOwner setup.peer)
            (peer_moment all w.counts.events h.peer_nonce h.server_nonce)
            (peer_moment (begins (w.counts.events + 1) end.Server one
            (record all { server_left = left })) (w.counts.events + 1) h.peer_nonce one.nonce)
            (PeerIs setup.peer h.peer_nonce w.parties.peer) b
            (record {
              of = refl;
              since = since_started 0 end.Peer all.begun b;
              nonce = refl;
              other_nonce = refl;
              begun = refl;
              was_fresh = λ fresh. (new_is all.fresh all.begun one fresh).was;
              unheard = λ fresh o marked holds.
                  (new_is all.fresh all.begun one fresh).unheard
                  ((subst (λ (l : List Waiting). IsMarked l o) is_left marked).each
                  (front one.nonce) one holds (first left) refl);
              events = refl;
              left = λ o marked. fewer_marked one left o
                  (subst (λ (l : List Waiting). IsMarked l o) is_left marked);
            })
            _ _ h.peer);
        sized = rw conversations (record { peer = h.sized.peer; server = sized.1 });
      }

  -- ---- every event

  pub step_converses : (w : WorldNow) (out : WorldOutcome) → Steps w out → BothConverse setup w
      → BothConverse setup out.after
  step_converses w _ (skips skip) h = quiet w None h _ refl refl refl refl refl
  step_converses w _ (calls (to_peer input) later same) h =
      peer_called w w.held input (peer_same input same) h
  step_converses w _ (calls (to_server input) later same) h =
      server_called w w.held input (λ e. later (ap to_server e)) (server_same input same) h
  -- the pass-through changes neither end, and books nothing
  step_converses w _ (calls (to_pass input) later same) h =
      quiet w (pass_octets input) h _ refl refl (append-nil w.book) refl refl
  step_converses w _ (peer_restarts one left next) h =
      peer_anew w one left next h _ refl refl (untagged w.book (w.counts.events + 1) end.Peer _
      (peer_tags_none w.parties.peer one.nonce)) refl refl
  step_converses w _ (server_restarts one left next) h =
      server_anew w one left next h _ refl refl (untagged w.book (w.counts.events + 1) end.Server _
      (server_tags_none w.parties.server one.nonce)) refl refl

-- ---- the start

abbrev IsSized : List ℕ → Type 0
IsSized nonce = length nonce ≡ 32

all_sized : (later : List (List ℕ)) → All IsSized later → LeftSized (map waiting later)
all_sized [] sizes = tt
all_sized (nonce ∷ rest) sizes =
    (All-head IsSized nonce rest sizes, all_sized rest (All-tail IsSized nonce rest sizes))

pub record StartIs (setup : Setup) (out : Acted) : Type 0 where
  pub peer : PeerIs setup.peer setup.peer.nonce out.after.peer None [] []
  pub server : ServerIs setup.server setup.server.nonce out.after.server None [] []
  pub book : booked_by 0 out.action ≡ []

pub starts_so : (runs : Mode) (setup : Setup)
    → (let w = initial_world setup in StartIs setup (act_of_call w.parties (start_call runs)))
unfolding server_start
starts_so mode.Alone setup = record {
  peer = record { stands = peer_initiates setup.peer; held_is = refl };
  server = record {
    stands = started_invariant _ setup.server setup.first_id setup.max_retrans;
    held_is = refl;
  };
  book = refl;
}
starts_so mode.Through setup = record {
  peer = record { stands = peer_initiates setup.peer; held_is = refl };
  server = record {
    stands = server_initiates _ setup.server setup.first_id setup.max_retrans;
    held_is = refl;
  };
  book = refl;
}

used_itself : (nonce : List ℕ) → bytes_eq (front nonce) (front nonce) ≡ true
used_itself nonce = (bytes_eq-Decides (front nonce) (front nonce)).1 refl

started_itself : (nonce : List ℕ) → bytes_eq nonce nonce ≡ true
started_itself nonce = (bytes_eq-Decides nonce nonce).1 refl

pub start_converses : (setup : Setup) → IsWhole setup
    → BothConverse setup (world_start (initial_world setup)).after
unfolding world_start since_from tags_by
start_converses setup whole =
    let out = act_of_call (initial_world setup).parties (start_call setup.mode) in
    let initiates_so = starts_so setup.mode setup in
    record {
      peer_nonce = setup.peer.nonce;
      server_nonce = setup.server.nonce;
      peer = record {
        held = None;
        accepted = [];
        made = [];
        past_accepted = [];
        past_created = [];
        now = initiates_so.peer;
        told = peer_result setup.peer setup.peer.nonce out.after.peer None [] [] initiates_so.peer;
        pasts = no_past;
        accepted_is = ap (tags_by end.Peer Accepted) initiates_so.book;
        made_is = ap (tags_by end.Peer Made) initiates_so.book;
        size = whole.peer_nonce;
        used = or_left (bytes_eq (front setup.peer.nonce) (front setup.peer.nonce)) _
            (used_itself setup.peer.nonce);
        began = or_left (bytes_eq setup.peer.nonce setup.peer.nonce) _
            (started_itself setup.peer.nonce);
        since = omega arith;
        marked = none_marked _;
      };
      server = record {
        held = None;
        accepted = [];
        made = [];
        past_accepted = [];
        past_created = [];
        now = initiates_so.server;
        told = server_result setup.server setup.server.nonce out.after.server None [] []
            initiates_so.server;
        pasts = no_past;
        accepted_is = ap (tags_by end.Server Accepted) initiates_so.book;
        made_is = ap (tags_by end.Server Made) initiates_so.book;
        size = whole.server_nonce;
        used = or_right (bytes_eq (front setup.peer.nonce) (front setup.server.nonce)) _
            (or_left (bytes_eq (front setup.server.nonce) (front setup.server.nonce)) false
            (used_itself setup.server.nonce));
        began = or_left (bytes_eq setup.server.nonce setup.server.nonce) false
            (started_itself setup.server.nonce);
        since = omega arith;
        marked = none_marked _;
      };
      sized = record {
        peer = all_sized setup.later.peer whole.peer_later;
        server = all_sized setup.later.server whole.server_later;
      };
    }

-- every run of a whole setup
pub run_converses : (setup : Setup) (events : List Event) → IsWhole setup
    → BothConverse setup (run_of setup events)
run_converses setup events whole =
    run_preserves (BothConverse setup) (step_converses setup)
    (world_start (initial_world setup)).after events (start_converses setup whole)
