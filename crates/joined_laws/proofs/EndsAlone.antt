-- An end that runs alone is the present conversation of a world whose other end has no inputs.
use Rattle.std.proofs.Common.{◌≡◌, ℕ, ◌+◌, List, [], ◌∷◌, ◌++◌, map, true, Some, None, refl, sym, ap}
use Rattle.std.proofs.Common.{◌∙◌, subst, append-nil, Bool, false, ◌&&◌, inl, inr}
use Rattle.std.specs.List.{list_all}
use Rattle.eap_method.specs.BothPeers as both_peers
use Rattle.eap_method.specs.BothServers as both_servers
use Rattle.eap_method.specs.declared.tags.TagRecord.{TagRecord}
use Rattle.eap_world.specs.World.{WorldNow, run_after, world_start}
use Rattle.eap_world.specs.declared.conversations.ConversationStart.{ConversationStart}
use Rattle.end_pipe.specs.EndRun.{EndNow, end_after, peer_step, server_step, told_of}
use Rattle.end_pipe.specs.EndRun.{started_peer, started_server}
use Rattle.end_pipe.specs.Inputs.{is_of_peer, is_of_server}
use Rattle.end_pipe.specs.declared.input.EndInput.{EndInput}
use Rattle.joined_laws.specs.EndsAlone.{EndAlone, EndsAloneMatch, IsPeerAlone, IsServerAlone}
use Rattle.joined_laws.specs.EndsAlone.{accepted_at, made_at, peer_after, peer_initial, peer_setup}
use Rattle.joined_laws.specs.EndsAlone.{ServersAloneMatch, peers_after, server_after}
use Rattle.joined_laws.specs.EndsAlone.{server_initial, server_setup, servers_after}
use Rattle.joined_laws.specs.Joined.{Arrives, event_of, interleaved_book, is_input, peer_alone}
use Rattle.joined_laws.specs.Joined.{peers_of, server_alone, servers_of, to_peer, to_server, world_of}
use Rattle.joined_laws.proofs.BookDetermined.{book_is_determined}
use Rattle.joined_laws.proofs.Interleaved.{interleavings_are_runs}
use Rattle.joined_laws.proofs.OneConversation.{run_started}
use Rattle.login_laws.specs.AnyEnds.{AreOfSomeRuns, IsOfSomePeer, IsOfSomeServer}
use Rattle.login_laws.specs.Matching.{AreAll}
use Rattle.login_laws.proofs.AnyEnds.{any_ends_match, any_server_matches}
use Rattle.login_laws.proofs.Conversations.{conversations_are_all}
use Rattle.login_setup.specs.declared.setup.Setup.{Setup}
use Rattle.method_laws.specs.Records.{tags_by}
use Rattle.method_laws.proofs.TagsOfEnds.{own_booked}
use Rattle.peer_machine.specs.PeerTable.{PeerNow}
use Rattle.server_machine.specs.ServerTable.{ServerNow}
use Rattle.tag_book.specs.declared.book.End.TheVariants as end
use Rattle.tag_book.specs.declared.book.Entry.{Entry}
use Rattle.tag_book.specs.declared.book.Use.TheVariants.{Accepted, Made}
use Rattle.world_laws.specs.EachConversation.{Conversation, IsOneOf, OfPeer, OfServer, here, later}
use Rattle.world_laws.specs.EachConversation.{all_accepted, all_produced, last_now, nonces_of}
use Rattle.world_laws.specs.EachConversation.{peer_conversations, peer_nonce}
use Rattle.world_laws.specs.EachConversation.{server_conversations, server_nonce}
use Rattle.world_laws.specs.Runs.{initial_world}
use Rattle.world_laws.proofs.OneOf.{one_parts}

-- ---- inputs of one end alone

inputs_of_peer : (inputs : List EndInput) → list_all is_of_peer inputs ≡ true
    → list_all is_input (map to_peer inputs) ≡ true
inputs_of_peer [] fit = refl
inputs_of_peer (input ∷ rest) fit = test_both _ _ _ (inputs_of_peer rest) fit
  where
    test_both : (b one other : Bool) → (one ≡ true → other ≡ true) → (b && one) ≡ true
        → (b && other) ≡ true
    test_both true one other same fit = same fit
    test_both false one other same fit = fit

inputs_of_server : (inputs : List EndInput) → list_all is_of_server inputs ≡ true
    → list_all is_input (map to_server inputs) ≡ true
inputs_of_server [] fit = refl
inputs_of_server (input ∷ rest) fit = test_both _ _ _ (inputs_of_server rest) fit
  where
    test_both : (b one other : Bool) → (one ≡ true → other ≡ true) → (b && one) ≡ true
        → (b && other) ≡ true
    test_both true one other same fit = same fit
    test_both false one other same fit = fit

own_peer : (inputs : List EndInput) → peers_of (map to_peer inputs) ≡ inputs
unfolding peers_of
own_peer [] = refl
own_peer (input ∷ rest) = ap (λ (all : List EndInput). input ∷ all) (own_peer rest)

own_server : (inputs : List EndInput) → servers_of (map to_server inputs) ≡ inputs
unfolding servers_of
own_server [] = refl
own_server (input ∷ rest) = ap (λ (all : List EndInput). input ∷ all) (own_server rest)

-- ---- its tags in the book

-- the book of a peer whose server has no input
record PeerBooks (number : ℕ) (p : EndNow PeerNow) (s : EndNow ServerNow)
    (inputs : List EndInput) : Type 0 where
  accepted : tags_by end.Peer Accepted (interleaved_book number p s (map to_peer inputs))
      ≡ accepted_at (told_of peer_step p inputs)
  made : tags_by end.Peer Made (interleaved_book number p s (map to_peer inputs))
      ≡ made_at (told_of peer_step p inputs)

peer_books : (number : ℕ) (p : EndNow PeerNow) (s : EndNow ServerNow) (inputs : List EndInput)
    → PeerBooks number p s inputs
unfolding interleaved_book told_of accepted_at made_at tags_by
peer_books number p s [] = record { accepted = refl; made = refl }
peer_books number p s (input ∷ rest) =
    let out = peer_step p input in
    let more = peer_books (number + 1) out.after s rest in
    let book : List Entry = interleaved_book (number + 1) out.after s (map to_peer rest) in
    record {
      accepted = own_booked end.Peer Accepted (number + 1) out.told.step.tags book
          ∙ ap (λ (all : List TagRecord). out.told.step.tags.accepted ++ all) more.accepted;
      made = own_booked end.Peer Made (number + 1) out.told.step.tags book
          ∙ ap (λ (all : List TagRecord). out.told.step.tags.made ++ all) more.made;
    }

record ServerBooks (number : ℕ) (p : EndNow PeerNow) (s : EndNow ServerNow)
    (inputs : List EndInput) : Type 0 where
  accepted : tags_by end.Server Accepted (interleaved_book number p s (map to_server inputs))
      ≡ accepted_at (told_of server_step s inputs)
  made : tags_by end.Server Made (interleaved_book number p s (map to_server inputs))
      ≡ made_at (told_of server_step s inputs)

server_books : (number : ℕ) (p : EndNow PeerNow) (s : EndNow ServerNow) (inputs : List EndInput)
    → ServerBooks number p s inputs
unfolding interleaved_book told_of accepted_at made_at tags_by
server_books number p s [] = record { accepted = refl; made = refl }
server_books number p s (input ∷ rest) =
    let out = server_step s input in
    let more = server_books (number + 1) p out.after rest in
    let book : List Entry = interleaved_book (number + 1) p out.after (map to_server rest) in
    record {
      accepted = own_booked end.Server Accepted (number + 1) out.told.step.tags book
          ∙ ap (λ (all : List TagRecord). out.told.step.tags.accepted ++ all) more.accepted;
      made = own_booked end.Server Made (number + 1) out.told.step.tags book
          ∙ ap (λ (all : List TagRecord). out.told.step.tags.made ++ all) more.made;
    }

-- ---- one conversation

conversation_is : {N : Type 0} (k : Conversation N) (now : N) (accepted made : List TagRecord)
    → k.now ≡ now → k.accepted ≡ accepted → k.made ≡ made
    → k ≡ record { now = now; accepted = accepted; made = made }
conversation_is k now accepted made a b c = rw (sym a, sym b, sym c) refl

-- of an end that has begun once, with all of its tags, there is this one
one_of : {N : Type 0} (nonce : Conversation N → List ℕ) (all : List (Conversation N))
    (first : List ℕ) (now : N) (accepted made : List TagRecord)
    → map nonce all ≡ first ∷ [] → last_now None all ≡ Some now
    → all_accepted all ≡ accepted → all_produced all ≡ made
    → IsOneOf (record { now = now; accepted = accepted; made = made }) all
unfolding last_now all_accepted all_produced
one_of nonce [] first now accepted made nonces last a m = absurd cc
one_of {N} nonce (k ∷ []) first now accepted made nonces last a m =
    subst (λ (j : Conversation N). IsOneOf j (k ∷ []))
    (conversation_is k now accepted made (let same : k.now ≡ now = cc last in same)
    (sym (append-nil k.accepted) ∙ a) (sym (append-nil k.made) ∙ m)) (here [])
one_of nonce (k ∷ j ∷ rest) first now accepted made nonces last a m = absurd cc

-- the start begins one of each end
start_peer : (setup : Setup) → nonces_of end.Peer
    (world_start (initial_world setup)).after.conversations.begun ≡ setup.peer.nonce ∷ []
unfolding world_start nonces_of
start_peer setup = refl

start_server : (setup : Setup) → nonces_of end.Server
    (world_start (initial_world setup)).after.conversations.begun ≡ setup.server.nonce ∷ []
unfolding world_start nonces_of
start_server setup = refl

peer_is : (setup : Setup) (one : EndAlone) → IsPeerAlone setup one
    → IsOfSomePeer setup (peer_after setup one)
peer_is setup one is =
    let run = peer_setup setup one in
    let list = map to_peer one.inputs in
    let fit = inputs_of_peer one.inputs is.inputs in
    let all = conversations_are_all run (map event_of list) is.whole in
    let ends = interleavings_are_runs run list refl fit in
    let book = book_is_determined run list refl fit in
    let begun = peer_initial setup one in
    let other = started_server run.server (both_servers.both_of run.server.methods) run.first_id
    run.max_retrans in
    let books = peer_books 0 begun other one.inputs in
    record {
      run = run;
      events = map event_of list;
      whole = is.whole;
      own = refl;
      is_one = one_of peer_nonce _ one.nonce _ _ _
          (sym all.peer_nonces ∙ ap (nonces_of end.Peer)
          (run_started (world_start (initial_world run)).after list fit) ∙ start_peer run)
          (all.peer_last ∙ ap (λ (now : PeerNow). Some now) (ends.peer
          ∙ ap (λ (inputs : List EndInput). (end_after peer_step begun inputs).now)
          (own_peer one.inputs)))
          (sym all.peer_accepted ∙ ap (tags_by end.Peer Accepted) book ∙ books.accepted)
          (sym all.initial_peer ∙ ap (tags_by end.Peer Made) book ∙ books.made);
    }

server_is : (setup : Setup) (one : EndAlone) → IsServerAlone setup one
    → IsOfSomeServer setup (server_after setup one)
server_is setup one is =
    let run = server_setup setup one in
    let list = map to_server one.inputs in
    let fit = inputs_of_server one.inputs is.inputs in
    let all = conversations_are_all run (map event_of list) is.whole in
    let ends = interleavings_are_runs run list refl fit in
    let book = book_is_determined run list refl fit in
    let begun = server_initial setup one in
    let other = started_peer run.peer (both_peers.both_of run.peer.methods) in
    let books = server_books 0 other begun one.inputs in
    record {
      run = run;
      events = map event_of list;
      whole = is.whole;
      own = refl;
      is_one = one_of server_nonce _ one.nonce _ _ _
          (sym all.server_nonces ∙ ap (nonces_of end.Server)
          (run_started (world_start (initial_world run)).after list fit) ∙ start_server run)
          (all.server_last ∙ ap (λ (now : ServerNow). Some now) (ends.server
          ∙ ap (λ (inputs : List EndInput). (end_after server_step begun inputs).now)
          (own_server one.inputs)))
          (sym all.server_accepted ∙ ap (tags_by end.Server Accepted) book ∙ books.accepted)
          (sym all.initial_server ∙ ap (tags_by end.Server Made) book ∙ books.made);
    }

-- ---- each of them

each_of : {A B : Type 0} (f : A → B) (P : B → Type 0) (all : List A)
    → ((one : A) → IsOneOf one all → P (f one)) → (x : B) → IsOneOf x (map f all) → P x
each_of f P [] each x is = elim is [ ]
each_of {A} f P (one ∷ rest) each x is =
    elim (one_parts x (f one) (map f rest) _ is refl) [
      | inl same ↦ subst P (sym same) (each one (here rest))
      | inr there ↦ each_of f P rest (λ (a : A) in_rest. each a (later one rest in_rest)) x there
    ]

-- A world whose events are the inputs of one end alone has this end as it is alone
-- (`interleavings_are_runs`), its tags in the book (`book_is_determined`), and one conversation of
-- it, since nothing begins another. So ends alone are conversations of some runs, which match.
are_of_runs : (setup : Setup) (ps ss : List EndAlone)
    → ((one : EndAlone) → IsOneOf one ps → IsPeerAlone setup one)
    → ((one : EndAlone) → IsOneOf one ss → IsServerAlone setup one)
    → AreOfSomeRuns setup (peers_after setup ps) (servers_after setup ss)
are_of_runs setup ps ss are_peers are_servers = record {
  peers = each_of (peer_after setup) (IsOfSomePeer setup) ps
      (λ one is. peer_is setup one (are_peers one is));
  servers = each_of (server_after setup) (IsOfSomeServer setup) ss
      (λ one is. server_is setup one (are_servers one is));
}

pub ends_alone_match : EndsAloneMatch
ends_alone_match setup kind ps ss are_peers are_servers =
    any_ends_match setup kind _ _ (are_of_runs setup ps ss are_peers are_servers)

pub servers_alone_match : ServersAloneMatch
servers_alone_match setup kind ps ss are_peers are_servers =
    any_server_matches setup kind _ _ (are_of_runs setup ps ss are_peers are_servers)
