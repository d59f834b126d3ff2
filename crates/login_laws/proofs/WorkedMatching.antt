-- The conversations of both ends, on what they rest, and whether they are fresh, computed from the
-- definitions alone: two logins, between them a conversation over the packets of the first, as in
-- examples/three-logins.scenario.
use Rattle.std.proofs.Common.{◌≡◌, ℕ, ◌+◌, Bool, true, false, List, [], ◌∷◌, ◌++◌, refl, ap, arith}
use Rattle.std.specs.Prelude.{map, replicate, slice_index}
use Rattle.login_setup.specs.declared.event.Event.{Event}
use Rattle.login_setup.specs.declared.event.Event.TheVariants.{Restart}
use Rattle.login_setup.specs.declared.setup.Party.TheVariants as party
use Rattle.login_setup.specs.declared.setup.Setup.{Setup}
use Rattle.login_setup.specs.Plain.{plain_setup}
use Rattle.eap_packet.specs.declared.state.State.TheVariants as state
use Rattle.eap_method.specs.declared.tags.Label.TheVariants.{Sk}
use Rattle.eap_method.specs.declared.tags.TagRecord.{TagRecord}
use Rattle.peer_machine.specs.PeerTable.{peer_restart}
use Rattle.server_machine.specs.ServerTable.{server_restart, server_start}
use Rattle.tag_book.specs.Book.{entry, first_broken, tags_verdict}
use Rattle.eap_world.specs.Conversations.{delivered_by, occurs_in}
use Rattle.world_laws.specs.EachConversation.{OfPeer, OfServer, conversations_along, moments}
use Rattle.world_laws.specs.EachConversation.{peer_along, peer_conversations, peer_nonce}
use Rattle.world_laws.specs.EachConversation.{server_along, server_conversations, server_nonce}
use Rattle.eap_world.specs.Judgement.{is_success}
use Rattle.login_laws.specs.Matching.{RestsOn}
use Rattle.method_laws.specs.Records.{here, tags_by}
use Rattle.eap_world.specs.Conversations.{initiated_by}
use Rattle.eap_world.specs.World.{WorldNow, act, conversed_by, reported_before, world_start}
use Rattle.eap_world.specs.World.{world_step}
use Rattle.tag_book.specs.declared.book.End.TheVariants as end
use Rattle.tag_book.specs.declared.book.TagsVerdict.TheVariants.{Honest}
use Rattle.tag_book.specs.declared.book.Use.TheVariants.{Accepted, Made}
use Rattle.method_laws.proofs.Among.{among_one}
use Rattle.method_laws.proofs.Among.{first_in}
use Rattle.world_laws.specs.Runs.{initial_world}

-- alice and srv, each with three nonces
abbrev setup : Setup
setup = record plain_setup {
  later = record {
    version = 2;
    peer = replicate 32 51 ∷ replicate 32 85 ∷ [];
    server = replicate 32 68 ∷ replicate 32 102 ∷ [];
  };
}

-- a tag by its number
abbrev tag : ℕ → TagRecord
tag n = record { method = 51; label = Sk; psk = []; octets = n ∷ []; tag = n ∷ [] }

-- a login by EAP-GPSK, with the tags of GPSK-2, GPSK-3 and GPSK-4, over a network in which both
-- nonces are heard
abbrev logs_in : TagRecord → TagRecord → TagRecord → List ℕ → WorldNow → WorldNow
logs_in gpsk2 gpsk3 gpsk4 octets w =
    let event = w.counts.events + 1 in
    record w {
      parties = record w.parties {
        peer = record w.parties.peer {
          vars = record w.parties.peer.vars { state = state.Success };
        };
        server = record w.parties.server {
          vars = record w.parties.server.vars { state = state.Success };
        };
      };
      book = w.book
          ++ (entry event end.Peer Made gpsk2 ∷ entry event end.Server Accepted gpsk2
          ∷ entry event end.Server Made gpsk3
          ∷ entry event end.Peer Accepted gpsk3 ∷ entry event end.Peer Made gpsk4
          ∷ entry event end.Server Accepted gpsk4 ∷ []);
      counts = record w.counts { events = event };
      conversations = delivered_by octets w.conversations;
    }

-- the packets of the first login come again: the peer answers the old GPSK-1 with a GPSK-2 of its
-- new nonce, and that is all
abbrev is_replayed : TagRecord → List ℕ → WorldNow → WorldNow
is_replayed gpsk2 octets w =
    let event = w.counts.events + 1 in
    record w {
      book = w.book ++ (entry event end.Peer Made gpsk2 ∷ []);
      counts = record w.counts { events = event };
      conversations = delivered_by octets w.conversations;
    }

abbrev both_anew : WorldNow → WorldNow
both_anew w = (world_step (world_step w (Restart party.Peer)).after (Restart party.Server)).after

-- the moments of the run
abbrev at_first : WorldNow
at_first = (world_start (initial_world setup)).after

abbrev one_login : WorldNow
one_login = logs_in (tag 1) (tag 2) (tag 3) (replicate 32 17 ++ replicate 32 34) at_first

abbrev started_again : WorldNow
started_again = both_anew one_login

abbrev replayed_to : WorldNow
replayed_to = is_replayed (tag 4) (replicate 32 17 ++ replicate 32 34) started_again

abbrev started_last : WorldNow
started_last = both_anew replayed_to

abbrev last_login : WorldNow
last_login = logs_in (tag 5) (tag 6) (tag 7) (replicate 32 85 ++ replicate 32 102) started_last

abbrev later : List WorldNow
later = one_login ∷ started_again ∷ replayed_to ∷ started_last ∷ last_login ∷ []

-- a conversation: its nonce, whether it is in SUCCESS, and its tags
record Seen : Type 0 where
  pub nonce : List ℕ
  pub success : Bool
  pub accepted : List TagRecord
  pub made : List TagRecord

abbrev peer_seen : OfPeer → Seen
peer_seen p = record {
  nonce = peer_nonce p;
  success = is_success p.now.vars.state;
  accepted = p.accepted;
  made = p.made;
}

abbrev server_seen : OfServer → Seen
server_seen s = record {
  nonce = server_nonce s;
  success = is_success s.now.vars.state;
  accepted = s.accepted;
  made = s.made;
}

-- three of the peer
peers_are : map peer_seen (peer_along at_first later)
    ≡ record {
      nonce = replicate 32 17;
      success = true;
      accepted = tag 2 ∷ [];
      made = tag 1 ∷ tag 3 ∷ [];
    }
    ∷ record { nonce = replicate 32 51; success = false; accepted = []; made = tag 4 ∷ [] }
    ∷ record {
      nonce = replicate 32 85;
      success = true;
      accepted = tag 6 ∷ [];
      made = tag 5 ∷ tag 7 ∷ [];
    } ∷ []
unfolding conversations_along initiated_by tags_by world_start world_step act conversed_by
    reported_before peer_restart server_restart server_start occurs_in
peers_are = refl

-- three of the server
servers_are : map server_seen (server_along at_first later)
    ≡ record {
      nonce = replicate 32 34;
      success = true;
      accepted = tag 1 ∷ tag 3 ∷ [];
      made = tag 2 ∷ [];
    }
    ∷ record { nonce = replicate 32 68; success = false; accepted = []; made = [] }
    ∷ record {
      nonce = replicate 32 102;
      success = true;
      accepted = tag 5 ∷ tag 7 ∷ [];
      made = tag 6 ∷ [];
    } ∷ []
unfolding conversations_along initiated_by tags_by world_start world_step act conversed_by
    reported_before peer_restart server_restart server_start occurs_in
servers_are = refl

-- over fresh nonces, and honest tags
is_fresh : last_login.conversations.fresh ≡ true
unfolding world_start world_step act conversed_by reported_before peer_restart server_restart
    server_start occurs_in
is_fresh = refl

is_honest : tags_verdict last_login.book ≡ Honest
unfolding first_broken world_start world_step act conversed_by reported_before peer_restart
    server_restart server_start occurs_in
is_honest = refl

-- the third of the peer rests on the third of the server, and that on it
peer_rests : RestsOn (tag 6 ∷ []) (tag 6 ∷ [])
peer_rests = record { tag = tag 6; more = []; first = refl; is_made = here [] }

server_rests : RestsOn (tag 5 ∷ tag 7 ∷ []) (tag 5 ∷ tag 7 ∷ [])
server_rests = record { tag = tag 5; more = tag 7 ∷ []; first = refl; is_made = here (tag 7 ∷ []) }

apart : (m n : ℕ) → (m ≡ n → ⊥) → tag m ≡ tag n → ⊥
apart m n differ same = differ (ap (λ (t : TagRecord). slice_index t.octets 0) same)

-- one that made another tag alone is none on which it rests
rests_no_more : (m n : ℕ) (more : List TagRecord) → (m ≡ n → ⊥)
    → RestsOn (tag m ∷ more) (tag n ∷ []) → ⊥
rests_no_more m n more differ r = apart m n differ
    (among_one _ _ ((first_in _ _ r.tag r.more r.first r.is_made).is (tag m) more refl))

-- the peer's third doesn't rest on the server's first, the server's third not on the peer's second;
-- and it is the first tag that tells, not the last
not_on_the_first : RestsOn (tag 6 ∷ []) (tag 2 ∷ []) → ⊥
not_on_the_first = rests_no_more 6 2 [] (λ e. absurd (omega (arith, e)))

not_on_the_second : RestsOn (tag 5 ∷ tag 7 ∷ []) (tag 4 ∷ []) → ⊥
not_on_the_second = rests_no_more 5 4 (tag 7 ∷ []) (λ e. absurd (omega (arith, e)))

not_by_the_last : RestsOn (tag 5 ∷ tag 7 ∷ []) (tag 7 ∷ []) → ⊥
not_by_the_last = rests_no_more 5 7 (tag 7 ∷ []) (λ e. absurd (omega (arith, e)))

-- and in a run in which both ends but begin, once more than they have nonces: one conversation for
-- each nonce, in order
abbrev begins : List Event
begins =
    Restart party.Peer ∷ Restart party.Server ∷ Restart party.Server ∷ Restart party.Peer
    ∷ Restart party.Peer ∷ Restart party.Server ∷ []

peers_started : map peer_nonce (peer_conversations setup begins)
    ≡ replicate 32 17 ∷ replicate 32 51 ∷ replicate 32 85 ∷ []
unfolding conversations_along moments initiated_by tags_by world_start world_step act conversed_by
    reported_before peer_restart server_restart server_start
peers_started = refl

servers_started : map server_nonce (server_conversations setup begins)
    ≡ replicate 32 34 ∷ replicate 32 68 ∷ replicate 32 102 ∷ []
unfolding conversations_along moments initiated_by tags_by world_start world_step act conversed_by
    reported_before peer_restart server_restart server_start
servers_started = refl
