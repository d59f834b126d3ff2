-- What is heard, used and fresh, computed from the definitions alone.
use Rattle.std.proofs.Common.{◌≡◌, ℕ, ◌∷◌, ◌++◌, List, [], true, false, take, drop, refl, Some}
use Rattle.std.specs.Prelude.{replicate}
use Rattle.login_setup.specs.declared.event.Event.{Event}
use Rattle.login_setup.specs.declared.event.Event.TheVariants.{Inject, Restart}
use Rattle.login_setup.specs.declared.setup.Party.TheVariants as party
use Rattle.login_setup.specs.declared.setup.Port.TheVariants as port
use Rattle.login_setup.specs.declared.setup.Setup.{Setup}
use Rattle.login_setup.specs.Plain.{plain_setup}
use Rattle.eap_packet.specs.Fault.{fault, packet_of}
use Rattle.peer_machine.specs.PeerTable.{peer_restart}
use Rattle.server_machine.specs.ServerTable.{server_deliver, server_restart, server_start}
use Rattle.eap_world.specs.Conversations.{beginning, hears, is_used, since_from, since_of}
use Rattle.eap_world.specs.Conversations.{occurs_in, waiting}
use Rattle.eap_world.specs.World.{act, conversed_by, reported_before, run_after, world_start}
use Rattle.eap_world.specs.World.{world_step}
use Rattle.tag_book.specs.declared.book.End.TheVariants as end
use Rattle.eap_world.specs.declared.told.Skip.TheVariants.{NoNonce, NoParty}
use Rattle.world_laws.specs.Runs.{run_of}

-- 32 octets, all different
abbrev counted : List ℕ
counted = 0 ∷ 1 ∷ 2 ∷ 3 ∷ 4 ∷ 5 ∷ 6 ∷ 7 ∷ 8 ∷ 9 ∷ 10 ∷ 11 ∷ 12 ∷ 13 ∷ 14 ∷ 15 ∷ 16 ∷ 17 ∷ 18 ∷ 19
    ∷ 20 ∷ 21 ∷ 22 ∷ 23 ∷ 24 ∷ 25 ∷ 26 ∷ 27 ∷ 28 ∷ 29 ∷ 30 ∷ 31 ∷ []

-- a nonce is heard where its first sixteen octets stand one after the other, and not by fewer, nor
-- by its others
received_within : (hears (7 ∷ 0 ∷ take 16 counted ++ 9 ∷ []) (waiting counted)).heard ≡ true
unfolding occurs_in
received_within = refl

not_by_fifteen : (hears (take 15 counted ++ 16 ∷ 15 ∷ []) (waiting counted)).heard ≡ false
unfolding occurs_in
not_by_fifteen = refl

not_by_its_end : (hears (drop 1 counted) (waiting counted)).heard ≡ false
unfolding occurs_in
not_by_its_end = refl

-- nonces that differ behind their first sixteen octets are one
used_by_its_front : is_used (beginning 0 end.Peer counted ∷ []) (take 16 counted ++ replicate 16 0)
    ≡ true
used_by_its_front = refl

-- the present conversation of an end is its last
since_its_last : since_of end.Peer (beginning 0 end.Peer [] ∷ beginning 0 end.Server []
    ∷ beginning 4 end.Peer [] ∷ beginning 7 end.Server [] ∷ []) ≡ 4
unfolding since_from
since_its_last = refl

-- alice and srv, without methods, each with a second nonce, that of the server this one
setup_with : List ℕ → Setup
setup_with second = record plain_setup {
  later = record { version = 2; peer = replicate 32 51 ∷ []; server = second ∷ [] };
}

both_start : List Event
both_start = Restart party.Peer ∷ Restart party.Server ∷ []

-- both ends begin anew, with nonces that nobody has used, and with one that the server has
both_fresh : (run_of (setup_with (replicate 32 68)) both_start).conversations.fresh ≡ true
unfolding run_after world_start world_step act conversed_by reported_before peer_restart
    server_restart server_start setup_with both_start
both_fresh = refl

nonce_twice : (run_of (setup_with (replicate 32 34)) both_start).conversations.fresh ≡ false
unfolding run_after world_start world_step act conversed_by reported_before peer_restart
    server_restart server_start setup_with both_start
nonce_twice = refl

-- octets that a party discards are heard, those of a skipped event aren't, and those that come
-- after the nonce is used do nothing
received_though_discarded : (run_of (setup_with (replicate 32 68))
    (Inject port.Server (replicate 16 51) ∷ both_start)).conversations.fresh ≡ false
unfolding run_after world_start world_step act conversed_by reported_before peer_restart
    server_restart server_start server_deliver packet_of fault occurs_in setup_with both_start
received_though_discarded = refl

unheard_if_skipped : (run_of (setup_with (replicate 32 68))
    (Inject port.PassPeer (replicate 16 51) ∷ both_start)).conversations.fresh ≡ true
unfolding run_after world_start world_step act conversed_by reported_before peer_restart
    server_restart server_start setup_with both_start
unheard_if_skipped = refl

received_too_late : (run_of (setup_with (replicate 32 68))
    (both_start ++ Inject port.Server (replicate 16 51) ∷ [])).conversations.fresh ≡ true
unfolding run_after world_start world_step act conversed_by reported_before peer_restart
    server_restart server_start server_deliver packet_of fault setup_with both_start
received_too_late = refl

-- an end without a nonce doesn't begin, nor does a pass-through that isn't there
none_left : (world_step (run_of (setup_with (replicate 32 68)) both_start)
    (Restart party.Peer)).told.skip ≡ Some NoNonce
unfolding run_after world_start world_step act conversed_by reported_before peer_restart
    server_restart server_start setup_with both_start
none_left = refl

nobody_there : (world_step (run_of (setup_with (replicate 32 68)) [])
    (Restart party.Pass)).told.skip ≡ Some NoParty
unfolding run_after world_start world_step act conversed_by reported_before server_start setup_with
nobody_there = refl
