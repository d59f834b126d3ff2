-- A login after restarts of all parties succeeds.
use Rattle.std.proofs.Common.{◌≡◌, ℕ, List, [], ◌∷◌, ◌++◌, length, Bool, refl, sym, ap, subst, ◌∙◌}
use Rattle.std.specs.Prelude.{◌&&◌}
use Rattle.login_setup.specs.declared.event.Event.{Event}
use Rattle.login_setup.specs.declared.setup.Setup.{Setup}
use Rattle.peer_machine.proofs.Restarting as peers
use Rattle.server_machine.proofs.Restarting as servers
use Rattle.world_laws.specs.Whole.{IsWhole}
use Rattle.tag_book.specs.Book.{tags_verdict}
use Rattle.eap_world.specs.World.{WorldNow, run_after, world_start, world_step}
use Rattle.eap_world.specs.declared.conversations.Waiting.{Waiting}
use Rattle.world_laws.proofs.Conversing.{BothConverse, LeftSized, run_converses}
use Rattle.smooth_laws.specs.Again.{IsLoggedInSince, SucceedsAgain}
use Rattle.smooth_laws.specs.Restarts.{AreLoggedIn, HasRestarted, LoginsAfterRestartsSucceed}
use Rattle.smooth_laws.specs.Restarts.{LoginsSucceed, are_new, first_login, next_login, with_nonces}
use Rattle.smooth_laws.specs.Smooth.{EndsCompatible, HasShortNames}
use Rattle.smooth_laws.proofs.Again.{first_fresh, smooth_logins_succeed_again}
use Rattle.smooth_laws.proofs.SmoothRuns.{smooth_logins_succeed}
use Rattle.smooth_laws.proofs.Restarts.{restarts_start_anew}
use Rattle.world_laws.specs.Runs.{initial_world, run_of}

-- settings with other nonces are whole, have short names, and fit
still_whole : (setup : Setup) (one two : List ℕ) → length one ≡ 32 → length two ≡ 32 → IsWhole setup
    → IsWhole (with_nonces setup one two)
still_whole setup one two one_size two_size whole = record {
  peer = peers.still_sound setup.peer one whole.peer;
  keys = whole.keys;
  peer_kinds = whole.peer_kinds;
  server_kinds = whole.server_kinds;
  server = servers.still_sound setup.server two whole.server;
  peer_nonce = one_size;
  server_nonce = two_size;
  peer_later = whole.peer_later;
  server_later = whole.server_later;
}

still_short : (setup : Setup) (one two : List ℕ) → HasShortNames setup
    → HasShortNames (with_nonces setup one two)
still_short setup one two names = record { peer = names.peer; server = names.server }

still_compatible : (setup : Setup) (one two : List ℕ) → EndsCompatible setup
    → EndsCompatible (with_nonces setup one two)
still_compatible setup one two fit = record {
  kind = fit.kind;
  common = fit.common;
  user = fit.user;
  known = fit.known;
  not_barred = fit.not_barred;
  one_key = fit.one_key;
  accepted = fit.accepted;
  suite = fit.suite;
  reads = fit.reads;
}

-- After the restarts all parties stand as if they had begun, with their next nonces
-- (`restarts_start_anew`). So the login goes as that of a setup with these nonces, over a world
-- with a past (`smooth_logins_succeed_again`).
pub logins_after_restarts_succeed : LoginsAfterRestartsSucceed
logins_after_restarts_succeed setup events restarts smooth whole names fit next order
    in_order enough =
    let w : WorldNow = run_of setup events in
    let both : BothConverse setup w = run_converses setup events whole in
    let one : List ℕ = next.peer.nonce in
    let two : List ℕ = next.server.nonce in
    let one_size = (subst LeftSized next.peer_left both.sized.peer).0 in
    let two_size = (subst LeftSized next.server_left both.sized.server).0 in
    let again : SucceedsAgain (with_nonces setup one two) (run_after w restarts) smooth =
    smooth_logins_succeed_again (with_nonces setup one two) (run_after w restarts) smooth
    (still_whole setup one two one_size two_size whole)
    (still_short setup one two names) (still_compatible setup one two fit)
    (restarts_start_anew setup events restarts whole next order).begun in_order enough in
    record { not_before = again.not_before; in_time = again.in_time; stays = again.stays }

-- ---- one login after the other

-- the run over joined lists goes on where that over the first ends
joined : (w : WorldNow) (one other : List Event)
    → run_after w (one ++ other) ≡ run_after (run_after w one) other
unfolding run_after
joined w [] other = refl
joined w (e ∷ rest) other = joined (world_step w e).after rest other

-- a login after one that was honest, and none of whose deliveries was discarded
logged_in : (setup : Setup) (one two : Waiting) (was : Bool) (before w after : WorldNow)
    → AreLoggedIn was before → HasRestarted setup one two before w
    → IsLoggedInSince w after
    → AreLoggedIn (was && are_new before.conversations.begun one two) after
logged_in setup one two was before w after so anew is = record {
  last = record {
    peer = is.peer;
    server = is.server;
    none_discarded = is.none_discarded ∙ anew.discards ∙ so.last.none_discarded;
    honest = is.tags ∙ ap tags_verdict anew.book ∙ so.last.honest;
    agree = is.agree;
  };
  told = is.fresh ∙ anew.fresh
      ∙ ap (λ (b : Bool). b && are_new before.conversations.begun one two) so.told;
}

pub logins_succeed : LoginsSucceed
logins_succeed setup _ events whole names fit (first_login _ in_order enough) = record {
  last = (smooth_logins_succeed setup events whole names fit in_order enough).stays;
  told = first_fresh setup events in_order;
}
logins_succeed setup _ _ whole names fit
    (next_login fresh events restarts smooth before next anew in_order enough) =
    let w : WorldNow = run_after (run_of setup events) restarts in
    let all : run_of setup (events ++ (restarts ++ smooth)) ≡ run_after w smooth =
    joined (world_start (initial_world setup)).after events (restarts ++ smooth)
    ∙ joined (run_of setup events) restarts smooth in
    subst (AreLoggedIn
    (fresh && are_new (run_of setup events).conversations.begun next.peer next.server)) (sym all)
    (logged_in setup next.peer next.server fresh (run_of setup events) w (run_after w smooth)
    (logins_succeed setup fresh events whole names fit before)
    (restarts_start_anew setup events restarts whole next anew)
    (logins_after_restarts_succeed setup events restarts smooth whole names fit next anew in_order
    enough).stays)
