-- Smooth logins after restarts.
use Rattle.std.proofs.Common.{◌≡◌, ℕ, zero, suc, ◌+◌, ◌-◌, ◌≤◌, false, List, [], ◌++◌, length, take}
use Rattle.std.proofs.Common.{Option, None, Some, map, refl, sym, ap, subst, ◌∙◌}
use Rattle.std.proofs.Common.{arith, append-nil}
use Rattle.std.specs.Prelude.{◌||◌, Bool, not, option_map}
use Rattle.std.proofs.lemmas.Bool.{cond_both}
use Rattle.std.proofs.Math.Bool.{or-false}
use Rattle.std.specs.Str.{bytes_eq}
use Rattle.std.proofs.lemmas.List.{length-append}
use Rattle.login_setup.specs.declared.event.Event.{Event}
use Rattle.login_setup.specs.declared.setup.Mode.{Mode}
use Rattle.login_setup.specs.declared.setup.Mode.TheVariants as mode
use Rattle.login_setup.specs.declared.setup.Party.TheVariants as party
use Rattle.login_setup.specs.Setup.{ServerSetup}
use Rattle.login_setup.specs.declared.setup.Setup.{Setup}
use Rattle.octet_lists.specs.Among.{identity_kind, is_among}
use Rattle.eap_method.specs.Server.{ServerShown, reported, server_report_of, server_started_in}
use Rattle.eap_method.specs.Server.{views_started}
use Rattle.eap_method.specs.declared.values.Report.{Report}
use Rattle.server_machine.specs.ServerTable.{server_start}
use Rattle.pass_through.specs.PassTable.{pass_start}
use Rattle.eap_world.specs.Conversations.{front}
use Rattle.tag_book.specs.Book.{first_broken, tags_verdict, verdict_on}
use Rattle.tag_book.specs.declared.book.Entry.{Entry}
use Rattle.tag_book.specs.declared.book.TagsVerdict.TheVariants.{Honest}
use Rattle.tag_book.specs.declared.book.RecordOwner.TheVariants.{Other}
use Rattle.eap_world.specs.Judgement.{is_success, verdict_of}
use Rattle.eap_world.specs.declared.world.HasReported.{HasReported}
use Rattle.eap_world.specs.World.{WorldNow, Parties, first_report, reported_after, run_after}
use Rattle.eap_world.specs.World.{world_start}
use Rattle.smooth_laws.specs.Again.{HasJustStarted, IsLoggedInSince, SmoothLoginsSucceedAgain}
use Rattle.smooth_laws.specs.Smooth.{AreInOrder, IsLoggedIn, SucceedsInTime, event_bound}
use Rattle.smooth_laws.specs.Smooth.{deliveries}
use Rattle.smooth_laws.proofs.Following.{as_honest, delivers_each, accepts_each}
use Rattle.smooth_laws.specs.Trailing.{Follows, RunsGoOnAsTheirOwn, later}
use Rattle.smooth_laws.proofs.Opening.{in_mode}
use Rattle.smooth_laws.proofs.SmoothRuns.{smooth_logins_succeed, prefix_deliveries}
use Rattle.world_laws.specs.Runs.{initial_world, run_of, server_views_started}

-- the start sends one packet, and books and counts nothing
record HasStarted (v : WorldNow) : Type 0 where
  one : length v.sent ≡ 1
  no_events : v.counts.events ≡ 0
  no_deliveries : v.counts.deliveries ≡ 0
  none_reported : (v.held.peer ≡ false) × (v.held.server ≡ false)
  no_discards : v.counts.discards ≡ 0
  no_tags : v.book ≡ []

-- the Identity round has no report
no_report : (setup : ServerSetup)
    → server_report_of identity_kind (server_views_started setup) ≡ None
unfolding server_report_of views_started
no_report setup =
    cond_both (is_among setup.methods identity_kind) _ _ (λ (found : Option ServerShown).
    reported (option_map (server_started_in setup) found) ≡ None) (λ _. refl) (λ _. refl)

abbrev reported_with : Setup → Option Report → HasReported
reported_with setup report =
    reported_after (initial_world setup).held (first_report false party.Server report)

started_by : (runs : Mode) (setup : Setup) → HasStarted (run_of (in_mode runs setup) [])
unfolding run_after world_start server_start pass_start
started_by mode.Alone setup = record {
  one = refl;
  no_events = refl;
  no_deliveries = refl;
  none_reported = (
    ap (λ (o : Option Report). (reported_with setup o).peer) (no_report setup.server),
    ap (λ (o : Option Report). (reported_with setup o).server) (no_report setup.server),
  );
  no_discards = refl;
  no_tags = refl;
}
started_by mode.Through setup = record {
  one = refl;
  no_events = refl;
  no_deliveries = refl;
  none_reported = (refl, refl);
  no_discards = refl;
  no_tags = refl;
}

has_started : (setup : Setup) → HasStarted (run_of setup [])
has_started setup = started_by setup.mode setup

begins : (setup : Setup) (w : WorldNow) (begun : HasJustStarted setup w)
    → Follows w begun.before w (run_of setup [])
begins setup w begun =
    let start = has_started setup in
    let no_events = start.no_events in
    let no_deliveries = start.no_deliveries in
    let no_discards = start.no_discards in
    record {
      parties = begun.parties;
      sent = begun.sent;
      events = omega arith;
      deliveries = omega arith;
      discards = omega arith;
      peer_reported =
          sym (ap (λ (b : Bool). w.held.peer || b) start.none_reported.0 ∙ or-false w.held.peer);
      server_reported = sym
          (ap (λ (b : Bool). w.held.server || b) start.none_reported.1 ∙ or-false w.held.server);
      book = sym (append-nil w.book) ∙ ap (λ (all : List Entry).
          w.book ++ map (later w.counts.events) all) (sym start.no_tags);
      begun = refl;
      fresh = refl;
    }

pub runs_go_on_as_their_own : RunsGoOnAsTheirOwn
unfolding run_after
runs_go_on_as_their_own setup w begun events none =
    accepts_each w begun.before events none w (run_of setup []) (begins setup w begun)

-- after so many deliveries
goes_on : (setup : Setup) (w : WorldNow) (begun : HasJustStarted setup w) (count : ℕ)
    → Follows w begun.before (run_after w (deliveries (length begun.before + 1) count))
    (run_of setup (deliveries 1 count))
unfolding run_after
goes_on setup w begun count =
    delivers_each w begun.before w (run_of setup []) (begins setup w begun) 1 count (omega arith)

-- the first login begins no further conversation, so freshness is that of the first two nonces
started_fresh : (setup : Setup) → (run_of setup []).conversations.fresh
    ≡ not (bytes_eq (front setup.peer.nonce) (front setup.server.nonce))
unfolding run_after world_start
started_fresh setup = refl

pub first_fresh : (setup : Setup) (events : List Event) → AreInOrder events
    → (run_of setup events).conversations.fresh
    ≡ not (bytes_eq (front setup.peer.nonce) (front setup.server.nonce))
unfolding run_after
first_fresh setup events order =
    let begun : HasJustStarted setup (run_of setup []) =
    record { parties = refl; before = []; sent = refl } in
    ap (λ (some : List Event). (run_of setup some).conversations.fresh) order
    ∙ (goes_on setup (run_of setup []) begun (length events)).fresh ∙ started_fresh setup

honest_none : (found : Option ℕ) → verdict_on found ≡ Honest → found ≡ None
honest_none None e = refl
honest_none (Some event) e = cc

same_verdict : (w v : WorldNow) → w.parties ≡ v.parties → verdict_of w ≡ verdict_of v
unfolding verdict_of
same_verdict w v same = ap (λ (parties : Parties). verdict_of (record v { parties = parties })) same

-- what the login of its own comes to, this one does
also_in : (since : WorldNow) (before : _) (w v : WorldNow) → Follows since before w v → IsLoggedIn v
    → IsLoggedInSince since w
also_in since before w v f is =
    let discards = f.discards in
    let none_discarded = is.none_discarded in
    record {
      peer = ap (λ (parties : Parties). is_success parties.peer.vars.state) f.parties ∙ is.peer;
      server =
          ap (λ (parties : Parties). is_success parties.server.vars.state) f.parties ∙ is.server;
      none_discarded = omega arith;
      tags = ap tags_verdict f.book ∙ ap verdict_on (as_honest since.counts.events since.book v.book
          (honest_none (first_broken Other [] v.book) is.honest));
      agree = same_verdict w v f.parties ∙ is.agree;
      begun = f.begun;
      fresh = f.fresh;
    }

size_of : (first count : ℕ) → length (deliveries first count) ≡ count
unfolding deliveries
size_of first zero = refl
size_of first (suc count) = ap suc (size_of (first + 1) count)

pub smooth_logins_succeed_again : SmoothLoginsSucceedAgain
smooth_logins_succeed_again setup w events whole names fit begun order enough =
    let most : ℕ = event_bound setup in
    let all : ℕ = length events in
    let one = (has_started setup).one in
    let joined = length-append begun.before (run_of setup []).sent in
    let here : length w.sent ≡ length begun.before + 1 = ap length begun.sent ∙ (omega arith) in
    let size = size_of 1 all in
    let of_own : SucceedsInTime setup (deliveries 1 all) =
    smooth_logins_succeed setup (deliveries 1 all) whole names fit (ap (deliveries 1) (sym size))
    (omega arith) in
    let first : (count : ℕ) → count ≤ all
    → take count events ≡ deliveries (length begun.before + 1) count =
    λ count few. ap (λ (some : List Event). take count some) order
    ∙ prefix_deliveries (length w.sent) count all few
    ∙ ap (λ (number : ℕ). deliveries number count) here in
    let own : (count : ℕ) → count ≤ all → take count (deliveries 1 all) ≡ deliveries 1 count =
    λ count few. prefix_deliveries 1 count all few in
    record {
      not_before =
          ap (λ (some : List Event). is_success (run_after w some).parties.peer.vars.state)
          (first (most - 1) (omega arith))
          ∙ ap (λ (parties : Parties). is_success parties.peer.vars.state)
          (goes_on setup w begun (most - 1)).parties
          ∙ ap (λ (some : List Event). is_success (run_of setup some).parties.peer.vars.state)
          (sym (own (most - 1) (omega arith)))
          ∙ of_own.not_before;
      in_time =
          subst (λ (some : List Event). IsLoggedInSince w (run_after w some))
          (sym (first most enough)) (also_in w begun.before _ _ (goes_on setup w begun most)
          (subst (λ (some : List Event). IsLoggedIn (run_of setup some)) (own most enough)
          of_own.in_time));
      stays =
          subst (λ (some : List Event). IsLoggedInSince w (run_after w some))
          (sym (order ∙ ap (λ (number : ℕ). deliveries number all) here))
          (also_in w begun.before _ _ (goes_on setup w begun all) of_own.stays);
    }
