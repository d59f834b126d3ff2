-- A smooth login succeeds within its bound.
use Rattle.std.proofs.Common.{◌≡◌, ℕ, zero, suc, ◌+◌, ◌-◌, ◌≤◌, List, [], ◌∷◌, length, take, Bool}
use Rattle.std.proofs.Common.{true, false, None, Some, inl, refl, sym, ap, subst, ◌∙◌, arith}
use Rattle.std.specs.Prelude.{◌==◌, find}
use Rattle.std.specs.List.{list_all}
use Rattle.std.proofs.lemmas.Bool.{and_parts, or_left, eq-eqb}
use Rattle.std.proofs.lemmas.Option.{none-some}
use Rattle.login_setup.specs.declared.event.Event.{Event}
use Rattle.login_setup.specs.declared.event.Event.TheVariants.{Deliver}
use Rattle.login_setup.specs.declared.setup.Mode.{Mode}
use Rattle.login_setup.specs.declared.setup.Mode.TheVariants as mode
use Rattle.login_setup.specs.declared.setup.Setup.{Setup}
use Rattle.octet_lists.specs.Among.{is_among, is_kind, are_distinct}
use Rattle.login_policy.specs.Policy.{next_kind, nak_of}
use Rattle.eap_method.specs.Server.{ServerViews}
use Rattle.world_laws.specs.Whole.{IsWhole}
use Rattle.tag_book.specs.Book.{verdict_on, tags_verdict}
use Rattle.tag_book.specs.declared.book.TagsVerdict.TheVariants.{Honest}
use Rattle.eap_world.specs.Judgement.{is_success}
use Rattle.eap_world.specs.World.{WorldNow, run_after, world_start}
use Rattle.login_laws.proofs.HonestRuns.{honest_ends_agree}
use Rattle.smooth_laws.specs.Smooth.{EndsCompatible, HasShortNames, IsLoggedIn, SmoothLoginsSucceed}
use Rattle.smooth_laws.specs.Smooth.{event_bound, bound_in, deliveries, takes_first}
use Rattle.smooth_laws.proofs.Choosing.{found_passes, found_among, found_as_all, first_is_next}
use Rattle.smooth_laws.proofs.Choosing.{allowed_is_common, common_is_next}
use Rattle.smooth_laws.proofs.Exchange.{exchanged, number_after}
use Rattle.smooth_laws.proofs.Methods.{Has, few_kinds, has_each, offers_of, short, talks_of}
use Rattle.smooth_laws.proofs.Naks.{reads_back}
use Rattle.smooth_laws.proofs.Opening.{in_mode, made_in, number_opened, opened, opens}
use Rattle.smooth_laws.proofs.Opening.{proposes_next, started}
use Rattle.smooth_laws.proofs.ServerSide.{after_id}
use Rattle.smooth_laws.proofs.Talk.{EndsWell, Talks, ids_differ, last_number, talked, talks_through}
use Rattle.smooth_laws.proofs.Moves.{BothIn, all_started, delivered, stay_in}
use Rattle.world_laws.specs.Runs.{initial_world, run_of, server_views_started}

-- both ends have succeeded after so many deliveries, and the peer not before
abbrev SucceedsAt : Setup → ℕ → Type 0
SucceedsAt setup number =
    EndsWell (run_of setup (deliveries 1 (number - 1))) (run_of setup (deliveries 1 number)) number

-- the first deliveries of more
pub prefix_deliveries : (first count more : ℕ) → count ≤ more → take count (deliveries first more)
    ≡ deliveries first count
unfolding deliveries
prefix_deliveries first zero more few = refl
prefix_deliveries first (suc count) zero few = absurd (omega arith)
prefix_deliveries first (suc count) (suc more) few = ap (λ (rest : List Event).
    Deliver first ∷ rest) (prefix_deliveries (first + 1) count more (omega arith))

module _ (setup : Setup) (whole : IsWhole setup) (names : HasShortNames setup) where
  module _ (fit : EndsCompatible setup) where
    -- how a method's packets travel
    abbrev form : Bool
    form = setup.server.expanded

    allowed : is_among setup.peer.methods fit.kind ≡ true
    allowed = found_passes (is_among setup.peer.methods) setup.server.methods fit.kind fit.common

    kinds : list_all is_kind setup.server.methods ≡ true
    kinds = (and_parts (list_all is_kind setup.server.methods) (are_distinct setup.server.methods)
        whole.server_kinds).0

    talks : (runs : Mode) (id : ℕ) (begun : ServerViews) → Has begun fit.kind
        → Talks setup.peer (made_in runs setup) fit.kind id begun
    talks runs id begun has = talks_of setup whole names runs fit.kind id fit.user allowed fit.known
        fit.not_barred fit.one_key fit.accepted fit.suite begun has

    begins : Has (server_views_started setup.server) fit.kind
    begins = has_each setup.server fit.kind (found_as_all (is_among setup.peer.methods)
        is_kind setup.server.methods fit.kind fit.common kinds)
        (found_among (is_among setup.peer.methods) setup.server.methods fit.kind fit.common)

    -- the method that the server proposes first
    first_chosen : (first : ℕ) (rest : List ℕ) → setup.server.methods ≡ first ∷ rest
        → next_kind setup.server.methods [] None ≡ Some first
    first_chosen first rest order =
        ap (λ (methods : List ℕ). next_kind methods [] None) order ∙ first_is_next first rest

    common_in : (first : ℕ) (rest : List ℕ) → setup.server.methods ≡ first ∷ rest
        → find (is_among setup.peer.methods) (first ∷ rest) ≡ Some fit.kind
    common_in first rest order =
        ap (λ (methods : List ℕ). find (is_among setup.peer.methods) methods) (sym order)
        ∙ fit.common

    -- the peer takes it
    logs_in_alike : (runs : Mode) (first : ℕ) (rest : List ℕ) → setup.server.methods ≡ first ∷ rest
        → is_among setup.peer.methods first ≡ true
        → (let n = number_opened runs in let w = talked runs (opened runs (started runs setup)) n in
        EndsWell w (delivered w (last_number runs n)) (last_number runs n))
    logs_in_alike runs first rest order takes =
        let id : ℕ = after_id setup.first_id in
        let talk = talks runs id (server_views_started setup.server) begins in
        let same = allowed_is_common setup.peer.methods first fit.kind rest takes
        (common_in first rest order) in
        talks_through setup.peer (made_in runs setup) fit.kind id
        (server_views_started setup.server) talk runs form (opened runs (started runs setup))
        (number_opened runs) setup.first_id _ _ (fit.kind ∷ []) fit.reads refl
        (ids_differ setup.first_id) allowed (opens setup runs form refl fit.kind talk.asks
        talk.asked names.peer talk.is_method talk.asks_bounded
        (first_chosen first rest order ∙ ap (λ (kind : ℕ). Some kind) same) talk.offered)

    -- the peer refuses it
    logs_in_after_nak : (runs : Mode) (first : ℕ) (rest : List ℕ)
        → setup.server.methods ≡ first ∷ rest → is_among setup.peer.methods first ≡ false
        → (let n = number_opened runs in let next = number_after runs (number_after runs n) in
        let w = talked runs (exchanged runs (exchanged runs (opened runs (started runs setup)) n)
        (number_after runs n)) next in
        EndsWell w (delivered w (last_number runs next)) (last_number runs next))
    logs_in_after_nak runs first rest order refuses =
        let n : ℕ = number_opened runs in
        let w : WorldNow = opened runs (started runs setup) in
        let id : ℕ = after_id setup.first_id in
        let is_first = and_parts (is_kind first) (list_all is_kind rest)
        (ap (list_all is_kind) (sym order) ∙ kinds) in
        let offer = offers_of (made_in runs setup) (short setup whole names) first id
        (server_views_started setup.server) (has_each setup.server first is_first.0
        (ap (λ (methods : List ℕ). is_among methods first) order
        ∙ or_left (first == first) (is_among rest first)
        (eq-eqb first first refl))) in
        let talk = talks runs (after_id id) offer.asked (offer.keeps fit.kind begins) in
        let next = ap (λ (methods : List ℕ). next_kind methods (first ∷ [])
        (Some (nak_of setup.peer.methods))) order
        ∙ common_is_next setup.peer.methods first fit.kind rest refuses
        (common_in first rest order) in
        talks_through setup.peer (made_in runs setup) fit.kind
        (after_id id) offer.asked talk runs form (exchanged runs (exchanged runs w n)
        (number_after runs n)) (number_after runs (number_after runs n))
        id _ _ (first ∷ fit.kind ∷ []) fit.reads refl (ids_differ id) allowed
        (proposes_next setup.peer (made_in runs setup)
        runs form w n id first fit.kind setup.first_id offer.asks _ talk.asks offer.asked talk.asked
        fit.reads refl offer.is_method talk.is_method offer.fits talk.asks_bounded
        (reads_back setup.peer.methods whole.peer_kinds
        (few_kinds setup.peer.methods whole.peer_kinds)) (ids_differ setup.first_id)
        refuses next talk.offered
        (opens setup runs form refl first offer.asks offer.asked names.peer offer.is_method
        offer.fits (first_chosen first rest order) offer.offered))

    logs_in_by : (runs : Mode) (first : ℕ) (rest : List ℕ) → setup.server.methods ≡ first ∷ rest
        → (takes : Bool) → is_among setup.peer.methods first ≡ takes
        → SucceedsAt (in_mode runs setup) (bound_in runs takes)
    unfolding run_after deliveries
    logs_in_by mode.Alone first rest order true takes =
        logs_in_alike mode.Alone first rest order takes
    logs_in_by mode.Through first rest order true takes =
        logs_in_alike mode.Through first rest order takes
    logs_in_by mode.Alone first rest order false refuses =
        logs_in_after_nak mode.Alone first rest order refuses
    logs_in_by mode.Through first rest order false refuses =
        logs_in_after_nak mode.Through first rest order refuses

    logs_in_at : (runs : Mode) (order : List ℕ) → setup.server.methods ≡ order
        → SucceedsAt (in_mode runs setup) (bound_in runs (takes_first setup.peer.methods order))
    logs_in_at runs [] none = absurd (none-some fit.kind (ap (λ (methods : List ℕ).
        find (is_among setup.peer.methods) methods) (sym none) ∙ fit.common))
    logs_in_at runs (first ∷ rest) order =
        logs_in_by runs first rest order (is_among setup.peer.methods first) refl

    logs_in : SucceedsAt setup (event_bound setup)
    logs_in = logs_in_at setup.mode setup.server.methods refl

-- deliveries alone begin no second conversation
started_once : (setup : Setup) (count : ℕ)
    → length (run_of setup (deliveries 1 count)).conversations.begun ≡ 2
unfolding world_start
started_once setup count = ap length (all_started (world_start (initial_world setup)).after 1 count)

-- both ends in SUCCESS over an honest book agree
is_logged_in : (setup : Setup) (events : List Event) (number : ℕ) → IsWhole setup
    → length (run_of setup events).conversations.begun ≡ 2
    → BothIn (run_of setup events) number → IsLoggedIn (run_of setup events)
is_logged_in setup events number whole once both =
    let honest : tags_verdict (run_of setup events).book ≡ Honest = ap verdict_on both.honest in
    record {
      peer = both.peer;
      server = both.server;
      none_discarded = both.none_discarded;
      honest = honest;
      agree = (honest_ends_agree setup events whole).agrees honest (inl once) both.peer both.server;
    }

-- the run over more deliveries goes on where that over fewer ends
run_parted : (w : WorldNow) (first count more : ℕ)
    → run_after w (deliveries first (count + more))
    ≡ run_after (run_after w (deliveries first count)) (deliveries (first + count) more)
unfolding run_after deliveries
run_parted w first zero more =
    let none : 0 + more ≡ more = omega arith in
    let here : first + 0 ≡ first = omega arith in
    rw (none, here) refl
run_parted w first (suc count) more =
    let one_more : suc count + more ≡ suc (count + more) = omega arith in
    let behind : first + suc count ≡ first + 1 + count = omega arith in
    rw (one_more, behind) (run_parted (delivered w first) (first + 1) count more)

-- The cases are the two modes, and whether the peer allows the server's first method. In each the
-- run is followed packet by packet: the Identity round (`opens`), the Nak and the next proposal if
-- there are any (`proposes_next`), the method's own packets (`talks_through`). Both ends are then
-- in SUCCESS over an honest book, so that they agree by `honest_ends_agree`. Further deliveries
-- change nothing (`stay_in`).
pub smooth_logins_succeed : SmoothLoginsSucceed
smooth_logins_succeed setup events whole names fit order enough =
    let most : ℕ = event_bound setup in
    let succeeds : SucceedsAt setup most = logs_in setup whole names fit in
    let first : (count : ℕ) → count ≤ length events → take count events ≡ deliveries 1 count =
    λ count few. ap (λ (all : List Event). take count all) order
    ∙ prefix_deliveries 1 count (length events) few in
    let parts : most + (length events - most) ≡ length events = omega arith in
    let all : run_of setup events
    ≡ run_after (run_of setup (deliveries 1 most)) (deliveries (1 + most) (length events - most)) =
    ap (run_of setup) (order ∙ ap (deliveries 1) (sym parts))
    ∙ run_parted (world_start (initial_world setup)).after 1 most (length events - most) in
    let stays : BothIn (run_of setup events) most =
    subst (λ (w : WorldNow). BothIn w most) (sym all)
    (stay_in (run_of setup (deliveries 1 most)) most (1 + most) (length events - most) succeeds.both
    (omega arith)) in
    let once : length (run_of setup events).conversations.begun ≡ 2 =
    subst (λ (some : List Event). length (run_of setup some).conversations.begun ≡ 2) (sym order)
    (started_once setup (length events)) in
    record {
      not_before =
          ap (λ (some : List Event). is_success (run_of setup some).parties.peer.vars.state) (first
          (most - 1) (omega arith)) ∙ succeeds.waits;
      in_time =
          subst (λ (some : List Event). IsLoggedIn (run_of setup some)) (sym (first most enough))
          (is_logged_in setup (deliveries 1 most) most whole (started_once setup most)
          succeeds.both);
      stays = is_logged_in setup events most whole once stays;
    }
