-- An event that is discarded changes nothing but the counts, and each report that an end holds was
-- told of.
use Rattle.std.proofs.Common.{◌≡◌, ℕ, List, [], ◌++◌, Bool, true, false, Option, Some, None, refl}
use Rattle.std.proofs.Common.{ap, subst, sym, ◌∙◌, append-nil}
use Rattle.std.specs.Prelude.{IsSome}
use Rattle.std.proofs.lemmas.Bool.{cond_both}
use Rattle.login_setup.specs.declared.setup.Party.{Party}
use Rattle.login_setup.specs.declared.setup.Party.TheVariants as party
use Rattle.login_setup.specs.declared.setup.Setup.{Setup}
use Rattle.eap_method.specs.Tags.{no_tags}
use Rattle.eap_method.specs.declared.values.Report.{Report}
use Rattle.peer_machine.specs.Inputs as peer_inputs
use Rattle.peer_machine.specs.Inputs.{PeerInput, peer_accepts}
use Rattle.peer_machine.specs.PeerTable.{PeerNow, peer_restart}
use Rattle.peer_machine.proofs.Discards as peer_discards
use Rattle.server_machine.specs.Inputs as server_inputs
use Rattle.server_machine.specs.Inputs.{ServerInput, server_accepts}
use Rattle.server_machine.specs.ServerTable.{ServerAnswer, ServerNow, is_backend, server_restart}
use Rattle.server_machine.specs.ServerTable.{server_start}
use Rattle.server_machine.proofs.Discards as server_discards
use Rattle.pass_through.specs.Inputs.{pass_accepts}
use Rattle.pass_through.proofs.Carrying as pass_discards
use Rattle.eap_world.specs.Conversations.{Conversations}
use Rattle.world_laws.specs.Laws.{HasTracedReports, PreservesBothEnds, DiscardsChangeNothing}
use Rattle.world_laws.specs.Laws.{ReportsAreTraced}
use Rattle.eap_world.specs.World.{Call, Called, CallResult, Parties, WorldNow, WorldOutcome}
use Rattle.eap_world.specs.World.{act_with, booked_of, act_of_call, did_by, did_pass, end_of}
use Rattle.eap_world.specs.World.{first_report, has_reported, reported_after, held_by, is_delivery}
use Rattle.eap_world.specs.World.{named_by, report_of, sent_to, start_call, to_pass, to_peer}
use Rattle.eap_world.specs.World.{to_server, world_start, world_step}
use Rattle.tag_book.specs.declared.book.End.{End}
use Rattle.eap_world.specs.declared.world.HasReported.{HasReported}
use Rattle.world_laws.proofs.Acting.{Steps, skips, calls, peer_restarts, server_restarts}
use Rattle.world_laws.proofs.Acting.{counted_acted, run_preserves, step_steps}
use Rattle.world_laws.specs.Runs.{initial_world}

-- a report that was told of isn't told of again
implies_once : (was : Bool) (of : Party) (report : Option Report) → (IsSome report → was ≡ true)
    → first_report was of report ≡ None
implies_once true of report told = refl
implies_once false of None told = refl
implies_once false of (Some report) told = let contrary = told refl in cc contrary

none_booked : (event : ℕ) (end : Option End) → booked_of event end no_tags ≡ []
none_booked event None = refl
none_booked event (Some end) = refl

-- a call that leaves the parties as they were, with nothing to send and no tag
call_preserves : (w : WorldNow) (conversations : Conversations) (did : CallResult) (after : Parties)
    → after ≡ w.parties → did.step.sent ≡ None → did.step.tags ≡ no_tags
    → PreservesBothEnds w (counted_acted w w.held conversations (act_with (Called did) after)).after
call_preserves w conversations did after same unsent untagged = record {
  parties = same;
  sent = ap (λ sent. w.sent ++ sent_to did.port sent) unsent ∙ append-nil w.sent;
  book = ap (λ entries. w.book ++ entries) (ap (booked_of _ (end_of did.party)) untagged
      ∙ none_booked _ (end_of did.party)) ∙ append-nil w.book;
  held = λ told. ap (reported_after w.held)
      (subst (λ (now : Parties). first_report (has_reported w.held did.party) did.party (report_of
      now did.party) ≡ None) (sym same) (implies_once (has_reported w.held did.party) did.party
      (report_of w.parties did.party) (told.each did.party)));
}

-- a new conversation discards nothing
peer_receives_none : (now : PeerNow) (nonce : List ℕ)
    → IsSome (peer_accepts now (peer_inputs.restart nonce)).step.cause → ⊥
unfolding peer_restart
peer_receives_none now nonce is_discard = cc is_discard

server_receives_none : (now : ServerNow) (nonce : List ℕ)
    → IsSome (server_accepts now (server_inputs.restart nonce)).step.cause → ⊥
unfolding server_restart server_start
server_receives_none now nonce =
    cond_both (is_backend now.vars) _ _ (λ (out : ServerAnswer). IsSome out.step.cause → ⊥)
    (λ _ is_discard. cc is_discard) (λ _ is_discard. cc is_discard)

steps_preserve : (w : WorldNow) (out : WorldOutcome) → Steps w out → IsSome out.told.cause
    → PreservesBothEnds w out.after
steps_preserve w _ (skips skip) is_discard = cc is_discard
steps_preserve w _ (calls (to_peer input) later on) is_discard =
    let out = peer_accepts w.parties.peer input in
    let same = peer_discards.discards_change_nothing w.parties.peer input is_discard in
    call_preserves w _ (did_by w.parties.mode party.Peer (is_delivery (to_peer input)) out.step) _
    (ap (λ peer. record w.parties { peer = peer }) same.all) same.sent same.tags
steps_preserve w _ (calls (to_server input) later on) is_discard =
    let out = server_accepts w.parties.server input in
    let same = server_discards.discards_change_nothing w.parties.server input is_discard in
    call_preserves w _
    (did_by w.parties.mode party.Server (is_delivery (to_server input)) out.step) _
    (ap (λ server. record w.parties { server = server }) same.all) same.sent same.tags
steps_preserve w _ (calls (to_pass input) later on) is_discard =
    let out = pass_accepts w.parties.pass input in
    let same = pass_discards.discards_change_nothing w.parties.pass input is_discard in
    call_preserves w _ (did_pass input out.step) _
    (ap (λ pass. record w.parties { pass = pass }) same.all) same.sent refl
steps_preserve w _ (peer_restarts one left next) is_discard =
    absurd (peer_receives_none w.parties.peer one.nonce is_discard)
steps_preserve w _ (server_restarts one left next) is_discard =
    absurd (server_receives_none w.parties.server one.nonce is_discard)

pub discards_change_nothing : DiscardsChangeNothing
discards_change_nothing w e = steps_preserve w (world_step w e) (step_steps w e)

-- what a party was seen to hold it still was
still_stored : (held : HasReported) (of other : Party) → has_reported held other ≡ true
    → has_reported (held_by held of) other ≡ true
still_stored held party.Peer party.Peer was = refl
still_stored held party.Peer party.Pass was = was
still_stored held party.Peer party.Server was = was
still_stored held party.Pass other was = was
still_stored held party.Server party.Peer was = was
still_stored held party.Server party.Pass was = was
still_stored held party.Server party.Server was = refl

stays : (held : HasReported) (was : Bool) (of other : Party) (report : Option Report)
    → has_reported held other ≡ true
    → has_reported (reported_after held (first_report was of report)) other ≡ true
stays held true of other report held_it = held_it
stays held false of other None held_it = held_it
stays held false of other (Some report) held_it = still_stored held of other held_it

-- what an end is seen to hold was told of
names : (held : HasReported) (was : Bool) (of : Party) (report : Option Report)
    → has_reported held of ≡ was → has_reported (held_by held of) of ≡ true → IsSome report
    → has_reported (reported_after held (first_report was of report)) of ≡ true
names held true of report same own is = same
names held false of None same own is = cc is
names held false of (Some report) same own is = own

each_reported : (held : HasReported) (parties : Parties) (call : Call)
    → HasTracedReports held parties → (of : Party)
    → (let out = act_of_call parties call in IsSome (report_of out.after of)
    → has_reported (reported_after held (named_by held out.after out.action)) of ≡ true)
each_reported held parties (to_peer input) told party.Peer is =
    names held _ party.Peer _ refl refl is
each_reported held parties (to_peer input) told party.Pass is = cc is
each_reported held parties (to_peer input) told party.Server is =
    stays held _ party.Peer party.Server _ (told.each party.Server is)
each_reported held parties (to_server input) told party.Peer is =
    stays held _ party.Server party.Peer _ (told.each party.Peer is)
each_reported held parties (to_server input) told party.Pass is = cc is
each_reported held parties (to_server input) told party.Server is =
    names held _ party.Server _ refl refl is
each_reported held parties (to_pass input) told party.Peer is = told.each party.Peer is
each_reported held parties (to_pass input) told party.Pass is = cc is
each_reported held parties (to_pass input) told party.Server is = told.each party.Server is

-- an end that holds none in its new conversation, which is seen from the first
peer_result : (held : HasReported) (parties : Parties) (input : PeerInput)
    → HasTracedReports held parties → (of : Party)
    → (let anew = record held { peer = false } in let out = act_of_call parties (to_peer input) in
    IsSome (report_of out.after of)
    → has_reported (reported_after anew (named_by anew out.after out.action)) of ≡ true)
peer_result held parties input told party.Peer is =
    names (record held { peer = false }) false party.Peer
    (report_of (act_of_call parties (to_peer input)).after party.Peer) refl refl is
peer_result held parties input told party.Pass is = cc is
peer_result held parties input told party.Server is =
    stays (record held { peer = false }) false party.Peer party.Server
    (report_of (act_of_call parties (to_peer input)).after party.Peer)
    (told.each party.Server is)

server_result : (held : HasReported) (parties : Parties) (input : ServerInput)
    → HasTracedReports held parties → (of : Party)
    → (let anew = record held { server = false } in
    let out = act_of_call parties (to_server input) in
    IsSome (report_of out.after of)
    → has_reported (reported_after anew (named_by anew out.after out.action)) of ≡ true)
server_result held parties input told party.Peer is =
    stays (record held { server = false }) false party.Server party.Peer
    (report_of (act_of_call parties (to_server input)).after party.Server)
    (told.each party.Peer is)
server_result held parties input told party.Pass is = cc is
server_result held parties input told party.Server is =
    names (record held { server = false }) false party.Server
    (report_of (act_of_call parties (to_server input)).after party.Server) refl refl is

-- the held reports of both ends stay told of
steps_imply : (w : WorldNow) (out : WorldOutcome) → Steps w out → HasTracedReports w.held w.parties
    → HasTracedReports out.after.held out.after.parties
steps_imply w _ (skips skip) told = told
steps_imply w _ (calls call later same) told =
    record { each = each_reported w.held w.parties call told }
steps_imply w _ (peer_restarts one left next) told =
    record { each = peer_result w.held w.parties (peer_inputs.restart one.nonce) told }
steps_imply w _ (server_restarts one left next) told =
    record { each = server_result w.held w.parties (server_inputs.restart one.nonce) told }

-- before the start no end holds a report
none_created : (setup : Setup) (of : Party) → (let w = initial_world setup in
    IsSome (report_of w.parties of) → has_reported w.held of ≡ true)
none_created setup party.Peer is = cc is
none_created setup party.Pass is = cc is
none_created setup party.Server is = cc is

pub reports_are_traced : ReportsAreTraced
unfolding world_start
reports_are_traced setup events =
    let w = initial_world setup in
    run_preserves (λ (w : WorldNow). HasTracedReports w.held w.parties) steps_imply
    (world_start w).after events (record {
      each = each_reported w.held w.parties (start_call setup.mode)
          (record { each = none_created setup });
    })
