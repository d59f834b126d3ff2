-- The traces of smooth logins end with agreement.
use Rattle.std.proofs.Common.{◌≡◌, ℕ, List, ◌++◌, Bool, Some, refl, sym, ap, subst, ◌∙◌}
use Rattle.std.proofs.Common.{append_assoc, append-nil, []}
use Rattle.std.specs.Prelude.{Option, codes, decimal}
use Rattle.login_setup.specs.declared.event.Event.{Event}
use Rattle.login_setup.specs.declared.setup.Setup.{Setup}
use Rattle.octet_io.specs.Lines.{lines}
use Rattle.eap_packet.specs.declared.state.State.{State}
use Rattle.tag_book.specs.Book.{tags_verdict}
use Rattle.eap_world.specs.Judgement.{verdict_of}
use Rattle.eap_world.specs.World.{WorldNow, pass_state, world_start}
use Rattle.tag_book.specs.declared.book.TagsVerdict.{TagsVerdict}
use Rattle.tag_book.specs.declared.book.TagsVerdict.TheVariants.{Honest}
use Rattle.eap_world.specs.declared.told.Counts.{Counts}
use Rattle.eap_world.specs.declared.verdict.Verdict.{Verdict}
use Rattle.eap_world.specs.declared.verdict.Verdict.TheVariants.{Agree}
use Rattle.scenario_text.specs.Reading.{no_settings}
use Rattle.scenario_text.specs.Valid.{IsValidSetup}
use Rattle.text_tables.specs.declared.phase.Phase.TheVariants as phase
use Rattle.scenario_text.proofs.ValidReading.{no_settings_valid}
use Rattle.smooth_laws.specs.Smooth.{HasShortNames}
use Rattle.smooth_laws.proofs.LaterLogins.{logins_succeed}
use Rattle.trace_text.specs.Run.{start_line_text, end_text, end_text_of, end_state_text}
use Rattle.trace_text.specs.Run.{counts_text, fresh_text, freshness_shown, tags_text, result_text}
use Rattle.command_driver.specs.Answers.{after_text}
use Rattle.world_laws.proofs.Versions.{version_preserved}
use Rattle.world_commands.specs.Scenario.{Scenario, replay_answer, whole, events_text}
use Rattle.world_commands.specs.Scenario.{scenario_answer, setup_answer, trace_header}
use Rattle.world_commands.specs.SmoothTraces.{ShowsAgreement, SmoothTracesAgree, told_of}
use Rattle.world_commands.proofs.Headline.{setup_valid, whole_if_valid}
use Rattle.world_commands.proofs.Inputs.{inputs_are_scenarios}
use Rattle.world_laws.specs.Runs.{initial_world, run_of}

-- the lines of the counts, but for the last LF
front_of_counts : Counts → List ℕ
front_of_counts counts =
    codes "events " ++ (decimal counts.events ++ (codes "\ndeliveries "
    ++ (decimal counts.deliveries ++ (codes "\ndiscards " ++ decimal counts.discards))))

last_of_six : (a b c d e f x : List ℕ) → a ++ (b ++ (c ++ (d ++ (e ++ (f ++ (x ++ []))))))
    ≡ (a ++ (b ++ (c ++ (d ++ (e ++ f))))) ++ x
last_of_six a b c d e f x = simp (append_assoc, append-nil)

counts_end : (counts : Counts) → counts_text counts ≡ front_of_counts counts ++ codes "\n"
unfolding counts_text front_of_counts
counts_end counts =
    last_of_six (codes "events ") (decimal counts.events) (codes "\ndeliveries ")
    (decimal counts.deliveries) (codes "\ndiscards ") (decimal counts.discards) (codes "\n")

-- the last lines
abbrev last_lines : Option Bool → List ℕ
last_lines fresh = codes "\n" ++ (fresh_text fresh ++ codes "tags honest\nresult agree\nend\n")

end_agrees : (peer : State) (pass : Option State) (server : State) (counts : Counts)
    (fresh : Option Bool) (tags : TagsVerdict) (verdict : Verdict)
    → tags ≡ Honest → verdict ≡ Agree → end_text_of peer pass server counts fresh tags verdict
    ≡ (end_state_text peer pass server ++ front_of_counts counts) ++ last_lines fresh
unfolding end_text_of tags_text result_text
end_agrees peer pass server counts fresh tags verdict honest agree =
    let told : List ℕ = codes "tags honest\nresult agree\nend\n" in
    let stands : List ℕ = end_state_text peer pass server in
    ap (λ (t : TagsVerdict). stands
    ++ (counts_text counts ++ (fresh_text fresh ++ (tags_text t ++ result_text verdict)))) honest
    ∙ ap (λ (v : Verdict). stands
    ++ (counts_text counts ++ (fresh_text fresh ++ (tags_text Honest ++ result_text v)))) agree
    ∙ ap (λ (t : List ℕ). stands ++ (t ++ (fresh_text fresh ++ told))) (counts_end counts)
    ∙ ap (λ (t : List ℕ). stands ++ t)
    (append_assoc (front_of_counts counts) (codes "\n") (fresh_text fresh ++ told))
    ∙ sym (append_assoc stands (front_of_counts counts) (last_lines fresh))

-- four texts before the last
last_of_five : (a b c d e x : List ℕ) → e ≡ d ++ x
    → a ++ (b ++ (c ++ e)) ≡ (a ++ (b ++ (c ++ d))) ++ x
last_of_five a b c d e x is =
    ap (λ (t : List ℕ). a ++ (b ++ (c ++ t))) is
    ∙ ap (λ (t : List ℕ). a ++ (b ++ t)) (sym (append_assoc c d x))
    ∙ ap (λ (t : List ℕ). a ++ t) (sym (append_assoc b (c ++ d) x))
    ∙ sym (append_assoc a (b ++ (c ++ d)) x)

-- a run whose ends agree over honest tags is told so
run_implies : (names : Bool) (setup : Setup) (events : List Event)
    → (let w = run_of setup events in tags_verdict w.book ≡ Honest → verdict_of w ≡ Agree
    → ShowsAgreement (freshness_shown w)
    (after_text trace_header (setup_answer names (Some setup) events whole)))
run_implies names setup events honest agree =
    let w : WorldNow = run_of setup events in
    let begun = world_start (initial_world setup) in
    let front : List ℕ =
    end_state_text w.parties.peer.vars.state (pass_state w.parties.mode
    w.parties.pass) w.parties.server.vars.state ++ front_of_counts w.counts in
    record {
      status = refl;
      before = trace_header
          ++ (start_line_text names begun ++ (events_text names begun.after events ++ front));
      text = last_of_five trace_header (start_line_text names begun)
          (events_text names begun.after events) front (end_text w) _
          (end_agrees w.parties.peer.vars.state (pass_state w.parties.mode w.parties.pass)
          w.parties.server.vars.state w.counts (freshness_shown w)
          (tags_verdict w.book) (verdict_of w) honest agree);
    }

-- The input reads as the scenario of these events, whose setup is valid, so that its run is one of
-- smooth logins: `logins_succeed` says that its book is honest, that both ends agree and whether
-- nonces were fresh. The trace ends with the lines of just that (`run_implies`).
pub smooth_traces_agree : SmoothTracesAgree
smooth_traces_agree octets setup fresh events names input fit logins =
    let is = inputs_are_scenarios.taken octets setup events input in
    let valid : IsValidSetup setup = setup_valid (lines octets) 0 0
    (record { phase = phase.Unread; settings = no_settings }) setup no_settings_valid
    (ap (λ (s : Scenario). s.setup) is) in
    let names_fit : HasShortNames setup =
    record { peer = valid.peer.name.few; server = valid.server.name.few } in
    let succeed =
    logins_succeed setup fresh events (whole_if_valid setup valid) names_fit fit logins in
    let told : freshness_shown (run_of setup events) ≡ told_of setup.later.version fresh =
    ap (λ (version : ℕ). told_of version (run_of setup events).conversations.fresh)
    (version_preserved setup events)
    ∙ ap (told_of setup.later.version) succeed.told in
    subst (λ (f : Option Bool). ShowsAgreement f (replay_answer names octets)) told
    (subst (ShowsAgreement (freshness_shown (run_of setup events)))
    (ap (λ (s : Scenario). after_text trace_header (scenario_answer names s)) (sym is))
    (run_implies names setup events succeed.last.honest succeed.last.agree))
