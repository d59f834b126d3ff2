-- Every input of the server after its start keeps what stands of it, but for the begin of a new
-- conversation, in which it stands anew.
use Rattle.std.proofs.Common.{◌≡◌, ℕ, List, [], ◌++◌, Bool, true, false, Option, Some, None, refl}
use Rattle.std.proofs.Common.{ap, sym, subst, ◌∙◌, append-nil}
use Rattle.std.specs.Prelude.{◌==◌, not}
use Rattle.std.proofs.lemmas.Bool.{and_parts, cond_both, false≢true, not-true}
use Rattle.login_setup.specs.Setup.{ServerSetup}
use Rattle.login_setup.specs.declared.users.User.{User}
use Rattle.eap_packet.specs.Fault.{code_of}
use Rattle.eap_packet.specs.Packet.{response, spelled}
use Rattle.eap_packet.specs.declared.state.State.{State}
use Rattle.eap_packet.specs.declared.state.State.TheVariants as state
use Rattle.eap_method.specs.declared.tags.TagRecord.{TagRecord}
use Rattle.eap_method.specs.Tags.{Tags, no_tags}
use Rattle.eap_method.specs.ServerTurn.{ServerTurn}
use Rattle.eap_method.specs.ServerTurn as turn
use Rattle.eap_method.specs.BothServers.{both_of}
use Rattle.eap_method.specs.Server.{ServerViews, Offer, server_turn}
use Rattle.eap_method.specs.Turns.{ServerOutcome}
use Rattle.server_machine.specs.Expanded.{response_octets, discards_bad, wraps_sent}
use Rattle.server_machine.specs.Inputs.{ServerInput, start, restart, server_answers, server_accepts}
use Rattle.server_machine.specs.Inputs as inputs
use Rattle.server_machine.specs.Rows as rows
use Rattle.server_machine.specs.Rows.{Selects, after_identity, after_nak, first_identity, first_nak}
use Rattle.server_machine.specs.Rows.{first_other}
use Rattle.server_machine.specs.ServerTable as wide
use Rattle.server_machine.specs.ServerTable.{ServerNow, ServerAnswer, setup_with_nonce}
use Rattle.server_machine.specs.ServerTable.{server_restart, next_id, with_request, offers}
use Rattle.server_machine.specs.ServerTable.{is_proposed, is_started, awaits_first, is_backend}
use Rattle.server_machine.specs.ServerTable.{picked_up, server_deliver, server_start}
use Rattle.server_machine.specs.declared.variables.Role.{Role}
use Rattle.server_machine.proofs.Receiving.{ServerReceiving, as_it_is, bad, wrapping}
use Rattle.server_machine.proofs.ServerRows.{server_answers_are_rows}
use Rattle.server_machine.specs.declared.variables.Progress.{Progress}
use Rattle.server_machine.specs.declared.variables.Progress.TheVariants as progress
use Rattle.server_machine.specs.Variables.{ServerVariables}
use Rattle.eap_world.specs.Judgement.{is_success}
use Rattle.method_laws.specs.Records.{AreFew, AreNone, untagged}
use Rattle.method_laws.specs.ServerHistory.{ServerHas, identity_round, unproposed}
use Rattle.world_laws.specs.Runs.{initial_server}
use Rattle.world_laws.specs.ServerInvariant.{IsUntouched, ServerInvariant, ServerInvariantOf}
use Rattle.method_laws.specs.Objects.{ServerHasMethods}
use Rattle.world_laws.proofs.Unended.{goes_on}
use Rattle.method_laws.proofs.ServerObjects.{both_are, methods_after, methods_started}
use Rattle.world_laws.proofs.Proposing.{proposes_own}
use Rattle.method_laws.proofs.ServerByMethod.{tags_few}
use Rattle.method_laws.proofs.ServerHistories.{Offers, asks, ends_has, in_identity, in_none, lacks}
use Rattle.method_laws.proofs.ServerHistories.{requests_has}
use Rattle.world_laws.proofs.EndTags.{server_tags}
use Rattle.world_laws.proofs.Accepting.{server_accepted_tags}

-- ---- the begin

module _ (of : Role) (setup : ServerSetup) (first views : ServerViews)
    (objects : ServerHasMethods setup.methods first views) (first_id max_retrans : ℕ) where
  pub initiates_with : ServerInvariantOf first setup
      (wide.initial_server of setup views first_id max_retrans) [] []
  initiates_with = record {
    own = refl;
    objects = methods_started setup first views objects;
    good = false;
    has = unproposed refl;
    unstarted = λ _. record { no_method = refl; no_id = refl };
    proposed = λ _. untagged;
    sure = λ e. absurd (false≢true e);
  }

  pub starts_with : (let out = server_start
      (wide.initial_server of setup views first_id max_retrans) in
      ServerInvariantOf first setup out.after [] [])
  unfolding server_start
  starts_with = record {
    own = refl;
    objects = methods_started setup first views objects;
    good = false;
    has = identity_round refl;
    unstarted = λ e. absurd (false≢true (sym e));
    proposed = λ _. untagged;
    sure = λ e. absurd (false≢true e);
  }

pub server_initiates : (of : Role) (setup : ServerSetup) (first_id max_retrans : ℕ)
    → ServerInvariant setup (initial_server of setup first_id max_retrans) [] []
server_initiates of setup = initiates_with of setup (both_of setup.methods)
    (both_of setup.methods) (both_are setup.methods)

pub started_invariant : (of : Role) (setup : ServerSetup) (first_id max_retrans : ℕ)
    → (let out = server_start (initial_server of setup first_id max_retrans) in
    ServerInvariant setup out.after [] [])
started_invariant of setup = starts_with of setup (both_of setup.methods)
    (both_of setup.methods) (both_are setup.methods)

-- ---- the calls

none_had : {setup : ServerSetup} {current : Option ℕ} {views : ServerViews}
    {accepted made : List TagRecord} → AreNone accepted made
    → ServerHas setup current views false [] [] → ServerHas setup current views false accepted made
none_had untagged has = has

-- what stands after a call, with the tags of its step
record Preserves (first : ServerViews) (setup : ServerSetup) (accepted made : List TagRecord)
    (out : ServerAnswer) : Type 0 where
  pub stands : ServerInvariantOf first setup out.after (accepted ++ out.step.tags.accepted)
      (made ++ out.step.tags.made)

-- a call without tags
quiet : (first : ServerViews) (setup : ServerSetup) (accepted made : List TagRecord)
    (out : ServerAnswer)
    → out.step.tags ≡ no_tags
    → ServerInvariantOf first setup out.after accepted made
    → Preserves first setup accepted made out
quiet first setup accepted made out is_quiet stands = record {
  stands = subst (λ (tags : Tags). ServerInvariantOf first setup out.after
      (accepted ++ tags.accepted)
      (made ++ tags.made)) (sym is_quiet) (rw (append-nil accepted, append-nil made) stands);
}

module _ (first : ServerViews) (setup : ServerSetup) (now : ServerNow)
    (accepted made : List TagRecord)
    (stands : ServerInvariantOf first setup now accepted made) where
  -- another state, Identifier, progress and count of retransmissions
  remains : (s : State) (id : Option ℕ) (p : Progress) (count : ℕ)
      → (is_started (record now.vars { state = s }) ≡ false
      → IsUntouched (record now.vars { current_id = id }))
      → (is_proposed p ≡ true → AreNone accepted made)
      → (is_success s ≡ true → stands.good ≡ true)
      → ServerInvariantOf first setup (record {
        vars = record now.vars { state = s; current_id = id; progress = p; retrans_count = count };
        views = now.views;
      })
      accepted made
  remains s id p count unstarted proposed sure = record {
    own = stands.own;
    objects = stands.objects;
    good = stands.good;
    has = stands.has;
    unstarted = λ e. let untouched = unstarted e in
        record { no_method = untouched.no_method; no_id = untouched.no_id };
    proposed = proposed;
    sure = sure;
  }

  -- a server with a current Identifier has started
  started_by : (id : ℕ) → now.vars.current_id ≡ Some id → is_started now.vars ≡ false → ⊥
  started_by id is_id before =
      let none : now.vars.current_id ≡ None = (stands.unstarted before).no_id in cc

  own_users : now.vars.setup.users ≡ setup.users
  own_users = ap (λ (s : ServerSetup). s.users) stands.own

  turned_to : (id kind : ℕ) (body : List ℕ) (answered : ServerTurn) (views : ServerViews)
      → rows.Turns now id kind body answered views
      → server_turn setup.users (next_id now.vars) kind now.views (spelled (response id kind body))
      ≡ record { turn = answered; after = views }
  turned_to id kind body answered views turned =
      subst (λ (users : List User). server_turn users (next_id now.vars) kind now.views
      (spelled (response id kind body)) ≡ record { turn = answered; after = views })
      own_users turned.is_turn

  still_objects : (id kind : ℕ) (body : List ℕ) (answered : ServerTurn) (views : ServerViews)
      → rows.Turns now id kind body answered views → ServerHasMethods setup.methods first views
  still_objects id kind body answered views turned =
      subst (λ (out : ServerOutcome ServerViews). ServerHasMethods setup.methods first out.after)
      turned.is_turn (methods_after stands.objects now.vars.setup.users (next_id now.vars) kind
      (spelled (response id kind body)))

  after_request : (id kind : ℕ) (body packet : List ℕ) (tags : Tags) (views : ServerViews)
      → rows.Turns now id kind body (turn.Request packet tags) views
      → (is_started now.vars ≡ false → ⊥) → (is_success now.vars.state ≡ true → ⊥)
      → ServerInvariantOf first setup (record {
        vars = record (with_request now.vars packet) { progress = progress.Continue };
        views = views;
      })
      (accepted ++ tags.accepted) (made ++ tags.made)
  after_request id kind body packet tags views turned begun unsure = record {
    own = stands.own;
    objects = still_objects id kind body _ views turned;
    good = false;
    has = requests_has setup now.vars.current now.views stands.good accepted made
        (next_id now.vars) kind (spelled (response id kind body)) tags views stands.has
        turned.is_current turned.no_identity packet (turned_to id kind body _ views turned);
    unstarted = λ e. absurd (begun e);
    proposed = λ e. absurd (false≢true e);
    sure = λ e. absurd (unsure e);
  }

  after_end : (id kind : ℕ) (body : List ℕ) (good : Bool) (tags : Tags) (views : ServerViews)
      → rows.Turns now id kind body (turn.Done good tags) views → (s : State)
      → is_started (record now.vars { state = s }) ≡ true → (is_success s ≡ true → good ≡ true)
      → ServerInvariantOf first setup
      (record { vars = record now.vars { progress = progress.End; state = s }; views = views })
      (accepted ++ tags.accepted) (made ++ tags.made)
  after_end id kind body good tags views turned s begun sure = record {
    own = stands.own;
    objects = still_objects id kind body _ views turned;
    good = good;
    has = ends_has setup now.vars.current now.views stands.good accepted made (next_id now.vars)
        kind (spelled (response id kind body)) tags views stands.has turned.is_current
        turned.no_identity good (turned_to id kind body _ views turned);
    unstarted = λ e. absurd (false≢true (sym e ∙ begun));
    proposed = λ e. absurd (false≢true e);
    sure = sure;
  }

  -- a server that is to propose a method
  record Proposing (vars : ServerVariables) : Type 0 where
    pub own : vars.setup ≡ setup
    pub none : AreNone accepted made
    pub begun : is_started vars ≡ false → ⊥
    pub unsure : is_success vars.state ≡ true → ⊥
    pub gives_up : ServerInvariantOf first setup
        (record { vars = record vars { state = state.Failure }; views = now.views }) accepted made

  -- after a backend's first Response, before which it has made no tag
  picks_up : (id : ℕ) (p : Progress) → awaits_first now.vars ≡ true
      → (is_proposed p ≡ true → AreNone accepted made)
      → Proposing (record (picked_up now.vars id) { progress = p })
  picks_up id p awaited proposed =
      let before = not-true (is_started now.vars)
      (and_parts (is_backend now.vars) (not (is_started now.vars)) awaited).1 in
      record {
        own = stands.own;
        none = in_none setup now.vars.current now.views stands.good accepted made
            (stands.unstarted before).no_method stands.has;
        begun = λ e. false≢true (sym e);
        unsure = λ e. false≢true e;
        gives_up = remains _ _ _ _ (λ e. absurd (false≢true (sym e))) proposed
            (λ e. absurd (false≢true e));
      }

  proposing : (is_success now.vars.state ≡ true → ⊥)
      → (id kind : ℕ) (body : List ℕ) (entered : List State) (vars : ServerVariables)
      (desired : Option (List ℕ)) → Selects now id kind body entered vars desired → Proposing vars
  proposing unsure id kind body _ _ _ (after_identity is_id is_identity is_current unawaited) =
      record {
        own = stands.own;
        none = in_identity setup now.vars.current now.views stands.good accepted made is_current
            stands.has;
        begun = started_by id is_id;
        unsure = unsure;
        gives_up = remains _ _ _ _ (λ e. absurd (false≢true (sym e))) (λ e. absurd (false≢true e))
            (λ e. absurd (false≢true e));
      }
  proposing unsure id kind body _ _ _ (after_nak is_id is_nak waits unawaited) = record {
    own = stands.own;
    none = stands.proposed waits;
    begun = started_by id is_id;
    unsure = unsure;
    gives_up = remains _ _ _ _ (λ e. absurd (false≢true (sym e))) stands.proposed
        (λ e. absurd (false≢true e));
  }
  proposing unsure id kind body _ _ _ (first_identity awaited is_identity) =
      picks_up id progress.End awaited (λ e. absurd (false≢true e))
  proposing unsure id kind body _ _ _ (first_nak awaited is_nak) =
      picks_up id now.vars.progress awaited stands.proposed
  proposing unsure id kind body _ _ _ (first_other awaited no_nak no_identity) =
      picks_up id now.vars.progress awaited stands.proposed

  -- a method is offered, or there is no object of it
  offered : (entered : List State) (vars : ServerVariables) (id kind : ℕ) → Proposing vars
      → (offer : Offer) → Offers setup first kind now.views offer
      → Preserves first setup accepted made (offers entered vars offer.after id kind offer.packet)
  offered entered vars id kind at _ (asks packet after objects has) =
      quiet first setup accepted made _ refl (record {
        own = at.own;
        objects = objects;
        good = false;
        has = none_had at.none has;
        unstarted = λ e. absurd (at.begun e);
        proposed = λ _. at.none;
        sure = λ e. absurd (at.unsure e);
      })
  offered entered vars id kind at _ lacks = quiet first setup accepted made _ refl at.gives_up

  offer_preserves : (entered : List State) (vars : ServerVariables) (desired : Option (List ℕ))
      (id kind : ℕ) (offer : Offer) → Proposing vars
      → rows.Proposes now vars desired kind offer
      → Preserves first setup accepted made (offers entered vars offer.after id kind offer.packet)
  offer_preserves entered vars desired id kind offer at next = offered entered vars id kind at offer
      (proposes_own setup first now stands.objects vars desired kind offer at.own next)

  row_preserves : (input : ServerInput) (out : ServerAnswer) → (input ≡ start → ⊥)
      → ((nonce : List ℕ) → input ≡ restart nonce → ⊥)
      → rows.ServerRow now input out → Preserves first setup accepted made out
  row_preserves _ _ later same (rows.begins nonce) = absurd (same nonce refl)
  row_preserves _ _ later same
      (rows.ended bytes over) = quiet first setup accepted made _ refl stands
  row_preserves _ _ later same (rows.rests over) = quiet first setup accepted made _ refl stands
  row_preserves _ _ later same (rows.goes_on is_initiated) = absurd (later refl)
  row_preserves _ _ later same (rows.drops bytes path c going why) =
      quiet first setup accepted made _ refl stands
  row_preserves _ _ later same (rows.starts unstarted) = absurd (later refl)
  row_preserves _ _ later same (rows.resends going in_time) = quiet first setup accepted made _ refl
      (remains _ _ _ _ stands.unstarted stands.proposed stands.sure)
  row_preserves _ _ later same (rows.times_out going late) = quiet first setup accepted made _ refl
      (remains _ _ _ _ (λ e. absurd (false≢true (sym e))) stands.proposed
      (λ e. absurd (false≢true e)))
  row_preserves _ _ later same (rows.proposes bytes id kind body entered vars desired next packet
      views heard selects next_is) =
      offer_preserves entered vars desired id next _ (proposing (goes_on now.vars.state heard.going)
      id kind body entered vars desired selects) next_is
  row_preserves _ _ later same (rows.proposes_without bytes id kind body entered vars desired next
      views heard selects next_is) =
      offer_preserves entered vars desired id next _ (proposing (goes_on now.vars.state heard.going)
      id kind body entered vars desired selects) next_is
  row_preserves _ _ later same
      (rows.proposes_none bytes id kind body entered vars desired heard selects none) =
      quiet first setup accepted made _ refl (proposing (goes_on now.vars.state heard.going)
      id kind body entered vars desired selects).gives_up
  row_preserves _ _ later same (rows.requests bytes id kind body packet tags views heard turned) =
      record {
        stands = after_request id kind body packet tags views turned (started_by id turned.is_id)
            (goes_on now.vars.state heard.going);
      }
  row_preserves _ _ later same (rows.succeeds bytes id kind body tags views heard turned) =
      record { stands = after_end id kind body true tags views turned _ refl (λ _. refl) }
  row_preserves _ _ later same (rows.method_fails bytes id kind body tags views heard turned) =
      record { stands = after_end id kind body false tags views turned _ refl (λ e. e) }

  -- by the table alone
  abbrev IsConsistent : ServerInput → ServerAnswer → Type 0
  IsConsistent input out = (input ≡ start → ⊥) → ((nonce : List ℕ) → input ≡ restart nonce → ⊥)
      → Preserves first setup accepted made out

  answer_preserves : (input : ServerInput) → IsConsistent input (server_answers now input)
  answer_preserves input later same =
      row_preserves input _ later same (server_answers_are_rows now input)

  of_octets : (bytes : List ℕ)
      → Preserves first setup accepted made (server_answers now (inputs.octets bytes))
  of_octets bytes = answer_preserves (inputs.octets bytes) (λ e. cc e) (λ nonce e. cc e)

  -- lastReqData alone is another where a Request is wrapped
  wraps_preserve : (out : ServerAnswer) (sent : Option (List ℕ))
      → Preserves first setup accepted made out
      → Preserves first setup accepted made (wraps_sent out sent)
  wraps_preserve out None kept = kept
  wraps_preserve out (Some packet) kept =
      let s = kept.stands in
      cond_both (code_of packet == 1) _ _ (Preserves first setup accepted made)
      (λ _. record {
        stands = record {
          own = s.own;
          objects = s.objects;
          good = s.good;
          has = s.has;
          unstarted =
              λ e. record { no_method = (s.unstarted e).no_method; no_id = (s.unstarted e).no_id };
          proposed = s.proposed;
          sure = s.sure;
        };
      })
      (λ _. kept)

  bad_preserves : Preserves first setup accepted made (discards_bad now)
  bad_preserves =
      cond_both (awaits_first now.vars) _ _ (Preserves first setup accepted made)
      (λ _. quiet first setup accepted made _ refl stands)
      (λ _. quiet first setup accepted made _ refl stands)

  receiving_preserves : (bytes : List ℕ) (out : ServerAnswer) → ServerReceiving now bytes out
      → IsConsistent (inputs.octets bytes) out
  receiving_preserves bytes _ as_it_is later same = of_octets bytes
  receiving_preserves bytes _ (bad id kind body answers is_bad) later same = bad_preserves
  receiving_preserves bytes _ (wrapping id kind body answers good) later same =
      let out = server_deliver now (response_octets now.vars bytes id kind body) in
      wraps_preserve out out.step.sent (of_octets _)

-- every input after the start but the begin of a new conversation keeps what stands
pub server_preserves : {first : ServerViews} (setup : ServerSetup) (now : ServerNow)
    (accepted made : List TagRecord)
    (input : ServerInput) → (input ≡ start → ⊥)
    → ((nonce : List ℕ) → input ≡ restart nonce → ⊥)
    → ServerInvariantOf first setup now accepted made
    → (let out = server_accepts now input in ServerInvariantOf first setup out.after
    (accepted ++ out.step.tags.accepted) (made ++ out.step.tags.made))
server_preserves {first} setup now accepted made input later same stands =
    (server_accepted_tags now (IsConsistent first setup now accepted made stands)
    (answer_preserves first setup
    now accepted made stands) (receiving_preserves first setup now accepted made stands)
    input later same).stands

-- a server of these settings that begins a new conversation stands as one that was made, or has
-- started, with the new nonce
pub server_invariant_anew : {first : ServerViews} (setup : ServerSetup) (now : ServerNow)
    (nonce : List ℕ) → now.vars.setup ≡ setup → ServerHasMethods setup.methods first now.views
    → ServerInvariantOf first (setup_with_nonce setup nonce)
    (server_accepts now (restart nonce)).after [] []
unfolding server_restart
server_invariant_anew {first} setup now nonce own objects =
    let set : ServerHasMethods now.vars.setup.methods first now.views =
    subst (λ (s : ServerSetup). ServerHasMethods s.methods first now.views) (sym own) objects in
    subst (λ (s : ServerSetup). ServerInvariantOf first (setup_with_nonce s nonce)
    (server_restart now nonce).after [] []) own (cond_both (is_backend now.vars) _ _
    (λ (out : ServerAnswer). ServerInvariantOf first (setup_with_nonce now.vars.setup nonce)
    out.after [] [])
    (λ _. initiates_with now.vars.role (setup_with_nonce now.vars.setup nonce) first
    now.views set now.vars.first_id now.vars.max_retrans)
    (λ _. starts_with now.vars.role (setup_with_nonce now.vars.setup nonce) first
    now.views set now.vars.first_id now.vars.max_retrans))

-- it has made no tag in it
pub server_tags_none : (now : ServerNow) (nonce : List ℕ)
    → (server_accepts now (restart nonce)).step.tags ≡ no_tags
unfolding server_restart server_start
server_tags_none now nonce = cond_both (is_backend now.vars) _ _
    (λ (out : ServerAnswer). out.step.tags ≡ no_tags) (λ _. refl) (λ _. refl)

-- a server has accepted at most two tags and made at most two
pub server_few : (setup : ServerSetup) (now : ServerNow) (accepted made : List TagRecord)
    → ServerInvariant setup now accepted made → AreFew accepted made
server_few setup now accepted made stands =
    tags_few setup now.vars.current now.views accepted made (server_tags stands)
