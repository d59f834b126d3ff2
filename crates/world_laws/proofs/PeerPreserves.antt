-- Every input of the peer keeps what stands of it, but for the begin of a new conversation, in
-- which it stands anew.
use Rattle.std.proofs.Common.{◌≡◌, ℕ, List, [], ◌++◌, Bool, true, false, Option, Some, None}
use Rattle.std.proofs.Common.{refl}
use Rattle.std.proofs.Common.{sym, subst, ◌∙◌, append-nil}
use Rattle.std.proofs.lemmas.Bool.{false≢true}
use Rattle.login_setup.specs.declared.setup.PeerSetup.{PeerSetup}
use Rattle.eap_packet.specs.declared.state.State.{State}
use Rattle.eap_method.specs.declared.tags.TagRecord.{TagRecord}
use Rattle.eap_method.specs.Tags.{Tags, no_tags}
use Rattle.eap_method.specs.PeerTurn.{Reply}
use Rattle.eap_method.specs.declared.values.Decision.{Decision}
use Rattle.eap_method.specs.declared.values.MethodState.{MethodState}
use Rattle.eap_method.specs.Peer.{PeerViews, peer_turn}
use Rattle.eap_method.specs.Turns.{PeerOutcome}
use Rattle.peer_machine.specs.Expanded.{expanded_answer}
use Rattle.peer_machine.specs.Inputs.{PeerInput, restart, peer_answers, peer_accepts}
use Rattle.peer_machine.specs.Inputs as inputs
use Rattle.peer_machine.specs.PeerTable.{PeerNow, PeerAnswer, with_vars, setup_with_nonce}
use Rattle.peer_machine.specs.PeerTable.{peer_restart, is_fail}
use Rattle.peer_machine.specs.Rows as rows
use Rattle.peer_machine.specs.Rows.{Calls}
use Rattle.peer_machine.proofs.Receiving.{PeerReceiving, as_it_is, bad, again, expresses}
use Rattle.peer_machine.proofs.PeerRows.{peer_answers_are_rows}
use Rattle.eap_world.specs.Judgement.{is_success}
use Rattle.method_laws.specs.Objects.{PeerHasMethods}
use Rattle.world_laws.specs.PeerInvariant.{PeerInvariant, PeerInvariantOf}
use Rattle.method_laws.specs.Records.{AreFew}
use Rattle.world_laws.proofs.Unended.{goes_on}
use Rattle.method_laws.proofs.OneMethod.{some_same}
use Rattle.method_laws.proofs.PeerObjects.{are_allowed, both_are, methods_after, methods_started}
use Rattle.method_laws.proofs.PeerByMethod.{tags_few}
use Rattle.method_laws.proofs.PeerHistories.{initiated_has, responds_has}
use Rattle.world_laws.proofs.EndTags.{peer_tags}
use Rattle.world_laws.proofs.Accepting.{peer_accepted_tags}
use Rattle.eap_method.specs.BothPeers.{both_of}
use Rattle.world_laws.specs.Runs.{initial_peer}
use Rattle.peer_machine.specs.PeerTable as wide

-- ---- the begin

pub initiates_with : (setup : PeerSetup) (first views : PeerViews)
    → PeerHasMethods setup.methods first views
    → PeerInvariantOf first setup (wide.initial_peer setup views) [] []
initiates_with setup first views objects = record {
  own = refl;
  objects = methods_started setup first views objects;
  has = initiated_has setup views (record { each = are_allowed objects });
  sure = λ e. absurd (false≢true e);
}

pub peer_initiates : (setup : PeerSetup) → PeerInvariant setup (initial_peer setup) [] []
peer_initiates setup =
    initiates_with setup (both_of setup.methods) (both_of setup.methods) (both_are setup.methods)

-- ---- the calls

-- a method is called only where no other is selected
called_alone : (now : PeerNow) (selects : Bool) (kind : ℕ) → Calls now kind selects → (other : ℕ)
    → now.vars.selected ≡ Some other → kind ≡ other
called_alone now _ kind (rows.first unselected allowed) other is_other = absurd cc
called_alone now _ kind (rows.again is_selected undone) other is_other =
    some_same kind other (sym is_selected ∙ is_other)

-- what stands after a call, with the tags of its step
record Preserves (first : PeerViews) (setup : PeerSetup) (accepted made : List TagRecord)
    (out : PeerAnswer) : Type 0 where
  pub stands : PeerInvariantOf first setup out.after (accepted ++ out.step.tags.accepted)
      (made ++ out.step.tags.made)

-- a call without tags
quiet : (first : PeerViews) (setup : PeerSetup) (accepted made : List TagRecord) (out : PeerAnswer)
    → out.step.tags ≡ no_tags
    → PeerInvariantOf first setup out.after accepted made → Preserves first setup accepted made out
quiet first setup accepted made out is_quiet stands = record {
  stands = subst (λ (tags : Tags). PeerInvariantOf first setup out.after (accepted ++ tags.accepted)
      (made ++ tags.made)) (sym is_quiet) (rw (append-nil accepted, append-nil made) stands);
}

module _ (first : PeerViews) (setup : PeerSetup) (now : PeerNow) (accepted made : List TagRecord)
    (stands : PeerInvariantOf first setup now accepted made) where
  -- another state, lastId and lastRespData
  remains : (s : State) (last_id : Option ℕ) (last_response : List ℕ)
      → (is_success s ≡ true → is_fail now.vars.decision ≡ false)
      → PeerInvariantOf first setup (with_vars now (record
      now.vars { state = s; last_id = last_id; last_response = last_response })) accepted made
  remains s last_id last_response sure = record {
    own = stands.own;
    objects = stands.objects;
    has = stands.has;
    sure = sure;
  }

  after_turn : (selects : Bool) (kind : ℕ) (octets packet : List ℕ) (m : MethodState)
      (d : Decision) (tags : Tags) (views : PeerViews) → Calls now kind selects
      → peer_turn kind now.views octets
      ≡ record { turn = Reply packet m d tags; after = views }
      → PeerHasMethods setup.methods first views → (s : State) (last_id : Option ℕ)
      (last_response : List ℕ)
      → (is_success s ≡ true → ⊥)
      → PeerInvariantOf first setup (record {
        vars = record now.vars {
          state = s;
          selected = Some kind;
          method_state = m;
          decision = d;
          last_id = last_id;
          last_response = last_response;
        };
        views = views;
      }) (accepted ++ tags.accepted) (made ++ tags.made)
  after_turn selects kind octets packet m d tags views calls turned objects s last_id last_response
      unsure = record {
        own = stands.own;
        objects = objects;
        has = responds_has setup now.vars.selected now.views now.vars.decision accepted made kind
            octets packet m d tags views stands.has (called_alone now selects kind calls) turned;
        sure = λ e. absurd (unsure e);
      }

  still_objects : (kind : ℕ) (octets : List ℕ) (out : PeerOutcome PeerViews)
      → peer_turn kind now.views octets ≡ out → PeerHasMethods setup.methods first out.after
  still_objects kind octets out turned = subst (λ (o : PeerOutcome PeerViews).
      PeerHasMethods setup.methods first o.after) turned (methods_after stands.objects kind octets)

  row_preserves : (input : PeerInput) (out : PeerAnswer) → ((nonce : List ℕ) → input ≡ restart nonce
      → ⊥) → rows.PeerRow now input out → Preserves first setup accepted made out
  row_preserves _ _ same (rows.begins nonce) = absurd (same nonce refl)
  row_preserves _ _ same (rows.ended bytes over) = quiet first setup accepted made _ refl stands
  row_preserves _ _ same (rows.rests report no_octets no_restart over) =
      quiet first setup accepted made _ refl stands
  row_preserves _ _ same (rows.drops bytes path c going why) =
      quiet first setup accepted made _ refl stands
  row_preserves _ _ same
      (rows.waits going fails goes_on) = quiet first setup accepted made _ refl stands
  row_preserves _ _ same (rows.identifies bytes id kind body heard unselected is_identity) =
      quiet first setup accepted made _ refl (remains _ _ _ stands.sure)
  row_preserves _ _ same (rows.notifies bytes id kind body heard unselected is_notification) =
      quiet first setup accepted made _ refl (remains _ _ _ stands.sure)
  row_preserves _ _ same
      (rows.naks bytes id kind body heard unselected no_identity no_notification barred) =
      quiet first setup accepted made _ refl (remains _ _ _ stands.sure)
  row_preserves _ _ same (rows.resends bytes id kind body heard) =
      quiet first setup accepted made _ refl stands
  row_preserves _ _ same (rows.ends_well input entered going sure why) =
      quiet first setup accepted made _ refl (remains _ _ _ (λ _. sure))
  row_preserves _ _ same (rows.ends_badly input entered going why) =
      quiet first setup accepted made _ refl (remains _ _ _ (λ e. absurd (false≢true e)))
  row_preserves _ _ same
      (rows.method_replies bytes selects id kind body packet m d tags views heard calls turned _) =
      record {
        stands = after_turn selects kind _ packet m d tags views calls turned
            (still_objects kind _ _ turned) _ _ _ (goes_on now.vars.state heard.going);
      }
  row_preserves _ _ same
      (rows.method_fails bytes selects id kind body packet m d tags views heard calls turned _) =
      record {
        stands = after_turn selects kind _ packet m d tags views calls turned
            (still_objects kind _ _ turned) _ _ _ false≢true;
      }

  -- by the table alone
  abbrev IsConsistent : PeerInput → PeerAnswer → Type 0
  IsConsistent input out =
      ((nonce : List ℕ) → input ≡ restart nonce → ⊥) → Preserves first setup accepted made out

  answer_preserves : (input : PeerInput) → IsConsistent input (peer_answers now input)
  answer_preserves input same = row_preserves input _ same (peer_answers_are_rows now input)

  of_octets : (bytes : List ℕ)
      → Preserves first setup accepted made (peer_answers now (inputs.octets bytes))
  of_octets bytes = answer_preserves (inputs.octets bytes) (λ nonce e. cc e)

  -- lastRespData alone is another where a Response is expressed
  expressed_preserves : (out : PeerAnswer) (sent : Option (List ℕ))
      → Preserves first setup accepted made out → Preserves first setup accepted made
      (expanded_answer out sent)
  expressed_preserves out None kept = kept
  expressed_preserves out (Some packet) kept =
      let s = kept.stands in record {
        stands = record {
          own = s.own;
          objects = s.objects;
          has = s.has;
          sure = s.sure;
        };
      }

  receiving_preserves : (bytes : List ℕ) (out : PeerAnswer) → PeerReceiving now bytes out
      → IsConsistent (inputs.octets bytes) out
  receiving_preserves bytes _ as_it_is same = of_octets bytes
  receiving_preserves bytes _ (bad id kind body asks is_bad) same =
      quiet first setup accepted made _ refl stands
  receiving_preserves bytes _ (again id kind body asks last) same = of_octets _
  receiving_preserves bytes _ (expresses id kind body asks new) same =
      expressed_preserves _ _ (of_octets _)

-- every input but the begin of a new conversation keeps what stands
pub peer_preserves : {first : PeerViews} (setup : PeerSetup) (now : PeerNow)
    (accepted made : List TagRecord)
    (input : PeerInput)
    → ((nonce : List ℕ) → input ≡ restart nonce → ⊥) → PeerInvariantOf first setup now accepted made
    → (let out = peer_accepts now input in
    PeerInvariantOf first setup out.after (accepted ++ out.step.tags.accepted)
    (made ++ out.step.tags.made))
peer_preserves {first} setup now accepted made input same stands =
    (peer_accepted_tags now (IsConsistent first setup now accepted made stands)
    (answer_preserves first setup
    now accepted made stands) (receiving_preserves first setup now accepted made stands)
    input same).stands

-- a peer of these settings that begins a new conversation stands as one that has just begun, with
-- the new nonce
pub peer_invariant_anew : {first : PeerViews} (setup : PeerSetup) (now : PeerNow) (nonce : List ℕ)
    → now.vars.setup ≡ setup → PeerHasMethods setup.methods first now.views
    → PeerInvariantOf first (setup_with_nonce setup nonce) (peer_accepts now
    (restart nonce)).after [] []
unfolding peer_restart
peer_invariant_anew {first} setup now nonce own objects =
    subst (λ (s : PeerSetup). PeerInvariantOf first (setup_with_nonce setup nonce)
    (wide.initial_peer (setup_with_nonce s nonce) now.views) [] []) (sym own)
    (initiates_with (setup_with_nonce setup nonce) first now.views objects)

-- it has made no tag in it
pub peer_tags_none : (now : PeerNow) (nonce : List ℕ)
    → (peer_accepts now (restart nonce)).step.tags ≡ no_tags
unfolding peer_restart
peer_tags_none now nonce = refl

-- a peer has accepted at most two tags and made at most two
pub peer_few : (setup : PeerSetup) (now : PeerNow) (accepted made : List TagRecord)
    → PeerInvariant setup now accepted made → AreFew accepted made
peer_few setup now accepted made stands =
    tags_few setup now.vars.selected now.views accepted made (peer_tags stands)
