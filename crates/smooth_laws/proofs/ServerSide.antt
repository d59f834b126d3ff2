-- What the server, or the backend, makes of each packet of a smooth login (RFC 4137 sections 5 and
-- 6).
use Rattle.std.proofs.Common.{◌≡◌, ℕ, ◌+◌, ◌%◌, ◌≤◌, List, [], ◌∷◌, ◌++◌, length, Bool, true, false}
use Rattle.std.proofs.Common.{not, None, Some, refl, ap, ◌∙◌}
use Rattle.std.specs.Prelude.{◌==◌, ◌&&◌, Ok}
use Rattle.std.proofs.lemmas.Bool.{cond-true, cond-false, eq-eqb, and_from, and_right, and_left}
use Rattle.std.proofs.lemmas.Bool.{or_right}
use Rattle.octet_lists.specs.Among.{expanded_kind, ietf}
use Rattle.login_setup.specs.Setup.{ServerSetup}
use Rattle.eap_packet.specs.Packet.{request, response, spelled}
use Rattle.eap_packet.specs.Fault.{packet_of, type_of}
use Rattle.eap_packet.specs.Expanded.{is_ietf, is_nak_body, has_plain_form, is_bad_expanded}
use Rattle.eap_packet.specs.Expanded.{expanded_form}
use Rattle.eap_packet.specs.declared.state.State.{State}
use Rattle.eap_packet.specs.declared.state.State.TheVariants as state
use Rattle.login_policy.specs.Policy.{next_kind, nak_of}
use Rattle.eap_method.specs.Tags.{Tags, no_tags}
use Rattle.eap_method.specs.Server.{ServerViews, Offer, server_offer, server_turn, side_of}
use Rattle.eap_method.specs.ServerTurn as turn
use Rattle.eap_method.specs.Steps.{sends, is_end}
use Rattle.eap_method.specs.Turns.{ServerOutcome}
use Rattle.server_machine.specs.Expanded.{accepts_nak, response_octets, wraps, server_reads}
use Rattle.server_machine.specs.Expanded.{server_receives}
use Rattle.server_machine.specs.ServerTable.{ServerNow, ServerAnswer, answer, initial_vars_of}
use Rattle.server_machine.specs.ServerTable.{success_packet, select_action}
use Rattle.server_machine.specs.ServerTable.{proposes, offers, server_row, server_deliver}
use Rattle.server_machine.specs.ServerTable.{server_method, method_answers, pick_up}
use Rattle.server_machine.specs.ServerTable.{before_proposal, is_backend, awaits_first}
use Rattle.server_machine.specs.declared.variables.Progress.{Progress}
use Rattle.server_machine.specs.declared.variables.Progress.TheVariants as progress
use Rattle.server_machine.specs.declared.variables.Role.{Role}
use Rattle.server_machine.specs.declared.variables.Role.TheVariants as role
use Rattle.server_machine.specs.Variables.{ServerVariables}
use Rattle.server_machine.specs.declared.variables.ProposalPath.TheVariants as way
use Rattle.world_laws.specs.Runs.{initial_server, server_views_started}
use Rattle.smooth_laws.proofs.Carried.{IsMethod, carried, answers_read, wrapped_plain}
use Rattle.smooth_laws.proofs.Carried.{wrapped_accepted}
use Rattle.smooth_laws.proofs.Naks.{ReadsBack, nak_as, nak_body, nak_read, is_nak, entries_consumed}

-- the Identifier of the Request after this one
abbrev pub after_id : ℕ → ℕ
after_id id = (id + 1) % 256

-- how a server is set up
pub record Made : Type 0 where
  pub role : Role
  pub setup : ServerSetup
  pub first_id : ℕ
  pub max_retrans : ℕ

-- a server that has not ended and waits for the Response to a Request
abbrev pub server_vars : Made → ℕ → ℕ → Progress → List ℕ → List ℕ → ServerVariables
server_vars made id kind at last proposed =
    record (initial_vars_of made.role made.setup made.first_id made.max_retrans) {
      state = state.Idle;
      current_id = Some id;
      current = Some kind;
      progress = at;
      retrans_count = 0;
      last_request = last;
      proposed = proposed;
    }

abbrev pub server_at : Made → ℕ → ℕ → Progress → List ℕ → List ℕ → ServerViews → ServerNow
server_at made id kind at last proposed views =
    record { vars = server_vars made id kind at last proposed; views = views }

-- it answers, and has not ended
abbrev pub replies : List State → List ℕ → Tags → ServerNow → ServerAnswer
replies path octets tags after = answer (sends path octets tags) after

-- it has ended in SUCCESS
abbrev pub server_done : Made → ℕ → ℕ → List ℕ → List ℕ → ServerViews → ServerNow
server_done made id kind last proposed views =
    record {
      vars = record (server_vars made id kind progress.End last proposed) { state = state.Success };
      views = views;
    }

-- the first Request of a method
pub record IsOffer (made : Made) (kind id : ℕ) (before : ServerViews) (packet : List ℕ)
    (after : ServerViews) : Type 0 where
  pub is : server_offer (side_of made.setup) made.setup.nonce kind id before
      ≡ record { packet = Some packet; after = after }

module _ (made : Made) where
  -- the Identity Response at a server
  pub receives_identity : (octets : List ℕ) (id kind : ℕ) (name last : List ℕ)
      (views after : ServerViews) (packet : List ℕ)
      → packet_of octets ≡ Ok (response id 1 name)
      → next_kind made.setup.methods [] None ≡ Some kind
      → IsOffer made kind (after_id id) views packet after
      → server_deliver (server_at made id 1 progress.Continue last [] views) octets
      ≡ replies (before_proposal way.AfterResponse ++ state.ProposeMethod ∷ state.MethodRequest
      ∷ state.SendRequest ∷ state.Idle ∷ []) packet no_tags
      (server_at made (after_id id) kind progress.Proposed packet (kind ∷ []) after)
  unfolding server_deliver select_action
  receives_identity octets id kind name last views after packet read chosen offered =
      let now : ServerNow = server_at made id 1 progress.Continue last [] views in
      let vars : ServerVariables = record now.vars { progress = progress.End } in
      cond-false (awaits_first now.vars) _ _ (and_right (is_backend now.vars) false refl)
      ∙ ap (λ found. server_row now found) read
      ∙ cond-true (id == id) _ _ (eq-eqb id id refl)
      ∙ ap (λ found. proposes (before_proposal way.AfterResponse) vars views id found) chosen
      ∙ ap (λ (offer : Offer). offers (before_proposal way.AfterResponse)
      vars offer.after id kind offer.packet) offered.is

  -- a Nak, while the method that it refuses is proposed
  pub receives_nak : (octets : List ℕ) (id refused kind : ℕ) (desired last : List ℕ)
      (views after : ServerViews) (packet : List ℕ)
      → packet_of octets ≡ Ok (response id 3 desired)
      → next_kind made.setup.methods (refused ∷ []) (Some desired) ≡ Some kind
      → IsOffer made kind (after_id id) views packet after
      → server_deliver
      (server_at made id refused progress.Proposed last (refused ∷ []) views) octets
      ≡ replies (before_proposal way.AfterNak ++ state.ProposeMethod ∷ state.MethodRequest
      ∷ state.SendRequest ∷ state.Idle ∷ []) packet no_tags
      (server_at made (after_id id) kind progress.Proposed packet (refused ∷ kind ∷ []) after)
  unfolding server_deliver select_action
  receives_nak octets id refused kind desired last views after packet read chosen offered =
      let now : ServerNow = server_at made id refused progress.Proposed last (refused ∷ []) views in
      cond-false (awaits_first now.vars) _ _ (and_right (is_backend now.vars) false refl)
      ∙ ap (λ found. server_row now found) read
      ∙ cond-true (id == id) _ _ (eq-eqb id id refl)
      ∙ ap (λ found. proposes (before_proposal way.AfterNak) now.vars views id found) chosen
      ∙ ap (λ (offer : Offer). offers (before_proposal way.AfterNak)
      now.vars offer.after id kind offer.packet) offered.is

  -- a Response of the current method reaches its object
  checks : (octets : List ℕ) (id kind : ℕ) (body last : List ℕ) (at : Progress) (proposed : List ℕ)
      (views : ServerViews)
      → packet_of octets ≡ Ok (response id kind body)
      → (kind == 3) ≡ false → (kind == 1) ≡ false
      → server_deliver (server_at made id kind at last proposed views) octets
      ≡ server_method (server_at made id kind at last proposed views) id kind
      (spelled (response id kind body))
  unfolding server_deliver
  checks octets id kind body last at proposed views read not_3 not_1 =
      let now : ServerNow = server_at made id kind at last proposed views in
      cond-false (awaits_first now.vars) _ _ (and_right (is_backend now.vars) false refl)
      ∙ ap (λ found. server_row now found) read
      ∙ cond-true (id == id) _ _ (eq-eqb id id refl)
      ∙ cond-false _ _ _ (and_left (kind == 3) _ not_3)
      ∙ cond-true (kind == kind) _ _ (eq-eqb kind kind refl)
      ∙ cond-false (kind == 1) _ _ not_1

  -- which asks again
  pub goes_on : (octets : List ℕ) (id kind : ℕ) (body last : List ℕ) (at : Progress)
      (proposed : List ℕ) (views after : ServerViews) (packet : List ℕ)
      (tags : Tags)
      → packet_of octets ≡ Ok (response id kind body)
      → (kind == 3) ≡ false → (kind == 1) ≡ false
      → server_turn made.setup.users (after_id id) kind views (spelled (response id kind body))
      ≡ record { turn = turn.Request packet tags; after = after }
      → server_deliver (server_at made id kind at last proposed views) octets
      ≡ replies (state.Received ∷ state.IntegrityCheck ∷ state.MethodResponse ∷ state.MethodRequest
      ∷ state.SendRequest ∷ state.Idle ∷ []) packet tags
      (server_at made (after_id id) kind progress.Continue packet proposed after)
  unfolding server_method
  goes_on octets id kind body last at proposed views after packet tags read not_3 not_1 turned =
      let now : ServerNow = server_at made id kind at last proposed views in
      checks octets id kind body last at proposed views read not_3 not_1
      ∙ ap (λ (out : ServerOutcome ServerViews). method_answers now id out.after out.turn) turned

  -- which has succeeded
  pub finishes : (octets : List ℕ) (id kind : ℕ) (body last : List ℕ) (at : Progress)
      (proposed : List ℕ) (views after : ServerViews) (tags : Tags)
      → packet_of octets ≡ Ok (response id kind body)
      → (kind == 3) ≡ false → (kind == 1) ≡ false
      → server_turn made.setup.users (after_id id) kind views (spelled (response id kind body))
      ≡ record { turn = turn.Done true tags; after = after }
      → server_deliver (server_at made id kind at last proposed views) octets
      ≡ replies (before_proposal way.AfterResponse ++ state.Success ∷ []) (success_packet id) tags
      (server_done made id kind last proposed after)
  unfolding server_method
  finishes octets id kind body last at proposed views after tags read not_3 not_1 turned =
      let now : ServerNow = server_at made id kind at last proposed views in
      checks octets id kind body last at proposed views read not_3 not_1
      ∙ ap (λ (out : ServerOutcome ServerViews). method_answers now id out.after out.turn) turned

-- a backend
abbrev pub backend : ServerSetup → ℕ → ℕ → Made
backend setup first_id max_retrans =
    record { role = role.Backend; setup = setup; first_id = first_id; max_retrans = max_retrans }

-- the Identity Response at a backend
pub picks_up : (setup : ServerSetup) (first_id max_retrans : ℕ)
    (octets : List ℕ) (id kind : ℕ) (name : List ℕ) (after : ServerViews) (packet : List ℕ)
    → packet_of octets ≡ Ok (response id 1 name)
    → next_kind setup.methods [] None ≡ Some kind
    → IsOffer (backend setup first_id max_retrans) kind (after_id id) (server_views_started setup)
    packet after
    → server_deliver (initial_server role.Backend setup first_id max_retrans) octets
    ≡ replies (before_proposal way.FirstIdentity ++ state.ProposeMethod ∷ state.MethodRequest
    ∷ state.SendRequest ∷ state.Idle ∷ []) packet no_tags
    (server_at (backend setup first_id max_retrans) (after_id id) kind progress.Proposed packet
    (kind ∷ []) after)
unfolding server_deliver select_action
picks_up setup first_id max_retrans octets id kind name after packet read chosen offered =
    let now : ServerNow = initial_server role.Backend setup first_id max_retrans in
    let vars : ServerVariables =
    record now.vars { state = state.Idle; current_id = Some id; progress = progress.End } in
    ap (λ found. pick_up now found) read
    ∙ ap (λ found. proposes (before_proposal way.FirstIdentity) vars now.views id found) chosen
    ∙ ap (λ (offer : Offer). offers (before_proposal way.FirstIdentity)
    vars offer.after id kind offer.packet) offered.is

-- ---- a server that reads Expanded Types, and wraps its methods' Requests

-- a server that doesn't is its table
reads_none : (now : ServerNow) (octets : List ℕ) → now.vars.setup.expanded ≡ false
    → server_receives now octets ≡ server_deliver now octets
unfolding server_receives
reads_none now octets none = cond-false (now.vars.setup.expanded && not (is_end now.vars.state)) _ _
    (and_left now.vars.setup.expanded _ none)

-- a Response to one that has not ended
reads_all : (now : ServerNow) (octets : List ℕ) (id kind : ℕ) (body : List ℕ)
    → now.vars.setup.expanded ≡ true → is_end now.vars.state ≡ false
    → packet_of octets ≡ Ok (response id kind body)
    → is_bad_expanded (response id kind body) ≡ false
    → server_receives now octets
    ≡ wraps (server_deliver now (response_octets now.vars octets id kind body))
unfolding server_receives
reads_all now octets id kind body reads going read good =
    cond-true (now.vars.setup.expanded && not (is_end now.vars.state)) _ _
    (and_from _ _ reads (ap not going))
    ∙ ap (λ found. server_reads now octets found) read
    ∙ cond-false (is_bad_expanded (response id kind body)) _ _ good

-- an identity in the plain form
reads_identity : (now : ServerNow) (octets : List ℕ) (id : ℕ) (name : List ℕ)
    → now.vars.setup.expanded ≡ true → is_end now.vars.state ≡ false
    → packet_of octets ≡ Ok (response id 1 name)
    → server_receives now octets ≡ wraps (server_deliver now octets)
reads_identity now octets id name reads going read =
    reads_all now octets id 1 name reads going read refl

-- a wrapped Response of a method
reads_wrapped : (now : ServerNow) (id kind : ℕ) (body : List ℕ) → now.vars.setup.expanded ≡ true
    → is_end now.vars.state ≡ false
    → IsMethod kind → length body ≤ 1488
    → server_receives now (expanded_form (spelled (response id kind body)))
    ≡ wraps (server_deliver now (spelled (response id kind body)))
reads_wrapped now id kind body reads going is fits =
    let octets : List ℕ = expanded_form (spelled (response id kind body)) in
    let inside : List ℕ = ietf ++ kind ∷ body in
    reads_all now octets id expanded_kind inside reads going
    (answers_read true id kind body is fits) (wrapped_accepted false kind body is)
    ∙ ap (λ (found : List ℕ). wraps (server_deliver now found))
    (cond-false (is_nak_body inside && accepts_nak now.vars) _ _
    (and_left (is_nak_body inside) _ (and_right (is_ietf inside) (kind == 3) is.not_nak))
    ∙ cond-true (has_plain_form (response id expanded_kind inside)) _ _ (wrapped_plain kind body is)
    ∙ ap spelled (cond-true (has_plain_form (response id expanded_kind inside)) _ _
    (wrapped_plain kind body is)))

-- an Expanded Nak, where the Request that was sent last is wrapped
reads_nak : (now : ServerNow) (id : ℕ) (methods : List ℕ) → now.vars.setup.expanded ≡ true
    → is_end now.vars.state ≡ false
    → (type_of now.vars.last_request == expanded_kind) ≡ true → ReadsBack methods
    → server_receives now (nak_as true id methods)
    ≡ wraps (server_deliver now (nak_as false id methods))
reads_nak now id methods reads going asked is =
    let inside : List ℕ = nak_body true methods in
    reads_all now (nak_as true id methods) id expanded_kind inside reads going
    (nak_read true id methods is) (entries_consumed methods is)
    ∙ ap (λ (found : List ℕ). wraps (server_deliver now found))
    (cond-true (is_nak_body inside && accepts_nak now.vars) _ _
    (and_from _ _ (is_nak methods) (or_right (awaits_first now.vars) _ asked))
    ∙ ap (λ (kinds : List ℕ). spelled (response id 3 kinds)) is.back)

-- a Request of a method is wrapped, and kept so
wraps_request : (made : Made) (path : List State) (sent_id kind : ℕ) (asks : List ℕ) (tags : Tags)
    (id : ℕ) (at : Progress) (proposed : List ℕ) (views : ServerViews)
    → (let packet = spelled (request sent_id kind asks) in
    wraps (replies path packet tags (server_at made id kind at packet proposed views))
    ≡ replies path (expanded_form packet) tags
    (server_at made id kind at (expanded_form packet) proposed views))
unfolding spelled
wraps_request made path sent_id kind asks tags id at proposed views = refl

-- a Success isn't
wraps_success : (path : List State) (id : ℕ) (tags : Tags) (after : ServerNow) → wraps (replies path
    (success_packet id) tags after) ≡ replies path (success_packet id) tags after
unfolding spelled
wraps_success path id tags after = refl

module _ (made : Made) where
  -- the Identity Response at a server
  pub receives_named : (form : Bool) → made.setup.expanded ≡ form → (octets : List ℕ) (id
      kind : ℕ) (name last : List ℕ) (views after : ServerViews) (asks : List ℕ)
      → packet_of octets ≡ Ok (response id 1 name)
      → next_kind made.setup.methods [] None ≡ Some kind
      → IsOffer made kind (after_id id) views (spelled (request (after_id id) kind asks)) after
      → (let packet = carried form (spelled (request (after_id id) kind asks)) in
      server_receives (server_at made id 1 progress.Continue last [] views) octets
      ≡ replies (before_proposal way.AfterResponse ++ state.ProposeMethod ∷ state.MethodRequest
      ∷ state.SendRequest ∷ state.Idle ∷ []) packet no_tags
      (server_at made (after_id id) kind progress.Proposed packet (kind ∷ []) after))
  receives_named false is octets id kind name last views after asks read chosen offered =
      reads_none (server_at made id 1 progress.Continue last [] views) octets is
      ∙ receives_identity made octets id kind name last views after _ read chosen offered
  receives_named true is octets id kind name last views after asks read chosen offered =
      reads_identity (server_at made id 1 progress.Continue last [] views)
      octets id name is refl read
      ∙ ap wraps (receives_identity made octets id kind name last views after _ read chosen offered)
      ∙ wraps_request made (before_proposal way.AfterResponse ++ state.ProposeMethod
      ∷ state.MethodRequest ∷ state.SendRequest ∷ state.Idle ∷ [])
      (after_id id) kind asks no_tags (after_id id) progress.Proposed (kind ∷ []) after

  -- a Nak, while the method that it refuses is proposed
  pub receives_nak_as : (form : Bool) → made.setup.expanded ≡ form → (id refused kind : ℕ) (methods
      asked_body : List ℕ) (views after : ServerViews) (asks : List ℕ)
      → ReadsBack methods
      → next_kind made.setup.methods (refused ∷ []) (Some (nak_of methods)) ≡ Some kind
      → IsOffer made kind (after_id id) views (spelled (request (after_id id) kind asks)) after
      → (let packet = carried form (spelled (request (after_id id) kind asks)) in
      let last = carried form (spelled (request id refused asked_body)) in
      server_receives (server_at made id refused progress.Proposed last (refused ∷ []) views)
      (nak_as form id methods)
      ≡ replies (before_proposal way.AfterNak ++ state.ProposeMethod ∷ state.MethodRequest
      ∷ state.SendRequest ∷ state.Idle ∷ []) packet no_tags
      (server_at made (after_id id) kind progress.Proposed packet (refused ∷ kind ∷ []) after))
  receives_nak_as false is id refused kind methods asked_body views after asks back chosen offered =
      reads_none _ (nak_as false id methods) is
      ∙ receives_nak made (nak_as false id methods) id refused kind (nak_of methods) _ views after _
      (nak_read false id methods back) chosen offered
  receives_nak_as true is id refused kind methods asked_body views after asks back chosen offered =
      reads_nak (server_at made id refused progress.Proposed (expanded_form
      (spelled (request id refused asked_body))) (refused ∷ []) views) id methods is refl refl back
      ∙ ap wraps (receives_nak made (nak_as false id methods) id refused kind (nak_of methods)
      _ views after _ (nak_read false id methods back) chosen offered)
      ∙ wraps_request made (before_proposal way.AfterNak ++ state.ProposeMethod
      ∷ state.MethodRequest ∷ state.SendRequest ∷ state.Idle ∷ [])
      (after_id id) kind asks no_tags (after_id id) progress.Proposed (refused ∷ kind ∷ []) after

  -- a Response of the current method, which asks again
  pub continues_as : (form : Bool) → made.setup.expanded ≡ form → (id kind : ℕ) (body last : List
      ℕ) (at : Progress) (proposed : List ℕ) (views after : ServerViews)
      (checks : List ℕ) (tags : Tags)
      → IsMethod kind → length body ≤ 1488
      → server_turn made.setup.users (after_id id) kind views (spelled (response id kind body))
      ≡ record {
        turn = turn.Request (spelled (request (after_id id) kind checks)) tags;
        after = after;
      }
      → (let packet = carried form (spelled (request (after_id id) kind checks)) in
      server_receives (server_at made id kind at last proposed views)
      (carried form (spelled (response id kind body)))
      ≡ replies (state.Received ∷ state.IntegrityCheck ∷ state.MethodResponse ∷ state.MethodRequest
      ∷ state.SendRequest ∷ state.Idle ∷ []) packet tags
      (server_at made (after_id id) kind progress.Continue packet proposed after))
  continues_as false is id kind body last at proposed views after checks tags method fits turned =
      reads_none _ _ is
      ∙ goes_on made _ id kind body last at proposed views after _ tags
      (answers_read false id kind body method fits) method.not_nak method.not_identity turned
  continues_as true is id kind body last at proposed views after checks tags method fits turned =
      reads_wrapped (server_at made id kind at last proposed views) id kind body is refl method fits
      ∙ ap wraps (goes_on made _ id kind body last at proposed views after _ tags
      (answers_read false id kind body method fits) method.not_nak method.not_identity turned)
      ∙ wraps_request made (state.Received ∷ state.IntegrityCheck ∷ state.MethodResponse
      ∷ state.MethodRequest ∷ state.SendRequest ∷ state.Idle ∷ [])
      (after_id id) kind checks tags (after_id id) progress.Continue proposed after

  -- which has succeeded
  pub finishes_as : (form : Bool) → made.setup.expanded ≡ form → (id kind : ℕ) (body last : List
      ℕ) (at : Progress) (proposed : List ℕ) (views after : ServerViews)
      (tags : Tags)
      → IsMethod kind → length body ≤ 1488
      → server_turn made.setup.users (after_id id) kind views (spelled (response id kind body))
      ≡ record { turn = turn.Done true tags; after = after }
      → server_receives (server_at made id kind at last proposed views)
      (carried form (spelled (response id kind body)))
      ≡ replies (before_proposal way.AfterResponse ++ state.Success ∷ []) (success_packet id) tags
      (server_done made id kind last proposed after)
  finishes_as false is id kind body last at proposed views after tags method fits turned =
      reads_none _ _ is
      ∙ finishes made _ id kind body last at proposed views after tags
      (answers_read false id kind body method fits) method.not_nak method.not_identity turned
  finishes_as true is id kind body last at proposed views after tags method fits turned =
      reads_wrapped (server_at made id kind at last proposed views) id kind body is refl method fits
      ∙ ap wraps (finishes made _ id kind body last at proposed views after tags
      (answers_read false id kind body method fits) method.not_nak method.not_identity turned)
      ∙ wraps_success (before_proposal way.AfterResponse ++ state.Success ∷ []) id tags
      (server_done made id kind last proposed after)

-- the Identity Response at a backend
pub picks_up_as : (form : Bool) (setup : ServerSetup) → setup.expanded ≡ form
    → (first_id max_retrans : ℕ)
    (octets : List ℕ) (id kind : ℕ) (name : List ℕ) (after : ServerViews) (asks : List ℕ)
    → packet_of octets ≡ Ok (response id 1 name)
    → next_kind setup.methods [] None ≡ Some kind
    → IsOffer (backend setup first_id max_retrans) kind (after_id id) (server_views_started setup)
    (spelled (request (after_id id) kind asks)) after
    → (let packet = carried form (spelled (request (after_id id) kind asks)) in
    server_receives (initial_server role.Backend setup first_id max_retrans) octets
    ≡ replies (before_proposal way.FirstIdentity ++ state.ProposeMethod ∷ state.MethodRequest
    ∷ state.SendRequest ∷ state.Idle ∷ []) packet no_tags
    (server_at (backend setup first_id max_retrans) (after_id id) kind progress.Proposed packet
    (kind ∷ []) after))
picks_up_as false setup is first_id max_retrans octets id kind name after asks read chosen offered =
    reads_none (initial_server role.Backend setup first_id max_retrans) octets is
    ∙ picks_up setup first_id max_retrans octets id kind name after _ read chosen offered
picks_up_as true setup is first_id max_retrans octets id kind name after asks read chosen offered =
    reads_identity (initial_server role.Backend setup first_id max_retrans)
    octets id name is refl read
    ∙ ap wraps (picks_up setup first_id max_retrans octets id kind name after _ read chosen offered)
    ∙ wraps_request (backend setup first_id max_retrans)
    (before_proposal way.FirstIdentity ++ state.ProposeMethod ∷ state.MethodRequest
    ∷ state.SendRequest ∷ state.Idle ∷ [])
    (after_id id) kind asks no_tags (after_id id) progress.Proposed (kind ∷ []) after
