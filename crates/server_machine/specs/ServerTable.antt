-- The stand-alone server of RFC 4137 section 5 and the backend of section 6, over the views of
-- their methods: each call as a function. The backend is the same table, entered by its first
-- Response.
use Rattle.std.specs.Prelude.{◌≡◌, ◌≤◌, ℕ, ◌+◌, ◌%◌, List, [], ◌∷◌, ◌++◌, Bool, true, false, ◌==◌}
use Rattle.std.specs.Prelude.{◌&&◌, ◌||◌, not, nat_le, if◌then◌else◌, Option, Some, None, Result}
use Rattle.std.specs.Prelude.{Ok, Err, map}
use Rattle.login_setup.specs.Setup.{ServerSetup}
use Rattle.login_setup.specs.declared.users.User.{User}
use Rattle.std.specs.List.{list_all}
use Rattle.octet_lists.specs.Among.{is_among, are_distinct, identity_kind, nak_kind}
use Rattle.login_setup.specs.Setup.{IsSoundServer}
use Rattle.eap_packet.specs.Packet.{PacketValue, request, response, success, failure, spelled}
use Rattle.eap_packet.specs.Fault.{packet_of}
use Rattle.eap_packet.specs.declared.cause.Cause.{Cause}
use Rattle.eap_packet.specs.declared.cause.Cause.TheVariants as cause
use Rattle.eap_packet.specs.declared.state.State.{State}
use Rattle.eap_packet.specs.declared.state.State.TheVariants as state
use Rattle.login_policy.specs.Policy.{next_kind}
use Rattle.eap_method.specs.Steps.{Step}
use Rattle.eap_method.specs.Tags.{Tags, no_tags}
use Rattle.eap_method.specs.ServerTurn.{ServerTurn}
use Rattle.eap_method.specs.ServerTurn as turn
use Rattle.eap_method.specs.declared.values.Report.{Report}
use Rattle.eap_method.specs.Server.{ServerShown, ServerViews, server_views, view_of, views_started}
use Rattle.eap_method.specs.Server.{side_of, server_offer, server_turn, server_report_of}
use Rattle.eap_method.specs.Steps.{sends, enters, discards, is_end}
use Rattle.eap_method.specs.Unnamed.{PreservesServers}
use Rattle.server_machine.specs.Variables.{ServerVariables}
use Rattle.server_machine.specs.declared.variables.Progress.{Progress}
use Rattle.server_machine.specs.declared.variables.Progress.TheVariants as progress
use Rattle.server_machine.specs.declared.variables.Role.{Role}
use Rattle.server_machine.specs.declared.variables.Role.TheVariants as role
use Rattle.server_machine.specs.declared.variables.ProposalPath.{ProposalPath}
use Rattle.server_machine.specs.declared.variables.ProposalPath.TheVariants as way

-- a machine as its fields show it: its variables and its objects
pub record ServerValue (M : Type 0) : Type 0 where
  pub vars : ServerVariables
  pub methods : List M

-- the variables, and the views of the methods that the server proposes
pub record ServerNow : Type 0 where
  pub vars : ServerVariables
  pub views : ServerViews

-- what a machine is, if an object shows its method and view
abbrev pub now_of : {M : Type 0} → (M → ServerShown) → ServerValue M → ServerNow
now_of shown value = record {
  vars = value.vars;
  views = server_views value.vars.setup.methods (map shown value.methods);
}

-- what no call of a server changes but those that set the nonce or the users: its settings, the
-- Types of its objects, and what the objects show whose methods the settings don't name
pub record Preserves {M : Type 0} (shown : M → ServerShown)
    (before after : ServerValue M) : Type 0 where
  pub objects : PreservesServers before.vars.setup.methods (map shown before.methods)
      (map shown after.methods)
  pub setup : after.vars.setup ≡ before.vars.setup

-- what a call answers, and the machine after it
pub record ServerAnswer : Type 0 where
  pub step : Step
  pub after : ServerNow

abbrev pub answer : Step → ServerNow → ServerAnswer
answer step after = record { step = step; after = after }

-- a server that has not started; the methods that it proposes have begun
abbrev pub initial_vars_of : Role → ServerSetup → ℕ → ℕ → ServerVariables
initial_vars_of of setup first_id max_retrans = record {
  role = of;
  setup = setup;
  first_id = first_id;
  max_retrans = max_retrans;
  state = state.Initialize;
  current_id = None;
  current = None;
  progress = progress.Continue;
  retrans_count = 0;
  last_request = [];
  proposed = [];
}

abbrev pub initial_server : Role → ServerSetup → ServerViews → ℕ → ℕ → ServerNow
initial_server of setup views first_id max_retrans = record {
  vars = initial_vars_of of setup first_id max_retrans;
  views = views_started setup views;
}

-- a backend before its first Response; it has no first Identifier of its own, and sends nothing
-- again
abbrev pub initial_backend : ServerSetup → ServerViews → ServerNow
initial_backend setup views = initial_server role.Backend setup views 0 0

-- the next Identifier: the first one, or one more modulo 256
abbrev pub next_id_after : ℕ → Option ℕ → ℕ
next_id_after first None = first
next_id_after first (Some id) = (id + 1) % 256

abbrev pub next_id : ServerVariables → ℕ
next_id vars = next_id_after vars.first_id vars.current_id

-- SEND_REQUEST: a Request with the next Identifier, which is sent again from now on
abbrev pub with_request : ServerVariables → List ℕ → ServerVariables
with_request vars octets = record vars {
  current_id = Some (next_id vars);
  retrans_count = 0;
  last_request = octets;
}

-- the packets that the server makes itself: the Identity Request, Success and Failure
abbrev pub identity_request : ℕ → List ℕ
identity_request id = spelled (request id identity_kind [])

abbrev pub success_packet : ℕ → List ℕ
success_packet id = spelled (success id)

abbrev pub failure_packet : ℕ → List ℕ
failure_packet id = spelled (failure id)

-- INITIALIZE, then Identity is proposed and its Request sent
unfoldable pub server_start : ServerNow → ServerAnswer
server_start now =
    let octets = identity_request now.vars.first_id in
    answer
    (sends (state.Initialize ∷ state.SelectAction ∷ state.ProposeMethod ∷ state.MethodRequest
    ∷ state.SendRequest ∷ state.Idle ∷ []) octets no_tags)
    (record {
      vars = record now.vars {
        state = state.Idle;
        current_id = Some now.vars.first_id;
        current = Some identity_kind;
        progress = progress.Continue;
        retrans_count = 0;
        last_request = octets;
        proposed = [];
      };
      views = now.views;
    })

-- DISCARD changes nothing
abbrev pub server_discard : ServerNow → Cause → ServerAnswer
server_discard now c = answer (discards (state.Received ∷ state.Discard ∷ state.Idle ∷ []) c) now

-- SUCCESS and FAILURE send a Success or a Failure with currentId
abbrev pub ends_well : List State → ServerVariables → ServerViews → ℕ → Tags → ServerAnswer
ends_well entered vars views id tags =
    answer (sends (entered ++ state.Success ∷ []) (success_packet id) tags)
    (record { vars = record vars { state = state.Success }; views = views })

abbrev pub ends_badly : List State → ServerVariables → ServerViews → ℕ → Tags → ServerAnswer
ends_badly entered vars views id tags =
    answer (sends (entered ++ state.Failure ∷ []) (failure_packet id) tags)
    (record { vars = record vars { state = state.Failure }; views = views })

-- PROPOSE_METHOD, METHOD_REQUEST and SEND_REQUEST of a method; without an object of it, FAILURE
abbrev pub offers : List State → ServerVariables → ServerViews → ℕ → ℕ → Option (List ℕ)
    → ServerAnswer
offers entered vars views id kind None = ends_badly entered vars views id no_tags
offers entered vars views id kind (Some octets) =
    answer
    (sends (entered ++ state.ProposeMethod ∷ state.MethodRequest ∷ state.SendRequest ∷ state.Idle
    ∷ []) octets no_tags)
    (record {
      vars = record (with_request vars octets) {
        current = Some kind;
        progress = progress.Proposed;
        proposed = vars.proposed ++ kind ∷ [];
      };
      views = views;
    })

-- SELECT_ACTION if a method is to be proposed: the first of the order that isn't yet proposed and
-- that the Nak, if one has come, desires; if there is none, FAILURE
abbrev pub proposes : List State → ServerVariables → ServerViews → ℕ → Option ℕ → ServerAnswer
proposes entered vars views id None = ends_badly entered vars views id no_tags
proposes entered vars views id (Some kind) =
    let offer = server_offer (side_of vars.setup) vars.setup.nonce kind (next_id vars) views in
    offers entered vars offer.after id kind offer.packet

unfoldable pub select_action : List State → ServerVariables → ServerViews → ℕ → Option (List ℕ)
    → ServerAnswer
select_action entered vars views id desired =
    proposes entered vars views id (next_kind vars.setup.methods vars.proposed desired)

-- the states up to SELECT_ACTION
abbrev pub before_proposal : ProposalPath → List State
before_proposal way.AfterNak = state.Received ∷ state.Nak ∷ state.SelectAction ∷ []
before_proposal way.AfterResponse =
    state.Received ∷ state.IntegrityCheck ∷ state.MethodResponse ∷ state.SelectAction ∷ []
before_proposal way.FirstIdentity =
    state.PickUpMethod ∷ state.MethodResponse ∷ state.SelectAction ∷ []
before_proposal way.FirstNak = state.Nak ∷ state.SelectAction ∷ []
before_proposal way.FirstOther = state.PickUpMethod ∷ state.SelectAction ∷ []

-- the identity has come: the Identity round is over, and the first method is proposed
abbrev pub receives_identity : ServerNow → ℕ → ServerAnswer
receives_identity now id =
    select_action (before_proposal way.AfterResponse)
    (record now.vars { progress = progress.End }) now.views id None

-- INTEGRITY_CHECK of the current method's turn
abbrev pub method_answers : ServerNow → ℕ → ServerViews → ServerTurn → ServerAnswer
method_answers now id views (turn.Discard c) =
    answer (discards (state.Received ∷ state.IntegrityCheck ∷ state.Discard ∷ state.Idle ∷ []) c)
    now
method_answers now id views (turn.Request octets tags) =
    answer
    (sends (state.Received ∷ state.IntegrityCheck ∷ state.MethodResponse ∷ state.MethodRequest
    ∷ state.SendRequest ∷ state.Idle ∷ []) octets tags)
    (record {
      vars = record (with_request now.vars octets) { progress = progress.Continue };
      views = views;
    })
method_answers now id views (turn.Done good tags) =
    let entered = before_proposal way.AfterResponse in
    let vars = record now.vars { progress = progress.End } in
    if good then ends_well entered vars views id tags else ends_badly entered vars views id tags

-- the views after a turn: a discard keeps those before it
abbrev pub views_after : ServerViews → ServerViews → ServerTurn → ServerViews
views_after before after (turn.Discard c) = before
views_after before after (turn.Request octets tags) = after
views_after before after (turn.Done good tags) = after

-- INTEGRITY_CHECK: the method of this Type checks the whole packet
unfoldable pub server_method : ServerNow → ℕ → ℕ → List ℕ → ServerAnswer
server_method now id kind octets =
    let out = server_turn now.vars.setup.users (next_id now.vars) kind now.views octets in
    method_answers now id out.after out.turn

-- whether a number is the one that is awaited
abbrev pub is_awaited : Option ℕ → ℕ → Bool
is_awaited None number = false
is_awaited (Some awaited) number = awaited == number

abbrev pub is_proposed : Progress → Bool
is_proposed p = elim p [ progress.Proposed ↦ true | _ ↦ false ]

-- a Response with currentId; a Nak is accepted only while the method is proposed
abbrev pub current_response : ServerNow → ℕ → ℕ → List ℕ → ServerAnswer
current_response now id kind body =
    if (kind == nak_kind) && is_proposed now.vars.progress
    then select_action (before_proposal way.AfterNak) now.vars now.views id (Some body)
    else if is_awaited now.vars.current kind
    then (if kind == identity_kind then receives_identity now id
    else server_method now id kind (spelled (response id kind body)))
    else server_discard now cause.WrongMethod

abbrev pub server_row : ServerNow → Result PacketValue Cause → ServerAnswer
server_row now (Err c) = server_discard now c
server_row now (Ok (request id kind body)) = server_discard now cause.WrongRole
server_row now (Ok (response id kind body)) =
    if is_awaited now.vars.current_id id then current_response now id kind body
    else server_discard now cause.IdMismatch
server_row now (Ok (success id)) = server_discard now cause.WrongRole
server_row now (Ok (failure id)) = server_discard now cause.WrongRole

-- ---- the backend's first Response (RFC 4137 section 6.4)

-- it sets currentId, from which the Requests go on
abbrev pub picked_up : ServerVariables → ℕ → ServerVariables
picked_up vars id = record vars { state = state.Idle; current_id = Some id }

-- PICK_UP_METHOD or NAK: the Identity round is over before it, and the first method is proposed, or
-- the first that a Nak desires
abbrev pub first_response : ServerNow → ℕ → ℕ → List ℕ → ServerAnswer
first_response now id kind body =
    if kind == nak_kind
    then select_action (before_proposal way.FirstNak) (picked_up now.vars id)
    now.views id (Some body)
    else if kind == identity_kind
    then select_action (before_proposal way.FirstIdentity)
    (record (picked_up now.vars id) { progress = progress.End }) now.views id None
    else select_action (before_proposal way.FirstOther) (picked_up now.vars id) now.views id None

-- all else is discarded with an empty path
abbrev pub first_discard : ServerNow → Cause → ServerAnswer
first_discard now c = answer (discards [] c) now

abbrev pub pick_up : ServerNow → Result PacketValue Cause → ServerAnswer
pick_up now (Err c) = first_discard now c
pick_up now (Ok (request id kind body)) = first_discard now cause.WrongRole
pick_up now (Ok (response id kind body)) = first_response now id kind body
pick_up now (Ok (success id)) = first_discard now cause.WrongRole
pick_up now (Ok (failure id)) = first_discard now cause.WrongRole

-- whether the server has started
abbrev pub is_started : ServerVariables → Bool
is_started vars = elim vars.state [ state.Initialize ↦ false | _ ↦ true ]

abbrev pub is_backend : ServerVariables → Bool
is_backend vars = elim vars.role [ role.Backend ↦ true | role.StandAlone ↦ false ]

-- whether a backend still waits for its first Response
abbrev pub awaits_first : ServerVariables → Bool
awaits_first vars = is_backend vars && not (is_started vars)

-- whether octets may come: to a backend from the first, to a stand-alone server once it has started
abbrev pub is_ready : ServerVariables → Bool
is_ready vars = is_backend vars || is_started vars

-- the settings with this nonce
abbrev pub setup_with_nonce : ServerSetup → List ℕ → ServerSetup
setup_with_nonce setup nonce = record setup { nonce = nonce }

-- the settings with these users, and the machine that knows them from now on
abbrev pub own_users : ServerSetup → List User → ServerSetup
own_users setup users = record setup { users = users }

abbrev pub with_users : {M : Type 0} → ServerValue M → List User → ServerValue M
with_users value
    users = record value { vars = record value.vars { setup = own_users value.vars.setup users } }

-- every variable and the view of each method as INITIALIZE sets it, with this nonce
abbrev pub made_again : ServerNow → List ℕ → ServerNow
made_again now nonce = initial_server now.vars.role (setup_with_nonce now.vars.setup nonce)
    now.views now.vars.first_id now.vars.max_retrans

-- a new conversation: a stand-alone server starts, and a backend waits for its first Response
unfoldable pub server_restart : ServerNow → List ℕ → ServerAnswer
server_restart now nonce =
    if is_backend now.vars then answer (enters (state.Initialize ∷ []) no_tags)
    (made_again now nonce) else server_start (made_again now nonce)

-- whether the retransmission timer may end: at a stand-alone server that has started and has not
-- ended
abbrev pub has_timer : ServerVariables → Bool
has_timer vars = not (is_backend vars) && (is_started vars && not (is_end vars.state))

-- a delivery; after the end it is discarded with an empty path
unfoldable pub server_deliver : ServerNow → List ℕ → ServerAnswer
server_deliver now octets =
    if is_end now.vars.state then answer (discards [] cause.Ended) now
    else if awaits_first now.vars then pick_up now (packet_of octets)
    else server_row now (packet_of octets)

-- the retransmission timer ends: the Request is sent again, at most MaxRetrans times
unfoldable pub server_timeout : ServerNow → ServerAnswer
server_timeout now =
    let count = now.vars.retrans_count + 1 in
    if nat_le count now.vars.max_retrans
    then answer (sends (state.Retransmit ∷ state.Idle ∷ []) now.vars.last_request no_tags)
    (record { vars = record now.vars { retrans_count = count }; views = now.views })
    else answer (enters (state.Retransmit ∷ state.TimeoutFailure ∷ []) no_tags)
    (record {
      vars = record now.vars { retrans_count = count; state = state.TimeoutFailure };
      views = now.views;
    })

-- the report of the current method
abbrev pub current_report : ServerViews → Option ℕ → Option Report
current_report views None = None
current_report views (Some kind) = server_report_of kind views

-- what the server reports
abbrev pub server_reports : ServerNow → Option Report
server_reports now = current_report now.views now.vars.current

-- the view of the current method
abbrev pub current_of : ServerViews → Option ℕ → Option ServerShown
current_of views None = None
current_of views (Some kind) = view_of views kind

abbrev pub current_view : ServerNow → Option ServerShown
current_view now = current_of now.views now.vars.current

-- whether a current method is Identity or one that the server proposes
abbrev pub is_current : List ℕ → Option ℕ → Bool
is_current order None = true
is_current order (Some kind) = (kind == identity_kind) || is_among order kind

-- what holds of the variables at every moment
pub record AreInOrder (vars : ServerVariables) : Type 0 where
  -- the settings are sound
  pub sound : IsSoundServer vars.setup
  -- the current method is Identity or one of the order
  pub current : is_current vars.setup.methods vars.current ≡ true
  -- the methods proposed are of the order, and none was proposed twice
  pub proposed : are_distinct vars.proposed ≡ true
  pub ordered : list_all (is_among vars.setup.methods) vars.proposed ≡ true
  -- a server that has not ended has sent its Request again at most MaxRetrans times
  pub in_time : is_end vars.state ≡ false → vars.retrans_count ≤ vars.max_retrans
  pub few : vars.max_retrans ≤ 10
