-- The peer of RFC 4137 section 4, over the views of its methods: each call as a function.
use Rattle.std.specs.Prelude.{◌≡◌, ℕ, List, [], ◌∷◌, ◌++◌, Bool, true, false, ◌==◌, ◌&&◌}
use Rattle.std.specs.Prelude.{if◌then◌else◌, Option, Some, None, Result, Ok, Err, map}
use Rattle.login_setup.specs.declared.setup.PeerSetup.{PeerSetup}
use Rattle.octet_lists.specs.Among.{is_among, identity_kind, notification_kind, nak_kind}
use Rattle.login_setup.specs.Setup.{IsSoundPeer, HasKeys}
use Rattle.eap_packet.specs.Packet.{PacketValue, request, response, success, failure, spelled}
use Rattle.eap_packet.specs.Fault.{packet_of}
use Rattle.eap_packet.specs.declared.cause.Cause.{Cause}
use Rattle.eap_packet.specs.declared.cause.Cause.TheVariants as cause
use Rattle.eap_packet.specs.declared.state.State.{State}
use Rattle.eap_packet.specs.declared.state.State.TheVariants as state
use Rattle.login_policy.specs.Policy.{nak_of}
use Rattle.eap_method.specs.Steps.{Step}
use Rattle.eap_method.specs.PeerTurn.{PeerTurn}
use Rattle.eap_method.specs.PeerTurn.{Discard, Reply}
use Rattle.eap_method.specs.declared.values.MethodState.{MethodState}
use Rattle.eap_method.specs.declared.values.MethodState.TheVariants as method
use Rattle.eap_method.specs.declared.values.Decision.{Decision}
use Rattle.eap_method.specs.declared.values.Decision.TheVariants as decision
use Rattle.eap_method.specs.declared.values.Report.{Report}
use Rattle.eap_method.specs.Peer.{PeerShown, first_of, PeerViews, peer_views, view_of}
use Rattle.eap_method.specs.Peer.{views_started, peer_turn, peer_report_of}
use Rattle.eap_method.specs.Steps.{sends, enters, discards, is_end}
use Rattle.eap_method.specs.Tags.{no_tags}
use Rattle.eap_method.specs.Unnamed.{PreservesPeers}
use Rattle.peer_machine.specs.declared.variables.PeerVariables.{PeerVariables}

-- a machine as its fields show it: its variables and its objects
pub record PeerValue (M : Type 0) : Type 0 where
  pub vars : PeerVariables
  pub methods : List M

-- the variables, and the views of the methods that the peer allows
pub record PeerNow : Type 0 where
  pub vars : PeerVariables
  pub views : PeerViews

-- what a machine is, if an object shows its method and view
abbrev pub now_of : {M : Type 0} → (M → PeerShown) → PeerValue M → PeerNow
now_of shown value = record {
  vars = value.vars;
  views = peer_views value.vars.setup.methods (map shown value.methods);
}

-- what no call of a peer changes but `restart`: its settings, the Types of its objects, and what
-- the objects show whose methods the settings don't name
pub record Preserves {M : Type 0} (shown : M → PeerShown)
    (before after : PeerValue M) : Type 0 where
  pub objects : PreservesPeers before.vars.setup.methods (map shown before.methods)
      (map shown after.methods)
  pub setup : after.vars.setup ≡ before.vars.setup

-- what a call answers, and the machine after it
pub record PeerAnswer : Type 0 where
  pub step : Step
  pub after : PeerNow

abbrev pub answer : Step → PeerNow → PeerAnswer
answer step after = record { step = step; after = after }

-- the machine with other variables
abbrev pub with_vars : PeerNow → PeerVariables → PeerNow
with_vars now vars = record now { vars = vars }

-- INITIALIZE (section 4.5): no method is selected, and the methods that are allowed have begun
abbrev pub initial_vars : PeerSetup → PeerVariables
initial_vars setup = record {
  setup = setup;
  state = state.Idle;
  selected = None;
  method_state = method.NotSet;
  decision = decision.Fail;
  last_id = None;
  last_response = [];
}

abbrev pub initial_peer : PeerSetup → PeerViews → PeerNow
initial_peer setup views = record { vars = initial_vars setup; views = views_started setup views }

-- the settings with this nonce
abbrev pub setup_with_nonce : PeerSetup → List ℕ → PeerSetup
setup_with_nonce setup nonce = record setup { nonce = nonce }

-- a new conversation with it: every variable and the view of each allowed method as INITIALIZE sets
-- it
unfoldable pub peer_restart : PeerNow → List ℕ → PeerAnswer
peer_restart now nonce = answer (enters (state.Initialize ∷ state.Idle ∷ []) no_tags)
    (initial_peer (setup_with_nonce now.vars.setup nonce) now.views)

-- whether the Identifier is lastId
abbrev pub is_last_id : Option ℕ → ℕ → Bool
is_last_id None id = false
is_last_id (Some last) id = last == id

abbrev pub is_done : MethodState → Bool
is_done m = elim m [ method.Done ↦ true | _ ↦ false ]

abbrev pub is_cont : MethodState → Bool
is_cont m = elim m [ method.Cont ↦ true | _ ↦ false ]

abbrev pub is_fail : Decision → Bool
is_fail d = elim d [ decision.Fail ↦ true | _ ↦ false ]

abbrev pub is_uncond : Decision → Bool
is_uncond d = elim d [ decision.UncondSucc ↦ true | _ ↦ false ]

-- DISCARD changes nothing
abbrev pub peer_discard : PeerNow → Cause → PeerAnswer
peer_discard now c = answer (discards (state.Received ∷ state.Discard ∷ state.Idle ∷ []) c) now

-- SEND_RESPONSE sets lastId and lastRespData
abbrev pub peer_respond : PeerNow → State → ℕ → List ℕ → PeerAnswer
peer_respond now entered id octets =
    answer (sends (state.Received ∷ entered ∷ state.SendResponse ∷ state.Idle ∷ []) octets no_tags)
    (with_vars now (record now.vars { last_id = Some id; last_response = octets }))

-- the Responses that the peer makes itself: Identity, Notification, and a Nak of the allowed Types
abbrev pub identity_response : ℕ → List ℕ → List ℕ
identity_response id name = spelled (response id identity_kind name)

abbrev pub notification_response : ℕ → List ℕ
notification_response id = spelled (response id notification_kind [])

abbrev pub nak_response : ℕ → List ℕ → List ℕ
nak_response id methods = spelled (response id nak_kind (nak_of methods))

-- RETRANSMIT sends lastRespData unchanged
abbrev pub peer_retransmit : PeerNow → PeerAnswer
peer_retransmit now =
    answer (sends (state.Received ∷ state.Retransmit ∷ state.SendResponse ∷ state.Idle ∷ [])
    now.vars.last_response no_tags) now

-- the states before METHOD: GET_METHOD, if it has just selected the method
abbrev pub before_method : Bool → List State
before_method true = state.Received ∷ state.GetMethod ∷ []
before_method false = state.Received ∷ []

-- METHOD and what follows it. A discard undoes a selection that GET_METHOD has just made; a method
-- that is over and has failed sends nothing more
abbrev pub method_answers : Bool → PeerNow → ℕ → ℕ → PeerViews → PeerTurn → PeerAnswer
method_answers selects now kind id views (Discard c) =
    answer (discards (before_method selects ++ state.Method ∷ state.Discard ∷ state.Idle ∷ []) c)
    now
method_answers selects now kind id views (Reply packet m d tags) =
    if is_done m && is_fail d
    then answer (enters (before_method selects ++ state.Method ∷ state.Failure ∷ []) tags)
    (record {
      vars = record now.vars {
        state = state.Failure;
        selected = Some kind;
        method_state = m;
        decision = d;
      };
      views = views;
    })
    else answer (sends
    (before_method selects ++ state.Method ∷ state.SendResponse ∷ state.Idle ∷ []) packet tags)
    (record {
      vars = record now.vars {
        selected = Some kind;
        method_state = m;
        decision = d;
        last_id = Some id;
        last_response = packet;
      };
      views = views;
    })

-- the views after a turn: a discard keeps those before it
abbrev pub views_after : PeerViews → PeerViews → PeerTurn → PeerViews
views_after before after (Discard c) = before
views_after before after (Reply packet m d tags) = after

-- the method of this Type handles the whole packet
unfoldable pub peer_method : Bool → PeerNow → ℕ → ℕ → List ℕ → PeerAnswer
peer_method selects now kind id octets =
    let out =
    peer_turn kind now.views octets in method_answers selects now kind id out.after out.turn

-- GET_METHOD: a Type that the policy allows is selected; any other is answered by a Nak
abbrev pub get_method : PeerNow → ℕ → ℕ → List ℕ → PeerAnswer
get_method now id kind octets =
    if is_among now.vars.setup.methods kind
    then peer_method true now kind id octets
    else peer_respond now state.GetMethod id (nak_response id now.vars.setup.methods)

-- a Request with a new Identifier
abbrev pub new_request : PeerNow → ℕ → ℕ → List ℕ → Option ℕ → PeerAnswer
new_request now id kind octets None =
    if kind == identity_kind
    then peer_respond now state.Identity id (identity_response id now.vars.setup.name)
    else if kind == notification_kind
    then peer_respond now state.Notification id (notification_response id)
    else get_method now id kind octets
new_request now id kind octets (Some selected) =
    if kind == notification_kind then peer_discard now cause.NotAllowed
    else if kind == selected
    then (if is_done now.vars.method_state then peer_discard now cause.MethodDone
    else peer_method false now kind id octets)
    else peer_discard now cause.OtherMethod

-- the peer ends in this state
abbrev pub peer_ends : PeerNow → List State → State → PeerAnswer
peer_ends now entered s =
    answer (enters (entered ++ s ∷ []) no_tags) (with_vars now (record now.vars { state = s }))

-- a Success with lastId
abbrev pub peer_success : PeerNow → PeerAnswer
peer_success now =
    if is_fail now.vars.decision
    then (if is_cont now.vars.method_state then peer_discard now cause.EarlySuccess
    else peer_ends now (state.Received ∷ []) state.Failure)
    else peer_ends now (state.Received ∷ []) state.Success

-- a Failure with lastId
abbrev pub peer_failure : PeerNow → PeerAnswer
peer_failure now =
    if is_uncond now.vars.decision then peer_discard now cause.LateFailure
    else if is_cont now.vars.method_state then peer_discard now cause.EarlyFailure
    else peer_ends now (state.Received ∷ []) state.Failure

abbrev pub peer_row : PeerNow → Result PacketValue Cause → PeerAnswer
peer_row now (Err c) = peer_discard now c
peer_row now (Ok (request id kind body)) =
    if is_last_id now.vars.last_id id
    then peer_retransmit now
    else new_request now id kind (spelled (request id kind body)) now.vars.selected
peer_row now (Ok (response id kind body)) = peer_discard now cause.WrongRole
peer_row now (Ok (success id)) =
    if is_last_id now.vars.last_id id then peer_success now else peer_discard now cause.IdMismatch
peer_row now (Ok (failure id)) =
    if is_last_id now.vars.last_id id then peer_failure now else peer_discard now cause.IdMismatch

-- a delivery; after the end it is discarded with an empty path
unfoldable pub peer_deliver : PeerNow → List ℕ → PeerAnswer
peer_deliver now octets =
    if is_end now.vars.state then answer (discards [] cause.Ended) now
    else peer_row now (packet_of octets)

-- the lower layer is idle: nothing more will come (section 4.1.1)
unfoldable pub peer_idle : PeerNow → PeerAnswer
peer_idle now =
    peer_ends now [] (if is_uncond now.vars.decision then state.Success else state.Failure)

-- the lower layer reports success: SUCCESS after a decision other than FAIL, else FAILURE if
-- methodState isn't CONT, else nothing
unfoldable pub peer_alt_accept : PeerNow → PeerAnswer
peer_alt_accept now =
    if is_fail now.vars.decision
    then (if is_cont now.vars.method_state then answer (enters [] no_tags) now
    else peer_ends now [] state.Failure)
    else peer_ends now [] state.Success

-- the lower layer reports failure
unfoldable pub peer_alt_reject : PeerNow → PeerAnswer
peer_alt_reject now = peer_ends now [] state.Failure

-- the report of the selected method
abbrev pub selected_report : PeerViews → Option ℕ → Option Report
selected_report views None = None
selected_report views (Some kind) = peer_report_of kind views

-- what the peer reports
abbrev pub peer_reports : PeerNow → Option Report
peer_reports now = selected_report now.views now.vars.selected

-- what the object of the selected method shows; none without a method or an object
abbrev pub selected_shown : Option ℕ → List PeerShown → Option PeerShown
selected_shown None shown = None
selected_shown (Some kind) shown = first_of kind shown

-- the view of the selected method
abbrev pub selected_of : PeerViews → Option ℕ → Option PeerShown
selected_of views None = None
selected_of views (Some kind) = view_of views kind

abbrev pub selected_view : PeerNow → Option PeerShown
selected_view now = selected_of now.views now.vars.selected

-- a selected method is one that the policy allows
abbrev pub is_allowed : List ℕ → Option ℕ → Bool
is_allowed methods None = true
is_allowed methods (Some kind) = is_among methods kind

-- what holds of the variables at every moment
pub record AreInOrder (vars : PeerVariables) : Type 0 where
  -- the settings are sound, with a key for each allowed method
  pub sound : IsSoundPeer vars.setup
  pub keys : HasKeys vars.setup
  -- a selected method is one that the policy allows
  pub selected : is_allowed vars.setup.methods vars.selected ≡ true
