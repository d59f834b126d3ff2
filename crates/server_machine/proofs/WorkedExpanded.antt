-- Worked values of the definitions of a server that reads Expanded Types (RFC 3748 sections 5.3.2
-- and 5.7).
use Rattle.std.proofs.Common.{◌≡◌, ℕ, List, [], ◌∷◌, ◌++◌, true, Some, None, refl}
use Rattle.login_setup.specs.Setup.{ServerSetup}
use Rattle.eap_packet.specs.Fault.{fault, packet_of}
use Rattle.eap_packet.specs.Expanded.{are_expanded}
use Rattle.eap_packet.specs.Packet.{spelled}
use Rattle.eap_packet.specs.declared.cause.Cause.TheVariants.{BadExpanded, WrongMethod, WrongRole}
use Rattle.eap_packet.specs.declared.state.State.TheVariants.{Received, Discard, Idle}
use Rattle.login_policy.specs.Policy.{nak_of}
use Rattle.login_policy.specs.Expanded.{kinds_in}
use Rattle.eap_method.specs.Server.{ServerViews}
use Rattle.eap_method.specs.Steps.{sends, discards}
use Rattle.eap_method.specs.Tags.{no_tags}
use Rattle.server_machine.specs.Expanded.{nak_octets, wraps, server_receives}
use Rattle.server_machine.specs.ServerTable.{ServerNow, answer, initial_backend, before_proposal}
use Rattle.server_machine.specs.ServerTable.{receives_identity, picked_up, select_action}
use Rattle.server_machine.specs.ServerTable.{server_deliver, initial_server, server_start}
use Rattle.server_machine.specs.declared.variables.Role.TheVariants.{StandAlone}
use Rattle.server_machine.specs.Variables.{ServerVariables}
use Rattle.server_machine.specs.declared.variables.ProposalPath.TheVariants.{FirstNak}

-- Vendor-Id 0 and Vendor-Type 3 before a list of entries, and the entry of a Type of the IETF
abbrev nak_with : List ℕ → List ℕ
nak_with list = 0 ∷ 0 ∷ 0 ∷ 0 ∷ 0 ∷ 0 ∷ 3 ∷ list

abbrev entry : ℕ → List ℕ
entry kind = 254 ∷ 0 ∷ 0 ∷ 0 ∷ 0 ∷ 0 ∷ 0 ∷ kind ∷ []

-- the Nak of a list that names the method of Type 47
nak_of_one : (id : ℕ) → nak_octets id (nak_with (entry 47)) ≡ 2 ∷ id ∷ 0 ∷ 6 ∷ 3 ∷ 47 ∷ []
unfolding spelled nak_of kinds_in
nak_of_one id = refl

-- of one with entries of vendor 1 alone, and of one that names neither method
nak_of_other_vendor : (id : ℕ)
    → nak_octets id (nak_with (254 ∷ 0 ∷ 0 ∷ 1 ∷ 0 ∷ 0 ∷ 0 ∷ 47 ∷ 254 ∷ 0 ∷ 0 ∷ 1 ∷ 0 ∷ 0 ∷ 0 ∷ 51
    ∷ [])) ≡ 2 ∷ id ∷ 0 ∷ 6 ∷ 3 ∷ 0 ∷ []
unfolding spelled nak_of kinds_in
nak_of_other_vendor id = refl

nak_of_neither : (id : ℕ) → nak_octets id (nak_with (entry 13 ++ entry 4))
    ≡ 2 ∷ id ∷ 0 ∷ 6 ∷ 3 ∷ 0 ∷ []
unfolding spelled nak_of kinds_in
nak_of_neither id = refl

-- each method once, where it stands first
nak_of_repeated : (id : ℕ) → nak_octets id (nak_with (entry 51 ++ entry 47 ++ entry 51))
    ≡ 2 ∷ id ∷ 0 ∷ 7 ∷ 3 ∷ 51 ∷ 47 ∷ []
unfolding spelled nak_of kinds_in
nak_of_repeated id = refl

-- a stand-alone server that waits for the identity, and a backend that waits for its first Response
abbrev waits : ServerSetup → ServerNow
waits setup = (server_start
    (initial_server StandAlone (record setup { expanded = true }) (λ kind. None) 1 4)).after

abbrev backend : ServerSetup → ServerNow
backend setup = initial_backend (record setup { expanded = true }) (λ kind. None)

-- Type 254 with one octet of Type-Data
abbrev short : List ℕ
short = 2 ∷ 1 ∷ 0 ∷ 6 ∷ 254 ∷ 0 ∷ []

short_is_discarded : (setup : ServerSetup) → server_receives (waits setup) short
    ≡ answer (discards (Received ∷ Discard ∷ Idle ∷ []) BadExpanded) (waits setup)
unfolding server_receives server_start packet_of fault
short_is_discarded setup = refl

-- a backend waits on, and has no currentId
backend_waits_on : (setup : ServerSetup) → server_receives (backend setup) short
    ≡ answer (discards [] BadExpanded) (backend setup)
unfolding server_receives packet_of fault
backend_waits_on setup = refl

without_id : (setup : ServerSetup)
    → (server_receives (backend setup) short).after.vars.current_id ≡ None
unfolding server_receives packet_of fault
without_id setup = refl

-- a Request of that form is one of the wrong role
asked_short : (setup : ServerSetup)
    → server_receives (waits setup) (1 ∷ 1 ∷ 0 ∷ 6 ∷ 254 ∷ 0 ∷ [])
    ≡ answer (discards (Received ∷ Discard ∷ Idle ∷ []) WrongRole) (waits setup)
unfolding server_receives server_deliver server_start packet_of fault
asked_short setup = refl

-- an Identity Response of Type 254, of the name "a", is taken
identity_is_accepted : (setup : ServerSetup)
    → server_receives (waits setup) (2 ∷ 1 ∷ 0 ∷ 13 ∷ 254 ∷ 0 ∷ 0 ∷ 0 ∷ 0 ∷ 0 ∷ 0 ∷ 1 ∷ 97 ∷ [])
    ≡ wraps (receives_identity (waits setup) 1)
unfolding server_receives server_deliver server_start packet_of fault spelled
identity_is_accepted setup = refl

-- an Expanded Nak of the Identity Request, which is of Type 1, isn't; a backend takes one as its
-- first Response
abbrev nak_packet : List ℕ
nak_packet = 2 ∷ 1 ∷ 0 ∷ 20 ∷ 254 ∷ nak_with (entry 47)

nak_of_identity : (setup : ServerSetup)
    → server_receives (waits setup) nak_packet
    ≡ answer (discards (Received ∷ Discard ∷ Idle ∷ []) WrongMethod) (waits setup)
unfolding server_receives server_deliver server_start packet_of fault spelled are_expanded
nak_of_identity setup = refl

first_nak : (setup : ServerSetup) → server_receives (backend setup) nak_packet
    ≡ wraps (select_action (before_proposal FirstNak) (picked_up (backend setup).vars 1)
    (backend setup).views 1 (Some (47 ∷ [])))
unfolding server_receives server_deliver packet_of fault spelled are_expanded nak_of kinds_in
first_nak setup = refl

-- a Request is wrapped, and kept so; a Success is sent as it is
abbrev request : List ℕ
request = 1 ∷ 2 ∷ 0 ∷ 6 ∷ 47 ∷ 0 ∷ []

abbrev wrapped_request : List ℕ
wrapped_request = 1 ∷ 2 ∷ 0 ∷ 13 ∷ 254 ∷ 0 ∷ 0 ∷ 0 ∷ 0 ∷ 0 ∷ 0 ∷ 47 ∷ 0 ∷ []

wraps_a_request : (vars : ServerVariables) (views : ServerViews)
    → wraps (answer (sends [] request no_tags)
    (record { vars = record vars { last_request = request }; views = views }))
    ≡ answer (sends [] wrapped_request no_tags)
    (record { vars = record vars { last_request = wrapped_request }; views = views })
wraps_a_request vars views = refl

preserves_a_success : (now : ServerNow) → wraps (answer (sends [] (3 ∷ 2 ∷ 0 ∷ 4 ∷ []) no_tags) now)
    ≡ answer (sends [] (3 ∷ 2 ∷ 0 ∷ 4 ∷ []) no_tags) now
preserves_a_success now = refl
