-- What is sent by a server that reads Expanded Types.
use Rattle.std.proofs.Common.{◌≡◌, ◌≢◌, ℕ, List, [], not, IsTrue, false, ap, sym, ◌∙◌}
use Rattle.login_setup.specs.Setup.{ServerSetup}
use Rattle.eap_packet.specs.Expanded.{is_bad_expanded}
use Rattle.eap_packet.specs.Fault.{code_of}
use Rattle.eap_packet.specs.Packet.{response, value_with, spelled, has_type}
use Rattle.eap_packet.specs.declared.packet.Code.{Code}
use Rattle.eap_packet.specs.declared.packet.Code.TheVariants.{Request, Response, Success, Failure}
use Rattle.eap_method.specs.Server.{ServerShown, ServerViews, server_views}
use Rattle.eap_method.specs.Steps.{step_with}
use Rattle.eap_method.specs.declared.step.Step as brief
use Rattle.eap_method.specs.Tags.{Tags}
use Rattle.server_machine.specs.Expanded.{response_octets, reads_response, wraps}
use Rattle.server_machine.specs.ServerTable.{ServerNow, answer, server_deliver}
use Rattle.server_machine.specs.Variables.{ServerVariables}

-- a Success and a Failure are no Request
pub ends_request_nothing : (code : Code) (id : ℕ) → IsTrue (not (has_type code))
    → code_of (spelled (value_with code id 0 [])) ≢ 1
unfolding spelled
ends_request_nothing Request id is_end = cc is_end
ends_request_nothing Response id is_end = cc is_end
ends_request_nothing Success id is_end = λ is. cc is
ends_request_nothing Failure id is_end = λ is. cc is

-- what the table makes of a Response in its plain form, wrapped, is the answer
pub response_is_read : (now : ServerNow) (octets : List ℕ) (id kind : ℕ)
    (body taken packet sent : List ℕ) (step : brief.Step) (tags : Tags)
    (vars wrapped : ServerVariables) (shown : List ServerShown)
    → is_bad_expanded (response id kind body) ≡ false
    → response_octets now.vars octets id kind body ≡ taken
    → server_deliver now taken ≡ answer (step_with step packet
    tags) (record { vars = vars; views = server_views vars.setup.methods shown })
    → ((views : ServerViews)
    → wraps (answer (step_with step packet tags) (record { vars = vars; views = views }))
    ≡ answer (step_with step sent tags) (record { vars = wrapped; views = views }))
    → wrapped.setup ≡ vars.setup
    → reads_response now octets id kind body
    ≡ answer (step_with step sent tags)
    (record { vars = wrapped; views = server_views wrapped.setup.methods shown })
response_is_read now octets id kind body taken packet sent step tags vars wrapped shown good
    is_taken delivered sends same =
    rw (good, is_taken)
    (ap wraps delivered
    ∙ sends (server_views vars.setup.methods shown)
    ∙ ap (λ (setup : ServerSetup). answer (step_with step sent tags)
    (record { vars = wrapped; views = server_views setup.methods shown })) (sym same))
