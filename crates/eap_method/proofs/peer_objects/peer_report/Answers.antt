use Rattle.std.proofs.Common.{◌∙◌, None, Some}
use Rattle.eap_method.proofs.PeerObjects.{report_found}
use Rattle.eap_method.proofs.peer_objects.peer_report.Goals as goal

pub returns-in_err-object_of : goal.returns-in_err-object_of
returns-in_err-object_of g c = λ allowed is_allowed.
    c.from_residual.ensures
    ∙ report_found g.M.PeerMethod.peer_shown allowed _ _ None c.in_err-object_of.ensures is_allowed

pub returns : goal.returns
returns g c = λ allowed is_allowed.
    c.report.ensures ∙ report_found g.M.PeerMethod.peer_shown allowed _ _ (Some
    c.in_ok-object_of.field-0.now) c.in_ok-object_of.ensures is_allowed
