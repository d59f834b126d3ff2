use Rattle.std.proofs.Common.{◌∙◌, None, Some}
use Rattle.eap_method.proofs.ServerObjects.{report_found}
use Rattle.eap_method.proofs.server_objects.server_report.Goals as goal

pub returns-in_err-object_of : goal.returns-in_err-object_of
returns-in_err-object_of g c = λ order is_proposed.
    c.from_residual.ensures ∙ report_found g.M.ServerMethod.server_shown order _ _ None
    c.in_err-object_of.ensures is_proposed

pub returns : goal.returns
returns g c = λ order is_proposed.
    c.report.ensures ∙ report_found g.M.ServerMethod.server_shown order _ _ (Some
    c.in_ok-object_of.field-0.now) c.in_ok-object_of.ensures is_proposed
