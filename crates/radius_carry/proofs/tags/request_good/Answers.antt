-- Both tests say what a good request is.
use Rattle.radius_carry.specs.Fault.{value_of}
use Rattle.radius_carry.proofs.Goodness.{request_decides}
use Rattle.radius_carry.proofs.tags.request_good.Goals as goal

pub returns-clause-good : goal.returns-clause-good
unfolding value_of
returns-clause-good c =
    request_decides c.args.secret.now _ (value_of c.args.view.now)
    _ _ c.is_request.ensures c.tag_under-tag.ensures c.has_tag.ensures
