-- The three tests say what a good reply is.
use Rattle.radius_carry.specs.Fault.{value_of}
use Rattle.radius_carry.proofs.Goodness.{reply_decides}
use Rattle.radius_carry.proofs.tags.reply_good.Goals as goal

pub returns-clause-good : goal.returns-clause-good
unfolding value_of
returns-clause-good c =
    reply_decides c.args.secret.now c.args.request_authenticator.now _ _
    (value_of c.args.view.now) _ _ _ c.is_request.ensures c.tag_under-tag.ensures
    c.answering-response.ensures c.has_tag.ensures c.equal_in_full-is_answer.ensures
