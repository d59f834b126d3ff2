use Rattle.eap_login.proofs.Exiting.{exits}
use Rattle.eap_login.proofs.program.run.Goals as goal

pub returns-in-Ok-clause-answers : goal.returns-in-Ok-clause-answers
returns-in-Ok-clause-answers g c =
    rw c.in-Ok.is (exits g.S.Source.shown g.W.Sink.shown _ c.args.source.now c.answer.new.source
    c.args.sink.now c.answer.new.sink c.exit_number.result c.answer.result
    c.exit_number.ensures c.answer.ensures.answers c.answer.ensures.unread
    c.answer.ensures.unwritten)
