use Rattle.std.proofs.Common.{refl}
use Rattle.answer_text.proofs.Putting.{appends_sent, appends_cut}
use Rattle.answer_text.proofs.pieces.write_pieces.Goals as goal

pub returns-in_err-put_pieces : goal.returns-in_err-put_pieces
returns-in_err-put_pieces g c text e =
    appends_cut _ _ _ _ _ _ _ _ c.from_residual.ensures.0 refl c.new-line.ensures
    (c.in_err-put_pieces.ensures text e)

pub returns : goal.returns
returns g c text e = appends_sent _ _ _ _ _ _ _ _ _ _ c.new-line.ensures
    (c.in_ok-put_pieces.ensures text e) c.send.ensures.puts c.send.ensures.sent
