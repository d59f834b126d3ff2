use Rattle.std.proofs.Common.{◌≡◌, refl, sym, ap, ◌∙◌, arith}
use Rattle.aes_block.specs.KeySchedule.{round_key}
use Rattle.aes_block.proofs.RoundByRound.{round_key_zero}
use Rattle.aes_block.proofs.key_schedule.turned_keys.Goals as goal

pub loop-round-init : goal.loop-round-init
loop-round-init c = record {
  count = refl;
  current = sym (round_key_zero c.args.first c.fits-first.0);
  made = λ r h d. absurd (omega arith);
}

pub returns : goal.returns
returns c =
    let ninth : c.loop-round.round ≡ 9 = omega arith in
    record {
      first_is = round_key_zero c.args.first c.fits-first.0;
      full_are = λ r h d. c.loop-round.invariant.made r (omega arith) d;
      last_is = c.turned_last.ensures ∙ c.next_round_key.ensures c.args.first
          (c.loop-round.invariant.current ∙ ap (round_key c.args.first) ninth);
    }
