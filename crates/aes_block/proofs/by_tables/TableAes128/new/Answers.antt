use Rattle.std.proofs.Common.{◌≡◌, sym, refl, ◌∙◌, arith, rules}
use Rattle.aes_block.proofs.RoundByRound.{round_key_zero}
use Rattle.aes_block.proofs.by_tables.TableAes128.new.Goals as goal

pub loop-round-init : goal.loop-round-init
loop-round-init c = record {
  count = refl;
  first = c.words_of-first.ensures;
  made = λ r h.
      let zero_round : r ≡ 0 = omega arith in
      rw zero_round (c.words_of-first.ensures ∙ sym (round_key_zero c.args.key.now (search rules)));
}

pub invariant_of-result : goal.invariant_of-result
invariant_of-result c =
    rw c.loop-round.invariant.first (λ r h. c.loop-round.invariant.made r (omega arith))

pub returns : goal.returns
returns c = c.loop-round.invariant.first
