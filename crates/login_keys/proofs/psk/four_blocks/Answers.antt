use Rattle.std.proofs.Common.{◌≡◌, ℕ, ap, arith, ◌∙◌}
use Rattle.std.specs.List.{flat_map, range_with_len}
use Rattle.aes_block.specs.Cipher.{aes128}
use Rattle.login_keys.specs.Psk.{combined_with}
use Rattle.login_keys.proofs.Blocks.{joined_none, joined_push}
use Rattle.login_keys.proofs.psk.four_blocks.Goals as goal

pub counters-init : goal.counters-init
counters-init c = joined_none _ _ _ _ c.new-blocks.ensures

pub counters-preserved : goal.counters-preserved
counters-preserved c =
    joined_push _ _ _ _ _ _ _ c.counters.invariant c.counter_block.ensures
    (omega arith) c.put.ensures

pub returns : goal.returns
returns c =
    let four : c.counters.i ≡ 4 = omega arith in
    c.array_of.ensures
    ∙ c.as_slice.ensures.same
    ∙ c.counters.invariant.same
    ∙ ap (λ (n : ℕ). flat_map (λ x. aes128 c.args.cipher.now (combined_with c.args.mixed.now x))
    (range_with_len c.args.first n)) four
