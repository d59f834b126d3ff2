use Rattle.std.proofs.Common.{◌≡◌, ◌-◌, ◌*◌, ◌≤◌, length, min, arith, rules, ap, ◌∙◌}
use Rattle.eax_mode.specs.Eax.{combined, counter_mode, key_stream, stream_block}
use Rattle.eax_mode.proofs.Stream.{combined_block, combined_none}
use Rattle.eax_mode.proofs.apply_key_stream.Goals as goal

pub counters-init : goal.counters-init
counters-init c = combined_none c.args.cipher.now c.args.start c.args.text.now

pub counters-preserved : goal.counters-preserved
counters-preserved c =
    let is_block : c.stream_block-block.result
    ≡ stream_block c.args.cipher.now c.args.start c.counters.index = search rules in
    let whole : length c.stream_block-block.result ≡ 16 = search rules in
    let room : min 16 (length c.counters.text - 16 * c.counters.index)
    ≤ c.min-end.result - 16 * c.counters.index = omega arith in
    combined_block c.args.cipher.now c.args.start c.counters.index
    (c.min-end.result - 16 * c.counters.index) c.args.text.now c.counters.text
    c.stream_block-block.result c.combine.new.octets c.counters.invariant is_block whole room
    c.combine.ensures

pub returns : goal.returns
unfolding counter_mode
returns c =
    let all : c.counters.index ≡ c.div_ceil-index-end.result = omega arith in
    c.counters.invariant.same
    ∙ ap (λ n. combined c.args.text.now (key_stream c.args.cipher.now c.args.start n))
    (all ∙ c.div_ceil-index-end.ensures)
