use Rattle.std.proofs.Common.{◌≡◌, ℕ, ◌+◌, ◌*◌, ◌<◌, ◌≤◌, List, ◌++◌, length, take, drop}
use Rattle.std.proofs.Common.{append_assoc, refl, ap, sym, ◌∙◌, arith}
use Rattle.std.specs.Int.{div_ceil}
use Rattle.std.specs.List.{flat_map, range_with_len}
use Rattle.std.proofs.lemmas.List.{length-take-le}
use Rattle.octet_lists.specs.Suite.{ks_of}
use Rattle.login_keys.specs.Gpsk.{gkdf, gkdf_block, gkdf_blocks, gpsk_tag_of, two_octets}
use Rattle.login_keys.proofs.Blocks.{joined_none, joined_push}
use Rattle.cmac_mac.proofs.Pieces.{joined}
use Rattle.login_keys.proofs.GpskLaws.{length_gpsk_tag_of, ks_le, before_last, after_last}
use Rattle.login_keys.proofs.gpsk.derivation.derive.Goals as goal

-- a number in the first two octets
numbered : (before text rest z : List ℕ) (n : ℕ) → drop 2 before ++ rest ≡ z
    → text ≡ two_octets n ++ drop 2 before
    → (drop 2 text ++ rest ≡ z) × (text ++ rest ≡ two_octets n ++ z)
numbered before text rest z n behind is_text =
    (rw is_text behind, rw (is_text, ← behind) (append_assoc (two_octets n) (drop 2 before) rest))

pub numbers-init : goal.numbers-init
numbers-init c = record { behind = refl; so_far = joined_none _ _ _ _ c.requires.none }

pub numbers-preserved : goal.numbers-preserved
unfolding gkdf_block
numbers-preserved c =
    let z : List ℕ = drop 2 c.args.front.now ++ joined c.args.pieces.now in
    let f : ℕ → List ℕ = gkdf_block c.args.suite c.args._key.now z in
    let few : c.numbers.done * ks_of c.args.suite < c.args.size =
    before_last _ _ _ _ _ c.ks.ensures c.div_ceil-done-end.ensures c.numbers-test.true in
    let small : ks_of c.args.suite ≤ 32 = ks_le c.args.suite in
    let so_far = c.numbers.invariant.so_far in
    let whole : length c.numbers.out ≡ c.numbers.done * ks_of c.args.suite = so_far.whole in
    let text = numbered c.numbers.front c.write_u16.new.buf _ z (c.numbers.done + 1)
    c.numbers.invariant.behind c.write_u16.ensures in
    let same : c.as_slice.result.now ≡ f (1 + c.numbers.done) =
    c.as_slice.ensures.same
    ∙ c.tag-block.ensures c.args.suite c.args._key.now c.requires.key
    ∙ ap (gpsk_tag_of c.args.suite c.args._key.now) text.1
    ∙ ap f (omega arith) in
    let size : length c.as_slice.result.now ≡ ks_of c.args.suite =
    ap length same ∙ length_gpsk_tag_of c.args.suite c.args._key.now _ in
    record { behind = text.0; so_far = joined_push f 1 _ _ _ _ _ so_far same size c.put.ensures }

pub returns-clause-derived : goal.returns-clause-derived
unfolding gkdf gkdf_blocks
returns-clause-derived c = λ z e.
    let count : c.numbers.done ≡ div_ceil c.args.size (ks_of c.args.suite) =
    let reached : c.numbers.done ≡ c.div_ceil-done-end.result = omega arith in
    reached ∙ c.div_ceil-done-end.ensures ∙ ap (div_ceil c.args.size) c.ks.ensures in
    let blocks : List ℕ → ℕ → List ℕ = λ t n.
    take c.args.size (flat_map (gkdf_block c.args.suite c.args._key.now t) (range_with_len 1 n)) in
    c.truncate.ensures
    ∙ ap (take c.args.size) c.numbers.invariant.so_far.same
    ∙ ap (blocks (drop 2 c.args.front.now ++ joined c.args.pieces.now)) count
    ∙ ap (λ (t : List ℕ). blocks t (div_ceil c.args.size (ks_of c.args.suite))) (sym e)

pub returns-clause-size : goal.returns-clause-size
returns-clause-size c =
    let reached : c.numbers.done ≡ c.div_ceil-done-end.result = omega arith in
    let enough : c.args.size ≤ c.numbers.done * ks_of c.args.suite =
    after_last _ _ _ _ _ c.ks.ensures c.div_ceil-done-end.ensures reached in
    let whole : length c.numbers.out ≡ c.numbers.done * ks_of c.args.suite =
    c.numbers.invariant.so_far.whole in
    ap length c.truncate.ensures ∙ length-take-le c.args.size c.numbers.out (omega arith)
