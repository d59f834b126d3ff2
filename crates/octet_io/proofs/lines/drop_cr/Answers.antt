use Rattle.std.proofs.Common.{◌≡◌, ◌∷◌, [], ◌-◌, length, drop, eqb, sym}
use Rattle.std.specs.Cmp.Lexicographic.{pointwise}
use Rattle.octet_io.proofs.LineLaws.{without_cr_cut, without_cr_same}
use Rattle.octet_io.proofs.lines.drop_cr.Goals as goal

pub returns-then-ends_with : goal.returns-then-ends_with
returns-then-ends_with c =
    let test : c.ends_with.result ≡ pointwise eqb (13 ∷ []) (drop (length c.args.line.now - 1)
    c.args.line.now) = rw (← c.as_slice.ensures.same) c.ends_with.ensures.value in
    let cut = without_cr_cut c.args.line.now c.ends_with.result test c.if-ends_with.true in
    rw (c.truncate.ensures, c.len.ensures.count) (sym cut)

pub returns-else-ends_with : goal.returns-else-ends_with
returns-else-ends_with c =
    let test : c.ends_with.result ≡ pointwise eqb (13 ∷ []) (drop (length c.args.line.now - 1)
    c.args.line.now) = rw (← c.as_slice.ensures.same) c.ends_with.ensures.value in
    sym (without_cr_same c.args.line.now c.ends_with.result test c.if-ends_with.false)
