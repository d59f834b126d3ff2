use Rattle.std.proofs.Common.{◌≡◌, ◌<◌, ◌+◌, ◌++◌, ◌∷◌, [], ℕ, length, ap, ◌∙◌, arith}
use Rattle.std.proofs.lemmas.List.{length-append}
use Rattle.bulk_run.proofs.Drawing.{none_drawn, one_more, same_place}
use Rattle.bulk_run.proofs.draws.Draws.octets.Goals as goal

pub loop-init : goal.loop-init
loop-init c = record {
  count = ap length c.new-drawn.ensures;
  stands = λ number place is. same_place number place (place + 0) _ is (omega arith);
  drawn = λ number place is. none_drawn number place _ c.new-drawn.ensures;
}

pub loop-preserved : goal.loop-preserved
loop-preserved c =
    let room : length c.loop.drawn < 32 = omega arith in
    let pushed : c.push.new.self ≡ c.loop.drawn ++ c.octet.result ∷ [] =
    c.push.ensures.pushed room in
    record {
      count = ap length pushed ∙ let e = length-append {A = ℕ} c.loop.drawn (c.octet.result ∷ []) in
          omega (arith, e);
      stands = λ number place is.
          same_place number (place + c.loop.counter + 1) (place + (c.loop.counter + 1)) _
          (c.octet.ensures.state number (place + c.loop.counter)
          (c.loop.invariant.stands number place is)) (omega arith);
      drawn = λ number place is.
          pushed ∙ one_more number place c.loop.counter _ _ (c.loop.invariant.drawn number place is)
          (c.octet.ensures.octet number (place + c.loop.counter)
          (c.loop.invariant.stands number place is));
    }
