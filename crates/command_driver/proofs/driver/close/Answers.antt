use Rattle.std.proofs.Common.{refl}
use Rattle.command_driver.specs.Answers.{cut_short, by_write}
use Rattle.command_driver.proofs.Endings.{finishes_after, front_first}
use Rattle.command_driver.proofs.driver.close.Goals as goal

pub returns-in-Ok-Misses : goal.returns-in-Ok-Misses
returns-in-Ok-Misses g c =
    let w = rw c.in-Ok-Misses.field-0-is at c.in-Ok-Misses.ensures.closes in
    rw w.closed
    (finishes_after _ _ _ _ _ _ _ w.text c.in-Ok-Misses.ensures.uncounted c.refuse.ensures.finishes)

pub returns-in-Err : goal.returns-in-Err
returns-in-Err g c = record {
  ends = cut_short (by_write refl) (front_first _ _ _ _ c.in-Err.ensures.closes);
  written_only = tt;
  counted = λ _. c.in-Err.ensures.counted;
  uncounted = λ other. absurd (other refl);
  never_falls = c.close.ensures.never_falls;
}
