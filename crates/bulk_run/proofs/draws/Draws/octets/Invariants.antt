use Rattle.std.proofs.Common.{◌≡◌, ℕ, ◌+◌, length}
use Rattle.bulk_run.specs.Draws.{state_at, octets_after}
use Rattle.bulk_run.proofs.draws.Draws.octets.Given as goal

abbrev pub invariant-loop : goal.invariant-loop
invariant-loop l = record {
  count : length l.drawn ≡ l.counter;
  stands : (number place : ℕ) → l.initial.self.state ≡ state_at number place
      → l.self.state ≡ state_at number (place + l.counter);
  drawn : (number place : ℕ) → l.initial.self.state ≡ state_at number place
      → l.drawn ≡ octets_after number place l.counter;
}
