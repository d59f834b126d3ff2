use Rattle.std.proofs.Common.{rules, ◌≡◌, None}
use Rattle.own_proof.proofs.Sessions.{two_match}
use Rattle.own_proof.proofs.ends.two_match.Goals as goal

pub returns-then-is_none : goal.returns-then-is_none
returns-then-is_none c both =
    let first : c.first_unmade.result ≡ None = search rules in
    let second : c.first_unmade-then-is_none.result ≡ None = search rules in
    two_match _ _ _ _ (c.first_unmade.ensures.honest first)
    (c.first_unmade-then-is_none.ensures.honest second)
