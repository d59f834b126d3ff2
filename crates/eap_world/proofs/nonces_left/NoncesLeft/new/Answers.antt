use Rattle.std.proofs.Common.{◌≤◌, List, ℕ, length, refl, subst, sym}
use Rattle.eap_world.proofs.TwoRecords.{length_waits, none_received_yet}
use Rattle.eap_world.proofs.nonces_left.NoncesLeft.new.Goals as goal

pub returns-clause-all : goal.returns-clause-all
returns-clause-all c =
    none_received_yet c.args.nonces _ refl
    (subst (λ (ns : List (List ℕ)). length ns ≤ 15) c.as_slice.ensures.same c.as_slice.ensures.few)

pub returns-clause-few : goal.returns-clause-few
returns-clause-few c =
    let few : length c.args.nonces ≤ 15 =
    subst (λ (ns : List (List ℕ)). length ns ≤ 15) c.as_slice.ensures.same c.as_slice.ensures.few in
    subst (λ (n : ℕ). n ≤ 15) (sym (length_waits c.args.nonces _ few)) few
