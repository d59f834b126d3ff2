-- The readiness and the timer of a server that was made, and of one that has started, from the
-- definitions alone.
use Rattle.std.proofs.Common.{◌≡◌, ℕ, true, false, refl, None}
use Rattle.login_setup.specs.Setup.{ServerSetup}
use Rattle.server_machine.specs.ServerTable.{has_timer, is_ready, initial_server, server_start}
use Rattle.server_machine.specs.declared.variables.Role.TheVariants.{Backend, StandAlone}

-- in either role
made : (setup : ServerSetup) (first_id max_retrans : ℕ)
    → (let alone = (initial_server StandAlone setup (λ kind. None) first_id max_retrans).vars in
    let backend = (initial_server Backend setup (λ kind. None) first_id max_retrans).vars in
    (is_ready alone ≡ false) × (has_timer alone ≡ false) × (is_ready backend ≡ true)
    × (has_timer backend ≡ false))
made setup first_id max_retrans = (refl, refl, refl, refl)

-- a stand-alone one
begun : (setup : ServerSetup) (first_id max_retrans : ℕ) → (let alone = (server_start
    (initial_server StandAlone setup (λ kind. None) first_id max_retrans)).after.vars in
    (is_ready alone ≡ true) × (has_timer alone ≡ true))
unfolding server_start
begun setup first_id max_retrans = (refl, refl)
