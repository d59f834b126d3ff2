-- The command `server`: what it answers.
use Rattle.std.specs.Prelude.{◌≡◌, ℕ, List, true, map, IsTrue}
use Rattle.login_setup.specs.Setup.{are_kinds}
use Rattle.eap_method.specs.BothServers.{are_both}
use Rattle.eap_method.specs.Peer.{have_each}
use Rattle.eap_method.specs.Server.{ServerShown, server_kinds}
use Rattle.end_pipe.specs.EndRun.{server_table}
use Rattle.end_pipe.specs.declared.table.Role.TheVariants.{Server}
use Rattle.command_driver.specs.Answers.{Answer}
use Rattle.end_commands.specs.EndScript.{script_answer, script_of}

-- what an input answers
abbrev pub server_answer : List ℕ → Answer
server_answer octets = script_answer server_table (script_of Server octets)

-- the server has an object of each method that settings can name, and none of another
pub record HasBothServers {M : Type 0} (shown : M → ServerShown) (methods : List M) : Type 0 where
  pub each : (kinds : List ℕ) → IsTrue (are_kinds kinds)
      → have_each (server_kinds (map shown methods)) kinds ≡ true
  pub both : are_both (map shown methods) ≡ true
