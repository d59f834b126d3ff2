-- The command `peer`: what it answers.
use Rattle.std.specs.Prelude.{◌≡◌, ℕ, List, true, map, IsTrue}
use Rattle.login_setup.specs.Setup.{are_kinds}
use Rattle.eap_method.specs.BothPeers.{are_both}
use Rattle.eap_method.specs.Peer.{PeerShown, peer_kinds, have_each}
use Rattle.end_pipe.specs.EndRun.{peer_table}
use Rattle.end_pipe.specs.declared.table.Role.TheVariants.{Peer}
use Rattle.command_driver.specs.Answers.{Answer}
use Rattle.end_commands.specs.EndScript.{script_answer, script_of}

-- what an input answers
abbrev pub peer_answer : List ℕ → Answer
peer_answer octets = script_answer peer_table (script_of Peer octets)

-- the peer has an object of each method that settings can name, and none of another
pub record HasBothPeers {M : Type 0} (shown : M → PeerShown) (methods : List M) : Type 0 where
  pub each : (kinds : List ℕ) → IsTrue (are_kinds kinds)
      → have_each (peer_kinds (map shown methods)) kinds ≡ true
  pub both : are_both (map shown methods) ≡ true
