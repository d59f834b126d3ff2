use Rattle.std.proofs.Common.{◌≡◌, ◌++◌, drop}
use Rattle.octet_lists.specs.Suite.{ks_of}
use Rattle.login_keys.specs.Gpsk.{gkdf_block}
use Rattle.cmac_mac.proofs.Pieces.{joined}
use Rattle.login_keys.proofs.Blocks.{IsJoined}
use Rattle.login_keys.proofs.gpsk.derivation.derive.Given as goal

abbrev pub invariant-numbers : goal.invariant-numbers
invariant-numbers l = record {
  behind : drop 2 l.front ++ joined l.pieces ≡ drop 2 l.initial.front ++ joined l.pieces;
  so_far : IsJoined (gkdf_block l.fn.suite l._key (drop 2 l.initial.front ++ joined l.pieces))
      1 l.done (ks_of l.fn.suite) l.out;
}
