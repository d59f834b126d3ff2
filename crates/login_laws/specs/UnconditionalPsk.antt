-- By EAP-PSK a peer whose decision isn't FAIL has decided for a success that nothing can undo (RFC
-- 4137 section 4.2, UNCOND_SUCC).
use Rattle.std.specs.Prelude.{◌≡◌, List, true, false, Some}
use Rattle.login_setup.specs.declared.event.Event.{Event}
use Rattle.login_setup.specs.declared.setup.Setup.{Setup}
use Rattle.octet_lists.specs.Among.{psk_kind}
use Rattle.peer_machine.specs.PeerTable.{PeerNow, is_done, is_fail, is_uncond}
use Rattle.world_laws.specs.Runs.{run_of}

pub record IsUnconditional (now : PeerNow) : Type 0 where
  pub sure : now.vars.selected ≡ Some psk_kind → is_fail now.vars.decision ≡ false
      → is_uncond now.vars.decision ≡ true
  pub over : now.vars.selected ≡ Some psk_kind → is_fail now.vars.decision ≡ false
      → is_done now.vars.method_state ≡ true

abbrev pub PskSuccessIsUnconditional : Type 0
PskSuccessIsUnconditional =
    (setup : Setup) (events : List Event) → IsUnconditional (run_of setup events).parties.peer
