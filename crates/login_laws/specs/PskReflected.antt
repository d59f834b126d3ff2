-- Agreement by EAP-PSK if tags may come back to their maker, and ends may begin new conversations.
use Rattle.std.specs.Prelude.{◌≡◌, List, true, Some}
use Rattle.login_setup.specs.declared.event.Event.{Event}
use Rattle.login_setup.specs.declared.setup.Setup.{Setup}
use Rattle.octet_lists.specs.Among.{psk_kind}
use Rattle.login_laws.specs.Agreement.{AgreeAnew}
use Rattle.world_laws.specs.Whole.{IsWhole}
use Rattle.tag_book.specs.Book.{tags_verdict_either}
use Rattle.eap_world.specs.Judgement.{is_success}
use Rattle.eap_world.specs.World.{WorldNow}
use Rattle.tag_book.specs.declared.book.TagsVerdict.TheVariants.{Honest}
use Rattle.world_laws.specs.Runs.{run_of}

-- if each accepted tag was made by either end, in whichever of its conversations, and nonces are
-- fresh: two ends that are both in SUCCESS, the peer by EAP-PSK, agree
pub record AgreesReflected (setup : Setup) (w : WorldNow) : Type 0 where
  pub agrees : tags_verdict_either w.book ≡ Honest → w.conversations.fresh ≡ true
      → is_success w.parties.peer.vars.state ≡ true → is_success w.parties.server.vars.state ≡ true
      → w.parties.peer.vars.selected ≡ Some psk_kind → AgreeAnew setup w

abbrev pub ReflectedEndsAgree : Type 0
ReflectedEndsAgree = (setup : Setup) (events : List Event) → IsWhole setup
    → AgreesReflected setup (run_of setup events)
