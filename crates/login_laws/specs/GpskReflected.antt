-- Agreement by EAP-GPSK if tags may come back to their maker, and ends may begin new conversations, of
-- a peer whose present nonce doesn't begin with the length of its own name in two octets.
use Rattle.std.specs.Prelude.{◌≡◌, List, true, Some}
use Rattle.login_setup.specs.declared.event.Event.{Event}
use Rattle.login_setup.specs.declared.setup.Setup.{Setup}
use Rattle.octet_lists.specs.Among.{gpsk_kind}
use Rattle.login_laws.specs.Agreement.{AgreeAnew}
use Rattle.login_laws.specs.OwnTags.{IsNoName}
use Rattle.world_laws.specs.Whole.{IsWhole}
use Rattle.tag_book.specs.Book.{tags_verdict_either}
use Rattle.eap_world.specs.Judgement.{is_success}
use Rattle.eap_world.specs.World.{WorldNow}
use Rattle.tag_book.specs.declared.book.TagsVerdict.TheVariants.{Honest}
use Rattle.world_laws.specs.Runs.{run_of}

-- if each accepted tag was made by either end, in whichever of its conversations, and nonces are
-- fresh: two ends that are both in SUCCESS, such a peer by EAP-GPSK, agree
pub record AgreesReflectedByGpsk (setup : Setup) (w : WorldNow) : Type 0 where
  pub agrees : tags_verdict_either w.book ≡ Honest → w.conversations.fresh ≡ true
      → is_success w.parties.peer.vars.state ≡ true → is_success w.parties.server.vars.state ≡ true
      → w.parties.peer.vars.selected ≡ Some gpsk_kind
      → IsNoName w.parties.peer.vars.setup.nonce setup.peer.name
      → AgreeAnew setup w

abbrev pub ReflectedGpskEndsAgree : Type 0
ReflectedGpskEndsAgree = (setup : Setup) (events : List Event) → IsWhole setup
    → AgreesReflectedByGpsk setup (run_of setup events)
