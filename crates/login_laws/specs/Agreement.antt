-- Agreement over an altering network, if each end may begin new conversations.
use Rattle.std.specs.Prelude.{◌≡◌, ◌⊎◌, List, length, true, false, Some}
use Rattle.login_setup.specs.declared.event.Event.{Event}
use Rattle.login_setup.specs.declared.setup.Setup.{Setup}
use Rattle.login_setup.specs.declared.users.User.{User}
use Rattle.world_laws.specs.Whole.{IsWhole}
use Rattle.login_setup.specs.Users.{user_of}
use Rattle.eap_method.specs.declared.values.Report.{Report}
use Rattle.eap_method.specs.Peer.{key_for}
use Rattle.peer_machine.specs.PeerTable.{PeerNow, peer_reports}
use Rattle.server_machine.specs.ServerTable.{ServerNow, server_reports}
use Rattle.tag_book.specs.Book.{tags_verdict, tags_verdict_either}
use Rattle.tag_book.specs.declared.book.TagsVerdict.TheVariants.{Honest}
use Rattle.eap_world.specs.Conversations.{Conversations, front}
use Rattle.method_laws.specs.ByMethod.{peer_foreign, server_foreign}
use Rattle.method_laws.specs.GpskLogins.{HasFirstSuite, HaveAllOctets}
use Rattle.eap_world.specs.Judgement.{verdict_of, is_success}
use Rattle.eap_world.specs.declared.verdict.Verdict.TheVariants.{Agree, Apart}
use Rattle.eap_world.specs.World.{WorldNow}
use Rattle.world_laws.specs.Runs.{run_of}

-- no end has begun a second conversation, or each conversation has begun with a fresh nonce
abbrev pub AreApart : Conversations → Type 0
AreApart all = (length all.begun ≡ 2) ⊎ (all.fresh ≡ true)

-- each end has the nonce of the other's present conversation, by its prefix; by EAP-GPSK all its 32
-- octets. EAP-PSK has no more than these 16 of it (RFC 4764 section 3.2)
pub record HaveEachOthers (w : WorldNow) : Type 0 where
  pub rand_s : peer_foreign w.parties.peer.vars.selected w.parties.peer.views
      ≡ Some (front w.parties.server.vars.setup.nonce)
  pub rand_p : server_foreign w.parties.server.vars.current w.parties.server.views
      ≡ Some (front w.parties.peer.vars.setup.nonce)
  pub whole : HaveAllOctets w.parties.peer.vars.selected w.parties.peer.views
      w.parties.peer.vars.setup.nonce w.parties.server.views w.parties.server.vars.setup.nonce

-- two ends that are both in SUCCESS in their present conversations agree, and the verdict is never
-- that they don't
pub record AgreesWhereHonest (w : WorldNow) : Type 0 where
  -- if each accepted tag was made by the other end
  pub agrees : tags_verdict w.book ≡ Honest → AreApart w.conversations
      → is_success w.parties.peer.vars.state ≡ true → is_success w.parties.server.vars.state ≡ true
      → verdict_of w ≡ Agree
  pub never_apart : tags_verdict w.book ≡ Honest → AreApart w.conversations
      → verdict_of w ≡ Apart → ⊥
  -- if it was made by either end, and no end has begun a second conversation
  pub reflected_agrees : tags_verdict_either w.book ≡ Honest → length w.conversations.begun ≡ 2
      → is_success w.parties.peer.vars.state ≡ true → is_success w.parties.server.vars.state ≡ true
      → verdict_of w ≡ Agree
  pub reflected_never_apart : tags_verdict_either w.book ≡ Honest → length w.conversations.begun ≡ 2
      → verdict_of w ≡ Apart → ⊥
  -- if nonces are fresh, each has the other's nonce
  pub hold : tags_verdict w.book ≡ Honest → w.conversations.fresh ≡ true
      → is_success w.parties.peer.vars.state ≡ true → is_success w.parties.server.vars.state ≡ true
      → HaveEachOthers w

-- whatever is delivered, lost, repeated, reordered, altered, injected or restarted: if each
-- accepted tag was made earlier by the other end, and no end has begun again or nonces are fresh,
-- two ends that are both in SUCCESS agree
abbrev pub HonestEndsAgree : Type 0
HonestEndsAgree =
    (setup : Setup) (events : List Event) → IsWhole setup → AgreesWhereHonest (run_of setup events)

-- both ends have one report, whose names are those of both setups; the server knows the peer by its
-- name, with the peer's own key, and lets it in; by EAP-GPSK the suite is the one picked of the
-- server's own list
pub record AreTheirs (setup : Setup) (peer : PeerNow) (server : ServerNow) : Type 0 where
  pub report : Report
  pub holds : peer_reports peer ≡ Some report
  pub same : server_reports server ≡ Some report
  pub id_p : report.id_p ≡ setup.peer.name
  pub id_s : report.id_s ≡ setup.server.name
  pub user : User
  pub known : user_of setup.server.users setup.peer.name report.method ≡ Some user
  pub key : user.psk ≡ key_for setup.peer report.method
  pub welcome : user.barred ≡ false
  pub first_suite : HasFirstSuite setup report

-- two ends agree on names, key and suite that are their own, and each has the nonce of the other's
-- present conversation
pub record AgreeAnew (setup : Setup) (w : WorldNow) : Type 0 where
  pub agree : verdict_of w ≡ Agree
  pub hold : HaveEachOthers w
  pub theirs : AreTheirs setup w.parties.peer w.parties.server

-- what two ends that are both in SUCCESS report in their present conversations is their own
pub record TheirsWhereHonest (setup : Setup) (w : WorldNow) : Type 0 where
  pub theirs : tags_verdict w.book ≡ Honest → AreApart w.conversations
      → is_success w.parties.peer.vars.state ≡ true → is_success w.parties.server.vars.state ≡ true
      → AreTheirs setup w.parties.peer w.parties.server
  pub reflected_theirs : tags_verdict_either w.book ≡ Honest → length w.conversations.begun ≡ 2
      → is_success w.parties.peer.vars.state ≡ true → is_success w.parties.server.vars.state ≡ true
      → AreTheirs setup w.parties.peer w.parties.server

-- under the premises of agreement, what both ends report is their own: names, key and suite
abbrev pub HonestNamesAreTheirs : Type 0
HonestNamesAreTheirs = (setup : Setup) (events : List Event) → IsWhole setup
    → TheirsWhereHonest setup (run_of setup events)
