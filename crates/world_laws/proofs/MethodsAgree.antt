-- In every run two ends in SUCCESS whose methods agree, agree, where each accepted tag was made by
-- either end and no end has begun a second conversation.
use Rattle.std.proofs.Common.{◌≡◌, List, [], length, Bool, true, refl}
use Rattle.std.specs.Prelude.{if◌then◌else◌, ◌&&◌}
use Rattle.login_setup.specs.declared.event.Event.{Event}
use Rattle.login_setup.specs.declared.setup.Setup.{Setup}
use Rattle.eap_method.specs.Peer.{PeerViews}
use Rattle.eap_method.specs.Server.{ServerViews}
use Rattle.peer_machine.specs.PeerTable.{peer_reports}
use Rattle.server_machine.specs.ServerTable.{server_reports}
use Rattle.tag_book.specs.Book.{first_broken, tags_verdict_either}
use Rattle.tag_book.specs.declared.book.End.TheVariants as end
use Rattle.tag_book.specs.declared.book.RecordOwner.TheVariants.{Either}
use Rattle.tag_book.specs.declared.book.TagsVerdict.TheVariants.{Honest}
use Rattle.tag_book.specs.declared.book.Use.TheVariants.{Accepted, Made}
use Rattle.eap_world.specs.Judgement.{verdict_of, is_success}
use Rattle.eap_world.specs.Run.{run_of}
use Rattle.eap_world.specs.World.{WorldNow}
use Rattle.eap_world.specs.declared.verdict.Verdict.{Verdict}
use Rattle.eap_world.specs.declared.verdict.Verdict.TheVariants.{Agree, Apart, Unfinished}
use Rattle.method_laws.specs.Agreeing.{Agrees}
use Rattle.method_laws.specs.Objects.{PeerHasOwn, ServerHasOwn}
use Rattle.method_laws.specs.Records.{AreInEither, tags_by}
use Rattle.method_laws.proofs.Among.{first_of_each}
use Rattle.method_laws.proofs.TagsOfEnds.{honest_tags}
use Rattle.world_laws.specs.MethodsAgree.{AllAgree, MethodsAgree}
use Rattle.world_laws.proofs.EndInvariants.{BothInvariantFirstOf, every_run_of, invariant_first_of}
use Rattle.world_laws.proofs.HonestOfEither.{none_if_honest}
use Rattle.world_laws.proofs.SucceedingEnds.{agreed, ends_agree}

pub agree_if : (one other same : Bool) → one ≡ true → other ≡ true → same ≡ true
    → (let verdict : Verdict = if one && other then (if same then Agree else Apart)
    else Unfinished in verdict) ≡ Agree
agree_if one other same a b c = rw (a, b, c) refl

-- what both report agrees, and is judged so
pub record AgreeAndAreJudged (setup : Setup) (w : WorldNow) : Type 0 where
  pub judged : verdict_of w ≡ Agree
  pub theirs : Agrees setup (peer_reports w.parties.peer) (server_reports w.parties.server)

-- two ends that stand so, each of whose accepted tags either end made, and which both succeed
pub once_agree : {peers : PeerViews} {servers : ServerViews} (setup : Setup) (w : WorldNow)
    → length setup.peer.nonce ≡ 32 → length setup.server.nonce ≡ 32 → AllAgree peers servers
    → BothInvariantFirstOf peers servers setup w.parties w.book
    → AreInEither (tags_by end.Peer Accepted w.book) (tags_by end.Server Made w.book)
    (tags_by end.Peer Made w.book)
    → AreInEither (tags_by end.Server Accepted w.book) (tags_by end.Peer Made w.book)
    (tags_by end.Server Made w.book)
    → is_success w.parties.peer.vars.state ≡ true → is_success w.parties.server.vars.state ≡ true
    → AgreeAndAreJudged setup w
unfolding verdict_of
once_agree setup w peer_nonce server_nonce all both of_peer of_server p_in s_in =
    let are = ends_agree all setup w.parties.peer w.parties.server _ _ _ _ peer_nonce server_nonce
    both.peer_invariant both.server_invariant (first_of_each _ _ _ of_peer)
    (first_of_each _ _ _ of_server) p_in s_in in
    let same = agreed setup _ _ are in
    record {
      judged = agree_if (is_success w.parties.peer.vars.state)
          (is_success w.parties.server.vars.state) _ p_in s_in
          (rw (both.peer_invariant.own, both.server_invariant.own) same);
      theirs = are;
    }

module _ (setup : Setup) (peers : PeerViews) (servers : ServerViews) (events : List Event)
    (peer_own : PeerHasOwn setup.peer.methods peers)
    (server_own : ServerHasOwn setup.server.methods servers) (peer_nonce : length setup.peer.nonce
    ≡ 32) (server_nonce : length setup.server.nonce ≡ 32) (all : AllAgree peers servers) where
  in_run : (let w = run_of setup peers servers events in tags_verdict_either w.book ≡ Honest
      → length w.conversations.begun ≡ 2
      → is_success w.parties.peer.vars.state ≡ true → is_success w.parties.server.vars.state ≡ true
      → AgreeAndAreJudged setup w)
  in_run honest two =
      let w = run_of setup peers servers events in
      let none = none_if_honest (first_broken Either [] w.book) honest in
      once_agree setup w peer_nonce server_nonce all
      (invariant_first_of peers servers setup w
      (every_run_of peers servers setup events peer_own server_own) two)
      (honest_tags end.Peer w.book none) (honest_tags end.Server w.book none)

-- The whole book is of the present conversations, as no end has begun a second one: the histories
-- of
-- both ends' methods hold of it, and each accepted tag in it was made by either end. The objects
-- that
-- have succeeded are of methods with which the ends began, so their histories imply one report.
pub methods_agree : MethodsAgree
methods_agree setup peers servers events peer_own server_own peer_nonce server_nonce all = record {
  agree = λ honest two p_in s_in. (in_run setup peers servers events peer_own server_own peer_nonce
      server_nonce all honest two p_in s_in).judged;
  theirs = λ honest two p_in s_in. (in_run setup peers servers events peer_own server_own peer_nonce
      server_nonce all honest two p_in s_in).theirs;
}
