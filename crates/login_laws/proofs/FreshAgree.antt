-- Over an honest book and fresh nonces two ends that both stand in SUCCESS agree, and hold each
-- other's present nonces.
use Rattle.std.proofs.Common.{◌≡◌, true, List, [], Some, refl, sym, ap, subst, ◌∙◌}
use Rattle.login_setup.specs.declared.event.Event.{Event}
use Rattle.login_setup.specs.declared.setup.PeerSetup.{PeerSetup}
use Rattle.login_setup.specs.Setup.{ServerSetup}
use Rattle.login_setup.specs.declared.setup.Setup.{Setup}
use Rattle.eap_method.specs.declared.tags.TagRecord.{TagRecord}
use Rattle.peer_machine.specs.PeerTable as peers
use Rattle.server_machine.specs.ServerTable as servers
use Rattle.world_laws.specs.Whole.{IsWhole}
use Rattle.login_laws.specs.Agreement.{AgreeAnew}
use Rattle.method_laws.specs.Records.{IsIn, tags_by}
use Rattle.method_laws.specs.TagOwners.{NotByServer, PeerTagOwner, ServerTagOwner}
use Rattle.method_laws.proofs.Asks.{AsksServer}
use Rattle.method_laws.proofs.AsksByMethod.{peer_asks}
use Rattle.method_laws.proofs.ServerAsks.{server_asks}
use Rattle.world_laws.proofs.Conversing.{BothConverse, run_converses}
use Rattle.world_laws.proofs.HonestOfEither.{none_if_honest}
use Rattle.method_laws.proofs.HonestOther.{honest_other}
use Rattle.login_laws.proofs.OneLogin.{first_is_in, in_one}
use Rattle.world_laws.proofs.PastConversations.{accepted_now}
use Rattle.login_laws.proofs.Resting.{AreOne}
use Rattle.login_laws.proofs.Resting as resting
use Rattle.method_laws.proofs.Among.{first_in_one}
use Rattle.method_laws.proofs.Succeeding.{PeerSucceeds, ServerSucceeds, peer_succeeds}
use Rattle.method_laws.proofs.Succeeding.{server_knows_nonce, server_succeeds}
use Rattle.world_laws.proofs.MethodsAgree.{agree_if}
use Rattle.login_laws.proofs.SucceedingEnds.{ends_agree, own_theirs, with_nonces}
use Rattle.world_laws.proofs.SucceedingEnds.{agreed}
use Rattle.tag_book.specs.Book.{first_broken, tags_verdict}
use Rattle.eap_world.specs.Conversations.{front}
use Rattle.eap_world.specs.Judgement.{is_success, verdict_of}
use Rattle.eap_world.specs.World.{WorldNow}
use Rattle.tag_book.specs.declared.book.End.TheVariants as end
use Rattle.tag_book.specs.declared.book.RecordOwner.TheVariants.{Other}
use Rattle.tag_book.specs.declared.book.TagsVerdict.TheVariants.{Honest}
use Rattle.tag_book.specs.declared.book.Use.TheVariants.{Accepted, Made}
use Rattle.world_laws.specs.Runs.{run_of}
use Rattle.world_laws.proofs.EndTags.{peer_success, peer_tags, server_success, server_tags}

-- a peer that stands in SUCCESS has succeeded
pub peer_won : (setup : Setup) (w : WorldNow) (h : BothConverse setup w)
    → is_success w.parties.peer.vars.state ≡ true
    → PeerSucceeds (peers.setup_with_nonce setup.peer h.peer_nonce)
    w.parties.peer.vars.selected w.parties.peer.views h.peer.accepted h.peer.made
peer_won setup w h p_in =
    let stands = h.peer.now.stands in
    peer_succeeds (peers.setup_with_nonce setup.peer h.peer_nonce) _ _ h.peer.accepted h.peer.made
    (peer_tags stands) (peer_success stands p_in)

-- a server that stands in SUCCESS has succeeded
pub server_won : (setup : Setup) (w : WorldNow) (h : BothConverse setup w)
    → is_success w.parties.server.vars.state ≡ true
    → ServerSucceeds (servers.setup_with_nonce setup.server h.server_nonce)
    w.parties.server.vars.current w.parties.server.views h.server.accepted h.server.made
server_won setup w h s_in =
    let stands = h.server.now.stands in
    server_succeeds (servers.setup_with_nonce setup.server h.server_nonce) _ _ h.server.accepted
    h.server.made (server_tags stands) (server_success stands s_in)

-- both ends agree, where the server's tag that the peer asks is the server's, and those that the
-- server's present conversation asks, and its past ones under the same key, are the peer's
pub agree_anew : (setup : Setup) (w : WorldNow) (h : BothConverse setup w)
    → w.conversations.fresh ≡ true
    → is_success w.parties.peer.vars.state ≡ true → is_success w.parties.server.vars.state ≡ true
    → (p_asks : AsksServer h.peer_nonce h.peer.accepted)
    → IsIn p_asks.tag (tags_by end.Server Made w.book)
    → ((t : TagRecord) → IsIn t h.server.accepted → IsIn t (tags_by end.Server Accepted w.book)
    → NotByServer setup.server t → IsIn t (tags_by end.Peer Made w.book))
    → ((t : TagRecord) → IsIn t (tags_by end.Server Accepted w.book) → t.psk ≡ p_asks.tag.psk
    → NotByServer setup.server t
    → IsIn t (tags_by end.Peer Made w.book))
    → AgreeAnew setup w
unfolding verdict_of
agree_anew setup w h fresh p_in s_in p_asks p_made present_honest server_honest =
    let p = w.parties.peer in
    let s = w.parties.server in
    let own = with_nonces setup p s h.peer_nonce h.server_nonce in
    let p_stands = h.peer.now.stands in
    let s_stands = h.server.now.stands in
    let holds = server_knows_nonce own.server _ _ _ _ (server_won setup w h s_in) in
    let s_held : h.server.held ≡ Some holds.foreign = sym h.server.now.held_is ∙ holds.is in
    let s_asks = server_asks setup.server h.server_nonce holds.foreign h.server.size h.server.held
    h.server.accepted h.server.made h.server.told s_held in
    let s_is = first_is_in s_asks.tag s_asks.rest h.server.accepted s_asks.first in
    let s_made = present_honest s_asks.tag s_is
    (accepted_now (ServerTagOwner setup.server) _ _ _ _ h.server s_asks.tag s_is) s_asks.alien in
    let one =
    in_one setup.peer setup.server _ _ _ _ _ _ _ _ h.peer h.server refl refl refl refl fresh fresh
    p_asks.tag.psk server_honest holds.foreign s_held s_asks s_made p_asks refl p_made in
    let agree = ends_agree own p s h.peer.accepted h.peer.made h.server.accepted h.server.made
    h.peer.size h.server.size p_stands s_stands
    (first_in_one h.peer.accepted h.server.made h.peer.made p_asks.tag p_asks.rest p_asks.first
    one.peer_tag)
    (first_in_one h.server.accepted h.peer.made h.server.made s_asks.tag s_asks.rest s_asks.first
    one.server_tag) p_in s_in in
    let same = agreed own _ _ agree in
    let are = resting.server_on setup.peer setup.server h.peer_nonce h.server_nonce h.peer.size
    h.server.size p.vars.selected p.views s.vars.current s.views
    _ _ (server_tags s_stands) _ _ (peer_tags p_stands) s_asks.tag s_asks.rest s_asks.first
    one.server_tag in
    let are_own = subst (λ (x : PeerSetup). AreOne p.vars.selected p.views x.nonce s.vars.current
    s.views s.vars.setup.nonce) (sym p_stands.own) (subst (λ (x : ServerSetup). AreOne
    p.vars.selected p.views h.peer_nonce s.vars.current s.views x.nonce) (sym s_stands.own) are) in
    record {
      agree = agree_if (is_success p.vars.state) (is_success s.vars.state) _ p_in s_in
          (rw (p_stands.own, s_stands.own) same);
      hold = record {
        rand_s = h.peer.now.held_is ∙ (one.peer_knows_nonce
            ∙ ap (λ (x : ServerSetup). Some (front x.nonce)) (sym s_stands.own));
        rand_p = h.server.now.held_is ∙ (one.server_knows_nonce
            ∙ ap (λ (x : PeerSetup). Some (front x.nonce)) (sym p_stands.own));
        whole = are_own.whole;
      };
      theirs = own_theirs setup p s h.peer_nonce h.server_nonce agree;
    }

-- Every run of a whole setup. The peer's first tag was made by the server and the server's by the
-- peer, as the book is honest, and each tells a nonce of the conversation that made it. So `in_one`
-- finds both tags in the present conversations: else a past conversation of each end would have
-- ended after the present one of the other began, which no order of events allows. Both ends are
-- then in one login, and report the same.
pub fresh_ends_agree : (setup : Setup) (events : List Event) → IsWhole setup
    → (let w = run_of setup events in
    tags_verdict w.book ≡ Honest → w.conversations.fresh ≡ true
    → is_success w.parties.peer.vars.state ≡ true
    → is_success w.parties.server.vars.state ≡ true → AgreeAnew setup w)
fresh_ends_agree setup events whole honest fresh p_in s_in =
    let w = run_of setup events in
    let h = run_converses setup events whole in
    let none = none_if_honest (first_broken Other [] w.book) honest in
    let p_asks = peer_asks setup.peer h.peer_nonce _ _ h.peer.accepted h.peer.made
    h.peer.size (peer_won setup w h p_in) in
    agree_anew setup w h fresh p_in s_in p_asks
    (honest_other end.Peer w.book none p_asks.tag
    (accepted_now (PeerTagOwner setup.peer) _ _ _ _ h.peer p_asks.tag
    (first_is_in p_asks.tag p_asks.rest h.peer.accepted p_asks.first)))
    (λ t now is alien. honest_other end.Server w.book none t is)
    (λ t is same alien. honest_other end.Server w.book none t is)
