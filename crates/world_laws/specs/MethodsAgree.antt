-- Two ends whose methods agree, agree in every run, whatever the methods.
use Rattle.std.specs.Prelude.{◌≡◌, ℕ, List, length, true, Some, option_map}
use Rattle.login_setup.specs.declared.event.Event.{Event}
use Rattle.login_setup.specs.declared.setup.Setup.{Setup}
use Rattle.eap_method.specs.Peer as peer
use Rattle.eap_method.specs.Peer.{PeerShown, PeerViews}
use Rattle.eap_method.specs.Server as server
use Rattle.eap_method.specs.Server.{ServerShown, ServerViews}
use Rattle.peer_machine.specs.PeerTable.{peer_reports}
use Rattle.server_machine.specs.ServerTable.{server_reports}
use Rattle.tag_book.specs.Book.{tags_verdict_either}
use Rattle.tag_book.specs.declared.book.TagsVerdict.TheVariants.{Honest}
use Rattle.eap_world.specs.Judgement.{verdict_of, is_success}
use Rattle.eap_world.specs.Run.{run_of}
use Rattle.eap_world.specs.World.{WorldNow}
use Rattle.eap_world.specs.declared.verdict.Verdict.TheVariants.{Agree}
use Rattle.method_laws.specs.Agreeing.{Agreeing, Agrees}
use Rattle.method_laws.specs.Objects.{PeerHasOwn, ServerHasOwn}

-- any two objects of the methods of these agree, by what their histories imply
pub record AllAgree (peers : PeerViews) (servers : ServerViews) : Type 0 where
  pub each : (kind other : ℕ) (p : PeerShown) (s : ServerShown)
      → option_map peer.method_of (peers kind) ≡ Some p.method
      → option_map server.method_of (servers other) ≡ Some s.method → Agreeing p s

-- if each accepted tag was made earlier by either end, and no end has begun a second conversation,
-- two ends that are both in SUCCESS agree, on names, key and suite that are their own
pub record MethodsAgreeIn (setup : Setup) (w : WorldNow) : Type 0 where
  pub agree : tags_verdict_either w.book ≡ Honest → length w.conversations.begun ≡ 2
      → is_success w.parties.peer.vars.state ≡ true → is_success w.parties.server.vars.state ≡ true
      → verdict_of w ≡ Agree
  pub theirs : tags_verdict_either w.book ≡ Honest → length w.conversations.begun ≡ 2
      → is_success w.parties.peer.vars.state ≡ true → is_success w.parties.server.vars.state ≡ true
      → Agrees setup (peer_reports w.parties.peer) (server_reports w.parties.server)

-- in every run, of any setup, over any events, of ends that begin with objects of methods that
-- agree
abbrev pub MethodsAgree : Type 0
MethodsAgree = (setup : Setup) (peers : PeerViews) (servers : ServerViews) (events : List Event)
    → PeerHasOwn setup.peer.methods peers → ServerHasOwn setup.server.methods servers
    → length setup.peer.nonce ≡ 32 → length setup.server.nonce ≡ 32 → AllAgree peers servers
    → MethodsAgreeIn setup (run_of setup peers servers events)
