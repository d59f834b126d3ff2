-- What holds of both ends in every run: their views determine the tags that they have accepted and
-- made in their present conversations.
use Rattle.std.specs.Prelude.{List}
use Rattle.login_setup.specs.declared.event.Event.{Event}
use Rattle.login_setup.specs.declared.setup.Setup.{Setup}
use Rattle.eap_method.specs.BothPeers as both_peers
use Rattle.eap_method.specs.BothServers as both_servers
use Rattle.eap_method.specs.Peer.{PeerViews}
use Rattle.eap_method.specs.Server.{ServerViews}
use Rattle.eap_method.specs.declared.tags.TagRecord.{TagRecord}
use Rattle.peer_machine.specs.PeerTable as peers
use Rattle.server_machine.specs.ServerTable as servers
use Rattle.eap_world.specs.Conversations.{since_of}
use Rattle.world_laws.specs.PeerInvariant.{PeerInvariantOf}
use Rattle.eap_world.specs.Run as wide
use Rattle.method_laws.specs.Objects.{PeerHasOwn, ServerHasOwn}
use Rattle.method_laws.specs.Records.{since, tags_by}
use Rattle.world_laws.specs.ServerInvariant.{ServerInvariantOf}
use Rattle.eap_world.specs.World.{WorldNow}
use Rattle.tag_book.specs.declared.book.End.{End}
use Rattle.tag_book.specs.declared.book.End.TheVariants as end
use Rattle.tag_book.specs.declared.book.Use.{Use}
use Rattle.tag_book.specs.declared.book.Use.TheVariants.{Accepted, Made}
use Rattle.world_laws.specs.Runs.{run_of}

-- the tags of an end's present conversation: those of the events after the one in which it began
abbrev pub present_tags : End → Use → WorldNow → List TagRecord
present_tags end how w = tags_by end how (since (since_of end w.conversations.begun) w.book)

-- this holds of both ends, which began with these objects, each with the nonce of its present
-- conversation and with the tags of it
pub record BothInvariantsOf (peer : PeerViews) (server : ServerViews) (setup : Setup) (w : WorldNow)
    : Type 0 where
  pub peer_invariant : PeerInvariantOf peer
      (peers.setup_with_nonce setup.peer w.parties.peer.vars.setup.nonce) w.parties.peer
      (present_tags end.Peer Accepted w) (present_tags end.Peer Made w)
  pub server_invariant : ServerInvariantOf server
      (servers.setup_with_nonce setup.server w.parties.server.vars.setup.nonce) w.parties.server
      (present_tags end.Server Accepted w) (present_tags end.Server Made w)

-- in every run, of any setup, over any events, of ends with objects of any methods
abbrev pub AnyEndInvariants : Type 0
AnyEndInvariants = (setup : Setup) (peer : PeerViews) (server : ServerViews) (events : List Event)
    → PeerHasOwn setup.peer.methods peer → ServerHasOwn setup.server.methods server
    → BothInvariantsOf peer server setup (wide.run_of setup peer server events)

-- of ends whose objects are of the two methods
abbrev pub BothInvariants : Setup → WorldNow → Type 0
BothInvariants setup = BothInvariantsOf (both_peers.both_of setup.peer.methods)
    (both_servers.both_of setup.server.methods) setup

abbrev pub EndInvariants : Type 0
EndInvariants = (setup : Setup) (events : List Event) → BothInvariants setup (run_of setup events)
