-- Two ends in SUCCESS by EAP-PSK or EAP-GPSK agree, and what they report is their own, where the
-- first tag that each accepted is one that either end made.
use Rattle.std.proofs.Common.{◌≡◌, ℕ, List, length, true}
use Rattle.login_setup.specs.declared.setup.Setup.{Setup}
use Rattle.eap_method.specs.BothPeers as peers
use Rattle.eap_method.specs.BothServers as servers
use Rattle.eap_method.specs.declared.tags.TagRecord.{TagRecord}
use Rattle.peer_machine.specs.PeerTable as peer_table
use Rattle.peer_machine.specs.PeerTable.{PeerNow, peer_reports}
use Rattle.server_machine.specs.ServerTable as server_table
use Rattle.server_machine.specs.ServerTable.{ServerNow, server_reports}
use Rattle.eap_world.specs.Judgement.{is_success}
use Rattle.method_laws.specs.Agreeing.{Agrees}
use Rattle.method_laws.specs.Records.{FirstInEither}
use Rattle.method_laws.proofs.PeerObjects as peer_objects
use Rattle.method_laws.proofs.ServerObjects as server_objects
use Rattle.method_laws.proofs.Succeeding.{both_agree}
use Rattle.world_laws.specs.MethodsAgree.{AllAgree}
use Rattle.world_laws.specs.PeerInvariant.{PeerInvariant}
use Rattle.world_laws.specs.ServerInvariant.{ServerInvariant}
use Rattle.world_laws.proofs.SucceedingEnds as any
use Rattle.login_laws.specs.Agreement.{AreTheirs}

-- any two objects of the two methods agree
pub two_agree : (allowed ordered : List ℕ) → AllAgree (peers.both_of allowed)
    (servers.both_of ordered)
two_agree allowed ordered = record {
  each = λ kind other p s began server_began. both_agree p s
      (peer_objects.begins_of_two allowed kind p began)
      (server_objects.begins_of_two ordered other s server_began);
}

pub ends_agree : (setup : Setup) (p : PeerNow) (s : ServerNow)
    (peer_accepted initial_peer server_accepted initial_server : List TagRecord)
    → length setup.peer.nonce ≡ 32 → length setup.server.nonce ≡ 32
    → PeerInvariant setup.peer p peer_accepted initial_peer
    → ServerInvariant setup.server s server_accepted initial_server
    → FirstInEither peer_accepted initial_server initial_peer
    → FirstInEither server_accepted initial_peer initial_server
    → is_success p.vars.state ≡ true → is_success s.vars.state ≡ true
    → Agrees setup (peer_reports p) (server_reports s)
ends_agree setup = any.ends_agree (two_agree setup.peer.methods setup.server.methods) setup

-- what both ends report is their own
module _ (setup : Setup) (p : PeerNow) (s : ServerNow) where
  pub both_theirs : Agrees setup (peer_reports p) (server_reports s) → AreTheirs setup p s
  both_theirs are = record {
    report = are.report;
    holds = are.reported;
    same = are.same;
    id_p = are.id_p;
    id_s = are.id_s;
    user = are.user;
    known = are.known;
    key = are.key;
    welcome = are.welcome;
    first_suite = are.first_suite;
  }

  -- the settings of conversations with these nonces
  abbrev pub with_nonces : List ℕ → List ℕ → Setup
  with_nonces peer_nonce server_nonce = record setup {
    peer = peer_table.setup_with_nonce setup.peer peer_nonce;
    server = server_table.setup_with_nonce setup.server server_nonce;
  }

  -- these nonces change nothing of that
  pub own_theirs : (peer_nonce server_nonce : List ℕ)
      → Agrees (with_nonces peer_nonce server_nonce) (peer_reports p) (server_reports s)
      → AreTheirs setup p s
  own_theirs peer_nonce server_nonce are = record {
    report = are.report;
    holds = are.reported;
    same = are.same;
    id_p = are.id_p;
    id_s = are.id_s;
    user = are.user;
    known = are.known;
    key = are.key;
    welcome = are.welcome;
    first_suite = λ has. (let taken = are.first_suite has in
        record { suite = taken.suite; picked = taken.picked; is_suite = taken.is_suite });
  }
