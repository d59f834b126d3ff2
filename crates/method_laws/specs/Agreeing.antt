-- Two ends whose methods have both succeeded agree. It is said of two histories, whatever the
-- methods; each method owes it once.
use Rattle.std.specs.Prelude.{◌≡◌, ◌≢◌, List, length, true, false, Option, Some}
use Rattle.login_setup.specs.declared.setup.Setup.{Setup}
use Rattle.login_setup.specs.declared.users.User.{User}
use Rattle.login_setup.specs.Setup.{accepts_name}
use Rattle.login_setup.specs.Users.{user_of}
use Rattle.octet_lists.specs.Among.{is_among}
use Rattle.eap_method.specs.BothPeers as peers
use Rattle.eap_method.specs.BothServers as servers
use Rattle.eap_method.specs.declared.tags.TagRecord.{TagRecord}
use Rattle.eap_method.specs.declared.values.Decision.{Decision}
use Rattle.eap_method.specs.declared.values.Decision.TheVariants as decision
use Rattle.eap_method.specs.declared.values.Report.{Report}
use Rattle.eap_method.specs.Peer as peer
use Rattle.eap_method.specs.Peer.{PeerShown, key_for}
use Rattle.eap_method.specs.Server as server
use Rattle.eap_method.specs.Server.{ServerShown}
use Rattle.method_laws.specs.GpskLogins.{HasFirstSuite, HasSuiteAmong}
use Rattle.method_laws.specs.PeerHistory.{PeerHistory}
use Rattle.method_laws.specs.Records.{FirstInEither}
use Rattle.method_laws.specs.ServerHistory.{ServerHistory}

-- both ends have one report, whose names are those of both settings; the server knows the peer by
-- its name, with the peer's own key, and lets it in; both policies allow the method, the server's
-- name and the suite; and the suite is the one picked of the server's own list
pub record Agrees (setup : Setup) (one other : Option Report) : Type 0 where
  pub report : Report
  pub reported : one ≡ Some report
  pub same : other ≡ Some report
  pub id_p : report.id_p ≡ setup.peer.name
  pub id_s : report.id_s ≡ setup.server.name
  pub user : User
  pub known : user_of setup.server.users setup.peer.name report.method ≡ Some user
  pub key : user.psk ≡ key_for setup.peer report.method
  pub welcome : user.barred ≡ false
  pub allowed : is_among setup.peer.methods report.method ≡ true
  pub ordered : is_among setup.server.methods report.method ≡ true
  pub accepted : accepts_name setup.peer.accepts report.id_s ≡ true
  pub allowed_suite : HasSuiteAmong setup.peer.suites report
  pub ordered_suite : HasSuiteAmong setup.server.suites report
  pub first_suite : HasFirstSuite setup report

-- the histories of two objects that have both succeeded, where the first tag that each accepted is
-- one that the other made, or itself, agree, if each nonce has 32 octets
abbrev pub Agreeing : PeerShown → ServerShown → Type 0
Agreeing p s = (setup : Setup) (last : Decision)
    (accepted made server_accepted server_made : List TagRecord)
    → length setup.peer.nonce ≡ 32 → length setup.server.nonce ≡ 32
    → PeerHistory setup.peer p last accepted made → last ≢ decision.Fail
    → ServerHistory setup.server s true server_accepted server_made
    → FirstInEither accepted server_made made → FirstInEither server_accepted made server_made
    → Agrees setup (peer.peer_report p) (server.server_report s)

-- so do any two of EAP-PSK and EAP-GPSK
abbrev pub BothAgree : Type 0
BothAgree = (p : PeerShown) (s : ServerShown) → peers.is_one p.method ≡ true
    → servers.is_one s.method ≡ true → Agreeing p s
