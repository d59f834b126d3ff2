-- What the laws say of EAP-GPSK alone: of the whole nonces, each name, and the suite. Of another
-- method each says nothing.
use Rattle.std.specs.Prelude.{◌≡◌, ℕ, List, true, Option, Some}
use Rattle.login_setup.specs.declared.setup.Setup.{Setup}
use Rattle.octet_lists.specs.declared.suite.Suite.{Suite}
use Rattle.octet_lists.specs.Among.{gpsk_kind, is_among}
use Rattle.octet_lists.specs.Suite.{suite_number}
use Rattle.login_policy.specs.Policy.{picked_suite}
use Rattle.eap_method.specs.BothServers.{gpsk_at}
use Rattle.eap_method.specs.declared.values.Report.{Report}
use Rattle.eap_method.specs.GpskTags.{suite_list}
use Rattle.eap_method.specs.Peer.{PeerViews}
use Rattle.eap_method.specs.Server.{ServerViews}
use Rattle.method_laws.specs.GpskPeerInvariant.{gpsk_whole_rand_s}
use Rattle.method_laws.specs.GpskServerInvariant.{gpsk_whole_rand_p_in}
use Rattle.eap_method.specs.BothPeers.{gpsk_in}

-- the peer, with these views and this nonce, and the server have the whole of each other's nonces
pub record HaveWhole (peer_views : PeerViews) (peer_nonce : List ℕ) (server_views : ServerViews)
    (server_nonce : List ℕ) : Type 0 where
  pub rand_s : gpsk_whole_rand_s (gpsk_in peer_views) ≡ Some server_nonce
  pub rand_p : gpsk_whole_rand_p_in (gpsk_at server_views) ≡ Some peer_nonce

abbrev pub HaveAllOctets : Option ℕ → PeerViews → List ℕ → ServerViews → List ℕ → Type 0
HaveAllOctets kind peer_views peer_nonce server_views server_nonce =
    kind ≡ Some gpsk_kind → HaveWhole peer_views peer_nonce server_views server_nonce

-- two logins are the same, each name by itself
abbrev pub HaveSameNames : Report → Report → Type 0
HaveSameNames one other = one.method ≡ gpsk_kind → one ≡ other

-- the reported suite is the first of the server's own list that the peer allows
pub record PicksFirstSuite (setup : Setup) (report : Report) : Type 0 where
  pub suite : Suite
  pub picked : picked_suite setup.peer.suites (suite_list setup.server.suites) ≡ Some suite
  pub is_suite : report.suite ≡ suite_number suite

abbrev pub HasFirstSuite : Setup → Report → Type 0
HasFirstSuite setup report = report.method ≡ gpsk_kind → PicksFirstSuite setup report

-- the reported suite is among these
abbrev pub HasSuiteAmong : List ℕ → Report → Type 0
HasSuiteAmong suites report = report.method ≡ gpsk_kind → is_among suites report.suite ≡ true
