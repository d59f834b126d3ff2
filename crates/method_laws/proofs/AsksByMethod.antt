-- An end asks so of the other by either method; and an end in SUCCESS has accepted a tag.
use Rattle.std.proofs.Common.{◌≡◌, ℕ, ◌≤◌, List, length, Option, arith}
use Rattle.login_setup.specs.declared.setup.PeerSetup.{PeerSetup}
use Rattle.login_setup.specs.Setup.{ServerSetup}
use Rattle.eap_method.specs.declared.tags.TagRecord.{TagRecord}
use Rattle.method_laws.proofs.Asks.{AsksServer}
use Rattle.method_laws.proofs.GpskServerOwners.{gpsk3_asks}
use Rattle.method_laws.proofs.PskServerOwners.{psk3_asks}
use Rattle.method_laws.proofs.Succeeding.{PeerSucceeds, ServerSucceeds}
use Rattle.method_laws.proofs.Succeeding.{of_gpsk, of_psk}
use Rattle.method_laws.proofs.Succeeding.{with_gpsk, with_psk}
use Rattle.eap_method.specs.Peer.{PeerViews}
use Rattle.eap_method.specs.Server.{ServerViews}

pub peer_asks : (setup : PeerSetup) (nonce : List ℕ) (selected : Option ℕ) (views : PeerViews)
    (accepted made : List TagRecord) → length nonce ≡ 32
    → PeerSucceeds (record setup { nonce = nonce }) selected views accepted made
    → AsksServer nonce accepted
peer_asks setup nonce selected views _ _ size
    (with_psk login header sealed id is_selected in_view facts) =
    psk3_asks setup nonce login header sealed size facts
peer_asks setup nonce selected views _ _ size
    (with_gpsk login list pd is_selected in_view facts) =
    gpsk3_asks setup nonce login list pd size facts

-- an end in SUCCESS has accepted a tag
pub peer_accepted : (setup : PeerSetup) (selected : Option ℕ) (views : PeerViews)
    (accepted made : List TagRecord) → PeerSucceeds setup selected views accepted made
    → 1 ≤ length accepted
peer_accepted setup selected views _ _ (with_psk login header sealed id is_selected in_view facts) =
    omega arith
peer_accepted setup selected views _ _ (with_gpsk login list pd is_selected in_view facts) =
    omega arith

pub server_accepted : (setup : ServerSetup) (current : Option ℕ) (views : ServerViews)
    (accepted made : List TagRecord) → ServerSucceeds setup current views accepted made
    → 1 ≤ length accepted
server_accepted setup current views _ _
    (of_psk login header sealed id is_current in_view facts r_sent) =
    omega arith
server_accepted setup current views _ _ (of_gpsk login pd last_pd is_current in_view facts) =
    omega arith
