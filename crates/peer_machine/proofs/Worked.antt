-- What a peer answers that reads Expanded Types (RFC 3748 section 5.7), and one that doesn't, from
-- the definitions alone.
use Rattle.std.proofs.Common.{◌≡◌, ℕ, List, [], ◌∷◌, true, false, Some, None, refl}
use Rattle.login_setup.specs.declared.setup.PeerSetup.{PeerSetup}
use Rattle.eap_packet.specs.Packet.{spelled}
use Rattle.eap_packet.specs.Fault.{fault, packet_of}
use Rattle.eap_packet.specs.declared.cause.Cause.TheVariants.{BadExpanded}
use Rattle.eap_packet.specs.declared.state.State.TheVariants.{GetMethod, Identity}
use Rattle.login_policy.specs.Policy.{nak_of}
use Rattle.login_policy.specs.Expanded.{nak_entries}
use Rattle.peer_machine.specs.Expanded.{peer_receives}
use Rattle.peer_machine.specs.PeerTable.{PeerNow, PeerAnswer, initial_peer, peer_deliver}
use Rattle.peer_machine.specs.PeerTable.{peer_discard, peer_respond, peer_retransmit}

-- a peer that allows the methods of Types 51 and 47 and is named "a"
abbrev peer : PeerSetup → PeerNow
peer setup = initial_peer (record setup { name = 97 ∷ []; methods = 51 ∷ 47 ∷ [] }) (λ kind. None)

abbrev reading : PeerSetup → PeerNow
reading setup = peer (record setup { expanded = true })

abbrev other : PeerSetup → PeerNow
other setup = peer (record setup { expanded = false })

-- a Request of vendor 1 and Vendor-Type 2
abbrev vendor_request : List ℕ
vendor_request = 1 ∷ 9 ∷ 0 ∷ 12 ∷ 254 ∷ 0 ∷ 0 ∷ 1 ∷ 0 ∷ 0 ∷ 0 ∷ 2 ∷ []

-- the Expanded Nak of 28 octets, and the Nak of 7
abbrev expanded_nak : List ℕ
expanded_nak =
    2 ∷ 9 ∷ 0 ∷ 28 ∷ 254 ∷ 0 ∷ 0 ∷ 0 ∷ 0 ∷ 0 ∷ 0 ∷ 3 ∷
    254 ∷ 0 ∷ 0 ∷ 0 ∷ 0 ∷ 0 ∷ 0 ∷ 51 ∷ 254 ∷ 0 ∷ 0 ∷ 0 ∷ 0 ∷ 0 ∷ 0 ∷ 47 ∷ []

abbrev plain_nak : List ℕ
plain_nak = 2 ∷ 9 ∷ 0 ∷ 7 ∷ 3 ∷ 51 ∷ 47 ∷ []

vendor_is_refused : (setup : PeerSetup) → peer_receives (reading setup) vendor_request
    ≡ peer_respond (reading setup) GetMethod 9 expanded_nak
unfolding peer_receives peer_deliver packet_of fault spelled nak_of nak_entries
vendor_is_refused setup = refl

vendor_is_any_type : (setup : PeerSetup) → peer_receives (other setup) vendor_request
    ≡ peer_respond (other setup) GetMethod 9 plain_nak
unfolding peer_receives peer_deliver packet_of fault spelled nak_of
vendor_is_any_type setup = refl

-- one octet of Type-Data
abbrev short_request : List ℕ
short_request = 1 ∷ 9 ∷ 0 ∷ 6 ∷ 254 ∷ 0 ∷ []

short_is_bad : (setup : PeerSetup) → peer_receives (reading setup) short_request
    ≡ peer_discard (reading setup) BadExpanded
unfolding peer_receives packet_of fault
short_is_bad setup = refl

short_is_any_type : (setup : PeerSetup) → peer_receives (other setup) short_request
    ≡ peer_respond (other setup) GetMethod 9 plain_nak
unfolding peer_receives peer_deliver packet_of fault spelled nak_of
short_is_any_type setup = refl

-- an Identity Request, wrapped and plain, and the Identity Response wrapped
abbrev wrapped_identity : List ℕ
wrapped_identity = 1 ∷ 1 ∷ 0 ∷ 12 ∷ 254 ∷ 0 ∷ 0 ∷ 0 ∷ 0 ∷ 0 ∷ 0 ∷ 1 ∷ []

abbrev plain_identity : List ℕ
plain_identity = 1 ∷ 1 ∷ 0 ∷ 5 ∷ 1 ∷ []

abbrev wrapped_name : List ℕ
wrapped_name = 2 ∷ 1 ∷ 0 ∷ 13 ∷ 254 ∷ 0 ∷ 0 ∷ 0 ∷ 0 ∷ 0 ∷ 0 ∷ 1 ∷ 97 ∷ []

abbrev after_identity : PeerSetup → PeerAnswer
after_identity setup = peer_respond (reading setup) Identity 1 wrapped_name

identity_is_wrapped : (setup : PeerSetup) → peer_receives (reading setup) wrapped_identity
    ≡ after_identity setup
unfolding peer_receives peer_deliver packet_of fault spelled
identity_is_wrapped setup = refl

-- repeated in either form it is answered by the same octets
again_wrapped : (setup : PeerSetup) → (let now = (after_identity setup).after in
    peer_receives now wrapped_identity ≡ peer_retransmit now)
unfolding peer_receives peer_deliver packet_of fault spelled
again_wrapped setup = refl

again_plain : (setup : PeerSetup) → (let now = (after_identity setup).after in
    peer_receives now plain_identity ≡ peer_retransmit now)
unfolding peer_receives peer_deliver packet_of fault
again_plain setup = refl

sends_it_again : (setup : PeerSetup) → (peer_retransmit (after_identity setup).after).step.sent
    ≡ Some wrapped_name
sends_it_again setup = refl

-- without Expanded Types the wrapped one is a Type that isn't allowed
identity_is_any_type : (setup : PeerSetup) → (peer_receives
    (other setup) wrapped_identity).step.sent ≡ Some (2 ∷ 1 ∷ 0 ∷ 7 ∷ 3 ∷ 51 ∷ 47 ∷ [])
unfolding peer_receives peer_deliver packet_of fault spelled nak_of
identity_is_any_type setup = refl
