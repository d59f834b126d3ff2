-- Peers whose methods are EAP-PSK and EAP-GPSK, and what their objects show.
use Rattle.std.specs.Prelude.{◌≡◌, ℕ, List, Bool, true, false, ◌==◌, if◌then◌else◌, Option, None}
use Rattle.std.specs.Prelude.{Some}
use Rattle.std.specs.List.{list_all}
use Rattle.octet_lists.specs.Among.{psk_kind, gpsk_kind, is_among}
use Rattle.eap_method.specs.PskPeer as psk_peer
use Rattle.eap_method.specs.GpskPeer as gpsk_peer
use Rattle.eap_method.specs.Peer.{Method, by_psk, by_gpsk, by_other, View, PeerShown, PeerViews}
use Rattle.eap_method.specs.Peer.{psk, gpsk, peer_methods}

-- whether a method is one of the two
abbrev pub is_one : Method → Bool
is_one by_psk = true
is_one by_gpsk = true
is_one (by_other custom) = false

-- whether each of these objects is of one of the two
abbrev pub are_both : List PeerShown → Bool
are_both shown = list_all is_one (peer_methods shown)

-- the view of each, by the Type at which an object stands
abbrev pub psk_of : (m : Method) → View m → psk_peer.View
psk_of by_psk view = view
psk_of by_gpsk view = psk_peer.unset
psk_of (by_other custom) view = psk_peer.unset

abbrev pub gpsk_of : (m : Method) → View m → gpsk_peer.View
gpsk_of by_psk view = gpsk_peer.unset
gpsk_of by_gpsk view = view
gpsk_of (by_other custom) view = gpsk_peer.unset

abbrev pub psk_shown : Option PeerShown → psk_peer.View
psk_shown None = psk_peer.unset
psk_shown (Some s) = psk_of s.method s.view

abbrev pub gpsk_shown : Option PeerShown → gpsk_peer.View
gpsk_shown None = gpsk_peer.unset
gpsk_shown (Some s) = gpsk_of s.method s.view

abbrev pub psk_in : PeerViews → psk_peer.View
psk_in views = psk_shown (views psk_kind)

abbrev pub gpsk_in : PeerViews → gpsk_peer.View
gpsk_in views = gpsk_shown (views gpsk_kind)

-- an object of each of these Types that is of one of the two
abbrev pub both_of : List ℕ → PeerViews
both_of methods = λ kind.
    if is_among methods kind
    then (if kind == psk_kind then Some (psk psk_peer.unset) else if kind == gpsk_kind
    then Some (gpsk gpsk_peer.unset) else None)
    else None

-- what is shown at a Type is one of the two
pub data IsOne (kind : ℕ) : PeerShown → Type 0 where
  is_psk : (same : kind ≡ psk_kind) (view : psk_peer.View) → IsOne kind (psk view)
  is_gpsk : (same : kind ≡ gpsk_kind) (view : gpsk_peer.View) → IsOne kind (gpsk view)
