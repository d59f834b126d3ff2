-- Servers whose methods are EAP-PSK and EAP-GPSK, and what their objects show.
use Rattle.std.specs.Prelude.{◌≡◌, ℕ, List, Bool, true, false, ◌==◌, if◌then◌else◌, Option, None}
use Rattle.std.specs.Prelude.{Some}
use Rattle.std.specs.List.{list_all}
use Rattle.octet_lists.specs.Among.{psk_kind, gpsk_kind, is_among}
use Rattle.eap_method.specs.PskServer as psk_server
use Rattle.eap_method.specs.GpskServer as gpsk_server
use Rattle.eap_method.specs.Server.{Method, by_psk, by_gpsk, by_other, View, ServerShown}
use Rattle.eap_method.specs.Server.{ServerViews, psk, gpsk, server_methods}

-- whether a method is one of the two
abbrev pub is_one : Method → Bool
is_one by_psk = true
is_one by_gpsk = true
is_one (by_other custom) = false

-- whether each of these objects is of one of the two
abbrev pub are_both : List ServerShown → Bool
are_both shown = list_all is_one (server_methods shown)

-- the view of each, if an object of it stands at its Type
abbrev pub psk_of : (m : Method) → View m → Option psk_server.View
psk_of by_psk view = Some view
psk_of by_gpsk view = None
psk_of (by_other custom) view = None

abbrev pub gpsk_of : (m : Method) → View m → Option gpsk_server.View
gpsk_of by_psk view = None
gpsk_of by_gpsk view = Some view
gpsk_of (by_other custom) view = None

abbrev pub psk_shown : Option ServerShown → Option psk_server.View
psk_shown None = None
psk_shown (Some s) = psk_of s.method s.view

abbrev pub gpsk_shown : Option ServerShown → Option gpsk_server.View
gpsk_shown None = None
gpsk_shown (Some s) = gpsk_of s.method s.view

abbrev pub psk_at : ServerViews → Option psk_server.View
psk_at views = psk_shown (views psk_kind)

abbrev pub gpsk_at : ServerViews → Option gpsk_server.View
gpsk_at views = gpsk_shown (views gpsk_kind)

-- an object of each of these Types that is of one of the two
abbrev pub both_of : List ℕ → ServerViews
both_of methods = λ kind.
    if is_among methods kind
    then (if kind == psk_kind then Some (psk psk_server.unset) else if kind == gpsk_kind
    then Some (gpsk gpsk_server.unset) else None)
    else None

-- what is shown at a Type is one of the two
pub data IsOne (kind : ℕ) : ServerShown → Type 0 where
  is_psk : (same : kind ≡ psk_kind) (view : psk_server.View) → IsOne kind (psk view)
  is_gpsk : (same : kind ≡ gpsk_kind) (view : gpsk_server.View) → IsOne kind (gpsk view)
