-- Rows that were worked: which objects an end doesn't name.
use Rattle.std.proofs.Common.{◌≡◌, [], ◌∷◌, refl}
use Rattle.octet_lists.specs.Among.{psk_kind, gpsk_kind}
use Rattle.eap_method.specs.GpskServer as gpsk_server
use Rattle.eap_method.specs.PskServer as psk_server
use Rattle.eap_method.specs.Server as server
use Rattle.eap_method.specs.Unnamed.{servers_unnamed}

-- of two objects, by the definition alone: which stay where one method, both or none is named
named : (one : psk_server.View) (other : gpsk_server.View)
    → (let shown = server.psk one ∷ server.gpsk other ∷ [] in
    (servers_unnamed (gpsk_kind ∷ []) shown ≡ server.psk one ∷ [])
    × (servers_unnamed (psk_kind ∷ []) shown ≡ server.gpsk other ∷ [])
    × (servers_unnamed (gpsk_kind ∷ psk_kind ∷ []) shown ≡ [])
    × (servers_unnamed [] shown ≡ shown))
unfolding servers_unnamed
named one other = (refl, refl, refl, refl)
