-- The octets that a MAC of EAP-PSK covers, from their pieces.
use Rattle.std.proofs.Common.{◌≡◌, ℕ, List, [], ◌++◌, refl, append_assoc}
use Rattle.std.proofs.lemmas.List.{append-nil}
use Rattle.eap_method.specs.PskTags.{mac_p_octets, mac_s_octets}

-- MAC_P's
pub mac_p_joined : (a b c d : List ℕ) → a ++ (b ++ (c ++ (d ++ []))) ≡ mac_p_octets a b c d
unfolding mac_p_octets
mac_p_joined a b c d = simp (append_assoc, append-nil d)

-- MAC_S's
pub mac_s_joined : (a b : List ℕ) → a ++ (b ++ []) ≡ mac_s_octets a b
unfolding mac_s_octets
mac_s_joined a b = rw (append-nil b) refl
