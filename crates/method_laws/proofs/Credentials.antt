-- What the peer brings into a method is its setup's.
use Rattle.std.proofs.Common.{◌≡◌, ℕ, ap}
use Rattle.login_setup.specs.declared.setup.PeerSetup.{PeerSetup}
use Rattle.eap_method.specs.declared.values.Credential.{Credential}
use Rattle.eap_method.specs.Peer.{credential_for, key_for}

pub own_name : (setup : PeerSetup) (kind : ℕ) (cred : Credential) → cred ≡ credential_for setup kind
    → cred.id_p ≡ setup.name
unfolding credential_for
own_name setup kind cred e = ap (λ (c : Credential). c.id_p) e

pub own_key : (setup : PeerSetup) (kind : ℕ) (cred : Credential) → cred ≡ credential_for setup kind
    → cred.psk ≡ key_for setup kind
unfolding credential_for
own_key setup kind cred e = ap (λ (c : Credential). c.psk) e
