-- A method alone that has begun is a fresh one of its Type.
use Rattle.std.proofs.Common.{◌≡◌, ℕ, List, refl, ap, sym, ◌∙◌}
use Rattle.eap_method.specs.Peer.{peer_kind, started_peer}
use Rattle.eap_method.specs.Server.{ServerShown, server_kind, started_server, server_first_step}
use Rattle.eap_method.specs.Turns.{FirstOutcome}
use Rattle.eap_method.specs.declared.values.Credential.{Credential}
use Rattle.eap_method.specs.declared.values.ServerSide.{ServerSide}
use Rattle.end_objects.specs.Objects.{peer_object_shown, server_object_shown}
use Rattle.end_objects.specs.declared.objects.PeerObject.{PeerObject}
use Rattle.end_objects.specs.declared.objects.PeerObject.TheVariants as peer_objects
use Rattle.end_objects.specs.declared.objects.ServerObject.{ServerObject}
use Rattle.end_objects.specs.declared.objects.ServerObject.TheVariants as server_objects
use Rattle.tuvaddri_c.specs.ByMethod.{peer_fresh, server_fresh}

of_peer : (o : PeerObject) (cred : Credential) (nonce : List ℕ)
    → started_peer cred nonce (peer_object_shown o)
    ≡ peer_fresh (peer_kind (peer_object_shown o)) cred nonce
of_peer (peer_objects.Psk view) cred nonce = refl
of_peer (peer_objects.Gpsk view) cred nonce = refl

of_server : (o : ServerObject) (own : ServerSide) (nonce : List ℕ)
    → started_server own nonce (server_object_shown o)
    ≡ server_fresh (server_kind (server_object_shown o)) own nonce
of_server (server_objects.Psk view) own nonce = refl
of_server (server_objects.Gpsk view) own nonce = refl

pub peer_is_fresh : (before after : PeerObject) (kind told_kind : ℕ) (cred told_cred : Credential)
    (nonce : List ℕ)
    → peer_object_shown after ≡ started_peer cred nonce (peer_object_shown before)
    → peer_kind (peer_object_shown before) ≡ kind
    → kind ≡ told_kind → cred ≡ told_cred
    → peer_object_shown after ≡ peer_fresh told_kind told_cred nonce
peer_is_fresh before after kind told_kind cred told_cred nonce begun of_kind is_kind is_cred =
    begun ∙ (of_peer before cred nonce
    ∙ (ap (λ (k : ℕ). peer_fresh k cred nonce) (of_kind ∙ is_kind)
    ∙ ap (λ (c : Credential). peer_fresh told_kind c nonce) is_cred))

-- its first Request is that of a fresh one
pub server_is_fresh : (before begun : ServerObject) (kind told_kind : ℕ) (own told_own : ServerSide)
    (nonce : List ℕ) (id : ℕ) (out : FirstOutcome ServerShown)
    → server_object_shown begun ≡ started_server own nonce (server_object_shown before)
    → server_kind (server_object_shown before) ≡ kind → kind ≡ told_kind → own ≡ told_own
    → server_first_step (server_object_shown begun) id ≡ out
    → server_first_step (server_fresh told_kind told_own nonce) id ≡ out
server_is_fresh before begun kind told_kind own told_own nonce id out started of_kind is_kind
    is_own made =
    ap (λ (s : ServerShown). server_first_step s id)
    (sym (started
    ∙ (of_server before own nonce ∙ (ap (λ (k : ℕ). server_fresh k own nonce) (of_kind ∙ is_kind)
    ∙ ap (λ (o : ServerSide). server_fresh told_kind o nonce) is_own))))
    ∙ made
