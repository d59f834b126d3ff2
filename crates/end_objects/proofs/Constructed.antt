-- The objects that are made one after the other are of the Types that are wanted, in their order.
use Rattle.std.proofs.Common.{◌≡◌, ℕ, List, [], ◌∷◌, ◌++◌, map, true, refl, ap, eq-eqb}
use Rattle.std.specs.Prelude.{◌==◌}
use Rattle.std.specs.List.{list_all}
use Rattle.std.proofs.lemmas.Bool.{and_parts, and_from, or_left, or_right}
use Rattle.octet_lists.specs.Among.{is_among}
use Rattle.eap_method.specs.Peer.{peer_kind, peer_kinds, have_each}
use Rattle.eap_method.specs.Server.{server_kind, server_kinds}
use Rattle.end_objects.specs.Objects.{peer_object_shown, server_object_shown}
use Rattle.end_objects.specs.declared.objects.PeerObject.{PeerObject}
use Rattle.end_objects.specs.declared.objects.ServerObject.{ServerObject}

pub one_more_peer : (before : List PeerObject) (object : PeerObject) (rest : List ℕ)
    → peer_kinds (map peer_object_shown (before ++ object ∷ [])) ++ rest
    ≡ peer_kinds (map peer_object_shown before) ++ peer_kind (peer_object_shown object) ∷ rest
one_more_peer [] object rest = refl
one_more_peer (first ∷ more) object rest =
    ap (λ kinds. peer_kind (peer_object_shown first) ∷ kinds) (one_more_peer more object rest)

pub one_more_server : (before : List ServerObject) (object : ServerObject) (rest : List ℕ)
    → server_kinds (map server_object_shown (before ++ object ∷ [])) ++ rest ≡ server_kinds (map
    server_object_shown before) ++ server_kind (server_object_shown object) ∷ rest
one_more_server [] object rest = refl
one_more_server (first ∷ more) object rest =
    ap (λ kinds. server_kind (server_object_shown first) ∷ kinds) (one_more_server more object rest)

-- those that stand among some stand among one more
still_among : (kinds : List ℕ) (kind : ℕ) (wanted : List ℕ) → list_all (is_among kinds) wanted
    ≡ true → list_all (is_among (kind ∷ kinds)) wanted ≡ true
still_among kinds kind [] h = refl
still_among kinds kind (first ∷ rest) h =
    let parts = and_parts (is_among kinds first) (list_all (is_among kinds) rest) h in
    and_from (is_among (kind ∷ kinds) first) (list_all (is_among (kind ∷ kinds)) rest)
    (or_right (kind == first) (is_among kinds first) parts.0) (still_among kinds kind rest parts.1)

-- of each Type that stands among some there is one
pub each_of_its_own : (kinds : List ℕ) → have_each kinds kinds ≡ true
each_of_its_own [] = refl
each_of_its_own (kind ∷ rest) =
    and_from (is_among (kind ∷ rest) kind) (list_all (is_among (kind ∷ rest)) rest)
    (or_left (kind == kind) (is_among rest kind) (eq-eqb kind kind refl))
    (still_among rest kind rest (each_of_its_own rest))
