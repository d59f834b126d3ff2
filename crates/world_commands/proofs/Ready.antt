-- The methods are there until the world begins, which has an object of each that its setup names.
use Rattle.std.proofs.Common.{◌≡◌, true, false, Option, Some, None, refl, subst, sym, ◌∙◌}
use Rattle.std.specs.Prelude.{is_some, IfSome}
use Rattle.eap_method.specs.Peer.{PeerShown}
use Rattle.eap_method.specs.Server.{ServerShown}
use Rattle.eap_world.specs.World.{HasObjects, WorldValue}
use Rattle.eap_method.specs.declared.values.Methods.{Methods}
use Rattle.world_commands.specs.Replay.{HasBoth, AreThere, IsReady}
use Rattle.world_commands.specs.declared.replay.Replay.{Replay}

none_unless : {A : Type 0} (o : Option A) → false ≡ is_some o → o ≡ None
none_unless None e = refl
none_unless (Some x) e = cc

-- before the world begins, the methods that are taken are those of both ends
pub both_there : {P S : Type 0} (peer_shown : P → PeerShown) (server_shown : S → ServerShown)
    (c : Replay P S) (taken : Option (Methods P S)) (methods : Methods P S)
    → IsReady peer_shown server_shown c 0 → false ≡ is_some c.world → taken ≡ c.methods
    → taken ≡ Some methods → HasBoth peer_shown server_shown methods
both_there peer_shown server_shown c taken methods ready none same is =
    subst (AreThere peer_shown server_shown) (sym same ∙ is)
    (ready.objects (none_unless c.world none))

-- a command whose world has started, with its objects, is ready
pub ready_in : {P S : Type 0} (peer_shown : P → PeerShown) (server_shown : S → ServerShown)
    (c : Replay P S) (w : WorldValue P S)
    → c.world ≡ Some w → w.started ≡ true → HasObjects peer_shown server_shown w
    → IsReady peer_shown server_shown c 0
ready_in {P = P} {S = S} peer_shown server_shown c w is started has = record {
  objects = λ none. absurd (let e = sym is ∙ none in cc);
  started =
      subst (λ (o : Option (WorldValue P S)). IfSome o (λ v. v.started ≡ true)) (sym is) started;
  each = subst (λ (o : Option (WorldValue P S)).
      IfSome o (λ v. HasObjects peer_shown server_shown v)) (sym is) has;
}
