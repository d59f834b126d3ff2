-- Worked values of the definitions: how many deliveries, between which ends.
use Rattle.std.proofs.Common.{◌≡◌, List, [], ◌∷◌, false, None, Some, refl, arith, IsTrue}
use Rattle.std.specs.Prelude.{ℕ, codes, length, replicate}
use Rattle.std.proofs.lemmas.List.Elements.{All-from_recursion}
use Rattle.login_setup.specs.declared.event.Event.TheVariants.{Deliver}
use Rattle.login_setup.specs.declared.setup.Mode.{Mode}
use Rattle.login_setup.specs.declared.setup.Mode.TheVariants.{Alone, Through}
use Rattle.login_setup.specs.declared.setup.Setup.{Setup}
use Rattle.login_setup.specs.declared.users.User.{User}
use Rattle.login_setup.specs.Setup.{is_method_kind, has_valid_key}
use Rattle.login_setup.specs.Plain.{plain_peer, plain_server, plain_setup}
use Rattle.world_laws.specs.Whole.{IsWhole}
use Rattle.smooth_laws.specs.Smooth.{EndsCompatible, HasShortNames, event_bound, common_kind}
use Rattle.smooth_laws.specs.Smooth.{deliveries}

user_of_kind : ℕ → List ℕ → User
user_of_kind kind key = record { name = codes "alice"; kind = kind; psk = key; barred = false }

-- alice has a key of each method, and logs in at the server srv; each end has these methods in its
-- order
pub example_setup : Mode → List ℕ → List ℕ → Setup
example_setup runs allowed order = record plain_setup {
  mode = runs;
  first_id = 255;
  peer = record plain_peer {
    methods = allowed;
    psk47 = Some (replicate 16 71);
    psk51 = Some (replicate 32 81);
  };
  server = record plain_server {
    methods = order;
    suites = 2 ∷ 1 ∷ [];
    users = user_of_kind 51 (replicate 32 81) ∷ user_of_kind 47 (replicate 16 71) ∷ [];
  };
}

pub both : List ℕ
both = 51 ∷ 47 ∷ []

-- the first method that the server proposes is taken, by either method
at_once : event_bound (example_setup Alone both both) ≡ 7
unfolding example_setup both
at_once = refl

by_psk : event_bound (example_setup Alone both (47 ∷ [])) ≡ 7
unfolding example_setup both
by_psk = refl

-- it is refused by a Nak
after_nak : event_bound (example_setup Alone (47 ∷ []) both) ≡ 9
unfolding example_setup both
after_nak = refl

-- the same through the pass-through
through : event_bound (example_setup Through both both) ≡ 13
unfolding example_setup both
through = refl

through_after_nak : event_bound (example_setup Through (47 ∷ []) both) ≡ 17
unfolding example_setup both
through_after_nak = refl

-- no method is common
none_common : common_kind (example_setup Alone (47 ∷ []) (51 ∷ [])).peer (example_setup Alone
    (47 ∷ []) (51 ∷ [])).server ≡ None
unfolding example_setup
none_common = refl

three_deliveries : deliveries 1 3 ≡ Deliver 1 ∷ Deliver 2 ∷ Deliver 3 ∷ []
unfolding deliveries
three_deliveries = refl

-- these ends fit by EAP-GPSK, and after a Nak by EAP-PSK
compatible_at_once : EndsCompatible (example_setup Alone both both)
unfolding example_setup both user_of_kind
compatible_at_once = record {
  kind = 51;
  common = refl;
  user = user_of_kind 51 (replicate 32 81);
  known = refl;
  not_barred = refl;
  one_key = refl;
  accepted = refl;
  suite = λ is. refl;
  reads = λ is. is;
}

compatible_after_nak : EndsCompatible (example_setup Through (47 ∷ []) both)
unfolding example_setup both user_of_kind
compatible_after_nak = record {
  kind = 47;
  common = refl;
  user = user_of_kind 47 (replicate 16 71);
  known = refl;
  not_barred = refl;
  one_key = refl;
  accepted = refl;
  suite = λ is. refl;
  reads = λ is. is;
}

-- and their setup is whole
whole_at_once : IsWhole (example_setup Alone both both)
unfolding example_setup both user_of_kind
whole_at_once = record {
  peer = record { methods = refl; suites = refl; psk47 = refl; psk51 = refl };
  keys = refl;
  server = record {
    methods = refl;
    suites = refl;
    kinds = All-from_recursion (λ (user : User). IsTrue (is_method_kind user.kind))
        (example_setup Alone both both).server.users (refl, (refl, tt));
    keys = All-from_recursion (λ (user : User). IsTrue (has_valid_key user))
        (example_setup Alone both both).server.users (refl, (refl, tt));
  };
  peer_kinds = refl;
  server_kinds = refl;
  peer_nonce = refl;
  server_nonce = refl;
  peer_later = All-from_recursion (λ (nonce : List ℕ). length nonce ≡ 32) [] tt;
  server_later = All-from_recursion (λ (nonce : List ℕ). length nonce ≡ 32) [] tt;
}

short_at_once : HasShortNames (example_setup Alone both both)
unfolding example_setup
short_at_once = record { peer = omega arith; server = omega arith }
