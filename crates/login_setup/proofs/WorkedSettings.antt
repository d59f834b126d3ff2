-- Settings that are sound and settings that aren't, of a peer and of a server, at worked values.
use Rattle.std.proofs.Common.{◌≡◌, ℕ, Bool, false, List, [], ◌∷◌, Option, Some, None, replicate}
use Rattle.std.proofs.Common.{refl, sym, ◌∙◌, arith, IsTrue}
use Rattle.std.proofs.lemmas.Bool.{true≢false}
use Rattle.std.proofs.lemmas.List.Elements.{All-from_recursion}
use Rattle.login_setup.specs.Setup.{IsSoundPeer, HasKeys, IsSoundServer, has_valid_key}
use Rattle.login_setup.specs.Setup.{is_method_kind}
use Rattle.login_setup.specs.declared.setup.Accepts.TheVariants.{Any}
use Rattle.login_setup.specs.declared.setup.PeerSetup.{PeerSetup}
use Rattle.login_setup.specs.Setup.{ServerSetup}
use Rattle.login_setup.specs.declared.users.User.{User}
use Rattle.login_setup.specs.Plain.{plain_peer, plain_server}

-- what must be true isn't where it is computed to be false
not_so : (b : Bool) → b ≡ false → IsTrue b → ⊥
not_so b is_false is_true = true≢false (sym is_true ∙ is_false)

abbrev both : List ℕ
both = 1 ∷ 2 ∷ []

-- ---- a peer with these methods and suites, and keys of so many octets

abbrev key : ℕ → Option (List ℕ)
key size = Some (replicate size 7)

abbrev peer : List ℕ → List ℕ → Option (List ℕ) → Option (List ℕ) → PeerSetup
peer methods suites psk47 psk51 =
    record plain_peer {
      accepts = Any;
      methods = methods;
      suites = suites;
      psk47 = psk47;
      psk51 = psk51;
    }

abbrev IsConsumed : PeerSetup → Type 0
IsConsumed setup = IsSoundPeer setup × HasKeys setup

both_methods : IsConsumed (peer (51 ∷ 47 ∷ []) both (key 16) (key 32))
both_methods = (record { methods = refl; suites = refl; psk47 = refl; psk51 = refl }, refl)

gpsk_alone : IsConsumed (peer (51 ∷ []) (1 ∷ []) (key 16) (key 64))
gpsk_alone = (record { methods = refl; suites = refl; psk47 = refl; psk51 = refl }, refl)

psk_alone : IsConsumed (peer (47 ∷ []) both (key 16) None)
psk_alone = (record { methods = refl; suites = refl; psk47 = refl; psk51 = tt }, refl)

neither : IsConsumed (peer [] both None None)
neither = (record { methods = refl; suites = refl; psk47 = tt; psk51 = tt }, refl)

-- a key is missing
no_psk_key : IsConsumed (peer (51 ∷ 47 ∷ []) both None (key 32)) → ⊥
no_psk_key t = not_so _ refl t.1

no_gpsk_key : IsConsumed (peer (51 ∷ 47 ∷ []) both (key 16) None) → ⊥
no_gpsk_key t = not_so _ refl t.1

-- a key has another size, also where its method isn't allowed
short_psk_key : IsConsumed (peer (47 ∷ []) both (key 15) None) → ⊥
short_psk_key t = not_so _ refl t.0.psk47

long_psk_key : IsConsumed (peer (47 ∷ []) both (key 17) None) → ⊥
long_psk_key t = not_so _ refl t.0.psk47

short_gpsk_key : IsConsumed (peer (51 ∷ []) both None (key 31)) → ⊥
short_gpsk_key t = not_so _ refl t.0.psk51

empty_psk_key : IsConsumed (peer (51 ∷ []) both (key 0) (key 32)) → ⊥
empty_psk_key t = not_so _ refl t.0.psk47

idle_gpsk_key : IsConsumed (peer (47 ∷ []) both (key 16) (key 16)) → ⊥
idle_gpsk_key t = not_so _ refl t.0.psk51

-- a method of a maker brings its own key; beside one of the two, whose key is missing, it is
-- refused
other_method : IsConsumed (peer (4 ∷ []) both None None)
other_method = (record { methods = refl; suites = refl; psk47 = tt; psk51 = tt }, refl)

last_method : IsConsumed (peer (47 ∷ 255 ∷ []) both (key 16) None)
last_method = (record { methods = refl; suites = refl; psk47 = refl; psk51 = tt }, refl)

other_and_no_key : IsConsumed (peer (255 ∷ 47 ∷ []) both None (key 32)) → ⊥
other_and_no_key t = not_so _ refl t.1

-- no method's Type, one twice; no suite, another suite, one twice
nak_method : IsConsumed (peer (3 ∷ []) both (key 16) (key 32)) → ⊥
nak_method t = not_so _ refl t.0.methods

expanded_method : IsConsumed (peer (51 ∷ 254 ∷ []) both (key 16) (key 32)) → ⊥
expanded_method t = not_so _ refl t.0.methods

method_twice : IsConsumed (peer (47 ∷ 47 ∷ []) both (key 16) (key 32)) → ⊥
method_twice t = not_so _ refl t.0.methods

no_suite : IsConsumed (peer (51 ∷ 47 ∷ []) [] (key 16) (key 32)) → ⊥
no_suite t = not_so _ refl t.0.suites

suite_zero : IsConsumed (peer (51 ∷ 47 ∷ []) (0 ∷ []) (key 16) (key 32)) → ⊥
suite_zero t = not_so _ refl t.0.suites

suite_three : IsConsumed (peer (51 ∷ 47 ∷ []) (1 ∷ 3 ∷ []) (key 16) (key 32)) → ⊥
suite_three t = not_so _ refl t.0.suites

suite_twice : IsConsumed (peer (51 ∷ 47 ∷ []) (2 ∷ 2 ∷ []) (key 16) (key 32)) → ⊥
suite_twice t = not_so _ refl t.0.suites

-- ---- a server with these methods and suites, and two users of these kinds with keys of so many
-- octets

abbrev user : ℕ → ℕ → ℕ → User
user letter kind size =
    record { name = letter ∷ []; kind = kind; psk = replicate size 7; barred = false }

abbrev users : ℕ → ℕ → ℕ → ℕ → List User
users kind size other_kind other_size = user 97 kind size ∷ user 98 other_kind other_size ∷ []

abbrev server : List ℕ → List ℕ → List User → ServerSetup
server methods suites known =
    record plain_server { methods = methods; suites = suites; users = known }

psk_and_gpsk : IsSoundServer (server (51 ∷ 47 ∷ []) both (users 47 16 51 64))
psk_and_gpsk = record {
  methods = refl;
  suites = refl;
  kinds = All-from_recursion (λ (it : User). IsTrue (is_method_kind it.kind)) (users 47 16 51 64)
      (refl, (refl, tt));
  keys = All-from_recursion (λ (it : User). IsTrue (has_valid_key it))
      (users 47 16 51 64) (refl, (refl, tt));
}

-- a user may be of a method that the server doesn't propose
no_methods : IsSoundServer (server [] (1 ∷ []) (users 51 32 51 33))
no_methods = record {
  methods = refl;
  suites = refl;
  kinds = All-from_recursion (λ (it : User). IsTrue (is_method_kind it.kind)) (users 51 32 51 33)
      (refl, (refl, tt));
  keys = All-from_recursion (λ (it : User). IsTrue (has_valid_key it))
      (users 51 32 51 33) (refl, (refl, tt));
}

-- a method of a maker, and users of such methods, with keys of any size
other_methods : IsSoundServer (server (255 ∷ 51 ∷ []) both (users 4 0 255 64))
other_methods = record {
  methods = refl;
  suites = refl;
  kinds = All-from_recursion (λ (it : User). IsTrue (is_method_kind it.kind)) (users 4 0 255 64)
      (refl, (refl, tt));
  keys = All-from_recursion (λ (it : User). IsTrue (has_valid_key it))
      (users 4 0 255 64) (refl, (refl, tt));
}

-- a user of no method's Type, and one with a key of another size, the first and the second
nak_kind : IsSoundServer (server (51 ∷ 47 ∷ []) both (users 3 16 51 32)) → ⊥
nak_kind s = not_so _ refl (s.kinds 0 (user 97 3 16) (omega arith))

expanded_kind : IsSoundServer (server (51 ∷ 47 ∷ []) both (users 47 16 254 32)) → ⊥
expanded_kind s = not_so _ refl (s.kinds 1 (user 98 254 32) (omega arith))

long_key : IsSoundServer (server (51 ∷ 47 ∷ []) both (users 47 32 51 32)) → ⊥
long_key s = not_so _ refl (s.keys 0 (user 97 47 32) (omega arith))

psk_key_for_gpsk : IsSoundServer (server (51 ∷ 47 ∷ []) both (users 47 16 51 16)) → ⊥
psk_key_for_gpsk s = not_so _ refl (s.keys 1 (user 98 51 16) (omega arith))

short_key : IsSoundServer (server (51 ∷ 47 ∷ []) both (users 47 16 51 31)) → ⊥
short_key s = not_so _ refl (s.keys 1 (user 98 51 31) (omega arith))

-- no method's Type, one twice; no suite, another suite, one twice
server_method_twice : IsSoundServer (server (51 ∷ 51 ∷ []) both (users 47 16 51 32)) → ⊥
server_method_twice s = not_so _ refl s.methods

server_no_method : IsSoundServer (server (1 ∷ []) both (users 47 16 51 32)) → ⊥
server_no_method s = not_so _ refl s.methods

server_no_suite : IsSoundServer (server (47 ∷ []) [] (users 47 16 51 32)) → ⊥
server_no_suite s = not_so _ refl s.suites

server_suite_twice : IsSoundServer (server (47 ∷ []) (1 ∷ 1 ∷ []) (users 47 16 51 32)) → ⊥
server_suite_twice s = not_so _ refl s.suites

server_suite_seven : IsSoundServer (server (47 ∷ []) (7 ∷ 1 ∷ []) (users 47 16 51 32)) → ⊥
server_suite_seven s = not_so _ refl s.suites
