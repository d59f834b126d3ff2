-- Settings that are taken and settings that are refused, and what they come to, at worked values.
use Rattle.std.proofs.Common.{◌≡◌, ℕ, List, [], ◌∷◌, Option, Some, None, replicate, true, false}
use Rattle.std.proofs.Common.{refl}
use Rattle.std.specs.Prelude.{codes}
use Rattle.login_setup.specs.declared.setup.Accepts.TheVariants.{Any, One}
use Rattle.login_setup.specs.Plain.{plain_peer, plain_server}
use Rattle.end_objects.specs.Settings.{SettingsValue, keyed_kinds, named_kinds, kinds_of}
use Rattle.end_objects.specs.Settings.{first_kind, suites_of, users_of, peer_setup_of}
use Rattle.end_objects.specs.Settings.{server_setup_of, credential_of}
use Rattle.end_objects.specs.Refusals.{peer_refusal, server_refusal, stand_alone_refusal}
use Rattle.end_objects.specs.Refusals.{user_refusal, has_bad_methods, has_bad_suites, has_keys}
use Rattle.end_objects.specs.Refusals.{has_key_of_user}
use Rattle.end_objects.specs.declared.refusals.Refusal.{Refusal}
use Rattle.end_objects.specs.declared.refusals.Refusal.TheVariants as refusal

-- an end with these keys and methods, all else at its default
abbrev end : List ℕ → List ℕ → List ℕ → SettingsValue
end psk_key gpsk_key methods = record {
  size = 80;
  name = codes "ann";
  other = codes "srv";
  psk_key = psk_key;
  gpsk_key = gpsk_key;
  methods = methods;
  suites = 0 ∷ 0 ∷ [];
  expanded = 0;
  barred = 0;
}

abbrev key : ℕ → List ℕ
key size = replicate size 7

abbrev none : List ℕ
none = 0 ∷ 0 ∷ []

-- an end with both keys
abbrev both : SettingsValue
both = end (key 16) (key 32) none

-- a refusal of a peer, of a server, of a user
abbrev PeerIs : SettingsValue → Option Refusal → Type 0
PeerIs told is = peer_refusal told ≡ is

abbrev ServerIs : SettingsValue → Option Refusal → Type 0
ServerIs told is = server_refusal told ≡ is

abbrev UserIs : SettingsValue → Option Refusal → Type 0
UserIs told is = user_refusal told ≡ is

-- ---- methods and suites

by_keys : (kinds_of both ≡ 51 ∷ 47 ∷ []) × (kinds_of (end (key 16) [] none) ≡ 47 ∷ [])
    × (kinds_of (end [] (key 32) none) ≡ 51 ∷ []) × (kinds_of (end [] [] none) ≡ 51 ∷ 47 ∷ [])
unfolding kinds_of named_kinds keyed_kinds
by_keys = (refl, refl, refl, refl)

by_field : (kinds_of (end (key 16) (key 32) (47 ∷ 51 ∷ [])) ≡ 47 ∷ 51 ∷ [])
    × (kinds_of (end (key 16) (key 32) (47 ∷ 0 ∷ [])) ≡ 47 ∷ [])
    × (first_kind (end [] [] (47 ∷ 51 ∷ [])) ≡ 47) × (first_kind both ≡ 51)
unfolding kinds_of named_kinds keyed_kinds
by_field = (refl, refl, refl, refl)

of_suites : (suites_of both ≡ 1 ∷ 2 ∷ []) × (suites_of (record both { suites = 2 ∷ 1 ∷ [] })
    ≡ 2 ∷ 1 ∷ []) × (suites_of (record both { suites = 2 ∷ 0 ∷ [] }) ≡ 2 ∷ [])
unfolding suites_of
of_suites = (refl, refl, refl)

-- ---- a peer

taken : PeerIs both None × PeerIs (end [] (key 64) none) None
    × PeerIs (record both { other = [] }) None
    × PeerIs (record both { other = replicate 253 97 }) None
    × PeerIs (record both { name = replicate 253 97 }) None
unfolding peer_refusal kinds_of named_kinds keyed_kinds suites_of has_bad_methods
    has_bad_suites has_keys
taken = (refl, refl, refl, refl, refl)

bad_size : PeerIs (record both { size = 72 }) (Some refusal.BadSize)
    × PeerIs (record both { size = 81; name = [] }) (Some refusal.BadSize)
unfolding peer_refusal
bad_size = (refl, refl)

no_method : PeerIs (end (key 16) (key 32) (0 ∷ 51 ∷ [])) (Some refusal.NoMethod)
    × PeerIs (end (key 16) (key 32) (51 ∷ 51 ∷ [])) (Some refusal.NoMethod)
    × PeerIs (end (key 16) (key 32) (4 ∷ 0 ∷ [])) (Some refusal.NoMethod)
    × PeerIs (end (key 16) (key 32) (47 ∷ 254 ∷ [])) (Some refusal.NoMethod)
    × PeerIs (end [] [] none) (Some refusal.NoMethod)
unfolding peer_refusal kinds_of named_kinds keyed_kinds has_bad_methods
no_method = (refl, refl, refl, refl, refl)

no_suite : PeerIs (record both { suites = 0 ∷ 1 ∷ [] }) (Some refusal.NoSuite)
    × PeerIs (record both { suites = 2 ∷ 2 ∷ [] }) (Some refusal.NoSuite)
    × PeerIs (record both { suites = 3 ∷ 0 ∷ [] }) (Some refusal.NoSuite)
unfolding peer_refusal kinds_of named_kinds keyed_kinds suites_of has_bad_methods has_bad_suites
no_suite = (refl, refl, refl)

bad_name : PeerIs (record both { name = [] }) (Some refusal.BadName) × PeerIs (record
    both { name = replicate 254 97; other = replicate 254 97 }) (Some refusal.BadName)
unfolding peer_refusal kinds_of named_kinds keyed_kinds suites_of has_bad_methods has_bad_suites
bad_name = (refl, refl)

bad_other : PeerIs (record both { other = replicate 254 97 }) (Some refusal.BadOther)
unfolding peer_refusal kinds_of named_kinds keyed_kinds suites_of has_bad_methods has_bad_suites
bad_other = refl

-- a key of another size, also one for a method that isn't allowed; no key for a method that is
bad_key : PeerIs (end (key 17) (key 32) none) (Some refusal.BadKey)
    × PeerIs (end [] (key 31) none) (Some refusal.BadKey)
    × PeerIs (end [] (key 65) none) (Some refusal.BadKey)
    × PeerIs (end (key 15) (key 32) (51 ∷ 0 ∷ [])) (Some refusal.BadKey)
    × PeerIs (end [] (key 32) (51 ∷ 47 ∷ [])) (Some refusal.BadKey)
unfolding peer_refusal kinds_of named_kinds keyed_kinds suites_of has_bad_methods
    has_bad_suites has_keys
bad_key = (refl, refl, refl, refl, refl)

made : peer_setup_of (record both { suites = 2 ∷ 0 ∷ []; expanded = 1 }) (replicate 32 17)
    ≡ record plain_peer {
      name = codes "ann";
      methods = 51 ∷ 47 ∷ [];
      suites = 2 ∷ [];
      psk47 = Some (key 16);
      psk51 = Some (key 32);
      expanded = true;
    }
unfolding peer_setup_of kinds_of named_kinds keyed_kinds suites_of
made = refl

one_key : peer_setup_of (record (end (key 16) [] none) { other = [] }) (replicate 32 17)
    ≡ record plain_peer {
      name = codes "ann";
      accepts = Any;
      methods = 47 ∷ [];
      psk47 = Some (key 16);
    }
unfolding peer_setup_of kinds_of named_kinds keyed_kinds suites_of
one_key = refl

first_method : credential_of (end (key 16) (key 32) (47 ∷ 51 ∷ []))
    ≡ record { id_p = codes "ann"; accepts = One (codes "srv"); suites = 1 ∷ 2 ∷ []; psk = key 16 }
unfolding credential_of kinds_of named_kinds keyed_kinds suites_of
first_method = refl

-- ---- a server

-- with a user and both keys, with one of them, without a user
server_accepted_tags : ServerIs both None × ServerIs (end (key 16) [] (51 ∷ 47 ∷ [])) None
    × ServerIs (record (end [] [] none) { other = [] }) None
unfolding server_refusal kinds_of named_kinds keyed_kinds suites_of has_bad_methods has_bad_suites
    has_keys has_key_of_user
server_accepted_tags = (refl, refl, refl)

-- a key without a user, a user without a key, a key of another size
server_bad_key : ServerIs (record both { other = [] }) (Some refusal.BadKey)
    × ServerIs (end [] [] none) (Some refusal.BadKey)
    × ServerIs (end (key 16) (key 31) none) (Some refusal.BadKey)
unfolding server_refusal kinds_of named_kinds keyed_kinds suites_of has_bad_methods has_bad_suites
    has_keys has_key_of_user
server_bad_key = (refl, refl, refl)

server_bad_other : ServerIs (record both { other = replicate 254 97 }) (Some refusal.BadOther)
unfolding server_refusal kinds_of named_kinds keyed_kinds suites_of has_bad_methods has_bad_suites
server_bad_other = refl

server_no_method : ServerIs (end (key 16) [] (0 ∷ 47 ∷ [])) (Some refusal.NoMethod)
unfolding server_refusal kinds_of named_kinds keyed_kinds has_bad_methods
server_no_method = refl

retries : (stand_alone_refusal both 10 ≡ None)
    × (stand_alone_refusal both 11 ≡ Some refusal.ManyRetries)
    × (stand_alone_refusal (record both { size = 0 }) 11 ≡ Some refusal.BadSize)
unfolding stand_alone_refusal server_refusal kinds_of named_kinds keyed_kinds suites_of
    has_bad_methods has_bad_suites has_keys has_key_of_user
retries = (refl, refl, refl)

initial_server : server_setup_of (record both { barred = 1 }) (replicate 32 34)
    ≡ record plain_server {
      name = codes "ann";
      methods = 51 ∷ 47 ∷ [];
      users = record { name = codes "srv"; kind = 51; psk = key 32; barred = true }
          ∷ record { name = codes "srv"; kind = 47; psk = key 16; barred = true } ∷ [];
    }
unfolding server_setup_of kinds_of named_kinds keyed_kinds suites_of users_of
initial_server = refl

no_user : users_of (record both { other = [] }) ≡ []
unfolding users_of keyed_kinds
no_user = refl

one_user : users_of (end (key 16) [] (51 ∷ 47 ∷ []))
    ≡ record { name = codes "srv"; kind = 47; psk = key 16; barred = false } ∷ []
unfolding users_of keyed_kinds
one_user = refl

-- ---- a user

-- of all else in the settings the size alone counts
user_taken : UserIs (end (key 16) [] (9 ∷ 9 ∷ [])) None
    × UserIs (record both { name = []; suites = 0 ∷ 7 ∷ [] }) None
unfolding user_refusal keyed_kinds has_keys
user_taken = (refl, refl)

user_refused : UserIs (record both { size = 79 }) (Some refusal.BadSize)
    × UserIs (record both { other = [] }) (Some refusal.BadOther)
    × UserIs (record both { other = replicate 254 97 }) (Some refusal.BadOther)
    × UserIs (end [] [] none) (Some refusal.BadKey)
    × UserIs (end (key 32) [] none) (Some refusal.BadKey)
unfolding user_refusal keyed_kinds has_keys
user_refused = (refl, refl, refl, refl, refl)
