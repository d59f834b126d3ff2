-- What is known of settings that aren't refused.
use Rattle.std.proofs.Common.{◌≡◌, ℕ, ◌<◌, ◌≤◌, List, [], ◌∷◌, ◌++◌, length, map, Bool, true, false}
use Rattle.std.proofs.Common.{None, IsTrue, slice_index_or, refl, ◌∙◌, arith, eq-eqb}
use Rattle.std.specs.Prelude.{◌&&◌, ◌||◌, not, ◌==◌, if◌then◌else◌, slice_index, All}
use Rattle.std.specs.List.{list_all}
use Rattle.std.proofs.lemmas.Bool.{and_parts, or_left, or_parts}
use Rattle.std.proofs.lemmas.List.Elements.{All-nil}
use Rattle.std.proofs.lemmas.List.Folds.{list_all-map}
use Rattle.std.proofs.lemmas.List.Sums.{AllPass-from_list_all, list_all-from_AllPass}
use Rattle.octet_lists.specs.Among.{psk_kind, gpsk_kind, is_kind, is_among, are_distinct, is_filled}
use Rattle.octet_lists.specs.Sizes.{max_name}
use Rattle.login_setup.specs.Setup.{are_kinds, are_suites, has_key, has_valid_key, is_method_kind}
use Rattle.login_setup.specs.Setup.{is_valid_for, HasKeys, IsSoundPeer, IsSoundServer}
use Rattle.login_setup.specs.declared.setup.PeerSetup.{PeerSetup}
use Rattle.login_setup.specs.declared.users.User.{User}
use Rattle.end_objects.specs.Settings.{SettingsValue, or_else, kind_if, keyed_kinds, named_kinds}
use Rattle.end_objects.specs.Settings.{all_kinds, kinds_of, first_kind, suites_of, key_for}
use Rattle.end_objects.specs.Settings.{key_or_none, peer_setup_of, user_with, users_of}
use Rattle.end_objects.specs.Settings.{server_setup_of}
use Rattle.end_objects.specs.Refusals.{refuse_if, has_bad_size, has_gap, has_bad_methods}
use Rattle.end_objects.specs.Refusals.{has_bad_suites, is_name, has_long_other, has_keys}
use Rattle.end_objects.specs.Refusals.{has_key_of_user, end_refusal, peer_refusal, server_refusal}
use Rattle.end_objects.specs.Refusals.{user_refusal, IsSoundOther}
use Rattle.eap_method.specs.Peer.{have_each}
use Rattle.eap_method.proofs.Amongs.{each_one}
use Rattle.end_objects.specs.declared.refusals.Refusal.{Refusal}
use Rattle.end_objects.specs.declared.refusals.Refusal.TheVariants as refusal
use Rattle.end_objects.proofs.AllKinds.{both_fit, key_size}
use Rattle.login_setup.proofs.Sound.{kinds_are_of_methods}

-- ---- tests

is_so : (b : Bool) → not b ≡ false → b ≡ true
is_so true h = refl
is_so false h = absurd (cc h)

second_is_so : (a b : Bool) → (a || not b) ≡ false → b ≡ true
second_is_so a b h = is_so b (or_parts a (not b) h).1

-- ---- no reason applies where none is given

six_pass : (a b c d e f : Bool) (r s t u v w : Refusal)
    → refuse_if a r (refuse_if b s
    (refuse_if c t (refuse_if d u (refuse_if e v (refuse_if f w None))))) ≡ None
    → (b ≡ false) × (c ≡ false) × (d ≡ false) × (e ≡ false) × (f ≡ false)
six_pass true b c d e f r s t u v w h = absurd (cc h)
six_pass false true c d e f r s t u v w h = absurd (cc h)
six_pass false false true d e f r s t u v w h = absurd (cc h)
six_pass false false false true e f r s t u v w h = absurd (cc h)
six_pass false false false false true f r s t u v w h = absurd (cc h)
six_pass false false false false false true r s t u v w h = absurd (cc h)
six_pass false false false false false false r s t u v w h = (refl, refl, refl, refl, refl)

three_pass : (a b c : Bool) (r s t : Refusal) → refuse_if a r (refuse_if b s (refuse_if c t None))
    ≡ None → (b ≡ false) × (c ≡ false)
three_pass true b c r s t h = absurd (cc h)
three_pass false true c r s t h = absurd (cc h)
three_pass false false true r s t h = absurd (cc h)
three_pass false false false r s t h = (refl, refl)

-- the tests that an end's settings have passed, with a key for each of the wanted methods
record HasPassed (told : SettingsValue) (wanted : List ℕ) : Type 0 where
  kinds : are_kinds (kinds_of told) ≡ true
  suites : are_suites (suites_of told) ≡ true
  name : is_name told.name ≡ true
  other : has_long_other told ≡ false
  keys : has_keys wanted told ≡ true

kinds_are_known : (told : SettingsValue) → has_bad_methods told ≡ false
    → are_kinds (kinds_of told) ≡ true
unfolding has_bad_methods
kinds_are_known told h = second_is_so (has_gap told.methods) (are_kinds (kinds_of told)) h

suites_are_known : (told : SettingsValue) → has_bad_suites told ≡ false
    → are_suites (suites_of told) ≡ true
unfolding has_bad_suites
suites_are_known told h = second_is_so (has_gap told.suites) (are_suites (suites_of told)) h

end_passes : (wanted : List ℕ) (told : SettingsValue) (bad_methods has : Bool)
    → (bad_methods ≡ false → has_bad_methods told ≡ false)
    → (has ≡ true → has_keys wanted told ≡ true)
    → end_refusal told bad_methods (not has) ≡ None → HasPassed told wanted
end_passes wanted told bad_methods has methods keys none =
    let p = six_pass (has_bad_size told) bad_methods (has_bad_suites told)
    (not (is_name told.name)) (has_long_other told) (not has)
    refusal.BadSize refusal.NoMethod refusal.NoSuite refusal.BadName refusal.BadOther
    refusal.BadKey none in record {
      kinds = kinds_are_known told (methods p.0);
      suites = suites_are_known told p.1;
      name = is_so (is_name told.name) p.2;
      other = p.3;
      keys = keys (is_so has p.4);
    }

peer_passes : (told : SettingsValue) → peer_refusal told ≡ None → HasPassed told (kinds_of told)
unfolding peer_refusal
peer_passes told none =
    let unnamed = not (is_filled (named_kinds told)) in
    end_passes (kinds_of told) told (has_bad_methods told || unnamed)
    (has_keys (kinds_of told) told) (λ h. (or_parts (has_bad_methods told) unnamed h).0)
    (λ h. h) none

server_passes : (told : SettingsValue) → server_refusal told ≡ None → HasPassed told []
unfolding server_refusal
server_passes told none =
    end_passes [] told (has_bad_methods told) (has_keys [] told && has_key_of_user told)
    (λ h. h) (λ h. (and_parts (has_keys [] told) (has_key_of_user told) h).0) none

-- ---- sizes

name_bounded : (name : List ℕ) → is_name name ≡ true → length name ≤ max_name
name_bounded [] h = omega arith
name_bounded (octet ∷ rest) h = grind arith

other_fits : (told : SettingsValue) → has_long_other told ≡ false → length told.other ≤ max_name
other_fits told h = grind arith

-- whether the key for a method fits it
abbrev key_is_valid : SettingsValue → ℕ → Bool
key_is_valid told kind = is_valid_for kind (key_for told kind)

-- each key that there is fits, and there is one for each wanted method
keys_are_valid : (wanted : List ℕ) (told : SettingsValue) → has_keys wanted told ≡ true
    → list_all (key_is_valid told) (keyed_kinds told) ≡ true
unfolding has_keys
keys_are_valid wanted told h = (and_parts (list_all (key_is_valid told) (keyed_kinds told))
    (have_each (keyed_kinds told) wanted) h).0

are_keyed : (wanted : List ℕ) (told : SettingsValue) → has_keys wanted told ≡ true
    → have_each (keyed_kinds told) wanted ≡ true
unfolding has_keys
are_keyed wanted told h = (and_parts (list_all (key_is_valid told) (keyed_kinds told))
    (have_each (keyed_kinds told) wanted) h).1

pub peer_name : (told : SettingsValue) → peer_refusal told ≡ None → length told.name ≤ max_name
peer_name told none = name_bounded told.name (peer_passes told none).name

pub peer_other : (told : SettingsValue) → peer_refusal told ≡ None → length told.other ≤ max_name
peer_other told none = other_fits told (peer_passes told none).other

pub peer_key : (told : SettingsValue) → peer_refusal told ≡ None → (kind : ℕ)
    → length (key_for told kind) ≤ 64
peer_key told none kind =
    key_size told kind (keys_are_valid (kinds_of told) told (peer_passes told none).keys)

pub server_name : (told : SettingsValue) → server_refusal told ≡ None → length told.name ≤ max_name
server_name told none = name_bounded told.name (server_passes told none).name

-- ---- methods

pub peer_kinds : (told : SettingsValue) → peer_refusal told ≡ None
    → are_kinds (kinds_of told) ≡ true
peer_kinds told none = (peer_passes told none).kinds

pub server_kinds : (told : SettingsValue) → server_refusal told ≡ None
    → are_kinds (kinds_of told) ≡ true
server_kinds told none = (server_passes told none).kinds

-- there is a method
some_or_else : (numbers others : List ℕ) → 0 < length others → 0 < length (or_else numbers others)
some_or_else [] others some = some
some_or_else (number ∷ more) others some = omega arith

pub kinds_are_some : (told : SettingsValue) → 0 < length (kinds_of told)
unfolding kinds_of
kinds_are_some told = some_or_else (named_kinds told) all_kinds (omega arith)

-- the first of the methods is one of the two
first_is_known : (kinds : List ℕ) → 0 < length kinds → are_kinds kinds ≡ true
    → is_kind (slice_index kinds 0) ≡ true
first_is_known [] some h = absurd (omega (arith, some))
first_is_known (kind ∷ rest) some h =
    (and_parts (is_kind kind) (list_all is_kind rest)
    (and_parts (list_all is_kind (kind ∷ rest)) (are_distinct (kind ∷ rest)) h).0).0

pub first_is_kind : (told : SettingsValue) → are_kinds (kinds_of told) ≡ true
    → is_kind (first_kind told) ≡ true
first_is_kind told h = first_is_known (kinds_of told) (kinds_are_some told) h

-- ---- a peer's keys

pub peer_is_sound : (told : SettingsValue) (nonce : List ℕ) → peer_refusal told ≡ None
    → IsSoundPeer (peer_setup_of told nonce)
unfolding peer_setup_of
peer_is_sound told nonce none =
    let p = peer_passes told none in
    let both = both_fit told (keys_are_valid (kinds_of told) told p.keys) in record {
      methods = kinds_are_of_methods (kinds_of told) p.kinds;
      suites = p.suites;
      psk47 = both.0;
      psk51 = both.1;
    }

-- a method that the settings name has a key
kind_is_keyed : (told : SettingsValue) (kind : ℕ) → peer_refusal told ≡ None
    → is_among (kinds_of told) kind ≡ true → is_among (keyed_kinds told) kind ≡ true
kind_is_keyed told kind none is = each_one (is_among (keyed_kinds told)) (kinds_of told) kind
    (are_keyed (kinds_of told) told (peer_passes told none).keys) is

-- there is a key for each method that has octets of one
keyed_have : (setup : PeerSetup) (psk gpsk : List ℕ)
    → list_all (has_key (record setup {
      psk47 = key_or_none psk;
      psk51 = key_or_none gpsk;
    })) (kind_if gpsk gpsk_kind ++ kind_if psk psk_kind) ≡ true
keyed_have setup [] [] = refl
keyed_have setup [] (octet ∷ rest) = refl
keyed_have setup (octet ∷ rest) [] = refl
keyed_have setup (octet ∷ rest) (other ∷ more) = refl

pub peer_has_keys : (told : SettingsValue) (nonce : List ℕ) → peer_refusal told ≡ None
    → HasKeys (peer_setup_of told nonce)
unfolding peer_setup_of keyed_kinds
peer_has_keys told nonce none =
    let has : ℕ → Bool = has_key (peer_setup_of told nonce) in
    let keyed = are_keyed (kinds_of told) told (peer_passes told none).keys in
    list_all-from_AllPass has (kinds_of told) (λ k d below.
    each_one has (keyed_kinds told) (slice_index_or (kinds_of told) k d)
    (keyed_have (peer_setup_of told nonce) told.psk_key told.gpsk_key)
    (AllPass-from_list_all (is_among (keyed_kinds told)) (kinds_of told) keyed k d below))

-- ---- the key for the first method of a peer

first_is_among : (kinds : List ℕ) → 0 < length kinds → is_among kinds (slice_index kinds 0) ≡ true
first_is_among [] some = absurd (omega (arith, some))
first_is_among (kind ∷ rest) some =
    or_left (kind == kind) (is_among rest kind) (eq-eqb kind kind refl)

pub first_key_is_valid : (told : SettingsValue) → peer_refusal told ≡ None
    → is_valid_for (first_kind told) (key_for told (first_kind told)) ≡ true
first_key_is_valid told none =
    let is = kind_is_keyed told (first_kind told) none
    (first_is_among (kinds_of told) (kinds_are_some told)) in
    each_one (key_is_valid told) (keyed_kinds told) (first_kind told)
    (keys_are_valid (kinds_of told) told (peer_passes told none).keys) is

-- ---- a server's user

pub server_other : (told : SettingsValue) → server_refusal told ≡ None → IsSoundOther told
server_other told none =
    let p = server_passes told none in record { name = other_fits told p.other; keys = p.keys }

pub user_other : (told : SettingsValue) → user_refusal told ≡ None → IsSoundOther told
unfolding user_refusal
user_other told none =
    let p = three_pass (has_bad_size told) (not (is_name told.other))
    (not (has_keys [] told && is_filled (keyed_kinds told)))
    refusal.BadSize refusal.BadOther refusal.BadKey none in record {
      name = name_bounded told.other (is_so (is_name told.other) p.0);
      keys = (and_parts (has_keys [] told) (is_filled (keyed_kinds told))
          (is_so (has_keys [] told && is_filled (keyed_kinds told)) p.1)).0;
    }

-- the user of a method for which there is a key
pub user_key_is_valid : (told : SettingsValue) (kind : ℕ) → IsSoundOther told
    → is_among (keyed_kinds told) kind ≡ true
    → is_valid_for kind (key_for told kind) ≡ true
user_key_is_valid told kind other is =
    each_one (key_is_valid told) (keyed_kinds told) kind (keys_are_valid [] told other.keys) is

pub user_key_size : (told : SettingsValue) (kind : ℕ) → IsSoundOther told
    → is_among (keyed_kinds told) kind ≡ true
    → length (key_for told kind) ≤ 64
user_key_size told kind other is = key_size told kind (keys_are_valid [] told other.keys)

-- a method for which there is a key is one of the two
known_if : (gpsk psk : List ℕ) → list_all is_kind (kind_if gpsk gpsk_kind ++ kind_if psk psk_kind)
    ≡ true
known_if [] [] = refl
known_if [] (octet ∷ rest) = refl
known_if (octet ∷ rest) [] = refl
known_if (octet ∷ rest) (other ∷ more) = refl

keyed_are_known : (told : SettingsValue) → list_all is_kind (keyed_kinds told) ≡ true
unfolding keyed_kinds
keyed_are_known told = known_if told.gpsk_key told.psk_key

pub user_is_known : (told : SettingsValue) (kind : ℕ) → is_among (keyed_kinds told) kind ≡ true
    → is_kind kind ≡ true
user_is_known told kind is = each_one is_kind (keyed_kinds told) kind (keyed_are_known told) is

-- a test that the user of each such method passes is passed by the users
pass_if : (passes : User → Bool) (there : Bool) (users : List User) → list_all passes users ≡ true
    → list_all passes (if there then users else []) ≡ true
pass_if passes true users h = h
pass_if passes false users h = refl

users_pass : (passes : User → Bool) (told : SettingsValue)
    → list_all (λ kind. passes (user_with told kind)) (keyed_kinds told) ≡ true
    → list_all passes (users_of told) ≡ true
unfolding users_of
users_pass passes told each =
    pass_if passes (is_filled told.other) (map (user_with told) (keyed_kinds told))
    (list_all-map passes (user_with told) (keyed_kinds told) ∙ each)

pub users_have_keys : (told : SettingsValue) → IsSoundOther told
    → All (λ user. IsTrue (has_valid_key user)) (users_of told)
users_have_keys told other =
    AllPass-from_list_all has_valid_key (users_of told)
    (users_pass has_valid_key told (keys_are_valid [] told other.keys))

pub users_have_kinds : (told : SettingsValue)
    → All (λ user. IsTrue (is_kind user.kind)) (users_of told)
users_have_kinds told = let is_known : User → Bool = λ user. is_kind user.kind in
    AllPass-from_list_all is_known (users_of told)
    (users_pass is_known told (keyed_are_known told))

pub alone_is_sound : (told : SettingsValue) (nonce : List ℕ) → server_refusal told ≡ None
    → IsSoundServer (record (server_setup_of told nonce) { users = [] })
unfolding server_setup_of
alone_is_sound told nonce none = let p = server_passes told none in record {
  methods = kinds_are_of_methods (kinds_of told) p.kinds;
  suites = p.suites;
  kinds = All-nil (λ (user : User). IsTrue (is_method_kind user.kind));
  keys = All-nil (λ (user : User). IsTrue (has_valid_key user));
}
