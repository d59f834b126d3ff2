-- How nonces are searched for in a delivery, place by place.
use Rattle.std.specs.Prelude.{◌≡◌, ℕ, List, length, take, get_or, slice_index, Bool, true, false}
use Rattle.std.specs.Prelude.{◌||◌}
use Rattle.std.specs.Str.{bytes_eq}
use Rattle.eap_world.specs.Conversations.{front}
use Rattle.eap_world.specs.declared.conversations.Waiting.{Waiting}

-- octets begin with a part
abbrev pub starts_with : List ℕ → List ℕ → Bool
starts_with part octets = bytes_eq (take (length part) octets) part

-- these octets begin with the prefix of a nonce
abbrev pub receives_at : List ℕ → Waiting → Waiting
receives_at octets
    one = record { nonce = one.nonce; heard = one.heard || starts_with (front one.nonce) octets }

-- whether an octet is one of the first octets of nonces
abbrev pub is_first : List Bool → ℕ → Bool
is_first firsts octet = get_or firsts octet false

-- a nonce has 32 octets, the first of which is marked
pub record IsMarked (firsts : List Bool) (one : Waiting) : Type 0 where
  pub size : length one.nonce ≡ 32
  pub first : is_first firsts (slice_index one.nonce 0) ≡ true
