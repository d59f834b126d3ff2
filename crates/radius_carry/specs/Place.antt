-- The place of a packet's tag among its attributes, and the pieces that its authenticators are fed.
use Rattle.std.specs.Prelude.{ℕ, ◌+◌, List, [], ◌∷◌, ◌++◌, length, replicate, ◌==◌, if◌then◌else◌}
use Rattle.radius_carry.specs.Packet.{Attribute}

-- the octets of the attributes before the value of the first Message-Authenticator
unfoldable pub tag_place : List Attribute → ℕ
tag_place [] = 0
tag_place ((kind, value) ∷ rest) = if kind == 80 then 2 else 2 + length value + tag_place rest

-- the pieces under a tag, in their order
abbrev pub round_zeros : List ℕ → List ℕ → List ℕ → List ℕ → List ℕ
round_zeros front authenticator before after =
    (((([] ++ front) ++ authenticator) ++ before) ++ replicate 16 0) ++ after

-- the pieces under a Response Authenticator, in their order
abbrev pub before_secret : List ℕ → List ℕ → List ℕ → List ℕ → List ℕ
before_secret front authenticator attributes secret =
    ((([] ++ front) ++ authenticator) ++ attributes) ++ secret
