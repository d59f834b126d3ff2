-- Worked values of the definitions.
use Rattle.std.proofs.Common.{◌≡◌, ℕ, List, [], ◌∷◌, ◌++◌, length, Ok, Err, refl, arith}
use Rattle.std.proofs.lemmas.Bool.Decides.{nat_tests}
use Rattle.psk_messages.specs.Message.{psk1, psk2, psk4, spelled}
use Rattle.psk_messages.specs.Reading.{read_of}
use Rattle.eap_packet.specs.declared.cause.Cause.TheVariants.{PskShape}

-- sixteen octets of one value
sixteen : ℕ → List ℕ
sixteen b = b ∷ b ∷ b ∷ b ∷ b ∷ b ∷ b ∷ b ∷ b ∷ b ∷ b ∷ b ∷ b ∷ b ∷ b ∷ b ∷ []

-- no octet at all
nothing : read_of [] ≡ Err PskShape
unfolding read_of
nothing = refl

-- a first message of the server without a name
nameless : read_of (0 ∷ sixteen 34) ≡ Ok (psk1 (sixteen 34) [])
unfolding read_of sixteen
nameless = refl

-- the six low bits of Flags are free
low_bits : read_of (63 ∷ sixteen 34) ≡ Ok (psk1 (sixteen 34) [])
unfolding read_of sixteen
low_bits = refl

-- RAND_S comes before RAND_P, and both before MAC_P
second : read_of (64 ∷ sixteen 17 ++ (sixteen 34 ++ (sixteen 51 ++ (97 ∷ []))))
    ≡ Ok (psk2 (sixteen 17) (sixteen 34) (sixteen 51) (97 ∷ []))
unfolding read_of sixteen
second = refl

-- the most significant octet of the Nonce comes first
fourth : spelled (psk4 (sixteen 17) 258 (sixteen 34) 128)
    ≡ 192 ∷ sixteen 17 ++ (0 ∷ 0 ∷ 1 ∷ 2 ∷ sixteen 34 ++ (128 ∷ []))
unfolding spelled sixteen
fourth = refl

fourth_read : read_of (192 ∷ sixteen 17 ++ (0 ∷ 0 ∷ 1 ∷ 2 ∷ sixteen 34 ++ (128 ∷ [])))
    ≡ Ok (psk4 (sixteen 17) 258 (sixteen 34) 128)
unfolding read_of sixteen
fourth_read = refl

-- a PCHANNEL of 22 octets
extended : read_of (128
    ∷ sixteen 17 ++ (sixteen 51 ++ (0 ∷ 0 ∷ 0 ∷ 0 ∷ sixteen 34 ++ (160 ∷ 0 ∷ [])))) ≡ Err PskShape
unfolding read_of sixteen
extended = refl

-- an identity of 254 octets
long_name : (fields : List ℕ) → length fields ≡ 270 → read_of (0 ∷ fields) ≡ Err PskShape
unfolding read_of
long_name fields size = grind (arith, nat_tests)
