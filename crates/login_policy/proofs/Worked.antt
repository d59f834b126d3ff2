-- Worked values of the definitions of Expanded Naks (RFC 3748 section 5.3.2).
use Rattle.std.proofs.Common.{◌≡◌, [], ◌∷◌, refl}
use Rattle.login_policy.specs.Policy.{nak_of}
use Rattle.login_policy.specs.Expanded.{nak_entries, kinds_in, expanded_kinds}

-- a peer that allows Type 47 alone, both methods, and none
one_method : nak_entries (nak_of (47 ∷ [])) ≡ 254 ∷ 0 ∷ 0 ∷ 0 ∷ 0 ∷ 0 ∷ 0 ∷ 47 ∷ []
unfolding nak_entries nak_of
one_method = refl

both_methods : nak_entries (nak_of (51 ∷ 47 ∷ []))
    ≡ 254 ∷ 0 ∷ 0 ∷ 0 ∷ 0 ∷ 0 ∷ 0 ∷ 51 ∷ 254 ∷ 0 ∷ 0 ∷ 0 ∷ 0 ∷ 0 ∷ 0 ∷ 47 ∷ []
unfolding nak_entries nak_of
both_methods = refl

no_method : nak_entries (nak_of []) ≡ 254 ∷ 0 ∷ 0 ∷ 0 ∷ 0 ∷ 0 ∷ 0 ∷ 0 ∷ []
unfolding nak_entries nak_of
no_method = refl

-- the Type of an entry, each once; the entry of Type 0 names none
one_desired : expanded_kinds (254 ∷ 0 ∷ 0 ∷ 0 ∷ 0 ∷ 0 ∷ 0 ∷ 47 ∷ []) ≡ 47 ∷ []
unfolding kinds_in
one_desired = refl

desired_twice : expanded_kinds (254 ∷ 0 ∷ 0 ∷ 0 ∷ 0 ∷ 0 ∷ 0 ∷ 51 ∷ 254 ∷ 0 ∷ 0 ∷ 0 ∷ 0 ∷ 0 ∷ 0 ∷ 47
    ∷ 254 ∷ 0 ∷ 0 ∷ 0 ∷ 0 ∷ 0 ∷ 0 ∷ 51 ∷ [])
    ≡ 51 ∷ 47 ∷ []
unfolding kinds_in
desired_twice = refl

none_desired : expanded_kinds (254 ∷ 0 ∷ 0 ∷ 0 ∷ 0 ∷ 0 ∷ 0 ∷ 0 ∷ []) ≡ []
unfolding kinds_in
none_desired = refl

-- an entry of vendor 1, one of a Vendor-Type over 255 and one of another Type name none
other_vendor : expanded_kinds (254 ∷ 0 ∷ 0 ∷ 1 ∷ 0 ∷ 0 ∷ 0 ∷ 47 ∷ 254 ∷ 0 ∷ 0 ∷ 0 ∷ 0 ∷ 0 ∷ 0 ∷ 51
    ∷ []) ≡ 51 ∷ []
unfolding kinds_in
other_vendor = refl

large_type : expanded_kinds (254 ∷ 0 ∷ 0 ∷ 0 ∷ 0 ∷ 0 ∷ 1 ∷ 47 ∷ []) ≡ []
unfolding kinds_in
large_type = refl

other_method : expanded_kinds (254 ∷ 0 ∷ 0 ∷ 0 ∷ 0 ∷ 0 ∷ 0 ∷ 13 ∷ []) ≡ []
unfolding kinds_in
other_method = refl
