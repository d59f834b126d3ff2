-- The Session-Id of a login (RFC 5247 section 1.4), on whole lists of octets.
use Rattle.std.specs.Prelude.{ℕ, List, ◌∷◌, ◌++◌, codes}
use Rattle.octet_lists.specs.Among.{gpsk_kind, psk_kind}
use Rattle.octet_lists.specs.Suite.{suite_octets}
use Rattle.octet_lists.specs.declared.suite.Suite.{Suite}
use Rattle.login_keys.specs.Gpsk.{gkdf}

-- EAP-PSK's: its Type, RAND_P and RAND_S
abbrev pub psk_id : List ℕ → List ℕ → List ℕ
psk_id rand_p rand_s = psk_kind ∷ (rand_p ++ rand_s)

-- "Method ID" || EAP_Method_Type || CSuite_Sel || inputString (RFC 5433 section 4)
abbrev pub method_id_input : Suite → List ℕ → List ℕ
method_id_input suite input = codes "Method ID" ++ (gpsk_kind ∷ (suite_octets suite ++ input))

-- EAP-GPSK's: its Type and Method-ID, 16 octets that the KDF derives under a key
abbrev pub gpsk_id : Suite → List ℕ → List ℕ → List ℕ
gpsk_id suite key input = gpsk_kind ∷ gkdf suite 16 key (method_id_input suite input)
