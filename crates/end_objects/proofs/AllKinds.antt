-- What holds of the methods that there are, one by one.
use Rattle.std.proofs.Common.{◌≡◌, ℕ, ◌≤◌, List, [], ◌∷◌, length, Bool, true, false, refl, sym, ◌∙◌}
use Rattle.std.proofs.Common.{arith}
use Rattle.std.specs.Prelude.{IsTrue, ◌==◌, if◌then◌else◌, IfSome}
use Rattle.std.specs.List.{list_all}
use Rattle.std.proofs.lemmas.Bool.{and_parts}
use Rattle.std.proofs.lemmas.List.Folds.{list_all-append}
use Rattle.octet_lists.specs.Among.{psk_kind, gpsk_kind}
use Rattle.login_setup.specs.Setup.{is_valid_for}
use Rattle.end_objects.specs.Settings.{SettingsValue, kind_if, keyed_kinds, key_for, key_or_none}

-- ---- where each key that there is fits its method, none is longer than a key may be

-- a key fits its method, if it has octets
abbrev pub FitsIfAny : ℕ → List ℕ → Type 0
FitsIfAny kind key = IfSome (key_or_none key) (λ octets. IsTrue (is_valid_for kind octets))

keyed_fits : (fits : ℕ → Bool) (kind : ℕ) (key : List ℕ) → fits kind ≡ is_valid_for kind key
    → list_all fits (kind_if key kind) ≡ true → FitsIfAny kind key
keyed_fits fits kind [] is h = tt
keyed_fits fits kind (octet ∷ rest) is h = sym is ∙ (and_parts (fits kind) true h).0

pub both_fit : (told : SettingsValue)
    → list_all (λ kind. is_valid_for kind (key_for told kind)) (keyed_kinds told) ≡ true
    → FitsIfAny psk_kind told.psk_key × FitsIfAny gpsk_kind told.gpsk_key
unfolding keyed_kinds
both_fit told fit =
    let gpsk = kind_if told.gpsk_key gpsk_kind in let psk = kind_if told.psk_key psk_kind in
    let p : ℕ → Bool = λ kind. is_valid_for kind (key_for told kind) in
    let each =
    and_parts (list_all p gpsk) (list_all p psk) (sym (list_all-append p gpsk psk) ∙ fit) in (
      keyed_fits p psk_kind told.psk_key refl each.1,
      keyed_fits p gpsk_kind told.gpsk_key refl each.0,
    )

bounded_size : (kind : ℕ) (key : List ℕ) → is_valid_for kind key ≡ true → length key ≤ 64
bounded_size kind key h = grind arith

size_if_any : (kind : ℕ) (key : List ℕ) → FitsIfAny kind key → length key ≤ 64
size_if_any kind [] fits = omega arith
size_if_any kind (octet ∷ rest) fits = bounded_size kind (octet ∷ rest) fits

size_of_either : (is_psk : Bool) (psk gpsk : List ℕ) → length psk ≤ 64 → length gpsk ≤ 64
    → length (if is_psk then psk else gpsk) ≤ 64
size_of_either true psk gpsk short wide = short
size_of_either false psk gpsk short wide = wide

pub key_size : (told : SettingsValue) (kind : ℕ)
    → list_all (λ kind. is_valid_for kind (key_for told kind)) (keyed_kinds told) ≡ true
    → length (key_for told kind) ≤ 64
key_size told kind fit =
    let both = both_fit told fit in
    size_of_either (kind == psk_kind) told.psk_key told.gpsk_key
    (size_if_any psk_kind told.psk_key both.0) (size_if_any gpsk_kind told.gpsk_key both.1)
