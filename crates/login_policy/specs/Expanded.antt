-- The lists of Expanded Naks (RFC 3748 section 5.3.2): what a peer desires, and what a server reads
-- of it.
use Rattle.std.specs.Prelude.{ℕ, List, [], ◌∷◌, ◌++◌, take, drop, slice_index, flat_map, Bool, ◌&&◌}
use Rattle.std.specs.Prelude.{not, if◌then◌else◌}
use Rattle.std.specs.Str.{bytes_eq}
use Rattle.octet_lists.specs.Among.{is_kind, is_among, expanded_kind, ietf}

-- the entry of a Type of the IETF: 254, Vendor-Id 0 and the Type in the four octets of the
-- Vendor-Type
abbrev pub entry_of : ℕ → List ℕ
entry_of kind = expanded_kind ∷ ietf ++ kind ∷ []

-- the list of an Expanded Nak, from that of a Nak: an entry for each Type
unfoldable pub nak_entries : List ℕ → List ℕ
nak_entries kinds = flat_map entry_of kinds

-- the Type of an entry of Vendor-Id 0 and a Vendor-Type under 256
abbrev pub type_in : List ℕ → ℕ
type_in entry = slice_index entry 7

-- whether an entry is of Vendor-Id 0 and names a Type of the two methods that isn't among these
abbrev pub names_new : List ℕ → List ℕ → Bool
names_new seen entry =
    bytes_eq (take 6
    (drop 1 entry)) ietf && (is_kind (type_in entry) && not (is_among seen (type_in entry)))

-- the Types of the two methods in entries of Vendor-Id 0, but for those that were seen
-- before; each once, where it occurs first
unfoldable pub kinds_in : List ℕ → List ℕ → List ℕ
kinds_in seen (a ∷ b ∷ c ∷ d ∷ e ∷ f ∷ g ∷ kind ∷ rest) =
    if names_new seen (a ∷ b ∷ c ∷ d ∷ e ∷ f ∷ g ∷ kind ∷ [])
    then kind ∷ kinds_in (seen ++ kind ∷ []) rest
    else kinds_in seen rest
kinds_in seen octets = []

abbrev pub expanded_kinds : List ℕ → List ℕ
expanded_kinds list = kinds_in [] list
