-- The table of requests for ciphers, MACs and keys, and what each asks for.
use Rattle.std.specs.Prelude.{ℕ, ◌≤◌, List, Bool, [], ◌∷◌, length, if◌then◌else◌, codes, Option}
use Rattle.std.specs.Prelude.{Some, None, find, unwrap_or, Result, Ok, Err}
use Rattle.std.specs.Str.{bytes_eq}
use Rattle.octet_lists.specs.declared.suite.Suite.{Suite}
use Rattle.octet_lists.specs.declared.suite.Suite.TheVariants as suite
use Rattle.octet_lists.specs.Sizes.{max_name}
use Rattle.text_tables.specs.Words.{words, is_passed_over}
use Rattle.text_tables.specs.Fields.{◌>>=◌, word_in, octets_of}
use Rattle.text_tables.specs.Rows.{Row, row, faults, unless, keyword_in, line_has}
use Rattle.text_tables.specs.declared.fault.LineFault.{LineFault}
use Rattle.text_tables.specs.declared.rows.Field.TheVariants as field
use Rattle.request_text.specs.declared.key_line.Request.{Request}
use Rattle.request_text.specs.declared.key_line.Request.TheVariants as request
use Rattle.request_text.specs.declared.key_line.KeyLine.{KeyLine}
use Rattle.request_text.specs.declared.key_line.KeyLine.TheVariants as key

abbrev pub row_of : Request → Row
row_of request.Aes = row (codes "aes") 2 (field.Hex 16 16 ∷ field.Hex 16 16 ∷ [])
row_of request.Cmac = row (codes "cmac") 2 (field.Hex 16 16 ∷ field.Hex 0 2000 ∷ [])
row_of request.Hmac = row (codes "hmac") 2 (field.Hex 0 2000 ∷ field.Hex 0 2000 ∷ [])
row_of request.Eax = row (codes "eax") 4
    (field.Hex 16 16 ∷ field.Hex 0 2000 ∷ field.Hex 0 2000 ∷ field.Hex 0 2000 ∷ [])
row_of request.Gpsk = row (codes "gpsk") 6 (field.Suite ∷ field.Hex 32 64 ∷ field.Hex 32 32
    ∷ field.Hex 0 max_name ∷ field.Hex 32 32 ∷ field.Hex 0 max_name ∷ [])
row_of request.Psk = row (codes "psk") 2 (field.Hex 16 16 ∷ field.Hex 16 16 ∷ [])
row_of request.Name = row (codes "name") 1 (field.Hex 0 2000 ∷ [])

abbrev pub requests : List Request
requests = request.Aes ∷ request.Cmac ∷ request.Hmac ∷ request.Eax ∷ request.Gpsk ∷ request.Psk
    ∷ request.Name ∷ []

-- the ciphersuite of EAP-GPSK whose specifier a word is (RFC 5433, section 6)
abbrev pub ciphersuite_of : List ℕ → Suite
ciphersuite_of word = if bytes_eq word (codes "1") then suite.Cmac else suite.Hmac

-- the octets that a word spells in hex
abbrev octets_in : List (List ℕ) → ℕ → List ℕ
octets_in ws place = octets_of (word_in ws place)

-- what a request asks for with the words of its line
unfoldable pub asked_of : Request → List (List ℕ) → KeyLine
asked_of request.Aes ws = key.Aes (octets_in ws 1) (octets_in ws 2)
asked_of request.Cmac ws = key.Cmac (octets_in ws 1) (octets_in ws 2)
asked_of request.Hmac ws = key.Hmac (octets_in ws 1) (octets_in ws 2)
asked_of request.Eax ws =
    key.Eax (octets_in ws 1) (octets_in ws 2) (octets_in ws 3) (octets_in ws 4)
asked_of request.Gpsk ws =
    key.Gpsk (ciphersuite_of (word_in ws 1)) (octets_in ws 2) (octets_in ws 3) (octets_in ws 4)
    (octets_in ws 5) (octets_in ws 6)
asked_of request.Psk ws = key.Psk (octets_in ws 1) (octets_in ws 2)
asked_of request.Name ws = key.Name (octets_in ws 1)

-- the line has this fault
abbrev pub has_fault : List ℕ → LineFault → Bool
has_fault line e = line_has row_of requests line e

-- what a line that isn't ignored asks for, or its first fault
unfoldable pub asked_by : List ℕ → Result KeyLine LineFault
asked_by line =
    unless (find (has_fault line) faults)
    (asked_of (unwrap_or (keyword_in row_of requests (words line)) request.Name) (words line))

-- a line is one request; an empty line and one that begins with # are ignored
unfoldable pub key_line : List ℕ → Result (Option KeyLine) LineFault
key_line line = if is_passed_over line then Ok None else asked_by line >>= λ asked. Ok (Some asked)

-- what a line asks for, if the request is read into a place, and the result of the line is returned
-- separately
abbrev pub asked_into : Result (Unit {0}) LineFault → KeyLine → Result KeyLine LineFault
asked_into (Ok done) asked = Ok asked
asked_into (Err fault) asked = Err fault

abbrev pub read_into : Result Bool LineFault → KeyLine → Result (Option KeyLine) LineFault
read_into (Ok is_request) asked = Ok (if is_request then Some asked else None)
read_into (Err fault) asked = Err fault

-- what a request has beyond the types of its fields: the sizes of the key and of the two names for
-- EAP-GPSK
pub record HasGpskSizes (psk idp ids : List ℕ) : Type 0 where
  pub psk_low : 32 ≤ length psk
  pub psk_high : length psk ≤ 64
  pub idp_high : length idp ≤ max_name
  pub ids_high : length ids ≤ max_name

abbrev pub HasSizes : KeyLine → Type 0
HasSizes (key.Gpsk s psk randp idp rands ids) = HasGpskSizes psk idp ids
HasSizes other = Unit {0}
