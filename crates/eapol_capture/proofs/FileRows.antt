-- What some files and some frames are.
use Rattle.std.proofs.Common.{◌≡◌, ℕ, List, [], ◌∷◌, ◌++◌, take, replicate, refl}
use Rattle.eapol_capture.specs.declared.order.OctetOrder.TheVariants.{Big}
use Rattle.eapol_capture.specs.declared.reader.NextRecord.TheVariants.{End, CutFile, BadMagic}
use Rattle.eapol_capture.specs.declared.reader.NextRecord.TheVariants.{BadVersion, BadLink}
use Rattle.eapol_capture.specs.declared.reader.NextRecord.TheVariants.{BadRecord, TooMuch}
use Rattle.eapol_capture.specs.Files.{ends, record_of, contents, records, all_records}
use Rattle.eapol_frame.specs.Frame.{frame_of}
use Rattle.eapol_capture.specs.Frames.{contents_of, other, cut, eap}

-- the header of a file, the most significant octet first, and the least one first
big_header : List ℕ
big_header = 161 ∷ 178 ∷ 195 ∷ 212 ∷ 0 ∷ 2 ∷ 0 ∷ 4 ∷ 0 ∷ 0 ∷ 0 ∷ 0 ∷ 0 ∷ 0 ∷ 0 ∷ 0 ∷ 0 ∷ 0 ∷ 255
    ∷ 255 ∷ 0 ∷ 0 ∷ 0 ∷ 1 ∷ []

little_header : List ℕ
little_header = 212 ∷ 195 ∷ 178 ∷ 161 ∷ 2 ∷ 0 ∷ 4 ∷ 0 ∷ 0 ∷ 0 ∷ 0 ∷ 0 ∷ 0 ∷ 0 ∷ 0 ∷ 0 ∷ 255 ∷ 255
    ∷ 0 ∷ 0 ∷ 1 ∷ 0 ∷ 0 ∷ 0 ∷ []

-- the head of a record with a frame of 23 octets, in both orders
big_head : List ℕ
big_head = 0 ∷ 0 ∷ 0 ∷ 0 ∷ 0 ∷ 0 ∷ 0 ∷ 0 ∷ 0 ∷ 0 ∷ 0 ∷ 23 ∷ 0 ∷ 0 ∷ 0 ∷ 23 ∷ []

little_head : List ℕ
little_head = 0 ∷ 0 ∷ 0 ∷ 0 ∷ 0 ∷ 0 ∷ 0 ∷ 0 ∷ 23 ∷ 0 ∷ 0 ∷ 0 ∷ 23 ∷ 0 ∷ 0 ∷ 0 ∷ []

-- addresses, the type of EAPOL, its header, and an EAP Request of Type 1 (RFC 3748 section 5.1)
identity_frame : List ℕ
identity_frame =
    1 ∷ 128 ∷ 194 ∷ 0 ∷ 0 ∷ 3 ∷ 2 ∷ 0
    ∷ 0 ∷ 0 ∷ 0 ∷ 1 ∷ 136 ∷ 142 ∷ 1 ∷ 0
    ∷ 0 ∷ 5 ∷ 1 ∷ 0 ∷ 0 ∷ 5 ∷ 1 ∷ []

no_octets : contents [] ≡ ends 0 CutFile
no_octets = refl

header_alone : contents big_header ≡ ends 0 End
unfolding records big_header
header_alone = refl

header_in_part : contents (take 23 big_header) ≡ ends 0 CutFile
unfolding records big_header
header_in_part = refl

big_file : contents (big_header ++ big_head ++ identity_frame)
    ≡ record_of identity_frame (ends 0 End)
unfolding records big_header big_head identity_frame
big_file = refl

little_file : contents (little_header ++ little_head ++ identity_frame)
    ≡ record_of identity_frame (ends 0 End)
unfolding records little_header little_head identity_frame
little_file = refl

-- the last octet of a frame is missing
cut_file : contents (little_header ++ little_head ++ take 22 identity_frame) ≡ ends 1 CutFile
unfolding records little_header little_head identity_frame
cut_file = refl

-- a second record is begun
started_file : contents (little_header ++ little_head ++ identity_frame ++ 0 ∷ [])
    ≡ record_of identity_frame (ends 1 CutFile)
unfolding records little_header little_head identity_frame
started_file = refl

-- other magic numbers, other versions and another link type, of which the first is the answer
nanoseconds : contents (161 ∷ 178 ∷ 60 ∷ 77 ∷ replicate 20 0) ≡ ends 0 BadMagic
unfolding records
nanoseconds = refl

version_3 : contents (161 ∷ 178 ∷ 195 ∷ 212 ∷ 0 ∷ 3 ∷ 0 ∷ 4 ∷ replicate 16 0) ≡ ends 0 BadVersion
unfolding records
version_3 = refl

version_5 : contents (161 ∷ 178 ∷ 195 ∷ 212 ∷ 0 ∷ 2 ∷ 0 ∷ 5 ∷ replicate 16 0) ≡ ends 0 BadVersion
unfolding records
version_5 = refl

wireless : contents (212 ∷ 195 ∷ 178 ∷ 161 ∷ 2 ∷ 0 ∷ 4 ∷ 0 ∷ replicate 12 0 ++ 105 ∷ 0 ∷ 0 ∷ 0 ∷ [])
    ≡ ends 0 BadLink
unfolding records
wireless = refl

-- a frame of 262,145 octets, whose length alone tells it, and one of 262,144, of which none is
-- there
long_frame : all_records Big 16777192 (replicate 8 0 ++ 0 ∷ 4 ∷ 0 ∷ 1 ∷ []) ≡ ends 1 BadRecord
unfolding records
long_frame = refl

longest_frame : all_records Big 16777192 (replicate 8 0 ++ 0 ∷ 4 ∷ 0 ∷ 0 ∷ []) ≡ ends 1 CutFile
unfolding records
longest_frame = refl

-- a record ends with the last octet that may be read, or the octet past it is too much: the first
-- of another record, of a record's length, or of its frame
last_record : all_records Big 39 (big_head ++ identity_frame)
    ≡ record_of identity_frame (ends 0 End)
unfolding records big_head identity_frame
last_record = refl

past_record : all_records Big 39 (big_head ++ identity_frame ++ 0 ∷ [])
    ≡ record_of identity_frame (ends 1 TooMuch)
unfolding records big_head identity_frame
past_record = refl

past_length : all_records Big 11 (big_head ++ identity_frame) ≡ ends 1 TooMuch
unfolding records big_head identity_frame
past_length = refl

past_frame : all_records Big 38 (big_head ++ identity_frame) ≡ ends 1 TooMuch
unfolding records big_head identity_frame
past_frame = refl

-- where the file ends at the limit within a record, it is cut
cut_at_limit : all_records Big 30 (take 30 (big_head ++ identity_frame)) ≡ ends 1 CutFile
unfolding records big_head identity_frame
cut_at_limit = refl

-- what frames carry
identity : contents_of identity_frame ≡ eap (1 ∷ 0 ∷ 0 ∷ 5 ∷ 1 ∷ [])
unfolding contents_of frame_of identity_frame
identity = refl

padded : contents_of (identity_frame ++ replicate 37 0) ≡ eap (1 ∷ 0 ∷ 0 ∷ 5 ∷ 1 ∷ [])
unfolding contents_of frame_of identity_frame
padded = refl

short : contents_of (take 22 identity_frame) ≡ cut
unfolding contents_of frame_of identity_frame
short = refl

headless : contents_of (take 17 identity_frame) ≡ cut
unfolding contents_of frame_of identity_frame
headless = refl

typeless : contents_of (take 13 identity_frame) ≡ other
unfolding contents_of frame_of identity_frame
typeless = refl

another_type : contents_of (replicate 12 0 ++ 8 ∷ 0 ∷ 1 ∷ 0 ∷ []) ≡ other
unfolding contents_of frame_of
another_type = refl

-- EAPOL-Start
started : contents_of (replicate 12 0 ++ 136 ∷ 142 ∷ 1 ∷ 1 ∷ 0 ∷ 0 ∷ []) ≡ other
unfolding contents_of frame_of
started = refl

no_body : contents_of (replicate 12 0 ++ 136 ∷ 142 ∷ 1 ∷ 0 ∷ 0 ∷ 0 ∷ []) ≡ eap []
unfolding contents_of frame_of
no_body = refl

longest : contents_of (replicate 12 0 ++ 136 ∷ 142 ∷ 1 ∷ 0 ∷ 7 ∷ 208 ∷ replicate 2000 7)
    ≡ eap (replicate 2000 7)
unfolding contents_of frame_of
longest = refl

too_long : contents_of (replicate 12 0 ++ 136 ∷ 142 ∷ 1 ∷ 0 ∷ 7 ∷ 209 ∷ replicate 2001 7) ≡ cut
unfolding contents_of frame_of
too_long = refl
