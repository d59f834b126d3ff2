-- Ethernet frames that carry EAPOL (IEEE 802.1X-2010 clause 11.3).
use Rattle.std.specs.Prelude.{ℕ, List, length, take, drop, slice_index, ◌==◌, not, nat_lt}
use Rattle.std.specs.Prelude.{if◌then◌else◌, Result, Ok, Err}
use Rattle.std.specs.Int.{w16, from_be_bytes}
use Rattle.eapol_frame.specs.Frame.{FrameValue, frame_of}
use Rattle.eapol_frame.specs.declared.frame.FrameCause.{FrameCause}
use Rattle.eapol_capture.specs.declared.frame.FrameContents.{FrameContents}
use Rattle.eapol_capture.specs.declared.frame.FrameContents.TheVariants.{Other, Cut, Eap}
use Rattle.eapol_capture.specs.declared.frame.FrameFinding.{FrameFinding}
use Rattle.eapol_capture.specs.declared.frame.FrameFinding.TheVariants as whole

-- what a frame carries: no EAP packet, one that is cut, or this one
pub data Carried : Type 0 where
  other : Carried
  cut : Carried
  eap : List ℕ → Carried

-- the frame's type behind its two addresses of 6 octets each
abbrev pub type_of : List ℕ → ℕ
type_of frame = from_be_bytes w16 (take 2 (drop 12 frame))

-- the type of EAPOL, 888e
abbrev pub eapol_type : ℕ
eapol_type = 34958

-- EAPOL's packet type
abbrev pub packet_type : List ℕ → ℕ
packet_type frame = slice_index frame 15

-- a packet of more than 2,000 octets isn't read
abbrev pub packet_in : Result FrameValue FrameCause → Carried
packet_in (Ok frame) = if nat_lt 2000 (length frame.body) then cut else eap frame.body
packet_in (Err cause) = cut

-- the body of the EAPOL frame behind the addresses and the type
abbrev pub body_of : List ℕ → Carried
body_of frame = packet_in (frame_of (drop 14 frame))

-- what a frame carries: EAPOL's type 0 is an EAP packet
unfoldable pub contents_of : List ℕ → Carried
contents_of frame =
    if nat_lt (length frame) 14 then other
    else if not (type_of frame == eapol_type) then other
    else if nat_lt (length frame) 18 then cut
    else if not (packet_type frame == 0) then other
    else body_of frame

-- what an answer says of a frame
abbrev pub finding_value : FrameContents → Carried
finding_value Other = other
finding_value Cut = cut
finding_value (Eap octets) = eap octets.now

-- the same of an answer that has the octets
abbrev pub whole_value : FrameFinding → Carried
whole_value whole.Other = other
whole_value whole.Cut = cut
whole_value (whole.Eap octets) = eap octets

-- how many octets of a packet are carried
abbrev pub size_of : Carried → ℕ
size_of other = 0
size_of cut = 0
size_of (eap octets) = length octets
