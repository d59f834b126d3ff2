-- EAPOL frames behind the header of Ethernet (IEEE 802.1X-2004 clause 7.5): their one encoding, and
-- what keeps octets from beginning with one.
use Rattle.std.specs.Prelude.{ℕ, ◌-◌, ◌<◌, List, ◌∷◌, ◌++◌, length, take, drop, slice_index}
use Rattle.std.specs.Prelude.{Bool, ◌==◌, nat_lt, if◌then◌else◌, Result, Ok, Err}
use Rattle.eap_packet.specs.Packet.{IsOctets, two_octets}
use Rattle.eap_packet.specs.Fault.{length_of}
use Rattle.eapol_frame.specs.declared.frame.FrameView.{FrameView}
use Rattle.eapol_frame.specs.declared.frame.EapolContents.{EapolContents}
use Rattle.eapol_frame.specs.declared.frame.EapolContents.TheVariants.{Packet, Start, Logoff, Other}
use Rattle.eapol_frame.specs.declared.frame.FrameCause.{FrameCause}
use Rattle.eapol_frame.specs.declared.frame.FrameCause.TheVariants.{FrameShort, FrameTruncated}

-- a frame: its version, its packet type and its body
pub record FrameValue : Type 0 where
  pub version : ℕ
  pub kind : ℕ
  pub body : List ℕ

-- the octets of a frame; the length counts the body alone
abbrev pub spelled : FrameValue → List ℕ
spelled frame =
    frame.version ∷ frame.kind ∷ two_octets (length frame.body) ++ frame.body

-- a frame of this end: of the version of 2004
abbrev pub own_frame : ℕ → List ℕ → FrameValue
own_frame kind body = record { version = 2; kind = kind; body = body }

-- the fields fit their octets
pub record IsFrame (frame : FrameValue) : Type 0 where
  pub version : frame.version < 256
  pub kind : frame.kind < 256
  pub octets : IsOctets frame.body
  pub size : length frame.body < 65536

abbrev pub is_short : List ℕ → Bool
is_short octets = nat_lt (length octets) 4

abbrev pub is_truncated : List ℕ → Bool
is_truncated octets = nat_lt (length octets - 4) (length_of octets)

abbrev pub fields_of : List ℕ → FrameValue
fields_of octets = record {
  version = slice_index octets 0;
  kind = slice_index octets 1;
  body = take (length_of octets) (drop 4 octets);
}

-- the frame that the octets begin with, or the first cause that keeps them from it
unfoldable pub frame_of : List ℕ → Result FrameValue FrameCause
frame_of octets =
    if is_short octets then Err FrameShort
    else if is_truncated octets then Err FrameTruncated
    else Ok (fields_of octets)

-- a reader's answer, with the frame's value in place of the view
abbrev pub value_of : FrameView → FrameValue
value_of view = record { version = view.version; kind = view.kind; body = view.body.now }

abbrev pub frame_value : Result FrameView FrameCause → Result FrameValue FrameCause
frame_value (Ok view) = Ok (value_of view)
frame_value (Err cause) = Err cause

-- what a frame is to a port access entity; its body has no meaning behind a Start or a Logoff
pub data Contents : Type 0 where
  eap_packet : List ℕ → Contents
  eapol_start : Contents
  eapol_logoff : Contents
  -- a key, an alert, or any other packet type
  other : Contents

abbrev pub contents_by : ℕ → List ℕ → Contents
contents_by kind body =
    if kind == 0 then eap_packet body
    else if kind == 1 then eapol_start
    else if kind == 2 then eapol_logoff
    else other

-- what an answer says of a frame
abbrev pub contents_value : EapolContents → Contents
contents_value (Packet body) = eap_packet body.now
contents_value Start = eapol_start
contents_value Logoff = eapol_logoff
contents_value Other = other
