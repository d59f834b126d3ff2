-- No line of `radius` begins as the line of honest tags does.
use Rattle.std.proofs.Common.{◌≡◌, ℕ, List, Bool, true, Option, Some, None, Result, Ok, Err, refl}
use Rattle.std.proofs.Common.{codes, decimal, ◌==◌}
use Rattle.octet_io.specs.Lines.{lines}
use Rattle.radius_carry.specs.Packet.{RadiusPacket, eap_of}
use Rattle.radius_carry.specs.Fault.{packet_of}
use Rattle.radius_carry.specs.Words.{cause_word}
use Rattle.radius_carry.specs.declared.cause.RadiusCause.{RadiusCause}
use Rattle.radius_carry.specs.declared.cause.RadiusCause.TheVariants.{RadiusShort, RadiusCode}
use Rattle.radius_carry.specs.declared.cause.RadiusCause.TheVariants.{RadiusLength, RadiusTruncated}
use Rattle.radius_carry.specs.declared.cause.RadiusCause.TheVariants.{RadiusAttribute, NoEap}
use Rattle.radius_carry.specs.declared.cause.RadiusCause.TheVariants.{EapTooLong, NoAuthenticator}
use Rattle.request_text.specs.Radius.{RadiusLine, read_line, finish_of}
use Rattle.text_tables.specs.declared.fault.LineFault.{LineFault}
use Rattle.request_text.specs.declared.radius_line.ReplyKind.{ReplyKind}
use Rattle.request_text.specs.declared.radius_line.RadiusItem.{RadiusItem}
use Rattle.request_text.specs.declared.radius_line.RadiusItem.TheVariants as item
use Rattle.answer_text.specs.Pieces.{hex_text}
use Rattle.answer_text.proofs.Plain.{is_within, plain, through, decimal_within}
use Rattle.answer_text.proofs.PlainWords.{either_within, hex_within}
use Rattle.command_driver.specs.Commands.{LineResult}
use Rattle.command_driver.proofs.Quiet.{IsQuiet, IsQuietLine, quiet_answer}
use Rattle.answer_text.specs.Lines.{hex_line}
use Rattle.capture_commands.specs.Radius.{word_line, packet_line, read_text, kind_word}
use Rattle.capture_commands.specs.Radius.{judgement_word, judgement_of}
use Rattle.capture_commands.specs.Radius.{reply_step, read_result_of, item_result_of}
use Rattle.capture_commands.specs.Radius.{line_result_of}
use Rattle.capture_commands.specs.Radius.{radius_step, radius_end, radius_closing, nothing_asked}
use Rattle.capture_commands.specs.Radius.{radius_answer}
use Rattle.capture_commands.specs.declared.radius.PendingRequest.{PendingRequest}
use Rattle.capture_commands.specs.declared.radius.Judgement.{Judgement}
use Rattle.capture_commands.specs.declared.radius.Judgement.TheVariants as judgement
use Rattle.capture_commands.specs.declared.radius.Radius.{Radius}

-- nothing is asked of the command
abbrev Any : Radius → Type 0
Any c = Unit {0}

-- the first octet of `tags`
abbrev pub starts_tags : ℕ → Bool
starts_tags o = o == 116

abbrev IsQuietRadius : LineResult Radius → Type 0
IsQuietRadius t = IsQuietLine starts_tags Any t

-- ---- the lines

hex_quiet : (octets : List ℕ) →
    (plain starts_tags true (hex_line (codes "request") octets) ≡ true)
    × (plain starts_tags true (hex_line (codes "reply") octets) ≡ true)
unfolding hex_line
hex_quiet octets = (
  through starts_tags (hex_text octets) _ (hex_within octets) refl,
  through starts_tags (hex_text octets) _ (hex_within octets) refl,
)

cause_within : (cause : RadiusCause) → is_within (cause_word cause) ≡ true
cause_within RadiusShort = refl
cause_within RadiusCode = refl
cause_within RadiusLength = refl
cause_within RadiusTruncated = refl
cause_within RadiusAttribute = refl
cause_within NoEap = refl
cause_within EapTooLong = refl
cause_within NoAuthenticator = refl

cause_quiet : (cause : RadiusCause)
    → plain starts_tags true (word_line (codes "read") (cause_word cause)) ≡ true
unfolding word_line
cause_quiet cause = through starts_tags (cause_word cause) _ (cause_within cause) refl

none_quiet : plain starts_tags true (word_line (codes "reply") (codes "no-request")) ≡ true
unfolding word_line
none_quiet = refl

kind_within : (code : ℕ) → is_within (kind_word code) ≡ true
kind_within code =
    either_within (code == 1) (codes "request") _ refl
    (either_within (code == 2) (codes "accept") _ refl
    (either_within (code == 3) (codes "reject") (codes "challenge") refl refl))

judgement_within : (found : Judgement) → is_within (judgement_word found) ≡ true
judgement_within judgement.Good = refl
judgement_within judgement.TagBad = refl
judgement_within judgement.NoRequest = refl

packet_quiet : (packet : RadiusPacket) (found : Judgement)
    → plain starts_tags true (packet_line packet found) ≡ true
unfolding read_text
packet_quiet packet found =
    through starts_tags (kind_word packet.code) _ (kind_within packet.code)
    (through starts_tags (decimal packet.id) _ (decimal_within packet.id)
    (through starts_tags (hex_text (eap_of packet.attributes)) _
    (hex_within (eap_of packet.attributes))
    (through starts_tags (judgement_word found) _ (judgement_within found) refl)))

-- ---- what a line brings

reply_quiet : (c : Radius) (asked : Option PendingRequest) (k : ReplyKind) (state eap : List ℕ)
    → IsQuietRadius (reply_step c asked k state eap)
reply_quiet c None k state eap = record { text = none_quiet; refusing = tt; after = tt }
reply_quiet c (Some asked) k state eap =
    record { text = (hex_quiet _).1; refusing = tt; after = tt }

read_quiet : (c : Radius) (x : Result RadiusPacket RadiusCause) → IsQuietRadius (read_result_of c x)
read_quiet c (Err cause) = record { text = cause_quiet cause; refusing = tt; after = tt }
read_quiet c (Ok packet) = record {
  text = packet_quiet packet (judgement_of c.secret c.asked packet);
  refusing = tt;
  after = tt;
}

item_quiet : (c : Radius) (i : RadiusItem) → IsQuietRadius (item_result_of c i)
item_quiet c item.Nothing = record { text = refl; refusing = tt; after = tt }
item_quiet c (item.Secret octets) = record { text = refl; refusing = tt; after = tt }
item_quiet c (item.Request id authenticator user state eap) =
    record { text = (hex_quiet _).0; refusing = tt; after = tt }
item_quiet c (item.Reply k state eap) = reply_quiet c c.asked k state eap
item_quiet c (item.Read octets) = read_quiet c (packet_of octets)
item_quiet c item.End = record { text = refl; refusing = tt; after = tt }

line_quiet : (c : Radius) (x : Result RadiusLine LineFault) → IsQuietRadius (line_result_of c x)
line_quiet c (Err fault) = record { text = refl; refusing = tt; after = tt }
line_quiet c (Ok out) = item_quiet (record c { reader = out.after }) out.item

result_quiet : (c : Radius) (l : List ℕ) → IsQuietRadius (radius_step c l)
unfolding radius_step
result_quiet c l = line_quiet c (read_line c.reader l)

end_quiet : (x : Result (Unit {0}) LineFault) → plain starts_tags true (radius_end x).text ≡ true
end_quiet (Err fault) = refl
end_quiet (Ok done) = refl

closing_quiet : (c : Radius) → plain starts_tags true (radius_closing c).text ≡ true
unfolding radius_closing
closing_quiet c = end_quiet (finish_of c.reader)

pub radius_quiet : (octets : List ℕ) → IsQuiet starts_tags (radius_answer octets)
radius_quiet octets =
    quiet_answer starts_tags radius_step radius_closing Any (λ c l _. result_quiet c l)
    closing_quiet (lines octets) 0 nothing_asked tt
