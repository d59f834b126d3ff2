-- The command radius: requests and replies that carry EAP are written, and packets are read and
-- judged under one secret (RFC 2865, RFC 3579).
use Rattle.std.specs.Prelude.{ℕ, List, [], ◌∷◌, Bool, false, ◌==◌, if◌then◌else◌, codes, decimal}
use Rattle.std.specs.Prelude.{Option, Some, None, Result, Ok, Err}
use Rattle.std.specs.List.{concat}
use Rattle.octet_io.specs.Lines.{lines}
use Rattle.radius_carry.specs.Packet.{RadiusPacket, spelled, eap_of}
use Rattle.radius_carry.specs.Fault.{packet_of}
use Rattle.radius_carry.specs.Tags.{is_good_request, is_good_reply}
use Rattle.radius_carry.specs.Words.{cause_word}
use Rattle.radius_carry.specs.Written.{request_of, reply_of}
use Rattle.radius_carry.specs.declared.cause.RadiusCause.{RadiusCause}
use Rattle.text_tables.specs.Words.{fault_word}
use Rattle.request_text.specs.Radius.{RadiusLine, read_line, finish_of}
use Rattle.text_tables.specs.declared.fault.LineFault.{LineFault}
use Rattle.text_tables.specs.declared.phase.Phase.TheVariants.{Unread}
use Rattle.request_text.specs.declared.radius_line.ReplyKind.{ReplyKind}
use Rattle.request_text.specs.declared.radius_line.ReplyKind.TheVariants as kind
use Rattle.request_text.specs.declared.radius_line.RadiusItem.{RadiusItem}
use Rattle.request_text.specs.declared.radius_line.RadiusItem.TheVariants as item
use Rattle.answer_text.specs.Lines.{hex_line}
use Rattle.answer_text.specs.Pieces.{hex_text}
use Rattle.command_driver.specs.Answers.{Answer}
use Rattle.command_driver.specs.Commands.{LineResult, Closing, goes, refuses, ends, misses, answer}
use Rattle.capture_commands.specs.declared.radius.PendingRequest.{PendingRequest}
use Rattle.capture_commands.specs.declared.radius.Judgement.{Judgement}
use Rattle.capture_commands.specs.declared.radius.Judgement.TheVariants as judgement
use Rattle.capture_commands.specs.declared.radius.Radius.{Radius}
use Rattle.command_driver.specs.declared.status.Status.TheVariants as status

-- ---- the lines that are written

unfoldable pub word_line : List ℕ → List ℕ → List ℕ
word_line word next = concat (word ∷ codes " " ∷ next ∷ codes "\n" ∷ [])

-- the name of a kind of packet, by its Code
abbrev pub kind_word : ℕ → List ℕ
kind_word code =
    if code == 1 then codes "request"
    else if code == 2 then codes "accept"
    else if code == 3 then codes "reject"
    else codes "challenge"

abbrev pub judgement_word : Judgement → List ℕ
judgement_word judgement.Good = codes "good"
judgement_word judgement.TagBad = codes "tag-bad"
judgement_word judgement.NoRequest = codes "no-request"

-- the kind of a packet, its Identifier, its EAP packet, and what is found of it
unfoldable pub read_text : List ℕ → ℕ → List ℕ → List ℕ → List ℕ
read_text kind id eap found =
    concat (codes "read " ∷ kind ∷ codes " id " ∷ decimal id ∷ codes " eap " ∷ hex_text eap
    ∷ codes " " ∷ found ∷ codes "\n" ∷ [])

abbrev pub packet_line : RadiusPacket → Judgement → List ℕ
packet_line packet found =
    read_text (kind_word packet.code) packet.id (eap_of packet.attributes) (judgement_word found)

-- ---- what a packet is, under the secret and after the request that is kept

abbrev pub good_or_bad : Bool → Judgement
good_or_bad good = if good then judgement.Good else judgement.TagBad

abbrev pub reply_judged : List ℕ → Option PendingRequest → RadiusPacket → Judgement
reply_judged secret None packet = judgement.NoRequest
reply_judged secret (Some asked) packet =
    if asked.id == packet.id then good_or_bad (is_good_reply secret asked.authenticator packet)
    else judgement.NoRequest

unfoldable pub judgement_of : List ℕ → Option PendingRequest → RadiusPacket → Judgement
judgement_of secret asked packet =
    if packet.code == 1 then good_or_bad (is_good_request secret packet)
    else reply_judged secret asked packet

-- the request that is kept after it: a good one in place of the one before
unfoldable pub context_after : List ℕ → Option PendingRequest → RadiusPacket → Option PendingRequest
context_after secret asked packet =
    if is_good_request secret packet
    then Some (record { id = packet.id; authenticator = packet.authenticator }) else asked

-- ---- the result of a line

abbrev pub wrote : List ℕ → Radius → LineResult Radius
wrote text c = record { text = text; ruling = goes; after = c }

abbrev pub code_of : ReplyKind → ℕ
code_of kind.Accept = 2
code_of kind.Reject = 3
code_of kind.Challenge = 11

abbrev pub reply_step : Radius → Option PendingRequest → ReplyKind → List ℕ → List ℕ
    → LineResult Radius
reply_step c None k state eap = wrote (word_line (codes "reply") (codes "no-request")) c
reply_step c (Some asked) k state eap =
    wrote (hex_line (codes "reply")
    (spelled (reply_of c.secret (code_of k) asked.id asked.authenticator state eap))) c

abbrev pub read_result_of : Radius → Result RadiusPacket RadiusCause → LineResult Radius
read_result_of c (Err cause) = wrote (word_line (codes "read") (cause_word cause)) c
read_result_of c (Ok packet) = wrote (packet_line packet (judgement_of c.secret c.asked packet))
    (record c { asked = context_after c.secret c.asked packet })

abbrev pub item_result_of : Radius → RadiusItem → LineResult Radius
item_result_of c item.Nothing = wrote [] c
item_result_of c (item.Secret octets) = wrote [] (record c { secret = octets })
item_result_of c (item.Request id authenticator user state eap) =
    wrote (hex_line (codes "request")
    (spelled (request_of c.secret id authenticator user state eap)))
    (record c { asked = Some (record { id = id; authenticator = authenticator }) })
item_result_of c (item.Reply k state eap) = reply_step c c.asked k state eap
item_result_of c (item.Read octets) = read_result_of c (packet_of octets)
item_result_of c item.End = wrote [] c

abbrev pub line_result_of : Radius → Result RadiusLine LineFault → LineResult Radius
line_result_of c (Err
    fault) = record { text = []; ruling = refuses (fault_word fault) status.Refused; after = c }
line_result_of c (Ok line) = item_result_of (record c { reader = line.after }) line.item

unfoldable pub radius_step : Radius → List ℕ → LineResult Radius
radius_step c line = line_result_of c (read_line c.reader line)

-- the end of the input
abbrev pub radius_end : Result (Unit {0}) LineFault → Closing
radius_end (Err fault) = record { text = []; closed = misses (fault_word fault) }
radius_end (Ok done) = record { text = []; closed = ends status.Done }

unfoldable pub radius_closing : Radius → Closing
radius_closing c = radius_end (finish_of c.reader)

-- no line fails for want of memory
abbrev pub radius_lacks : Radius → List ℕ → Bool
radius_lacks c line = false

abbrev pub nothing_asked : Radius
nothing_asked = record { reader = record { phase = Unread }; secret = []; asked = None }

-- what a text answers
abbrev pub radius_answer : List ℕ → Answer
radius_answer octets = answer radius_step radius_closing 0 nothing_asked (lines octets)
