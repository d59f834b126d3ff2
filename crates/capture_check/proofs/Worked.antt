-- The findings of worked packets.
use Rattle.std.proofs.Common.{◌≡◌, ℕ, List, [], ◌∷◌, ◌++◌, true, false, refl, replicate}
use Rattle.login_setup.specs.declared.users.User.{User}
use Rattle.eap_packet.specs.Fault.{fault, packet_of}
use Rattle.eap_packet.specs.declared.cause.Cause.TheVariants.{Short, WrongRole, WrongOp}
use Rattle.gpsk_messages.specs.Reading as gpsk
use Rattle.psk_messages.specs.Reading as psk
use Rattle.capture_check.specs.Captured.{Captured, last_shown}
use Rattle.capture_check.specs.Classified.{classified_of}
use Rattle.capture_check.specs.Gpsk.{last_gpsk2}
use Rattle.capture_check.specs.Psk.{psk_starts, psk4_follows, last_psk1, last_psk2}
use Rattle.capture_check.specs.CaptureContext.{context_of}
use Rattle.capture_check.specs.Finding.{finding_in, finding_of}
use Rattle.capture_check.specs.declared.finding.Finding.TheVariants.{Good, Malformed, NoKey}
use Rattle.capture_check.specs.declared.finding.Finding.TheVariants.{NoContext}

sent : List ℕ → Captured
sent octets = record { to_peer = true; octets = octets }

received : List ℕ → Captured
received octets = record { to_peer = false; octets = octets }

-- the user alice of EAP-PSK
alice : List User
alice = record {
  name = 97 ∷ 108 ∷ 105 ∷ 99 ∷ 101 ∷ [];
  kind = 47;
  psk = replicate 16 7;
  barred = false;
} ∷ []

-- an Identity Request, three octets, the Request from a peer
asks : List ℕ
asks = 1 ∷ 0 ∷ 0 ∷ 5 ∷ 1 ∷ []

asks_finding : finding_of alice [] true asks ≡ Good
unfolding finding_of finding_in classified_of packet_of fault alice asks
asks_finding = refl

short_finding : finding_of alice (sent asks ∷ []) false (1 ∷ 2 ∷ 3 ∷ []) ≡ Malformed Short
unfolding finding_of finding_in classified_of packet_of fault alice asks sent
short_finding = refl

turned_finding : finding_of alice (sent asks ∷ []) false asks ≡ Malformed WrongRole
unfolding finding_of finding_in classified_of packet_of fault alice asks sent
turned_finding = refl

-- PSK-4 without a PSK-2 before it
psk4 : List ℕ
psk4 = 2 ∷ 1 ∷ 0 ∷ 43 ∷ 47 ∷ 192 ∷ replicate 16 34 ++ replicate 21 0

psk4_finding : finding_of alice (sent asks ∷ received (1 ∷ 2 ∷ 3 ∷ []) ∷ received asks
    ∷ []) false psk4 ≡ NoContext
unfolding finding_of finding_in classified_of packet_of fault alice asks psk4 sent received
    context_of last_psk1 last_gpsk2 last_psk2 last_shown psk.read_of psk4_follows
psk4_finding = refl

-- a Type that no method here has, both ways; a Success from the peer
other_finding : finding_of [] [] false (2 ∷ 7 ∷ 0 ∷ 6 ∷ 254 ∷ 9 ∷ []) ≡ Good
unfolding finding_of finding_in classified_of packet_of fault
other_finding = refl

success_finding : finding_of [] [] false (3 ∷ 7 ∷ 0 ∷ 4 ∷ []) ≡ Malformed WrongRole
unfolding finding_of finding_in classified_of packet_of fault
success_finding = refl

-- GPSK-Fail goes both ways
fail : ℕ → List ℕ
fail code = code ∷ 1 ∷ 0 ∷ 10 ∷ 51 ∷ 5 ∷ 0 ∷ 0 ∷ 0 ∷ 1 ∷ []

fail_sent : finding_of [] [] true (fail 1) ≡ Good
unfolding finding_of finding_in classified_of packet_of fault fail gpsk.read_of gpsk.loose_of
    gpsk.fields_at gpsk.fail_at gpsk.code_at gpsk.exact_at gpsk.and_then
fail_sent = refl

fail_received : finding_of [] [] false (fail 2) ≡ Good
unfolding finding_of finding_in classified_of packet_of fault fail gpsk.read_of gpsk.loose_of
    gpsk.fields_at gpsk.fail_at gpsk.code_at gpsk.exact_at gpsk.and_then
fail_received = refl

-- PSK-1 with this RAND_S, and one that the peer sends
psk1 : ℕ → ℕ → List ℕ
psk1 code rand = code ∷ 1 ∷ 0 ∷ 23 ∷ 47 ∷ 0 ∷ replicate 16 rand ++ (115 ∷ [])

psk1_finding : finding_of alice [] true (psk1 1 34) ≡ Good
unfolding finding_of finding_in classified_of packet_of fault alice psk1 psk.read_of
psk1_finding = refl

psk1_turned : finding_of alice [] false (psk1 2 34) ≡ Malformed WrongOp
unfolding finding_of finding_in classified_of packet_of fault alice psk1 psk.read_of
psk1_turned = refl

-- PSK-2 of a user that isn't known, after its PSK-1, and after a PSK-1 with another RAND_S
psk2 : List ℕ
psk2 = 2 ∷ 1 ∷ 0 ∷ 57 ∷ 47 ∷ 64
    ∷ replicate 16 34 ++ (replicate 16 17 ++ (replicate 16 0 ++ (98 ∷ 111 ∷ 98 ∷ [])))

psk2_unknown : finding_of alice (sent (psk1 1 34) ∷ []) false psk2 ≡ NoKey
unfolding finding_of finding_in classified_of packet_of fault alice psk1 psk2 sent psk.read_of
    context_of last_psk1 last_gpsk2 last_psk2 last_shown psk_starts
psk2_unknown = refl

psk2_late : finding_of alice (sent (psk1 1 34) ∷ sent (psk1 1 35) ∷ []) false psk2 ≡ NoContext
unfolding finding_of finding_in classified_of packet_of fault alice psk1 psk2 sent psk.read_of
    context_of last_psk1 last_gpsk2 last_psk2 last_shown psk_starts
psk2_late = refl
