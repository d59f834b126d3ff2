-- Worked values of the definitions.
use Rattle.std.proofs.Common.{◌≡◌, ℕ, List, [], ◌∷◌, ◌++◌, Some, None, codes, replicate, refl}
use Rattle.octet_lists.specs.declared.suite.Suite.TheVariants.{Cmac}
use Rattle.eap_packet.specs.Fault.{fault, packet_of}
use Rattle.eap_packet.specs.Packet.{spelled}
use Rattle.psk_messages.specs.Reading.{read_of}
use Rattle.gpsk_messages.specs.Reading as gpsk
use Rattle.login_keys.specs.Gpsk.{gkdf}
use Rattle.eap_method.specs.declared.values.Report.{Report}
use Rattle.tuvaddri_c.specs.ByMethod.{session_id_of_report}
use Rattle.tuvaddri_c.specs.Gpsk.{zeros, front_of}
use Rattle.tuvaddri_c.specs.PeerName.{response_name, request_name}
use Rattle.tuvaddri_c.specs.Failures.{sent_code}
use Rattle.tuvaddri_c.specs.Reports.{EndReport}

-- ID_P of a PSK-2 with padding behind it, and none in a PSK-1 that claims to be a Response
psk2 : List ℕ
psk2 = 2 ∷ 7 ∷ 0 ∷ 59 ∷ 47 ∷ 64
    ∷ replicate 16 1 ++ replicate 16 2 ++ replicate 16 3 ++ codes "alice" ++ 0 ∷ 0 ∷ []

named_by_psk2 : response_name psk2 ≡ Some (codes "alice")
unfolding psk2 packet_of fault read_of
named_by_psk2 = refl

psk1 : List ℕ
psk1 = 2 ∷ 7 ∷ 0 ∷ 25 ∷ 47 ∷ 0 ∷ replicate 16 1 ++ codes "srv"

unnamed_by_psk1 : response_name psk1 ≡ None
unfolding psk1 packet_of fault read_of
unnamed_by_psk1 = refl

-- the same PSK-2 in Type 254 (RFC 3748 section 5.7)
expanded_psk2 : List ℕ
expanded_psk2 = 2 ∷ 7 ∷ 0 ∷ 66 ∷ 254 ∷ 0 ∷ 0 ∷ 0 ∷ 0 ∷ 0 ∷ 0 ∷ 47 ∷ 64
    ∷ replicate 16 1 ++ replicate 16 2 ++ replicate 16 3 ++ codes "alice"

named_by_expanded_psk2 : response_name expanded_psk2 ≡ Some (codes "alice")
unfolding expanded_psk2 packet_of fault spelled read_of
named_by_expanded_psk2 = refl

-- ID_S of a PSK-1 with padding behind it, also in Type 254; none in the PSK-1 that claims to be a
-- Response, nor in a PSK-2 that claims to be a Request
asked_psk1 : List ℕ
asked_psk1 = 1 ∷ 7 ∷ 0 ∷ 25 ∷ 47 ∷ 0 ∷ replicate 16 1 ++ codes "srv" ++ 0 ∷ 0 ∷ []

named_by_psk1 : request_name asked_psk1 ≡ Some (codes "srv")
unfolding asked_psk1 packet_of fault read_of
named_by_psk1 = refl

expanded_psk1 : List ℕ
expanded_psk1 = 1 ∷ 7 ∷ 0 ∷ 32 ∷ 254 ∷ 0 ∷ 0 ∷ 0 ∷ 0 ∷ 0 ∷ 0 ∷ 47 ∷ 0
    ∷ replicate 16 1 ++ codes "srv"

named_by_expanded_psk1 : request_name expanded_psk1 ≡ Some (codes "srv")
unfolding expanded_psk1 packet_of fault spelled read_of
named_by_expanded_psk1 = refl

unnamed_by_response : request_name psk1 ≡ None
unfolding psk1 packet_of fault
unnamed_by_response = refl

asked_psk2 : List ℕ
asked_psk2 = 1 ∷ 7 ∷ 0 ∷ 59 ∷ 47 ∷ 64
    ∷ replicate 16 1 ++ replicate 16 2 ++ replicate 16 3 ++ codes "alice"

unnamed_by_psk2 : request_name asked_psk2 ≡ None
unfolding asked_psk2 packet_of fault read_of
unnamed_by_psk2 = refl

-- ID_Server of a GPSK-1
gpsk1 : List ℕ
gpsk1 = 1 ∷ 7 ∷ 0 ∷ 51 ∷ 51 ∷ 1 ∷ 0 ∷ 3
    ∷ codes "srv" ++ replicate 32 1 ++ 0 ∷ 6 ∷ 0 ∷ 0 ∷ 0 ∷ 0 ∷ 0 ∷ 1 ∷ []

named_by_gpsk1 : request_name gpsk1 ≡ Some (codes "srv")
unfolding gpsk1 packet_of fault gpsk.read_of gpsk.loose_of gpsk.fields_at gpsk.gpsk1_at
    gpsk.identity_at gpsk.suites_at gpsk.sized_at gpsk.exact_at gpsk.and_then
named_by_gpsk1 = refl

-- a login of alice at srv by EAP-PSK, and one by EAP-GPSK
report : ℕ → ℕ → Report
report method suite = record {
  method = method;
  id_p = codes "alice";
  id_s = codes "srv";
  suite = suite;
  msk = [];
  emsk = [];
}

by_psk : EndReport
by_psk = record {
  report = report 47 0;
  nonces = record { peer = replicate 16 1; server = replicate 16 2 };
}

by_gpsk : EndReport
by_gpsk = record {
  report = report 51 1;
  nonces = record { peer = replicate 32 1; server = replicate 32 2 };
}

psk_row : session_id_of_report zeros by_psk ≡ Some (0x2f ∷ replicate 16 1 ++ replicate 16 2)
unfolding by_psk report
psk_row = refl

-- "Method ID", the Type, CSuite_Sel, RAND_Peer, ID_Peer, RAND_Server, ID_Server
told : List ℕ
told = 0x4d ∷ 0x65 ∷ 0x74 ∷ 0x68 ∷ 0x6f ∷ 0x64 ∷ 0x20 ∷ 0x49 ∷ 0x44 ∷ 0x33 ∷ 0 ∷ 0 ∷ 0 ∷ 0 ∷ 0 ∷ 1 ∷
    replicate 32 1 ++ codes "alice" ++ replicate 32 2 ++ codes "srv"

gpsk_row : session_id_of_report zeros by_gpsk ≡ Some (0x33 ∷ gkdf Cmac 16 (replicate 16 0) told)
unfolding by_gpsk report told
gpsk_row = refl

gpsk_row_wpa : session_id_of_report (front_of (Some (replicate 48 7))) by_gpsk
    ≡ Some (0x33 ∷ gkdf Cmac 16 (replicate 16 7) told)
unfolding by_gpsk report told
gpsk_row_wpa = refl

-- a GPSK-Fail for Authentication Failure, and one of an unknown code
fail_row : sent_code (2 ∷ 9 ∷ 0 ∷ 10 ∷ 51 ∷ 5 ∷ 0 ∷ 0 ∷ 0 ∷ 2 ∷ []) ≡ 2
unfolding packet_of fault gpsk.read_of gpsk.loose_of gpsk.fields_at gpsk.fail_at gpsk.code_at
    gpsk.exact_at gpsk.and_then
fail_row = refl

unknown_row : sent_code (2 ∷ 9 ∷ 0 ∷ 10 ∷ 51 ∷ 5 ∷ 1 ∷ 0 ∷ 0 ∷ 2 ∷ []) ≡ 0
unfolding packet_of fault gpsk.read_of gpsk.loose_of gpsk.fields_at gpsk.fail_at gpsk.code_at
    gpsk.exact_at gpsk.and_then
unknown_row = refl
