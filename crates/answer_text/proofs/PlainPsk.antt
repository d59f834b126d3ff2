-- The texts of EAP-PSK stand within a line, or begin none as the line of the verdict does.
use Rattle.std.proofs.Common.{◌≡◌, ℕ, List, true, Result, Ok, Err, refl, codes}
use Rattle.eap_packet.specs.declared.cause.Cause.{Cause}
use Rattle.psk_messages.specs.Message.{Message, psk1}
use Rattle.login_keys.specs.Psk.{psk_long_of, psk_keys_of}
use Rattle.login_keys.specs.declared.psk.PskKeys.{PskKeys}
use Rattle.login_keys.specs.declared.psk.PskLong.{PskLong}
use Rattle.answer_text.specs.Keys.{exported_text}
use Rattle.answer_text.specs.Lines.{hex_line}
use Rattle.answer_text.specs.Psk.{psk_note, long_text, session_text, psk_text}
use Rattle.answer_text.proofs.Plain.{is_within, plain, join}
use Rattle.answer_text.proofs.PlainKeys.{starts_result, hex_line_plain, exported_plain}
use Rattle.answer_text.proofs.PlainWords.{cause_within}

pub psk_within : (x : Result Message Cause) → is_within (psk_note x) ≡ true
psk_within (Err cause) = cause_within cause
psk_within (Ok (psk1 rand_s id_s)) = refl
psk_within (Ok other) = refl

long_plain : (long : PskLong) → plain starts_result true (long_text long) ≡ true
long_plain long =
    join starts_result (hex_line (codes "ak") long.ak) (hex_line (codes "kdk") long.kdk) true
    (hex_line_plain (codes "ak") long.ak refl) (hex_line_plain (codes "kdk") long.kdk refl)

session_plain : (keys : PskKeys) → plain starts_result true (session_text keys) ≡ true
session_plain keys =
    join starts_result (hex_line (codes "tek") keys.tek) (exported_text keys.msk keys.emsk) true
    (hex_line_plain (codes "tek") keys.tek refl) (exported_plain keys.msk keys.emsk)

pub psk_plain : (psk rand_p : List ℕ) → plain starts_result true (psk_text psk rand_p) ≡ true
psk_plain psk rand_p =
    let long = psk_long_of psk in
    let keys = psk_keys_of long.kdk rand_p in
    join starts_result (long_text long) (session_text keys) true (long_plain long)
    (session_plain keys)
