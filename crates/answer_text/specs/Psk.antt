-- The texts of EAP-PSK: what a message is, and the keys of a login.
use Rattle.std.specs.Prelude.{ℕ, List, ◌++◌, Result, Ok, Err, codes}
use Rattle.eap_packet.specs.Words.{cause_word}
use Rattle.eap_packet.specs.declared.cause.Cause.{Cause}
use Rattle.psk_messages.specs.Message.{Message, psk1, psk2, psk3, psk4}
use Rattle.login_keys.specs.Psk.{psk_long_of, psk_keys_of}
use Rattle.login_keys.specs.declared.psk.PskKeys.{PskKeys}
use Rattle.login_keys.specs.declared.psk.PskLong.{PskLong}
use Rattle.answer_text.specs.Keys.{exported_text}
use Rattle.answer_text.specs.Lines.{hex_line}

-- the name of an EAP-PSK message, or why it is none
abbrev pub psk_note : Result Message Cause → List ℕ
psk_note (Err cause) = cause_word cause
psk_note (Ok (psk1 rand_s id_s)) = codes "psk-1"
psk_note (Ok (psk2 rand_s rand_p mac id_p)) = codes "psk-2"
psk_note (Ok (psk3 rand_s mac nonce tag sealed)) = codes "psk-3"
psk_note (Ok (psk4 rand_s nonce tag sealed)) = codes "psk-4"

-- the long-lived keys
abbrev pub long_text : PskLong → List ℕ
long_text long = hex_line (codes "ak") long.ak ++ hex_line (codes "kdk") long.kdk

-- the keys of a login
abbrev pub session_text : PskKeys → List ℕ
session_text keys = hex_line (codes "tek") keys.tek ++ exported_text keys.msk keys.emsk

-- the keys under a shared key and a peer's random number
abbrev pub psk_text : List ℕ → List ℕ → List ℕ
psk_text psk rand_p =
    let long = psk_long_of psk in long_text long ++ session_text (psk_keys_of long.kdk rand_p)
