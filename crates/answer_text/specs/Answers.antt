-- What answers a request for a cipher, a MAC or keys, and what Type-Data of a method says.
use Rattle.std.specs.Prelude.{ℕ, List, ◌==◌, if◌then◌else◌, None, codes}
use Rattle.octet_lists.specs.Among.{psk_kind, gpsk_kind}
use Rattle.aes_block.specs.Cipher.{aes128}
use Rattle.cmac_mac.specs.Cmac.{aes_cmac}
use Rattle.hmac_mac.specs.Hmac.{hmac_sha256}
use Rattle.eax_mode.specs.Eax.{eax_sealed}
use Rattle.gpsk_messages.specs.Reading as gpsk_reading
use Rattle.psk_messages.specs.Reading as psk_reading
use Rattle.login_keys.specs.Gpsk.{gpsk_keys_of}
use Rattle.login_keys.specs.KeyName.{key_name_of}
use Rattle.request_text.specs.declared.key_line.KeyLine.{KeyLine}
use Rattle.request_text.specs.declared.key_line.KeyLine.TheVariants as asked
use Rattle.answer_text.specs.Gpsk.{gpsk_note, gpsk_text}
use Rattle.answer_text.specs.Keys.{sealed_text}
use Rattle.answer_text.specs.Lines.{hex_line}
use Rattle.answer_text.specs.Psk.{psk_note, psk_text}

-- the message that Type-Data of this Type is
abbrev pub message_text : ℕ → List ℕ → List ℕ
message_text kind body =
    if kind == psk_kind then psk_note (psk_reading.read_of body)
    else if kind == gpsk_kind then gpsk_note (gpsk_reading.read_of None body)
    else codes "-"

-- the answer to a request
unfoldable pub key_text : KeyLine → List ℕ
key_text (asked.Aes key block) = hex_line (codes "aes") (aes128 key block)
key_text (asked.Cmac key text) = hex_line (codes "cmac") (aes_cmac key text)
key_text (asked.Hmac key text) = hex_line (codes "hmac") (hmac_sha256 key text)
key_text (asked.Eax key nonce header text) = sealed_text (eax_sealed key nonce header text)
key_text (asked.Gpsk suite psk rand_p id_p rand_s id_s) =
    gpsk_text (gpsk_keys_of suite psk rand_p id_p rand_s id_s)
key_text (asked.Psk psk rand_p) = psk_text psk rand_p
key_text (asked.Name key) = hex_line (codes "name") (key_name_of key)
