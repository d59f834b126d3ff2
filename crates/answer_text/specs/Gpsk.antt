-- The texts of EAP-GPSK: what a message is, and the keys of a login.
use Rattle.std.specs.Prelude.{ℕ, List, [], ◌∷◌, ◌++◌, Result, Ok, Err, codes, decimal}
use Rattle.std.specs.List.{concat}
use Rattle.eap_packet.specs.Words.{cause_word}
use Rattle.eap_packet.specs.declared.cause.Cause.{Cause}
use Rattle.gpsk_messages.specs.Message.{Message, gpsk1, gpsk2, gpsk3, gpsk4, fail, protected_fail}
use Rattle.login_keys.specs.declared.gpsk.GpskKeys.{GpskKeys}
use Rattle.answer_text.specs.Keys.{exported_text}
use Rattle.answer_text.specs.Lines.{hex_line}

-- the name of an EAP-GPSK message, with the code of a failure, or why it is none
abbrev pub gpsk_note : Result Message Cause → List ℕ
gpsk_note (Err cause) = cause_word cause
gpsk_note (Ok (gpsk1 id_s rand_s list)) = codes "gpsk-1"
gpsk_note (Ok (gpsk2 id_p id_s rand_p rand_s list suite pd mac)) = codes "gpsk-2"
gpsk_note (Ok (gpsk3 rand_p rand_s id_s suite pd mac)) = codes "gpsk-3"
gpsk_note (Ok (gpsk4 pd mac)) = codes "gpsk-4"
gpsk_note (Ok (fail code)) = concat (codes "gpsk-fail " ∷ decimal code ∷ [])
gpsk_note (Ok (protected_fail code mac)) = concat (codes "gpsk-protected-fail " ∷ decimal code ∷ [])

-- the keys of a login
abbrev pub gpsk_text : GpskKeys → List ℕ
gpsk_text keys = hex_line (codes "mk") keys.mk
    ++ (exported_text keys.msk keys.emsk ++ (hex_line (codes "sk") keys.sk ++ hex_line (codes
    "pk") keys.pk))
