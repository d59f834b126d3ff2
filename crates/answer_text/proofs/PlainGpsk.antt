-- The texts of EAP-GPSK stand within a line, or begin none as the line of the verdict does.
use Rattle.std.proofs.Common.{◌≡◌, [], true, Result, Ok, Err, refl, codes, decimal}
use Rattle.eap_packet.specs.declared.cause.Cause.{Cause}
use Rattle.gpsk_messages.specs.Message.{Message, fail, protected_fail}
use Rattle.login_keys.specs.declared.gpsk.GpskKeys.{GpskKeys}
use Rattle.answer_text.specs.Gpsk.{gpsk_note, gpsk_text}
use Rattle.answer_text.specs.Keys.{exported_text}
use Rattle.answer_text.specs.Lines.{hex_line}
use Rattle.answer_text.proofs.Plain.{is_within, plain, join, within_join, decimal_within}
use Rattle.answer_text.proofs.PlainKeys.{starts_result, hex_line_plain, exported_plain}
use Rattle.answer_text.proofs.PlainWords.{cause_within}

pub gpsk_within : (x : Result Message Cause) → is_within (gpsk_note x) ≡ true
gpsk_within (Err cause) = cause_within cause
gpsk_within (Ok (fail code)) = within_join (decimal code) [] (decimal_within code) refl
gpsk_within (Ok (protected_fail code mac)) =
    within_join (decimal code) [] (decimal_within code) refl
gpsk_within (Ok other) = refl

pub gpsk_plain : (keys : GpskKeys) → plain starts_result true (gpsk_text keys) ≡ true
gpsk_plain keys =
    join starts_result (hex_line (codes "mk") keys.mk) _ true
    (hex_line_plain (codes "mk") keys.mk refl) (join starts_result
    (exported_text keys.msk keys.emsk) _ true (exported_plain keys.msk keys.emsk)
    (join starts_result (hex_line (codes "sk") keys.sk) (hex_line (codes "pk") keys.pk) true
    (hex_line_plain (codes "sk") keys.sk refl) (hex_line_plain (codes "pk") keys.pk refl)))
