-- The message of a view whose variants have its fields.
use Rattle.std.specs.Prelude.{Result, Ok, Err}
use Rattle.eap_packet.specs.declared.cause.Cause.{Cause}
use Rattle.psk_messages.specs.Message.{Message, psk1, psk2, psk3, psk4}
use Rattle.psk_messages.specs.declared.plain.PskView.{PskView}
use Rattle.psk_messages.specs.declared.plain.PskView.TheVariants as view

abbrev pub fields_of : PskView → Message
fields_of (view.P1 rand_s id_s) = psk1 rand_s id_s.now
fields_of (view.P2 rand_s rand_p mac id_p) = psk2 rand_s rand_p mac id_p.now
fields_of (view.P3 rand_s mac nonce tag sealed) = psk3 rand_s mac nonce tag sealed
fields_of (view.P4 rand_s nonce tag sealed) = psk4 rand_s nonce tag sealed

-- a reader's answer, with the message in place of the view
abbrev pub plain_value : Result PskView Cause → Result Message Cause
plain_value (Ok shown) = Ok (fields_of shown)
plain_value (Err cause) = Err cause
