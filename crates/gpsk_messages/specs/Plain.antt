-- The message of a view whose variants have its fields.
use Rattle.std.specs.Prelude.{Result, Ok, Err}
use Rattle.eap_packet.specs.declared.cause.Cause.{Cause}
use Rattle.gpsk_messages.specs.Message.{Message, gpsk1, gpsk2, gpsk3, gpsk4, fail, protected_fail}
use Rattle.gpsk_messages.specs.declared.plain.GpskView.{GpskView}
use Rattle.gpsk_messages.specs.declared.plain.GpskView.TheVariants as view

abbrev pub fields_of : GpskView → Message
fields_of (view.M1 id_s rand_s list) = gpsk1 id_s.now rand_s list.now
fields_of (view.M2 id_p id_s rand_p rand_s list suite pd mac) =
    gpsk2 id_p.now id_s.now rand_p rand_s list.now suite pd.now mac.now
fields_of (view.M3 rand_p rand_s id_s suite pd mac) =
    gpsk3 rand_p rand_s id_s.now suite pd.now mac.now
fields_of (view.M4 pd mac) = gpsk4 pd.now mac.now
fields_of (view.Fail code) = fail code
fields_of (view.ProtectedFail code mac) = protected_fail code mac.now

-- a reader's answer, with the message in place of the view
abbrev pub plain_value : Result GpskView Cause → Result Message Cause
plain_value (Ok shown) = Ok (fields_of shown)
plain_value (Err cause) = Err cause
