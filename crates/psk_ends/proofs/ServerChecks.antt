-- The server's answer to PSK-4, by what its check gave.
use Rattle.std.proofs.Common.{◌≡◌, ℕ, List, Option, None, Some, Ok, Err}
use Rattle.eap_packet.specs.declared.cause.Cause.{Cause}
use Rattle.eap_method.specs.declared.tags.TagRecord.{TagRecord}
use Rattle.eap_method.specs.PskTags.{result_of}
use Rattle.eap_method.specs.PskServer as server
use Rattle.eap_method.specs.PskServer.{Login, over, both_succeed, ends}
use Rattle.eap_method.specs.Turns.{dropped, done}
use Rattle.psk_ends.specs.Checks.{value_unless}

-- a PSK-4 with a fault is discarded
pub is_dropped : (login : Login) (opened : ℕ) (accepted : List TagRecord) (fault : Option Cause)
    (cause : Cause)
    → Err cause ≡ value_unless fault opened → dropped (server.checked login) cause
    ≡ ends login (result_of opened) accepted fault
unfolding ends
is_dropped login opened accepted None cause h = cc
is_dropped login opened accepted (Some other) cause h = cc

-- one without ends the login by its R
pub is_end : (login : Login) (opened : ℕ) (accepted : List TagRecord)
    (fault : Option Cause) (octet : ℕ)
    → Ok octet ≡ value_unless fault opened
    → (let good = both_succeed login (result_of octet) in done (over login good) good accepted
    ≡ ends login (result_of opened) accepted fault)
unfolding ends
is_end login opened accepted None octet h = cc
is_end login opened accepted (Some other) octet h = cc
