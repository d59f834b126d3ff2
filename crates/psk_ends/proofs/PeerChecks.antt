-- The peer's answer to PSK-3, by what its check gave.
use Rattle.std.proofs.Common.{◌≡◌, ℕ, List, Option, None, Some, Ok, Err}
use Rattle.eap_packet.specs.declared.cause.Cause.{Cause}
use Rattle.eap_method.specs.declared.tags.TagRecord.{TagRecord}
use Rattle.eap_method.specs.PskTags.{result_of}
use Rattle.eap_method.specs.PskPeer.{Login, wait, confirms}
use Rattle.eap_method.specs.Turns.{discarded}
use Rattle.psk_ends.specs.Checks.{value_unless}

-- a PSK-3 with a fault is discarded
pub is_discarded : (login : Login) (id opened : ℕ) (accepted : List TagRecord)
    (fault : Option Cause) (cause : Cause)
    → Err cause ≡ value_unless fault opened
    → discarded (wait login) cause ≡ confirms login id (result_of opened) accepted fault
unfolding confirms
is_discarded login id opened accepted None cause h = cc
is_discarded login id opened accepted (Some other) cause h = cc

-- one without is answered by its R
pub is_confirmed : (login : Login) (id opened : ℕ) (accepted : List TagRecord)
    (fault : Option Cause) (octet : ℕ)
    → Ok octet ≡ value_unless fault opened
    → confirms login id (result_of octet) accepted None
    ≡ confirms login id (result_of opened) accepted fault
unfolding confirms
is_confirmed login id opened accepted None octet h = cc
is_confirmed login id opened accepted (Some other) octet h = cc
