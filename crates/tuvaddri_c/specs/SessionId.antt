-- The Session-Id of a login (RFC 5247 section 1.4).
use Rattle.std.specs.Prelude.{ℕ, List, Option, Some, None}
use Rattle.tuvaddri_c.specs.ByMethod.{session_id_of_report}
use Rattle.tuvaddri_c.specs.Gpsk.{zeros, front_of, end_key}
use Rattle.tuvaddri_c.specs.Reports.{EndReport, end_stored}
use Rattle.tuvaddri_c.specs.declared.session.End.{End}

-- an end's Session-Id, as the standard defines it and as wpa_supplicant and hostapd derive it
abbrev pub if_stored : Option EndReport → (EndReport → Option (List ℕ)) → Option (List ℕ)
if_stored None id = None
if_stored (Some held) id = id held

abbrev pub session_id : End → Option (List ℕ)
session_id e = if_stored (end_stored e) (session_id_of_report zeros)

abbrev pub session_id_wpa : End → Option (List ℕ)
session_id_wpa e = if_stored (end_stored e)
    (λ held. session_id_of_report (front_of (end_key e held.report.id_p)) held)
