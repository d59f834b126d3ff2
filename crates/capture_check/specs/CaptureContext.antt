-- The packets before a packet on which its finding rests, of each kind the last one that counts,
-- and the finding by each method.
use Rattle.std.specs.Prelude.{ℕ, List, Bool, ◌==◌, if◌then◌else◌, None}
use Rattle.octet_lists.specs.Among.{gpsk_kind, psk_kind}
use Rattle.login_setup.specs.declared.users.User.{User}
use Rattle.capture_check.specs.Captured.{Captured}
use Rattle.capture_check.specs.Classified.{Classified}
use Rattle.capture_check.specs.Gpsk.{gpsk_read, gpsk_finding, last_gpsk2, gpsk_after}
use Rattle.capture_check.specs.Psk.{psk_read, psk_finding, last_psk1, last_psk2, psk_after}
use Rattle.capture_check.specs.declared.checker.CaptureContext.{CaptureContext}
use Rattle.capture_check.specs.declared.finding.Finding.{Finding}
use Rattle.capture_check.specs.declared.finding.Finding.TheVariants.{Good}

-- nothing is kept of no packets
abbrev pub no_context_yet : CaptureContext
no_context_yet = record { gpsk = None; psk = record { psk1 = None; psk2 = None } }

-- of each kind the last one of a list
unfoldable pub context_of : List User → List Captured → CaptureContext
context_of users packets = record {
  gpsk = last_gpsk2 users packets;
  psk = record { psk1 = last_psk1 packets; psk2 = last_psk2 users packets };
}

-- what counts of a packet takes the place of what was kept
abbrev pub context_after : List User → CaptureContext → Classified → CaptureContext
context_after users kept
    heard = record { gpsk = gpsk_after users kept.gpsk heard; psk = psk_after users kept.psk heard }

-- the finding of a Request to the peer, or a Response from it, with these octets, this Type and
-- Type-Data
abbrev pub typed_finding : List User → CaptureContext → List ℕ → Bool → ℕ → List ℕ → Finding
typed_finding users kept octets to_peer kind body =
    if kind == gpsk_kind then gpsk_finding users kept.gpsk (gpsk_read to_peer body)
    else if kind == psk_kind then psk_finding users kept.psk octets (psk_read to_peer body)
    else Good
