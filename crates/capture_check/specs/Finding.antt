-- The finding of a captured packet, by the users that are known and all packets before it.
use Rattle.std.specs.Prelude.{◌≡◌, ℕ, List, Bool}
use Rattle.login_setup.specs.declared.users.User.{User}
use Rattle.capture_check.specs.Captured.{Captured}
use Rattle.capture_check.specs.Classified.{Classified, classified_of, malformed, plain, typed}
use Rattle.capture_check.specs.CaptureContext.{context_of, context_after, typed_finding}
use Rattle.capture_check.specs.declared.checker.CaptureContext.{CaptureContext}
use Rattle.capture_check.specs.declared.finding.Finding.{Finding}
use Rattle.capture_check.specs.declared.finding.Finding.TheVariants.{Good, Malformed}

-- the finding of what a packet with these octets is
abbrev pub classified_finding : List User → CaptureContext → List ℕ → Classified → Finding
classified_finding users kept octets (malformed cause) = Malformed cause
classified_finding users kept octets plain = Good
classified_finding users kept octets (typed to_peer kind body) =
    typed_finding users kept octets to_peer kind body

-- the finding of a packet after packets of which this is kept, and what is kept then
unfoldable pub finding_in : List User → CaptureContext → Bool → List ℕ → Finding
finding_in users kept to_peer octets =
    classified_finding users kept octets (classified_of to_peer octets)

unfoldable pub kept_next : List User → CaptureContext → Bool → List ℕ → CaptureContext
kept_next users kept to_peer octets = context_after users kept (classified_of to_peer octets)

-- the finding of a packet after these packets
unfoldable pub finding_of : List User → List Captured → Bool → List ℕ → Finding
finding_of users before to_peer octets = finding_in users (context_of users before) to_peer octets

-- what a checker keeps is what counts of these packets, all that it has seen
unfoldable pub IsStateAfter : CaptureContext → List User → List Captured → Type 0
IsStateAfter kept users packets = kept ≡ context_of users packets

-- a checker with its users, and what it keeps
pub record Checking : Type 0 where
  pub users : List User
  pub kept : CaptureContext
