-- What is kept of a list of packets and one more, and the names that findings tell, by each method.
use Rattle.std.proofs.Common.{◌≡◌, ℕ, List, [], ◌∷◌, ◌++◌, Bool, true, false, cond, All, refl}
use Rattle.std.specs.Prelude.{◌==◌}
use Rattle.octet_lists.specs.Among.{gpsk_kind, psk_kind}
use Rattle.login_setup.specs.declared.users.User.{User}
use Rattle.capture_check.specs.Captured.{Captured, last_shown}
use Rattle.capture_check.specs.Classified.{Classified, classified_of, malformed, plain, typed}
use Rattle.capture_check.specs.Gpsk.{gpsk_read, last_gpsk2}
use Rattle.capture_check.specs.Psk.{psk_read, last_psk1, last_psk2}
use Rattle.capture_check.specs.CaptureContext.{no_context_yet, context_of}
use Rattle.capture_check.specs.Finding.{classified_finding, finding_in, kept_next, finding_of}
use Rattle.capture_check.specs.declared.finding.Finding.{Finding}
use Rattle.capture_check.specs.declared.finding.Finding.TheVariants.{Good}
use Rattle.capture_check.proofs.GpskLaws.{gpsk2_of_more, gpsk_named, gpsk2_stored}
use Rattle.capture_check.proofs.Names.{Names}
use Rattle.capture_check.proofs.PskLaws.{psk1_of_more, psk2_of_more, psk_named, psk2_stored}

-- what is kept after one packet more
pub preserved_of_next : (users : List User) (packets : List Captured) (to_peer : Bool)
    (octets : List ℕ) →
    context_of users (packets ++ (record { to_peer = to_peer; octets = octets }) ∷ [])
    ≡ kept_next users (context_of users packets) to_peer octets
unfolding context_of kept_next
preserved_of_next users packets to_peer octets =
    rw (
      gpsk2_of_more users packets to_peer octets,
      psk1_of_more packets to_peer octets,
      psk2_of_more users packets to_peer octets,
    ) refl

-- nothing is kept of no packets
pub preserved_of_none : (users : List User) → context_of users [] ≡ no_context_yet
unfolding context_of last_psk1 last_gpsk2 last_psk2 last_shown
preserved_of_none users = refl

module _ (P : List ℕ → Type 0) where
  either_named : (b c : Bool) (x y : Finding) → Names P x → Names P y
      → (let finding : Finding = cond b x (cond c y Good) in Names P finding)
  either_named true c x y h k = h
  either_named false true x y h k = k
  either_named false false x y h k = tt

  received_named : (users : List User) → All (λ (u : User). P u.name) users
      → (before : List Captured) (octets : List ℕ) (heard : Classified) →
      Names P (classified_finding users (context_of users before) octets heard)
  unfolding context_of
  received_named users all before octets (malformed cause) = tt
  received_named users all before octets plain = tt
  received_named users all before octets (typed to_peer kind body) =
      either_named (kind == gpsk_kind) (kind == psk_kind) _ _
      (gpsk_named P users all (last_gpsk2 users before) (gpsk_read to_peer body)
      (gpsk2_stored P users all before)).1 (psk_named P users all (context_of users before).psk
      octets (psk_read to_peer body) (psk2_stored P users all before)).1

  -- the name of a user alone
  pub finding_names : (users : List User) → All (λ (u : User). P u.name) users
      → (before : List Captured) (to_peer : Bool) (octets : List ℕ) →
      Names P (finding_of users before to_peer octets)
  unfolding finding_of finding_in
  finding_names users all before to_peer octets =
      received_named users all before octets (classified_of to_peer octets)
