-- What the command check keeps of the packets answers as the packets themselves do.
use Rattle.std.proofs.Common.{◌≡◌, ℕ, ◌+◌, List, [], ◌∷◌, Bool, true, All, Result, Ok, Err, refl}
use Rattle.std.proofs.Common.{length-append}
use Rattle.std.proofs.lemmas.List.Elements.{All-nil}
use Rattle.octet_io.specs.Lines.{Lines, ended, too_long, too_much, line, lines}
use Rattle.login_setup.specs.declared.users.User.{User}
use Rattle.text_tables.specs.Words.{is_printable}
use Rattle.text_tables.specs.Users.{with_user}
use Rattle.request_text.specs.Captures.{Capture, CaptureLine, read_line}
use Rattle.text_tables.specs.declared.fault.LineFault.{LineFault}
use Rattle.text_tables.specs.declared.phase.Phase.{Phase}
use Rattle.text_tables.specs.declared.phase.Phase.TheVariants as phase
use Rattle.request_text.proofs.CaptureSteps.{Follows, Header, Passed, NewUser, AllUsers, NewPacket}
use Rattle.request_text.proofs.CaptureSteps.{AllPackets, line_follows}
use Rattle.text_tables.proofs.Adding.{with_user_all}
use Rattle.capture_check.specs.Captured.{Captured}
use Rattle.capture_check.specs.Finding.{finding_of}
use Rattle.capture_check.specs.CaptureContext.{context_of}
use Rattle.capture_check.proofs.Preserving.{preserved_of_none, preserved_of_next}
use Rattle.command_driver.specs.Commands.{LineResult, answer}
use Rattle.capture_commands.specs.Check.{CheckNow, silent, packet_result_of, item_result_of}
use Rattle.capture_commands.specs.Check.{line_result_of, checking_result, check_closing}
use Rattle.capture_commands.specs.Check.{nothing_checked, check_answer}
use Rattle.capture_commands.specs.CheckSteps.{first_check, silent_step, packet_step, item_step}
use Rattle.capture_commands.specs.CheckSteps.{line_step, check_step, step_closing, kept_in}
use Rattle.capture_commands.specs.declared.check.Check.{Check}

-- before the line `packets` there is no packet
abbrev pub IsEarly : Phase → List Captured → Type 0
IsEarly phase.Unread before = before ≡ []
IsEarly phase.Settings before = before ≡ []
IsEarly phase.Events before = Unit {0}
IsEarly phase.Ended before = Unit {0}

-- and each name is printable
pub record IsOrderly (c : CheckNow) : Type 0 where
  pub early : IsEarly c.reader.phase c.before
  pub names : All (λ user. is_printable user.name ≡ true) c.reader.users

-- what a line brings, with what is kept after it
abbrev preserved_result : LineResult CheckNow → LineResult Check
preserved_result t = record { text = t.text; ruling = t.ruling; after = kept_in t.after }

-- a line brings the same by what is kept, and leaves the capture orderly
pub record StepsAlike (c : CheckNow) (one : LineResult CheckNow)
    (two : LineResult Check) : Type 0 where
  pub alike : two ≡ preserved_result one
  pub orderly : IsOrderly one.after

silent_alike : (c : CheckNow) (reader : Capture) → context_of c.reader.users c.before
    ≡ context_of reader.users c.before →
    silent_step (kept_in c) reader ≡ preserved_result (silent c reader)
silent_alike c reader e = rw e refl

packet_alike : (c : CheckNow) (reader : Capture) (to_peer : Bool) (octets : List ℕ)
    → c.reader.users ≡ reader.users →
    packet_step (kept_in c) reader to_peer octets
    ≡ preserved_result (packet_result_of c reader (record { to_peer = to_peer; octets = octets })
    (finding_of reader.users c.before to_peer octets))
unfolding finding_of
packet_alike c reader to_peer octets e =
    let packet : Captured = record { to_peer = to_peer; octets = octets } in
    rw (
      e,
      preserved_of_next reader.users c.before to_peer octets,
      length-append c.before (packet ∷ []),
    ) refl

no_packets : (users others : List User) (before : List Captured) → before ≡ []
    → context_of users before ≡ context_of others before
no_packets users others before e = rw (e, preserved_of_none users, preserved_of_none others) refl

module _ (users : List User) (before : List Captured) (findings : ℕ) where
  abbrev at : Phase → CheckNow
  at p = record {
    reader = record { phase = p; users = users };
    before = before;
    findings = findings;
  }

  follows_alike : (p : Phase) (out : CaptureLine) → Follows users p out → IsOrderly (at p) →
      StepsAlike (at p) (item_result_of (at p) out.after out.item)
      (item_step (kept_in (at p)) out.after out.item)
  follows_alike _ _ Header h = record {
    alike = silent_alike (at phase.Unread) (record { phase = phase.Settings; users = [] })
        (no_packets users [] before (h.early));
    orderly = record { early = h.early; names = All-nil _ };
  }
  follows_alike _ _ (Passed p) h = record { alike = refl; orderly = h }
  follows_alike _ _ (NewUser user printable) h = record {
    alike = silent_alike (at phase.Settings) (record {
      phase = phase.Settings;
      users = with_user users user;
    }) (no_packets users (with_user users user) before (h.early));
    orderly = record {
      early = h.early;
      names = with_user_all (λ (u : User). is_printable u.name ≡ true) users user
          (h.names) printable;
    };
  }
  follows_alike _ _ AllUsers h =
      record { alike = refl; orderly = record { early = tt; names = h.names } }
  follows_alike _ _ (NewPacket to_peer octets) h = record {
    alike = packet_alike (at phase.Events) (record { phase = phase.Events; users = users })
        to_peer octets refl;
    orderly = record { early = tt; names = h.names };
  }
  follows_alike _ _ AllPackets h =
      record { alike = refl; orderly = record { early = tt; names = h.names } }

line_alike : (c : CheckNow) (x : Result CaptureLine LineFault)
    → ((out : CaptureLine) → x ≡ Ok out → Follows c.reader.users c.reader.phase out) → IsOrderly c →
    StepsAlike c (line_result_of c x) (line_step (kept_in c) x)
line_alike c (Err fault) follows h = record { alike = refl; orderly = h }
line_alike c (Ok out) follows h =
    follows_alike c.reader.users c.before c.findings c.reader.phase out (follows out refl) h

pub result_alike : (c : CheckNow) (l : List ℕ) → IsOrderly c
    → StepsAlike c (checking_result c l) (check_step (kept_in c) l)
unfolding checking_result check_step
result_alike c l h = line_alike c (read_line c.reader l) (line_follows c.reader l) h

closing_alike : (c : CheckNow) → step_closing (kept_in c) ≡ check_closing c
unfolding check_closing step_closing
closing_alike c = refl

answers_alike : (ls : Lines) (n : ℕ) (c : CheckNow) → IsOrderly c
    → answer check_step step_closing n (kept_in c) ls ≡ answer checking_result check_closing n c ls
unfolding answer
answers_alike ended n c h = rw (closing_alike c) refl
answers_alike too_long n c h = refl
answers_alike too_much n c h = refl
answers_alike (line l rest) n c h =
    let step = result_alike c l h in
    rw (step.alike, answers_alike rest (n + 1) (checking_result c l).after (step.orderly)) refl

pub starts_orderly : IsOrderly nothing_checked
starts_orderly = record { early = refl; names = All-nil _ }

first_as_check : first_check ≡ kept_in nothing_checked
first_as_check = rw (preserved_of_none []) refl

-- the answer to an input
pub check_answers : (octets : List ℕ) → answer check_step step_closing 0 first_check (lines octets)
    ≡ check_answer octets
check_answers octets =
    rw first_as_check (answers_alike (lines octets) 0 nothing_checked starts_orderly)
