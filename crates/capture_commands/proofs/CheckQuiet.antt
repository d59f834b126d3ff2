-- No line of `check` begins as the line of the result does.
use Rattle.std.proofs.Common.{◌≡◌, ℕ, ◌+◌, ◌≤◌, List, [], ◌∷◌, length, true, ◌==◌, All, Result, Ok}
use Rattle.std.proofs.Common.{Err, refl, subst, get_or, arith}
use Rattle.std.proofs.lemmas.Bool.{and_parts, leb-true, ne_eqb}
use Rattle.std.specs.Prelude.{◌&&◌, nat_le}
use Rattle.octet_io.specs.Lines.{lines}
use Rattle.login_setup.specs.declared.users.User.{User}
use Rattle.text_tables.specs.Words.{is_printable}
use Rattle.text_tables.specs.declared.fault.LineFault.{LineFault}
use Rattle.request_text.specs.Captures.{Capture, CaptureLine, read_line, finish_of}
use Rattle.request_text.specs.declared.capture.CaptureItemKind.{CaptureItemKind}
use Rattle.request_text.specs.declared.capture.CaptureItemKind.TheVariants as item
use Rattle.capture_check.specs.Finding.{finding_of}
use Rattle.capture_check.proofs.Preserving.{finding_names}
use Rattle.answer_text.proofs.Plain.{is_within, plain, skips}
use Rattle.answer_text.proofs.PlainKeys.{starts_result, no_result}
use Rattle.answer_text.proofs.PlainFindings.{finding_plain, findings_plain}
use Rattle.command_driver.proofs.Quiet.{IsQuiet, IsQuietLine, quiet_answer}
use Rattle.capture_commands.specs.Check.{CheckNow, item_result_of, line_result_of, checking_result}
use Rattle.capture_commands.specs.Check.{check_end, check_closing, nothing_checked, check_answer}
use Rattle.capture_commands.proofs.Checking.{IsOrderly, result_alike, starts_orderly}

printable_within : (text : List ℕ) → is_printable text ≡ true → is_within text ≡ true
printable_within [] h = refl
printable_within (o ∷ rest) h =
    let parts = and_parts (nat_le 32 o && nat_le o 126) (is_printable rest) h in
    let low : 32 ≤ o = leb-true 32 o (and_parts (nat_le 32 o) (nat_le o 126) parts.0).0 in
    skips (o == 10) (is_within rest) (ne_eqb o 10 (λ e. omega (arith, low, e)))
    (printable_within rest parts.1)

names_within : (users : List User) → All (λ user. is_printable user.name ≡ true) users
    → All (λ user. is_within user.name ≡ true) users
names_within users h = λ k d below. printable_within (get_or users k d).name (h k d below)

item_quiet : (c : CheckNow) (reader : Capture) (i : CaptureItemKind)
    → All (λ user. is_printable user.name ≡ true) reader.users
    → IsOrderly (item_result_of c reader i).after
    → IsQuietLine starts_result IsOrderly (item_result_of c reader i)
item_quiet c reader item.Nothing h orderly = record { text = refl; refusing = tt; after = orderly }
item_quiet c reader item.Ready h orderly = record { text = refl; refusing = tt; after = orderly }
item_quiet c reader (item.Packet to_peer octets) h orderly = record {
  text = finding_plain starts_result no_result (length c.before + 1)
      (finding_of reader.users c.before to_peer octets) (finding_names (λ name. is_within name
      ≡ true) reader.users (names_within reader.users h) c.before to_peer octets);
  refusing = tt;
  after = orderly;
}
item_quiet c reader item.End h orderly = record { text = refl; refusing = tt; after = orderly }

after_item : (c : CheckNow) (reader : Capture) (i : CaptureItemKind)
    → (item_result_of c reader i).after.reader ≡ reader
after_item c reader item.Nothing = refl
after_item c reader item.Ready = refl
after_item c reader (item.Packet to_peer octets) = refl
after_item c reader item.End = refl

line_quiet : (c : CheckNow) (x : Result CaptureLine LineFault) → IsOrderly (line_result_of c
    x).after → IsQuietLine starts_result IsOrderly (line_result_of c x)
line_quiet c (Err fault) orderly = record { text = refl; refusing = tt; after = orderly }
line_quiet c (Ok out) orderly =
    item_quiet c out.after out.item
    (subst (λ (r : Capture). All (λ user. is_printable user.name ≡ true) r.users)
    (after_item c out.after out.item) orderly.names) orderly

result_quiet : (c : CheckNow) (l : List ℕ) → IsOrderly c
    → IsQuietLine starts_result IsOrderly (checking_result c l)
unfolding checking_result
result_quiet c l h = line_quiet c (read_line c.reader l) ((result_alike c l h).orderly)

end_quiet : (packets findings : ℕ) (x : Result (Unit {0}) LineFault)
    → plain starts_result true (check_end packets findings x).text ≡ true
end_quiet packets findings (Err fault) = refl
end_quiet packets findings (Ok done) = findings_plain packets findings

closing_quiet : (c : CheckNow) → plain starts_result true (check_closing c).text ≡ true
unfolding check_closing
closing_quiet c = end_quiet (length c.before) c.findings (finish_of c.reader)

pub check_quiet : (octets : List ℕ) → IsQuiet starts_result (check_answer octets)
check_quiet octets = quiet_answer starts_result checking_result check_closing IsOrderly result_quiet
    closing_quiet (lines octets) 0 nothing_checked starts_orderly
