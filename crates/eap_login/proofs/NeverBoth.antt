-- No text that ends with status 0 has the line of honest tags and the line of ends that are apart,
-- and says that nonces are fresh or nothing of them.
use Rattle.std.proofs.Common.{◌≡◌, List, ℕ, ◌++◌, Bool, true, false, Option, Some, None, sym, subst}
use Rattle.std.proofs.Common.{◌∙◌, refl, codes}
use Rattle.std.proofs.lemmas.Bool.{true≢false}
use Rattle.std.proofs.lemmas.Option.{same_Some}
use Rattle.std.proofs.lemmas.List.{append_cancel_left}
use Rattle.std.specs.Prelude.{if◌then◌else◌}
use Rattle.octet_io.specs.Known.{append_known}
use Rattle.login_setup.specs.declared.users.User.{User}
use Rattle.answer_text.proofs.Plain.{none}
use Rattle.answer_text.proofs.PlainKeys.{starts_result}
use Rattle.answer_text.proofs.Scanning.{found}
use Rattle.command_driver.specs.Answers.{Answer, IsCutShort, by_read, by_write, by_memory, Ends}
use Rattle.command_driver.specs.Answers.{entire, cut_short}
use Rattle.command_driver.specs.Responding.{Asked, answer_to}
use Rattle.command_driver.specs.declared.status.Status.{Status}
use Rattle.command_driver.specs.declared.status.Status.TheVariants as status
use Rattle.command_driver.proofs.Quiet.{IsQuiet}
use Rattle.capture_commands.proofs.DecodeQuiet.{decode_quiet}
use Rattle.capture_commands.proofs.KeysQuiet.{keys_quiet}
use Rattle.capture_commands.specs.Pcap.{pcap_users}
use Rattle.capture_commands.proofs.CheckQuiet.{check_quiet}
use Rattle.capture_commands.proofs.PcapQuiet.{pcap_quiet}
use Rattle.capture_commands.proofs.PcapUsers.{HaveNames, pcap_names}
use Rattle.capture_commands.proofs.RadiusQuiet.{starts_tags, radius_quiet}
use Rattle.world_commands.specs.Bulk.{bulk_of}
use Rattle.world_commands.specs.Headline.{NeverBoth, WritesNeverBoth}
use Rattle.world_commands.specs.declared.bulk.Bulk.{Bulk}
use Rattle.world_commands.proofs.BulkQuiet.{bulk_quiet}
use Rattle.world_commands.proofs.NeverReplayed.{Never, never_replay}
use Rattle.end_commands.proofs.EndQuiet.{peer_quiet, server_quiet}
use Rattle.eap_login.specs.Login.{usage_answer, unread_answer, asked_with, login_answer, is_replay}
use Rattle.eap_login.specs.Login.{is_replay_names, is_decode, is_keys, is_check, is_radius, is_peer}
use Rattle.eap_login.specs.Login.{is_server}

-- a text without a line that begins as that of the result, or of the tags, has not all of these
without_result : (a : Answer) → IsQuiet starts_result a → Never a
without_result a q = record {
  holds = λ done honest apart fresh. true≢false (sym (found (codes "result apart") a.text apart)
      ∙ none starts_result 114 (codes "esult apart\n") refl a.text true (q.holds done));
}

without_tags : (a : Answer) → IsQuiet starts_tags a → Never a
without_tags a q = record {
  holds = λ done honest apart fresh. true≢false (sym (found (codes "tags honest") a.text honest)
      ∙ none starts_tags 116 (codes "ags honest\n") refl a.text true (q.holds done));
}

never_usage : Never usage_answer
never_usage = record { holds = λ done. absurd (usage_is_not done) }
  where
    usage_is_not : status.Usage ≡ status.Done → ⊥
    usage_is_not e = cc

never_unread : (asked : Option Bulk) → Never (unread_answer asked)
never_unread None = never_usage
never_unread (Some b) = without_result _ (bulk_quiet b)

never_with : (users : Option (List User)) (asked : Option Bulk) (octets : List ℕ)
    → ((named : List User) → users ≡ Some named → HaveNames named)
    → Never (answer_to (asked_with users asked) octets)
never_with None asked octets h = never_unread asked
never_with (Some users) asked octets h = without_tags _ (pcap_quiet users (h users refl) octets)

-- one of two things asked
either : (b : Bool) (asked other : Asked) (octets : List ℕ) → Never (answer_to asked octets)
    → Never (answer_to other octets)
    → Never (answer_to (if b then asked else other) octets)
either true asked other octets one two = one
either false asked other octets one two = two

never_login : (words : List (List ℕ)) (octets : List ℕ) → Never (login_answer words octets)
never_login words octets =
    either (is_replay words) _ _ octets (never_replay false octets)
    (either (is_replay_names words) _ _ octets (never_replay true octets)
    (either (is_decode words) _ _ octets (without_result _ (decode_quiet octets))
    (either (is_keys words) _ _ octets (without_result _ (keys_quiet octets))
    (either (is_check words) _ _ octets (without_result _ (check_quiet octets))
    (either (is_radius words) _ _ octets (without_tags _ (radius_quiet octets))
    (either (is_peer words) _ _ octets (without_result _ (peer_quiet octets))
    (either (is_server words) _ _ octets (without_result _ (server_quiet octets))
    (never_with (pcap_users words) (bulk_of words) octets (pcap_names words)))))))))

-- ---- what is written

same_text : (old one other : List ℕ) (now : Option (List ℕ)) → append_known (Some old) one ≡ now
    → now ≡ Some (old ++ other) → one ≡ other
same_text old one other now p q =
    append_cancel_left old one other (same_Some (old ++ one) (old ++ other) (p ∙ q))

never_cut : (s : Status) → IsCutShort s → s ≡ status.Done → ⊥
never_cut s (by_read e) done = cc
never_cut s (by_write e) done = cc
never_cut s (by_memory e) done = cc

written : (a : Answer) (s : Status) (before now : Option (List ℕ)) → Never a → Ends s before now a
    → WritesNeverBoth s before now
written a s before now never (entire text is) = record {
  holds = λ done old shown p q.
      let appended : append_known (Some old) a.text ≡ now =
      subst (λ (x : Option (List ℕ)). append_known x a.text ≡ now) p text in
      subst NeverBoth (same_text old a.text shown now appended q) (never.holds (is ∙ done));
}
written a s before now never (cut_short why front) =
    record { holds = λ done. absurd (never_cut s why done) }

pub writes_never_both : (s : Status) (before now : Option (List ℕ)) (words : List (List ℕ))
    (octets : List ℕ)
    → Ends s before now (login_answer words octets) → WritesNeverBoth s before now
writes_never_both s before now words octets =
    written (login_answer words octets) s before now (never_login words octets)
