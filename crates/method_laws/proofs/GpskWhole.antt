-- A whole login by EAP-GPSK.
use Rattle.std.proofs.Common.{◌≡◌, ℕ, ◌*◌, ◌<◌, ◌≤◌, List, [], ◌∷◌, length, true, false, Option}
use Rattle.std.proofs.Common.{Some, None, Ok, refl, sym, ap, ◌∙◌, arith, inl, inr, ⊎_elim}
use Rattle.std.specs.Prelude.{◌==◌, ◌⊎◌, slice_index}
use Rattle.std.specs.Str.{bytes_eq}
use Rattle.std.proofs.lemmas.Bool.{cond-true, cond_both, and_from, or_left, or_right, and_parts}
use Rattle.std.proofs.lemmas.Bool.{eq-eqb}
use Rattle.std.proofs.lemmas.Option.{same_Some, none-some}
use Rattle.octet_lists.specs.declared.suite.Suite.{Suite}
use Rattle.octet_lists.specs.declared.suite.Suite.TheVariants.{Cmac, Hmac}
use Rattle.octet_lists.specs.Suite.{ks_of, suite_number, suite_octets}
use Rattle.octet_lists.specs.Among.{gpsk_kind, is_among}
use Rattle.login_setup.specs.Setup.{accepts_name}
use Rattle.eap_packet.specs.declared.cause.Cause.TheVariants.{FieldMismatch, SuiteNotOffered}
use Rattle.eap_packet.specs.declared.cause.Cause.TheVariants.{BadTag}
use Rattle.gpsk_messages.specs.Message.{Message, gpsk2, gpsk3, gpsk4, covered_of, mac_of, spelled}
use Rattle.gpsk_messages.specs.Message.{list_of, IsSuiteList, AreFields, HasMac}
use Rattle.gpsk_messages.specs.Reading.{read_of}
use Rattle.gpsk_messages.proofs.Grammar.{encodings_are_read}
use Rattle.login_keys.specs.Gpsk.{gpsk_tag_of, gpsk_keys_of}
use Rattle.login_keys.specs.declared.gpsk.GpskKeys.{GpskKeys}
use Rattle.login_keys.proofs.GpskLaws.{length_gpsk_tag_of}
use Rattle.login_policy.specs.Policy.{picked_suite, suite_or, is_allowed}
use Rattle.eap_method.specs.GpskTags.{gpsk_request, gpsk_response, suite_list, is_tagged}
use Rattle.eap_method.specs.GpskTags.{message_with_mac, same_suite}
use Rattle.eap_method.specs.Turns.{body_of}
use Rattle.eap_method.specs.GpskPeer as peer
use Rattle.eap_method.specs.GpskServer as server
use Rattle.method_laws.specs.GpskLogin.{Ends, Compatible, peer_login, server_login}
use Rattle.method_laws.specs.GpskLogin.{GpskLoginsGoThrough}
use Rattle.method_laws.proofs.Packets.{request_body, request_id, response_body}
use Rattle.method_laws.proofs.Tests.{equal_octets, bytes_same, no_fault}

-- ---- messages

-- a message within its limits is read from its spelling
reads : (ks : Option ℕ) (message : Message) → AreFields message → HasMac ks message
    → length (list_of message) ≤ 6 * 20
    → read_of ks (spelled message) ≡ Ok message
reads ks message fields mac suites =
    encodings_are_read ks (spelled message) message (record {
      loosely = record { fields = fields; mac = mac; encoding_of = refl };
      suites = suites;
    })

-- ---- the list of suites

length_suite_list : (suites : List ℕ) → length (suite_list suites) ≡ 6 * length suites
unfolding suite_list
length_suite_list [] = refl
length_suite_list (suite ∷ suites) = let rest = length_suite_list suites in omega arith

is_list : (suites : List ℕ) → 0 < length suites → length suites ≤ 20
    → IsSuiteList (suite_list suites)
is_list suites some few =
    let size = length_suite_list suites in
    record { some = omega arith; whole = omega arith; size = omega arith }

-- ---- tests

same_suite_same : (suite : Suite) → same_suite suite suite ≡ true
same_suite_same Cmac = refl
same_suite_same Hmac = refl

-- ---- the suite that is picked was offered

named_or_later : (allowed entry : List ℕ) (otherwise : Option Suite) (suite : Suite)
    → suite_or allowed entry otherwise ≡ Some suite
    → (entry ≡ suite_octets suite) ⊎ (otherwise ≡ Some suite)
named_or_later allowed entry otherwise suite =
    let told : Option Suite → Type 0 =
    λ found. found ≡ Some suite → (entry ≡ suite_octets suite) ⊎ (otherwise ≡ Some suite) in
    let named : (one : Suite) → is_allowed allowed entry one ≡ true → told (Some one) =
    λ one is e. inl (equal_octets _ _ (and_parts (bytes_eq entry (suite_octets one)) _ is).0
    ∙ ap suite_octets (same_Some one suite e)) in
    cond_both (is_allowed allowed entry Cmac) _ _ told (named Cmac)
    (λ _. cond_both (is_allowed allowed entry Hmac) _ _ told (named Hmac) (λ _ e. inr e))

offers : (allowed suites : List ℕ) (suite : Suite) → picked_suite allowed (suite_list suites)
    ≡ Some suite → is_among suites (suite_number suite) ≡ true
unfolding suite_list picked_suite
offers allowed [] suite e = absurd (none-some _ e)
offers allowed (first ∷ suites) suite e =
    ⊎_elim
    (λ named. or_left (first == suite_number suite) _
    (eq-eqb first (suite_number suite) (ap (λ (octets : List ℕ). slice_index octets 5) named)))
    (λ later. or_right (first == suite_number suite) _ (offers allowed suites suite later))
    (named_or_later allowed (0 ∷ 0 ∷ 0 ∷ 0 ∷ 0 ∷ first ∷ [])
    (picked_suite allowed (suite_list suites)) suite e)

-- ---- MACs

-- a message with the MAC of its covered octets is found to have it
is_tagged_so : (suite : Suite) (sk other : List ℕ) (message : Message)
    → covered_of (message_with_mac suite sk message) ≡ covered_of message
    → mac_of (message_with_mac suite sk message) ≡ gpsk_tag_of suite sk (covered_of message)
    → sk ≡ other
    → is_tagged suite other (message_with_mac suite sk message) ≡ true
is_tagged_so suite sk other message covered mac same =
    ap (λ octets. bytes_eq (gpsk_tag_of suite other octets)
    (mac_of (message_with_mac suite sk message))) covered
    ∙ ap (λ octets. bytes_eq (gpsk_tag_of suite other (covered_of message)) octets)
    (mac ∙ ap (λ key. gpsk_tag_of suite key (covered_of message)) same)
    ∙ bytes_same (gpsk_tag_of suite other (covered_of message))

gpsk2_tagged : (suite : Suite) (sk other id_p id_s rand_p rand_s list : List ℕ) → sk ≡ other
    → is_tagged suite other (message_with_mac suite sk
    (gpsk2 id_p id_s rand_p rand_s list suite [] [])) ≡ true
unfolding covered_of
gpsk2_tagged suite sk other id_p id_s rand_p rand_s list same =
    is_tagged_so suite sk other (gpsk2 id_p id_s rand_p rand_s list suite [] []) refl refl same

gpsk3_tagged : (suite : Suite) (sk other rand_p rand_s id_s : List ℕ) → sk ≡ other
    → is_tagged suite other (message_with_mac suite sk (gpsk3 rand_p rand_s id_s suite [] []))
    ≡ true
unfolding covered_of
gpsk3_tagged suite sk other rand_p rand_s id_s same =
    is_tagged_so suite sk other (gpsk3 rand_p rand_s id_s suite [] []) refl refl same

gpsk4_tagged : (suite : Suite) (sk other : List ℕ) → sk ≡ other
    → is_tagged suite other (message_with_mac suite sk (gpsk4 [] [])) ≡ true
unfolding covered_of
gpsk4_tagged suite sk other same = is_tagged_so suite sk other (gpsk4 [] []) refl refl same

-- ---- the turns

module _ (ends : Ends) (fit : Compatible ends) where
  same_keys : peer.keys_of (peer_login ends) ≡ server.keys_of (server_login ends)
  unfolding peer.keys_of server.keys_of
  same_keys = ap (λ psk. gpsk_keys_of ends.suite psk ends.nonce ends.cred.id_p ends.setup_with_nonce
      ends.own.id_s) (sym fit.one_key)

  same_sk : (peer.keys_of (peer_login ends)).sk ≡ (server.keys_of (server_login ends)).sk
  same_sk = ap (λ (keys : GpskKeys). keys.sk) same_keys

  lists : IsSuiteList (suite_list ends.own.suites)
  lists = is_list ends.own.suites fit.some_suites fit.few_suites

  few_octets : length (suite_list ends.own.suites) ≤ 6 * 20
  few_octets =
      let size = length_suite_list ends.own.suites in let few = fit.few_suites in omega arith

  reads_gpsk1 : read_of None (spelled (server.gpsk1_of ends.own ends.setup_with_nonce))
      ≡ Ok (server.gpsk1_of ends.own ends.setup_with_nonce)
  reads_gpsk1 = reads None _ (fit.server_name, fit.server_nonce, lists) tt few_octets

  reads_gpsk2 : read_of None (spelled (peer.gpsk2_of (peer_login ends) (suite_list
      ends.own.suites))) ≡ Ok (peer.gpsk2_of (peer_login ends) (suite_list ends.own.suites))
  reads_gpsk2 = reads None _
      (fit.peer_name, fit.server_name, fit.peer_nonce, fit.server_nonce, lists, omega arith)
      (length_gpsk_tag_of _ _ _) few_octets

  reads_gpsk3 : read_of (Some (ks_of ends.suite)) (spelled (server.gpsk3_of (server_login ends)))
      ≡ Ok (server.gpsk3_of (server_login ends))
  reads_gpsk3 = reads _ _ (fit.peer_nonce, fit.server_nonce, fit.server_name, omega arith)
      (length_gpsk_tag_of _ _ _) (omega arith)

  reads_gpsk4 : read_of (Some (ks_of ends.suite)) (spelled (peer.gpsk4_of (peer_login ends)))
      ≡ Ok (peer.gpsk4_of (peer_login ends))
  reads_gpsk4 = reads _ _ (omega arith) (length_gpsk_tag_of _ _ _) (omega arith)

  begins : (id : ℕ) → server.first_step (server.begun ends.own ends.setup_with_nonce) id
      ≡ record {
        packet = gpsk_request id (server.gpsk1_of ends.own ends.setup_with_nonce);
        after = server.asked ends.own ends.setup_with_nonce;
      }
  unfolding server.first_step server.first
  begins id = refl

  answers : (id : ℕ) → peer.step (peer.fresh ends.cred ends.nonce) (gpsk_request id
      (server.gpsk1_of ends.own ends.setup_with_nonce))
      ≡ peer.answers (peer_login ends) id (suite_list ends.own.suites)
  unfolding peer.step
  answers id =
      let message : Message = server.gpsk1_of ends.own ends.setup_with_nonce in
      ap (λ number. peer.fresh_reads ends.cred ends.nonce number (read_of None
      (body_of (gpsk_request id message)))) (request_id id gpsk_kind (spelled message))
      ∙ ap (λ octets. peer.fresh_reads ends.cred ends.nonce id (read_of None octets))
      (request_body id gpsk_kind (spelled message))
      ∙ ap (λ read. peer.fresh_reads ends.cred ends.nonce id read) reads_gpsk1
      ∙ cond-true (accepts_name ends.cred.accepts ends.own.id_s) _ _ fit.accepted
      ∙ ap (λ found. peer.picks ends.cred ends.nonce id ends.own.id_s ends.setup_with_nonce
      (suite_list ends.own.suites) found) fit.picked

  repeats_gpsk1 : server.repeats ends.own ends.setup_with_nonce ends.own.id_s ends.setup_with_nonce
      (suite_list ends.own.suites) ≡ true
  repeats_gpsk1 = and_from _ _ (bytes_same ends.own.id_s)
      (and_from _ _ (bytes_same ends.setup_with_nonce) (bytes_same (suite_list ends.own.suites)))

  checks : (id next_id : ℕ)
      → server.step ends.users next_id (server.asked ends.own ends.setup_with_nonce)
      (gpsk_response id (peer.gpsk2_of (peer_login ends) (suite_list ends.own.suites)))
      ≡ server.answers (server_login ends) false next_id
      (peer.gpsk2_of (peer_login ends) (suite_list ends.own.suites))
  unfolding server.step
  checks id next_id =
      let message : Message = peer.gpsk2_of (peer_login ends) (suite_list ends.own.suites) in
      ap (λ octets. server.asked_reads ends.users ends.own ends.setup_with_nonce next_id
      (read_of None octets)) (response_body id gpsk_kind (spelled message))
      ∙ ap (λ read. server.asked_reads ends.users ends.own ends.setup_with_nonce next_id read)
      reads_gpsk2
      ∙ ap (λ fault. server.receives_gpsk2 ends.users ends.own ends.setup_with_nonce next_id
      ends.cred.id_p ends.nonce ends.suite message fault)
      (no_fault _ FieldMismatch _ repeats_gpsk1 ∙ no_fault _ SuiteNotOffered None (offers
      ends.cred.suites ends.own.suites ends.suite fit.picked))
      ∙ ap (λ found. server.finds ends.own ends.setup_with_nonce next_id ends.cred.id_p ends.nonce
      ends.suite message found) fit.known
      ∙ cond-true (server.is_tagged_by (server_login ends) message) _ _
      (gpsk2_tagged ends.suite _ _ _ _ _ _ _ same_sk)
      ∙ ap (λ barred. server.answers (server_login ends) barred next_id message) fit.not_barred

  repeats_gpsk2 : peer.repeats (peer_login
      ends) ends.nonce ends.setup_with_nonce ends.own.id_s ends.suite ≡ true
  repeats_gpsk2 =
      and_from _ _ (bytes_same ends.nonce) (and_from _ _ (bytes_same ends.setup_with_nonce)
      (and_from _ _ (bytes_same ends.own.id_s) (same_suite_same ends.suite)))

  confirms : (id : ℕ) → peer.step (peer.wait (peer_login ends)) (gpsk_request id
      (server.gpsk3_of (server_login ends)))
      ≡ peer.confirms (peer_login ends) id (server.gpsk3_of (server_login ends)) None
  unfolding peer.step
  confirms id =
      let message : Message = server.gpsk3_of (server_login ends) in
      ap (λ number. peer.wait_reads (peer_login ends) number (read_of (Some (ks_of ends.suite))
      (body_of (gpsk_request id message)))) (request_id id gpsk_kind (spelled message))
      ∙ ap (λ octets. peer.wait_reads (peer_login ends) id
      (read_of (Some (ks_of ends.suite)) octets)) (request_body id gpsk_kind (spelled message))
      ∙ ap (λ read. peer.wait_reads (peer_login ends) id read) reads_gpsk3
      ∙ ap (λ fault. peer.confirms (peer_login ends) id message fault)
      (no_fault _ FieldMismatch _ repeats_gpsk2
      ∙ no_fault _ BadTag None (gpsk3_tagged ends.suite _ _ _ _ _ (sym same_sk)))

  finishes : (id last_id : ℕ) → server.step ends.users last_id (server.checked
      (server_login ends)) (gpsk_response id (peer.gpsk4_of (peer_login ends)))
      ≡ server.ends (server.checked (server_login ends)) (server_login ends) true
      (peer.gpsk4_of (peer_login ends)) None
  unfolding server.step
  finishes id last_id =
      let message : Message = peer.gpsk4_of (peer_login ends) in
      ap (λ octets. server.checked_reads (server_login ends)
      (read_of (Some (ks_of ends.suite)) octets)) (response_body id gpsk_kind (spelled message))
      ∙ ap (λ read. server.checked_reads (server_login ends) read) reads_gpsk4
      ∙ ap (λ fault. server.ends (server.checked (server_login ends)) (server_login ends)
      true message fault) (no_fault _ BadTag None (gpsk4_tagged ends.suite _ _ same_sk))

pub gpsk_logins_go_through : GpskLoginsGoThrough
unfolding peer.answers server.answers peer.confirms server.ends
gpsk_logins_go_through ends id next_id last_id fit = record {
  begins = begins ends fit id;
  answers = answers ends fit id;
  checks = checks ends fit id next_id;
  confirms = confirms ends fit next_id;
  finishes = finishes ends fit next_id last_id;
  same_keys = same_keys ends fit;
}
