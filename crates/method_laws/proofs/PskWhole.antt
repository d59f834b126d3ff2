-- A whole login by EAP-PSK.
use Rattle.std.proofs.Common.{◌≡◌, ℕ, List, [], ◌∷◌, length, true, None, Ok, refl, sym, ap, ◌∙◌}
use Rattle.std.proofs.Common.{arith}
use Rattle.std.specs.Str.{bytes_eq}
use Rattle.std.proofs.lemmas.Bool.{cond-true, and_from}
use Rattle.std.proofs.lemmas.List.{length-take-le}
use Rattle.octet_lists.specs.Among.{psk_kind}
use Rattle.login_setup.specs.Setup.{accepts_name}
use Rattle.eap_packet.specs.declared.cause.Cause.TheVariants.{FieldMismatch, BadTag}
use Rattle.psk_messages.specs.Message.{Message, spelled}
use Rattle.psk_messages.specs.Reading.{read_of}
use Rattle.psk_messages.proofs.Grammar.{sent_is_read}
use Rattle.cmac_mac.specs.Cmac.{aes_cmac}
use Rattle.cmac_mac.proofs.Laws.{length_aes_cmac}
use Rattle.login_keys.specs.Psk.{psk_long_of, psk_keys_of}
use Rattle.login_keys.specs.declared.psk.PskKeys.{PskKeys}
use Rattle.eap_method.specs.declared.tags.TagRecord.{TagRecord}
use Rattle.eap_method.specs.PskTags.{psk_request, psk_response, mac_p_octets, mac_s_octets}
use Rattle.eap_method.specs.PskTags.{ak_record, tek_record, header_of, is_sealed, hidden_octet}
use Rattle.eap_method.specs.PskTags.{octet_with, result_of, result_fault, done_success, blank_tag}
use Rattle.eap_method.specs.PskTags.{rand_of}
use Rattle.eap_method.specs.Turns.{body_of, requested, done}
use Rattle.eap_method.specs.PskPeer as peer
use Rattle.eap_method.specs.PskServer as server
use Rattle.method_laws.specs.PskLogin.{Ends, Compatible, peer_login, server_login, psk1_of}
use Rattle.method_laws.specs.PskLogin.{psk2_records, PskLoginsGoThrough}
use Rattle.method_laws.proofs.Packets.{request_body, request_id, response_body}
use Rattle.method_laws.proofs.PskChannel.{length_sealed_tag, sealed_accepted, sealed_opened}
use Rattle.method_laws.proofs.PskChannel.{psk3_header_is, psk4_header_is}
use Rattle.method_laws.proofs.Tests.{bytes_same, no_fault}

length_rand : (nonce : List ℕ) → length nonce ≡ 32 → length (rand_of nonce) ≡ 16
length_rand nonce size = length-take-le 16 nonce (omega arith)

bytes_equal : (xs ys : List ℕ) → xs ≡ ys → bytes_eq xs ys ≡ true
bytes_equal xs ys same = ap (λ octets. bytes_eq octets ys) same ∙ bytes_same ys

length_mac_p : (login : peer.Login) → length (peer.mac_p_of login) ≡ 16
unfolding peer.mac_p_of
length_mac_p login = length_aes_cmac _ _

length_mac_s : (login : server.Login) → length (server.mac_s_of login) ≡ 16
unfolding server.mac_s_of
length_mac_s login = length_aes_cmac _ _

length_psk3_tag : (login : server.Login) (id : ℕ) → length (server.psk3_sealed login id).tag ≡ 16
unfolding server.psk3_sealed
length_psk3_tag login id = length_sealed_tag _ _ _ _

length_psk4_tag : (login : peer.Login) (id r : ℕ) → length (peer.psk4_sealed login id r).tag ≡ 16
unfolding peer.psk4_sealed
length_psk4_tag login id r = length_sealed_tag _ _ _ _

-- ---- each PCHANNEL opens under its own key and header

psk3_accepted : (login : server.Login) (id : ℕ)
    → is_sealed (server.keys_of login).tek 0 (server.psk3_header login id) (server.psk3_octet login
    id) (server.psk3_sealed login id).tag ≡ true
unfolding server.psk3_sealed
psk3_accepted login id = sealed_accepted _ _ _ _

psk3_opened : (login : server.Login) (id : ℕ)
    → hidden_octet (server.keys_of login).tek 0 (server.psk3_octet login id) ≡ octet_with login.r
unfolding server.psk3_sealed
psk3_opened login id = sealed_opened _ _ _ _

psk4_accepted : (login : peer.Login) (id r : ℕ)
    → is_sealed (peer.keys_of login).tek 1 (peer.psk4_header login id) (peer.psk4_octet login id
    r) (peer.psk4_sealed login id r).tag ≡ true
unfolding peer.psk4_sealed
psk4_accepted login id r = sealed_accepted _ _ _ _

psk4_opened : (login : peer.Login) (id r : ℕ)
    → hidden_octet (peer.keys_of login).tek 1 (peer.psk4_octet login id r) ≡ octet_with r
unfolding peer.psk4_sealed
psk4_opened login id r = sealed_opened _ _ _ _

-- ---- the turns

module _ (ends : Ends) (fit : Compatible ends) where
  same_keys : peer.keys_of (peer_login ends) ≡ server.keys_of (server_login ends)
  unfolding peer.keys_of server.keys_of
  same_keys = ap (λ psk. psk_keys_of (psk_long_of psk).kdk (rand_of ends.nonce)) (sym fit.one_key)

  same_tek : (server.keys_of (server_login ends)).tek ≡ (peer.keys_of (peer_login ends)).tek
  same_tek = ap (λ (keys : PskKeys). keys.tek) (sym same_keys)

  same_mac_p : server.mac_p_of (server_login ends) ≡ peer.mac_p_of (peer_login ends)
  unfolding server.mac_p_of peer.mac_p_of server.mac_p_covers peer.mac_p_covers
      server.ak_of peer.ak_of
  same_mac_p =
      ap (λ psk. aes_cmac (psk_long_of psk).ak (mac_p_octets ends.cred.id_p ends.own.id_s
      (rand_of ends.setup_with_nonce) (rand_of ends.nonce))) fit.one_key

  same_mac_s : peer.mac_s_of (peer_login ends) ≡ server.mac_s_of (server_login ends)
  unfolding server.mac_s_of peer.mac_s_of server.mac_s_covers peer.mac_s_covers
      server.ak_of peer.ak_of
  same_mac_s =
      ap (λ psk. aes_cmac (psk_long_of psk).ak (mac_s_octets ends.own.id_s (rand_of ends.nonce)))
      (sym fit.one_key)

  peer_rand : length (rand_of ends.nonce) ≡ 16
  peer_rand = length_rand ends.nonce fit.peer_nonce

  server_rand : length (rand_of ends.setup_with_nonce) ≡ 16
  server_rand = length_rand ends.setup_with_nonce fit.server_nonce

  r_is_success : (server_login ends).r ≡ done_success
  r_is_success = ap (λ barred. server.r_for barred) fit.not_barred

  reads_psk1 : read_of (spelled (psk1_of ends)) ≡ Ok (psk1_of ends)
  reads_psk1 = sent_is_read _ (server_rand, fit.server_name)

  reads_psk2 : read_of (spelled (peer.psk2_of (peer_login ends)))
      ≡ Ok (peer.psk2_of (peer_login ends))
  reads_psk2 =
      sent_is_read _ (server_rand, peer_rand, length_mac_p (peer_login ends), fit.peer_name)

  reads_psk3 : (id : ℕ) → read_of (spelled (server.psk3_of (server_login ends) id))
      ≡ Ok (server.psk3_of (server_login ends) id)
  reads_psk3 id = sent_is_read _ (
    server_rand,
    length_mac_s (server_login ends),
    omega arith,
    length_psk3_tag (server_login ends) id,
  )

  reads_psk4 : (id r : ℕ) → read_of (spelled (peer.psk4_of (peer_login ends) id r))
      ≡ Ok (peer.psk4_of (peer_login ends) id r)
  reads_psk4 id r =
      sent_is_read _ (server_rand, omega arith, length_psk4_tag (peer_login ends) id r)

  psk3_headers : (id : ℕ) → header_of (psk_request id (server.psk3_of (server_login ends) id))
      ≡ server.psk3_header (server_login ends) id
  unfolding server.psk3_header
  psk3_headers id =
      psk3_header_is id (rand_of ends.setup_with_nonce) _ _ _ server_rand
      (length_mac_s (server_login ends)) (length_psk3_tag (server_login ends) id)
      ∙ sym (psk3_header_is id (rand_of ends.setup_with_nonce) (server.mac_s_of (server_login ends))
      blank_tag 0 server_rand (length_mac_s (server_login ends)) refl)

  psk4_headers : (id r : ℕ) → header_of (psk_response id (peer.psk4_of (peer_login ends) id r))
      ≡ peer.psk4_header (peer_login ends) id
  unfolding peer.psk4_header
  psk4_headers id r =
      psk4_header_is id (rand_of ends.setup_with_nonce) _ _ server_rand
      (length_psk4_tag (peer_login ends) id r)
      ∙ sym (psk4_header_is id (rand_of ends.setup_with_nonce) blank_tag 0 server_rand refl)

  begins : (id : ℕ) → server.first_step (server.begun ends.own ends.setup_with_nonce) id
      ≡ record {
        packet = psk_request id (psk1_of ends);
        after = server.asked ends.own ends.setup_with_nonce;
      }
  unfolding server.first_step server.first
  begins id = refl

  answers : (id : ℕ) → peer.step (peer.fresh ends.cred ends.nonce) (psk_request id (psk1_of ends))
      ≡ peer.answers (peer_login ends) id
  unfolding peer.step
  answers id =
      let message : Message = psk1_of ends in
      ap (λ number. peer.fresh_reads ends.cred ends.nonce number
      (read_of (body_of (psk_request id message)))) (request_id id psk_kind (spelled message))
      ∙ ap (λ octets. peer.fresh_reads ends.cred ends.nonce id (read_of octets))
      (request_body id psk_kind (spelled message))
      ∙ ap (λ read. peer.fresh_reads ends.cred ends.nonce id read) reads_psk1
      ∙ cond-true (accepts_name ends.cred.accepts ends.own.id_s) _ _ fit.accepted

  checks : (id next_id : ℕ) → server.step ends.users next_id (server.asked ends.own
      ends.setup_with_nonce) (psk_response id (peer.psk2_of (peer_login ends)))
      ≡ server.answers (server_login ends) next_id (peer.mac_p_of (peer_login ends))
  unfolding server.step
  checks id next_id =
      let message : Message = peer.psk2_of (peer_login ends) in
      ap (λ octets. server.asked_reads ends.users ends.own ends.setup_with_nonce next_id
      (read_of octets)) (response_body id psk_kind (spelled message))
      ∙ ap (λ read. server.asked_reads ends.users ends.own ends.setup_with_nonce next_id read)
      reads_psk2
      ∙ cond-true (bytes_eq (rand_of ends.setup_with_nonce) (rand_of ends.setup_with_nonce)) _ _
      (bytes_same (rand_of ends.setup_with_nonce))
      ∙ ap (λ found. server.finds ends.own ends.setup_with_nonce next_id (rand_of ends.nonce)
      (peer.mac_p_of (peer_login ends)) ends.cred.id_p found) fit.known
      ∙ cond-true (bytes_eq (server.mac_p_of (server_login ends)) (peer.mac_p_of (peer_login ends)))
      _ _ (bytes_equal _ _ same_mac_p)

  -- the one record of PSK-2's tag
  psk2_record : ak_record ends.user.psk (server.mac_p_covers (server_login ends)) (peer.mac_p_of
      (peer_login ends)) ∷ [] ≡ psk2_records ends
  unfolding server.mac_p_covers peer.mac_p_covers
  psk2_record = ap (λ psk. ak_record psk (peer.mac_p_covers (peer_login ends)) (peer.mac_p_of
      (peer_login ends)) ∷ []) fit.one_key

  -- the octet in PSK-3 is the server's R for the peer's key
  psk3_seen : (id : ℕ) → hidden_octet (peer.keys_of (peer_login ends)).tek 0 (server.psk3_octet
      (server_login ends) id) ≡ octet_with done_success
  psk3_seen id =
      ap (λ tek. hidden_octet tek 0 (server.psk3_octet (server_login ends) id)) (sym same_tek)
      ∙ psk3_opened (server_login ends) id
      ∙ ap (λ r. octet_with r) r_is_success

  psk3_right : (id : ℕ) → peer.are_right (peer_login ends) (header_of (psk_request id
      (server.psk3_of (server_login ends) id))) (server.mac_s_of (server_login ends))
      (server.psk3_sealed (server_login ends) id).tag (server.psk3_octet (server_login ends) id)
      ≡ true
  psk3_right id =
      and_from _ _ (bytes_equal _ _ same_mac_s)
      (ap (λ tek. is_sealed tek 0
      (header_of (psk_request id (server.psk3_of (server_login ends) id))) (server.psk3_octet
      (server_login ends) id) (server.psk3_sealed (server_login ends) id).tag) (sym same_tek)
      ∙ ap (λ header. is_sealed (server.keys_of (server_login ends)).tek 0 header (server.psk3_octet
      (server_login ends) id) (server.psk3_sealed (server_login ends) id).tag) (psk3_headers id)
      ∙ psk3_accepted (server_login ends) id)

  -- the peer accepts the records that the server made
  psk3_recorded : (id : ℕ) → peer.psk3_records (peer_login ends) (header_of (psk_request id
      (server.psk3_of (server_login ends) id))) (server.mac_s_of (server_login ends))
      (server.psk3_sealed (server_login ends) id).tag (server.psk3_octet (server_login ends) id)
      ≡ server.psk3_records (server_login ends) id
  unfolding peer.mac_s_covers server.mac_s_covers
  psk3_recorded id =
      let records : List ℕ → List ℕ → List TagRecord = λ psk header.
      ak_record psk (server.mac_s_covers (server_login ends)) (server.mac_s_of (server_login ends))
      ∷ tek_record psk 0 header (server.psk3_octet (server_login ends) id) (server.psk3_sealed
      (server_login ends) id).tag ∷ [] in
      ap (λ psk. records psk (header_of (psk_request id (server.psk3_of (server_login ends) id))))
      (sym fit.one_key)
      ∙ ap (λ header. records ends.user.psk header) (psk3_headers id)

  confirms : (id : ℕ) → peer.step (peer.wait (peer_login ends)) (psk_request id
      (server.psk3_of (server_login ends) id))
      ≡ peer.confirms (peer_login ends) id done_success
      (server.psk3_records (server_login ends) id) None
  unfolding peer.step
  confirms id =
      let login : peer.Login = peer_login ends in
      let message : Message = server.psk3_of (server_login ends) id in
      let packet : List ℕ = psk_request id message in
      let octet : ℕ = server.psk3_octet (server_login ends) id in
      let mac : List ℕ = server.mac_s_of (server_login ends) in
      let tag : List ℕ = (server.psk3_sealed (server_login ends) id).tag in
      ap (λ number. peer.wait_reads login number (header_of packet) (read_of (body_of packet)))
      (request_id id psk_kind (spelled message))
      ∙ ap (λ octets. peer.wait_reads login id (header_of packet) (read_of octets))
      (request_body id psk_kind (spelled message))
      ∙ ap (λ read. peer.wait_reads login id (header_of packet) read) (reads_psk3 id)
      ∙ ap (λ fault. peer.confirms login id (result_of (hidden_octet (peer.keys_of login).tek 0
      octet)) (peer.psk3_records login (header_of packet) mac tag octet) fault)
      (no_fault (bytes_eq (rand_of ends.setup_with_nonce) (rand_of ends.setup_with_nonce))
      FieldMismatch _ (bytes_same (rand_of ends.setup_with_nonce))
      ∙ no_fault (peer.are_right login (header_of packet) mac tag octet) BadTag _ (psk3_right id)
      ∙ ap (λ seen. result_fault seen) (psk3_seen id))
      ∙ ap (λ seen. peer.confirms login id (result_of seen)
      (peer.psk3_records login (header_of packet) mac tag octet) None) (psk3_seen id)
      ∙ ap (λ accepted. peer.confirms login id done_success accepted None) (psk3_recorded id)

  -- the octet in PSK-4 is the peer's R for the server's key
  psk4_seen : (id r : ℕ) → hidden_octet (server.keys_of (server_login ends)).tek 1 (peer.psk4_octet
      (peer_login ends) id r) ≡ octet_with r
  psk4_seen id r =
      ap (λ tek. hidden_octet tek 1 (peer.psk4_octet (peer_login ends) id r)) same_tek
      ∙ psk4_opened (peer_login ends) id r

  psk4_right : (id r : ℕ) → is_sealed (server.keys_of (server_login ends)).tek 1 (header_of
      (psk_response id (peer.psk4_of (peer_login ends) id r)))
      (peer.psk4_octet (peer_login ends) id r) (peer.psk4_sealed (peer_login ends) id r).tag ≡ true
  psk4_right id r =
      ap (λ tek. is_sealed tek 1 (header_of (psk_response id (peer.psk4_of (peer_login ends) id r)))
      (peer.psk4_octet (peer_login ends) id r) (peer.psk4_sealed (peer_login ends) id r).tag)
      same_tek
      ∙ ap (λ header. is_sealed (peer.keys_of (peer_login ends)).tek 1 header (peer.psk4_octet
      (peer_login ends) id r) (peer.psk4_sealed (peer_login ends) id r).tag) (psk4_headers id r)
      ∙ psk4_accepted (peer_login ends) id r

  -- the server accepts the record that the peer made
  psk4_recorded : (id r : ℕ) → tek_record ends.user.psk 1 (header_of
      (psk_response id (peer.psk4_of (peer_login ends) id r)))
      (peer.psk4_octet (peer_login ends) id r) (peer.psk4_sealed (peer_login ends) id r).tag ∷ []
      ≡ peer.psk4_record (peer_login ends) id r
  psk4_recorded id r =
      let records : List ℕ → List ℕ → List TagRecord = λ psk header.
      tek_record psk 1 header (peer.psk4_octet (peer_login ends) id r) (peer.psk4_sealed
      (peer_login ends) id r).tag ∷ [] in
      ap (λ psk. records psk (header_of (psk_response id (peer.psk4_of (peer_login ends) id r))))
      fit.one_key
      ∙ ap (λ header. records ends.cred.psk header) (psk4_headers id r)

  both_succeed : server.both_succeed (server_login ends) done_success ≡ true
  both_succeed =
      ap (λ r. server.both_succeed (record (server_login ends) { r = r }) done_success) r_is_success

  finishes : (id last_id : ℕ) → server.step ends.users last_id (server.checked
      (server_login ends)) (psk_response id (peer.psk4_of (peer_login ends) id done_success))
      ≡ server.ends (server_login ends) done_success
      (peer.psk4_record (peer_login ends) id done_success) None
  unfolding server.step
  finishes id last_id =
      let login : server.Login = server_login ends in
      let message : Message = peer.psk4_of (peer_login ends) id done_success in
      let packet : List ℕ = psk_response id message in
      let octet : ℕ = peer.psk4_octet (peer_login ends) id done_success in
      let tag : List ℕ = (peer.psk4_sealed (peer_login ends) id done_success).tag in
      ap (λ octets. server.checked_reads login (header_of packet) (read_of octets))
      (response_body id psk_kind (spelled message))
      ∙ ap (λ read. server.checked_reads login (header_of packet) read) (reads_psk4 id done_success)
      ∙ ap (λ fault. server.ends login (result_of (hidden_octet (server.keys_of login).tek 1 octet))
      (tek_record ends.user.psk 1 (header_of packet) octet tag ∷ []) fault)
      (no_fault (bytes_eq (rand_of ends.setup_with_nonce) (rand_of ends.setup_with_nonce))
      FieldMismatch _ (bytes_same (rand_of ends.setup_with_nonce))
      ∙ no_fault (is_sealed (server.keys_of login).tek 1 (header_of packet) octet tag) BadTag _
      (psk4_right id done_success)
      ∙ ap (λ seen. result_fault seen) (psk4_seen id done_success))
      ∙ ap (λ seen. server.ends login (result_of seen) (tek_record ends.user.psk 1 (header_of
      packet) octet tag ∷ []) None) (psk4_seen id done_success)
      ∙ ap (λ accepted. server.ends login done_success accepted None)
      (psk4_recorded id done_success)

pub psk_logins_go_through : PskLoginsGoThrough
unfolding peer.answers server.answers peer.confirms server.ends
psk_logins_go_through ends id next_id last_id fit = record {
  begins = begins ends fit id;
  answers = answers ends fit id;
  checks = checks ends fit id next_id
      ∙ ap (λ accepted. requested (server.checked (server_login ends))
      (psk_request next_id (server.psk3_of (server_login ends) next_id)) accepted
      (server.psk3_records (server_login ends) next_id)) (psk2_record ends fit);
  confirms = confirms ends fit next_id;
  finishes = finishes ends fit next_id last_id
      ∙ ap (λ good. done (server.over (server_login ends) good) good
      (peer.psk4_record (peer_login ends) next_id done_success)) (both_succeed ends fit);
  same_keys = same_keys ends fit;
}
