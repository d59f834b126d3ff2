-- Each turn of a server's method EAP-PSK: of what came it holds RAND_P alone, it asks with the next
-- Identifier, and its view tells the tags.
use Rattle.std.proofs.Common.{◌≡◌, ℕ, List, [], ◌∷◌, ◌++◌, Bool, true, false, Some, None, Ok, refl}
use Rattle.std.proofs.Common.{ap, sym, subst, ◌∙◌, arith, drop, inl, inr}
use Rattle.std.proofs.lemmas.Bool.{false≢true}
use Rattle.login_setup.specs.Setup.{ServerSetup}
use Rattle.login_setup.specs.declared.users.User.{User}
use Rattle.octet_lists.specs.Among.{psk_kind}
use Rattle.login_setup.specs.Users.{user_of}
use Rattle.psk_messages.specs.Message.{psk2}
use Rattle.psk_messages.specs.Reading as psk_reading
use Rattle.eax_mode.specs.Eax.{eax_tag}
use Rattle.eap_method.specs.declared.tags.TagRecord.{TagRecord}
use Rattle.eap_method.specs.declared.values.ServerSide.{ServerSide}
use Rattle.eap_method.specs.PskServer as psk
use Rattle.eap_method.specs.PskTags.{ak_record, tek_record, channel_nonce, hidden_octet, result_of}
use Rattle.eap_method.specs.Server.{side_of}
use Rattle.eap_method.specs.Turns.{ServerOutcome, body_of}
use Rattle.method_laws.specs.PskServerRows as psk_row
use Rattle.method_laws.specs.PskServerInvariant.{PskServerTags, psk_asked, psk_checked, psk_refused}
use Rattle.method_laws.specs.PskServerInvariant.{psk_over, psk2_record, psk_rand_p}
use Rattle.method_laws.specs.Records.{AreFew, IsIn}
use Rattle.method_laws.proofs.Among.{among_two}
use Rattle.method_laws.proofs.Receiving.{Receives, as_before, receives_now}
use Rattle.method_laws.proofs.PskFields.{read_rand}
use Rattle.method_laws.proofs.PskHeaders.{header_read}
use Rattle.method_laws.proofs.PskNonces.{read_occurs}
use Rattle.method_laws.proofs.ServerTurns.{Asks, IsRequest, Turned, asks_no_more, asks_none}
use Rattle.method_laws.proofs.ServerTurns.{asks_one, drops, ends, request_is, requests}

-- ---- the nonce

module _ (users : List User) (next_id : ℕ) (octets : List ℕ) where
  pub psk_from_sender : (view : psk.View) (out : ServerOutcome psk.View)
      → psk_row.PskServerRow users next_id view octets out
      → Receives (Some (body_of octets)) (psk_rand_p view) (psk_rand_p out.after)
  psk_from_sender view _ (psk_row.drops c) = as_before refl
  psk_from_sender view _ (psk_row.refuses own nonce _ _ _ _ in_view _ _ _) =
      as_before (sym (ap psk_rand_p in_view))
  psk_from_sender view _ (psk_row.answers own nonce rand_s rand_p mac id_p user in_view is_read
      setup_with_nonce known has_mac) =
      receives_now (body_of octets) rand_p refl refl (read_occurs (body_of octets) _ is_read)
  psk_from_sender view _ (psk_row.ends_success login _ _ _ _ in_view _ _ _ _ _ _ _ _ _) =
      as_before (sym (ap psk_rand_p in_view))
  psk_from_sender view _ (psk_row.ends_failure login _ _ _ _ in_view _ _ _ _ _ _ _ _ _) =
      as_before (sym (ap psk_rand_p in_view))

-- a view that has accepted no tag holds none
pub psk_none : (setup : ServerSetup) (view : psk.View) (accepted made : List TagRecord)
    → PskServerTags setup view accepted made → accepted ≡ [] → psk_rand_p view ≡ None
psk_none setup _ _ _ (psk_asked ordered) e = refl
psk_none setup _ _ _ (psk_checked login id facts) e = absurd cc
psk_none setup _ _ _ psk_refused e = refl
psk_none setup _ _ _ (psk_over login good header sealed id facts r_sent rand_in r_came)
    e = absurd cc

-- ---- the Request

module _ (users : List User) (id : ℕ) (bytes : List ℕ) where
  pub psk_asks : (view : psk.View) (out : ServerOutcome psk.View)
      → psk_row.PskServerRow users id view bytes out → Asks id out.turn
  psk_asks view _ (psk_row.drops c) = asks_none id c
  psk_asks view _ (psk_row.refuses _ _ _ _ _ _ _ _ _ _) = asks_no_more id _ _
  psk_asks view _ (psk_row.answers _ _ _ _ _ _ _ _ _ _ _ _) = asks_one id _ _ _
  psk_asks view _ (psk_row.ends_success _ _ _ _ _ _ _ _ _ _ _ _ _ _ _) = asks_no_more id _ _
  psk_asks view _ (psk_row.ends_failure _ _ _ _ _ _ _ _ _ _ _ _ _ _ _) = asks_no_more id _ _

pub psk_first : (own : ServerSide) (nonce : List ℕ) (id : ℕ) → IsRequest id (psk.first own nonce id)
unfolding psk.first
psk_first own nonce id = request_is id _ _

-- ---- the tags

module _ (setup : ServerSetup) (accepted made : List TagRecord) where
  abbrev pub PskTurned : ServerOutcome psk.View → Type 0
  PskTurned out = Turned psk.View (PskServerTags setup)
      (λ view. (login : psk.Login) × (view ≡ psk.over login true)) accepted made out

  at_psk : (view seen : psk.View) → view ≡ seen → PskServerTags setup view accepted made
      → PskServerTags setup seen accepted made
  at_psk view seen in_view told =
      subst (λ (v : psk.View). PskServerTags setup v accepted made) in_view told

module _ (setup : ServerSetup) where
  psk_refuses : (own : ServerSide) (nonce : List ℕ) (accepted made : List TagRecord)
      → PskServerTags setup (psk.asked own nonce) accepted made
      → PskServerTags setup (psk.refused own nonce) (accepted ++ []) (made ++ [])
  psk_refuses _ _ _ _ (psk_asked ordered) = psk_refused

  psk_answers : (own : ServerSide) (nonce rand_s rand_p mac id_p body : List ℕ) (user : User)
      (next_id : ℕ) (accepted made : List TagRecord)
      → PskServerTags setup (psk.asked own nonce) accepted made
      → psk_reading.read_of body ≡ Ok (psk2 rand_s rand_p mac id_p)
      → user_of setup.users id_p psk_kind ≡ Some user
      → (let login = psk_row.login_from own nonce id_p user rand_p in
      psk.mac_p_of login ≡ mac
      → PskServerTags setup (psk.checked login) (accepted ++ ak_record user.psk (psk.mac_p_covers
      login) mac ∷ []) (made ++ psk.psk3_records login next_id))
  psk_answers _ _ rand_s rand_p mac id_p body user next_id _ _ (psk_asked ordered)
      is_read known has_mac =
      (let login = psk_row.login_from (side_of setup) setup.nonce id_p user rand_p in
      subst (λ (m : List ℕ). PskServerTags setup (psk.checked login)
      (ak_record user.psk (psk.mac_p_covers login) m ∷ []) (psk.psk3_records login next_id))
      has_mac
      (psk_checked login next_id
      (record {
        ordered = ordered;
        own = refl;
        nonce = refl;
        user = user;
        known = known;
        key = refl;
        r = refl;
        size = read_rand body _ is_read;
      })))

  psk_ends : (login : psk.Login) (good : Bool) (header tag : List ℕ) (sealed : ℕ)
      → (good ≡ true → login.r ≡ 2)
      → drop 6 header ≡ psk.rand_s_of login
      → (good ≡ true → result_of (hidden_octet (psk.keys_of login).tek 1 sealed) ≡ 2)
      → (accepted made : List TagRecord) → PskServerTags setup (psk.checked login) accepted made
      → eax_tag (psk.keys_of login).tek (channel_nonce 1) header (sealed ∷ []) ≡ tag
      → PskServerTags setup (psk.over login good)
      (accepted ++ tek_record login.psk 1 header sealed tag ∷ []) (made ++ [])
  psk_ends login good header tag sealed r_sent rand_in r_came _ _ (psk_checked _ id facts) has_tag =
      subst
      (λ (t : List ℕ). PskServerTags setup (psk.over login good)
      (psk2_record login ∷ tek_record login.psk 1 header sealed t ∷ []) (psk.psk3_records login id))
      has_tag (psk_over login good header sealed id facts r_sent rand_in r_came)

  module _ (next_id : ℕ) (octets : List ℕ) (accepted made : List TagRecord) where
    pub psk_turned : (view : psk.View) (out : ServerOutcome psk.View)
        → PskServerTags setup view accepted made
        → psk_row.PskServerRow setup.users next_id view octets out
        → PskTurned setup accepted made out
    psk_turned view _ told (psk_row.drops c) = drops view c
    psk_turned view _ told (psk_row.refuses own nonce _ _ _ _ in_view _ _ _) =
        ends false _ _
        (psk_refuses own nonce accepted made (at_psk setup accepted made view _ in_view told))
        (λ e. absurd (false≢true e))
    psk_turned view _ told
        (psk_row.answers own nonce rand_s rand_p mac id_p user in_view is_read _ known has_mac) =
        requests _ _ _
        (psk_answers own nonce rand_s rand_p mac id_p _ user next_id accepted made
        (at_psk setup accepted made view _ in_view told)
        is_read known has_mac)
    psk_turned view _ told (psk_row.ends_success login rand_s _ tag sealed in_view is_read
        setup_with_nonce _ _ has_tag _ _ own_success their_success) =
        ends true _ _
        (psk_ends login true _ tag sealed (λ _. own_success)
        (header_read octets rand_s _ tag sealed is_read ∙ setup_with_nonce) (λ _. their_success)
        accepted made (at_psk setup accepted made view _ in_view told) has_tag)
        (λ _. (login, refl))
    psk_turned view _ told (psk_row.ends_failure login rand_s _ tag sealed in_view is_read
        setup_with_nonce _ _ has_tag _ _ _ _) =
        ends false _ _
        (psk_ends login false _ tag sealed (λ e. absurd (false≢true e))
        (header_read octets rand_s _ tag sealed is_read ∙ setup_with_nonce)
        (λ e. absurd (false≢true e)) accepted made
        (at_psk setup accepted made view _ in_view told) has_tag)
        (λ e. absurd (false≢true e))

-- at most two are accepted and at most two made
pub psk_few : (setup : ServerSetup) (view : psk.View) (accepted made : List TagRecord)
    → PskServerTags setup view accepted made → AreFew accepted made
psk_few setup _ _ _ psk_refused = record { few_accepted = omega arith; few_produced = omega arith }
psk_few setup _ _ _ told = record { few_accepted = omega arith; few_produced = omega arith }

-- each is of the method
pub psk_method : (setup : ServerSetup) (view : psk.View) (accepted made : List TagRecord)
    (t : TagRecord) → PskServerTags setup view accepted made → IsIn t made
    → t.method ≡ psk_kind
psk_method setup _ _ _ t (psk_asked ordered) is = elim is [ ]
psk_method setup _ _ _ t (psk_checked login id facts) is =
    elim (among_two _ _ _ is) [
      | inl e ↦ ap (λ (r : TagRecord). r.method) e
      | inr e ↦ ap (λ (r : TagRecord). r.method) e
    ]
psk_method setup _ _ _ t psk_refused is = elim is [ ]
psk_method setup _ _ _ t (psk_over login good header sealed id facts r_sent rand_in r_came) is =
    elim (among_two _ _ _ is) [
      | inl e ↦ ap (λ (r : TagRecord). r.method) e
      | inr e ↦ ap (λ (r : TagRecord). r.method) e
    ]
