-- Each turn of a server's method EAP-GPSK: of what came it holds RAND_Peer alone, it asks with the
-- next Identifier, and its view tells the tags.
use Rattle.std.proofs.Common.{◌≡◌, ℕ, List, [], ◌∷◌, ◌++◌, Bool, true, false, Some, None, Ok, refl}
use Rattle.std.proofs.Common.{ap, sym, subst, ◌∙◌, arith}
use Rattle.std.proofs.lemmas.Bool.{false≢true}
use Rattle.login_setup.specs.Setup.{ServerSetup}
use Rattle.octet_lists.specs.declared.suite.Suite.{Suite}
use Rattle.login_setup.specs.declared.users.User.{User}
use Rattle.octet_lists.specs.Among.{gpsk_kind, is_among}
use Rattle.octet_lists.specs.Suite.{suite_number}
use Rattle.login_setup.specs.Users.{user_of}
use Rattle.gpsk_messages.specs.Message.{Message, gpsk2, gpsk4, protected_fail, covered_of}
use Rattle.gpsk_messages.specs.Reading as gpsk_reading
use Rattle.login_keys.specs.Gpsk.{gpsk_tag_of}
use Rattle.eap_method.specs.declared.tags.TagRecord.{TagRecord}
use Rattle.eap_method.specs.declared.values.ServerSide.{ServerSide}
use Rattle.eap_method.specs.GpskServer as gpsk
use Rattle.eap_method.specs.GpskTags.{sk_record, suite_list}
use Rattle.eap_method.specs.Server.{side_of}
use Rattle.eap_method.specs.Turns.{ServerOutcome, body_of}
use Rattle.method_laws.specs.GpskServerRows as gpsk_row
use Rattle.method_laws.specs.GpskServerInvariant.{GpskChecked, GpskServerTags, gpsk_asked}
use Rattle.method_laws.specs.GpskServerInvariant.{gpsk_refusing, gpsk_refused, gpsk_barring}
use Rattle.method_laws.specs.GpskServerInvariant.{gpsk_checked, gpsk_barred, gpsk_confirmed}
use Rattle.method_laws.specs.GpskServerInvariant.{gpsk2_of_login, gpsk_rand_p}
use Rattle.method_laws.specs.Records.{AreFew, IsIn}
use Rattle.method_laws.proofs.Among.{among_one}
use Rattle.method_laws.proofs.GpskFields.{read_rands}
use Rattle.method_laws.proofs.GpskNonces.{read_occurs}
use Rattle.method_laws.proofs.Receiving.{Receives, as_before, receives_now}
use Rattle.method_laws.proofs.ServerTurns.{Asks, IsRequest, Turned, asks_no_more, asks_none}
use Rattle.method_laws.proofs.ServerTurns.{asks_one, drops, ends, request_is, requests}
use Rattle.method_laws.proofs.Occurrence.{front_within}

-- ---- the nonce

module _ (users : List User) (next_id : ℕ) (octets : List ℕ) where
  pub gpsk_from_sender : (view : gpsk.View) (out : ServerOutcome gpsk.View)
      → gpsk_row.GpskServerRow users next_id view octets out
      → Receives (Some (body_of octets)) (gpsk_rand_p view) (gpsk_rand_p out.after)
  gpsk_from_sender view _ (gpsk_row.drops c) = as_before refl
  gpsk_from_sender view _ (gpsk_row.refuses own nonce _ _ _ _ _ _ _ _ in_view _ _ _ _ _ _ _) =
      as_before (sym (ap gpsk_rand_p in_view))
  gpsk_from_sender view _ (gpsk_row.bars own nonce id_p _ rand_p _ _ suite pd mac user in_view
      is_read _ _ _ _ _ _ _ _ _) =
      receives_now (body_of octets) _ refl refl
      (front_within 16 rand_p (body_of octets) (read_occurs _ (body_of octets) _ is_read))
  gpsk_from_sender view _ (gpsk_row.checks own nonce id_p _ rand_p _ _ suite pd mac user in_view
      is_read _ _ _ _ _ _ _ _ _) =
      receives_now (body_of octets) _ refl refl
      (front_within 16 rand_p (body_of octets) (read_occurs _ (body_of octets) _ is_read))
  gpsk_from_sender view _ (gpsk_row.ends_refusing own nonce _ in_view _ _) =
      as_before (sym (ap gpsk_rand_p in_view))
  gpsk_from_sender view _ (gpsk_row.ends_barring login _ _ in_view _ _ _ _) =
      as_before (sym (ap gpsk_rand_p in_view))
  gpsk_from_sender view _ (gpsk_row.ends_checked login _ _ in_view _ _ _) =
      as_before (sym (ap gpsk_rand_p in_view))

-- a view that has accepted no tag holds none
pub gpsk_none : (setup : ServerSetup) (view : gpsk.View) (accepted made : List TagRecord)
    → GpskServerTags setup view accepted made → accepted ≡ []
    → gpsk_rand_p view ≡ None
gpsk_none setup _ _ _ (gpsk_asked ordered) e = refl
gpsk_none setup _ _ _ gpsk_refusing e = refl
gpsk_none setup _ _ _ gpsk_refused e = refl
gpsk_none setup _ _ _ (gpsk_barring login pd facts) e = absurd cc
gpsk_none setup _ _ _ (gpsk_checked login pd facts) e = absurd cc
gpsk_none setup _ _ _ (gpsk_barred login pd facts) e = absurd cc
gpsk_none setup _ _ _ (gpsk_confirmed login pd last_pd facts) e = absurd cc

-- ---- the Request

module _ (users : List User) (id : ℕ) (bytes : List ℕ) where
  pub gpsk_asks : (view : gpsk.View) (out : ServerOutcome gpsk.View)
      → gpsk_row.GpskServerRow users id view bytes out → Asks id out.turn
  gpsk_asks view _ (gpsk_row.drops c) = asks_none id c
  gpsk_asks view _ (gpsk_row.refuses _ _ _ _ _ _ _ _ _ _ _ _ _ _ _ _ _ _) = asks_one id _ _ _
  gpsk_asks view _ (gpsk_row.bars _ _ _ _ _ _ _ _ _ _ _ _ _ _ _ _ _ _ _ _ _ _) = asks_one id _ _ _
  gpsk_asks view _ (gpsk_row.checks _ _ _ _ _ _ _ _ _ _ _ _ _ _ _ _ _ _ _ _ _ _) = asks_one id _ _ _
  gpsk_asks view _ (gpsk_row.ends_refusing _ _ _ _ _ _) = asks_no_more id _ _
  gpsk_asks view _ (gpsk_row.ends_barring _ _ _ _ _ _ _ _) = asks_no_more id _ _
  gpsk_asks view _ (gpsk_row.ends_checked _ _ _ _ _ _ _) = asks_no_more id _ _

pub gpsk_first : (own : ServerSide) (nonce : List ℕ) (id : ℕ)
    → IsRequest id (gpsk.first own nonce id)
unfolding gpsk.first
gpsk_first own nonce id = request_is id _ _

-- ---- the tags

module _ (setup : ServerSetup) (accepted made : List TagRecord) where
  abbrev pub GpskTurned : ServerOutcome gpsk.View → Type 0
  GpskTurned out = Turned gpsk.View (GpskServerTags setup)
      (λ view. (login : gpsk.Login) × (view ≡ gpsk.over login true)) accepted made out

  at_gpsk : (view seen : gpsk.View) → view ≡ seen → GpskServerTags setup view accepted made
      → GpskServerTags setup seen accepted made
  at_gpsk view seen in_view told =
      subst (λ (v : gpsk.View). GpskServerTags setup v accepted made) in_view told

module _ (setup : ServerSetup) where
  gpsk_refuses : (own : ServerSide) (nonce : List ℕ) (accepted made : List TagRecord)
      → GpskServerTags setup (gpsk.asked own nonce) accepted made
      → GpskServerTags setup (gpsk.refusing own nonce) (accepted ++ []) (made ++ [])
  gpsk_refuses _ _ _ _ (gpsk_asked ordered) = gpsk_refusing

  gpsk_gives_up : (own : ServerSide) (nonce : List ℕ) (accepted made : List TagRecord)
      → GpskServerTags setup (gpsk.refusing own nonce) accepted made
      → GpskServerTags setup (gpsk.refused own nonce) (accepted ++ []) (made ++ [])
  gpsk_gives_up _ _ _ _ gpsk_refusing = gpsk_refused

  -- a message with the MAC of its covered octets
  gpsk2_same : (login : gpsk.Login) (pd mac : List ℕ) (message : Message)
      → gpsk2 login.id_p login.own.id_s login.rand_p login.nonce (suite_list
      login.own.suites) login.suite pd mac ≡ message
      → gpsk_tag_of login.suite (gpsk.keys_of login).sk (covered_of message) ≡ mac
      → gpsk2_of_login login pd ≡ message
  unfolding covered_of
  gpsk2_same login pd mac message same has_mac =
      ap (λ (t : List ℕ). gpsk2 login.id_p login.own.id_s login.rand_p login.nonce
      (suite_list login.own.suites) login.suite pd t) (ap (λ (m : Message). gpsk_tag_of login.suite
      (gpsk.keys_of login).sk (covered_of m)) same ∙ has_mac) ∙ same

  module _ (id_p rand_p pd mac body : List ℕ) (suite : Suite) (user : User)
      (known : user_of setup.users id_p gpsk_kind ≡ Some user) (message : Message) where
    abbrev login_of : ServerSide → List ℕ → gpsk.Login
    login_of own nonce = gpsk_row.login_from own nonce id_p user rand_p suite

    -- this is a GPSK-2 with the right MAC, which repeats what was sent
    record IsGpsk2 (own : ServerSide) (nonce : List ℕ) : Type 0 where
      pub same : gpsk2 id_p own.id_s rand_p nonce (suite_list own.suites) suite pd mac ≡ message
      pub has_mac : gpsk_tag_of suite (gpsk.keys_of (login_of own nonce)).sk (covered_of message)
          ≡ mac
      pub is_read : gpsk_reading.read_of None body ≡ Ok message
      pub offered : is_among own.suites (suite_number suite) ≡ true

    facts_of : (barred : Bool) → is_among setup.methods gpsk_kind ≡ true
        → IsGpsk2 (side_of setup) setup.nonce → user.barred ≡ barred
        → GpskChecked setup (login_of (side_of setup) setup.nonce) barred
    unfolding side_of
    facts_of barred ordered heard standing = record {
      ordered = ordered;
      own = refl;
      nonce = refl;
      user = user;
      known = known;
      key = refl;
      standing = standing;
      offered = heard.offered;
      size = (read_rands None body _
          (heard.is_read ∙ ap (λ (m : Message). Ok m) (sym heard.same))).0;
    }

    gpsk_bars : (own : ServerSide) (nonce : List ℕ) (accepted made : List TagRecord)
        → GpskServerTags setup (gpsk.asked own nonce) accepted made
        → IsGpsk2 own nonce → user.barred ≡ true
        → (let login = login_of own nonce in
        GpskServerTags setup (gpsk.barring login) (accepted ++ sk_record user.psk message ∷ [])
        (made ++ sk_record user.psk (gpsk.bars_with login) ∷ []))
    gpsk_bars _ _ _ _ (gpsk_asked ordered) heard standing =
        (let login = login_of (side_of setup) setup.nonce in
        subst (λ (m : Message). GpskServerTags setup (gpsk.barring login)
        (sk_record user.psk m ∷ []) (sk_record user.psk (gpsk.bars_with login) ∷ []))
        (gpsk2_same login pd mac message heard.same heard.has_mac)
        (gpsk_barring login pd (facts_of true ordered heard standing)))

    gpsk_checks : (own : ServerSide) (nonce : List ℕ) (accepted made : List TagRecord)
        → GpskServerTags setup (gpsk.asked own nonce) accepted made
        → IsGpsk2 own nonce → user.barred ≡ false
        → (let login = login_of own nonce in
        GpskServerTags setup (gpsk.checked login) (accepted ++ sk_record user.psk message ∷ [])
        (made ++ sk_record user.psk (gpsk.gpsk3_of login) ∷ []))
    gpsk_checks _ _ _ _ (gpsk_asked ordered) heard standing =
        (let login = login_of (side_of setup) setup.nonce in
        subst (λ (m : Message). GpskServerTags setup (gpsk.checked login)
        (sk_record user.psk m ∷ []) (sk_record user.psk (gpsk.gpsk3_of login) ∷ []))
        (gpsk2_same login pd mac message heard.same heard.has_mac)
        (gpsk_checked login pd (facts_of false ordered heard standing)))

  module _ (login : gpsk.Login) where
    gpsk_ends_barring : (code : ℕ) (mac : List ℕ) (accepted made : List TagRecord)
        → GpskServerTags setup (gpsk.barring login) accepted made
        → code ≡ gpsk.authorization_failure → gpsk_tag_of login.suite (gpsk.keys_of
        login).sk (covered_of (protected_fail code mac)) ≡ mac
        → GpskServerTags setup (gpsk.over login false)
        (accepted ++ sk_record login.psk (protected_fail code mac) ∷ []) (made ++ [])
    unfolding covered_of
    gpsk_ends_barring code mac _ _ (gpsk_barring _ pd facts) own_code has_mac =
        (let same : protected_fail gpsk.authorization_failure mac ≡ protected_fail code mac =
        ap (λ (c : ℕ). protected_fail c mac) (sym own_code) in
        let right =
        ap (λ (m : Message). gpsk_tag_of login.suite (gpsk.keys_of login).sk (covered_of m)) same
        ∙ has_mac in
        let taken : gpsk.bars_with login ≡ protected_fail code mac =
        ap (λ (t : List ℕ). protected_fail gpsk.authorization_failure t) right ∙ same in
        subst (λ (m : Message). GpskServerTags setup (gpsk.over login false)
        (sk_record login.psk (gpsk2_of_login login pd) ∷ sk_record login.psk m ∷ [])
        (sk_record login.psk (gpsk.bars_with login) ∷ []))
        taken (gpsk_barred login pd facts))

    gpsk_ends_well : (last_pd mac : List ℕ) (accepted made : List TagRecord)
        → GpskServerTags setup (gpsk.checked login) accepted made
        → gpsk_tag_of login.suite (gpsk.keys_of login).sk (covered_of (gpsk4 last_pd mac)) ≡ mac
        → GpskServerTags setup (gpsk.over login true)
        (accepted ++ sk_record login.psk (gpsk4 last_pd mac) ∷ []) (made ++ [])
    unfolding covered_of
    gpsk_ends_well last_pd mac _ _ (gpsk_checked _ pd facts) has_mac =
        subst (λ (t : List ℕ). GpskServerTags setup (gpsk.over login true)
        (sk_record login.psk (gpsk2_of_login login pd) ∷ sk_record login.psk (gpsk4 last_pd t) ∷ [])
        (sk_record login.psk (gpsk.gpsk3_of login) ∷ []))
        has_mac (gpsk_confirmed login pd last_pd facts)

  module _ (next_id : ℕ) (octets : List ℕ) (accepted made : List TagRecord) where
    pub gpsk_turned : (view : gpsk.View) (out : ServerOutcome gpsk.View)
        → GpskServerTags setup view accepted made
        → gpsk_row.GpskServerRow setup.users next_id view octets out
        → GpskTurned setup accepted made out
    gpsk_turned view _ told (gpsk_row.drops c) = drops view c
    gpsk_turned view _ told (gpsk_row.refuses own nonce _ _ _ _ _ _ _ _ in_view _ _ _ _ _ _ _) =
        requests _ _ _
        (gpsk_refuses own nonce accepted made (at_gpsk setup accepted made view _ in_view told))
    gpsk_turned view _ told
        (gpsk_row.bars own nonce id_p _ rand_p _ _ suite pd mac user in_view is_read _
        own_name setup_with_nonce own_list offered known barred _ has_mac) =
        requests _ _ _
        (gpsk_bars id_p rand_p pd mac _ suite user known _ own nonce accepted made
        (at_gpsk setup accepted made view _ in_view told)
        (record { same = cc; has_mac = has_mac; is_read = is_read; offered = offered }) barred)
    gpsk_turned view _ told
        (gpsk_row.checks own nonce id_p _ rand_p _ _ suite pd mac user in_view is_read _
        own_name setup_with_nonce own_list offered known welcome _ has_mac) =
        requests _ _ _
        (gpsk_checks id_p rand_p pd mac _ suite user known _ own nonce accepted made
        (at_gpsk setup accepted made view _ in_view told)
        (record { same = cc; has_mac = has_mac; is_read = is_read; offered = offered }) welcome)
    gpsk_turned view _ told (gpsk_row.ends_refusing own nonce _ in_view _ _) =
        ends false _ _
        (gpsk_gives_up own nonce accepted made (at_gpsk setup accepted made view _ in_view told))
        (λ e. absurd (false≢true e))
    gpsk_turned view _ told (gpsk_row.ends_barring login code mac in_view _ own_code _ has_mac) =
        ends false _ _ (gpsk_ends_barring login code mac accepted made
        (at_gpsk setup accepted made view _ in_view told) own_code has_mac)
        (λ e. absurd (false≢true e))
    gpsk_turned view _ told (gpsk_row.ends_checked login pd mac in_view _ _ has_mac) =
        ends true _ _ (gpsk_ends_well login pd mac accepted made
        (at_gpsk setup accepted made view _ in_view told) has_mac)
        (λ _. (login, refl))

-- at most two are accepted and at most two made
pub gpsk_few : (setup : ServerSetup) (view : gpsk.View) (accepted made : List TagRecord)
    → GpskServerTags setup view accepted made → AreFew accepted made
gpsk_few setup _ _ _ gpsk_refused =
    record { few_accepted = omega arith; few_produced = omega arith }
gpsk_few setup _ _ _ told = record { few_accepted = omega arith; few_produced = omega arith }

-- each is of the method
pub gpsk_method : (setup : ServerSetup) (view : gpsk.View) (accepted made : List TagRecord)
    (t : TagRecord) → GpskServerTags setup view accepted made → IsIn t made
    → t.method ≡ gpsk_kind
gpsk_method setup _ _ _ t (gpsk_asked ordered) is = elim is [ ]
gpsk_method setup _ _ _ t gpsk_refusing is = elim is [ ]
gpsk_method setup _ _ _ t gpsk_refused is = elim is [ ]
gpsk_method setup _ _ _ t (gpsk_barring login pd facts) is =
    ap (λ (r : TagRecord). r.method) (among_one _ _ is)
gpsk_method setup _ _ _ t (gpsk_checked login pd facts) is =
    ap (λ (r : TagRecord). r.method) (among_one _ _ is)
gpsk_method setup _ _ _ t (gpsk_barred login pd facts) is =
    ap (λ (r : TagRecord). r.method) (among_one _ _ is)
gpsk_method setup _ _ _ t (gpsk_confirmed login pd last_pd facts) is =
    ap (λ (r : TagRecord). r.method) (among_one _ _ is)
