-- What the history of a server of EAP-PAX tells: its tags, and of a good end a success.
use Rattle.std.proofs.Common.{◌≡◌, ℕ, List, [], ◌∷◌, ◌++◌, length, Bool, true, false, Option, Some}
use Rattle.std.proofs.Common.{None, refl, sym, ap, subst, ◌∙◌, arith, ◌≤◌}
use Rattle.std.specs.Prelude.{◌==◌, ◌&&◌, nat_le, not, if◌then◌else◌, drop}
use Rattle.std.specs.Str.{bytes_eq}
use Rattle.std.proofs.lemmas.Bool.{and_parts, eqb-true, false≢true, leb-true}
use Rattle.std.proofs.lemmas.List.{length-drop, length-take-le}
use Rattle.std.proofs.lemmas.Slice.Eq.{bytes_eq-Decides}
use Rattle.login_setup.specs.Setup.{ServerSetup}
use Rattle.login_setup.specs.Users.{user_of}
use Rattle.login_setup.specs.declared.users.User.{User}
use Rattle.octet_lists.specs.Among.{is_among}
use Rattle.eap_packet.specs.declared.cause.Cause.TheVariants.{BadTag}
use Rattle.eap_method.specs.declared.tags.TagRecord.{TagRecord}
use Rattle.eap_method.specs.Server.{Custom, Method, by_psk, by_gpsk, by_other, View, kind_of}
use Rattle.eap_method.specs.Server.{fresh, first_step, step, ServerShown, server_first_step}
use Rattle.eap_method.specs.Server.{server_step, side_of}
use Rattle.eap_method.specs.ServerTurn as turn
use Rattle.eap_method.specs.Tags.{Tags}
use Rattle.eap_method.specs.Turns.{ServerOutcome, FirstOutcome, body_of, dropped, done}
use Rattle.method_laws.specs.ServerHistory.{ServerHistory, initiated, requested, ended, Implied}
use Rattle.method_laws.proofs.ServerTurns.{Turned, drops, requests, ends, requested_by, ended_by}
use Rattle.pax_method.specs.Keys.{ick_of}
use Rattle.pax_method.specs.Messages.{mac_2}
use Rattle.pax_method.specs.Packets.{pax_kind, fields_in, has_icv, is_ack, read_2}
use Rattle.pax_method.specs.PaxServer as pax
use Rattle.pax_method.specs.PaxServer.{welcomes, pax_server, state_of}
use Rattle.pax_method.specs.ServerTags.{IsOfSettings, IsChecked, ServerTags, ServerSucceeds}
use Rattle.pax_method.specs.ServerTags.{first_login, std_2_received, std_3_records}
use Rattle.pax_method.specs.ServerTags.{unset_tags, asked_tags, checked_tags, over_tags}
use Rattle.pax_method.specs.declared.login.Fields.{Fields}
use Rattle.pax_method.specs.declared.login.Login.{Login}
use Rattle.pax_method.specs.declared.server.Phase.TheVariants as phase
use Rattle.pax_method.proofs.Steps.{first_in, server_step_asked, server_step_checked}

-- ---- B has 32 octets

found_where : (test : Bool) (found fields : Fields)
    → (if test then Some found else None) ≡ Some fields → (test ≡ true) × (found ≡ fields)
found_where true found fields is = (refl, cc is)
found_where false found fields is = absurd cc is

long_enough : (size : ℕ) → nat_le 75 size ≡ true → 75 ≤ size
long_enough size is = leb-true 75 size is

pub read_2_sized : (body : List ℕ) (fields : Fields) → read_2 body ≡ Some fields
    → length fields.b ≡ 32
unfolding read_2
read_2_sized body fields is =
    let found = found_where _ (fields_in body) fields is in
    let size : 75 ≤ length body = long_enough (length body) (and_parts (nat_le 75 (length body))
    _ found.0).0 in
    ap (λ (f : Fields). length f.b) (sym found.1)
    ∙ length-take-le 32 (drop 7 body) (omega (arith, length-drop 7 body, size))

-- ---- a user that is let in

pub record IsWelcome (found : Option User) : Type 0 where
  pub user : User
  pub is : found ≡ Some user
  pub welcome : user.barred ≡ false
  pub keyless : user.psk ≡ []

of_not : (test : Bool) → not test ≡ true → test ≡ false
of_not true e = sym e
of_not false e = refl

no_octet : (octets : List ℕ) → length octets ≡ 0 → octets ≡ []
no_octet [] e = refl
no_octet (x ∷ rest) e = absurd (omega (arith, e))

pub is_welcome_found : (found : Option User) → welcomes found ≡ true → IsWelcome found
is_welcome_found None is = absurd (false≢true is)
is_welcome_found (Some user) is =
    let both = and_parts (not user.barred) (length user.psk == 0) is in
    record {
      user = user;
      is = refl;
      welcome = of_not user.barred both.0;
      keyless = no_octet user.psk (eqb-true (length user.psk) 0 both.1);
    }

-- ---- the turns

module _ (setup : ServerSetup) (ak server : List ℕ) (sized : length setup.nonce ≡ 32) where
  module _ (accepted made : List TagRecord) where
    abbrev PaxTurned : ServerOutcome (List ℕ) → Type 0
    PaxTurned out = Turned (List ℕ) (ServerTags setup ak server) ServerSucceeds accepted made out

    by_test : (test : Bool) (out other : ServerOutcome (List ℕ)) → (test ≡ true → PaxTurned out)
        → PaxTurned other → PaxTurned (if test then out else other)
    by_test true out other good bad = good refl
    by_test false out other good bad = bad

  not_well : {A : Type 0} → false ≡ true → A
  not_well e = absurd (false≢true e)

  checks_turned : (state : List ℕ) (next_id : ℕ) (login : Login) (octets mac_ck : List ℕ)
      → IsChecked setup server login
      → PaxTurned [] [] (pax.checks ak state next_id login octets mac_ck)
  unfolding pax.answers
  checks_turned state next_id login octets mac_ck checked =
      by_test [] [] (bytes_eq (mac_2 ak login) mac_ck && has_icv (ick_of ak login) octets)
      (pax.answers ak next_id login octets mac_ck) (dropped state BadTag)
      (λ right. requests _ _ _ (checked_tags login next_id octets mac_ck checked))
      (drops state BadTag)

  asked_turned : (next_id : ℕ) (login : Login) (octets : List ℕ) (found : Option Fields)
      → ((fields : Fields) → found ≡ Some fields → length fields.b ≡ 32)
      → IsOfSettings setup server login
      → PaxTurned [] [] (pax.asked ak (state_of phase.Asked login) setup.users next_id login octets
      found)
  asked_turned next_id login octets None size of_settings = drops _ _
  asked_turned next_id login octets (Some fields) size of_settings =
      let now : Login = record { a = login.a; b = fields.b; cid = fields.cid } in
      by_test [] [] (welcomes (user_of setup.users fields.cid pax_kind))
      (pax.checks ak (state_of phase.Asked login) next_id now octets fields.mac_ck)
      (done [] false [])
      (λ good. let known = is_welcome_found (user_of setup.users fields.cid pax_kind) good in
      checks_turned (state_of phase.Asked login) next_id now octets fields.mac_ck (record {
        of_settings = record {
          ordered = of_settings.ordered;
          named = of_settings.named;
          a = of_settings.a;
          size = size fields refl;
        };
        user = known.user;
        known = known.is;
        welcome = known.welcome;
        keyless = known.keyless;
      })) (ends false _ [] unset_tags (λ e. not_well e))

  acked_turned : (login : Login) (id : ℕ) (last octets mac_ck : List ℕ) (is : Bool)
      → IsChecked setup server login
      → PaxTurned (std_2_received ak login octets mac_ck) (std_3_records ak login id)
      (pax.acked ak (state_of phase.Checked login) login last is)
  unfolding pax.ends
  acked_turned login id last octets mac_ck false checked = drops _ _
  acked_turned login id last octets mac_ck true checked =
      by_test (std_2_received ak login octets mac_ck) (std_3_records ak login id)
      (has_icv (ick_of ak login) last) (pax.ends ak login last)
      (dropped (state_of phase.Checked login) BadTag)
      (λ right. ends true _ _ (over_tags login id octets mac_ck last checked) (λ e. (login, refl)))
      (drops _ BadTag)

  a_sized : (login : Login) → IsOfSettings setup server login → length login.a ≡ 32
  a_sized login of_settings = ap length of_settings.a ∙ sized

  pub turned : (next_id : ℕ) (state octets : List ℕ) (accepted made : List TagRecord)
      → ServerTags setup ak server state accepted made
      → PaxTurned accepted made (pax.step ak setup.users next_id state octets)
  unfolding pax.step pax.turn_in
  turned next_id _ octets _ _ unset_tags = drops _ _
  turned next_id _ octets _ _ (asked_tags of_settings) =
      subst (λ (out : ServerOutcome (List ℕ)). PaxTurned [] [] out)
      (sym (server_step_asked ak
      (first_login setup) octets sized of_settings.size setup.users next_id))
      (asked_turned next_id (first_login setup) octets (read_2 (body_of octets))
      (λ fields is. read_2_sized (body_of octets) fields is) of_settings)
  turned next_id _ octets _ _ (checked_tags login id request mac_ck checked) =
      subst (λ (out : ServerOutcome (List ℕ)).
      PaxTurned (std_2_received ak login request mac_ck) (std_3_records ak login id) out)
      (sym (server_step_checked ak login octets
      (a_sized login checked.of_settings) checked.of_settings.size
      setup.users next_id))
      (acked_turned login id octets request mac_ck (is_ack (body_of octets)) checked)
  turned next_id _ octets _ _ (over_tags login id request mac_ck last checked) = drops _ _

  -- ---- by their histories

  abbrev pub Implies : List ℕ → Bool → List TagRecord → List TagRecord → Type 0
  Implies state good accepted made =
      Implied (ServerTags setup ak server) ServerSucceeds state good accepted made

  abbrev ImpliedBy : (m : Method) → View m → Bool → List TagRecord → List TagRecord → Type 0
  ImpliedBy by_psk view good accepted made = Unit {0}
  ImpliedBy by_gpsk view good accepted made = Unit {0}
  ImpliedBy (by_other custom) view good accepted made =
      custom ≡ pax_server ak server → Implies view good accepted made

  -- after the first Request
  first_tags : (good : Bool) (id : ℕ) → is_among setup.methods pax_kind ≡ true
      → bytes_eq setup.name server ≡ good
      → ServerTags setup ak server
      (pax.first_step (state_of (pax.first_phase good) (first_login setup)) id).after [] []
  unfolding pax.first_step pax.asks pax.is_unasked
  first_tags true id ordered is =
      subst (λ (out : FirstOutcome (List ℕ)). ServerTags setup ak server out.after [] [])
      (sym (first_in phase.Initial (first_login setup) id sized refl refl))
      (asked_tags (record {
        ordered = ordered;
        named = (bytes_eq-Decides setup.name server).0 is;
        a = refl;
        size = refl;
      }))
  first_tags false id ordered is =
      subst (λ (out : FirstOutcome (List ℕ)). ServerTags setup ak server out.after [] [])
      (sym (first_in phase.Misnamed (first_login setup) id sized refl refl)) unset_tags

  custom_first : (custom : Custom) (id : ℕ) → is_among setup.methods custom.kind ≡ true
      → custom ≡ pax_server ak server
      → Implies (custom.first_step (custom.fresh (side_of setup) setup.nonce) id).after false [] []
  unfolding side_of
  custom_first custom id ordered is =
      subst (λ (c : Custom). is_among setup.methods c.kind ≡ true
      → Implies (c.first_step (c.fresh (side_of setup) setup.nonce) id).after false [] []) (sym is)
      (λ among. record {
        tags = first_tags (bytes_eq setup.name server) id among refl;
        well = λ e. not_well e;
      }) ordered

  at_first : (m : Method) (id : ℕ) → is_among setup.methods (kind_of m) ≡ true
      → ImpliedBy m (first_step m (fresh m (side_of setup) setup.nonce) id).after false [] []
  at_first by_psk id ordered = tt
  at_first by_gpsk id ordered = tt
  at_first (by_other custom) id ordered = custom_first custom id ordered

  module _ (id : ℕ) (octets : List ℕ) (last : Bool) (tags : Tags)
      (accepted made : List TagRecord) where
    pax_request : (packet state : List ℕ) → Implies state last accepted made
        → (pax.step ak setup.users id state octets).turn ≡ turn.Request packet tags
        → Implies (pax.step ak setup.users id state octets).after false
        (accepted ++ tags.accepted) (made ++ tags.made)
    pax_request packet state tells is = record {
      tags = requested_by accepted made _ (turned id state octets accepted made tells.tags) packet
          tags is;
      well = λ e. not_well e;
    }

    pax_end : (state : List ℕ) (good : Bool) → Implies state last accepted made
        → (pax.step ak setup.users id state octets).turn ≡ turn.Done good tags
        → Implies (pax.step ak setup.users id state octets).after good
        (accepted ++ tags.accepted) (made ++ tags.made)
    pax_end state good tells is =
        let both = ended_by accepted made _ (turned id state octets accepted made tells.tags) good
        tags is in
        record { tags = both.0; well = both.1 }

    custom_request : (custom : Custom) (packet state : List ℕ)
        → (custom ≡ pax_server ak server → Implies state last accepted made)
        → (custom.step setup.users id state octets).turn ≡ turn.Request packet tags
        → custom ≡ pax_server ak server
        → Implies (custom.step setup.users id state octets).after false
        (accepted ++ tags.accepted) (made ++ tags.made)
    custom_request custom packet state before is same =
        subst (λ (c : Custom). (c.step setup.users id state octets).turn
        ≡ turn.Request packet tags → Implies (c.step setup.users id state octets).after false
        (accepted ++ tags.accepted) (made ++ tags.made)) (sym same)
        (pax_request packet state (before same)) is

    custom_end : (custom : Custom) (state : List ℕ) (good : Bool)
        → (custom ≡ pax_server ak server → Implies state last accepted made)
        → (custom.step setup.users id state octets).turn ≡ turn.Done good tags
        → custom ≡ pax_server ak server
        → Implies (custom.step setup.users id state octets).after good
        (accepted ++ tags.accepted) (made ++ tags.made)
    custom_end custom state good before is same =
        subst (λ (c : Custom). (c.step setup.users id state octets).turn
        ≡ turn.Done good tags → Implies (c.step setup.users id state octets).after good
        (accepted ++ tags.accepted) (made ++ tags.made)) (sym same)
        (pax_end state good (before same)) is

    at_request : (m : Method) (view : View m) (packet : List ℕ)
        → ImpliedBy m view last accepted made
        → (step setup.users id m view octets).turn ≡ turn.Request packet tags
        → ImpliedBy m (step setup.users id m view octets).after false
        (accepted ++ tags.accepted) (made ++ tags.made)
    at_request by_psk view packet before is = tt
    at_request by_gpsk view packet before is = tt
    at_request (by_other custom) view packet before is = custom_request custom packet view before is

    at_end : (m : Method) (view : View m) (good : Bool) → ImpliedBy m view last accepted made
        → (step setup.users id m view octets).turn ≡ turn.Done good tags
        → ImpliedBy m (step setup.users id m view octets).after good
        (accepted ++ tags.accepted) (made ++ tags.made)
    at_end by_psk view good before is = tt
    at_end by_gpsk view good before is = tt
    at_end (by_other custom) view good before is = custom_end custom view good before is

  histories_imply : (s : ServerShown) (good : Bool) (accepted made : List TagRecord)
      → ServerHistory setup s good accepted made → ImpliedBy s.method s.view good accepted made
  unfolding server_first_step server_step
  histories_imply _ _ _ _ (initiated s id ordered) = at_first s.method id ordered
  histories_imply _ _ _ _
      (requested s after id octets packet last tags accepted made before turned) =
      subst (λ (t : ServerShown).
      ImpliedBy t.method t.view false (accepted ++ tags.accepted) (made ++ tags.made))
      (ap (λ (out : ServerOutcome ServerShown). out.after) turned)
      (at_request id octets last tags accepted made s.method s.view packet
      (histories_imply s last accepted made before)
      (ap (λ (out : ServerOutcome ServerShown). out.turn) turned))
  histories_imply _ _ _ _
      (ended s after id octets last good tags accepted made before turned) =
      subst (λ (t : ServerShown).
      ImpliedBy t.method t.view good (accepted ++ tags.accepted) (made ++ tags.made))
      (ap (λ (out : ServerOutcome ServerShown). out.after) turned)
      (at_end id octets last tags accepted made s.method s.view good
      (histories_imply s last accepted made before)
      (ap (λ (out : ServerOutcome ServerShown). out.turn) turned))

  pub server_implied : (state : List ℕ) (good : Bool) (accepted made : List TagRecord)
      → ServerHistory setup (record { method = by_other (pax_server ak server); view = state }) good
      accepted made → Implies state good accepted made
  server_implied state good accepted made history = histories_imply _ good accepted made history
      refl
