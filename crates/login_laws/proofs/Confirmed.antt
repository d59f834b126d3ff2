-- A conversation of the server in SUCCESS by EAP-GPSK, all of whose tags one of the peer made, or two
-- of it.
use Rattle.std.proofs.Common.{◌≡◌, ℕ, ◌≤◌, true, false, List, [], ◌∷◌, ◌++◌, length, Some}
use Rattle.std.proofs.Common.{refl, sym, ap, subst, ◌∙◌, arith, inl, inr, length-append}
use Rattle.std.proofs.Common.{append-nil}
use Rattle.std.specs.Int.{w32, to_be_bytes}
use Rattle.std.specs.Prelude.{◌⊎◌, ◌/◌, ◌%◌}
use Rattle.login_setup.specs.Setup.{ServerSetup}
use Rattle.login_setup.specs.declared.setup.PeerSetup.{PeerSetup}
use Rattle.login_setup.specs.declared.setup.Setup.{Setup}
use Rattle.login_setup.specs.declared.users.User.{User}
use Rattle.octet_lists.specs.Among.{psk_kind, gpsk_kind}
use Rattle.gpsk_messages.specs.Message.{covered_of, field_with_length}
use Rattle.eap_method.specs.BothPeers.{gpsk_in}
use Rattle.eap_method.specs.BothServers.{gpsk_at}
use Rattle.eap_method.specs.declared.tags.TagRecord.{TagRecord}
use Rattle.eap_method.specs.declared.values.Report.{Report}
use Rattle.eap_method.specs.GpskPeer as gpsk_peer
use Rattle.eap_method.specs.GpskServer as gpsk_server
use Rattle.eap_method.specs.GpskTags.{sk_record}
use Rattle.eap_method.specs.Peer.{PeerViews, key_for}
use Rattle.eap_method.specs.Server.{ServerViews}
use Rattle.peer_machine.specs.PeerTable as peers
use Rattle.peer_machine.specs.PeerTable.{peer_reports, selected_report}
use Rattle.server_machine.specs.ServerTable as servers
use Rattle.server_machine.specs.ServerTable.{server_reports, current_report}
use Rattle.eap_world.specs.Conversations.{front}
use Rattle.method_laws.specs.GpskPeerInvariant.{GpskStarted, GpskPeerTags, gpsk_unset, gpsk_fresh}
use Rattle.method_laws.specs.GpskPeerInvariant.{gpsk_waits, gpsk_confirmed, gpsk_failed}
use Rattle.method_laws.specs.GpskPeerInvariant.{gpsk_barred, gpsk2_record}
use Rattle.method_laws.specs.GpskServerInvariant.{GpskChecked, GpskServerTags, gpsk2_of_login}
use Rattle.method_laws.specs.GpskServerInvariant.{gpsk4_of_login, gpsk_whole_rand_p_in}
use Rattle.method_laws.specs.GpskServerInvariant as of_server
use Rattle.method_laws.specs.Records.{IsIn, here, later}
use Rattle.method_laws.specs.RightMacs.{IsRightMac, KeyInputs, PeerDerives, ServerDerives}
use Rattle.method_laws.specs.RightMacs.{gpsk_inputs, gpsk_peer, gpsk_server, psk_inputs, psk_peer}
use Rattle.method_laws.specs.RightMacs.{psk_server, under_ak, under_sk, under_tek}
use Rattle.method_laws.proofs.Among.{among_one, among_two}
use Rattle.method_laws.proofs.Asks.{some_is}
use Rattle.method_laws.proofs.Fields.{sized_fronts}
use Rattle.method_laws.proofs.GpskAgrees as gpsk
use Rattle.method_laws.proofs.OneMethod.{apart as one_method}
use Rattle.method_laws.proofs.PeerByMethod.{created_by_gpsk, kinds_apart}
use Rattle.method_laws.proofs.RightMacs.{peer_tags_right, server_tags_right}
use Rattle.method_laws.proofs.ServerByMethod as server_by_method
use Rattle.method_laws.proofs.Succeeding.{ServerSucceeds, of_psk, of_gpsk}
use Rattle.world_laws.specs.EachConversation.{IsOneOf, OfPeer, OfServer, peer_nonce}
use Rattle.world_laws.specs.EachConversation.{server_nonce}
use Rattle.login_laws.specs.AnyEnds.{AreOfSomeRuns, HonestAmong, NoncesDiffer}
use Rattle.login_laws.specs.Confirmed.{AreIn, Collision, GpskServersConfirmed}
use Rattle.login_laws.specs.Confirmed.{GpskServersConfirmedOrCollide}
use Rattle.login_laws.specs.Matching.{RestsOn}
use Rattle.login_laws.proofs.AnyEnds.{peer_known, server_known}
use Rattle.login_laws.proofs.Matching.{PeerKnown, ServerKnown, is_first, server_one, server_won}
use Rattle.login_laws.proofs.UserKeys.{keyed_server}
use Rattle.world_laws.proofs.EndTags.{peer_tags, server_tags}
use Rattle.world_laws.proofs.OneOf.{made_in, same_or_two}

-- what the MAC of GPSK-3 covers is longer than a failure code
pub longer : (nonce rest short : List ℕ) → length nonce ≡ 32 → length short ≤ 4
    → short ≡ nonce ++ rest → ⊥
longer nonce rest short n few same =
    let sizes : length short ≡ length (nonce ++ rest) =
    ap length same in absurd (omega (arith, length-append nonce rest, n, few))

not_gpsk3 : (login : gpsk_server.Login) → length login.rand_p ≡ 32 → (code : ℕ)
    → to_be_bytes w32 code ≡ covered_of (gpsk_server.gpsk3_of login) → ⊥
unfolding covered_of
not_gpsk3 login size code e = longer login.rand_p _ (to_be_bytes w32 code) size (omega arith) e

-- a failure code of a server's is no PD block with its length
not_code : (pd : List ℕ) → field_with_length pd ≡ to_be_bytes w32 3 → ⊥
not_code pd e =
    let octets : length pd / 256 ∷ length pd % 256 ∷ pd ≡ 0 ∷ 0 ∷ 0 ∷ 3 ∷ [] = e in
    let second : length pd % 256 ≡ 0 = cc octets in
    let rest : pd ≡ 0 ∷ 3 ∷ [] = cc octets in
    let size : length pd ≡ 2 = ap length rest in absurd (omega (arith, second, size))

-- nothing follows the PD block of GPSK-4
nothing_follows : (first second rest : List ℕ) → [] ≡ field_with_length second ++ rest → ⊥
nothing_follows first second rest e = absurd cc

octets_of : (one other : TagRecord) → one ≡ other → one.octets ≡ other.octets
octets_of one other e = ap (λ (r : TagRecord). r.octets) e

module _ (other : gpsk_server.Login) (last_pd : List ℕ) where
  -- the tag of the GPSK-4 that a server accepted
  abbrev fourth : TagRecord
  fourth = sk_record other.psk (gpsk4_of_login other last_pd)

  -- a failure code isn't what it covers, if it is one that these accepted
  abbrev IsNoCode : List TagRecord → Type 0
  IsNoCode accepted = (code : ℕ) → covered_of (gpsk4_of_login other last_pd) ≡ to_be_bytes w32 code
      → IsIn fourth accepted → ⊥

  not_gpsk2 : (login : gpsk_peer.Login) (list : List ℕ)
      → covered_of (gpsk4_of_login other last_pd) ≡ covered_of (gpsk_peer.gpsk2_of login list) → ⊥
  unfolding covered_of
  not_gpsk2 login list e =
      let both = sized_fronts last_pd [] login.cred.id_p _
      (append-nil (field_with_length last_pd) ∙ e) in
      nothing_follows [] login.id_s _ both.1

  not_bars : (login : gpsk_server.Login)
      → covered_of (gpsk4_of_login other last_pd) ≡ covered_of (gpsk_server.bars_with login) → ⊥
  unfolding covered_of
  not_bars login e = not_code last_pd e

  -- a conversation of the peer that made it has succeeded
  pub record Succeeded (setup : PeerSetup) (view : gpsk_peer.View) (made : List TagRecord)
      : Type 0 where
    pub login : gpsk_peer.Login
    pub list : List ℕ
    pub facts : GpskStarted setup login list
    pub in_view : view ≡ gpsk_peer.over login true
    pub made_is : made
        ≡ gpsk2_record login list ∷ sk_record login.cred.psk (gpsk_peer.gpsk4_of login) ∷ []

  succeeded : (setup : PeerSetup) (view : gpsk_peer.View) (accepted made : List TagRecord)
      → GpskPeerTags setup view accepted made → IsIn fourth made → IsNoCode accepted
      → Succeeded setup view made
  unfolding covered_of
  succeeded setup _ _ _ gpsk_unset is no_code = elim is [ ]
  succeeded setup _ _ _ (gpsk_fresh allowed) is no_code = elim is [ ]
  succeeded setup _ _ _ (gpsk_waits login list facts) is no_code =
      absurd (not_gpsk2 login list (octets_of _ _ (among_one _ _ is)))
  succeeded setup _ _ _ (gpsk_failed login list facts) is no_code =
      absurd (not_gpsk2 login list (octets_of _ _ (among_one _ _ is)))
  succeeded setup _ _ _ (gpsk_barred login list code facts) is no_code =
      elim (among_two _ _ _ is) [
        | inl e ↦ absurd (not_gpsk2 login list (octets_of _ _ e))
        | inr e ↦ absurd (no_code code (octets_of _ _ e)
            (subst (λ (t : TagRecord). IsIn fourth (t ∷ [])) e (here [])))
      ]
  succeeded setup _ _ _ (gpsk_confirmed login list their_pd facts) is no_code =
      record { login = login; list = list; facts = facts; in_view = refl; made_is = refl }

  -- a server that made it would have made GPSK-3 or GPSK-Protected-Fail
  none_made : (setup : ServerSetup) (view : gpsk_server.View) (accepted made : List TagRecord)
      → GpskServerTags setup view accepted made → IsIn fourth made → (code : ℕ)
      → covered_of (gpsk4_of_login other last_pd) ≡ to_be_bytes w32 code → ⊥
  none_made setup _ _ _ (of_server.gpsk_asked ordered) is code e = elim is [ ]
  none_made setup _ _ _ of_server.gpsk_refusing is code e = elim is [ ]
  none_made setup _ _ _ of_server.gpsk_refused is code e = elim is [ ]
  none_made setup _ _ _ (of_server.gpsk_barring login pd facts) is code e =
      not_bars login (octets_of _ _ (among_one _ _ is))
  none_made setup _ _ _ (of_server.gpsk_checked login pd facts) is code e =
      not_gpsk3 login facts.size code (sym e ∙ octets_of _ _ (among_one _ _ is))
  none_made setup _ _ _ (of_server.gpsk_barred login pd facts) is code e =
      not_bars login (octets_of _ _ (among_one _ _ is))
  none_made setup _ _ _ (of_server.gpsk_confirmed login pd their_pd facts) is code e =
      not_gpsk3 login facts.size code (sym e ∙ octets_of _ _ (among_one _ _ is))

module _ (setup : Setup) (p : OfPeer) (s : OfServer) (p_known : PeerKnown setup.peer p)
    (s_known : ServerKnown setup.server s) where
  abbrev own : PeerSetup
  own = peers.setup_with_nonce setup.peer (peer_nonce p)

  abbrev theirs : ServerSetup
  theirs = servers.setup_with_nonce setup.server (server_nonce s)

  -- the one of the peer that made both tags of the server's reports what that does
  confirmed : (other : gpsk_server.Login) (pd last_pd : List ℕ)
      → s.now.vars.current ≡ Some gpsk_kind
      → gpsk_at s.now.views ≡ Some (gpsk_server.over other true)
      → GpskChecked theirs other false → IsIn (sk_record other.psk (gpsk2_of_login other pd)) p.made
      → IsIn (fourth other last_pd) p.made → IsNoCode other last_pd p.accepted
      → peer_reports p.now ≡ server_reports s.now
  confirmed other pd last_pd is_current in_other checked first last no_code =
      let found = created_by_gpsk own p.now.vars.selected p.now.views p.accepted p.made _
      (peer_tags p_known.stands) first refl in
      let won = succeeded other last_pd own (gpsk_in p.now.views) p.accepted p.made found.1 last
      no_code in
      let same = gpsk.same_login own theirs won.login won.list won.facts other pd checked
      p_known.size s_known.size
      (subst (λ (all : List TagRecord). IsIn (sk_record other.psk (gpsk2_of_login other pd)) all)
      won.made_is first) in
      ap (selected_report p.now.views) found.0
      ∙ (gpsk.peer_reported p.now.views won.login won.in_view
      ∙ (ap Some (gpsk.same_reports won.login won.list other same)
      ∙ (sym (gpsk.server_reported s.now.views other in_other)
      ∙ sym (ap (current_report s.now.views) is_current))))

  by : s.now.vars.current ≡ Some gpsk_kind → (sa sm : List TagRecord)
      → ServerSucceeds theirs s.now.vars.current s.now.views sa sm
      → AreIn sa p.made → AreIn p.accepted sm → peer_reports p.now ≡ server_reports s.now
  by is_gpsk _ _ (of_psk login header sealed id is_current in_view facts r_sent) forth back =
      one_method s.now.vars.current psk_kind gpsk_kind refl is_current is_gpsk
  by is_gpsk _ _ (of_gpsk other pd last_pd is_current in_other checked) forth back =
      confirmed other pd last_pd is_current in_other checked (forth.each _ (here _))
      (forth.each _ (later _ _ (here _)))
      (λ code e is. not_gpsk3 other checked.size code
      (sym e ∙ octets_of _ _ (among_one _ _ (back.each _ is))))

pub gpsk_servers_confirmed : GpskServersConfirmed
gpsk_servers_confirmed setup s s_of s_in is_gpsk p p_of forth back =
    let s_known = server_known setup s s_of in
    by setup p s (peer_known setup p p_of) s_known is_gpsk s.accepted s.made
    (server_won setup s s_known s_in) forth back

-- ---- or the MACs of two logins collide

-- the method whose keys these give
abbrev method_of : KeyInputs → ℕ
method_of (psk_inputs psk rand_p) = psk_kind
method_of (gpsk_inputs suite psk rand_p id_p rand_s id_s) = gpsk_kind

right_method : (inputs : KeyInputs) (t : TagRecord) → IsRightMac inputs t
    → t.method ≡ method_of inputs
right_method _ _ (under_ak psk rand_p octets) = refl
right_method _ _ (under_tek psk rand_p header number sealed) = refl
right_method _ _ (under_sk suite psk rand_p id_p rand_s id_s octets) = refl

-- a server by EAP-GPSK that has another nonce than the peer's derives its keys from other inputs
inputs_differ : (server : ServerSetup) (nonce : List ℕ) (views : ServerViews) (report : Report)
    (user : User) (one : KeyInputs) (peer : PeerSetup) (own : List ℕ) (peer_views : PeerViews)
    (theirs : Report) (other : KeyInputs) (t : TagRecord) (known : List ℕ)
    → ServerDerives server nonce views report user one → PeerDerives peer own peer_views theirs other
    → IsRightMac one t → t.method ≡ gpsk_kind → gpsk_whole_rand_p_in (gpsk_at views) ≡ Some known
    → (known ≡ own → ⊥) → one ≡ other → ⊥
inputs_differ server nonce views report user _ peer own peer_views theirs other t known
    (psk_server by_psk rand_p knows) derives right by_gpsk whole apart e =
    kinds_apart t.method (right_method _ t right) by_gpsk
inputs_differ server nonce views report user _ peer own peer_views theirs _ t known
    (gpsk_server is_gpsk suite is_suite rand_p knows) (psk_peer by_psk) right by_gpsk whole apart e =
    absurd cc
inputs_differ server nonce views report user _ peer own peer_views theirs _ t known
    (gpsk_server is_gpsk suite is_suite rand_p knows)
    (gpsk_peer also_gpsk other_suite is_other rand_s other_knows) right by_gpsk whole apart e =
    apart (some_is known rand_p (sym whole ∙ knows) ∙ (let same : rand_p ≡ own = cc in same))

module _ (setup : Setup) (kind : ℕ) (ps : List OfPeer) (ss : List OfServer)
    (are : AreOfSomeRuns setup ps ss) (differ : NoncesDiffer ps ss)
    (honest : HonestAmong (key_for setup.peer kind) ps ss) (s : OfServer) (s_is : IsOneOf s ss)
    (is_gpsk : s.now.vars.current ≡ Some gpsk_kind) (p : OfPeer) (p_is : IsOneOf p ps)
    (rests : RestsOn s.accepted p.made) where
  abbrev p_known : PeerKnown setup.peer p
  p_known = peer_known setup p (are.peers p p_is)

  abbrev s_known : ServerKnown setup.server s
  s_known = server_known setup s (are.servers s s_is)

  -- the server has the whole nonce of the peer on which it rests
  whole : gpsk_whole_rand_p_in (gpsk_at s.now.views) ≡ Some (peer_nonce p)
  whole = let one = server_one setup s s_known p p_known rests in
      (one.whole (one.method ∙ is_gpsk)).rand_p

  collide : (t : TagRecord) → t.method ≡ gpsk_kind → IsIn t s.accepted → (q : OfPeer)
      → IsOneOf q ps → IsIn t q.made → (front (peer_nonce p) ≡ front (peer_nonce q) → ⊥)
      → Collision setup ps s
  collide t by_gpsk its q q_is made apart =
      let q_known = peer_known setup q (are.peers q q_is) in
      let one = (server_tags_right setup.server (server_nonce s) s.now.vars.current s.now.views
      s.accepted s.made (server_tags s_known.stands)).accepted_so t its in
      let other = (peer_tags_right setup.peer (peer_nonce q) q.now.vars.selected q.now.views
      q.accepted q.made (peer_tags q_known.stands)).made_so t made in
      record {
        by = q;
        is_one = q_is;
        tag = t;
        accepted = its;
        made = made;
        server_mac = one;
        peer_mac = other;
        differ = inputs_differ setup.server (server_nonce s) s.now.views one.report one.user
            one.inputs setup.peer (peer_nonce q) q.now.views other.report other.inputs t
            (peer_nonce p) one.derives other.derives one.right by_gpsk whole
            (λ e. apart (ap front e));
      }

  -- no server made what the peer accepted as a failure code
  no_code : (other : gpsk_server.Login) (last_pd : List ℕ) → other.psk ≡ key_for setup.peer kind
      → IsNoCode other last_pd p.accepted
  no_code other last_pd keyed code e is =
      let m = made_in (fourth other last_pd) ss ((honest.of_peers p p_is).each _ is keyed) in
      let known = server_known setup m.by (are.servers m.by m.is_one) in
      let found = server_by_method.created_by_gpsk
      (servers.setup_with_nonce setup.server (server_nonce m.by)) m.by.now.vars.current
      m.by.now.views m.by.accepted m.by.made (fourth other last_pd) (server_tags known.stands)
      m.is_in refl in
      none_made other last_pd (servers.setup_with_nonce setup.server (server_nonce m.by)) found.view
      m.by.accepted m.by.made found.told m.is_in code e

  either : (sa sm : List TagRecord)
      → ServerSucceeds (servers.setup_with_nonce setup.server (server_nonce s)) s.now.vars.current
      s.now.views sa sm
      → AreIn sa s.accepted → ((t : TagRecord) → IsIn t sa → t.psk ≡ key_for setup.peer kind)
      → RestsOn sa p.made → (peer_reports p.now ≡ server_reports s.now) ⊎ Collision setup ps s
  either _ _ (of_psk login header sealed id is_current in_view facts r_sent) all keyed on =
      one_method s.now.vars.current psk_kind gpsk_kind refl is_current is_gpsk
  either _ _ (of_gpsk other pd last_pd is_current in_other checked) all keyed on =
      let t = fourth other last_pd in
      let its : IsIn t s.accepted = all.each _ (later _ _ (here _)) in
      let under : other.psk ≡ key_for setup.peer kind = keyed _ (later _ _ (here _)) in
      let m = made_in t ps ((honest.of_servers s s_is).each t its under) in
      elim (same_or_two p m.by ps p_is m.is_one) [
        | inl same ↦ inl (confirmed setup p s p_known s_known other pd last_pd is_current in_other
            checked (is_first _ p.made _ _ refl on)
            (subst (λ (q : OfPeer). IsIn t q.made) (sym same) m.is_in)
            (no_code other last_pd under))
        | inr two ↦ elim two [
          | inl one ↦ inr (collide t refl its m.by m.is_one m.is_in (differ.peers p m.by one))
          | inr one ↦
              inr (collide t refl its m.by m.is_one m.is_in (λ e. differ.peers m.by p one (sym e)))
        ]
      ]

-- One of the peers made the GPSK-4 that the server accepted. If it is the one that made the GPSK-2,
-- the tags of both tell one login, unless that GPSK-4 was the answer to a failure code, which no
-- server makes such. If it is another, the same MAC is right under the keys of two logins, which
-- have different nonces of the peer.
pub gpsk_servers_confirmed_or_collide : GpskServersConfirmedOrCollide
gpsk_servers_confirmed_or_collide setup kind ps ss are differ honest s s_is s_in of_key is_gpsk p
    p_is rests =
    let known = server_known setup s (are.servers s s_is) in
    let won = server_won setup s known s_in in
    either setup kind ps ss are differ honest s s_is is_gpsk p p_is rests s.accepted s.made won
    (record { each = λ t is. is })
    (keyed_server setup (key_for setup.peer kind) s.now
    (servers.setup_with_nonce setup.server (server_nonce s)) s.accepted s.made refl won of_key)
    rests
