-- Settings that come one after another, the values that their lines give, and the users among them.
use Rattle.std.proofs.Common.{◌≡◌, ℕ, zero, suc, ◌<◌, ◌≤◌, List, [], ◌∷◌, ◌++◌, length, get_or}
use Rattle.std.proofs.Common.{Bool, true, false, nat_le, Option, Some, None, find}
use Rattle.std.proofs.Common.{is_some, unwrap_or, not, ◌&&◌, nat_lt, Result, Ok, Err, IfOk, refl}
use Rattle.std.proofs.Common.{sym, ap, ap₂, subst, ◌∙◌, arith, append_assoc, append-nil}
use Rattle.std.proofs.Common.{length-append, lit≤, not-suc-le-zero}
use Rattle.std.proofs.lemmas.Bool.{cond_both, leb-false, lt-leb, lt-ltb, ltb-true}
use Rattle.std.proofs.lemmas.List.{get_or_append_left}
use Rattle.std.proofs.Math.Seq.{get_or-append_seam}
use Rattle.login_setup.specs.Setup.{no_later, has_keys}
use Rattle.login_setup.specs.Users.{user_of, is_named, HasCapacity, AreDistinct, max_users}
use Rattle.login_setup.specs.declared.users.User.{User}
use Rattle.login_setup.specs.declared.setup.Later.{Later}
use Rattle.login_setup.specs.declared.setup.PeerSetup.{PeerSetup}
use Rattle.login_setup.specs.Setup.{ServerSetup}
use Rattle.login_setup.specs.declared.setup.Setup.{Setup}
use Rattle.login_setup.proofs.UserLists.{AreDistinct_push}
use Rattle.text_tables.specs.Fields.{◌>>=◌}
use Rattle.text_tables.specs.Users.{with_user}
use Rattle.text_tables.proofs.Adding.{empty, with_user_is, with_user_satisfies}
use Rattle.scenario_text.specs.Reading.{settings_of_version, has_setting, with_later, with_nonce}
use Rattle.scenario_text.specs.Reading.{is_full, with_setting, both_suites, given_or_missing}
use Rattle.scenario_text.specs.Reading.{keyed_or_missing, later_nonces, later_of, peer_setup_of}
use Rattle.scenario_text.specs.Reading.{server_setup_of, setup_of}
use Rattle.scenario_text.specs.Valid.{AreUsers, AreFew, IsConsistent}
use Rattle.scenario_text.specs.Versions.{has_later, most_later}
use Rattle.scenario_text.specs.Whole.{Values, no_values, with_value, values_of, IsGivenOr}
use Rattle.scenario_text.specs.Whole.{IsGivenOrNone, AreNoncesOf, MakesPeer, MakesServer}
use Rattle.scenario_text.specs.Whole.{MakesSetup}
use Rattle.text_tables.specs.declared.fault.LineFault.{LineFault}
use Rattle.text_tables.specs.declared.fault.LineFault.TheVariants.{Missing}
use Rattle.scenario_text.specs.declared.entry.Setting.{Setting}
use Rattle.scenario_text.specs.declared.entry.Setting.TheVariants as setting
use Rattle.scenario_text.specs.declared.settings.GivenNonces.{GivenNonces}
use Rattle.scenario_text.specs.declared.settings.Settings.{Settings}
use Rattle.scenario_text.specs.declared.version.Version.{Version}
use Rattle.scenario_text.specs.declared.version.Version.TheVariants.{First, Second}

no_users : AreUsers []
no_users = record { few = lit≤ tt; distinct = λ i j d low high. absurd (not-suc-le-zero high) }

users_kept : (users : List User) (user : User) → AreUsers users → AreUsers (with_user users user)
users_kept users user h =
    with_user_satisfies AreUsers users user h (λ r.
    record {
      few = omega (arith, length-append users (user ∷ []), r.few);
      distinct = AreDistinct_push users user (h.distinct) (r.absent);
    })

later_few : (version : Version) (later : List (List ℕ)) (nonce : List ℕ) → length later
    ≤ most_later version → length (with_later version later nonce) ≤ most_later version
unfolding with_later
later_few version later nonce h =
    cond_both (nat_lt (length later) (most_later version)) (later ++ nonce ∷ []) later
    (λ l. length l ≤ most_later version) (λ e. let below = ltb-true (length later)
    (most_later version) e in omega (arith, length-append later (nonce ∷ []))) (λ e. h)

few_kept : (version : Version) (slot : Option GivenNonces) (nonce : List ℕ) → AreFew version slot
    → AreFew version (with_nonce version slot nonce)
few_kept First None nonce h = lit≤ tt
few_kept Second None nonce h = lit≤ tt
few_kept version (Some given) nonce h = later_few version given.later nonce h

pub none_kept : (version : Version) → IsConsistent (settings_of_version version)
none_kept version = record { users = no_users; peer_nonces = tt; server_nonces = tt }

pub kept : (s : Settings) (x : Setting) → IsConsistent s → IsConsistent (with_setting s x)
kept s (setting.User user) h = record {
  users = users_kept s.users user h.users;
  peer_nonces = h.peer_nonces;
  server_nonces = h.server_nonces;
}
kept s (setting.PeerNonce nonce) h =
    record {
      users = h.users;
      peer_nonces = few_kept s.version s.peer_nonces nonce h.peer_nonces;
      server_nonces = h.server_nonces;
    }
kept s (setting.ServerNonce nonce) h =
    record {
      users = h.users;
      peer_nonces = h.peer_nonces;
      server_nonces = few_kept s.version s.server_nonces nonce h.server_nonces;
    }
kept s other h =
    record { users = h.users; peer_nonces = h.peer_nonces; server_nonces = h.server_nonces }

-- a setting leaves the version
pub same_version : (s : Settings) (x : Setting) → (with_setting s x).version ≡ s.version
same_version s (setting.User user) = refl
same_version s other = refl

-- the values that come to what is set
abbrev pub plus : {A : Type 0} → Option A → List A → List A
plus None xs = xs
plus (Some a) xs = a ∷ xs

abbrev pub plus_nonces : Option GivenNonces → List (List ℕ) → List (List ℕ)
plus_nonces None xs = xs
plus_nonces (Some given) xs = given.first ∷ (given.later ++ xs)

abbrev pub joined : Settings → Values → Values
joined s v = record {
  mode = plus s.mode v.mode;
  first_id = plus s.first_id v.first_id;
  max_retrans = plus s.max_retrans v.max_retrans;
  peer_name = plus s.peer_name v.peer_name;
  peer_server = plus s.peer_server v.peer_server;
  peer_methods = plus s.peer_methods v.peer_methods;
  peer_suites = plus s.peer_suites v.peer_suites;
  peer_psk47 = plus s.peer_psk47 v.peer_psk47;
  peer_psk51 = plus s.peer_psk51 v.peer_psk51;
  peer_nonce = plus_nonces s.peer_nonces v.peer_nonce;
  server_name = plus s.server_name v.server_name;
  server_methods = plus s.server_methods v.server_methods;
  server_suites = plus s.server_suites v.server_suites;
  server_nonce = plus_nonces s.server_nonces v.server_nonce;
  users = s.users ++ v.users;
  peer_expanded = plus s.peer_expanded v.peer_expanded;
  server_expanded = plus s.server_expanded v.server_expanded;
}

-- a user, or in the second version a nonce of an end, comes where 16 are there
abbrev pub is_over : Settings → Setting → Bool
is_over s (setting.User user) = nat_le 16 (length s.users)
is_over s (setting.PeerNonce nonce) = has_later s.version && is_full s.peer_nonces
is_over s (setting.ServerNonce nonce) = has_later s.version && is_full s.server_nonces
is_over s v = false

-- each setting that comes is new
abbrev pub AllNew : Settings → List Setting → Type 0
AllNew s [] = Unit {0}
AllNew s (v ∷ rest) =
    (is_over s v ≡ false) × (has_setting s v ≡ false) × AllNew (with_setting s v) rest

abbrev pub settings_after : Settings → List Setting → Settings
settings_after s [] = s
settings_after s (v ∷ rest) = settings_after (with_setting s v) rest

fresh : {A : Type 0} (slot : Option A) (a : A) (xs : List A) → is_some slot ≡ false
    → plus slot (a ∷ xs) ≡ a ∷ xs
fresh None a xs e = refl
fresh (Some b) a xs e = absurd cc

room : (users : List User) (user : User) → nat_le 16 (length users) ≡ false
    → is_some (user_of users user.name user.kind) ≡ false → HasCapacity max_users users user
room users user f n = record {
  few = leb-false 16 (length users) f;
  bounded = leb-false 16 (length users) f;
  absent = empty (user_of users user.name user.kind) n;
}

pushed : (users : List User) (user : User) → HasCapacity max_users users user
    → users ++ user ∷ [] ≡ with_user users user
pushed users user h = with_user_is users (users ++ user ∷ []) user (λ k. refl) (λ no. absurd (no h))

added : (users : List User) (user : User) (rest : List User) → HasCapacity max_users users user
    → users ++ user ∷ rest ≡ with_user users user ++ rest
added users user rest h =
    sym (append_assoc users (user ∷ []) rest) ∙ ap (λ l. l ++ rest) (pushed users user h)

-- so does a nonce for which there is room
later_added : (later : List (List ℕ)) (nonce : List ℕ) (rest : List (List ℕ)) → nat_le 15 (length
    later) ≡ false → later ++ nonce ∷ rest ≡ with_later Second later nonce ++ rest
unfolding with_later
later_added later nonce rest f =
    let room : nat_lt (length later) 15 ≡ true =
    lt-ltb (length later) 15 (leb-false 15 (length later) f) in
    rw room (sym (append_assoc later (nonce ∷ []) rest))

nonce_added : (version : Version) (slot : Option GivenNonces) (nonce : List ℕ)
    (rest : List (List ℕ)) → (has_later version && is_full slot) ≡ false →
    (not (has_later version) && is_some slot) ≡ false → plus_nonces slot (nonce ∷ rest)
    ≡ plus_nonces (with_nonce version slot nonce) rest
nonce_added version None nonce rest f n = refl
nonce_added First (Some given) nonce rest f n = absurd cc
nonce_added Second (Some given) nonce rest f n =
    ap (λ l. given.first ∷ l) (later_added given.later nonce rest f)

-- a new setting goes from what comes to what is set
moves : (s : Settings) (x : Setting) (v : Values) → is_over s x ≡ false → has_setting s x ≡ false
    → joined s (with_value x v) ≡ joined (with_setting s x) v
moves s (setting.User a) v f n =
    ap (λ l. record (joined s v) { users = l }) (added s.users a v.users (room s.users a f n))
moves s (setting.PeerNonce a) v f n = ap (λ l. record (joined s v) { peer_nonce = l })
    (nonce_added s.version s.peer_nonces a v.peer_nonce f n)
moves s (setting.ServerNonce a) v f n = ap (λ l. record (joined s v) { server_nonce = l })
    (nonce_added s.version s.server_nonces a v.server_nonce f n)
moves s other v f n = rw fresh refl

pub gathers : (s : Settings) (settings : List Setting) → AllNew s settings
    → joined s (values_of settings) ≡ joined (settings_after s settings) no_values
gathers s [] h = refl
gathers s (x ∷ rest) h =
    moves s x (values_of rest) (h.0) (h.1) ∙ gathers (with_setting s x) rest (h.2)

pub kept_after : (s : Settings) (settings : List Setting) → IsConsistent s
    → IsConsistent (settings_after s settings)
kept_after s [] k = k
kept_after s (x ∷ rest) k = kept_after (with_setting s x) rest (kept s x k)

pub version_after : (s : Settings) (settings : List Setting)
    → (settings_after s settings).version ≡ s.version
version_after s [] = refl
version_after s (x ∷ rest) = version_after (with_setting s x) rest ∙ same_version s x

-- whole settings are those that the lines give
module _ {A B : Type 0} (Q : B → Type 0) where
  with_needed : (slot : Option A) (f : A → Result B LineFault)
      → ((a : A) → plus slot [] ≡ a ∷ [] → IfOk (f a) Q) → IfOk (given_or_missing slot >>= f) Q
  with_needed None f h = tt
  with_needed (Some a) f h = h a refl

  with_created : (x : Result A LineFault) (P : A → Type 0) (f : A → Result B LineFault) → IfOk x P
      → ((a : A) → P a → IfOk (f a) Q) → IfOk (x >>= f) Q
  with_created (Ok a) P f p h = h a p
  with_created (Err e) P f p h = tt

given_or : {A : Type 0} (slot : Option A) (d : A) → IsGivenOr d (plus slot []) (unwrap_or slot d)
given_or None d = refl
given_or (Some a) d = refl

given_or_none : {A : Type 0} (slot : Option A) → IsGivenOrNone (plus slot []) slot
given_or_none None = refl
given_or_none (Some a) = refl

keyed_given : (Q : PeerSetup → Type 0) (peer : PeerSetup) → (has_keys peer ≡ true → Q peer)
    → IfOk (keyed_or_missing peer) Q
keyed_given Q peer h = cond_both (has_keys peer) (Ok peer) (Err Missing) (λ x. IfOk x Q) h (λ e. tt)

nonces_given : (version : Version) (slot : Option GivenNonces) (given : GivenNonces)
    → AreFew version slot → slot ≡ Some given →
    AreNoncesOf version (plus_nonces slot []) given.first (later_nonces slot)
nonces_given version None given few e = absurd cc
nonces_given version (Some other) given few e =
    let same : other ≡ given = cc in
    subst (λ g. AreNoncesOf version (plus_nonces (Some other) []) g.first other.later) same
    (record { given = ap (λ l. other.first ∷ l) (append-nil other.later); few = few })

-- (the slot stays in what is made of it, which tells the later nonces too)
with_given : {A B : Type 0} (Q : B → Type 0) (slot : Option A) (f : A → Result B LineFault)
    → ((a : A) → slot ≡ Some a → IfOk (f a) Q) → IfOk (given_or_missing slot >>= f) Q
with_given Q None f h = tt
with_given Q (Some a) f h = h a refl

pub peers_given : (s : Settings) → IsConsistent s
    → IfOk (peer_setup_of s) (MakesPeer s.version (joined s no_values) (later_nonces s.peer_nonces))
unfolding peer_setup_of
peers_given s h =
    let Q = MakesPeer s.version (joined s no_values) (later_nonces s.peer_nonces) in
    with_needed Q s.peer_name _ (λ name a.
    with_needed Q s.peer_server _ (λ accepts b.
    with_needed Q s.peer_methods _ (λ methods c.
    with_given Q s.peer_nonces _ (λ nonces d.
    keyed_given Q _ (λ f.
    record {
      name = a;
      accepts = b;
      methods = c;
      suites = given_or s.peer_suites both_suites;
      psk47 = given_or_none s.peer_psk47;
      psk51 = given_or_none s.peer_psk51;
      keys = f;
      nonces = nonces_given s.version s.peer_nonces nonces h.peer_nonces d;
      expanded = given_or s.peer_expanded false;
    })))))

pub servers_given : (s : Settings) → IsConsistent s → IfOk (server_setup_of s) (MakesServer
    s.version (joined s no_values) (later_nonces s.server_nonces))
unfolding server_setup_of
servers_given s h =
    let Q = MakesServer s.version (joined s no_values) (later_nonces s.server_nonces) in
    with_needed Q s.server_name _ (λ name a.
    with_needed Q s.server_methods _ (λ methods b.
    with_given Q s.server_nonces _ (λ nonces c.
    record {
      name = a;
      methods = b;
      suites = given_or s.server_suites both_suites;
      nonces = nonces_given s.version s.server_nonces nonces h.server_nonces c;
      users = append-nil s.users;
      distinct_users = h.users;
      expanded = given_or s.server_expanded false;
    })))

pub all_given : (s : Settings) → IsConsistent s
    → IfOk (setup_of s) (MakesSetup s.version (joined s no_values))
unfolding setup_of
all_given s h =
    let Q = MakesSetup s.version (joined s no_values) in
    with_needed Q s.mode _ (λ mode a.
    with_created Q (peer_setup_of s) (MakesPeer s.version (joined s no_values)
    (later_nonces s.peer_nonces)) _ (peers_given s h) (λ peer b.
    with_created Q (server_setup_of s) (MakesServer s.version (joined s no_values)
    (later_nonces s.server_nonces)) _ (servers_given s h) (λ server c.
    record {
      mode = a;
      first_id = given_or s.first_id 0;
      max_retrans = given_or s.max_retrans 4;
      peer = b;
      server = c;
      number = refl;
    })))

-- a setting that comes where it is set would be given twice
once : {A : Type 0} (slot : Option A) (a b : A) (xs : List A) → plus slot (a ∷ xs) ≡ b ∷ []
    → is_some slot ≡ false
once None a b xs e = refl
once (Some c) a b xs e = absurd cc

once_or : {A : Type 0} (slot : Option A) (d a b : A) (xs : List A)
    → IsGivenOr d (plus slot (a ∷ xs)) b → is_some slot ≡ false
once_or None d a b xs e = refl
once_or (Some c) d a b xs e = absurd e

once_or_none : {A : Type 0} (slot : Option A) (a : A) (b : Option A) (xs : List A)
    → IsGivenOrNone (plus slot (a ∷ xs)) b → is_some slot ≡ false
once_or_none None a b xs e = refl
once_or_none (Some c) a b xs e = absurd e

none_passes : (p : User → Bool) (users : List User) → ((k : ℕ) (d : User) → k < length users
    → p (get_or users k d) ≡ false) → is_some (find p users) ≡ false
none_passes p [] h = refl
none_passes p (x ∷ rest) h = let e : p x ≡ false = h zero x (omega arith) in
    rw e (none_passes p rest (λ k d below. h (suc k) d (omega arith)))

unique : (users : List User) (user : User) (rest : List User) → AreDistinct (users ++ user ∷ rest)
    → is_some (user_of users user.name user.kind) ≡ false
unique users user rest h =
    none_passes (is_named user.name user.kind) users (λ k d below.
    let first : get_or (users ++ user ∷ rest) k d ≡ get_or users k d =
    get_or_append_left users (user ∷ rest) d k below in
    let second : get_or (users ++ user ∷ rest) (length users) d ≡ user =
    get_or-append_seam users user rest d in
    rw (first, second) at
    (h k (length users) d below (omega (arith, length-append users (user ∷ rest)))))

-- nonces that are no more than the version has leave room for the one that comes
nonce_new : (version : Version) (slot : Option GivenNonces) (a first : List ℕ)
    (rest later : List (List ℕ)) → AreNoncesOf version (plus_nonces slot (a ∷ rest)) first later →
    (not (has_later version) && is_some slot) ≡ false
nonce_new Second slot a first rest later h = refl
nonce_new First None a first rest later h = refl
nonce_new First (Some given) a first rest later h =
    let none : length later ≤ 0 = h.few in
    absurd (omega (arith, none, length-append given.later (a ∷ rest), ap length h.given))

nonce_room : (version : Version) (slot : Option GivenNonces) (a first : List ℕ)
    (rest later : List (List ℕ)) → AreNoncesOf version (plus_nonces slot (a ∷ rest)) first later →
    (has_later version && is_full slot) ≡ false
nonce_room First slot a first rest later h = refl
nonce_room Second None a first rest later h = refl
nonce_room Second (Some given) a first rest later h =
    let few : length later ≤ 15 = h.few in
    lt-leb 15 (length given.later)
    (omega (arith, few, length-append given.later (a ∷ rest), ap length h.given))

new_of : (s : Settings) (x : Setting) (v : Values) (setup : Setup)
    → MakesSetup s.version (joined s (with_value x v)) setup → has_setting s x ≡ false
new_of s (setting.User a) v setup h = unique s.users a v.users
    (subst AreDistinct (sym (h.server.users)) (h.server.distinct_users.distinct))
new_of s (setting.PeerNonce a) v setup h =
    nonce_new s.version s.peer_nonces a _ v.peer_nonce _ (h.peer.nonces)
new_of s (setting.ServerNonce a) v setup h =
    nonce_new s.version s.server_nonces a _ v.server_nonce _ (h.server.nonces)
new_of s other v setup h = search (once, once_or, once_or_none)

few_left : (users : List User) (user : User) (rest all : List User) → users ++ user ∷ rest ≡ all
    → length all ≤ 16 → nat_le 16 (length users) ≡ false
few_left users user rest all e h =
    lt-leb 16 (length users) (omega (arith, length-append users (user ∷ rest), ap length e))

fits_of : (s : Settings) (x : Setting) (v : Values) (setup : Setup)
    → MakesSetup s.version (joined s (with_value x v)) setup → is_over s x ≡ false
fits_of s (setting.User a) v setup h =
    few_left s.users a v.users setup.server.users (h.server.users) (h.server.distinct_users.few)
fits_of s (setting.PeerNonce a) v setup h =
    nonce_room s.version s.peer_nonces a _ v.peer_nonce _ (h.peer.nonces)
fits_of s (setting.ServerNonce a) v setup h =
    nonce_room s.version s.server_nonces a _ v.server_nonce _ (h.server.nonces)
fits_of s other v setup h = refl

pub all_new : (s : Settings) (settings : List Setting) (setup : Setup)
    → MakesSetup s.version (joined s (values_of settings)) setup → AllNew s settings
all_new s [] setup h = tt
all_new s (x ∷ rest) setup h =
    let f = fits_of s x (values_of rest) setup h in
    let n = new_of s x (values_of rest) setup h in
    let moved = subst (λ v. MakesSetup s.version v setup) (moves s x (values_of rest) f n) h in (
      f,
      n,
      all_new (with_setting s x) rest setup (subst (λ w. MakesSetup w
          (joined (with_setting s x) (values_of rest)) setup) (sym (same_version s x)) moved),
    )

-- the settings that the lines give are whole
set_is : {A : Type 0} (slot : Option A) (b : A) → plus slot [] ≡ b ∷ [] → slot ≡ Some b
set_is None b e = absurd cc
set_is (Some a) b e = cc

set_or : {A : Type 0} (slot : Option A) (d b : A) → IsGivenOr d (plus slot []) b
    → unwrap_or slot d ≡ b
set_or None d b e = sym e
set_or (Some a) d b e = sym e

set_or_none : {A : Type 0} (slot key : Option A) → IsGivenOrNone (plus slot []) key → slot ≡ key
set_or_none None key e = sym e
set_or_none (Some a) key e = sym e

keyed_set : (peer : PeerSetup) → has_keys peer ≡ true → keyed_or_missing peer ≡ Ok peer
keyed_set peer e = rw e refl

-- the nonces too
pub nonces_set : (slot : Option GivenNonces) (first : List ℕ) (later : List (List ℕ))
    → plus_nonces slot [] ≡ first ∷ later → slot ≡ Some (record { first = first; later = later })
nonces_set None first later e = absurd cc
nonces_set (Some given) first later e =
    let one : given.first ≡ first = cc in
    let more : given.later ++ [] ≡ later = cc in
    ap₂ (λ a b. Some (record { first = a; later = b })) one (sym (append-nil given.later) ∙ more)

peers_set : (version : Version) (s : Settings) (later : List (List ℕ)) (peer : PeerSetup)
    → MakesPeer version (joined s no_values) later peer → peer_setup_of s ≡ Ok peer
unfolding peer_setup_of
peers_set version s later peer h =
    let name = set_is s.peer_name peer.name (h.name) in
    let accepts = set_is s.peer_server peer.accepts (h.accepts) in
    let methods = set_is s.peer_methods peer.methods (h.methods) in
    let nonces = nonces_set s.peer_nonces peer.nonce later (h.nonces.given) in
    let psk47 = set_or_none s.peer_psk47 peer.psk47 (h.psk47) in
    let psk51 = set_or_none s.peer_psk51 peer.psk51 (h.psk51) in
    let suites = set_or s.peer_suites both_suites peer.suites (h.suites) in
    let expanded = set_or s.peer_expanded false peer.expanded (h.expanded) in
    rw (name, accepts, methods, nonces, psk47, psk51, suites, expanded) (keyed_set peer h.keys)

servers_set : (version : Version) (s : Settings) (later : List (List ℕ)) (server : ServerSetup)
    → MakesServer version (joined s no_values) later server → server_setup_of s ≡ Ok server
unfolding server_setup_of
servers_set version s later server h =
    let name = set_is s.server_name server.name (h.name) in
    let methods = set_is s.server_methods server.methods (h.methods) in
    let nonces = nonces_set s.server_nonces server.nonce later (h.nonces.given) in
    let suites = set_or s.server_suites both_suites server.suites (h.suites) in
    let users : s.users ≡ server.users = sym (append-nil s.users) ∙ h.users in
    let expanded = set_or s.server_expanded false server.expanded (h.expanded) in
    rw (name, methods, nonces, suites, users, expanded) refl

later_set : (s : Settings) (setup : Setup) → MakesSetup s.version (joined s no_values) setup
    → later_of s ≡ setup.later
later_set s setup h =
    let peer = nonces_set s.peer_nonces setup.peer.nonce setup.later.peer (h.peer.nonces.given) in
    let server =
    nonces_set s.server_nonces setup.server.nonce setup.later.server (h.server.nonces.given) in
    let number = sym (h.number) in
    rw (number, peer, server) refl

pub all_set : (s : Settings) (setup : Setup) → MakesSetup s.version (joined s no_values) setup
    → setup_of s ≡ Ok setup
unfolding setup_of
all_set s setup h =
    let mode = set_is s.mode setup.mode (h.mode) in
    let first_id = set_or s.first_id 0 setup.first_id (h.first_id) in
    let max_retrans = set_or s.max_retrans 4 setup.max_retrans (h.max_retrans) in
    let peer = peers_set s.version s setup.later.peer setup.peer (h.peer) in
    let server = servers_set s.version s setup.later.server setup.server (h.server) in
    rw (peer, server, mode, first_id, max_retrans)
    (ap (λ (x : Later). Ok (record setup { later = x })) (later_set s setup h))

-- the first version has no later nonces
no_more : (later : List (List ℕ)) → length later ≤ 0 → later ≡ []
no_more [] h = refl
no_more (nonce ∷ rest) h = absurd (omega arith)

pub none_later : (v : Values) (setup : Setup) → MakesSetup First v setup → setup.later ≡ no_later
none_later v setup h =
    let number : setup.later.version ≡ 1 = h.number in
    ap₂ (λ p s. record { version = setup.later.version; peer = p; server = s }) (no_more
    setup.later.peer (h.peer.nonces.few)) (no_more setup.later.server (h.server.nonces.few))
    ∙ ap (λ n. record { version = n; peer = []; server = [] }) number
