-- A conversation's events and draws, one by one and all together.
use Rattle.std.proofs.Common.{◌≡◌, ◌≤◌, ℕ, suc, ◌+◌, ◌*◌, List, [], ◌∷◌, ◌++◌, refl, sym, ap, subst}
use Rattle.std.proofs.Common.{◌∙◌, arith, add-one, codes}
use Rattle.login_setup.specs.declared.event.Event.TheVariants.{Deliver}
use Rattle.login_setup.specs.declared.setup.Setup.{Setup}
use Rattle.eap_world.specs.World.{WorldNow}
use Rattle.login_setup.specs.declared.setup.Later.{Later}
use Rattle.login_setup.specs.declared.setup.PeerSetup.{PeerSetup}
use Rattle.login_setup.specs.Setup.{ServerSetup}
use Rattle.login_setup.specs.declared.setup.Mode.TheVariants.{Alone}
use Rattle.login_setup.specs.declared.users.User.{User}
use Rattle.login_setup.specs.Plain.{plain_server}
use Rattle.login_setup.specs.Setup.{no_later}
use Rattle.login_setup.specs.Users.{HasCapacity, max_users}
use Rattle.bulk_run.specs.Conversation.{login_methods, alice, srv, known_with, setup_at, setup_with}
use Rattle.bulk_run.specs.Conversation.{deliveries, chosen, with_event, chances}
use Rattle.bulk_run.specs.Draws.{octet_at, octets_after}
use Rattle.bulk_run.specs.Summing.{IsAtMost, events_of, summary_of, plus, counts_of, ended_at}
use Rattle.bulk_run.specs.Summing.{drawn_each, nothing_counted}
use Rattle.bulk_run.specs.declared.summary.Summary.{Summary}
use Rattle.world_laws.specs.Runs.{run_of}

-- settings as the code puts them together
abbrev setup_of : PeerSetup → ServerSetup → Later → Setup
setup_of peer server later = record {
  mode = Alone;
  first_id = 0;
  max_retrans = 4;
  peer = peer;
  server = server;
  later = later;
}

abbrev server_of : List ℕ → List ℕ → List ℕ → List User → List ℕ → ServerSetup
server_of name methods suites users nonce =
    record plain_server {
      name = name;
      methods = methods;
      suites = suites;
      users = users;
      nonce = nonce;
    }

-- no delivery and no turn yet
pub none_delivered : (setup : Setup) (w : WorldNow) → w ≡ run_of setup []
    → w ≡ run_of setup (deliveries 0)
unfolding deliveries
none_delivered setup w is = is

pub none_chosen : (setup : Setup) (number place : ℕ) (w : WorldNow) → w ≡ run_of setup []
    → w ≡ run_of setup (chances setup number place 0)
unfolding chances
none_chosen setup number place w is = is

-- one delivery more
pub one_delivered : (setup : Setup) (passed : ℕ) (w : WorldNow)
    → w ≡ run_of setup (deliveries passed ++ Deliver (passed + 1) ∷ [])
    → w ≡ run_of setup (deliveries (passed + 1))
unfolding deliveries
one_delivered setup passed w is =
    let e : suc passed ≡ passed + 1 = omega arith in rw (add-one, e) is

-- one turn more: the world before it has sent what is chosen by
pub one_chosen : (setup : Setup) (number place turns v u : ℕ) (before after : WorldNow)
    → before ≡ run_of setup (chances setup number place turns)
    → v ≡ octet_at number (place + 2 * turns + 1) → u ≡ octet_at number (place + 2 * turns + 2)
    → after ≡ run_of setup (with_event (chances setup number place turns) (chosen before.sent v u))
    → after ≡ run_of setup (chances setup number place (turns + 1))
unfolding chances
one_chosen setup number place turns v u before after is is_v is_u goes =
    let es = chances setup number place turns in
    rw add-one (goes ∙ ap (λ (w : WorldNow). run_of setup (with_event es (chosen w.sent v u))) is
    ∙ ap (λ (x : ℕ). run_of setup (with_event es (chosen (run_of setup es).sent x u))) is_v
    ∙ ap (λ (x : ℕ). run_of setup (with_event es
    (chosen (run_of setup es).sent (octet_at number (place + 2 * turns + 1)) x))) is_u)

-- the settings of a conversation are made of what was drawn
pub setup_is : (number place : ℕ) (peer : PeerSetup) (server : ServerSetup) (later : Later)
    (peer_nonce server_nonce key : List ℕ)
    → peer_nonce ≡ octets_after number place 32 → server_nonce ≡ octets_after number (place + 32) 32
    → key ≡ octets_after number (place + 64) 32
    → peer ≡ alice peer_nonce key → server ≡ srv server_nonce key → later ≡ no_later
    → setup_of peer server later ≡ setup_at number place
unfolding setup_at
setup_is number place peer server later peer_nonce server_nonce key is_peer is_server is_key peers
    servers none =
    ap (λ (p : PeerSetup). setup_of p server later) peers
    ∙ ap (λ (s : ServerSetup). setup_of (alice peer_nonce key) s later) servers
    ∙ ap (λ (l : Later). setup_of (alice peer_nonce key) (srv server_nonce key) l) none
    ∙ ap (λ (n : List ℕ). setup_with n server_nonce key) is_peer
    ∙ ap (λ (n : List ℕ). setup_with (octets_after number place 32) n key) is_server
    ∙ ap (λ (k : List ℕ). setup_with (octets_after number place 32)
    (octets_after number (place + 32) 32) k) is_key

-- the server's settings are made of what was drawn
pub server_is : (name methods suites nonce key : List ℕ) (users before : List User) (user : User)
    → name ≡ codes "srv" → methods ≡ login_methods → suites ≡ 1 ∷ 2 ∷ [] → before ≡ []
    → user ≡ known_with key
    → (HasCapacity max_users before user → users ≡ before ++ user ∷ [])
    → server_of name methods suites users nonce ≡ srv nonce key
server_is name methods suites nonce key users before user is_name are_methods are_suites none
    is_user added =
    let room : HasCapacity max_users before user =
    subst (λ (b : List User). HasCapacity max_users b user) (sym none)
    (record { few = omega arith; bounded = omega arith; absent = refl }) in
    let known : users ≡ known_with key ∷ [] =
    added room ∙ ap (λ (b : List User). b ++ user ∷ []) none ∙ ap (λ (u : User). u ∷ []) is_user in
    ap (λ (n : List ℕ). server_of n methods suites users nonce) is_name
    ∙ ap (λ (m : List ℕ). server_of (codes "srv") m suites users nonce) are_methods
    ∙ ap (λ (s : List ℕ). server_of (codes "srv") login_methods s users nonce) are_suites
    ∙ ap (λ (u : List User). server_of (codes "srv") login_methods (1 ∷ 2 ∷ []) u nonce) known

-- the run of these settings is that of the conversation
pub is_ended : (number place : ℕ) (setup : Setup) (w : WorldNow) → setup ≡ setup_at number place
    → w ≡ run_of setup (events_of setup number (place + 96)) → w ≡ ended_at number place
unfolding ended_at
is_ended number place setup w is run =
    run ∙ ap (λ (s : Setup). run_of s (events_of s number (place + 96))) is

-- nothing summed up yet, and one conversation more
pub none_summed : (number : ℕ) (s : Summary) → s ≡ nothing_counted → s ≡ summary_of number 0
unfolding summary_of
none_summed number s is = is

pub one_summed : (number count : ℕ) (s one : Summary) → s ≡ summary_of number count
    → one ≡ counts_of (ended_at number (count * drawn_each number))
    → plus s one ≡ summary_of number (count + 1)
unfolding summary_of
one_summed number count s one is counts =
    rw add-one (ap (λ (t : Summary). plus t one) is
    ∙ ap (λ (o : Summary). plus (summary_of number count) o) counts)

-- what is at most so much is at most more
pub at_most_more : (s : Summary) (most more : ℕ) → IsAtMost s most → most ≤ more → IsAtMost s more
at_most_more s most more small h = record {
  conversations = let k = small.conversations in omega (arith, k);
  agree = let k = small.agree in omega (arith, k);
  unfinished = let k = small.unfinished in omega (arith, k);
  apart = let k = small.apart in omega (arith, k);
  broken = let k = small.broken in omega (arith, k);
  deliveries = let k = small.deliveries in omega (arith, k);
  discards = let k = small.discards in omega (arith, k);
}

-- the place after so many conversations
pub next_place : (each count : ℕ) → count * each + each ≡ (count + 1) * each
next_place each count = omega arith

pub nothing_small : (s : Summary) → s ≡ nothing_counted → IsAtMost s 0
nothing_small s is = subst (λ (t : Summary). IsAtMost t 0) (sym is) (record {
  conversations = omega arith;
  agree = omega arith;
  unfinished = omega arith;
  apart = omega arith;
  broken = omega arith;
  deliveries = omega arith;
  discards = omega arith;
})
