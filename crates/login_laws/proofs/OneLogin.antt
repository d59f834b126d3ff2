-- Two ends in success stand in one login: each first tag was made in the other's present
-- conversation. The order of conversations alone shows it, whatever the methods.
use Rattle.std.proofs.Common.{◌≡◌, ℕ, ◌<◌, List, ◌∷◌, true, Option, Some, sym, ap, subst, ◌∙◌}
use Rattle.std.proofs.Common.{arith, inl, inr}
use Rattle.std.specs.Prelude.{◌⊎◌}
use Rattle.login_setup.specs.declared.setup.PeerSetup.{PeerSetup}
use Rattle.login_setup.specs.Setup.{ServerSetup}
use Rattle.eap_method.specs.declared.tags.TagRecord.{TagRecord}
use Rattle.server_machine.specs.ServerTable as servers
use Rattle.method_laws.specs.Records.{IsIn, here}
use Rattle.eap_world.specs.Conversations.{front}
use Rattle.method_laws.proofs.Asks.{AsksPeer, AsksServer, some_is}
use Rattle.method_laws.proofs.ServerAsks.{server_asks}
use Rattle.method_laws.proofs.OneKey.{server_one}
use Rattle.world_laws.proofs.PastConversations.{Moment, PastConversation, Past, Conversed, FromPast}
use Rattle.world_laws.proofs.PastConversations.{where_created, accepted_before}
use Rattle.method_laws.specs.TagOwners.{PeerTagOwner, OnlyByPeer, NotByServer, ServerTagOwner}

pub one_stored : (held : Option (List ℕ)) (x y : List ℕ) → held ≡ Some x → held ≡ Some y → x ≡ y
one_stored held x y a b = some_is x y (sym a ∙ b)

pub first_is_in : (t : TagRecord) (rest all : List TagRecord) → all ≡ t ∷ rest → IsIn t all
first_is_in t rest all e = subst (λ (l : List TagRecord). IsIn t l) (sym e) (here rest)

-- a tag that only a conversation of the peer's present nonce can have made was made in the present
-- conversation
module _ (peer_setup : PeerSetup) (mp : Moment)
    (PeerIs : Option (List ℕ) → List TagRecord → List TagRecord → Type 0) (pa pm : List TagRecord)
    (p : Conversed (PeerTagOwner peer_setup) mp PeerIs pa pm) (fresh_p : mp.fresh ≡ true) where
  pub peer_now : (t : TagRecord) (foreign : List ℕ) → OnlyByPeer t (front mp.nonce) foreign
      → IsIn t pm → IsIn t p.made × (p.held ≡ Some foreign)
  peer_now t foreign made is =
      elim (where_created (PeerTagOwner peer_setup) mp PeerIs pa pm p t is) [
        | inl now ↦
            (now, (made.tells peer_setup mp.nonce p.held p.accepted p.made p.size p.told now).1)
        | inr past ↦ absurd (past.holds.differs fresh_p (made.tells peer_setup
            past.conversation.nonce past.conversation.held past.conversation.accepted
            past.conversation.made past.holds.size past.holds.told past.is_made).0)
      ]

module _ (peer_setup : PeerSetup) (server_setup : ServerSetup) (mp ms : Moment)
    (PeerIs ServerIs : Option (List ℕ) → List TagRecord → List TagRecord → Type 0)
    (pa pm sa sm : List TagRecord) (p : Conversed (PeerTagOwner peer_setup) mp PeerIs pa pm)
    (s : Conversed (ServerTagOwner server_setup) ms ServerIs sa sm)
    -- both moments are one
    (peer_since : ms.other_since ≡ mp.since) (peer_nonce : ms.other_nonce ≡ mp.nonce)
    (server_since : mp.other_since ≡ ms.since) (server_nonce : mp.other_nonce ≡ ms.nonce)
    (fresh_p : mp.fresh ≡ true) (fresh_s : ms.fresh ≡ true)
    -- each tag under this key that the server accepted, and that no conversation of its own can
    -- have made, is one that the peer made
    (key : List ℕ) (server_honest : (t : TagRecord) → IsIn t sa → t.psk ≡ key
    → NotByServer server_setup t → IsIn t pm) where
  -- both ends are in one login
  pub record InOne (peer_first server_first : TagRecord) : Type 0 where
    pub peer_knows_nonce : p.held ≡ Some (front ms.nonce)
    pub server_knows_nonce : s.held ≡ Some (front mp.nonce)
    pub peer_tag : IsIn peer_first s.made
    pub server_tag : IsIn server_first p.made

  -- a past conversation of the server holds the peer's present nonce: then the peer holds that
  -- conversation's nonce, and so not the present one's; and a past conversation of the peer which
  -- does holds on after it, which is out of order
  past_server : (foreign : List ℕ) → s.held ≡ Some foreign
      → (asks : AsksPeer server_setup ms.nonce foreign s.accepted) → IsIn asks.tag pm
      → (k : PastConversation) (holds : Past (ServerTagOwner server_setup) ms k)
      → ((r : TagRecord) → IsIn r k.accepted → IsIn r s.past_accepted)
      → ((r : TagRecord) → IsIn r k.accepted → r.psk ≡ key) → k.held ≡ Some (front mp.nonce) → ⊥
  past_server foreign s_holds asks asks_made k holds listed keyed k_holds =
      let asked = server_asks server_setup k.nonce (front mp.nonce)
      holds.size k.held k.accepted k.made holds.told k_holds in
      let answered =
      peer_now peer_setup mp PeerIs pa pm p fresh_p asked.tag (front k.nonce) asked.made
      (server_honest asked.tag
      (accepted_before (ServerTagOwner server_setup) ms ServerIs sa sm s asked.tag
      (listed asked.tag (first_is_in asked.tag asked.rest k.accepted asked.first)))
      (keyed asked.tag (first_is_in asked.tag asked.rest k.accepted asked.first)) asked.alien) in
      let late : ms.other_since < k.until =
      holds.later fresh_s (k_holds ∙ ap (λ (x : List ℕ). Some (front x)) (sym peer_nonce)) in
      by answered.1 late
      (where_created (PeerTagOwner peer_setup) mp PeerIs pa pm p asks.tag asks_made)
    where
      by : p.held ≡ Some (front k.nonce) → ms.other_since < k.until → IsIn asks.tag p.made
          ⊎ FromPast (PeerTagOwner peer_setup) mp p.past_accepted p.past_created asks.tag → ⊥
      by p_holds late (inl now) =
          holds.differs fresh_s
          (one_stored p.held (front k.nonce) (front ms.nonce) p_holds
          (asks.made.tells peer_setup mp.nonce p.held p.accepted p.made p.size p.told now).1)
      by p_holds late (inr past) =
          let j_holds = (asks.made.tells peer_setup past.conversation.nonce past.conversation.held
          past.conversation.accepted past.conversation.made
          past.holds.size past.holds.told past.is_made).1 in
          let early : mp.other_since < past.conversation.until = past.holds.later fresh_p (j_holds
          ∙ ap (λ (x : List ℕ). Some (front x)) (sym server_nonce)) in
          absurd (omega
          (arith, late, early, holds.ended, past.holds.ended, peer_since, server_since))

  -- the peer has succeeded, and the server holds a nonce of the peer
  pub in_one : (foreign : List ℕ) → s.held ≡ Some foreign → (server_first : AsksPeer server_setup
      ms.nonce foreign s.accepted) → IsIn server_first.tag pm
      → (peer_first : AsksServer mp.nonce p.accepted) → peer_first.tag.psk ≡ key
      → IsIn peer_first.tag sm → InOne peer_first.tag server_first.tag
  in_one foreign s_holds asks asks_made asked asked_key is_made =
      by (where_created (ServerTagOwner server_setup) ms ServerIs sa sm s asked.tag is_made)
    where
      by : IsIn asked.tag s.made
          ⊎ FromPast (ServerTagOwner server_setup) ms s.past_accepted s.past_created asked.tag
          → InOne asked.tag asks.tag
      by (inl now) =
          let held_is =
          asked.made.tells server_setup ms.nonce s.held s.accepted s.made s.told now in
          let same : foreign ≡ front mp.nonce =
          one_stored s.held foreign (front mp.nonce) s_holds held_is in
          let answered = peer_now peer_setup mp PeerIs pa pm p fresh_p asks.tag (front ms.nonce)
          (subst (λ (x : List ℕ). OnlyByPeer asks.tag x (front ms.nonce)) same asks.made)
          asks_made in
          record {
            peer_knows_nonce = answered.1;
            server_knows_nonce = held_is;
            peer_tag = now;
            server_tag = answered.0;
          }
      by (inr past) =
          let told = past.holds.told in
          let one = server_one (servers.setup_with_nonce server_setup past.conversation.nonce)
          told.current told.views past.conversation.accepted past.conversation.made
          told.tags in
          absurd (past_server foreign s_holds asks asks_made past.conversation
          past.holds past.listed
          (λ r is. one.of_accepted r is ∙ (sym (one.of_created asked.tag past.is_made) ∙ asked_key))
          (asked.made.tells server_setup past.conversation.nonce past.conversation.held
          past.conversation.accepted past.conversation.made past.holds.told
          past.is_made))
