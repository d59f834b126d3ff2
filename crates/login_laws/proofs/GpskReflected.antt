-- No end takes its own tags for the other's, in whichever conversation it made them, where the peer
-- succeeds by EAP-GPSK and its nonce can't be read as the beginning of its name.
use Rattle.std.proofs.Common.{◌≡◌, ℕ, List, [], ◌∷◌, length, take, true, Option, Some, refl, sym, ap}
use Rattle.std.proofs.Common.{subst, ◌∙◌, inl, inr}
use Rattle.login_setup.specs.declared.setup.PeerSetup.{PeerSetup}
use Rattle.login_setup.specs.declared.setup.Setup.{Setup}
use Rattle.octet_lists.specs.Among.{psk_kind, gpsk_kind}
use Rattle.eap_method.specs.declared.tags.TagRecord.{TagRecord}
use Rattle.eap_method.specs.Peer.{PeerViews}
use Rattle.peer_machine.specs.PeerTable as peers
use Rattle.tag_book.specs.Book.{first_broken, tags_verdict_either}
use Rattle.eap_world.specs.Judgement.{is_success}
use Rattle.eap_world.specs.World.{WorldNow}
use Rattle.login_laws.specs.Agreement.{AgreeAnew}
use Rattle.login_laws.specs.GpskReflected.{ReflectedGpskEndsAgree}
use Rattle.login_laws.specs.OwnTags.{IsNoName}
use Rattle.method_laws.specs.Records.{IsIn, tags_by}
use Rattle.method_laws.specs.TagOwners.{PeerTagOwner}
use Rattle.method_laws.proofs.Among.{first_is, one_of}
use Rattle.method_laws.proofs.Asks.{AsksServer}
use Rattle.method_laws.proofs.AsksByMethod.{peer_asks}
use Rattle.method_laws.proofs.OneMethod.{apart}
use Rattle.method_laws.proofs.PeerByMethod.{created_by_gpsk}
use Rattle.method_laws.proofs.Succeeding.{PeerSucceeds, with_gpsk, with_psk}
use Rattle.method_laws.proofs.TagsOfEnds.{honest_tags}
use Rattle.world_laws.proofs.Conversing.{BothConverse, run_converses}
use Rattle.world_laws.proofs.HonestOfEither.{none_if_honest}
use Rattle.world_laws.proofs.PastConversations.{accepted_now, where_created}
use Rattle.login_laws.proofs.FreshAgree.{agree_anew, peer_won}
use Rattle.login_laws.proofs.OneLogin.{first_is_in}
use Rattle.login_laws.proofs.OwnTags.{alien}
use Rattle.login_laws.proofs.Reflected.{of_peer}
use Rattle.tag_book.specs.declared.book.End.TheVariants as end
use Rattle.tag_book.specs.declared.book.RecordOwner.TheVariants.{Either}
use Rattle.tag_book.specs.declared.book.TagsVerdict.TheVariants.{Honest}
use Rattle.tag_book.specs.declared.book.Use.TheVariants.{Accepted, Made}
use Rattle.world_laws.specs.Runs.{run_of}

-- the first tag that the peer accepted is none of those that a conversation of the peer made
module _ (setup : PeerSetup) (nonce : List ℕ) (size : length nonce ≡ 32)
    (no_name : IsNoName nonce setup.name) where
  not_own : (selected : Option ℕ) (views : PeerViews) (accepted made : List TagRecord)
      (t : TagRecord) (more : List TagRecord)
      → PeerSucceeds (peers.setup_with_nonce setup nonce) selected views accepted made
      → selected ≡ Some gpsk_kind → accepted ≡ t ∷ more
      → (other : List ℕ) (held : Option (List ℕ)) (their_accepted their_made : List TagRecord)
      → PeerTagOwner setup other held their_accepted their_made → IsIn t their_made → ⊥
  not_own selected views _ _ t more (with_psk login header sealed id is_selected in_view facts)
      by_gpsk first other held their_accepted their_made told is =
      apart selected psk_kind gpsk_kind refl is_selected by_gpsk
  not_own selected views _ _ t more (with_gpsk login list pd is_selected in_view facts)
      by_gpsk first other held their_accepted their_made told is =
      let mine = subst (λ (u : TagRecord). IsIn u their_made) (first_is _ t [] more first) is in
      let nonce_is = facts.nonce in
      let found = created_by_gpsk (peers.setup_with_nonce setup other) told.selected told.views
      their_accepted their_made _ told.tags mine refl in
      alien setup login pd (ap length nonce_is ∙ size)
      (λ e. no_name (ap (λ (l : List ℕ). take 2 l) (sym nonce_is) ∙ e))
      other _ _ _ found.1 mine

module _ (setup : Setup) (w : WorldNow) (h : BothConverse setup w) where
  not_peers : IsNoName h.peer_nonce setup.peer.name
      → is_success w.parties.peer.vars.state ≡ true
      → w.parties.peer.vars.selected ≡ Some gpsk_kind
      → (asked : AsksServer h.peer_nonce h.peer.accepted)
      → IsIn asked.tag (tags_by end.Peer Made w.book) → ⊥
  not_peers no_name p_in by_gpsk asked is =
      let never = not_own setup.peer h.peer_nonce h.peer.size no_name _ _ h.peer.accepted
      h.peer.made asked.tag asked.rest (peer_won setup w h p_in) by_gpsk asked.first in
      elim (where_created (PeerTagOwner setup.peer) _ _ _ _ h.peer asked.tag is) [
        | inl now ↦ never h.peer_nonce h.peer.held h.peer.accepted h.peer.made h.peer.told now
        | inr past ↦ never past.conversation.nonce past.conversation.held
            past.conversation.accepted past.conversation.made past.holds.told past.is_made
      ]

  reflected : tags_verdict_either w.book ≡ Honest → w.conversations.fresh ≡ true
      → is_success w.parties.peer.vars.state ≡ true → is_success w.parties.server.vars.state ≡ true
      → w.parties.peer.vars.selected ≡ Some gpsk_kind
      → IsNoName w.parties.peer.vars.setup.nonce setup.peer.name → AgreeAnew setup w
  reflected honest fresh p_in s_in by_gpsk no_name =
      let asked = peer_asks setup.peer h.peer_nonce _ _ h.peer.accepted h.peer.made h.peer.size
      (peer_won setup w h p_in) in
      let all = honest_tags end.Peer w.book
      (none_if_honest (first_broken Either [] w.book) honest) in
      let listed : IsIn asked.tag (tags_by end.Peer Accepted w.book) =
      accepted_now (PeerTagOwner setup.peer) _ _ _ _ h.peer asked.tag
      (first_is_in asked.tag asked.rest h.peer.accepted asked.first) in
      let no_name_now : IsNoName h.peer_nonce setup.peer.name =
      λ e. no_name (ap (λ (x : PeerSetup). take 2 x.nonce) h.peer.now.stands.own ∙ e) in
      agree_anew setup w h fresh p_in s_in asked
      (one_of (all.each asked.tag listed) (not_peers no_name_now p_in by_gpsk asked))
      (λ t now is not_server. of_peer setup w h honest t is not_server)
      (λ t is same not_server. of_peer setup w h honest t is not_server)

pub reflected_gpsk_ends_agree : ReflectedGpskEndsAgree
reflected_gpsk_ends_agree setup events whole = record {
  agrees = reflected setup (run_of setup events) (run_converses setup events whole);
}
