-- Over a book that is honest by the tags of either end, a tag that the server accepted and can't
-- have made is the peer's.
use Rattle.std.proofs.Common.{◌≡◌, [], inl, inr}
use Rattle.login_setup.specs.declared.setup.Setup.{Setup}
use Rattle.eap_method.specs.declared.tags.TagRecord.{TagRecord}
use Rattle.tag_book.specs.Book.{first_broken, tags_verdict_either}
use Rattle.method_laws.specs.Records.{IsIn, tags_by}
use Rattle.method_laws.specs.TagOwners.{NotByServer, ServerTagOwner}
use Rattle.eap_world.specs.World.{WorldNow}
use Rattle.tag_book.specs.declared.book.End.TheVariants as end
use Rattle.tag_book.specs.declared.book.RecordOwner.TheVariants.{Either}
use Rattle.tag_book.specs.declared.book.TagsVerdict.TheVariants.{Honest}
use Rattle.tag_book.specs.declared.book.Use.TheVariants.{Accepted, Made}
use Rattle.world_laws.proofs.Conversing.{BothConverse}
use Rattle.world_laws.proofs.HonestOfEither.{none_if_honest}
use Rattle.world_laws.proofs.PastConversations.{where_created}
use Rattle.method_laws.proofs.Among.{one_of}
use Rattle.method_laws.proofs.TagsOfEnds.{honest_tags}

module _ (setup : Setup) (w : WorldNow) (h : BothConverse setup w) where
  pub not_servers : (t : TagRecord) → NotByServer setup.server t
      → IsIn t (tags_by end.Server Made w.book) → ⊥
  not_servers t alien is =
      elim (where_created (ServerTagOwner setup.server) _ _ _ _ h.server t is) [
        | inl now ↦ alien.none h.server_nonce h.server.held h.server.accepted h.server.made
            h.server.size h.server.told now
        | inr past ↦ alien.none past.conversation.nonce past.conversation.held
            past.conversation.accepted past.conversation.made past.holds.size past.holds.told
            past.is_made
      ]

  pub of_peer : tags_verdict_either w.book ≡ Honest → (t : TagRecord)
      → IsIn t (tags_by end.Server Accepted w.book) → NotByServer setup.server t
      → IsIn t (tags_by end.Peer Made w.book)
  of_peer honest t is alien =
      one_of ((honest_tags end.Server w.book
      (none_if_honest (first_broken Either [] w.book) honest)).each t is) (not_servers t alien)
