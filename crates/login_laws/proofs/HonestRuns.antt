-- In every run two ends that both stand in SUCCESS agree, where the book is honest: of either end
-- as long as no end has begun a second conversation, and of the other end also where nonces are
-- fresh.
use Rattle.std.proofs.Common.{◌≡◌, List, [], length, Bool, true, false, refl, sym, inl, inr}
use Rattle.std.specs.Prelude.{if◌then◌else◌, ◌&&◌}
use Rattle.login_setup.specs.declared.event.Event.{Event}
use Rattle.login_setup.specs.declared.setup.Setup.{Setup}
use Rattle.tag_book.specs.Book.{first_broken, tags_verdict, tags_verdict_either}
use Rattle.tag_book.specs.declared.book.RecordOwner.TheVariants.{Either}
use Rattle.tag_book.specs.declared.book.TagsVerdict.TheVariants.{Honest}
use Rattle.tag_book.specs.declared.book.Use.TheVariants.{Accepted, Made}
use Rattle.eap_world.specs.Judgement.{verdict_of, is_success}
use Rattle.eap_world.specs.declared.verdict.Verdict.{Verdict}
use Rattle.eap_world.specs.declared.verdict.Verdict.TheVariants.{Agree, Apart, Unfinished}
use Rattle.eap_world.specs.World.{WorldNow}
use Rattle.tag_book.specs.declared.book.End.TheVariants as end
use Rattle.login_laws.specs.Agreement.{AreApart, HonestEndsAgree}
use Rattle.world_laws.specs.Whole.{IsWhole}
use Rattle.login_laws.specs.PresentUnderKey.{AgreeOnTheirs}
use Rattle.method_laws.specs.Records.{AreInEither, tags_by}
use Rattle.world_laws.proofs.EndInvariants.{BothInvariantFirst, every_run_so_far, invariant_first}
use Rattle.login_laws.proofs.FreshAgree.{fresh_ends_agree}
use Rattle.world_laws.proofs.HonestOfEither.{honest_of_either, none_if_honest}
use Rattle.login_laws.proofs.SucceedingEnds.{both_theirs, two_agree}
use Rattle.world_laws.proofs.MethodsAgree as any
use Rattle.method_laws.proofs.TagsOfEnds.{honest_tags}
use Rattle.world_laws.specs.Runs.{run_of}

-- two ends that stand so, each of whose accepted tags either end made, and which both succeed,
-- agree on what is their own
pub once_agree : (setup : Setup) → IsWhole setup → (w : WorldNow)
    → BothInvariantFirst setup w.parties w.book
    → AreInEither (tags_by end.Peer Accepted w.book) (tags_by end.Server Made w.book)
    (tags_by end.Peer Made w.book)
    → AreInEither (tags_by end.Server Accepted w.book) (tags_by end.Peer Made w.book)
    (tags_by end.Server Made w.book)
    → is_success w.parties.peer.vars.state ≡ true → is_success w.parties.server.vars.state ≡ true
    → AgreeOnTheirs setup w
once_agree setup whole w both of_peer of_server p_in s_in =
    let are = any.once_agree setup w whole.peer_nonce whole.server_nonce
    (two_agree setup.peer.methods setup.server.methods) both of_peer of_server p_in s_in in
    record {
      agree = are.judged;
      theirs = both_theirs setup w.parties.peer w.parties.server are.theirs;
    }

-- ---- the verdict

pub record BothIn (one other : Bool) : Type 0 where
  pub one_in : one ≡ true
  pub other_in : other ≡ true

both_only : (one other same : Bool) (verdict : Verdict)
    → (if one && other then (if same then Agree else Apart) else Unfinished) ≡ verdict
    → (verdict ≡ Unfinished → ⊥) → BothIn one other
both_only true true same verdict e judged = record { one_in = refl; other_in = refl }
both_only true false same verdict e judged = absurd (judged (sym e))
both_only false other same verdict e judged = absurd (judged (sym e))

both_in : (w : WorldNow) (verdict : Verdict) → verdict_of w ≡ verdict → (verdict ≡ Unfinished → ⊥)
    → BothIn (is_success w.parties.peer.vars.state) (is_success w.parties.server.vars.state)
unfolding verdict_of
both_in w verdict e judged = both_only (is_success w.parties.peer.vars.state)
    (is_success w.parties.server.vars.state) _ verdict e judged

not_both : (verdict : Verdict) → verdict ≡ Agree → verdict ≡ Apart → ⊥
not_both verdict agrees apart = cc

-- two ends that agree wherever they both succeed are never told apart
pub not_apart : (w : WorldNow)
    → (is_success w.parties.peer.vars.state ≡ true → is_success w.parties.server.vars.state ≡ true
    → verdict_of w ≡ Agree) → verdict_of w ≡ Apart → ⊥
not_apart w agree apart = let both = both_in w Apart apart (λ e. cc e) in
    not_both (verdict_of w) (agree both.one_in both.other_in) apart

-- ---- every run

module _ (setup : Setup) (events : List Event) (whole : IsWhole setup) where
  -- each accepted tag was made by either end, and no end has begun a second conversation
  pub reflected : (let w = run_of setup events in tags_verdict_either w.book ≡ Honest
      → length w.conversations.begun ≡ 2
      → is_success w.parties.peer.vars.state ≡ true → is_success w.parties.server.vars.state ≡ true
      → AgreeOnTheirs setup w)
  reflected honest two =
      let w = run_of setup events in
      let none = none_if_honest (first_broken Either [] w.book) honest in
      once_agree setup whole w (invariant_first setup w (every_run_so_far setup events) two)
      (honest_tags end.Peer w.book none) (honest_tags end.Server w.book none)

  honest_agrees : (let w = run_of setup events in tags_verdict w.book ≡ Honest
      → AreApart w.conversations
      → is_success w.parties.peer.vars.state ≡ true → is_success w.parties.server.vars.state ≡ true
      → verdict_of w ≡ Agree)
  honest_agrees honest (inl two) =
      λ p_in s_in. (reflected (honest_of_either _ honest) two p_in s_in).agree
  honest_agrees honest (inr fresh) =
      λ p_in s_in. (fresh_ends_agree setup events whole honest fresh p_in s_in).agree

-- The proof goes by the two cases of (b). If no end has begun a second conversation, the whole book
-- is of the present ones: the invariants of both ends hold of it, each accepted tag in it was made
-- by either end, and `once_agree` finds both ends in one login. Else nonces are fresh, and
-- `fresh_ends_agree` finds that login among the conversations of both. As both report the same
-- wherever both are in SUCCESS, the verdict is never Apart.
pub honest_ends_agree : HonestEndsAgree
honest_ends_agree setup events whole = record {
  agrees = honest_agrees setup events whole;
  never_apart = λ honest apart. not_apart (run_of setup events)
      (honest_agrees setup events whole honest apart);
  reflected_agrees =
      λ honest two p_in s_in. (reflected setup events whole honest two p_in s_in).agree;
  reflected_never_apart = λ honest two. not_apart (run_of setup events)
      (λ p_in s_in. (reflected setup events whole honest two p_in s_in).agree);
  hold = λ honest fresh p_in s_in.
      (fresh_ends_agree setup events whole honest fresh p_in s_in).hold;
}
