-- In every run, what two ends that both stand in SUCCESS report over an honest book is their own:
-- names, key and suite.
use Rattle.std.proofs.Common.{◌≡◌, List, true, inl, inr}
use Rattle.login_setup.specs.declared.setup.Setup.{Setup}
use Rattle.login_setup.specs.declared.event.Event.{Event}
use Rattle.tag_book.specs.Book.{tags_verdict}
use Rattle.tag_book.specs.declared.book.TagsVerdict.TheVariants.{Honest}
use Rattle.eap_world.specs.Judgement.{is_success}
use Rattle.login_laws.specs.Agreement.{AreApart, AreTheirs, HonestNamesAreTheirs}
use Rattle.world_laws.specs.Whole.{IsWhole}
use Rattle.login_laws.proofs.FreshAgree.{fresh_ends_agree}
use Rattle.world_laws.proofs.HonestOfEither.{honest_of_either}
use Rattle.login_laws.proofs.HonestRuns.{reflected}
use Rattle.world_laws.specs.Runs.{run_of}

module _ (setup : Setup) (events : List Event) (whole : IsWhole setup) where
  honest_theirs : (let w = run_of setup events in tags_verdict w.book ≡ Honest
      → AreApart w.conversations
      → is_success w.parties.peer.vars.state ≡ true → is_success w.parties.server.vars.state ≡ true
      → AreTheirs setup w.parties.peer w.parties.server)
  honest_theirs honest (inl two) =
      λ p_in s_in. (reflected setup events whole (honest_of_either _ honest) two p_in s_in).theirs
  honest_theirs honest (inr fresh) =
      λ p_in s_in. (fresh_ends_agree setup events whole honest fresh p_in s_in).theirs

-- The cases are those of `honest_ends_agree`. In each both ends are in one login, with one PSK,
-- both names and one suite. A login has its own end's name, and the server's has the PSK of the
-- user of ID_Peer: so both names and the key are those of the two setups.
pub honest_names_are_theirs : HonestNamesAreTheirs
honest_names_are_theirs setup events whole = record {
  theirs = honest_theirs setup events whole;
  reflected_theirs =
      λ honest two p_in s_in. (reflected setup events whole honest two p_in s_in).theirs;
}
