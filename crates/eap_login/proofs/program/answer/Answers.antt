use Rattle.std.proofs.Common.{inl}
use Rattle.eap_login.proofs.program.answer.Goals as goal

-- what holds of the words that were taken holds of those after the name
pub returns-clause-answers : goal.returns-clause-answers
returns-clause-answers g c =
    let said = c.eap_login.ensures in
    rw (← c.in_ok-words.ensures) (record {
      responds = inl said.responds;
      honest_ends_agree = said.honest_ends_agree;
      smooth_traces_agree = said.smooth_traces_agree;
      never_both = said.never_both;
      complete = λ octets e no_read no_write. inl (said.complete octets e no_read no_write);
    })
