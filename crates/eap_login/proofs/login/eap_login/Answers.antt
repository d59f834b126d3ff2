use Rattle.std.proofs.Common.{map, string_bytes}
use Rattle.eap_login.proofs.Completing.{completes, ends_of}
use Rattle.world_commands.proofs.Headline.{headline}
use Rattle.eap_login.proofs.NeverBoth.{writes_never_both}
use Rattle.world_commands.proofs.SmoothTraces as traces
use Rattle.eap_login.proofs.login.eap_login.Goals as goal

pub returns-clause-honest_ends_agree : goal.returns-clause-honest_ends_agree
returns-clause-honest_ends_agree g c octets = headline octets

pub returns-clause-smooth_traces_agree : goal.returns-clause-smooth_traces_agree
returns-clause-smooth_traces_agree g c = traces.smooth_traces_agree

pub returns-clause-never_both : goal.returns-clause-never_both
returns-clause-never_both g c octets h =
    writes_never_both _ _ _ (map string_bytes c.args.words.now.items) octets
    (ends_of g.S.Source.shown g.W.Sink.shown _ _ _ _ _ _ octets h c.respond.ensures)

pub returns-clause-complete : goal.returns-clause-complete
returns-clause-complete g c octets h =
    completes g.S.Source.shown g.W.Sink.shown _ _ _ _ _ _ octets h c.respond.ensures
