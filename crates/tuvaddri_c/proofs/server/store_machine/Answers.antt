-- A server that is made begins, with the users of its settings, as one of both methods.
use Rattle.std.proofs.Common.{rules}
use Rattle.server_machine.specs.declared.variables.Role.TheVariants as role
use Rattle.end_objects.specs.Settings.{settings_of, server_setup_of}
use Rattle.tuvaddri_c.proofs.TwoRecords.{server_started_with}
use Rattle.tuvaddri_c.proofs.server.store_machine.Goals as goal

pub returns-in-Server-clause-initial : goal.returns-in-Server-clause-initial
unfolding server_setup_of
returns-in-Server-clause-initial c =
    let told = settings_of c.args.settings.now in
    search (
      server_started_with role.StandAlone told c.args.nonce.now c.server_alone.result
          c.args.first_id c.args.max_retrans c.unbegun.result,
      rules,
    )
