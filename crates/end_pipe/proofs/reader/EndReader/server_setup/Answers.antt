-- The server's setup is within its limits, since the settings are.
use Rattle.scenario_text.proofs.ValidReading.{server_setup_of_valid}
use Rattle.end_pipe.proofs.reader.EndReader.server_setup.Goals as goal

pub returns-clause-valid : goal.returns-clause-valid
returns-clause-valid c =
    rw c.server.ensures (server_setup_of_valid c.self.inside.settings c.self.invariant)
