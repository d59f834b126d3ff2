use Rattle.world_laws.proofs.laws.few_packets.Goals as goal
use Rattle.world_laws.proofs.Few.{few_packets}

pub returns : goal.returns
returns c = few_packets
