-- Draws, settings and choices, computed from the definitions alone.
use Rattle.std.proofs.Common.{◌≡◌, List, [], ◌∷◌, Some, None, refl}
use Rattle.login_setup.specs.declared.event.Event.TheVariants.{Deliver, Alter, Timeout}
use Rattle.login_setup.specs.declared.setup.Party.TheVariants.{Server}
use Rattle.login_setup.specs.declared.setup.Port.TheVariants as port
use Rattle.eap_world.specs.Sent.{Sent}
use Rattle.bulk_run.specs.Conversation.{choice, chosen, deliveries}
use Rattle.bulk_run.specs.Draws.{state_at, octets_after}

-- the first octets of 0 and of 1, computed elsewhere
from_zero : octets_after 0 0 12
    ≡ 60 ∷ 71 ∷ 209 ∷ 170 ∷ 98 ∷ 159 ∷ 87 ∷ 163 ∷ 129 ∷ 148 ∷ 203 ∷ 188 ∷ []
unfolding state_at octets_after
from_zero = refl

from_one : octets_after 1 0 12 ≡ 60 ∷ 94 ∷ 129 ∷ 180 ∷ 12 ∷ 94 ∷ 198 ∷ 142 ∷ 4 ∷ 163 ∷ 64 ∷ 108 ∷ []
unfolding state_at octets_after
from_one = refl

-- octets 11 and 12
later : octets_after 1 10 2 ≡ 64 ∷ 108 ∷ []
unfolding state_at octets_after
later = refl

seven : deliveries 7
    ≡ Deliver 1 ∷ Deliver 2 ∷ Deliver 3 ∷ Deliver 4 ∷ Deliver 5 ∷ Deliver 6 ∷ Deliver 7 ∷ []
unfolding deliveries
seven = refl

-- where three packets were sent, the last of 57 octets
times_out : choice 3 57 248 200 ≡ Some (Timeout Server)
times_out = refl

repeats : choice 3 57 249 200 ≡ Some (Deliver 3)
repeats = refl

repeats_first : choice 3 57 1 3 ≡ Some (Deliver 1)
repeats_first = refl

alters : choice 3 57 250 200 ≡ Some (Alter 3 29 1)
alters = refl

passes : choice 3 57 251 200 ≡ None
passes = refl

delivers : choice 3 57 252 200 ≡ Some (Deliver 3)
delivers = refl

delivers_too : choice 3 57 255 200 ≡ Some (Deliver 3)
delivers_too = refl

-- the last packet's octets count, not those of the first
two : List Sent
two = record { port = port.Peer; octets = 1 ∷ 0 ∷ 0 ∷ 5 ∷ 1 ∷ [] }
    ∷ record { port = port.Server; octets = 3 ∷ 2 ∷ 0 ∷ 4 ∷ [] } ∷ []

alters_last : chosen two 2 7 ≡ Some (Alter 2 3 1)
unfolding two chosen
alters_last = refl
