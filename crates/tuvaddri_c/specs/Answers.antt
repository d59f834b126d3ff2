-- What a call that begins an end, or gives a server its user, answers, as a number.
use Rattle.std.specs.Prelude.{ℕ}
use Rattle.end_objects.specs.declared.refusals.Refusal.{Refusal}
use Rattle.end_objects.specs.declared.refusals.Refusal.TheVariants as refusal

-- the end has begun, or has accepted the user
abbrev pub ok : ℕ
ok = 0

-- there is no key for its method
abbrev pub bad_key : ℕ
bad_key = 6

-- there is no memory for it
abbrev pub no_memory : ℕ
no_memory = 8

-- it has no users
abbrev pub wrong_end : ℕ
wrong_end = 9

-- the settings are refused
abbrev pub refusal_number : Refusal → ℕ
refusal_number refusal.BadSize = 1
refusal_number refusal.NoMethod = 2
refusal_number refusal.NoSuite = 3
refusal_number refusal.BadName = 4
refusal_number refusal.BadOther = 5
refusal_number refusal.BadKey = 6
refusal_number refusal.ManyRetries = 7
