-- The names of causes, in octets.
use Rattle.std.specs.Prelude.{ℕ, List, codes}
use Rattle.radius_carry.specs.declared.cause.RadiusCause.{RadiusCause}
use Rattle.radius_carry.specs.declared.cause.RadiusCause.TheVariants as cause

abbrev pub cause_word : RadiusCause → List ℕ
cause_word cause.RadiusShort = codes "RadiusShort"
cause_word cause.RadiusCode = codes "RadiusCode"
cause_word cause.RadiusLength = codes "RadiusLength"
cause_word cause.RadiusTruncated = codes "RadiusTruncated"
cause_word cause.RadiusAttribute = codes "RadiusAttribute"
cause_word cause.NoEap = codes "NoEap"
cause_word cause.EapTooLong = codes "EapTooLong"
cause_word cause.NoAuthenticator = codes "NoAuthenticator"
