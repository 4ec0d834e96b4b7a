-- `has_no_80` calls itself with the octets behind the first eight, four or one, which are fewer.
use Rattle.std.proofs.Common.{length}
use Rattle.spki_core.proofs.object_identifier.+has_no_80.Given as goal

abbrev pub decreases-has_no_80 : goal.decreases-has_no_80
decreases-has_no_80 l = length l.octets.now
