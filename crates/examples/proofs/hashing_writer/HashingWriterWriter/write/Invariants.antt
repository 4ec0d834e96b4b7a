-- In the loop of `write`: with the octets that are left, the hash will be that of all.
use Rattle.std.proofs.Common.{◌≡◌, drop}
use Rattle.examples.specs.Fnv.{fnv_after}
use Rattle.examples.proofs.hashing_writer.HashingWriterWriter.write.Given as goal

abbrev pub invariant-loop-octet : goal.invariant-loop-octet
invariant-loop-octet l = fnv_after l.self.hash (drop l.octet-index l.bytes) ≡ fnv_after l.fn.self.hash l.bytes
