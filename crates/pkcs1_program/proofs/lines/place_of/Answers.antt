-- What `holds` and `first_place` say of a piece holds of all bytes, as no byte in front of it is such a byte.
use Rattle.std.proofs.Common.{◌==◌, arith}
use Rattle.pkcs1_program.proofs.FirstPlace.{pass-on, found-behind, none-behind}
use Rattle.pkcs1_program.proofs.lines.place_of.Goals as goal

pub loop-passed-preserved : goal.loop-passed-preserved
loop-passed-preserved c = record {
  within = omega arith;
  none = pass-on (λ other. other == c.args.byte) c.args.bytes.now c.loop-passed.passed 32
      (omega arith)
      (rw c.holds.ensures at c.if-not-holds.true) c.loop-passed.invariant.none;
}

pub returns-in-Some : goal.returns-in-Some
returns-in-Some c = found-behind c.args.byte c.loop-passed.passed c.in-Some.place c.args.bytes.now
    c.loop-passed.invariant.within c.loop-passed.invariant.none c.in-Some.ensures

pub returns-in-None : goal.returns-in-None
returns-in-None c = none-behind c.args.byte c.loop-passed.passed c.args.bytes.now
    c.loop-passed.invariant.within c.loop-passed.invariant.none c.in-None.ensures
