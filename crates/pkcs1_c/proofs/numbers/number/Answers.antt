-- `number`: at Ok the bytes can be held, and an error says why they can't.
use Rattle.std.proofs.Common.{ap, ◌∙◌, length, sym, arith, rules}
use Rattle.der_core.specs.Words.{number_octets, bytes_of}
use Rattle.standard.specs.Statement.{octets}
use Rattle.pkcs1_c.proofs.StructErrors.{number_rejected}
use Rattle.pkcs1_c.proofs.numbers.number.Goals as goal

-- At the `?` behind `UintRef::new`: its error says why these bytes are no number.
pub returns-in_err-new-clause-err : goal.returns-in_err-new-clause-err
returns-in_err-new-clause-err c =
    let rejected = number_rejected c.args.bytes.now _ c.in_err-new.ensures.err in search rules

-- There are bytes, and the number that was made of them, `field-0`, is within the limit.
pub returns-clause-held : goal.returns-clause-held
returns-clause-held c =
    let made = c.in_ok-new.ensures in
    let same = ap octets (sym made.ok.0) ∙ number_octets (bytes_of c.in_ok-new.field-0) made.ok.1 in
    λ s p. omega (arith, ap length same)
