-- `pkcs1_c_bit_len`: `UintRef::new` makes each number that has bytes and is within the limit, and no other.
use Rattle.std.proofs.Common.{◌∙◌, arith, ap, length, sym, inl, inr}
use Rattle.der_core.specs.Words.{number_from_digits, number_octets, octets_canonical, octets_number, bytes_of}
use Rattle.standard.specs.Statement.{octets}
use Rattle.pkcs1_c.proofs.numbers.pkcs1_c_bit_len.Goals as goal

-- Never so: a number that `UintRef::new` has made is within the limit.
pub returns-in-Ok-clause-longer : goal.returns-in-Ok-clause-longer
returns-in-Ok-clause-longer c some long =
    let made = c.in-Ok.ensures.ok in
    let same = ap octets (sym made.0) ∙ number_octets (bytes_of c.in-Ok.held) made.1 in
    absurd (omega (arith, ap length same))

-- The last arm. Never so: `UintRef::new` fails only if there are no bytes or the number is longer than the limit.
pub returns-in-Err-2-clause-bits : goal.returns-in-Err-2-clause-bits
returns-in-Err-2-clause-bits c some short =
    let n = number_from_digits 256 c.args.number.now in
    elim c.in-Err-2.ensures.err [
      | inl p ↦ absurd (omega arith)
      | inr p ↦ absurd (omega (arith, p.0 (octets n) (octets_canonical n) (octets_number n)))
    ]
