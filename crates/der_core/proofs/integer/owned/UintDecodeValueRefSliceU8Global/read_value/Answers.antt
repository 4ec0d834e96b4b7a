-- `read_value` of `Uint`: a copy of the number that was read, or there was no memory for it. As the contents are a number,
-- it may be asked for.
use Rattle.std.proofs.Common.{arith}
use Rattle.der_core.proofs.ReadSteps.{copied}
use Rattle.der_core.specs.Words.{are_bytes, bytes_of, number_from_digits, number_law, own_bytes_of}
use Rattle.der_core.proofs.integer.owned.UintDecodeValueRefSliceU8Global.read_value.Goals as goal

pub returns : goal.returns
returns c =
    let bytes = are_bytes c.args.contents.now (λ i. omega (arith, c.type_inv.contents i)) in
    let is = number_law.gives _ _ bytes c.in_ok-number.ensures in
    let number = number_from_digits 256 (bytes_of c.in_ok-number.number) in
    copied own_bytes_of (number_from_digits 256) _ c.in_ok-number.ensures (number, is.1) c.copy.result c.copy.ensures.ok
    c.copy.ensures.err
