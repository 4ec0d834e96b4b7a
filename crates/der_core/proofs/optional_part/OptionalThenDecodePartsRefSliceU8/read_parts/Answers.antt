-- `read_parts` of `OptionalThen<T, R>`, at the `?` after `read_after`, which is given `T::TAG`. The OPTIONAL part was read, or
-- isn't there, so the error that follows it is that of the contents.
use Rattle.std.proofs.Common.{arith}
use Rattle.der_core.specs.Words.{are_bytes, err_from_is_err_and, optional_gives, tagged_alike, tagged_law, front_reading_reads}
use Rattle.der_core.proofs.ReadSteps.{parts_fail}
use Rattle.der_core.proofs.optional_part.OptionalThenDecodePartsRefSliceU8.read_parts.Goals as goal

pub returns-in_err-rest : goal.returns-in_err-rest
returns-in_err-rest g c =
    let p = err_from_is_err_and c.from_residual-in_err-rest.result c.from_residual-in_err-rest.ensures.1 in
    let tag = g.T.FixedTag.TAG in
    let law = front_reading_reads (tagged_law g.T.Contents.law tag) (tagged_alike g.T.Contents.reads_alike tag) in
    rw (p.1, p.2)
    (parts_fail (optional_gives tag.octet law) _ _ _ _ _ _ _ (are_bytes _ (λ i. omega (arith, c.type_inv.contents i)))
    c.in_ok-part.ensures.read (rw c.TAG.ensures at c.in_err-rest.ensures))
