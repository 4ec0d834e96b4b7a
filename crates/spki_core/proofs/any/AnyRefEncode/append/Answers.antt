-- `append` of `AnyRef`. `p` is that `?` hands the error on.
use Rattle.std.proofs.Common.{rules}
use Rattle.der_core.specs.Words.{err_from_is_err_and}
use Rattle.der_core.proofs.Writing.{appends_at_once}
use Rattle.der_core.proofs.Headers.{behind_header, no_header}
use Rattle.spki_core.specs.Words.{any_of}
use Rattle.spki_core.proofs.any.AnyRefEncode.append.Goals as goal

-- At the `?` after the first `write`, which is of the header: where it has no room, the encoding has none.
pub returns-in_err-write-clause-appends : goal.returns-in_err-write-clause-appends
returns-in_err-write-clause-appends g c =
    let p = err_from_is_err_and c.from_residual.result c.from_residual.ensures.1 in
    let any = any_of c.args.self.now in
    rw (p.1, p.2) (no_header any.tag any.contents c.header.ensures.length _ (search rules) c.requires.fits c.requires.has
    c.in_err-write.ensures.err c.in_err-write.ensures.nothing.0)

-- At the end, the contents come after the header, by the second `write`. All of them are written, or none.
pub returns-clause-appends : goal.returns-clause-appends
returns-clause-appends g c =
    let any = any_of c.args.self.now in
    behind_header any.tag any.contents c.header.ensures.length c.to_bytes.result.items (search rules) c.requires.fits
    {here = Unit {0}} c.requires.has tt (search rules) (search rules)
    (appends_at_once _ tt c.args.self.now.bounded c.write-2.ensures.written c.write-2.ensures.room c.write-2.ensures.err
    c.write-2.ensures.nothing)
