-- `append_value` of `OptionalThen<T, R>`. `has.0` is that the OPTIONAL part is valid if it is there, and `has.1.1`
-- that the row is valid. `c.in-Some.is` and `c.in-None.is` say which arm was taken.
use Rattle.std.proofs.Common.{refl}
use Rattle.der_core.specs.Words.{err_from_is_err_and}
use Rattle.der_core.proofs.Writing.{appends_behind, appends_in_front, receives_none, takes_none}
use Rattle.der_core.proofs.optional_part.OptionalThenEncodeValue.append_value.Goals as goal

-- At the `?` behind `part.append`: the writing stops in the part, so that of the contents does.
pub returns-in_err-append-in-Some-clause-appends : goal.returns-in_err-append-in-Some-clause-appends
returns-in_err-append-in-Some-clause-appends g c =
    let p = err_from_is_err_and c.from_residual.result c.from_residual.ensures.1 in
    let has = rw c.in-Some.is at c.requires.has in
    let fits = rw c.in-Some.is at c.requires.fits in
    rw (p.1, p.2, c.in-Some.is) (appends_in_front _ _ _ has.0 has refl fits c.in_err-append-in-Some.ensures.appends)

-- At the end of the arm `Some`: the part was written, and the rest is written after it.
pub returns-in_ok-append-in-Some-clause-appends : goal.returns-in_ok-append-in-Some-clause-appends
returns-in_ok-append-in-Some-clause-appends g c =
    let has = rw c.in-Some.is at c.requires.has in
    let fits = rw c.in-Some.is at c.requires.fits in
    rw c.in-Some.is (appends_behind _ _ _ has.1.1 has refl fits c.in_ok-append-in-Some.ensures.appends.written
    c.in_ok-append-in-Some.ensures.appends.room c.append_value.ensures.appends)

-- At the end of the arm `None`: nothing is written for the part, so what the call says of the rest holds of all.
pub returns-in-None-clause-appends : goal.returns-in-None-clause-appends
returns-in-None-clause-appends g c =
    let has = rw c.in-None.is at c.requires.has in
    let fits = rw c.in-None.is at c.requires.fits in
    let written = g.W.Writer.written c.args.writer.now in
    rw c.in-None.is (appends_behind _ _ _ has.1.1 has refl fits (receives_none written written (λ before o. o)) (takes_none _)
    c.append_value-in-None.ensures.appends)
