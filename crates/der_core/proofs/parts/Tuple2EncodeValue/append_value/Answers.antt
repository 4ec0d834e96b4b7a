-- `append_value` of `(A, B)`, at the end: the first part was written, and the second is written after it.
use Rattle.std.proofs.Common.{refl}
use Rattle.der_core.proofs.Writing.{appends_behind}
use Rattle.der_core.proofs.parts.Tuple2EncodeValue.append_value.Goals as goal

pub returns-clause-appends : goal.returns-clause-appends
returns-clause-appends g c =
    appends_behind _ _ _ c.requires.has.1 c.requires.has refl c.requires.fits c.in_ok-append.ensures.appends.written
    c.in_ok-append.ensures.appends.room c.append_value.ensures.appends
