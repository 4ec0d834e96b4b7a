-- `from_der` copies a document, and its error says that the bytes are none or that memory ran out for one.
use Rattle.std.proofs.Common.{sym, subst, inl, inr}
use Rattle.der_core.specs.Words.{err_from_is_err_and, IsDocument}
use Rattle.der_core.proofs.Documents.{means_document, no_document}
use Rattle.der_core.proofs.document.DocumentOf.from_der.Goals as goal

-- At the `?` behind `AnySequence::from_der`, which asks for no memory: so its error says that the bytes are no
-- document.
pub returns-in_err-from_der-clause-err : goal.returns-in_err-from_der-clause-err
returns-in_err-from_der-clause-err g c =
    let p = err_from_is_err_and c.from_residual.result c.from_residual.ensures.1 in
    rw (p.1, p.2) (inr (no_document _ _ c.in_err-from_der.ensures.encoding))

-- The document is a copy of the bytes, which were read as one whole SEQUENCE.
pub invariant_of-result : goal.invariant_of-result
invariant_of-result g c =
    record {
      whole = subst IsDocument (sym c.in_ok-copy_of.ensures.ok)
          (means_document _ _ c.in_ok-from_der.ensures.encoding.0);
    }

-- At the `?` behind `copy_of`: memory ran out, and may be asked for, as the bytes are a document.
pub returns-in_err-copy_of-clause-err : goal.returns-in_err-copy_of-clause-err
returns-in_err-copy_of-clause-err g c =
    let p = err_from_is_err_and c.from_residual-in_err-copy_of.result c.from_residual-in_err-copy_of.ensures.1 in
    rw (p.1, p.2) (inl (c.in_err-copy_of.ensures.err, means_document _ _ c.in_ok-from_der.ensures.encoding.0))

-- The same for the clause `exact`.
pub returns-in_err-copy_of-clause-exact : goal.returns-in_err-copy_of-clause-exact
returns-in_err-copy_of-clause-exact g c =
    let p = err_from_is_err_and c.from_residual-in_err-copy_of.result c.from_residual-in_err-copy_of.ensures.1 in
    rw (p.1, p.2) (inl (c.in_err-copy_of.ensures.err, means_document _ _ c.in_ok-from_der.ensures.encoding.0))
