-- `read_from` makes a document of all that came, or gives the first fault of that.
use Rattle.std.proofs.Common.{subst, inr}
use Rattle.der_core.specs.Words.{err_from_is_err_and, IsDocument}
use Rattle.der_core.proofs.Documents.{means_document, no_document, none_given}
use Rattle.der_core.proofs.ReadSteps.{fault_without_memory}
use Rattle.der_core.proofs.document.DocumentOf.read_from.Goals as goal

-- At the `?` behind `AnySequence::from_der`: all that came is no document, and the error is its first fault.
-- `w.3.holds` would be that reading it asks for memory, which it never does.
pub returns-in_err-from_der : goal.returns-in_err-from_der
returns-in_err-from_der g c =
    let p = err_from_is_err_and c.from_residual-in_err-from_der.result c.from_residual-in_err-from_der.ensures.1 in
    let none = no_document _ _ c.in_err-from_der.ensures.encoding in
    rw (p.1, p.2) (inr (
      c.in_ok-bytes.ensures.same,
      none_given _ _ _ _ _ c.as_slice.ensures.value c.in_ok-bytes.ensures.all none.1
          (fault_without_memory (λ w. w.3.holds) c.in_err-from_der.ensures.exact),
    ))

-- The document holds the bytes that came, which were read as one whole SEQUENCE.
pub invariant_of-result : goal.invariant_of-result
invariant_of-result g c = record { whole = subst IsDocument c.as_slice.ensures.value (means_document _ _ c.in_ok-from_der.ensures.encoding.0) }
