-- `read_value` of `RsaPssParams<Any>`: a copy of the parameters that were read (`read`), or there was no memory for it. It
-- may be asked for, as parameters of an algorithm in them have octets (`why`).
use Rattle.std.proofs.Common.{arith}
use Rattle.der_core.specs.Words.{are_bytes}
use Rattle.spki_core.specs.Words.{own_any_of}
use Rattle.pkcs1_params.specs.Words.{pss_record, pss_with, OwnedPssAllocates, pss_of}
use Rattle.pkcs1_params.proofs.ParameterReads.{copy_returns}
use Rattle.pkcs1_params.proofs.owned.RsaPssParamsAnyDecodeValueRefSliceU8Global.read_value.Goals as goal

pub returns : goal.returns
returns c =
    let read = pss_of c.in_ok-params.params in
    copy_returns pss_record (pss_with own_any_of) OwnedPssAllocates read c.args.contents.now
    (are_bytes _ (λ i. omega (arith, c.type_inv.contents i))) c.in_ok-params.ensures
    (λ is contents why. (read, is, contents, why)) c.copy_pss.result c.copy_pss.ensures.ok c.copy_pss.ensures.err
