-- `read_value` of `RsaOaepParams<Any>`: a copy of the parameters that were read (`read`), or there was no memory for it. It
-- may be asked for, as parameters of an algorithm in them have octets (`why`).
use Rattle.std.proofs.Common.{arith}
use Rattle.der_core.specs.Words.{are_bytes}
use Rattle.spki_core.specs.Words.{own_any_of}
use Rattle.pkcs1_params.specs.Words.{oaep_record, oaep_with, OwnedOaepAllocates, oaep_of}
use Rattle.pkcs1_params.proofs.ParameterReads.{copy_returns}
use Rattle.pkcs1_params.proofs.owned.RsaOaepParamsAnyDecodeValueRefSliceU8Global.read_value.Goals as goal

pub returns : goal.returns
returns c =
    let read = oaep_of c.in_ok-params.params in
    copy_returns oaep_record (oaep_with own_any_of) OwnedOaepAllocates read c.args.contents.now
    (are_bytes _ (λ i. omega (arith, c.type_inv.contents i))) c.in_ok-params.ensures
    (λ is contents why. (read, is, contents, why)) c.copy_oaep.result c.copy_oaep.ensures.ok c.copy_oaep.ensures.err
