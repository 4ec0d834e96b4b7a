-- `read_value` of `RsaPrivateKey<U>`, at the `?` behind `read_other_primes`. `front` is the version and the eight numbers,
-- which `read_first` read in front of the other primes, so their error is that of the contents, or memory ran out. `p` is
-- that `?` hands the error on.
use Rattle.std.proofs.Common.{arith}
use Rattle.der_core.specs.Words.{are_bytes, err_from_is_err_and}
use Rattle.pkcs1.specs.Words.{AllocatesInOthers}
use Rattle.pkcs1.proofs.KeyReads.{key_fails_at_others, version_and_numbers}
use Rattle.pkcs1.proofs.private_key.RsaPrivateKeyDecodeValueRefSliceU8Global.read_value.Goals as goal

pub returns-in_err-others : goal.returns-in_err-others
returns-in_err-others g c =
    let p = err_from_is_err_and c.from_residual-in_err-others.result c.from_residual-in_err-others.ensures.1 in
    let u = g.U.Encoding in
    let front = version_and_numbers u.value c.in_ok-front.front.0 c.in_ok-front.front.1 in
    rw (p.1, p.2) (key_fails_at_others u.law u.reads_alike g.U.Decode.may_allocate
    (AllocatesInOthers u.valid u.printed u.means g.U.Decode.may_allocate) _ front _ _
    (are_bytes _ (λ i. omega (arith, c.type_inv.contents i))) c.in_ok-front.ensures.read c.in_err-others.ensures)
