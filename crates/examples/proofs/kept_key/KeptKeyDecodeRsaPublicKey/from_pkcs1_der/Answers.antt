-- `from_pkcs1_der` of `KeptKey` keeps the encoding of the key that was read.
use Rattle.std.proofs.Common.{rules}
use Rattle.examples.proofs.kept_key.KeptKeyDecodeRsaPublicKey.from_pkcs1_der.Goals as goal

pub returns-clause-read : goal.returns-clause-read
returns-clause-read c = (search rules, (_, c.in_ok-_key.ensures.read))
