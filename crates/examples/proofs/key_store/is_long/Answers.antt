-- `is_long`: a number has at least 2048 bits exactly if it is at least 2 to the power 2047.
use Rattle.std.proofs.Common.{ap, nat_le, ◌^◌, ◌∙◌}
use Rattle.examples.proofs.KeyStore.{bits_decide}
use Rattle.examples.proofs.key_store.is_long.Goals as goal

pub returns : goal.returns
returns c = bits_decide _ _ 2047 c.bit_len.ensures ∙ ap (λ n. nat_le (2 ^ 2047) n) c.modulus.ensures
