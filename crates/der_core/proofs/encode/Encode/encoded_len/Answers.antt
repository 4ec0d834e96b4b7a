-- `encoded_len`: why the octets of the shortest encoding aren't counted is why the value's length isn't.
use Rattle.der_core.proofs.Writing.{value_uncounted}
use Rattle.der_core.proofs.encode.Encode.encoded_len.Goals as goal

pub returns-clause-err : goal.returns-clause-err
returns-clause-err g c =
    value_uncounted g.Self.Encoding.shortest (g.Self.Encoding.value c.args.self.now) _ c.counted_len.ensures.counted
