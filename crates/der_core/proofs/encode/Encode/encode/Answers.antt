-- `encode`: why not all octets of the shortest encoding were written is why the value isn't written.
use Rattle.der_core.proofs.Writing.{value_unwritten}
use Rattle.der_core.proofs.encode.Encode.encode.Goals as goal

pub returns-clause-err : goal.returns-clause-err
returns-clause-err g c =
    value_unwritten g.Self.Encoding.shortest (g.Self.Encoding.value c.args.self.now) _ _ _ _
    c.append_counted.ensures.appends.left
