-- `check_value` of `Vec<T>`. The trait speaks of the spelling of a list, and `check_items` of the items of a slice.
-- `AllHave-map` says that it is the same.
use Rattle.der_core.proofs.Items.{AllHave-map}
use Rattle.der_core.proofs.sequence_of.VecEncodeValue.check_value.Goals as goal

pub returns-clause-checks : goal.returns-clause-checks
returns-clause-checks g c =
    rw (
      AllHave-map g.T.Encoding.value g.T.Encoding.written g.T.Encoding.valid c.args.self.now.items,
      ← c.as_slice.ensures.value,
    ) c.check_items.ensures.checks
