-- `append_value` of `Vec<T>`. The trait speaks of the spelling of a list, and `append_items` of the items of a slice.
-- `AllHave-map` and `encodings_map` say that it is the same.
use Rattle.der_core.proofs.Items.{AllHave-map, encodings_map}
use Rattle.der_core.proofs.sequence_of.VecEncodeValue.append_value.Goals as goal

pub append_items-requires-clause-has : goal.append_items-requires-clause-has
append_items-requires-clause-has g c =
    rw (c.as_slice.ensures.value, ← AllHave-map g.T.Encoding.value g.T.Encoding.written g.T.Encoding.valid c.args.self.now.items)
    c.requires.has

pub append_items-requires-clause-fits : goal.append_items-requires-clause-fits
append_items-requires-clause-fits g c =
    rw (
      c.as_slice.ensures.value,
      ← encodings_map g.T.Encoding.value g.T.Encoding.written g.T.Encoding.printed
          c.args.self.now.items,
    ) c.requires.fits

pub returns-clause-appends : goal.returns-clause-appends
returns-clause-appends g c =
    rw (
      AllHave-map g.T.Encoding.value g.T.Encoding.written g.T.Encoding.valid c.args.self.now.items,
      encodings_map g.T.Encoding.value g.T.Encoding.written g.T.Encoding.printed c.args.self.now.items,
      ← c.as_slice.ensures.value,
    )
    c.append_items.ensures.appends
