-- `prepend_value` of `(A, B)`: the second part is received, and the first in front of it.
use Rattle.der_core.proofs.parts.Tuple2EncodeValue.prepend_value.Goals as goal

pub prepend_value-requires-clause-room : goal.prepend_value-requires-clause-room
prepend_value-requires-clause-room g c = (g.met.W.Prepend.room_for_parts _ _ _ c.requires.room).0

pub prepend-requires-clause-room : goal.prepend-requires-clause-room
prepend-requires-clause-room g c = (g.met.W.Prepend.room_for_parts _ _ _ c.requires.room).1 _ c.prepend_value.ensures

pub returns : goal.returns
returns g c = g.met.W.Prepend.prepended_through _ _ _ _ _ c.prepend_value.ensures c.prepend.ensures
