-- `prepend_value` of `BitString<C>`: the octets of `C` are received, and 0 in front of them.
use Rattle.std.proofs.Common.{[], ◌∷◌}
use Rattle.der_core.proofs.bit_string.BitStringEncodeValue.prepend_value.Goals as goal

pub prepend_value-requires-clause-room : goal.prepend_value-requires-clause-room
prepend_value-requires-clause-room g c = (g.met.W.Prepend.room_for_parts (0 ∷ []) _ _ c.requires.room).0

pub prepend-requires : goal.prepend-requires
prepend-requires g c = ((g.met.W.Prepend.room_for_parts (0 ∷ []) _ _ c.requires.room).1 _ c.prepend_value.ensures).0

pub returns : goal.returns
returns g c = g.met.W.Prepend.prepended_through (0 ∷ []) _ _ _ _ c.prepend_value.ensures c.prepend.ensures
