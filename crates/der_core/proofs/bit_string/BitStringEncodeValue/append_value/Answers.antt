-- At the end of `append_value` of `BitString<C>`: the octet 0, the number of unused bits, was written. The octets of
-- `C` are written behind it, and what the last call says of them holds of both.
use Rattle.std.proofs.Common.{[], ◌∷◌, refl}
use Rattle.der_core.proofs.Writing.{appends_behind}
use Rattle.der_core.proofs.bit_string.BitStringEncodeValue.append_value.Goals as goal

pub returns-clause-appends : goal.returns-clause-appends
returns-clause-appends g c =
    appends_behind _ (0 ∷ []) _ c.requires.has c.requires.has refl c.requires.fits c.in_ok-write.ensures.written
    c.in_ok-write.ensures.room c.append_value.ensures.appends
