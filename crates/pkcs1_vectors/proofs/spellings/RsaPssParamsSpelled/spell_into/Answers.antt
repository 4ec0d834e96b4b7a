-- `spell_into` of `Spelled` for `RsaPssParams<P>`, in the arm of a mask below `masks`, 2 to the power of what
-- `default_fields` returns. So it is a mask of the parameters.
use Rattle.std.proofs.Common.{◌<◌, ◌^◌, rules}
use Rattle.pkcs1_vectors.proofs.spellings.RsaPssParamsSpelled.spell_into.Goals as goal

pub encode_spelling-requires : goal.encode_spelling-requires
encode_spelling-requires g c =
    let less : c.args.mask < 2 ^ c.default_fields.result = search rules in
    (c.default_fields.result, c.default_fields.ensures, less)
