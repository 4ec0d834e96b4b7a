-- In these arms the value is of a type `Plain` or `Mask`, which holds an algorithm. By `writes.same` it is written in
-- the octets of that algorithm, and `has` is that it can be. `known` is what `append_field` says, with the number of
-- this field.
use Rattle.std.proofs.Common.{ap}
use Rattle.pkcs1_params.proofs.Masks.{appends_as}
use Rattle.standard.specs.Statement.{tlv}
use Rattle.pkcs1_params.proofs.fields.FieldRef.append.Goals as goal

-- hashAlgorithm, under the tag [0], whose octet is 160.
pub returns-in-Hash-clause-appends : goal.returns-in-Hash-clause-appends
returns-in-Hash-clause-appends g c =
    let hash = c.in-Hash.hash.now in
    let writes = g.met.Plain.PlainHolder.writes in
    let has = writes.has_of hash (g.met.Plain.PlainHolder.held hash) in
    let known = rw (c.number-number.ensures, c.in-Hash.is) at c.append_field.ensures.appends in
    rw c.in-Hash.is (appends_as _ _ has tt _ _ _ _ _ _ _ (ap (tlv 160) (writes.same hash)) known)

-- maskGenAlgorithm, under the tag [1], whose octet is 161.
pub returns-in-MaskGen-clause-appends : goal.returns-in-MaskGen-clause-appends
returns-in-MaskGen-clause-appends g c =
    let mask_gen = c.in-MaskGen.mask_gen.now in
    let writes = g.met.Mask.MaskHolder.writes in
    let has = writes.has_of mask_gen (g.met.Mask.MaskHolder.held mask_gen) in
    let known = rw (c.number-number.ensures, c.in-MaskGen.is) at c.append_field-in-MaskGen.ensures.appends in
    rw c.in-MaskGen.is (appends_as _ _ has tt _ _ _ _ _ _ _ (ap (tlv 161) (writes.same mask_gen)) known)

-- pSourceAlgorithm, under the tag [2], whose octet is 162.
pub returns-in-PSource-clause-appends : goal.returns-in-PSource-clause-appends
returns-in-PSource-clause-appends g c =
    let p_source = c.in-PSource.p_source.now in
    let writes = g.met.Plain.PlainHolder.writes in
    let has = writes.has_of p_source (g.met.Plain.PlainHolder.held p_source) in
    let known = rw (c.number-number.ensures, c.in-PSource.is) at c.append_field-in-PSource.ensures.appends in
    rw c.in-PSource.is (appends_as _ _ has tt _ _ _ _ _ _ _ (ap (tlv 162) (writes.same p_source)) known)
