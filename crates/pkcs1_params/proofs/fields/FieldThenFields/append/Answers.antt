-- `append` of `Fields for FieldThen`. `p` is the first field, and `out` is whether the mask leaves it out. `later` is
-- what the later fields do, under the rest of the mask.
use Rattle.std.proofs.Common.{◌≡◌, true, false, refl}
use Rattle.der_core.specs.Words.{err_from_is_err_and}
use Rattle.der_core.proofs.Writing.{appends_in_front, appends_behind}
use Rattle.spki_core.specs.Words.{octets_under, out_under, rest_under}
use Rattle.pkcs1_params.specs.Words.{field_in}
use Rattle.pkcs1_params.proofs.fields.FieldThenFields.append.Goals as goal

-- Where the first field is left out, the octets are those of the later ones.
pub returns-then-left_out-clause-appends : goal.returns-then-left_out-clause-appends
returns-then-left_out-clause-appends g c =
    let p = field_in g.Plain.PlainHolder.plain g.Mask.MaskHolder.mask c.args.self.now.first in
    let out : out_under p.is_default c.args.mask ≡ true =
    rw (c.take_mask_bit-left_out.ensures, c.split_non_defaults-default.ensures) at c.if-left_out.true in
    let later =
    rw (c.take_mask_bit-left_out.ensures, c.split_non_defaults-default.ensures) at c.append.ensures.appends in
    rw out later

-- At the `?` after `append` of the first field: where that isn't written, the fields aren't. `e` is that `?` hands the
-- error on.
pub returns-in_err-append-clause-appends : goal.returns-in_err-append-clause-appends
returns-in_err-append-clause-appends g c =
    let p = field_in g.Plain.PlainHolder.plain g.Mask.MaskHolder.mask c.args.self.now.first in
    let e = err_from_is_err_and c.from_residual.result c.from_residual.ensures.1 in
    let out : out_under p.is_default c.args.mask ≡ false =
    rw (c.take_mask_bit-left_out.ensures, c.split_non_defaults-default.ensures) at c.if-left_out.false in
    let fits = rw out at c.requires.fits in
    rw (e.1, e.2, out)
    (appends_in_front _ p.octets
    (octets_under (rest_under p.is_default c.args.mask) (g.L.Fields.written c.args.self.now.later)) tt tt refl fits
    c.in_err-append.ensures.appends)

-- At the end: the later fields were written after the first, or couldn't be.
pub returns-clause-appends : goal.returns-clause-appends
returns-clause-appends g c =
    let p = field_in g.Plain.PlainHolder.plain g.Mask.MaskHolder.mask c.args.self.now.first in
    let out : out_under p.is_default c.args.mask ≡ false =
    rw (c.take_mask_bit-left_out.ensures, c.split_non_defaults-default.ensures) at c.if-left_out.false in
    let first = c.in_ok-append.ensures.appends in
    let later =
    rw (c.take_mask_bit-left_out.ensures, c.split_non_defaults-default.ensures) at c.append-3.ensures.appends in
    let fits = rw out at c.requires.fits in
    rw out (appends_behind _ _ _ tt tt refl fits first.written first.room later)
