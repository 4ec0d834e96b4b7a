-- `decode_tagged`: the header, and then its contents as one slice, are what the slice's reading splits off.
use Rattle.std.proofs.Common.{◌≡◌, refl, ◌∙◌}
use Rattle.der_core.proofs.ReadSteps.{fault_behind_header, slice_behind_header, slice_within, tag_fails, unequal_test_false, unequal_test_true, value_behind_header}
use Rattle.der_core.proofs.decode.decode_tagged.Goals as goal

-- At the `Err` for another tag.
pub returns-then-ne : goal.returns-then-ne
returns-then-ne g c =
    tag_fails c.args.tag g.T.Contents.read _ _ _ _ _ c.in_ok-header.header.tag c.in_ok-header.ensures.exact
    (unequal_test_true _ _ _ _ c.if-ne.true c.ne.ensures refl) c.error.ensures.value c.error.ensures.failed

pub read_value-requires : goal.read_value-requires
read_value-requires g c = slice_within c.in_ok-header.header.length _ (g.R.BytesLeft.left c.decode.new.reader) _
    (g.R.BytesLeft.bounded c.decode.new.reader) c.in_ok-contents.ensures

pub returns-in-Ok : goal.returns-in-Ok
returns-in-Ok g c =
    value_behind_header c.args.tag g.T.Contents.read _ _ _ _
    (slice_behind_header c.args.tag _ _ _ _ _ _ c.in_ok-header.ensures.exact
    (unequal_test_false _ _ _ _ c.if-ne.false c.ne.ensures refl) c.in_ok-contents.ensures)
    c.in-Ok.ensures

-- At the last `Err`: the fault of the contents is that of the encoding.
pub returns-in-Err : goal.returns-in-Err
returns-in-Err g c =
    let kind : c.error-in-Err.result.kind ≡ c.in-Err.e.kind = c.error-in-Err.ensures.value ∙ c.kind.ensures in
    rw kind (fault_behind_header c.args.tag g.T.Contents.read g.T.DecodeValue.may_allocate _ _ _ _ _
    (g.R.BytesLeft.bytes c.args.reader.now)
    (slice_behind_header c.args.tag _ _ _ _ _ _ c.in_ok-header.ensures.exact
    (unequal_test_false _ _ _ _ c.if-ne.false c.ne.ensures refl) c.in_ok-contents.ensures)
    c.in-Err.ensures c.error-in-Err.ensures.failed)
