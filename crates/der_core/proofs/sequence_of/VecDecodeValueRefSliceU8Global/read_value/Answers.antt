-- `read_value` of `Vec<T>`, whose loop is `loop-left`.
use Rattle.std.proofs.Common.{ap, ◌∙◌, ◌≡◌, true, inl, is_ok, not, arith}
use Rattle.std.proofs.lemmas.List.{map-append}
use Rattle.der_core.specs.declared.error.Error.{Error}
use Rattle.der_core.specs.Words.{are_bytes, err_from_is_err_and, front_reading_reads, prints_some, Prints}
use Rattle.der_core.proofs.ItemsLeft.{all_listed, at_first, first_kept, item_fails, one_more, takes_some}
use Rattle.der_core.proofs.sequence_of.VecDecodeValueRefSliceU8Global.read_value.Goals as goal

-- At first nothing was read.
pub loop-left-init : goal.loop-left-init
loop-left-init g c =
    let t = g.T.Encoding in
    rw c.new-items.ensures.items (at_first (Prints t.valid t.printed t.means) g.T.Decode.may_allocate t.read_front _
    (are_bytes c.args.contents.now (λ i. omega (arith, c.type_inv.contents i))) c.requires)

-- At the `?` behind `T::read_one`: the error of this item is that of the list.
pub returns-in_err-item : goal.returns-in_err-item
returns-in_err-item g c =
    let p = err_from_is_err_and c.from_residual.result c.from_residual.ensures.1 in
    rw (p.1, p.2) (item_fails g.T.Encoding.read_front _ _ _ _ c.loop-left.invariant c.loop-left-test.ensures
    c.in_err-item.ensures.read)

-- At the `Err` for a `push` that failed: an item was read and has to be kept, so memory may be asked for.
pub returns-then-is_err : goal.returns-then-is_err
returns-then-is_err g c =
    let t = g.T.Encoding in
    inl (
      ap (λ (e : Error). e.kind) c.new.ensures,
      first_kept (front_reading_reads t.law t.reads_alike) (prints_some t.some) _ _ _ c.loop-left.invariant _ _
          c.in_ok-item.ensures.read,
    )

-- The item that was read took some octets.
pub loop-left-smaller : goal.loop-left-smaller
loop-left-smaller g c =
    let t = g.T.Encoding in
    takes_some (front_reading_reads t.law t.reads_alike) (prints_some t.some) _ _ _ c.loop-left.invariant.0
    c.in_ok-item.ensures.read

-- One item more was read, and `push` returned `Ok`.
pub loop-left-preserved : goal.loop-left-preserved
loop-left-preserved g c =
    let t = g.T.Encoding in
    let pushed : is_ok c.push.result ≡ true = c.is_err.ensures.negation ∙ ap not c.if-is_err.false in
    rw (c.push.ensures.items, pushed, map-append) (one_more (front_reading_reads t.law t.reads_alike)
    (prints_some t.some) _ _ _ c.loop-left.invariant _ _ c.in_ok-item.ensures.read)

-- At the `Ok`: nothing is left, so the items are the list.
pub returns : goal.returns
returns g c = all_listed g.T.Encoding.read_front _ _ _ c.loop-left.invariant c.loop-left-test.ensures
