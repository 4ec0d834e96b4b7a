-- `c.strip-bytes.result` is what `strip` returned: the same number, without needless zeros in front.
use Rattle.std.proofs.Common.{rules, refl, ap, arith, inl, inr, sym, ◌<◌, ◌∙◌, ◌≡◌, length}
use Rattle.der_core.specs.Words.{holds_canonical, canonical_same, same_tag}
use Rattle.der_core.specs.declared.error.ErrorKind.TheVariants as kind
use Rattle.der_core.proofs.integer.uint.UintRef.new.Goals as goal

-- At the first `Err`: nothing is left, so there were no bytes.
pub returns-then-is_empty-clause-err : goal.returns-then-is_empty-clause-err
returns-then-is_empty-clause-err c =
    let none : length c.strip-bytes.result.now ≡ 0 = grind arith in
    inl (c.strip-bytes.ensures.empty none, ap (λ e. e.kind) c.new.ensures ∙ ap kind.Length (same_tag _ _ refl))

-- At the `Ok`: some bytes are left, which are the canonical ones of the number.
pub returns-clause-ok : goal.returns-clause-ok
returns-clause-ok c = (
  c.strip-bytes.ensures.number,
  holds_canonical _
      (grind arith, c.strip-bytes.ensures.fewest, search rules),
)

-- At the second `Err`: the bytes that are left pass the limit, and any canonical bytes `x` of the number are these.
pub returns-then-bytes-to_usize-clause-err : goal.returns-then-bytes-to_usize-clause-err
returns-then-bytes-to_usize-clause-err c =
    let some : 0 < length c.strip-bytes.result.now =
    grind arith in
    inr (
      (λ x p e.
          let same : x ≡ c.strip-bytes.result.now =
          canonical_same x c.strip-bytes.result.now p
          (holds_canonical _ (some, c.strip-bytes.ensures.fewest, search rules))
          (e ∙ sym c.strip-bytes.ensures.number) in
          omega (arith, ap length same)),
      ap (λ e. e.kind) c.new-then-bytes-to_usize.ensures,
    )
