-- `read_slice`: each exit is one of reading a slice whose SEQUENCE has these contents. `few` is that the slice is within the
-- limit, and `p` that `?` hands the error on.
use Rattle.std.proofs.Common.{◌∙◌, ◌≡◌, ◌≤◌, Err, List, ℕ, Result, ap, arith, length, refl, sym, [], ◌∷◌, ◌==◌, true, false}
use Rattle.der_core.specs.Words.{err_from_is_err_and, limit, octets_of_all, same_tag, sequence_tag, tagged}
use Rattle.der_core.specs.declared.error.Error.{Error}
use Rattle.der_core.specs.declared.error.ErrorKind.{ErrorKind}
use Rattle.der_core.specs.declared.tag.Tag.{Tag}
use Rattle.pkcs1_params.proofs.WholeParameters.{bytes_behind, no_fields, no_sequence, slice_accepted, slice_rejected}
use Rattle.pkcs1_params.proofs.reading.read_slice.Goals as goal

-- The tag of the code is that of SEQUENCE.
of_sequence : (tag : Tag) → tag.octet ≡ 48 → (b : List ℕ) {o : Result (List ℕ × List ℕ) ErrorKind}
    → tagged tag octets_of_all b ≡ o → tagged sequence_tag octets_of_all b ≡ o
of_sequence tag is b e = ap (λ t. tagged t octets_of_all b) (sym (same_tag tag sequence_tag is)) ∙ e

nothing_left : (rest : List ℕ) → true ≡ (length rest == 0) → length rest ≡ 0
nothing_left [] is = refl
nothing_left (x ∷ xs) is = let no : true ≡ false = grind arith in cc

pub returns-in_err-contents : goal.returns-in_err-contents
returns-in_err-contents g c =
    let few : length c.args.bytes.now ≤ limit = omega (arith, c.if-bytes-to_usize.false, c.to_usize.ensures) in
    let p = err_from_is_err_and c.from_residual.result c.from_residual.ensures.1 in
    rw (p.1, p.2)
    (no_sequence g.T.AlgorithmParams.form c.args.strict c.args.bytes.now few _
    (of_sequence _ refl c.args.bytes.now c.in_err-contents.ensures.err))

pub returns-in_err-params : goal.returns-in_err-params
returns-in_err-params g c =
    let few : length c.args.bytes.now ≤ limit = omega (arith, c.if-bytes-to_usize.false, c.to_usize.ensures) in
    let p = err_from_is_err_and c.from_residual-in_err-params.result c.from_residual-in_err-params.ensures.1 in
    rw (p.1, p.2)
    (no_fields g.T.AlgorithmParams.form c.args.strict c.args.bytes.now few _ _
    (of_sequence _ refl c.args.bytes.now c.in_ok-contents.ensures.ok) _ c.in_err-params.ensures)

pub returns-then-not-is_empty : goal.returns-then-not-is_empty
returns-then-not-is_empty g c =
    let few : length c.args.bytes.now ≤ limit = omega (arith, c.if-bytes-to_usize.false, c.to_usize.ensures) in
    bytes_behind g.T.AlgorithmParams.form c.args.strict c.args.bytes.now few _ _
    (of_sequence _ refl c.args.bytes.now c.in_ok-contents.ensures.ok) _ c.in_ok-params.ensures
    (grind arith) ∙ ap (λ (e : Error). Err e.kind) (sym c.new-then-not-is_empty.ensures)

pub returns-in_err-reject_noted : goal.returns-in_err-reject_noted
returns-in_err-reject_noted g c =
    let few : length c.args.bytes.now ≤ limit = omega (arith, c.if-bytes-to_usize.false, c.to_usize.ensures) in
    let none = nothing_left c.in_ok-contents.rest.now c.if-not-is_empty.ensures in
    let p = err_from_is_err_and c.from_residual-in_err-reject_noted.result c.from_residual-in_err-reject_noted.ensures.1 in
    rw (p.1, p.2)
    (slice_rejected g.T.AlgorithmParams.form c.args.strict c.args.bytes.now few _ _
    (of_sequence _ refl c.args.bytes.now c.in_ok-contents.ensures.ok) _ c.in_ok-params.ensures none _
    c.in_err-reject_noted.ensures)

pub returns : goal.returns
returns g c =
    let few : length c.args.bytes.now ≤ limit = omega (arith, c.if-bytes-to_usize.false, c.to_usize.ensures) in
    slice_accepted g.T.AlgorithmParams.form c.args.strict c.args.bytes.now few _ _
    (of_sequence _ refl c.args.bytes.now c.in_ok-contents.ensures.ok) _ c.in_ok-params.ensures
    (nothing_left c.in_ok-contents.rest.now c.if-not-is_empty.ensures) c.in_ok-reject_noted.ensures
