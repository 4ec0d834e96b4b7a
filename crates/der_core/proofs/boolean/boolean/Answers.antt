-- `boolean` gives the first fault: `Length` of another number of octets than one, `Value` of another octet.
use Rattle.std.proofs.Common.{ℕ, List, [], ◌∷◌, ◌≡◌, ◌≢◌, ◌==◌, false, length, slice_index_or, refl, sym, ap, ◌∙◌, arith, Err}
use Rattle.der_core.specs.declared.error.ErrorKind.TheVariants.{Length, Value}
use Rattle.der_core.specs.Words.{ErrorKind, Tag, boolean_of, boolean_tag, same_tag}
use Rattle.der_core.proofs.boolean.boolean.Goals as goal

-- Contents of another length than 1 have the fault `Length`.
boolean_of_length : (c : List ℕ) (k : ErrorKind) (t : Tag) → length c ≢ 1 → t.octet ≡ 1 → k ≡ Length t
    → boolean_of c ≡ Err k
boolean_of_length [] k t l o is = ap (λ t. Err (Length t)) (same_tag boolean_tag t (sym o)) ∙ ap (λ k. Err k) (sym is)
boolean_of_length (x ∷ []) k t l o is = absurd (l refl)
boolean_of_length (x ∷ y ∷ ys) k t l o is =
    ap (λ t. Err (Length t)) (same_tag boolean_tag t (sym o)) ∙ ap (λ k. Err k) (sym is)

-- One octet that is neither ff nor 00 has the fault `Value`.
boolean_of_octet : (c : List ℕ) (k : ErrorKind) (t : Tag) → length c ≡ 1 → slice_index_or c 0 0 ≢ 255
    → slice_index_or c 0 0 ≢ 0 → t.octet ≡ 1 → k ≡ Value t → boolean_of c ≡ Err k
boolean_of_octet [] k t l high low o is = absurd (omega arith)
boolean_of_octet (x ∷ []) k t l high low o is =
    let isnt_true : (x == 255) ≡ false = grind arith in
    let isnt_false : (x == 0) ≡ false = grind arith in
    rw (isnt_true, isnt_false)
    (ap (λ t. Err (Value t)) (same_tag boolean_tag t (sym o)) ∙ ap (λ k. Err k) (sym is))
boolean_of_octet (x ∷ y ∷ ys) k t l high low o is = absurd (omega arith)

-- At the `Err` for another length than 1.
pub returns-then-contents-ne1 : goal.returns-then-contents-ne1
returns-then-contents-ne1 c =
    boolean_of_length c.args.contents.now _ _ c.if-contents-ne1.true refl (ap (λ e. e.kind) c.new.ensures)

-- At the `Err` behind both tests of the octet, which are false.
pub returns-else-contents-eq0 : goal.returns-else-contents-eq0
returns-else-contents-eq0 c =
    boolean_of_octet c.args.contents.now _ _ c.if-contents-ne1.false c.if-contents.false c.if-contents-eq0.false refl
    (ap (λ e. e.kind) c.new-else-contents-eq0.ensures)
