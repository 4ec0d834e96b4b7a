-- `octets_behind` gives the first fault: `Length` of no octet, `Value` of another octet than 0.
use Rattle.std.proofs.Common.{ℕ, List, [], ◌∷◌, ◌≡◌, ◌≢◌, ◌≤◌, ◌==◌, ◌∙◌, false, length, slice_index_or, refl, sym, ap, arith, Err}
use Rattle.der_core.specs.declared.error.ErrorKind.TheVariants.{Length, Value}
use Rattle.der_core.specs.Words.{ErrorKind, Tag, bit_string_tag, no_unused_bits, same_tag}
use Rattle.der_core.proofs.bit_string.octets_behind.Goals as goal

octet_missing : (c : List ℕ) (e : ErrorKind) (t : Tag) → length c ≡ 0 → t.octet ≡ 3 → e ≡ Length t
    → no_unused_bits c ≡ Err e
octet_missing [] e t none o is = ap (λ t. Err (Length t)) (same_tag bit_string_tag t (sym o)) ∙ ap (λ k. Err k) (sym is)
octet_missing (x ∷ xs) e t none o is = absurd (omega arith)

other_octet : (c : List ℕ) (e : ErrorKind) (t : Tag) → 1 ≤ length c → slice_index_or c 0 0 ≢ 0 → t.octet ≡ 3 → e ≡ Value t
    → no_unused_bits c ≡ Err e
other_octet [] e t some was o is = absurd (omega arith)
other_octet (x ∷ xs) e t some was o is =
    let no : (x == 0) ≡ false = grind arith in
    rw no (ap (λ t. Err (Value t)) (same_tag bit_string_tag t (sym o)) ∙ ap (λ k. Err k) (sym is))

-- At the `Err` for no octet.
pub returns-in-empty : goal.returns-in-empty
returns-in-empty c =
    octet_missing c.args.contents.now _ _ (omega (arith, c.in-empty.len_below)) refl (ap (λ e. e.kind) c.new.ensures)

-- At the `Err` for an octet other than 0.
pub returns-in-len1-up : goal.returns-in-len1-up
returns-in-len1-up c =
    other_octet c.args.contents.now _ _ c.in-len1-up.len_at_least c.if-unused-ne0.true refl
    (ap (λ e. e.kind) c.new-in-len1-up.ensures)
