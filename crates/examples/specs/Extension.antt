-- The BOOLEAN TRUE, as contents octets (X.690 8.2.2, 11.1).
use Rattle.std.proofs.Common.{ℕ, Bool, true, false, List, [], ◌∷◌, ◌≡◌, Option, Some, None, Ok, Err, refl, subst, sym, ⊎_elim, if◌then◌else◌, bytes_eq}
use Rattle.der_core.specs.declared.error.ErrorKind.TheVariants.{Value}
use Rattle.der_core.specs.Words.{AreBytes, boolean_tag, bytes_decide, cond_cases, value_error_tells, ReadsPrinted, Reading}
use Rattle.examples.specs.declared.extension.True.{True}

abbrev pub true_octets : Unit {0} → List ℕ
true_octets _ = 255 ∷ []

abbrev pub IsTrueOctet : Unit {0} → Type 0
IsTrueOctet _ = AreBytes (255 ∷ [])

-- What the contents are read as: TRUE, or `Value` of BOOLEAN.
abbrev pub true_read : Reading (Unit {0})
true_read c = if bytes_eq c (255 ∷ []) then Ok tt else Err (Value boolean_tag)

pub true_law : ReadsPrinted IsTrueOctet true_octets true_read
true_law = record {
  gives = λ c s bytes e.
      ⊎_elim (λ w. let same = (bytes_decide c (255 ∷ [])).0 w.0 in (subst AreBytes same bytes, same))
      (λ w. let never = w.1 in cc) (cond_cases (bytes_eq c (255 ∷ [])) _ _ _ e);
  takes = λ s ok few. refl;
  tells = λ c k e.
      ⊎_elim (λ w. let never = w.1 in cc)
      (λ w. let same : Value boolean_tag ≡ k = let q = w.1 in cc in value_error_tells (sym same))
      (cond_cases (bytes_eq c (255 ∷ [])) _ _ _ e);
}

-- The part for a field that is TRUE or left out.
abbrev pub critical_part : Bool → Option True
critical_part true = Some (record {})
critical_part false = None
