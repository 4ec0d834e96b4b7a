-- The contents of a BOOLEAN are read, and no others.
use Rattle.std.proofs.Common.{ℕ, Bool, true, false, List, [], ◌∷◌, ◌≡◌, ◌==◌, ◌∙◌, Ok, Err, refl, ap, arith, ⊎_elim}
use Rattle.std.proofs.lemmas.Bool.Decides.{nat_tests}
use Rattle.der_core.specs.declared.error.ErrorKind.{ErrorKind}
use Rattle.der_core.specs.declared.error.ErrorKind.TheVariants.{Length, Value}
use Rattle.der_core.specs.Boolean.{boolean_contents, boolean_of}
use Rattle.der_core.specs.Encodings.{AreBytes}
use Rattle.der_core.specs.Laws.LengthReading.{cond_cases}
use Rattle.der_core.specs.Laws.Readings.{ok_injective}
use Rattle.der_core.specs.Printed.{ReadsPrinted}
use Rattle.der_core.specs.Reading.{TellsOfBytes}
use Rattle.der_core.specs.Tags.{boolean_tag}

boolean_gives : (c : List ℕ) (b : Bool) → AreBytes c → boolean_of c ≡ Ok b → Unit {0} × (c ≡ boolean_contents b)
boolean_gives [] b are e = let never = e in cc
boolean_gives (x ∷ []) b are e =
    ⊎_elim
    (λ w.
    let same : x ≡ 255 = grind (arith, nat_tests, w.0) in
    (tt, ap (λ y. y ∷ []) same ∙ ap boolean_contents (ok_injective w.1)))
    (λ w.
    ⊎_elim
    (λ u.
    let same : x ≡ 0 = grind (arith, nat_tests, u.0) in
    (tt, ap (λ y. y ∷ []) same ∙ ap boolean_contents (ok_injective u.1)))
    (λ u. let never = u.1 in cc) (cond_cases (x == 0) _ _ _ w.1)) (cond_cases (x == 255) _ _ _ e)
boolean_gives (x ∷ y ∷ ys) b are e = let never = e in cc

boolean_takes : (b : Bool) → boolean_of (boolean_contents b) ≡ Ok b
boolean_takes true = refl
boolean_takes false = refl

boolean_tells : (c : List ℕ) (k : ErrorKind) → boolean_of c ≡ Err k → TellsOfBytes k
boolean_tells [] k e = let same : Length boolean_tag ≡ k = let q = e in cc in (λ no. cc, λ no. cc, λ no. cc)
boolean_tells (x ∷ []) k e =
    ⊎_elim (λ w. let never = w.1 in cc)
    (λ w. ⊎_elim (λ u. let never = u.1 in cc)
    (λ u. let same : Value boolean_tag ≡ k = let q = u.1 in cc in (λ no. cc, λ no. cc, λ no. cc))
    (cond_cases (x == 0) _ _ _ w.1)) (cond_cases (x == 255) _ _ _ e)
boolean_tells (x ∷ y ∷ ys) k e =
    let same : Length boolean_tag ≡ k = let q = e in cc in (λ no. cc, λ no. cc, λ no. cc)

pub boolean_law : ReadsPrinted (λ _. Unit {0}) boolean_contents boolean_of
boolean_law = record { gives = boolean_gives; takes = λ b ok few. boolean_takes b; tells = boolean_tells }
