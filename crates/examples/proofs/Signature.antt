-- What is printed of a signature's row is what its grammar says.
use Rattle.std.proofs.Common.{ℕ, List, [], ◌∷◌, refl}
use Rattle.der_core.specs.Words.{StatedAs, stated, Spells}
use Rattle.examples.specs.Signature.{Signature, SignatureEncoding}
use Rattle.standard.specs.Statement.{integers, sequence}

abbrev SignatureRow : Type 0
SignatureRow = ℕ × (ℕ × Unit {0})

abbrev IsSignatureRow : SignatureRow → Type 0
IsSignatureRow v = Unit {0} × (Unit {0} × Unit {0})

abbrev signature_row_printed : SignatureRow → List ℕ
signature_row_printed v = sequence (integers (v.0 ∷ v.1.0 ∷ []))

abbrev signature_in : SignatureRow → Signature
signature_in v = record { r = v.0; s = v.1.0 }

pub signature_law : StatedAs IsSignatureRow (Spells IsSignatureRow signature_row_printed (λ v. v)) (λ _. Unit {0})
    SignatureEncoding signature_in
signature_law =
    stated (λ v. v) (λ v. refl) (λ w. (w.r, (w.s, tt))) (λ w. refl) (λ v. (λ _. tt, λ _. (tt, (tt, tt))))
    (λ v bytes. (λ (few, _, is). (few, is), λ (few, is). (few, (tt, (tt, tt)), is)))
