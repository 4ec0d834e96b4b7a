-- From what reading tells to what the bytes encode: a test of the value that was read is a test of the bytes.
use Rattle.std.specs.Prelude.{List, ℕ, Bool, false, ◌≡◌, Some, None, Decides}
use Rattle.std.proofs.Common.{◌∙◌, sym, subst}
use Rattle.std.proofs.lemmas.Bool.{false≢true}
use Rattle.standard.specs.Statement.{Decodes}

module _ {V : Type 0} (Encoding : V → List ℕ → Type 0) where
  pub value_decides : (Is : V → Type 0) (bytes : List ℕ) (v : V) (r : Bool) → Decodes Encoding bytes (Some v)
      → Decides r (Is v) → Decides r ((w : V) × Encoding w bytes × Is w)
  value_decides Is bytes v r read test =
      (λ yes. (v, read.0, test.0 yes), λ some. test.1 (subst Is (read.1 some.0 some.1) some.2))

  pub no_value_decides : (Is : V → Type 0) (bytes : List ℕ) → Decodes Encoding bytes None
      → Decides false ((w : V) × Encoding w bytes × Is w)
  no_value_decides Is bytes none = (λ yes. absurd (false≢true yes), λ some. absurd (none some.0 some.1))

  pub two_values_decide : (Is : V → V → Type 0) (left right : List ℕ) (v w : V) (r : Bool)
      → Decodes Encoding left (Some v) → Decodes Encoding right (Some w) → Decides r (Is v w)
      → Decides r ((p : V) × (q : V) × Encoding p left × Encoding q right × Is p q)
  two_values_decide Is left right v w r first second test = (
    λ yes. (v, w, first.0, second.0, test.0 yes),
    λ both. test.1 (subst (λ x. Is x w) (first.1 both.0 both.2)
        (subst (Is both.0) (second.1 both.1 both.3) both.4)),
  )

  pub equal_values_decide : (left right : List ℕ) (v w : V) (r : Bool) → Decodes Encoding left (Some v)
      → Decodes Encoding right (Some w) → Decides r (v ≡ w)
      → Decides r ((p : V) × Encoding p left × Encoding p right)
  equal_values_decide left right v w r first second test = (
    λ yes. (v, first.0, subst (λ x. Encoding x right) (sym (test.0 yes)) second.0),
    λ one. test.1 (sym (first.1 one.0 one.1) ∙ second.1 one.0 one.2),
  )
