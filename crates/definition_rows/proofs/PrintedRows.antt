-- Worked rows of `Printed.antt` of `der_core`: what a type states of its encodings, each of any spelling.
use Rattle.std.proofs.Common.{ℕ, List, [], ◌∷◌, ◌++◌, ◌≡◌, ◌≤◌, ◌<◌, ◌⊎◌, length, map, refl, Bool, false, Ok, Err, Some, None}
use Rattle.std.specs.Prelude.{◌↔◌}
use Rattle.der_core.specs.Encodings.{AreBytes}
use Rattle.der_core.specs.Printed.{AreSpelledOnce, Begins, Prints, PrintsOne, ReadsAlike, ReadsFrontAlike, ReadsFrontPrinted, ReadsPrinted, Spells, Starts, WritesShortest, number_contents, number_of, ok_of, row, value_in}
use Rattle.der_core.specs.Reading.{TellsOfBytes}
use Rattle.der_core.specs.Readings.{FrontReading, Reading, front_made, is_next, made}
use Rattle.der_core.specs.Tags.{integer_tag}
use Rattle.der_core.specs.declared.error.ErrorKind.{ErrorKind}
use Rattle.der_core.specs.declared.error.ErrorKind.TheVariants.{Length}

module _ {S V : Type 0} (valid : S → Type 0) (printed : S → List ℕ) (means : S → V) where
  printed_read : (read : Reading S) → ReadsPrinted valid printed read
      ↔ (((c : List ℕ) (s : S) → AreBytes c → read c ≡ Ok s → valid s × (c ≡ printed s))
      × ((s : S) → valid s → length (printed s) ≤ 4294967295 → read (printed s) ≡ Ok s)
      × ((c : List ℕ) (k : ErrorKind) → read c ≡ Err k → TellsOfBytes k))
  printed_read read =
      ((λ p. (p.gives, p.takes, p.tells)), (λ p. record { gives = p.0; takes = p.1; tells = p.2 }))

  printed_front_read : (at : FrontReading S) → ReadsFrontPrinted valid printed at
      ↔ (((i rest : List ℕ) (s : S) → AreBytes i → at i ≡ Ok (s, rest) → valid s × (i ≡ printed s ++ rest))
      × ((s : S) (rest : List ℕ) → valid s → length (printed s ++ rest) ≤ 4294967295
      → at (printed s ++ rest) ≡ Ok (s, rest))
      × ((i : List ℕ) (k : ErrorKind) → at i ≡ Err k → TellsOfBytes k))
  printed_front_read at =
      ((λ p. (p.gives, p.takes, p.tells)), (λ p. record { gives = p.0; takes = p.1; tells = p.2 }))

  spelled : (v : V) (bytes : List ℕ) → Spells valid printed means v bytes
      ↔ ((length bytes ≤ 4294967295) × ((s : S) × (means s ≡ v) × valid s × (bytes ≡ printed s)))
  spelled v bytes = (λ p. p, λ p. p)

  is_printed : (v : V) (bytes : List ℕ) → Prints valid printed means v bytes
      ↔ ((s : S) × (means s ≡ v) × valid s × (bytes ≡ printed s))
  is_printed v bytes = (λ p. p, λ p. p)

  shortest_written : (written : V → S) → WritesShortest valid printed means written
      ↔ (((v : V) → means (written v) ≡ v) × ((s : S) → valid s → valid (written (means s)))
      × ((s : S) → valid s → length (printed s) ≤ 4294967295
      → (s ≡ written (means s)) ⊎ (length (printed (written (means s))) < length (printed s))))
  shortest_written written =
      ((λ p. (p.back, p.valid, p.least)), (λ p. record { back = p.0; valid = p.1; least = p.2 }))

  one_printed : PrintsOne valid printed ↔ ((s t : S) (x y : List ℕ) → valid s → valid t
      → length (printed s ++ x) ≤ 4294967295 → printed s ++ x ≡ printed t ++ y → (s ≡ t) × (x ≡ y))
  one_printed = (λ p. p, λ p. p)

  spelled_once : AreSpelledOnce means ↔ ((s t : S) → means s ≡ means t → s ≡ t)
  spelled_once = (λ p. p, λ p. p)

  read_alike : (spelling : Reading S) (read : Reading V) → ReadsAlike spelling means read
      ↔ ((c : List ℕ) → made means spelling c ≡ read c)
  read_alike spelling read = ((λ p. p.same), (λ p. record { same = p }))

  front_read_alike : (spelling : FrontReading S) (at : FrontReading V) → ReadsFrontAlike spelling means at
      ↔ ((c : List ℕ) → front_made means spelling c ≡ at c)
  front_read_alike spelling at = ((λ p. p.same), (λ p. record { same = p }))

  starts : Starts printed ↔ ((octets : ℕ → Bool)
      × ((s : S) (rest : List ℕ) (t : ℕ) → octets t ≡ false → is_next t (printed s ++ rest) ≡ false))
  starts = ((λ p. (p.with, p.only)), (λ p. record { with = p.0; only = p.1 }))

  begins : Begins printed ↔ ((octets : ℕ → Bool)
      × ((s : S) (t : ℕ) → octets t ≡ false → is_next t (printed s) ≡ false))
  begins = ((λ p. (p.with, p.only)), (λ p. record { with = p.0; only = p.1 }))

numbers_printed : map number_contents (0 ∷ 127 ∷ 128 ∷ 256 ∷ []) ≡ (0 ∷ []) ∷ (127 ∷ []) ∷ (0 ∷ 128 ∷ []) ∷ (1 ∷ 0 ∷ []) ∷ []
numbers_printed = refl

number_read : map number_of ((0 ∷ 128 ∷ []) ∷ (1 ∷ 2 ∷ []) ∷ [] ∷ []) ≡ Ok 128 ∷ Ok 258 ∷ Err (Length integer_tag) ∷ []
number_read = refl

value_of_both : (n : ℕ) (e : ErrorKind) → (value_in (Ok n) ≡ Some n) × (value_in {V = ℕ} (Err e) ≡ None)
value_of_both n e = (refl, refl)

ok_of_both : (meaning : ℕ → List ℕ) (n : ℕ) → (ok_of {E = ℕ} meaning (Ok n) ≡ Some (meaning n))
    × (ok_of {E = ℕ} meaning (Err n) ≡ None)
ok_of_both meaning n = (refl, refl)

row_in_order : (first rest : ℕ → List ℕ) (a b : ℕ) → row first rest (a, b) ≡ first a ++ rest b
row_in_order first rest a b = refl
