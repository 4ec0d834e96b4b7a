-- What is written of keys is the shortest, if what is written of their numbers is.
use Rattle.std.proofs.Common.{ℕ, List, [], ◌∷◌, ◌++◌, ◌≡◌, ◌<◌, length, map, sym, subst, ap, ◌∙◌, inl, inr, arith, length-append, Option, Some, None}
use Rattle.std.specs.List.{AllByRecursion}
use Rattle.der_core.specs.Words.{last_shortest, list_shortest, one_spelling_shortest, row_shortest, tagged_shortest, WritesShortest, number_contents}
use Rattle.pkcs1.specs.Keys.{OtherRow, other_as, others_as, others_in, private_as, version_of}
use Rattle.pkcs1.specs.Laws.KeysAlike.{version_as}
use Rattle.pkcs1.specs.Laws.PrintedPrivateKeys.{private_row}
use Rattle.pkcs1.specs.Printing.{AreSome, OtherIsValid, OthersAreValid, PrivateIsValid, eight_numbers_printed, others_printed, primes_printed, private_printed}
use Rattle.standard.specs.Statement.{integer}

-- Spellings that pass a test, as does what is written of them; and octets in front that are the same of both.
module _ {S V : Type 0} {Is : S → Type 0} {printed : S → List ℕ} {means : S → V} {written : V → S}
    (law : WritesShortest Is printed means written) where
  such_shortest : (Passes : S → Type 0) → ((s : S) → Passes s → Passes (written (means s)))
      → WritesShortest (λ s. Passes s × Is s) printed means written
  such_shortest Passes kept = record {
    back = law.back;
    valid = λ s ok. (kept s ok.0, law.valid s ok.1);
    least = λ s ok few. law.least s ok.1 few;
  }

  behind_shortest : (front : S → List ℕ) → ((s : S) → front (written (means s)) ≡ front s)
      → WritesShortest Is (λ s. front s ++ printed s) means written
  behind_shortest front same = record {
    back = law.back;
    valid = law.valid;
    least = λ s ok few.
        let old = length-append (front s) (printed s) in
        let new = length-append (front (written (means s))) (printed (written (means s))) in
        elim (law.least s ok (omega (arith, few, old))) [
          | inl e ↦ inl e
          | inr l ↦ inr (omega (arith, l, old, new, ap length (same s)))
        ];
  }

-- A list that has some other primes.
some_primes_as : {N M : Type 0} (f : N → M) (primes : Option (List (OtherRow N))) → AreSome primes
    → AreSome (others_as f primes)
some_primes_as f None some = tt
some_primes_as f (Some []) some = some
some_primes_as f (Some (x ∷ xs)) some = omega arith

module _ {S V : Type 0} {valid : S → Type 0} {printed : S → List ℕ} {means : S → V} {written : V → S}
    (law : WritesShortest valid printed means written) where
  abbrev end_shortest : WritesShortest (λ (_ : Unit {0}). Unit {0}) (λ _. []) (λ v. v) (λ v. v)
  end_shortest = one_spelling_shortest (λ _. Unit {0}) (λ _. [])

  pub primes_shortest : WritesShortest (AllByRecursion (OtherIsValid valid)) (primes_printed printed)
      (map (other_as means)) (map (other_as written))
  primes_shortest =
      list_shortest (tagged_shortest (row_shortest law (row_shortest law (row_shortest law end_shortest))) 48)

  -- The list as a last part, and the key.
  pub others_shortest : WritesShortest (OthersAreValid valid) (others_printed printed) (others_as means)
      (others_as written)
  others_shortest =
      such_shortest (last_shortest (tagged_shortest primes_shortest 48)) AreSome
      (λ primes some. some_primes_as written (others_as means primes) (some_primes_as means primes some))

  numbers_shortest : WritesShortest (PrivateIsValid valid) (eight_numbers_printed printed (others_printed printed))
      (private_as means) (private_as written)
  numbers_shortest =
      row_shortest law (row_shortest law (row_shortest law (row_shortest law (row_shortest law (row_shortest law
      (row_shortest law (row_shortest law others_shortest)))))))

  pub private_shortest : WritesShortest (PrivateIsValid valid) (private_printed printed) (private_as means)
      (private_as written)
  private_shortest =
      subst (λ contents. WritesShortest (PrivateIsValid valid) contents (private_as means) (private_as written))
      (λ i key. sym (private_row printed key) i)
      (behind_shortest numbers_shortest (λ key. integer (version_of (others_in key)))
      (λ key. ap integer (version_as written (others_as means (others_in key)) ∙ version_as means (others_in key))))

-- The version of a private key.
pub version_shortest : WritesShortest (λ n. n < 2) number_contents (λ n. n) (λ n. n)
version_shortest = one_spelling_shortest (λ n. n < 2) number_contents
