-- A private key that is written as a row of its parts: the row has the same octets, and is valid if the key is. For
-- `RsaPrivateKey` as it is written.
use Rattle.std.proofs.Common.{ℕ, List, map, ◌≡◌, ◌<◌, refl, sym, subst, ap, ◌∙◌, arith, Option, Some, None, Result}
use Rattle.std.specs.List.{AllByRecursion}
use Rattle.std.specs.declared.alloc.Global.{Global}
use Rattle.std.specs.declared.vec.Vec.{Vec}
use Rattle.der_core.specs.Words.{Appends}
use Rattle.der_core.specs.declared.error.Error.{Error}
use Rattle.pkcs1.specs.Words.{KeyRow, RowIsValid, key_row, private_as, private_key_with, row_as, row_printed, OtherRow, OthersAreValid, PrivateRow, eight_numbers_behind, others_in, version_of, private_row, other_as, others_as, other_of, others_of, OtherIsValid, PrivateIsValid, primes_printed, private_printed}
use Rattle.pkcs1.specs.KeyValue.{Listed}
use Rattle.pkcs1.specs.declared.private_key.other_prime_info.OtherPrimeInfo.{OtherPrimeInfo}
use Rattle.pkcs1_params.proofs.Masks.{appends_as}
use Rattle.standard.specs.Statement.{IfPresent, sequence}

-- The version that is written.
version_is : {U N M : Type 0} (value : U → N) (f : N → M) (o : Option (Vec (OtherPrimeInfo U) Global))
    → version_of o ≡ version_of (others_as f (others_of value o))
version_is value f None = refl
version_is value f (Some v) = refl

version_small_octet : {Others : Type 0} (o : Option Others) → version_of o < 256
version_small_octet None = omega arith
version_small_octet (Some others) = omega arith

-- The row that a key is written as, of what its parts mean.
pub listed_row : {U V S : Type 0} (value : U → V) (written : V → S) (key : Listed U) (row : KeyRow V (List (OtherRow V)))
    → row ≡ key_row value (λ (v : Vec (OtherPrimeInfo U) Global). map (other_of value) v.items) key
    → row_as written (map (other_as written)) row
    ≡ (version_of (others_in (private_as written (private_key_with value key))), private_as written (private_key_with value key))
listed_row value written key row is =
    ap (row_as written (map (other_as written))) is
    ∙ (λ i. (version_is value written key.other_prime_infos i, private_as written (private_key_with value key)))

module _ {S : Type 0} (valid : S → Type 0) (printed : S → List ℕ) (key : PrivateRow S)
    (row : KeyRow S (List (OtherRow S))) (is : row ≡ (version_of (others_in key), key)) where
  abbrev RowPrimesAreValid : List (OtherRow S) → Type 0
  RowPrimesAreValid = AllByRecursion (OtherIsValid valid)

  abbrev PrivateRowIsValid : Type 0
  PrivateRowIsValid = RowIsValid valid RowPrimesAreValid row

  -- What is printed of it.
  abbrev private_row_octets : List ℕ
  private_row_octets = row_printed printed (λ others. sequence (primes_printed printed others)) row

  pub private_row_is : private_row_octets ≡ private_printed printed key
  private_row_is =
      ap (row_printed printed (λ others. sequence (primes_printed printed others))) is ∙ sym (private_row printed key)

  -- A row is valid if its key is.
  row_valid : PrivateIsValid valid key → PrivateRowIsValid
  row_valid p =
      subst (RowIsValid valid RowPrimesAreValid) (sym is) (
        version_small_octet (others_in key),
        eight_numbers_behind valid (OthersAreValid valid) (IfPresent RowPrimesAreValid) key (others_in key)
            (λ both. both.1) p,
      )

  -- What is written of the row is so of the key.
  pub key_appended : {W A : Type 0} (Room : W → Option ℕ) (Written : W → List ℕ → Type 0) (old new : W)
      (r : Result A Error) → PrivateIsValid valid key
      → Appends PrivateRowIsValid private_row_octets Room Written old new r
      → Appends (PrivateIsValid valid key) (private_printed printed key) Room Written old new r
  key_appended Room Written old new r ok told =
      appends_as PrivateRowIsValid (PrivateIsValid valid key) (row_valid ok) ok private_row_octets
      (private_printed printed key) Room Written old new r private_row_is told
