-- Private keys whose numbers are encoded as what they hold: such a key is encoded as the statement's, and may be written
-- exactly if that may.
use Rattle.std.proofs.Common.{ℕ, List, [], ◌∷◌, ◌++◌, ◌≡◌, ◌<◌, length, refl, sym, subst, ap, map, ◌∙◌, arith, Option, Some, None, ◌↔◌}
use Rattle.std.specs.List.{AllByRecursion}
use Rattle.std.specs.declared.alloc.Global.{Global}
use Rattle.std.specs.declared.vec.Vec.{Vec}
use Rattle.der_core.specs.Integer.{EncodesNumbers}
use Rattle.der_core.specs.Words.{Prints, WritesShortest}
use Rattle.pkcs1.specs.KeyValue.{Listed}
use Rattle.pkcs1.specs.Words.{AreSome, IsPrivateKey, OtherIsValid, OtherRow, OthersAreValid, PrivateIsValid, PrivateIsWritten, PrivateRow, PrivateSpells, ThreeNumbersAreValid, held_private_key, number_in, other_as, other_of, others_as, others_in, others_of, others_printed, primes_printed, private_as, private_key_with, private_printed, private_same_encoding, private_shortest, private_valid, some_stated, stated_some, version_of}
use Rattle.pkcs1.specs.declared.private_key.other_prime_info.OtherPrimeInfo.{OtherPrimeInfo}
use Rattle.standard.specs.Statement.{IfPresent, PrivateKeyEncoding, integer, sequence}

abbrev Primes : Type 0 → Type 0
Primes U = Option (Vec (OtherPrimeInfo U) Global)

-- Lists that mean the same: the version of a key is that of both, and both or none have items.
module _ {U S V N : Type 0} (means : S → V) (value : U → V) (number : U → N) where
  listed_mean_alike : (ss : List (OtherRow S)) (os : List (OtherPrimeInfo U)) → map (other_as means) ss ≡ map (other_of value) os
      → (0 < length ss) ↔ (0 < length (map (other_of number) os))
  listed_mean_alike [] [] is = (λ some. some, λ some. some)
  listed_mean_alike [] (o ∷ os) is = let no = is in cc
  listed_mean_alike (s ∷ ss) [] is = cc
  listed_mean_alike (s ∷ ss) (o ∷ os) is = (λ some. omega arith, λ some. omega arith)

  primes_mean_alike : (ss : Option (List (OtherRow S))) (os : Primes U) → others_as means ss ≡ others_of value os
      → (version_of ss ≡ version_of (others_of number os)) × (AreSome ss ↔ AreSome (others_of number os))
  primes_mean_alike None None is = (refl, (λ some. some, λ some. some))
  primes_mean_alike None (Some os) is = let no = is in cc
  primes_mean_alike (Some ss) None is = cc
  primes_mean_alike (Some ss) (Some os) is = (refl, listed_mean_alike ss os.items (cc))

module _ {U S V : Type 0} (valid : S → Type 0) (printed : S → List ℕ) (means : S → V) (value : U → V)
    (octets : U → List ℕ) (law : EncodesNumbers (Prints valid printed means) value octets) where
  abbrev number : U → ℕ
  number = number_in octets

  -- What spells a number is printed as it; and so it is of other primes, and of the key.
  number_printed : (s : S) (u : U) → means s ≡ value u → valid s → printed s ≡ integer (number u)
  number_printed s u is ok = (law u (printed s)).0 (s, is, ok, refl)

  listed_as_numbers : (ss : List (OtherRow S)) (os : List (OtherPrimeInfo U))
      → map (other_as means) ss ≡ map (other_of value) os → AllByRecursion (OtherIsValid valid) ss
      → primes_printed printed ss ≡ primes_printed integer (map (other_of number) os)
  listed_as_numbers [] [] is ok = refl
  listed_as_numbers [] (o ∷ os) is ok = let no = is in cc
  listed_as_numbers (s ∷ ss) [] is ok = cc
  listed_as_numbers (s ∷ ss) (o ∷ os) is ok =
      let one : other_as means s ≡ other_of value o = let both = is in cc in
      let rest : map (other_as means) ss ≡ map (other_of value) os = cc in
      λ i.
      sequence
      (number_printed s.0 o.prime (ap (λ r. r.0) one) ok.0.0 i
      ++ (number_printed s.1.0 o.exponent (ap (λ r. r.1.0) one) ok.0.1.0 i
      ++ (number_printed s.1.1.0 o.coefficient (ap (λ r. r.1.1.0) one) ok.0.1.1.0 i ++ [])))
      ++ listed_as_numbers ss os rest ok.1 i

  primes_as_numbers : (ss : Option (List (OtherRow S))) (os : Primes U) → others_as means ss ≡ others_of value os
      → IfPresent (AllByRecursion (OtherIsValid valid)) ss
      → others_printed printed ss ≡ others_printed integer (others_of number os)
  primes_as_numbers None None is ok = refl
  primes_as_numbers None (Some os) is ok = let no = is in cc
  primes_as_numbers (Some ss) None is ok = cc
  primes_as_numbers (Some ss) (Some os) is ok =
      let listed : map (other_as means) ss ≡ map (other_of value) os.items = cc in
      ap sequence (listed_as_numbers ss os.items listed ok)

  key_as_numbers : (s : PrivateRow S) (key : Listed U) → private_as means s ≡ private_key_with value key
      → PrivateIsValid valid s → private_printed printed s ≡ private_printed integer (private_key_with number key)
  key_as_numbers s key is ok =
      let primes = ap others_in is in
      λ i.
      (integer ((primes_mean_alike means value number (others_in s) key.other_prime_infos primes).0 i)
      ++ (number_printed s.0 key.modulus (ap (λ r. r.0) is) ok.0 i
      ++ (number_printed s.1.0 key.public_exponent (ap (λ r. r.1.0) is) ok.1.0 i
      ++ (number_printed s.1.1.0 key.private_exponent (ap (λ r. r.1.1.0) is) ok.1.1.0 i
      ++ (number_printed s.1.1.1.0 key.prime1 (ap (λ r. r.1.1.1.0) is) ok.1.1.1.0 i
      ++ (number_printed s.1.1.1.1.0 key.prime2 (ap (λ r. r.1.1.1.1.0) is) ok.1.1.1.1.0 i
      ++ (number_printed s.1.1.1.1.1.0 key.exponent1 (ap (λ r. r.1.1.1.1.1.0) is) ok.1.1.1.1.1.0 i
      ++ (number_printed s.1.1.1.1.1.1.0 key.exponent2 (ap (λ r. r.1.1.1.1.1.1.0) is) ok.1.1.1.1.1.1.0 i
      ++ (number_printed s.1.1.1.1.1.1.1.0 key.coefficient (ap (λ r. r.1.1.1.1.1.1.1.0) is) ok.1.1.1.1.1.1.1.0 i
      ++ [])))))))))
      ++ primes_as_numbers (others_in s) key.other_prime_infos primes ok.1.1.1.1.1.1.1.1.1 i

  -- What is written of its numbers is valid. So it is of a key that has other primes, or no list of them.
  module _ {written : V → S} (shortest : WritesShortest valid printed means written) where
    number_valid : (u : U) → valid (written (value u))
    number_valid u =
        let (s, is, ok, same) = (law u (integer (number u))).1 refl in
        subst (λ v. valid (written v)) is (shortest.valid s ok)

    listed_valid_numbers : (os : List (OtherPrimeInfo U))
        → AllByRecursion (OtherIsValid valid) (map (other_as written) (map (other_of value) os))
    listed_valid_numbers [] = tt
    listed_valid_numbers (o ∷ os) =
        ((number_valid o.prime, (number_valid o.exponent, (number_valid o.coefficient, tt))), listed_valid_numbers os)

    primes_valid_numbers : (os : Primes U)
        → IfPresent (AllByRecursion (OtherIsValid valid)) (others_as written (others_of value os))
    primes_valid_numbers None = tt
    primes_valid_numbers (Some os) = listed_valid_numbers os.items

    number_key_valid : (key : Listed U) → AreSome (others_as written (others_of value key.other_prime_infos))
        → PrivateIsWritten valid written (private_key_with value key)
    number_key_valid key some =
        let at = number_valid in
        let row = private_as written (private_key_with value key) in
        let primes : OthersAreValid valid (others_in row) = (some, primes_valid_numbers key.other_prime_infos) in
        let crt : ThreeNumbersAreValid valid (OthersAreValid valid) row.1.1.1.1.1 =
        (at key.exponent1, (at key.exponent2, (at key.coefficient, primes))) in
        (at key.modulus, (at key.public_exponent, (at key.private_exponent, (at key.prime1, (at key.prime2, crt)))))

    module _ (key : Listed U) where
      abbrev held : PrivateRow ℕ
      held = private_key_with number key

      abbrev key_spelling : PrivateRow S
      key_spelling = private_as written (private_key_with value key)

      key_spelling_back : private_as means key_spelling ≡ private_key_with value key
      key_spelling_back = (private_shortest shortest).back (private_key_with value key)

      -- Each spelling of it has other primes if it has.
      some_in_spelling : (s : PrivateRow S) → private_as means s ≡ private_key_with value key
          → AreSome (others_in s) ↔ AreSome (others_in held)
      some_in_spelling s is =
          (primes_mean_alike means value number (others_in s) key.other_prime_infos (ap others_in is)).1

      key_spelling_valid : AreSome (others_in held) → PrivateIsValid valid key_spelling
      key_spelling_valid some = number_key_valid key ((some_in_spelling key_spelling key_spelling_back).1 some)

      pub number_key_encodes : (bytes : List ℕ) → PrivateSpells valid printed means (private_key_with value key) bytes
          ↔ PrivateKeyEncoding (held_private_key octets key) bytes
      number_key_encodes bytes = (
        λ (few, (s, is, ok, same)).
            (private_same_encoding held bytes).0 (
              few,
              private_valid held ((some_in_spelling s is).0 ok.1.1.1.1.1.1.1.1.0),
              same ∙ ap sequence (key_as_numbers s key is ok),
            ),
        λ p.
            let (few, ok, same) = (private_same_encoding held bytes).1 p in
            let made = key_spelling_valid ok.1.1.1.1.1.1.1.1.0 in
            let printed_alike = key_as_numbers key_spelling key key_spelling_back made in
            (few, (key_spelling, key_spelling_back, made, same ∙ sym (ap sequence printed_alike))),
      )

      pub number_key_written : PrivateIsWritten valid written (private_key_with value key) ↔ IsPrivateKey (held_private_key octets key)
      number_key_written = (
        λ ok. some_stated (others_in held)
            ((some_in_spelling key_spelling key_spelling_back).0 ok.1.1.1.1.1.1.1.1.0),
        λ some. key_spelling_valid (stated_some (others_in held) some),
      )
