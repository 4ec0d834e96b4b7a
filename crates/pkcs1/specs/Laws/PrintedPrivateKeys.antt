-- Private keys are read as they are printed, if their numbers are.
use Rattle.std.proofs.Common.{ℕ, true, List, [], ◌∷◌, ◌++◌, ◌≡◌, ◌<◌, ◌==◌, refl, sym, subst, ap, map, ◌∙◌, arith, ⊎_elim, append_assoc, Option, Some, None, Result, Ok, Err}
use Rattle.der_core.specs.Words.{nat_tests, cond_cases, checked_optional_law, chain_law, front_end_law, front_row_law, tagged_law, reads_printed_as, bind_ok, ended_is, ended_tells, made_tells, ok_injective, value_error_tells, ReadsFrontPrinted, ReadsPrinted, TellsOfBytes, FrontReading, ended, made, ◌>>=◌}
use Rattle.std.specs.List.{AllByRecursion, concat}
use Rattle.der_core.specs.declared.error.ErrorKind.{ErrorKind}
use Rattle.der_core.specs.Tags as tags
use Rattle.pkcs1.specs.KeyReadings.{front_read, lists_none, others_if_agreed, others_read, private_key_read}
use Rattle.pkcs1.specs.Keys.{EightNumbersThen, OtherRow, PrivateRow, eight_numbers_before, key_numbers, others_in, private_front_parts, version_of}
use Rattle.pkcs1.specs.Laws.PrintedKeys.{are_some, primes_law, some_listed, version_law}
use Rattle.pkcs1.specs.Printing.{AreSome, EightNumbersAreValid, FrontIsValid, OtherIsValid, OthersAreValid, PrivateIsValid, front_printed, others_printed, primes_printed, private_printed, row_printed}
use Rattle.standard.specs.Statement.{IfPresent, integer, sequence}

-- == Other primes that agree with the version ==
abbrev pub PrimesOver : Type 0 → Type 0
PrimesOver N = Option (List (OtherRow N))

module _ {N : Type 0} where
  abbrev pub VersionAgrees : ℕ → PrimesOver N → Type 0
  VersionAgrees version primes = (version ≡ version_of primes) × AreSome primes

  others_if_agreed_ends : (v : ℕ) (primes : PrimesOver N) → VersionAgrees v primes → others_if_agreed v primes
      ≡ ended primes
  others_if_agreed_ends v primes a = λ i bytes. at bytes i
    where
      at : (bytes : List ℕ) → others_if_agreed v primes bytes ≡ ended primes bytes
      at bytes =
          let same : (v == version_of primes) ≡ true = grind (arith, nat_tests, a.0) in
          let there = some_listed primes a.1 in rw (same, there) refl

  others_if_agreed_gives : (v : ℕ) (primes given : PrimesOver N) (c : List ℕ) → others_if_agreed v primes c ≡ Ok given
      → VersionAgrees v primes × (c ≡ []) × (primes ≡ given)
  others_if_agreed_gives v primes given c e =
      ⊎_elim
      (λ w.
      let same : v ≡ version_of primes = grind (arith, nat_tests, w.0) in
      ⊎_elim (λ u. let never = u.1 in cc)
      (λ u. let end = ended_is primes given c u.1 in ((same, are_some primes u.0), end.0, end.1))
      (cond_cases (lists_none primes) _ _ _ w.1))
      (λ w. let never = w.1 in cc) (cond_cases (v == version_of primes) _ _ _ e)

  others_if_agreed_tells : (v : ℕ) (primes : PrimesOver N) (c : List ℕ) (k : ErrorKind) → others_if_agreed v primes c
      ≡ Err k
      → TellsOfBytes k
  others_if_agreed_tells v primes c k e =
      ⊎_elim
      (λ w.
      ⊎_elim (λ u. value_error_tells (sym (err_same u.1))) (λ u. ended_tells primes c k u.1)
      (cond_cases (lists_none primes) _ _ _ w.1))
      (λ w. value_error_tells (sym (err_same w.1))) (cond_cases (v == version_of primes) _ _ _ e)
    where
      err_same : {j k : ErrorKind} → ◌≡◌ {A = Result (PrimesOver N) ErrorKind} (Err j) (Err k) → j ≡ k
      err_same e = cc

-- == What is printed, joined from the right ==
abbrev printed_before : {N : Type 0} → (N → List ℕ) → List N → List ℕ → List ℕ
printed_before printed [] rest = rest
printed_before printed (n ∷ ns) rest = printed n ++ printed_before printed ns rest

joined_before : {N : Type 0} (printed : N → List ℕ) (ns : List N) (rest : List ℕ)
    → concat (map printed ns) ++ rest ≡ printed_before printed ns rest
joined_before printed [] rest = refl
joined_before printed (n ∷ ns) rest =
    append_assoc (printed n) (concat (map printed ns)) rest
    ∙ ap (λ bytes. printed n ++ bytes) (joined_before printed ns rest)

pub private_row : {N : Type 0} (printed : N → List ℕ) (key : PrivateRow N)
    → private_printed printed key
    ≡ row_printed printed (λ others. sequence (primes_printed printed others)) (version_of (others_in key), key)
private_row printed key =
    let version = integer (version_of (others_in key)) in
    append_assoc version (concat (map printed (key_numbers key))) (others_printed printed (others_in key))
    ∙ ap (λ bytes. version ++ bytes) (joined_before printed (key_numbers key) (others_printed printed (others_in key)))

-- == Private keys ==
-- Valid numbers, in front of something else.
module _ {N R S : Type 0} (valid : N → Type 0) (Follows : R → Type 0) (Other : S → Type 0) where
  pub eight_numbers_behind : (row : EightNumbersThen N R) (rest : S) → (Follows (others_in row) → Other rest)
      → EightNumbersAreValid valid Follows row → EightNumbersAreValid valid Other (eight_numbers_before row rest)
  eight_numbers_behind row rest follows n = (
    n.0,
    (
      n.1.0,
      (
        n.1.1.0,
        (
          n.1.1.1.0,
          (
            n.1.1.1.1.0,
            (n.1.1.1.1.1.0, (n.1.1.1.1.1.1.0, (n.1.1.1.1.1.1.1.0, follows (n.1.1.1.1.1.1.1.1)))),
          ),
        ),
      ),
    ),
  )

version_small : {N : Type 0} (primes : PrimesOver N) → version_of primes < 2
version_small None = omega arith
version_small (Some others) = omega arith

module _ {N : Type 0} {valid : N → Type 0} {printed : N → List ℕ} {at : FrontReading N}
    (law : ReadsFrontPrinted valid printed at) where
  abbrev pub EightNumbers : Type 0
  EightNumbers = EightNumbersThen N (Unit {0})

  pub front_law : ReadsFrontPrinted (FrontIsValid valid) (front_printed printed) (front_read at)
  front_law =
      front_row_law (tagged_law version_law tags.integer_tag) (front_row_law law (front_row_law law (front_row_law law
      (front_row_law law (front_row_law law (front_row_law law (front_row_law law (front_row_law law
      front_end_law))))))))

  -- What stands behind them, and the whole key.
  abbrev pub PrimesAreListed : PrimesOver N → Type 0
  PrimesAreListed primes = IfPresent (AllByRecursion (OtherIsValid valid)) primes

  others_law : (v : ℕ)
      → ReadsPrinted (λ primes. VersionAgrees v primes × PrimesAreListed primes) (others_printed printed)
      (others_read at v)
  others_law v =
      checked_optional_law (tagged_law (primes_law law) tags.sequence_tag) 48 (λ others rest. refl) (VersionAgrees v)
      (others_if_agreed v)
      (others_if_agreed_ends v) (others_if_agreed_gives v) (others_if_agreed_tells v)

  abbrev pub IsBehindFront : ℕ × EightNumbers → PrivateRow N → Type 0
  IsBehindFront front key =
      (private_front_parts key ≡ front) × (VersionAgrees front.0 (others_in key) × PrimesAreListed (others_in key))

  behind_law : (front : ℕ × EightNumbers)
      → ReadsPrinted (IsBehindFront front) (λ key. others_printed printed (others_in key))
      (made (eight_numbers_before front.1) (others_read at front.0))
  behind_law front = record {
    gives = λ c key b e.
        let s = bind_ok (others_read at front.0 c) _ e in
        let h = (others_law front.0).gives c s.0 b s.1 in
        let there : private_front_parts (eight_numbers_before front.1 s.0) ≡ front = λ i. (sym h.0.0.0 i, front.1) in
        subst (λ u. IsBehindFront front u × (c ≡ others_printed printed (others_in u))) (ok_injective s.2)
        ((there, h.0), h.1);
    takes = λ key ok few.
        ap (λ r. r >>= λ primes. Ok (eight_numbers_before front.1 primes))
        ((others_law front.0).takes (others_in key) ok.1 few)
        ∙ ap (λ n. Ok (eight_numbers_before n (others_in key))) (sym (ap (λ g. g.1) ok.0));
    tells = λ c k e. made_tells (eight_numbers_before front.1) (others_read at front.0 c)
        ((others_law front.0).tells c k) e;
  }

  -- The key is valid.
  abbrev pub IsReadAsKey : PrivateRow N → Type 0
  IsReadAsKey key = FrontIsValid valid (private_front_parts key) × IsBehindFront (private_front_parts key) key

  valid_read : (key : PrivateRow N) → IsReadAsKey key → PrivateIsValid valid key
  valid_read key ((small, n), (same, (agrees, all))) =
      eight_numbers_behind valid (λ _. Unit {0}) (OthersAreValid valid) (eight_numbers_before key (tt {0}))
      (others_in key)
      (λ _. (agrees.1, all)) n

  pub read_valid : (key : PrivateRow N) → PrivateIsValid valid key → IsReadAsKey key
  read_valid key n =
      let others = n.1.1.1.1.1.1.1.1 in (
        (
          version_small (others_in key),
          eight_numbers_behind valid (OthersAreValid valid) (λ _. Unit {0}) key (tt {0}) (λ _. tt) n,
        ),
        (refl, ((refl, others.0), others.1)),
      )

  pub private_law : ReadsPrinted (PrivateIsValid valid) (private_printed printed) (private_key_read at)
  private_law =
      reads_printed_as (chain_law private_front_parts front_law behind_law (λ x y h. h.0)) valid_read read_valid
