-- A number in decimal digits: its last digit, behind the number without it.
use Rattle.std.proofs.Common.{◌≡◌, ◌<◌, ◌≤◌, ◌+◌, ◌++◌, ◌∷◌, ◌/◌, ◌%◌, ◌^◌, ℕ, [], arith}
use Rattle.std.specs.Fmt.{decimal}
use Rattle.std.proofs.lemmas.Fmt.{decimal-digits_of, decimal_digit}
use Rattle.std.proofs.lemmas.Int.Digits.{digits_of_step}
use Rattle.std.proofs.lemmas.List.{map-append}

-- ten and more
pub decimal-last : (n : ℕ) → 10 ≤ n → n < 2 ^ 64 → decimal n ≡ decimal (n / 10) ++ (48 + n % 10) ∷ []
decimal-last n some fits =
    let behind : 0 < n / 10 = omega arith in
    rw (
      decimal-digits_of n (omega arith) fits,
      digits_of_step 10 n (omega arith) (omega arith),
      map-append,
      decimal-digits_of (n / 10) behind (omega arith),
    )

-- a number below ten
pub decimal-one : (n : ℕ) → n < 10 → decimal n ≡ (48 + n % 10) ∷ []
decimal-one n one = let same : n % 10 ≡ n = omega arith in rw (same, decimal_digit n one)
