-- The version of a private key, and how many other primes are listed. For `require_agreed`.
use Rattle.std.proofs.Common.{◌≡◌, ◌↔◌, ◌==◌, ◌∙◌, ℕ, List, refl, sym, Bool, true, false, IsTrue, if◌then◌else◌, Some, None, Err}
use Rattle.der_core.specs.declared.error.ErrorKind.TheVariants.{Value}
use Rattle.der_core.specs.Words.{ended, integer_tag, sequence_tag}
use Rattle.pkcs1.specs.declared.version.Version.{Version}
use Rattle.pkcs1.specs.declared.version.Version.TheVariants.{TwoPrime, Multi}
use Rattle.pkcs1.specs.Words.{others_agree, version_number}

-- The version, as whether there are other primes.
abbrev version_flag : Version → Bool
version_flag TwoPrime = false
version_flag Multi = true

version_flag_is : (multi : Bool) (v : Version) → IsTrue multi ↔ (v ≡ Multi) → multi ≡ version_flag v
version_flag_is true TwoPrime h = let no : TwoPrime ≡ Multi = h.0 refl in cc
version_flag_is false TwoPrime h = refl
version_flag_is true Multi h = refl
version_flag_is false Multi h = let no : false ≡ true = h.1 refl in cc

-- What the code asks of the version, where there is no list, and where there is one.
module _ (v : Version) {multi : Bool} (h : IsTrue multi ↔ (v ≡ Multi)) (rest : List ℕ) where
  pub multi_unlisted : multi ≡ true → others_agree (version_number v) None rest ≡ Err (Value integer_tag)
  multi_unlisted is = go v (sym (version_flag_is multi v h) ∙ is)
    where
      go : (v : Version) → version_flag v ≡ true → others_agree (version_number v) None rest ≡ Err (Value integer_tag)
      go TwoPrime e = cc
      go Multi e = refl

  module _ (n : ℕ) where
    pub two_listed : multi ≡ false → others_agree (version_number v) (Some n) rest ≡ Err (Value integer_tag)
    two_listed isnt = go v (sym (version_flag_is multi v h) ∙ isnt)
      where
        go : (v : Version) → version_flag v ≡ false
            → others_agree (version_number v) (Some n) rest ≡ Err (Value integer_tag)
        go TwoPrime e = refl
        go Multi e = cc

    multi_listed : multi ≡ true → others_agree (version_number v) (Some n) rest
        ≡ (if n == 0 then Err (Value sequence_tag) else ended tt rest)
    multi_listed is = go v (sym (version_flag_is multi v h) ∙ is)
      where
        go : (v : Version) → version_flag v ≡ true → others_agree (version_number v) (Some n) rest
            ≡ (if n == 0 then Err (Value sequence_tag) else ended tt rest)
        go TwoPrime e = cc
        go Multi e = refl

    pub empty_listed : multi ≡ true → n ≡ 0 → others_agree (version_number v) (Some n) rest ≡ Err (Value sequence_tag)
    empty_listed is none = multi_listed is ∙ rw none refl
