-- Worked rows of `Versions.antt` of `pkcs1`: the version of a private key.
use Rattle.std.proofs.Common.{ℕ, [], ◌∷◌, ◌≡◌, ◌<◌, map, refl, Ok, Err}
use Rattle.std.specs.Prelude.{◌↔◌}
use Rattle.pkcs1.specs.Versions.{IsVersionOf, version_number}
use Rattle.pkcs1.specs.declared.version.Version.{Version}
use Rattle.pkcs1.specs.declared.version.Version.TheVariants.{Multi, TwoPrime}
use Rattle.pkcs1_params.specs.declared.error.Error.{Error}
use Rattle.pkcs1_params.specs.declared.error.Error.TheVariants as error

both_versions : map version_number (TwoPrime ∷ Multi ∷ []) ≡ 0 ∷ 1 ∷ []
both_versions = refl

version_of_number : (n : ℕ) (v : Version) (e : Error) → (IsVersionOf n (Ok v) ↔ (version_number v ≡ n))
    × (IsVersionOf n (Err e) ↔ ((e ≡ error.Version) × (1 < n)))
version_of_number n v e = ((λ p. p, λ p. p), (λ p. p, λ p. p))
