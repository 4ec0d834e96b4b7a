-- What a verifier asks of RSASSA-PSS parameters.
use Rattle.std.specs.Prelude.{ℕ, List, ◌≡◌, ◌⊎◌, Option, Some, None}
use Rattle.pkcs1_params.specs.Words.{UsesHash, hash_algorithm}
use Rattle.standard.specs.Statement.{PssParameters}

-- The hash function is SHA-256, and the mask generation function is MGF1 with SHA-256.
abbrev pub UsesSha256 : PssParameters → Type 0
UsesSha256 params = UsesHash (hash_algorithm 1) params.hash params.mask_gen

-- Parameters that use SHA-256 give their salt length, others nothing.
abbrev pub GivesSalt : PssParameters → Option ℕ → Type 0
GivesSalt params (Some salt_len) = UsesSha256 params × (salt_len ≡ params.salt_len)
GivesSalt params None = UsesSha256 params → ⊥

-- A hash function, in MGF1 too, and a salt of this length.
abbrev pub IsLike : List ℕ → ℕ → PssParameters → Type 0
IsLike oid salt_len params = UsesHash oid params.hash params.mask_gen × (params.salt_len ≡ salt_len)

-- SHA-256 or SHA-384, the same in MGF1, and a salt as long as the digest.
abbrev pub IsAccepted : PssParameters → Type 0
IsAccepted params = IsLike (hash_algorithm 1) 32 params ⊎ IsLike (hash_algorithm 2) 48 params
