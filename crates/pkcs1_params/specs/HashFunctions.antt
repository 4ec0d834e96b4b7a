-- The hash functions of RFC 8017 B.1, which of them parameters use, and which parameters mean the same.
use Rattle.std.specs.Prelude.{ℕ, List, [], ◌∷◌, ◌≡◌, IsSomeAnd, MatchOption, None}
use Rattle.spki_core.specs.Words.{Algorithm, AreSameHash, TagAndContents, IsHash}
use Rattle.pkcs1_params.specs.Parameters.{OaepParameters, PssParameters, id_mgf1}

-- The contents of identifiers, { nistalgorithm hashalgs(2) n } (RFC 8017 appendix C). That of SHA-1 is a default's.
abbrev pub hash_algorithm : ℕ → List ℕ
hash_algorithm n = 0x60 ∷ 0x86 ∷ 0x48 ∷ 0x01 ∷ 0x65 ∷ 0x03 ∷ 0x04 ∷ 0x02 ∷ n ∷ []

-- hashAlgorithm is the hash function with this identifier, and maskGenAlgorithm is MGF1 with the same (RFC 8017 B.2.1).
abbrev pub UsesHash : List ℕ → Algorithm TagAndContents → Algorithm (Algorithm TagAndContents) → Type 0
UsesHash oid hash mask_gen =
    IsHash oid hash × (mask_gen.oid ≡ id_mgf1) × IsSomeAnd mask_gen.parameters (IsHash oid)

-- Mask generation functions that mean the same: the identifiers are equal, and the hash functions mean the same, or both
-- have none.
abbrev pub AreSameMask : Algorithm (Algorithm TagAndContents) → Algorithm (Algorithm TagAndContents) → Type 0
AreSameMask a b =
    (a.oid ≡ b.oid)
    × MatchOption a.parameters (b.parameters ≡ None) (λ hash. IsSomeAnd b.parameters (AreSameHash hash))

-- Parameters that mean the same, though a hash function may have NULL in one and no parameters in the other
-- (RFC 4055 2.1).
abbrev pub AreSamePss : PssParameters → PssParameters → Type 0
AreSamePss p q =
    AreSameHash p.hash q.hash × AreSameMask p.mask_gen q.mask_gen × (p.salt_len ≡ q.salt_len)
    × (p.trailer_field ≡ q.trailer_field)

abbrev pub AreSameOaep : OaepParameters → OaepParameters → Type 0
AreSameOaep p q = AreSameHash p.hash q.hash × AreSameMask p.mask_gen q.mask_gen × (p.p_source ≡ q.p_source)
