-- Worked rows of `Tlv.antt` of `der_core`: encodings, their headers and their length octets.
use Rattle.std.proofs.Common.{ℕ, List, ◌∷◌, ◌++◌, ◌≡◌, ◌≤◌, length}
use Rattle.std.specs.Prelude.{◌↔◌, IsTrue}
use Rattle.der_core.specs.Length.{IsLength}
use Rattle.der_core.specs.Tag.{is_allowed}
use Rattle.der_core.specs.Tlv.{HeaderEncoding, LengthEncoding, Tlv}

encoding_parts : (tag : ℕ) (Contents : List ℕ → Type 0) (bytes : List ℕ) → Tlv tag Contents bytes
    ↔ ((octets contents : List ℕ) × IsLength (length contents) octets × Contents contents
    × (bytes ≡ tag ∷ octets ++ contents))
encoding_parts tag Contents bytes = (
  (λ p. (p.octets, p.contents, p.counted, p.holds, p.written)),
  (λ p. record { octets = p.0; contents = p.1; counted = p.2; holds = p.3; written = p.4 }),
)

length_within : (n : ℕ) (octets : List ℕ) → LengthEncoding n octets ↔ ((n ≤ 4294967295) × IsLength n octets)
length_within n octets = (λ p. p, λ p. p)

header_parts : (tag n : ℕ) (bytes : List ℕ) → HeaderEncoding (tag, n) bytes ↔ (IsTrue (is_allowed tag)
    × (octets : List ℕ) × ((n ≤ 4294967295) × IsLength n octets) × (bytes ≡ tag ∷ octets))
header_parts tag n bytes = (λ p. p, λ p. p)
