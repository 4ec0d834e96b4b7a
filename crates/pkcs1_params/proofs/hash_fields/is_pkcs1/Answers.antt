-- `is_pkcs1`: of nine octets, it compares the first eight and the last.
use Rattle.std.proofs.Common.{ℕ, List, [], ◌∷◌, ◌≡◌, ◌∙◌, ap, arith, length, refl, slice_index, bytes_eq}
use Rattle.spki_core.specs.Words.{upto}
use Rattle.pkcs1_params.specs.Words.{pkcs1_algorithm}
use Rattle.pkcs1_params.proofs.hash_fields.is_pkcs1.Goals as goal

-- A list is the list of what it has at each index.
octets_upto : (l : List ℕ) → l ≡ upto (length l) (slice_index l)
octets_upto [] = refl
octets_upto (x ∷ xs) = ap (λ ys. x ∷ ys) (octets_upto xs)

-- Where there are nine octets (the arm `in-len9`) and the first eight are those of PKCS #1: the last one decides.
pub returns-then-front : goal.returns-then-front
returns-then-front c =
    let octets = c.args.octets.now in
    let nine : length octets ≡ 9 = omega arith in
    let is = octets_upto octets ∙ ap (λ n. upto n (slice_index octets)) nine in
    grind (arith, ap (λ x. bytes_eq x (pkcs1_algorithm c.args.number)) is)
