-- Encodings are byte lists. A grammar is a relation of values and encodings: it says which encodings a value has.
use Rattle.std.specs.Prelude.{ℕ, List, [], ◌∷◌, ◌++◌, ◌≡◌}
use Rattle.std.specs.Int.Digits.{AllBelowBase}

-- A byte is a number from 0 to 255.
abbrev pub AreBytes : List ℕ → Type 0
AreBytes encoding = AllBelowBase 256 encoding

-- The bytes are just these.
abbrev pub IsExactly : List ℕ → List ℕ → Type 0
IsExactly wanted encoding = encoding ≡ wanted

-- The bytes split into a front and a rest.
abbrev pub SplitsInto : (List ℕ → Type 0) → (List ℕ → Type 0) → List ℕ → Type 0
SplitsInto Front Rest encoding = (front : List ℕ) × (rest : List ℕ) × Front front × Rest rest
    × (encoding ≡ front ++ rest)

-- The bytes are an encoding of the value and then the rest.
abbrev pub InFront : {V : Type 0} → (V → List ℕ → Type 0) → V × List ℕ → List ℕ → Type 0
InFront Grammar split bytes = (encoding : List ℕ) × (bytes ≡ encoding ++ split.1) × Grammar split.0 encoding

-- The bytes join one encoding of each part, in order.
abbrev pub JoinsParts : List (List ℕ → Type 0) → List ℕ → Type 0
JoinsParts [] encoding = encoding ≡ []
JoinsParts (Part ∷ parts) encoding = SplitsInto Part (JoinsParts parts) encoding

-- At most one encoding.
abbrev pub HasAtMostOne : (List ℕ → Type 0) → Type 0
HasAtMostOne Encoding = (x y : List ℕ) → Encoding x → Encoding y → x ≡ y
