-- What contents are made of: OPTIONAL parts, lists of items, and rows of parts that may need memory.
use Rattle.std.specs.Prelude.{ℕ, List, [], ◌∷◌, ◌≡◌, Option, Some, None, ◌++◌, map, ◌⊎◌}
use Rattle.der_core.specs.Encodings.{IsExactly, SplitsInto, JoinsParts}
use Rattle.der_core.specs.Reading.{AllocatesAtFront, AllocatesBehind}

-- == An OPTIONAL part (X.680 25.10): nothing, or one encoding ==
abbrev pub Optional : {V : Type 0} → (V → List ℕ → Type 0) → Option V → List ℕ → Type 0
Optional Grammar None encoding = encoding ≡ []
Optional Grammar (Some v) encoding = Grammar v encoding

-- The octet is next.
abbrev pub IsNext : ℕ → List ℕ → Type 0
IsNext octet bytes = (rest : List ℕ) × (bytes ≡ octet ∷ rest)

-- What reading an OPTIONAL part by the octet of its tag gives: the part, and the bytes behind it; or none, exactly if
-- the octet isn't next.
abbrev pub OptionalRead : {V : Type 0} → ℕ → (V → List ℕ → Type 0) → List ℕ → Option V → List ℕ → Type 0
OptionalRead octet Grammar bytes None rest = (IsNext octet bytes → ⊥) × (rest ≡ bytes)
OptionalRead octet Grammar bytes (Some v) rest = SplitsInto (Grammar v) (IsExactly rest) bytes

-- == SEQUENCE OF (X.690 8.10): one encoding of each item, in order ==
-- The contents join one encoding of each item.
abbrev pub ItemsContents : {V : Type 0} → (V → List ℕ → Type 0) → List V → List ℕ → Type 0
ItemsContents Grammar vs contents = JoinsParts (map Grammar vs) contents

-- Every item has an encoding.
abbrev pub AllHave : {V : Type 0} → (V → Type 0) → List V → Type 0
AllHave has [] = Unit {0}
AllHave has (v ∷ vs) = has v × AllHave has vs

-- The encodings of the items, joined.
abbrev pub all_encodings : {V : Type 0} → (V → List ℕ) → List V → List ℕ
all_encodings encoding [] = []
all_encodings encoding (v ∷ vs) = encoding v ++ all_encodings encoding vs

-- == Rows of parts that may need memory: a first part, and what is behind it ==
-- The first part may need memory; or it is there, and what follows may.
abbrev pub AllocatesInParts : {A : Type 0} → (A → List ℕ → Type 0) → (List ℕ → Type 0) → (List ℕ → Type 0) → List ℕ
    → Type 0
AllocatesInParts First first rest c = AllocatesAtFront first c ⊎ AllocatesBehind First rest c

-- A row may need memory; or it is there, and what follows may.
abbrev pub AllocatesInRow : {A : Type 0} → (A → List ℕ → Type 0) → (List ℕ → Type 0) → (List ℕ → Type 0) → List ℕ
    → Type 0
AllocatesInRow Row asked later c = asked c ⊎ AllocatesBehind Row later c
