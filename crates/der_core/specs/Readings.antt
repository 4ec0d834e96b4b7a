-- Reading as a function of the bytes, in the order of reading: the value, or the kind of the first fault from the left.
--
-- Contents are read to their end, encodings from the front of bytes: so these give the bytes behind them too.
use Rattle.std.specs.Prelude.{◌≡◌, ◌==◌, ◌≤◌, ◌++◌, ◌&&◌, ℕ, zero, suc, Bool, true, false, List, [], ◌∷◌, Option, Some, None, Result, Ok, Err, if◌then◌else◌, nat_le, nat_lt, length, take, drop}
use Rattle.der_core.specs.declared.error.ErrorKind.{ErrorKind}
use Rattle.der_core.specs.declared.error.ErrorKind.TheVariants.{Incomplete, Overflow, TagUnexpected, TagUnknown, TrailingData, Value}
use Rattle.der_core.specs.declared.tag.Tag.{Tag}
use Rattle.der_core.specs.Encodings.{AreBytes}
use Rattle.der_core.specs.Input.{header_at, front_of}
use Rattle.der_core.specs.IntegerReading.{small_of}
use Rattle.der_core.specs.Length.{limit}
use Rattle.der_core.specs.Reading.{TellsOfBytes}
use Rattle.der_core.specs.Tag.{is_allowed}
use Rattle.der_core.specs.Tags.{integer_tag, sequence_tag}

-- What reads all of some contents, and what reads from the front.
abbrev pub Reading : Type 0 → Type 0
Reading V = List ℕ → Result V ErrorKind

abbrev pub FrontReading : Type 0 → Type 0
FrontReading V = List ℕ → Result (V × List ℕ) ErrorKind

infixl 10 ◌>>=◌
abbrev pub ◌>>=◌ : {A B : Type 0} → Result A ErrorKind → (A → Result B ErrorKind) → Result B ErrorKind
Ok x >>= f = f x
Err k >>= f = Err k

-- One part, and then what depends on its value.
abbrev pub chain : {A B : Type 0} → FrontReading A → (A → Reading B) → Reading B
chain at behind bytes = at bytes >>= λ p. behind p.0 p.1

-- The value, if nothing follows.
abbrev pub ended : {V : Type 0} → V → Reading V
ended v [] = Ok v
ended v (x ∷ xs) = Err TrailingData

-- The value that is made of another.
abbrev pub made : {A B : Type 0} → (A → B) → Reading A → Reading B
made make read bytes = read bytes >>= λ a. Ok (make a)

-- A value that passes a test.
abbrev pub such : {V : Type 0} → (V → Bool) → ErrorKind → Reading V → Reading V
such test failure read bytes = read bytes >>= λ v. if test v then Ok v else Err failure

-- A row of parts: a first part and what follows; nothing; a last part that is there or not.
abbrev pub parts : {A B : Type 0} → FrontReading A → Reading B → Reading (A × B)
parts at rest = chain at (λ a. made (λ b. (a, b)) rest)

abbrev pub no_parts : Reading (Unit {0})
no_parts = ended tt

abbrev pub alone : {V : Type 0} → FrontReading V → Reading V
alone at = chain at ended

abbrev pub last : {V : Type 0} → FrontReading V → Reading (Option V)
last at [] = Ok None
last at (x ∷ xs) = made Some (alone at) (x ∷ xs)

-- The items of a list, up to the end. Each takes some bytes, so there are no more than bytes.
abbrev pub items_within : {V : Type 0} → ℕ → FrontReading V → Reading (List V)
items_within n at [] = Ok []
items_within zero at (x ∷ xs) = Err TrailingData
items_within (suc n) at (x ∷ xs) = chain at (λ v. made (λ vs. v ∷ vs) (items_within n at)) (x ∷ xs)

abbrev pub items : {V : Type 0} → FrontReading V → Reading (List V)
items at bytes = items_within (length bytes) at bytes

-- A row of parts at the front: a first part and what follows; nothing; a value that is made of it.
abbrev pub front_parts : {A B : Type 0} → FrontReading A → FrontReading B → FrontReading (A × B)
front_parts at rest bytes = at bytes >>= λ p. rest p.1 >>= λ q. Ok ((p.0, q.0), q.1)

abbrev pub front_done : FrontReading (Unit {0})
front_done bytes = Ok (tt, bytes)

abbrev pub front_made : {A B : Type 0} → (A → B) → FrontReading A → FrontReading B
front_made make at bytes = at bytes >>= λ p. Ok (make p.0, p.1)

-- A kind of error holds a tag that is allowed, with the proof.
abbrev pub checked : {X : Type 0} (b : Bool) → (b ≡ true → X) → X → X
checked true f x = f (λ i. true)
checked false f x = x

-- Another tag than the expected one.
abbrev pub unexpected : {V : Type 0} → Tag → ℕ → Result V ErrorKind
unexpected tag octet =
    checked (is_allowed octet) (λ ok. Err (TagUnexpected tag (record { octet = octet; allowed = ok })))
    (Err (TagUnknown octet))

-- The contents behind a header, and the rest.
abbrev pub contents_behind : Tag → (ℕ × ℕ) × List ℕ → Result (List ℕ × List ℕ) ErrorKind
contents_behind tag h =
    if h.0.0 == tag.octet
    then (if nat_lt (length h.1) h.0.1 then Err Incomplete else Ok (take h.0.1 h.1, drop h.0.1 h.1))
    else unexpected tag h.0.0

abbrev pub inside : {V : Type 0} → Reading V → List ℕ × List ℕ → Result (V × List ℕ) ErrorKind
inside read p = read p.0 >>= λ v. Ok (v, p.1)

-- The encoding with this tag: tag, length, contents.
abbrev pub tagged : {V : Type 0} → Tag → Reading V → FrontReading V
tagged tag read bytes = header_at bytes >>= λ h. contents_behind tag h >>= inside read

-- An encoding of any tag, whose contents are read by the tag's octet.
abbrev pub by_tag : {V : Type 0} → (ℕ → Reading V) → FrontReading V
by_tag read bytes = header_at bytes >>= λ h. front_of h.0.1 h.1 >>= inside (read h.0.0)

abbrev pub is_next : ℕ → List ℕ → Bool
is_next octet [] = false
is_next octet (x ∷ xs) = x == octet

-- A part that is there if the octet of its tag is next.
abbrev pub optional_front : {V : Type 0} → ℕ → FrontReading V → FrontReading (Option V)
optional_front octet at bytes = if is_next octet bytes then (at bytes >>= λ p. Ok (Some p.0, p.1)) else Ok (None, bytes)

-- A slice that isn't longer than the limit, and a whole one.
abbrev pub limited : {V : Type 0} → Reading V → Reading V
limited read bytes = if nat_lt limit (length bytes) then Err Overflow else read bytes

abbrev pub whole : {V : Type 0} → FrontReading V → Reading V
whole at = limited (alone at)

-- One number from 0 to 255.
abbrev pub expected : ℕ → Reading (Unit {0})
expected n = made (λ (_ : ℕ). tt) (such (λ v. v == n) (Value integer_tag) small_of)

-- One number in a range.
abbrev pub in_range : ℕ → ℕ → ℕ → Bool
in_range least most n = nat_le least n && nat_le n most

abbrev pub ranged : ℕ → ℕ → Reading ℕ
ranged least most = such (in_range least most) (Value integer_tag) small_of

-- Contents that aren't read where their tags can't be told apart.
abbrev pub unless : {V : Type 0} → Bool → ErrorKind → Reading V → Reading V
unless clash failure read bytes = if clash then Err failure else read bytes

-- Contents without restrictions, such as those of an OCTET STRING.
abbrev pub octets_of_all : Reading (List ℕ)
octets_of_all contents = Ok contents

abbrev pub any_contents : Reading (Unit {0})
any_contents contents = Ok tt

-- A whole slice that has to be one SEQUENCE, whatever its contents are.
abbrev pub read_document : Reading (Unit {0})
read_document = whole (tagged sequence_tag any_contents)

-- The function reads the contents of the grammar, and no others; its faults are about the bytes.
pub record ReadsContents {V : Type 0} (contents : V → List ℕ → Type 0) (read : Reading V) : Type 0 where
  pub gives : (c : List ℕ) (v : V) → AreBytes c → read c ≡ Ok v → contents v c
  pub takes : (c : List ℕ) (v : V) → length c ≤ limit → contents v c → read c ≡ Ok v
  pub tells : (c : List ℕ) (k : ErrorKind) → read c ≡ Err k → TellsOfBytes k

-- The function gives what the relation says of the bytes, of the value and of what is left behind it, and nothing else.
pub record ReadsBy {V : Type 0} (Read : List ℕ → V → List ℕ → Type 0) (at : FrontReading V) : Type 0 where
  pub gives : (i rest : List ℕ) (v : V) → AreBytes i → at i ≡ Ok (v, rest) → Read i v rest
  pub takes : (i rest : List ℕ) (v : V) → length i ≤ limit → Read i v rest → at i ≡ Ok (v, rest)
  pub tells : (i : List ℕ) (k : ErrorKind) → at i ≡ Err k → TellsOfBytes k

-- The same of encodings at the front.
pub record ReadsFronts {V : Type 0} (encoding : V → List ℕ → Type 0) (at : FrontReading V) : Type 0 where
  pub gives : (i rest : List ℕ) (v : V) → AreBytes i → at i ≡ Ok (v, rest)
      → (b : List ℕ) × (i ≡ b ++ rest) × encoding v b
  pub takes : (i b rest : List ℕ) (v : V) → length i ≤ limit → i ≡ b ++ rest → encoding v b → at i ≡ Ok (v, rest)
  pub tells : (i : List ℕ) (k : ErrorKind) → at i ≡ Err k → TellsOfBytes k
