-- Worked rows of `Readings.antt` of `der_core`: what reading is made of, on single bytes; and what is said of functions.
use Rattle.std.proofs.Common.{ℕ, List, [], ◌∷◌, ◌++◌, ◌≡◌, ◌≤◌, length, map, refl, true, false, Ok, Err, Some, None}
use Rattle.std.specs.Prelude.{◌↔◌, nat_lt}
use Rattle.der_core.specs.Encodings.{AreBytes}
use Rattle.der_core.specs.Input.{header_at, length_at}
use Rattle.der_core.specs.Reading.{TellsOfBytes}
use Rattle.der_core.specs.Readings.{◌>>=◌, FrontReading, Reading, ReadsBy, ReadsContents, ReadsFronts, alone, any_contents, by_tag, chain, contents_behind, ended, expected, front_done, front_made, front_parts, in_range, is_next, items, last, made, no_parts, octets_of_all, optional_front, parts, ranged, read_document, such, tagged, unexpected, unless, whole}
use Rattle.der_core.specs.Tags.{integer_tag, null_tag}
use Rattle.der_core.specs.declared.error.ErrorKind.{ErrorKind}
use Rattle.der_core.specs.declared.error.ErrorKind.TheVariants.{Failed, Incomplete, TagUnexpected, TagUnknown, TrailingData, Value}

-- The first octet.
first_octet : FrontReading ℕ
first_octet [] = Err Incomplete
first_octet (x ∷ xs) = Ok (x, xs)

parts_in_order : map (parts first_octet (parts first_octet no_parts)) ((1 ∷ 2 ∷ []) ∷ (1 ∷ []) ∷ (1 ∷ 2 ∷ 3 ∷ []) ∷ [])
    ≡ Ok (1, (2, tt)) ∷ Err Incomplete ∷ Err TrailingData ∷ []
unfolding first_octet
parts_in_order = refl

front_parts_in_order : front_parts first_octet (front_parts first_octet front_done) (1 ∷ 2 ∷ 3 ∷ [])
    ≡ Ok ((1, (2, tt)), 3 ∷ [])
unfolding first_octet
front_parts_in_order = refl

chained : chain first_octet (λ n. ended n) (7 ∷ []) ≡ Ok 7
unfolding first_octet
chained = refl

last_parts : map (last first_octet) ([] ∷ (1 ∷ []) ∷ (1 ∷ 2 ∷ []) ∷ []) ≡ Ok None ∷ Ok (Some 1) ∷ Err TrailingData ∷ []
unfolding first_octet
last_parts = refl

alone_parts : map (alone first_octet) ([] ∷ (1 ∷ []) ∷ (1 ∷ 2 ∷ []) ∷ []) ≡ Err Incomplete ∷ Ok 1 ∷ Err TrailingData ∷ []
unfolding first_octet
alone_parts = refl

listed_items : map (items first_octet) ([] ∷ (3 ∷ 1 ∷ 2 ∷ []) ∷ []) ≡ Ok [] ∷ Ok (3 ∷ 1 ∷ 2 ∷ []) ∷ []
unfolding first_octet
listed_items = refl

made_of_another : (made (λ n. n ∷ []) (alone first_octet) (5 ∷ []) ≡ Ok (5 ∷ []))
    × (front_made (λ n. n ∷ []) first_octet (5 ∷ 6 ∷ []) ≡ Ok (5 ∷ [], 6 ∷ []))
unfolding first_octet
made_of_another = (refl, refl)

such_values : map (such (λ n. nat_lt n 3) Failed (alone first_octet)) ((2 ∷ []) ∷ (3 ∷ []) ∷ []) ≡ Ok 2 ∷ Err Failed ∷ []
unfolding first_octet
such_values = refl

unless_clash : (unless true Failed (alone first_octet) (1 ∷ []) ≡ Err Failed)
    × (unless false Failed (alone first_octet) (1 ∷ []) ≡ Ok 1)
unfolding first_octet
unless_clash = (refl, refl)

optional_parts : map (optional_front 5 first_octet) ([] ∷ (5 ∷ 6 ∷ []) ∷ (6 ∷ []) ∷ [])
    ≡ Ok (None, []) ∷ Ok (Some 5, 6 ∷ []) ∷ Ok (None, 6 ∷ []) ∷ []
unfolding first_octet
optional_parts = refl

fault_first : (e : ErrorKind) (f : ℕ → List ℕ) → (Err e >>= λ n. Ok (f n)) ≡ Err e
fault_first e f = refl

octets_next : map (is_next 5) ([] ∷ (5 ∷ 6 ∷ []) ∷ (6 ∷ 5 ∷ []) ∷ []) ≡ false ∷ true ∷ false ∷ []
octets_next = refl

tagged_contents : map (tagged integer_tag octets_of_all) ((2 ∷ 1 ∷ 7 ∷ 9 ∷ []) ∷ (2 ∷ 2 ∷ 7 ∷ []) ∷ (5 ∷ 0 ∷ []) ∷ [])
    ≡ Ok (7 ∷ [], 9 ∷ []) ∷ Err Incomplete ∷ Err (TagUnexpected integer_tag null_tag) ∷ []
unfolding length_at header_at
tagged_contents = refl

contents_after_header : contents_behind integer_tag ((2, 1), 7 ∷ []) ≡ Ok (7 ∷ [], [])
contents_after_header = refl

unexpected_tags : (unexpected {V = ℕ} integer_tag 5 ≡ Err (TagUnexpected integer_tag null_tag))
    × (unexpected {V = ℕ} integer_tag 31 ≡ Err (TagUnknown 31))
unexpected_tags = (refl, refl)

contents_by_tag : by_tag (λ t contents. Ok (t ∷ contents)) (5 ∷ 1 ∷ 7 ∷ 9 ∷ []) ≡ Ok (5 ∷ 7 ∷ [], 9 ∷ [])
unfolding length_at header_at
contents_by_tag = refl

whole_slices : map (whole first_octet) ((1 ∷ []) ∷ (1 ∷ 2 ∷ []) ∷ []) ≡ Ok 1 ∷ Err TrailingData ∷ []
unfolding first_octet
whole_slices = refl

documents : map read_document ((48 ∷ 0 ∷ []) ∷ (48 ∷ 0 ∷ 0 ∷ []) ∷ (48 ∷ 1 ∷ []) ∷ [])
    ≡ Ok tt ∷ Err TrailingData ∷ Err Incomplete ∷ []
unfolding length_at header_at
documents = refl

numbers_in_range : map (in_range 2 3) (1 ∷ 2 ∷ 3 ∷ 4 ∷ []) ≡ false ∷ true ∷ true ∷ false ∷ []
numbers_in_range = refl

ranged_numbers : map (ranged 2 3) ((1 ∷ []) ∷ (2 ∷ []) ∷ (3 ∷ []) ∷ (4 ∷ []) ∷ [])
    ≡ Err (Value integer_tag) ∷ Ok 2 ∷ Ok 3 ∷ Err (Value integer_tag) ∷ []
ranged_numbers = refl

expected_numbers : map (expected 1) ((0 ∷ []) ∷ (1 ∷ []) ∷ (2 ∷ []) ∷ [])
    ≡ Err (Value integer_tag) ∷ Ok tt ∷ Err (Value integer_tag) ∷ []
expected_numbers = refl

any_contents_read : (contents : List ℕ) → (any_contents contents ≡ Ok tt) × (octets_of_all contents ≡ Ok contents)
any_contents_read contents = (refl, refl)

-- == What is said of a function that reads ==
module _ {V : Type 0} (Encoding : V → List ℕ → Type 0) where
  contents_read : (read : Reading V) → ReadsContents Encoding read
      ↔ (((c : List ℕ) (v : V) → AreBytes c → read c ≡ Ok v → Encoding v c)
      × ((c : List ℕ) (v : V) → length c ≤ 4294967295 → Encoding v c → read c ≡ Ok v)
      × ((c : List ℕ) (k : ErrorKind) → read c ≡ Err k → TellsOfBytes k))
  contents_read read =
      ((λ p. (p.gives, p.takes, p.tells)), (λ p. record { gives = p.0; takes = p.1; tells = p.2 }))

  read_by : (Read : List ℕ → V → List ℕ → Type 0) (at : FrontReading V) → ReadsBy Read at
      ↔ (((i rest : List ℕ) (v : V) → AreBytes i → at i ≡ Ok (v, rest) → Read i v rest)
      × ((i rest : List ℕ) (v : V) → length i ≤ 4294967295 → Read i v rest → at i ≡ Ok (v, rest))
      × ((i : List ℕ) (k : ErrorKind) → at i ≡ Err k → TellsOfBytes k))
  read_by Read at = ((λ p. (p.gives, p.takes, p.tells)), (λ p. record { gives = p.0; takes = p.1; tells = p.2 }))

  fronts_read : (at : FrontReading V) → ReadsFronts Encoding at
      ↔ (((i rest : List ℕ) (v : V) → AreBytes i → at i ≡ Ok (v, rest)
      → (b : List ℕ) × (i ≡ b ++ rest) × Encoding v b)
      × ((i b rest : List ℕ) (v : V) → length i ≤ 4294967295 → i ≡ b ++ rest → Encoding v b → at i ≡ Ok (v, rest))
      × ((i : List ℕ) (k : ErrorKind) → at i ≡ Err k → TellsOfBytes k))
  fronts_read at = ((λ p. (p.gives, p.takes, p.tells)), (λ p. record { gives = p.0; takes = p.1; tells = p.2 }))
