-- Length octets: which they are, worked rows, and how lengths and headers are read. For `src/length.rt` and
-- `src/header.rt`.
use Rattle.std.proofs.Common.{◌/◌, ◌%◌, ℕ, [], ◌∷◌, ◌≡◌, ◌<◌, ◌≤◌, refl, sym, arith, List, map, Ok, Err, ◌++◌, inr, ap, ◌∙◌, Result, Some, None}
use Rattle.der_core.specs.Words.{IsLength, long, length_octets, length_octets-only, length_octets-short, length_at, ErrorKind, AreBytes, LengthEncoding, HeaderEncoding, ReadsEncoding, TellsOfBytes, Error, Input, left_in, ReadsOrFails, header_at, length_at-sound, length_at-complete, header_at-complete, length_at-tells, header_at-tells, header_sound}
use Rattle.der_core.specs.declared.error.ErrorKind.TheVariants.{Incomplete, IndefiniteLength, Overflow, Overlength}

-- The length octets of the lengths below 2 ^ 32.
length_1 : (n : ℕ) → 128 ≤ n → n < 256 → IsLength n (129 ∷ n ∷ [])
length_1 n h l =
    long (n ∷ []) h (omega arith) (record { bytes = (l, tt); value = omega arith; no_leading_zero = omega arith }) refl

length_2 : (n : ℕ) → 256 ≤ n → n < 65536 → IsLength n (130 ∷ (n / 256) ∷ (n % 256) ∷ [])
length_2 n h l =
    long ((n / 256) ∷ (n % 256) ∷ []) (omega arith) (omega arith)
    (record { bytes = (omega arith, (omega arith, tt)); value = omega arith; no_leading_zero = omega arith }) refl

length_3 : (n : ℕ) → 65536 ≤ n → n < 16777216 → IsLength n (131 ∷ (n / 65536) ∷ (n / 256 % 256) ∷ (n % 256) ∷ [])
length_3 n h l =
    long ((n / 65536) ∷ (n / 256 % 256) ∷ (n % 256) ∷ []) (omega arith) (omega arith)
    (record {
      bytes = (omega arith, (omega arith, (omega arith, tt)));
      value = omega arith;
      no_leading_zero = omega arith;
    }) refl

length_4 : (n : ℕ) → 16777216 ≤ n → n < 4294967296
    → IsLength n (132 ∷ (n / 16777216) ∷ (n / 65536 % 256) ∷ (n / 256 % 256) ∷ (n % 256) ∷ [])
length_4 n h l =
    long ((n / 16777216) ∷ (n / 65536 % 256) ∷ (n / 256 % 256) ∷ (n % 256) ∷ []) (omega arith) (omega arith)
    (record {
      bytes = (omega arith, (omega arith, (omega arith, (omega arith, tt))));
      value = omega arith;
      no_leading_zero = omega arith;
    }) refl

-- So these are what `length_octets` gives.
pub length_octets-1 : (n : ℕ) → 128 ≤ n → n < 256 → length_octets n ≡ 129 ∷ n ∷ []
length_octets-1 n h l = sym (length_octets-only n (129 ∷ n ∷ []) (length_1 n h l))

pub length_octets-2 : (n : ℕ) → 256 ≤ n → n < 65536 → length_octets n ≡ 130 ∷ (n / 256) ∷ (n % 256) ∷ []
length_octets-2 n h l = sym (length_octets-only n (130 ∷ (n / 256) ∷ (n % 256) ∷ []) (length_2 n h l))

pub length_octets-3 : (n : ℕ) → 65536 ≤ n → n < 16777216
    → length_octets n ≡ 131 ∷ (n / 65536) ∷ (n / 256 % 256) ∷ (n % 256) ∷ []
length_octets-3 n h l =
    sym (length_octets-only n (131 ∷ (n / 65536) ∷ (n / 256 % 256) ∷ (n % 256) ∷ []) (length_3 n h l))

pub length_octets-4 : (n : ℕ) → 16777216 ≤ n → n < 4294967296
    → length_octets n ≡ 132 ∷ (n / 16777216) ∷ (n / 65536 % 256) ∷ (n / 256 % 256) ∷ (n % 256) ∷ []
length_octets-4 n h l =
    sym (length_octets-only n (132 ∷ (n / 16777216) ∷ (n / 65536 % 256) ∷ (n / 256 % 256) ∷ (n % 256) ∷ [])
    (length_4 n h l))

-- What is known of the length octets of numbers below 2 ^ 32.
pub ruleset known_lengths = (length_octets-short, length_octets-1, length_octets-2, length_octets-3, length_octets-4)

-- == Worked rows: length octets, with the length and the octets behind it, or the kind of the fault ==

-- 7f, 8180, 81ff, 820100, 82ffff, 83010000, 8401000000, 840fffffff, 84ffffffff
abbrev length_rows : List (List ℕ × ℕ)
length_rows =
    (0x7f ∷ [], 127)
    ∷ (0x81 ∷ 0x80 ∷ [], 128)
    ∷ (0x81 ∷ 0xff ∷ [], 255)
    ∷ (0x82 ∷ 0x01 ∷ 0x00 ∷ [], 256)
    ∷ (0x82 ∷ 0xff ∷ 0xff ∷ [], 65535)
    ∷ (0x83 ∷ 0x01 ∷ 0x00 ∷ 0x00 ∷ [], 65536)
    ∷ (0x84 ∷ 0x01 ∷ 0x00 ∷ 0x00 ∷ 0x00 ∷ [], 16777216)
    ∷ (0x84 ∷ 0x0f ∷ 0xff ∷ 0xff ∷ 0xff ∷ [], 268435455)
    ∷ (0x84 ∷ 0xff ∷ 0xff ∷ 0xff ∷ 0xff ∷ [], 4294967295)
    ∷ []

length_rows_read : map (λ row. length_at row.0) length_rows
    ≡ map (λ row. let p : ℕ × List ℕ = (row.1, []) in Ok p) length_rows
unfolding length_at
length_rows_read = refl

-- 817f, 8100, 820080: a shorter form would do. 80: indefinite. 8201, and no octets: some are missing. 8501, ff: more
-- octets than lengths within the limit have.
abbrev length_faults : List (List ℕ × ErrorKind)
length_faults =
    (0x81 ∷ 0x7f ∷ [], Overlength)
    ∷ (0x81 ∷ 0x00 ∷ [], Overlength)
    ∷ (0x82 ∷ 0x00 ∷ 0x80 ∷ [], Overlength)
    ∷ (0x80 ∷ [], IndefiniteLength)
    ∷ (0x82 ∷ 0x01 ∷ [], Incomplete)
    ∷ ([], Incomplete)
    ∷ (0x85 ∷ 0x01 ∷ [], Overflow)
    ∷ (0xff ∷ [], Overflow)
    ∷ []

length_faults_read : map (λ row. length_at row.0) length_faults ≡ map (λ row. Err row.1) length_faults
unfolding length_at
length_faults_read = refl

-- == The functions that read lengths and headers read their grammars, and nothing else ==

-- If f reads exactly the encodings, then a call that returns what f reads is one that ReadsEncoding describes.
module _ {Y : Type 0} (f : List ℕ → Result (Y × List ℕ) ErrorKind) (encoding : Y → List ℕ → Type 0)
    (sound : (i rest : List ℕ) (y : Y) → AreBytes i → f i ≡ Ok (y, rest)
    → (b : List ℕ) × (i ≡ b ++ rest) × encoding y b)
    (complete : (y : Y) (b rest : List ℕ) → encoding y b → f (b ++ rest) ≡ Ok (y, rest))
    (tells : (i : List ℕ) (k : ErrorKind) → f i ≡ Err k → TellsOfBytes k) where
  pub exact_reads : {X : Type 0} (view : X → Y) (r : Result X Error) (before after : Input) → AreBytes (left_in before)
      → ReadsOrFails view r before after f → ReadsEncoding view encoding (λ _. ⊥) r before after
  exact_reads view (Ok x) None after bytes h = cc
  exact_reads view (Ok x) (Some i) after bytes h =
      let p = sound i h.0 (view x) bytes h.1 in
      (p.0, h.0, ap (λ l. Some l) p.1, h.2, p.2)
  exact_reads view (Err e) None after bytes h = let kind = h.0 in (h.1, λ _. cc, λ i is. cc)
  exact_reads view (Err e) (Some i) after bytes h = (
    h.1,
    λ none. cc,
    λ j is.
        let same : i ≡ j = cc in
        inr (
          tells i e.kind h.0,
          λ y b rest split t.
              let found : f i ≡ Ok (y, rest) = ap f (same ∙ split) ∙ complete y b rest t in
              cc,
        ),
  )

length_sound : (i rest : List ℕ) (n : ℕ) → AreBytes i → length_at i ≡ Ok (n, rest)
    → (b : List ℕ) × (i ≡ b ++ rest) × LengthEncoding n b
length_sound i rest n bytes e = let p = length_at-sound i rest n bytes e in (p.0, p.2, (p.3, p.1))

-- A call that returns a length.
pub length_reads : {X : Type 0} (view : X → ℕ) (r : Result X Error) (before after : Input) → AreBytes (left_in before)
    → ReadsOrFails view r before after length_at → ReadsEncoding view LengthEncoding (λ _. ⊥) r before after
length_reads =
    exact_reads length_at LengthEncoding length_sound (λ n b rest t. length_at-complete n b rest t.1 t.0)
    length_at-tells

pub header_complete : (h : ℕ × ℕ) (b rest : List ℕ) → HeaderEncoding h b → header_at (b ++ rest) ≡ Ok (h, rest)
header_complete h b rest t = rw t.3 (header_at-complete h.0 h.1 t.1 rest t.0 t.2.1 t.2.0)

-- A call that returns a header.
pub header_reads : {X : Type 0} (view : X → ℕ × ℕ) (r : Result X Error) (before after : Input)
    → AreBytes (left_in before) → ReadsOrFails view r before after header_at
    → ReadsEncoding view HeaderEncoding (λ _. ⊥) r before after
header_reads = exact_reads header_at HeaderEncoding header_sound header_complete header_at-tells
