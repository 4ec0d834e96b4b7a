-- Spellings of fields with defaults: how they are read, what they mean, which is the shortest, what stands under a
-- mask.
use Rattle.std.proofs.Common.{ℕ, List, [], ◌∷◌, ◌++◌, ◌≡◌, ◌<◌, ◌+◌, refl, sym, ap, ◌∙◌, arith, false, inl, inr, Some, None, ◌⊎◌, length, true, Bool, length-append, ◌/◌, if◌then◌else◌, Result, Ok, Err}
use Rattle.std.proofs.lemmas.Bool.{cases_Bool}
use Rattle.der_core.specs.Words.{nat_tests, optional_row_law, alone_law, end_law, tagged_law, ReadsPrinted, is_next, WritesShortest, ReadsAlike, ReadsFrontAlike, reading_alike, alone, made, ok_meant_front, no_parts, optional_front, ok_paired, row_alike, tagged, ◌>>=◌}
use Rattle.spki_core.specs.FieldSpellings.{AreLawful, AreSpelled, AreValid, Kind, Spelling, Values, fields_of, spelling_means, field_printed, spelling_printed, spelling_read, tag_of, spelling_under, number_of_defaults, defaults_in, fields_with, octets_under, or_default, values_read}
use Rattle.standard.specs.Statement.{Fields}
use Rattle.spki_core.specs.Laws.FieldSpellings.Masks.{by_field, under_means, under_valid}
use Rattle.der_core.specs.declared.error.ErrorKind.{ErrorKind}
use Rattle.der_core.specs.Laws.Printed.Items.{bind_associative, ok_present}
use Rattle.spki_core.specs.Laws.Readings.{explicit_is}
use Rattle.spki_core.specs.Readings.{defaulted, explicit}

pub spelled_not_next : (ks : List Kind) (n m : ℕ) → m < n → AreLawful n ks → (s : Spelling ks)
    → is_next (160 + m) (spelling_printed ks s) ≡ false
spelled_not_next [] n m less law s = refl
spelled_not_next (k ∷ ks) n m less law (None, s) =
    spelled_not_next ks (k.number + 1) m (omega arith) law.4 s
spelled_not_next (k ∷ ks) n m less law (Some v, s) =
    grind (arith, nat_tests)

pub spellings_law : (ks : List Kind) (n : ℕ) → AreLawful n ks
    → ReadsPrinted (AreSpelled ks) (spelling_printed ks) (spelling_read ks)
spellings_law [] n law = end_law
spellings_law (k ∷ ks) n law =
    optional_row_law (tagged_law (alone_law law.1) (tag_of k)) (spellings_law ks (k.number + 1) law.4)
    (160 + k.number) (λ v x. grind arith)
    (λ w ok. spelled_not_next ks (k.number + 1) k.number (omega arith) law.4 w)

-- Spellings are what the standard calls fields.
pub spelled_fields : (ks : List Kind) (s : Spelling ks)
    → Fields (fields_of ks (spelling_means ks s)) (spelling_printed ks s)
spelled_fields [] s = refl
spelled_fields (k ∷ ks) (None, s) = inl (refl, spelled_fields ks s)
spelled_fields (k ∷ ks) (Some v, s) = inr (spelling_printed ks s, refl, spelled_fields ks s)

pub spelled_valid : (ks : List Kind) (n : ℕ) → AreLawful n ks → (s : Spelling ks) → AreSpelled ks s
    → AreValid ks (spelling_means ks s)
spelled_valid [] n law s ok = tt
spelled_valid (k ∷ ks) n law (None, s) ok = (law.3, spelled_valid ks (k.number + 1) law.4 s ok.1)
spelled_valid (k ∷ ks) n law (Some v, s) ok = (ok.0, spelled_valid ks (k.number + 1) law.4 s ok.1)

pub fields_spelled : (ks : List Kind) (v : Values ks) (c : List ℕ) → Fields (fields_of ks v) c
    → (s : Spelling ks) × (spelling_means ks s ≡ v) × (c ≡ spelling_printed ks s) × (AreValid ks v → AreSpelled ks s)
fields_spelled [] v c p = (tt, refl, p, λ ok. tt)
fields_spelled (k ∷ ks) (x, v) c (inl (d, p)) =
    let (s, e, is, ok) = fields_spelled ks v c p in
    ((None, s), (λ i. (sym d i, e i)), is, λ valid. (tt, ok valid.1))
fields_spelled (k ∷ ks) (x, v) c (inr (later, is, p)) =
    let (s, e, same, ok) = fields_spelled ks v later p in
    ((Some x, s), (λ i. (x, e i)), is ∙ ap (λ z. field_printed k x ++ z) same, λ valid. (valid.0, ok valid.1))

-- == The shortest spelling of fields with defaults leaves each default out ==

-- Any spelling of the value is the one under mask 0, or longer.
pub shortest_first : (ks : List Kind) (n : ℕ) → AreLawful n ks → (s : Spelling ks)
    → (s ≡ spelling_under ks 0 (spelling_means ks s))
    ⊎ (length (spelling_printed ks (spelling_under ks 0 (spelling_means ks s))) < length (spelling_printed ks s))
shortest_first [] n law s = inl refl
shortest_first (k ∷ ks) n law (None, s) =
    let is : k.is_default k.default ≡ true = (law.2 k.default).1 refl in
    rw is (elim (shortest_first ks (k.number + 1) law.4 s) [
      | inl e ↦ inl (λ i. (None, e i))
      | inr l ↦ inr l
    ])
shortest_first (k ∷ ks) n law (Some x, s) =
    let front = length-append (field_printed k x) in
    elim (cases_Bool (k.is_default x)) [
      | inl is ↦ rw is (inr (elim (shortest_first ks (k.number + 1) law.4 s) [
        | inl e ↦ omega (arith, ap (λ z. length (spelling_printed ks z)) e, front (spelling_printed ks s))
        | inr l ↦ omega (arith, front (spelling_printed ks s))
      ]))
      | inr isnt ↦ rw isnt (elim (shortest_first ks (k.number + 1) law.4 s) [
        | inl e ↦ inl (λ i. (Some x, e i))
        | inr l ↦ inr (omega (arith, front (spelling_printed ks s)))
      ])
    ]

pub fields_shortest : (ks : List Kind) → AreLawful 0 ks
    → WritesShortest (AreSpelled ks) (spelling_printed ks) (spelling_means ks) (spelling_under ks 0)
fields_shortest ks law = record {
  back = under_means ks 0 law 0;
  valid = λ s ok. under_valid ks 0 (spelling_means ks s) (spelled_valid ks 0 law s ok);
  least = λ s ok few. shortest_first ks 0 law s;
}

-- Fields as they are written, whatever their kinds are: what stands under a mask, and how many have their defaults.
pub octets_spelled : (ks : List Kind) (mask : ℕ) (v : Values ks)
    → octets_under mask (fields_with ks v) ≡ spelling_printed ks (spelling_under ks mask v)
octets_spelled [] mask v = refl
octets_spelled (k ∷ ks) mask (x, v) =
    let later = λ (m : ℕ). octets_spelled ks m v in
    by_field k ks mask x v (λ s. octets_under mask (fields_with (k ∷ ks) (x, v)) ≡ spelling_printed (k ∷ ks) s)
    (λ is even. rw (is, even) (later (mask / 2)))
    (λ is odd. rw (is, odd) (ap (λ z. field_printed k x ++ z) (later (mask / 2))))
    (λ isnt. rw isnt (ap (λ z. field_printed k x ++ z) (later mask)))

pub defaults_same : (ks : List Kind) (v : Values ks) → defaults_in (fields_with ks v) ≡ number_of_defaults ks v
defaults_same [] v = refl
defaults_same (k ∷ ks) (x, v) = ap (λ n. if k.is_default x then n + 1 else n) (defaults_same ks v)

-- Spellings of fields are read as the values that they mean, with the same faults.
defaulted_alike : (k : Kind)
    → ReadsFrontAlike (optional_front (160 + k.number) (tagged (tag_of k) (alone k.at))) (or_default k.default)
    (defaulted k.number k.at k.default)
defaulted_alike k = record { same = λ c. go c (is_next (160 + k.number) c) }
  where
    there : (r : Result (k.Value × List ℕ) ErrorKind)
        → ((r >>= ok_present) >>= ok_meant_front (or_default k.default)) ≡ r
    there (Ok p) = refl
    there (Err e) = refl

    go : (c : List ℕ) (b : Bool)
        → ((if b then (tagged (tag_of k) (alone k.at) c >>= ok_present) else ok_paired None c)
        >>= ok_meant_front (or_default k.default))
        ≡ (if b then explicit k.number k.at c else Ok (k.default, c))
    go c true = there (tagged (tag_of k) (alone k.at) c) ∙ sym (explicit_is k.at k.number (tag_of k) c refl)
    go c false = refl

pub spelling_read_alike : (ks : List Kind) → ReadsAlike (spelling_read ks) (spelling_means ks) (values_read ks)
spelling_read_alike [] = reading_alike no_parts
spelling_read_alike (k ∷ ks) = row_alike (defaulted_alike k) (spelling_read_alike ks)

-- Values that a record of any form holds.
pub fields_alike : (ks : List Kind) {V : Type 0} (join : Values ks → V)
    → ReadsAlike (spelling_read ks) (λ s. join (spelling_means ks s)) (made join (values_read ks))
fields_alike ks join = record {
  same = λ c.
      sym (bind_associative (spelling_read ks c) (λ s. Ok (spelling_means ks s)) (λ v. Ok (join v)))
      ∙ ap (λ r. r >>= λ v. Ok (join v)) ((spelling_read_alike ks).same c);
}
