-- Encodings by their contents: taken apart, written, measured; rows that ask for no memory; tags.
use Rattle.std.proofs.Common.{ℕ, List, ◌∷◌, ◌++◌, ◌≡◌, ◌<◌, ◌≤◌, ◌^◌, length, refl, arith, append_assoc, length-append, ◌+◌, inl, inr, true, IsTrue}
use Rattle.der_core.specs.Length.{length_octets}
use Rattle.der_core.specs.Tlv.{Tlv, tlv}
use Rattle.der_core.specs.Laws.Numbers.{append_injective, cons_injective}
use Rattle.der_core.specs.Laws.Length.{length_split, length_octets-within, length_few}
use Rattle.der_core.specs.Reading.{AllocatesLast}
use Rattle.der_core.specs.Parts.{AllocatesInParts}
use Rattle.der_core.specs.Tag.{is_allowed}
use Rattle.der_core.specs.declared.tag.Tag.{Tag}
use mathlib.Core.Bool.{Bool-set}
use mathlib.Core.HLevel.{is_prop→PathP}

-- Two encodings at the front of the same bytes are one encoding, with one tag and contents that both hold of.
pub tlv_split : {t u : ℕ} {P Q : List ℕ → Type 0} (x y x' y' : List ℕ) → Tlv t P x → Tlv u Q x' → x ++ y ≡ x' ++ y'
    → (x ≡ x') × (t ≡ u) × (y ≡ y') × (c : List ℕ) × P c × Q c
tlv_split {t} {u} {P} {Q} x y x' y' p q h =
    let c : t ∷ (p.octets ++ (p.contents ++ y)) ≡ u ∷ (q.octets ++ (q.contents ++ y')) =
    rw (p.written, q.written, append_assoc (t ∷ p.octets) p.contents y, append_assoc (u ∷ q.octets) q.contents y')
    at h in
    let d = cons_injective c in
    let s =
    length_split (length p.contents) (length q.contents) p.octets (p.contents ++ y) q.octets (q.contents ++ y')
    p.counted q.counted d.1 in
    let f = append_injective p.contents y q.contents y' s.1 s.2 in
    (rw (p.written, q.written, d.0, s.0, f.0), d.0, f.1, p.contents, p.holds, rw (← f.0) at q.holds)

pub tlv_not_empty : {t : ℕ} {P : List ℕ → Type 0} (x : List ℕ) → Tlv t P x → 0 < length x
tlv_not_empty x p = rw p.written (omega arith)

-- What is written.
module _ {V : Type 0} (tag : ℕ) (Contents : V → List ℕ → Type 0) (written : V → List ℕ) where
  pub tlv_relates : (v : V) → (length (written v) < 2 ^ 128 → Contents v (written v))
      → length (tlv tag (written v)) < 2 ^ 128 → Tlv tag (Contents v) (tlv tag (written v))
  tlv_relates v related fits =
      let few : length (written v) < 2 ^ 128 =
      omega (arith, fits, length-append (length_octets (length (written v))) (written v)) in
      record {
        octets = length_octets (length (written v));
        contents = written v;
        counted = length_octets-within (length (written v)) few;
        holds = related few;
        written = refl;
      }

-- The same encoding, seen as one with other contents.
pub tlv_recast : {t : ℕ} {P Q : List ℕ → Type 0} (x : List ℕ) (p : Tlv t P x) → Q p.contents → Tlv t Q x
tlv_recast x p q =
    record { octets = p.octets; contents = p.contents; counted = p.counted; holds = q; written = p.written }

-- An encoding is little longer than its contents.
pub tlv_short : (tag m : ℕ) (c : List ℕ) → length c ≤ m → m < 2 ^ 64 → length (tlv tag c) ≤ m + 128
tlv_short tag m c h small =
    let few =
    length_few (length c) (length_octets (length c)) (length_octets-within (length c) (omega (arith, h, small))) in
    omega (arith, few, h, length-append (length_octets (length c)) c)

-- What reading asks of memory, as Asked: nothing, where it never allocates; of a row what each part asks, and of an
-- OPTIONAL last part what it asks.
pub nothing_asked : {Asked : Type 0} → (b : List ℕ) → ⊥ → Asked
nothing_asked b never = absurd never

pub parts_ask_as_each : {A : Type 0} (First : A → List ℕ → Type 0) {first rest : List ℕ → Type 0} {Asked : Type 0}
    → ((b : List ℕ) → first b → Asked) → ((c : List ℕ) → rest c → Asked) → (c : List ℕ)
    → AllocatesInParts First first rest c → Asked
parts_ask_as_each First front behind c (inl w) = front w.0 w.3
parts_ask_as_each First front behind c (inr (v, (x, y, t, w, is))) = behind y w

pub last_part_asks_as_it : {may : List ℕ → Type 0} {Asked : Type 0} → ((b : List ℕ) → may b → Asked) → (c : List ℕ)
    → AllocatesLast may c → Asked
last_part_asks_as_it part c w = part w.1.0 w.1.3

-- Tags of one octet are the same.
pub same_tag : (s t : Tag) → s.octet ≡ t.octet → s ≡ t
same_tag s t e =
    λ i. record {
      octet = e i;
      allowed = is_prop→PathP (λ j. IsTrue (is_allowed (e j)))
          (λ j. Bool-set (is_allowed (e j)) true) s.allowed t.allowed i;
    }
