-- Walking over a store, entry by entry.
use Rattle.std.proofs.Common.{ℕ, List, [], ◌∷◌, ◌++◌, ◌≡◌, ◌≤◌, ◌<◌, ◌-◌, ◌^◌, ◌∙◌, Bool, true, false, refl, sym, ap, subst, cond, length, length-append, append_assoc, append-nil, take, arith, drop, ◌≢◌, ◌==◌, Option, None, Some, nat_le, zero, suc, slice_index, inl, inr, take_all, take-append-drop}
use Rattle.std.proofs.lemmas.List.Elements.{filter-append}
use Rattle.std.proofs.lemmas.Bool.{cases_lt, false≢true, le-leb, lt-leb}
use Rattle.std.proofs.lemmas.Nat.{be_bytes_4, from_be_bytes-to_be_bytes_4}
use Rattle.std.proofs.Math.Pow.{pow_mono}
use Rattle.std.proofs.Math.Seq.{take-append_seam, drop-append_seam}
use Rattle.std.specs.Int.{from_be_bytes, to_be_bytes, w32}
use Rattle.std.specs.List.{IsSplitAt}
use Rattle.std.specs.Io.KnownBytes.{Appends, Keeps}
use Rattle.der_core.specs.Words.{AppendsFront, IsBitLength}
use Rattle.standard.specs.Statement.{Decodes, PrivateKey, PrivateKeyEncoding}
use Rattle.examples.specs.KeyStore.{BeginsWithEntry, BeginsWithNone, Copies, EntryEncoding, StoreEncoding, is_long, long_keys}

-- The octets of a length, and an entry.
abbrev prefix : ℕ → List ℕ
prefix n = to_be_bytes w32 n

four : (n : ℕ) → length (prefix n) ≡ 4
four n = refl

heads : (a b x y : List ℕ) → length a ≡ length b → a ++ x ≡ b ++ y → (a ≡ b) × (x ≡ y)
heads a b x y n e = (
  sym (take-append_seam a x) ∙ ap (take (length a)) e ∙ ap (λ k. take k (b ++ y)) n ∙ take-append_seam b y,
  sym (drop-append_seam a x) ∙ ap (λ l. drop (length a) l) e ∙ ap (λ k. drop k (b ++ y)) n ∙ drop-append_seam b y,
)

-- Behind a length that it has, the octets are those of each entry in front.
same_octets : (bytes encoding behind entry later : List ℕ) (key : PrivateKey)
    → bytes ≡ prefix (length encoding) ++ (encoding ++ behind) → length encoding < 2 ^ 32 → EntryEncoding key entry
    → bytes ≡ entry ++ later → PrivateKeyEncoding key encoding × (later ≡ behind)
same_octets bytes encoding behind entry later key split few (there, holds, made) same =
    let whole : prefix (length encoding) ++ (encoding ++ behind) ≡ prefix (length there) ++ (there ++ later) =
    sym split ∙ same ∙ ap (λ e. e ++ later) made ∙ append_assoc (prefix (length there)) there later in
    let h = heads (prefix (length encoding)) (prefix (length there)) (encoding ++ behind) (there ++ later) refl whole in
    let less : length there < 2 ^ 32 = omega arith in
    let n : length encoding ≡ length there =
    sym (from_be_bytes-to_be_bytes_4 (length encoding) few) ∙ ap (from_be_bytes w32) h.0
    ∙ from_be_bytes-to_be_bytes_4 (length there) less in
    let t = heads encoding there behind later n h.1 in
    (subst (PrivateKeyEncoding key) (sym t.0) holds, sym t.1)

same_entry : (key other : PrivateKey) (bytes behind entry later : List ℕ) → BeginsWithEntry key bytes behind
    → EntryEncoding other entry → bytes ≡ entry ++ later → (other ≡ key) × (later ≡ behind)
same_entry key other bytes behind entry later (encoding, (is, one), split) there same =
    let few : length encoding < 2 ^ 32 = omega arith in
    let s = same_octets bytes encoding behind entry later other split few there same in
    (one other s.0, s.1)

-- An entry has more than three octets.
entry_long : (key : PrivateKey) (entry : List ℕ) → EntryEncoding key entry → 4 ≤ length entry
entry_long key entry (encoding, holds, made) =
    omega (arith, ap length made, length-append (prefix (length encoding)) encoding, four (length encoding))

-- The rest is behind these keys, and their long ones were kept.
abbrev pub Walked : List ℕ → List ℕ → List ℕ → Type 0
Walked store rest kept =
    (keys : List PrivateKey)
    × ((later : List PrivateKey) → StoreEncoding later rest → StoreEncoding (keys ++ later) store)
    × ((all : List PrivateKey) → StoreEncoding all store
    → (later : List PrivateKey) × (all ≡ keys ++ later) × StoreEncoding later rest)
    × StoreEncoding (long_keys keys) kept

stores_joined : (a b : List PrivateKey) (x y : List ℕ) → StoreEncoding a x → StoreEncoding b y → StoreEncoding (a ++ b) (x ++ y)
stores_joined [] b x y is q = subst (λ z. StoreEncoding b (z ++ y)) (sym is) q
stores_joined (key ∷ a) b x y (e, l, is, p, whole) q =
    (e, l ++ y, is, stores_joined a b l y p q, ap (λ z. z ++ y) whole ∙ append_assoc e l y)

-- One entry further.
module _ (store rest behind : List ℕ) (key : PrivateKey) (front : BeginsWithEntry key rest behind) where
  abbrev entry : List ℕ
  entry = prefix (length front.0) ++ front.0

  entry_is : EntryEncoding key entry
  entry_is = (front.0, front.1.0, refl)

  split : rest ≡ entry ++ behind
  split = front.2 ∙ sym (append_assoc (prefix (length front.0)) front.0 behind)

  onward : (keys : List PrivateKey)
      → ((later : List PrivateKey) → StoreEncoding later rest → StoreEncoding (keys ++ later) store)
      → (later : List PrivateKey) → StoreEncoding later behind → StoreEncoding ((keys ++ key ∷ []) ++ later) store
  onward keys to later p =
      subst (λ all. StoreEncoding all store) (sym (append_assoc keys (key ∷ []) later))
      (to (key ∷ later) (entry, behind, entry_is, p, split))

  back : (keys all later : List PrivateKey) → all ≡ keys ++ later → StoreEncoding later rest
      → (others : List PrivateKey) × (all ≡ (keys ++ key ∷ []) ++ others) × StoreEncoding others behind
  back keys all [] same is =
      absurd (omega (arith, ap length (sym split ∙ is), length-append entry behind, entry_long key entry entry_is))
  back keys all (other ∷ others) same (e, l, is, p, whole) =
      let s = same_entry key other rest behind e l front is whole in (
        others,
        same ∙ ap (λ k. keys ++ k ∷ others) s.0 ∙ sym (append_assoc keys (key ∷ []) others),
        subst (StoreEncoding others) s.1 p,
      )

  -- What the code takes of the rest.
  entry_taken : take (length rest - length behind) rest ≡ entry
  entry_taken =
      let count : length rest - length behind ≡ length entry =
      omega (arith, ap length split, length-append entry behind) in
      ap (λ n. take n rest) count ∙ ap (take (length entry)) split ∙ take-append_seam entry behind

  further : (keys : List PrivateKey) (kept2 : List ℕ)
      → ((later : List PrivateKey) → StoreEncoding later rest → StoreEncoding (keys ++ later) store)
      → ((all : List PrivateKey) → StoreEncoding all store
      → (later : List PrivateKey) × (all ≡ keys ++ later) × StoreEncoding later rest)
      → StoreEncoding (long_keys keys ++ long_keys (key ∷ [])) kept2 → Walked store behind kept2
  further keys kept2 to from holds = (
    keys ++ key ∷ [],
    onward keys to,
    (λ all p. let q = from all p in back keys all q.0 q.1 q.2),
    subst (λ k. StoreEncoding k kept2) (sym (filter-append is_long keys (key ∷ []))) holds,
  )

  pub walked_long : (kept : List ℕ) → is_long key ≡ true → Walked store rest kept
      → Walked store behind (kept ++ take (length rest - length behind) rest)
  walked_long kept long (keys, to, from, p) =
      let one : StoreEncoding (long_keys (key ∷ [])) entry =
      subst (λ b. StoreEncoding (cond b (key ∷ []) []) entry) (sym long) (entry, [], entry_is, refl, sym (append-nil entry))
      in
      subst (λ e. Walked store behind (kept ++ e)) (sym entry_taken)
      (further keys (kept ++ entry) to from (stores_joined (long_keys keys) (long_keys (key ∷ [])) kept entry p one))

  pub walked_short : (kept : List ℕ) → is_long key ≡ false → Walked store rest kept → Walked store behind kept
  walked_short kept short (keys, to, from, p) =
      let none : StoreEncoding (long_keys (key ∷ [])) [] =
      subst (λ b. StoreEncoding (cond b (key ∷ []) []) []) (sym short) refl in
      further keys kept to from
      (subst (StoreEncoding (long_keys keys ++ long_keys (key ∷ []))) (append-nil kept)
      (stores_joined (long_keys keys) (long_keys (key ∷ [])) kept [] p none))

-- At the end, and where no entry is in front.
no_more : (keys later : List PrivateKey) → StoreEncoding later [] → keys ++ later ≡ keys
no_more keys [] is = append-nil keys
no_more keys (key ∷ later) (e, l, is, p, whole) =
    absurd (omega (arith, ap length whole, length-append e l, entry_long key e is))

pub walk_ends : (store rest kept : List ℕ) → length rest ≡ 0 → Walked store rest kept → Copies store kept
walk_ends store [] kept none (keys, to, from, p) = (
  keys,
  (
    subst (λ k. StoreEncoding k store) (append-nil keys) (to [] refl),
    λ all q. let r = from all q in r.1 ∙ no_more keys r.0 r.2,
  ),
  p,
)
walk_ends store (x ∷ rest) kept none walked = absurd (omega arith)

stops : (rest : List ℕ) → length rest ≢ 0 → BeginsWithNone rest → (later : List PrivateKey) → StoreEncoding later rest → ⊥
stops rest some none [] is = some (ap length is)
stops rest some none (key ∷ later) (e, l, is, p, whole) = none key e l is whole

pub refused : (store rest kept : List ℕ) → length rest ≢ 0 → BeginsWithNone rest → Walked store rest kept
    → Decodes StoreEncoding store None
refused store rest kept some none (keys, to, from, p) = λ all q. let r = from all q in stops rest some none r.0 r.2

-- The length that the first four octets say, and what it cuts off.
abbrev four_of : List ℕ → List ℕ
four_of bytes = slice_index bytes 0 ∷ slice_index bytes 1 ∷ slice_index bytes 2 ∷ slice_index bytes 3 ∷ []

small_four : (bytes : List ℕ) → ((i : ℕ) → slice_index bytes i < 256) → (i : ℕ) → slice_index (four_of bytes) i < 256
small_four bytes small zero = small 0
small_four bytes small (suc zero) = small 1
small_four bytes small (suc (suc zero)) = small 2
small_four bytes small (suc (suc (suc zero))) = small 3
small_four bytes small (suc (suc (suc (suc i)))) = omega arith

pub in_front : (bytes encoding behind : List ℕ) (n : ℕ) → 4 ≤ length bytes → ((i : ℕ) → slice_index bytes i < 256)
    → n ≡ from_be_bytes w32 (four_of bytes) → IsSplitAt (take (length bytes - 4) (drop 4 bytes)) n encoding behind
    → (bytes ≡ prefix (length encoding) ++ (encoding ++ behind)) × (length encoding < 2 ^ 32)
in_front [] encoding behind n enough small says cut = absurd (omega arith)
in_front (a ∷ []) encoding behind n enough small says cut = absurd (omega arith)
in_front (a ∷ b ∷ []) encoding behind n enough small says cut = absurd (omega arith)
in_front (a ∷ b ∷ c ∷ []) encoding behind n enough small says cut = absurd (omega arith)
in_front (a ∷ b ∷ c ∷ d ∷ r) encoding behind n enough small says (within, front, back, count, rest) =
    let octets : prefix n ≡ a ∷ b ∷ c ∷ d ∷ [] =
    be_bytes_4 (a ∷ b ∷ c ∷ d ∷ []) n refl (small_four (a ∷ b ∷ c ∷ d ∷ r) small) says in
    let m = length (a ∷ b ∷ c ∷ d ∷ r) - 4 in
    let all : take m r ≡ r = take_all m r (omega arith) in
    let split : r ≡ encoding ++ behind =
    sym all ∙ sym (take-append-drop n (take m r)) ∙ ap (λ x. x ++ drop n (take m r)) (sym front)
    ∙ ap (λ y. encoding ++ y) (sym back) in (
      ap (λ p. p ++ r) (sym octets) ∙ ap (λ y. prefix n ++ y) split
          ∙ ap (λ k. prefix k ++ (encoding ++ behind)) (sym count),
      omega arith,
    )

pub no_entry_begins : (bytes encoding behind : List ℕ)
    → (bytes ≡ prefix (length encoding) ++ (encoding ++ behind)) × (length encoding < 2 ^ 32)
    → Decodes PrivateKeyEncoding encoding None → BeginsWithNone bytes
no_entry_begins bytes encoding behind (split, few) none key entry later is same =
    none key (same_octets bytes encoding behind entry later key split few is same).0

-- So many bits.
pub bits_decide : (n bits most : ℕ) → IsBitLength n bits → nat_le (suc most) bits ≡ nat_le (2 ^ most) n
bits_decide n bits most (within, least) = elim (cases_lt most bits) [
  | inl long ↦ elim (cases_lt n (2 ^ most)) [
    | inl less ↦ absurd (omega (arith, least most less))
    | inr more ↦ le-leb (suc most) bits long ∙ sym (le-leb (2 ^ most) n more)
  ]
  | inr short ↦ let mono : 2 ^ bits ≤ 2 ^ most = pow_mono short in
      lt-leb (suc most) bits (omega arith) ∙ sym (lt-leb (2 ^ most) n (omega arith))
]

-- Whether a slice is empty, as the loop asks.
pub some_left : (r : Bool) (n : ℕ) → r ≡ false → r ≡ (n == 0) → n ≢ 0
some_left r n tested is none =
    let yes : (n == 0) ≡ true = grind arith in false≢true (sym tested ∙ is ∙ yes)

pub none_left : (r : Bool) (n : ℕ) → r ≡ true → r ≡ (n == 0) → n ≡ 0
none_left r n tested is = grind arith

-- What was taken before a flush stays.
pub flushed : (old mid new : Option (List ℕ)) (bytes : List ℕ) → Appends old mid bytes → Keeps mid new
    → Appends old new bytes
flushed None mid new bytes p q = p
flushed (Some xs) None new bytes p q = absurd p
flushed (Some xs) (Some ys) None bytes p q = absurd q
flushed (Some xs) (Some ys) (Some zs) bytes p q = q ∙ p

pub all_taken : (old new : Option (List ℕ)) (bytes : List ℕ) → Appends old new bytes → AppendsFront old new bytes
all_taken old new bytes p =
    (length bytes, subst (Appends old new) (sym (take_all (length bytes) bytes (omega arith))) p)
