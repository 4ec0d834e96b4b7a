-- Reading with `?`, where each step gives the value and what follows it, or the error: each exit of the code is one lemma.
use Rattle.std.proofs.Common.{ℕ, Bool, true, false, List, [], ◌++◌, ◌≡◌, ◌≢◌, ◌≤◌, ◌==◌, length, take, drop, subst, sym, ap, ◌∙◌, arith, inl, inr, ⊎_elim, length-take, Result, Ok, Err, Some, None, take_all, nat_lt, not, eqb, if◌then◌else◌, IfOk, IfErr}
use Rattle.std.proofs.lemmas.List.{drop_all}
use Rattle.der_core.specs.Words.{nat_tests, Error, ErrorKind, Tag, WithinLimit, AreBytes, Input, left_in, read_from, header_at, small_of, ok_pair, cond_cases, limit, AllocatesInParts, AllocatesAtFront, DecodesOrMemory, InputAllocates, FaultOrMemory, Returns, ReadsAll, Reading, FrontReading, ◌>>=◌, expected, front_parts, parts, such, tagged, contents_behind, inside, ReadsContents, ReadsFronts, integer_tag, Tlv, HoldsBytes, front_of, behind_within, ok_injective, tagged_reads, octets_of_all, bind_ok}
use Rattle.der_core.specs.declared.error.ErrorKind.TheVariants.{OutOfMemory, TagUnexpected, Value}
use Rattle.der_core.proofs.Splitting.{read_inside}
use Rattle.der_core.proofs.Readings.{contents_behind_other_tag}

-- What a call ensures of an error, and of a value with what is left.
abbrev pub ReadingFails : {R : Type 0} → Reading R → (List ℕ → Type 0) → ErrorKind → Input → Input → Type 0
ReadingFails read asked e before after = (after ≡ None)
    × FaultOrMemory e (InputAllocates asked before) (read_from before read ≡ Err e)

abbrev pub ReadingGives : {V : Type 0} → FrontReading V → V → Input → Input → Type 0
ReadingGives at v before after = (rest : List ℕ) × (read_from before at ≡ Ok (v, rest)) × (after ≡ Some rest)

-- A value that was read and doesn't pass the test.
pub such_refuses_value : {V : Type 0} (read : Reading V) (test : V → Bool) (failure e : ErrorKind) (v : V) (c : List ℕ)
    → read c ≡ Ok v → test v ≡ false → e ≡ failure → such test failure read c ≡ Err e
such_refuses_value read test failure e v c p isnt kind =
    ap (λ r. r >>= λ v. if test v then Ok v else Err failure) p ∙ rw isnt (ap (λ k. Err k) (sym kind))

-- A number that isn't the expected one.
pub expected_refuses_value : (n v : ℕ) (e : ErrorKind) (c : List ℕ) → small_of c ≡ Ok v → v ≢ n → e ≡ Value integer_tag
    → expected n c ≡ Err e
expected_refuses_value n v e c p ne kind =
    let no : (v == n) ≡ false = grind arith in
    ap (λ r. (r >>= λ v. if v == n then Ok v else Err (Value integer_tag)) >>= λ _. Ok tt) p
    ∙ rw no (ap (λ k. Err k) (sym kind))

-- Where a value was read at the front, memory may be asked for it.
module _ {V : Type 0} {encoding : V → List ℕ → Type 0} {at : FrontReading V} (law : ReadsFronts encoding at) where
  pub front_asks : (x : V) (before after : Input) → AreBytes (left_in before) → ReadingGives at x before after
      → InputAllocates (AllocatesAtFront (λ b. (v : V) × encoding v b)) before
  front_asks x None after bytes (rest, p, is) = cc
  front_asks x (Some i) after bytes (rest, p, is) =
      let s = law.gives i rest x bytes p in (s.0, rest, s.1, (x, s.2))

-- A value that is copied once it was read, for which memory may be asked.
pub copied : {X W V : Type 0} (value : X → W) (meaning : W → V) {given : Result V ErrorKind} (w : W) {asked : Type 0}
    → given ≡ Ok (meaning w) → asked → (r : Result X Error) → IfOk r (λ x. value x ≡ w)
    → IfErr r (λ e. e.kind ≡ OutOfMemory) → Returns (λ x. meaning (value x)) given asked r
copied value meaning w is asks (Ok x) same memory = is ∙ ap (λ w. Ok (meaning w)) (sym same)
copied value meaning w is asks (Err e) same memory = inl (memory, asks)

-- Where no memory is asked for, the error is the function's.
pub fault_without_memory : {e : ErrorKind} {asked fault : Type 0} → (asked → ⊥) → FaultOrMemory e asked fault → fault
fault_without_memory never (inl w) = absurd (never w.1)
fault_without_memory never (inr f) = f

pub unequal_test_true : (r : Bool) (a b t : ℕ) → r ≡ true → r ≡ not (eqb a b) → b ≡ t → a ≢ t
unequal_test_true r a b t e f g h =
    grind arith

pub unequal_test_false : (r : Bool) (a b t : ℕ) → r ≡ false → r ≡ not (eqb a b) → b ≡ t → a ≡ t
unequal_test_false r a b t e f g =
    grind arith

module _ {V : Type 0} (tag : Tag) (read : Reading V) (may : List ℕ → Type 0) where
  -- the tag is another one
  pub tag_fails : {n : ℕ} (before mid after : Input) (e : ErrorKind) (actual : Tag)
      → ReadingGives header_at (actual.octet, n) before mid → actual.octet ≢ tag.octet → e ≡ TagUnexpected tag actual
      → after ≡ None → ReadingFails (tagged tag read) (AllocatesAtFront (Tlv tag.octet may)) e before after
  tag_fails None mid after e actual (rest, p, is) ne kind failed = cc
  tag_fails {n} (Some i) mid after e actual (rest, p, is) ne kind failed = (
    failed,
    inr
        (ap (λ r. r >>= λ h. contents_behind tag h >>= inside read) p
        ∙ ap (λ r. r >>= inside read) (contents_behind_other_tag tag actual n rest ne) ∙ ap (λ k. Err k) (sym kind)),
  )

-- A fault of the header, or another tag, is one whatever the contents are.
inner_errs : {V : Type 0} (read : Reading V) (k : ErrorKind) (r : Result (List ℕ × List ℕ) ErrorKind)
    → (r >>= inside octets_of_all) ≡ Err k → (r >>= inside read) ≡ Err k
inner_errs read k (Err e) p = cc
inner_errs read k (Ok q) p = cc

outer_errs : {V : Type 0} (tag : Tag) (read : Reading V) (k : ErrorKind) (r : Result ((ℕ × ℕ) × List ℕ) ErrorKind)
    → (r >>= λ h. contents_behind tag h >>= inside octets_of_all) ≡ Err k
    → (r >>= λ h. contents_behind tag h >>= inside read) ≡ Err k
outer_errs tag read k (Err e) p = cc
outer_errs tag read k (Ok h) p = inner_errs read k (contents_behind tag h) p

pub split_errs : {V : Type 0} (tag : Tag) (read : Reading V) (k : ErrorKind) (b : List ℕ)
    → tagged tag octets_of_all b ≡ Err k → tagged tag read b ≡ Err k
split_errs tag read k b p = outer_errs tag read k (header_at b) p

-- A fault of the contents is that of the encoding.
pub fault_inside : {V : Type 0} (tag : Tag) (read : Reading V) (b front back : List ℕ) (k : ErrorKind)
    → tagged tag octets_of_all b ≡ Ok (front, back) → read front ≡ Err k → tagged tag read b ≡ Err k
fault_inside tag read b front back k e fault =
    let s = bind_ok (header_at b) (λ h. contents_behind tag h >>= inside octets_of_all) e in
    let u = bind_ok (contents_behind tag s.0) (inside octets_of_all) s.2 in
    let same = ok_pair u.0.0 front u.0.1 back u.2 in
    ap (λ r. r >>= λ h. contents_behind tag h >>= inside read) s.1 ∙ ap (λ r. r >>= inside read) u.1
    ∙ ap (λ x. read x >>= λ w. Ok (w, u.0.1)) same.0 ∙ ap (λ r. r >>= λ w. Ok (w, u.0.1)) fault

-- What follows the first part has a fault.
pub parts_fail : {A B : Type 0} {First : A → List ℕ → Type 0} {at : FrontReading A}
    → ((i rest : List ℕ) (a : A) → AreBytes i → at i ≡ Ok (a, rest) → (b : List ℕ) × (i ≡ b ++ rest) × First a b)
    → (rest : Reading B) (first later : List ℕ → Type 0) (a : A) (e : ErrorKind) (i left : List ℕ) → AreBytes i
    → at i ≡ Ok (a, left) → FaultOrMemory e (later left) (rest left ≡ Err e)
    → FaultOrMemory e (AllocatesInParts First first later i) (parts at rest i ≡ Err e)
parts_fail gives rest first later a e i left bytes p (inl w) =
    let s = gives i left a bytes p in inl (w.0, inr (a, (s.0, left, s.2, w.1, s.1)))
parts_fail gives rest first later a e i left bytes p (inr q) =
    inr
    (ap (λ r. r >>= λ p. rest p.1 >>= λ b. Ok (p.0, b)) p ∙ ap (λ r. r >>= λ b. Ok (a, b)) q)

-- What is split off at the front of bytes is an encoding with the tag, of these contents.
octets_read : ReadsContents (λ (v : List ℕ) c. c ≡ v) octets_of_all
octets_read = record { gives = λ c v b e. ok_injective e; takes = λ c v w p. ap (λ x. Ok x) p; tells = λ c k e. cc }

pub split_joins : (tag : Tag) (i front back : List ℕ) → AreBytes i → tagged tag octets_of_all i ≡ Ok (front, back)
    → (b : List ℕ) × (i ≡ b ++ back) × Tlv tag.octet (λ c. c ≡ front) b
split_joins tag i front back bytes e = (tagged_reads tag octets_read).gives i back front bytes e

-- So what follows is within the limit, and the encoding asks for memory if its contents do.
pub behind_split : (tag : Tag) (i front back : List ℕ) → AreBytes i → length i ≤ limit
    → tagged tag octets_of_all i ≡ Ok (front, back) → length back ≤ limit
behind_split tag i front back bytes within e =
    let s = split_joins tag i front back bytes e in behind_within s.0 back s.1 within

pub asks_inside : (tag : Tag) (may : List ℕ → Type 0) (i front back : List ℕ) → AreBytes i
    → tagged tag octets_of_all i ≡ Ok (front, back) → may front → AllocatesAtFront (Tlv tag.octet may) i
asks_inside tag may i front back bytes e asks =
    let s = split_joins tag i front back bytes e in
    let t = s.2 in (
      s.0,
      back,
      s.1,
      record {
        octets = t.octets;
        contents = t.contents;
        counted = t.counted;
        holds = subst may (sym t.holds) asks;
        written = t.written;
      },
    )

-- A header with another tag.
pub other_tag : (tag actual : Tag) (n : ℕ) (before mid : Input) (b : List ℕ) → before ≡ Some b
    → ReadingGives header_at (actual.octet, n) before mid → actual.octet ≢ tag.octet
    → tagged tag octets_of_all b ≡ Err (TagUnexpected tag actual)
other_tag tag actual n before mid b is (rest, p, after) ne =
    let q : header_at b ≡ Ok ((actual.octet, n), rest) = rw is at p in
    ap (λ r. r >>= λ h. contents_behind tag h >>= inside octets_of_all) q
    ∙ ap (λ r. r >>= inside octets_of_all) (contents_behind_other_tag tag actual n rest ne)

-- == Over a reader ==
-- The header was read, and then as many octets as it says.
pub slice_behind_header : (tag : Tag) (t n : ℕ) (c : List ℕ) (before mid after : Input)
    → ReadingGives header_at (t, n) before mid → t ≡ tag.octet → ReadingGives (front_of n) c mid after
    → ReadingGives (tagged tag octets_of_all) c before after
slice_behind_header tag t n c None mid after (left, p, is) same (rest, q, are) = cc
slice_behind_header tag t n c (Some i) mid after (left, p, is) same (rest, q, are) =
    let head : header_at i ≡ Ok ((tag.octet, n), left) = p ∙ ap (λ o. Ok ((o, n), left)) same in
    let octet : (tag.octet == tag.octet) ≡ true = grind arith in
    let there : front_of n left ≡ Ok (c, rest) = rw is at q in
    let here : contents_behind tag ((tag.octet, n), left) ≡ Ok (c, rest) = rw octet there in (
      rest,
      ap (λ r. r >>= λ h. contents_behind tag h >>= inside octets_of_all) head ∙ ap (λ r. r >>= inside octets_of_all) here,
      are,
    )

-- So what reading gives of the contents, it gives of the encoding.
pub value_behind_header : {V : Type 0} (tag : Tag) (read : Reading V) (c : List ℕ) (v : V) (before after : Input)
    → ReadingGives (tagged tag octets_of_all) c before after → read c ≡ Ok v
    → ReadingGives (tagged tag read) v before after
value_behind_header tag read c v None after (rest, p, is) given = cc
value_behind_header tag read c v (Some i) after (rest, p, is) given = (rest, read_inside tag read i c rest v p given, is)

pub fault_behind_header : {V : Type 0} (tag : Tag) (read : Reading V) (may : List ℕ → Type 0) (c : List ℕ)
    (e : ErrorKind) (before mid after : Input) → AreBytes (left_in before)
    → ReadingGives (tagged tag octets_of_all) c before mid → FaultOrMemory e (may c) (read c ≡ Err e) → after ≡ None
    → ReadingFails (tagged tag read) (AllocatesAtFront (Tlv tag.octet may)) e before after
fault_behind_header tag read may c e None mid after bytes (rest, p, is) fault failed = cc
fault_behind_header tag read may c e (Some i) mid after bytes (rest, p, is) (inl w) failed =
    (failed, inl (w.0, asks_inside tag may i c rest bytes p w.1))
fault_behind_header tag read may c e (Some i) mid after bytes (rest, p, is) (inr f) failed =
    (failed, inr (fault_inside tag read i c rest e p f))

-- What a reader gives is within the limit.
pub slice_within : (n : ℕ) (c : List ℕ) (before mid : Input) → length (left_in before) ≤ limit
    → ReadingGives (front_of n) c before mid → length c ≤ limit
slice_within n c None mid within (rest, p, is) = cc
slice_within n c (Some i) mid within (rest, p, is) =
    ⊎_elim (λ w. let no = w.1 in cc)
    (λ w. let same = ok_pair (take n i) c (drop n i) rest w.1 in omega (arith, ap length same.0, length-take {A = ℕ}))
    (cond_cases (nat_lt (length i) n) _ _ _ p)

-- All that is left, taken as one slice.
pub all_left : (n : ℕ) (c : List ℕ) (before mid : Input) → HoldsBytes before n
    → ReadingGives (front_of n) c before mid → (before ≡ Some c) × (mid ≡ Some [])
all_left n c None mid holds gives = absurd holds
all_left n c (Some i) mid holds (rest, p, is) =
    ⊎_elim (λ w. let no = w.1 in cc)
    (λ w.
    let same = ok_pair (take n i) c (drop n i) rest w.1 in
    let whole : take n i ≡ i = take_all n i (omega arith) in
    let none : drop n i ≡ [] = drop_all n i (omega arith) in
    (ap (λ x. Some x) (sym whole ∙ same.0), is ∙ ap (λ x. Some x) (sym same.1 ∙ none)))
    (cond_cases (nat_lt (length i) n) _ _ _ p)

pub all_fails : {V : Type 0} (read : Reading V) (may : List ℕ → Type 0) (c : List ℕ) (e : ErrorKind)
    (before after : Input) → before ≡ Some c → FaultOrMemory e (may c) (read c ≡ Err e) → after ≡ None
    → ReadingFails read may e before after
all_fails read may c e before after is fault failed = (failed, rw is fault)

pub all_gives : {V : Type 0} (read : Reading V) (c : List ℕ) (v : V) (before : Input) → before ≡ Some c
    → read c ≡ Ok v → read_from before read ≡ Ok v
all_gives read c v before is given = rw is given

-- Not so many are left: no reader that holds them says so.
pub not_all : (n : ℕ) (before : Input) (e : ErrorKind) → HoldsBytes before n → read_from before (front_of n) ≡ Err e → ⊥
not_all n None e holds p = holds
not_all n (Some i) e holds p =
    ⊎_elim (λ w. let no : n ≤ length i = omega arith in let less = w.0 in grind (arith, nat_tests))
    (λ w. let no = w.1 in cc) (cond_cases (nat_lt (length i) n) _ _ _ p)

-- What follows the first part of a row has a fault.
pub front_row_fails : {A B : Type 0} {First : A → List ℕ → Type 0} {at : FrontReading A}
    → ((i rest : List ℕ) (a : A) → AreBytes i → at i ≡ Ok (a, rest) → (b : List ℕ) × (i ≡ b ++ rest) × First a b)
    → (row : FrontReading B) (first later : List ℕ → Type 0) (a : A) (e : ErrorKind) (i left : List ℕ) → AreBytes i
    → at i ≡ Ok (a, left) → FaultOrMemory e (later left) (row left ≡ Err e)
    → FaultOrMemory e (AllocatesInParts First first later i) (front_parts at row i ≡ Err e)
front_row_fails gives row first later a e i left bytes p (inl w) =
    let s = gives i left a bytes p in inl (w.0, inr (a, (s.0, left, s.2, w.1, s.1)))
front_row_fails gives row first later a e i left bytes p (inr q) =
    inr
    (ap (λ r. r >>= λ p. row p.1 >>= λ q. Ok ((p.0, q.0), q.1)) p ∙ ap (λ r. r >>= λ q. Ok ((a, q.0), q.1)) q)

-- The grammar of what was returned.
module _ {X V : Type 0} (value : X → V) {encoding : V → List ℕ → Type 0} {read : Reading V} (b : List ℕ)
    (law : ReadsContents (WithinLimit encoding) read) where
  -- A fault: the bytes encode no value.
  fault_encodes_none : {e : ErrorKind} → read b ≡ Err e → (v : V) → WithinLimit encoding v b → ⊥
  fault_encodes_none e v m = let no = sym e ∙ law.takes b v m.0 m in cc

  -- What a call returned.
  pub returned_decodes : (asked : Type 0) (r : Result X Error) → AreBytes b → Returns value (read b) asked r
      → DecodesOrMemory value (WithinLimit encoding) asked b r
  returned_decodes asked (Ok x) bytes p =
      (law.gives b (value x) bytes p, λ w m. let same : Ok w ≡ Ok (value x) = sym (law.takes b w m.0 m) ∙ p in cc)
  returned_decodes asked (Err e) bytes (inl w) = inl w
  returned_decodes asked (Err e) bytes (inr p) = inr (fault_encodes_none p)

  pub returned_reads_all : (may : List ℕ → Type 0) (r : Result X Error) → AreBytes b
      → Returns value (read b) (AllocatesAtFront may b) r → ReadsAll value encoding may r b
  returned_reads_all may (Ok x) bytes p = returned_decodes (AllocatesAtFront may b) (Ok x) bytes p
  returned_reads_all may (Err e) bytes (inl w) = inl w
  returned_reads_all may (Err e) bytes (inr p) = inr (law.tells b e.kind p, fault_encodes_none p)
