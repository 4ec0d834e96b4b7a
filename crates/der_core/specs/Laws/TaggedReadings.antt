-- Reading by functions: an encoding by its tag, and lists of encodings.
use Rattle.std.proofs.Common.{ℕ, zero, suc, Bool, true, false, List, [], ◌∷◌, ◌++◌, ◌≡◌, ◌<◌, ◌≤◌, ◌==◌, length, take, drop, refl, sym, ap, ◌∙◌, arith, ⊎_elim, length-append, append_assoc, length-take, Result, Ok, Err, take-append-drop, nat_lt, IsTrue}
use Rattle.std.proofs.Math.Seq.{take-append_seam, drop-append_seam}
use Rattle.std.proofs.lemmas.Bool.Decides.{nat_tests}
use Rattle.der_core.specs.declared.error.ErrorKind.{ErrorKind}
use Rattle.der_core.specs.declared.error.ErrorKind.TheVariants.{Incomplete, TagUnexpected, TagUnknown, TrailingData}
use Rattle.der_core.specs.declared.tag.Tag.{Tag}
use Rattle.der_core.specs.Encodings.{AreBytes}
use Rattle.der_core.specs.Tlv.{HeaderEncoding, Tlv}
use Rattle.der_core.specs.Input.{header_at, front_of}
use Rattle.der_core.specs.Laws.LengthReading.{tlv_header, header_sound, header_at-tells, ok_pair, cond_cases, incomplete_error_tells, unexpected_tag_error_tells, trailing_error_tells}
use Rattle.der_core.specs.Laws.Readings.{front_bytes, back_bytes, behind_bytes, behind_within, relation_of_equals, ok_injective, bind_ok, bind_err, made_tells}
use Rattle.der_core.specs.Length.{limit}
use Rattle.der_core.specs.Reading.{TellsOfBytes}
use Rattle.der_core.specs.Readings.{Reading, FrontReading, ◌>>=◌, made, items_within, checked, unexpected, by_tag, contents_behind, inside, tagged, ReadsContents, ReadsFronts}
use Rattle.der_core.specs.Parts.{ItemsContents}
use Rattle.der_core.specs.Tag.{is_allowed}

-- Another tag.
pub checked_as : {X : Type 0} (b : Bool) (f : b ≡ true → X) (x : X) → b ≡ true → (q : b ≡ true) × (checked b f x ≡ f q)
checked_as true f x p = (refl, refl)
checked_as false f x p = cc

pub unexpected_not : {V : Type 0} (tag : Tag) (n : ℕ) (v : V) → unexpected tag n ≡ Ok v → ⊥
unexpected_not tag n v e =
    go (is_allowed n) (λ ok. TagUnexpected tag (record { octet = n; allowed = ok })) e
  where
    go : (b : Bool) (f : b ≡ true → ErrorKind) → checked b (λ q. Err (f q)) (Err (TagUnknown n)) ≡ Ok v → ⊥
    go true f e = cc
    go false f e = cc

pub unexpected_tells : {V : Type 0} (tag : Tag) (n : ℕ) (k : ErrorKind) → unexpected {V = V} tag n ≡ Err k
    → TellsOfBytes k
unexpected_tells {V} tag n k e =
    go (is_allowed n) (λ ok. TagUnexpected tag (record { octet = n; allowed = ok }))
    (λ q. unexpected_tag_error_tells refl) e
  where
    go : (b : Bool) (f : b ≡ true → ErrorKind) → ((q : b ≡ true) → TellsOfBytes (f q))
        → ◌≡◌ {A = Result V ErrorKind} (checked b (λ q. Err (f q)) (Err (TagUnknown n))) (Err k) → TellsOfBytes k
    go true f t e = let same : f refl ≡ k = cc in rw same at (t refl)
    go false f t e = let same : TagUnknown n ≡ k = cc in (λ no. cc, λ no. cc, λ no. cc)

-- The contents behind a header.
contents_behind_tag : (tag : Tag) (c rest : List ℕ)
    → contents_behind tag ((tag.octet, length c), c ++ rest) ≡ Ok (c, rest)
contents_behind_tag tag c rest =
    let is : (tag.octet == tag.octet) ≡ true = grind (arith, nat_tests) in
    let enough : nat_lt (length (c ++ rest)) (length c) ≡ false = grind (arith, nat_tests, length-append c rest) in
    rw (is, enough)
    (ap (λ x. Ok (x, drop (length c) (c ++ rest))) (take-append_seam c rest)
    ∙ ap (λ y. Ok (c, y)) (drop-append_seam c rest))

contents_behind_splits : (tag : Tag) (t n : ℕ) (left c rest : List ℕ)
    → contents_behind tag ((t, n), left) ≡ Ok (c, rest)
    → (t ≡ tag.octet) × (left ≡ c ++ rest) × (length c ≡ n)
contents_behind_splits tag t n left c rest e =
    ⊎_elim
    (λ w.
    let same : t ≡ tag.octet = grind (arith, nat_tests, w.0) in
    ⊎_elim (λ u. let no = u.1 in cc)
    (λ u.
    let parts = ok_pair (take n left) c (drop n left) rest u.1 in
    let enough : n ≤ length left = grind (arith, nat_tests, u.0) in (
      same,
      sym (take-append-drop n left) ∙ ap (λ x. x ++ drop n left) parts.0 ∙ ap (λ y. c ++ y) parts.1,
      sym (ap length parts.0) ∙ simp length-take (omega arith),
    ))
    (cond_cases (nat_lt (length left) n) _ _ _ w.1))
    (λ w. absurd (unexpected_not tag t (c, rest) w.1))
    (cond_cases (t == tag.octet) _ _ _ e)

contents_behind_tells : (tag : Tag) (h : (ℕ × ℕ) × List ℕ) (k : ErrorKind) → contents_behind tag h ≡ Err k
    → TellsOfBytes k
contents_behind_tells tag h k e =
    ⊎_elim
    (λ w.
    ⊎_elim (λ u. let same : Incomplete ≡ k = let q = u.1 in cc in incomplete_error_tells (sym same))
    (λ u. let no = u.1 in cc)
    (cond_cases (nat_lt (length h.1) h.0.1) _ _ _ w.1))
    (λ w. unexpected_tells tag h.0.0 k w.1)
    (cond_cases (h.0.0 == tag.octet) _ _ _ e)

-- A header and contents are an encoding, whose contents are within the limit.
tlv_joined : (i rest : List ℕ) (t n : ℕ) (left header c : List ℕ) → AreBytes i → i ≡ header ++ left
    → HeaderEncoding (t, n) header → left ≡ c ++ rest → length c ≡ n → (u : ℕ) (P : List ℕ → Type 0)
    → (AreBytes c → (u ≡ t) × P c) → (b : List ℕ) × (i ≡ b ++ rest) × Tlv u P b
tlv_joined i rest t n left header c bytes split h is len u P holds =
    let all : i ≡ (header ++ c) ++ rest = split ∙ ap (λ y. header ++ y) is ∙ sym (append_assoc header c rest) in
    let p = holds (back_bytes header c (front_bytes (header ++ c) rest (rw all at bytes))) in (
      header ++ c,
      all,
      record {
        octets = h.1;
        contents = c;
        counted = rw (← len) at h.2.1;
        holds = p.1;
        written = ap (λ x. x ++ c) h.3 ∙ ap (λ x. x ∷ h.1 ++ c) (sym p.0);
      },
    )

tlv_within : (i b rest : List ℕ) (u : ℕ) {P : List ℕ → Type 0} → length i ≤ limit → i ≡ b ++ rest → (t : Tlv u P b)
    → length t.contents ≤ limit
tlv_within i b rest u within is t =
    omega (
      arith,
      within,
      ap length is,
      length-append b rest,
      ap length t.written,
      length-append t.octets t.contents,
    )

module _ {V : Type 0} (tag : Tag) {contents : V → List ℕ → Type 0} {read : Reading V}
    (law : ReadsContents contents read) where
  tagged_takes : (i b rest : List ℕ) (v : V) → length i ≤ limit → i ≡ b ++ rest → Tlv tag.octet (contents v) b
      → tagged tag read i ≡ Ok (v, rest)
  tagged_takes i b rest v within is t =
      let few = tlv_within i b rest tag.octet within is t in
      ap (λ r. r >>= λ h. contents_behind tag h >>= inside read)
      (tlv_header tag.octet b i rest tag.allowed within t is)
      ∙ ap (λ r. r >>= inside read) (contents_behind_tag tag t.contents rest)
      ∙ ap (λ r. r >>= λ v. Ok (v, rest)) (law.takes t.contents v few t.holds)

  tagged_gives : (i rest : List ℕ) (v : V) → AreBytes i → tagged tag read i ≡ Ok (v, rest)
      → (b : List ℕ) × (i ≡ b ++ rest) × Tlv tag.octet (contents v) b
  tagged_gives i rest v bytes e =
      let s = bind_ok (header_at i) (λ h. contents_behind tag h >>= inside read) e in
      let u = bind_ok (contents_behind tag s.0) (inside read) s.2 in
      let w = bind_ok (read u.0.0) (λ v. Ok (v, u.0.1)) u.2 in
      let end = ok_pair w.0 v u.0.1 rest w.2 in
      let front = header_sound i s.0.1 s.0.0 bytes s.1 in
      let is = contents_behind_splits tag s.0.0.0 s.0.0.1 s.0.1 u.0.0 u.0.1 u.1 in
      tlv_joined i rest s.0.0.0 s.0.0.1 s.0.1 front.0 u.0.0 bytes front.1 front.2
      (is.1 ∙ ap (λ y. u.0.0 ++ y) end.1) is.2 tag.octet (contents v)
      (λ are. (sym is.0, law.gives u.0.0 v are (w.1 ∙ ap (λ a. Ok a) end.0)))

  pub tagged_reads : ReadsFronts (λ v. Tlv tag.octet (contents v)) (tagged tag read)
  tagged_reads = record {
    gives = tagged_gives;
    takes = tagged_takes;
    tells = λ i k e.
        ⊎_elim (header_at-tells i k)
        (λ s. ⊎_elim (contents_behind_tells tag s.0 k)
        (λ u. made_tells (λ v. (v, u.0.1)) (read u.0.0) (law.tells u.0.0 k) u.2)
        (bind_err (contents_behind tag s.0) (inside read) s.2))
        (bind_err (header_at i) (λ h. contents_behind tag h >>= inside read) e);
  }

-- An encoding of any tag.
front_of_takes : (c rest : List ℕ) → front_of (length c) (c ++ rest) ≡ Ok (c, rest)
front_of_takes c rest =
    let enough : nat_lt (length (c ++ rest)) (length c) ≡ false = grind (arith, nat_tests, length-append c rest) in
    rw enough (ap (λ x. Ok (x, drop (length c) (c ++ rest))) (take-append_seam c rest)
    ∙ ap (λ y. Ok (c, y)) (drop-append_seam c rest))

front_of_splits : (n : ℕ) (left c rest : List ℕ) → front_of n left ≡ Ok (c, rest) → (left ≡ c ++ rest) × (length c ≡ n)
front_of_splits n left c rest e =
    ⊎_elim (λ u. let no = u.1 in cc)
    (λ u.
    let parts = ok_pair (take n left) c (drop n left) rest u.1 in
    let enough : n ≤ length left = grind (arith, nat_tests, u.0) in (
      sym (take-append-drop n left) ∙ ap (λ x. x ++ drop n left) parts.0 ∙ ap (λ y. c ++ y) parts.1,
      sym (ap length parts.0) ∙ simp length-take (omega arith),
    ))
    (cond_cases (nat_lt (length left) n) _ _ _ e)

front_of_tells : (n : ℕ) (left : List ℕ) (k : ErrorKind) → front_of n left ≡ Err k → TellsOfBytes k
front_of_tells n left k e =
    ⊎_elim (λ u. let same : Incomplete ≡ k = let q = u.1 in cc in incomplete_error_tells (sym same))
    (λ u. let no = u.1 in cc)
    (cond_cases (nat_lt (length left) n) _ _ _ e)

module _ {V : Type 0} (octet : V → ℕ) (Inner : V → List ℕ → Type 0) (read : ℕ → Reading V)
    (inner : (t : ℕ) → IsTrue (is_allowed t) → ReadsContents (λ v c. (octet v ≡ t) × Inner v c) (read t))
    (tells : (t : ℕ) (c : List ℕ) (k : ErrorKind) → read t c ≡ Err k → TellsOfBytes k)
    (allowed : (v : V) (c : List ℕ) → Inner v c → IsTrue (is_allowed (octet v))) where
  pub by_tag_reads : ReadsFronts (λ v. Tlv (octet v) (Inner v)) (by_tag read)
  by_tag_reads = record {
    gives = λ i rest v bytes e.
        let s = bind_ok (header_at i) (λ h. front_of h.0.1 h.1 >>= inside (read h.0.0)) e in
        let u = bind_ok (front_of s.0.0.1 s.0.1) (inside (read s.0.0.0)) s.2 in
        let w = bind_ok (read s.0.0.0 u.0.0) (λ v. Ok (v, u.0.1)) u.2 in
        let end = ok_pair w.0 v u.0.1 rest w.2 in
        let front = header_sound i s.0.1 s.0.0 bytes s.1 in
        let is = front_of_splits s.0.0.1 s.0.1 u.0.0 u.0.1 u.1 in
        tlv_joined i rest s.0.0.0 s.0.0.1 s.0.1 front.0 u.0.0 bytes front.1 front.2
        (is.0 ∙ ap (λ y. u.0.0 ++ y) end.1) is.1 (octet v) (Inner v)
        (λ are. (inner s.0.0.0 front.2.0).gives u.0.0 v are (w.1 ∙ ap (λ a. Ok a) end.0));
    takes = λ i b rest v within is t.
        let few = tlv_within i b rest (octet v) within is t in
        let ok = allowed v t.contents t.holds in
        ap (λ r. r >>= λ h. front_of h.0.1 h.1 >>= inside (read h.0.0)) (tlv_header (octet v) b i rest ok within t is)
        ∙ ap (λ r. r >>= inside (read (octet v))) (front_of_takes t.contents rest)
        ∙ ap (λ r. r >>= λ v. Ok (v, rest)) ((inner (octet v) ok).takes t.contents v few (refl, t.holds));
    tells = λ i k e.
        ⊎_elim (header_at-tells i k)
        (λ s. ⊎_elim (front_of_tells s.0.0.1 s.0.1 k)
        (λ u. made_tells (λ v. (v, u.0.1)) (read s.0.0.0 u.0.0) (tells s.0.0.0 u.0.0 k) u.2)
        (bind_err (front_of s.0.0.1 s.0.1) (inside (read s.0.0.0)) s.2))
        (bind_err (header_at i) (λ h. front_of h.0.1 h.1 >>= inside (read h.0.0)) e);
  }

-- A list, up to the end.
module _ {V : Type 0} {encoding : V → List ℕ → Type 0} {at : FrontReading V} (law : ReadsFronts encoding at)
    (some : (v : V) (b : List ℕ) → encoding v b → 0 < length b) where
  items_give : (n : ℕ) (c : List ℕ) (vs : List V) → AreBytes c → items_within n at c ≡ Ok vs
      → ItemsContents encoding vs c
  items_give n [] vs b e = relation_of_equals (ItemsContents encoding) (ok_injective e) refl refl
  items_give zero (x ∷ xs) vs b e = cc
  items_give (suc n) (x ∷ xs) vs b e =
      let s = bind_ok (at (x ∷ xs)) _ e in
      let u = bind_ok (items_within n at s.0.1) _ s.2 in
      let p = law.gives (x ∷ xs) s.0.1 s.0.0 b s.1 in
      let q = items_give n s.0.1 u.0 (behind_bytes p.0 s.0.1 p.1 b) u.1 in
      relation_of_equals (ItemsContents encoding) (ok_injective u.2) refl (p.0, s.0.1, p.2, q, p.1)

  items_take : (vs : List V) (n : ℕ) (c : List ℕ) → length c ≤ n → length c ≤ limit → ItemsContents encoding vs c
      → items_within n at c ≡ Ok vs
  items_take [] n c l w p = ap (items_within n at) p
  items_take (v ∷ vs) n [] l w (x, y, p, q, is) =
      absurd (omega (arith, some v x p, ap length is, length-append x y))
  items_take (v ∷ vs) zero (z ∷ zs) l w p = absurd (omega (arith, l))
  items_take (v ∷ vs) (suc n) (z ∷ zs) l w (x, y, p, q, is) =
      let full = some v x p in
      ap (λ r. r >>= λ p. made (λ vs. p.0 ∷ vs) (items_within n at) p.1) (law.takes (z ∷ zs) x y v w is p)
      ∙ ap (λ r. r >>= λ vs. Ok (v ∷ vs))
      (items_take vs n y (omega (arith, l, full, ap length is, length-append x y)) (behind_within x y is w) q)

  items_tell : (n : ℕ) (c : List ℕ) (k : ErrorKind) → items_within n at c ≡ Err k → TellsOfBytes k
  items_tell n [] k e = cc
  items_tell zero (x ∷ xs) k e = let same : TrailingData ≡ k = cc in trailing_error_tells (sym same)
  items_tell (suc n) (x ∷ xs) k e =
      ⊎_elim (law.tells (x ∷ xs) k)
      (λ s. made_tells (λ vs. s.0.0 ∷ vs) (items_within n at s.0.1) (items_tell n s.0.1 k) s.2)
      (bind_err (at (x ∷ xs)) _ e)
