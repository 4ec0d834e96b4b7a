-- Why values aren't written, what writing one part after another leaves, and lengths. For each call that writes or
-- counts, also of the crates above.
use Rattle.std.proofs.Common.{ℕ, List, ◌<◌, ◌≤◌, length, subst, ap, ◌∙◌, arith, inl, inr, Result, Ok, Err, IfErr, ◌≡◌, ◌++◌, drop, refl, IfOk, OnErr, OnOk, ◌+◌, length-append, [], Option, Some, None, sym, append_assoc, append-nil}
use Rattle.der_core.specs.Words.{limit, WhyNotCounted, WhyNotWritten, EncodeError, no_encoding, too_long, no_room, another, written_is_shortest, Prints, WritesShortest, WhyOctetsNotCounted, Counts, WhyOctetsNotWritten, encode_error, Error, ErrorKind, RefusedAs, Receives, ReceivesNothing, TakesRoom, LacksRoom, WhyNotAppended, Tag, written_encodes, Spells, ok_of, Unwritten, IsLength, length_octets, IsExactly, Tlv, length_octets-only, Appends, tlv}
use Rattle.standard.specs.Statement.{Encodes, IsShortest}
use Rattle.der_core.specs.declared.error.ErrorKind.TheVariants.{NoRoom, Overflow}
use Rattle.der_core.specs.declared.error.ErrorKind.TheVariants as kind

module _ {S V : Type 0} {valid : S → Type 0} {printed : S → List ℕ} {means : S → V} {written : V → S}
    (law : WritesShortest valid printed means written) (v : V) where
  -- a value with an encoding has a valid spelling that is written
  pub written_valid : (encoding : List ℕ) → Prints valid printed means v encoding → valid (written v)
  written_valid encoding (s, e, ok, is) = subst (λ u. valid (written u)) e (law.valid s ok)

  -- where the spelling that is written passes the limit, each does
  written_too_long : limit < length (printed (written v)) → (encoding : List ℕ)
      → Spells valid printed means v encoding → ⊥
  written_too_long long encoding (few, (s, e, ok, is)) = elim (law.least s ok (omega (arith, ap length is))) [
    | inl same ↦ omega (arith, ap length is, ap (λ u. length (printed u)) (same ∙ ap written e))
    | inr less ↦ omega (arith, ap length is, ap (λ u. length (printed (written u))) e)
  ]

  -- why its octets aren't counted is why the value isn't
  value_uncounted_by : (k : EncodeError) → WhyOctetsNotCounted (valid (written v)) (printed (written v)) k
      → WhyNotCounted (valid (written v)) (Prints valid printed means) v k
  value_uncounted_by no_encoding h = λ encoding p. h (written_valid encoding p)
  value_uncounted_by too_long h = (h.0, written_too_long h.1)
  value_uncounted_by no_room h = h
  value_uncounted_by another h = h

  pub value_uncounted : (r : Result ℕ Error) → Counts (valid (written v)) (printed (written v)) r
      → IfErr r (λ e. WhyNotCounted (valid (written v)) (Prints valid printed means) v (encode_error e.kind))
  value_uncounted (Ok n) h = tt
  value_uncounted (Err e) h = value_uncounted_by (encode_error e.kind) h

  -- why they aren't written is why it isn't
  value_unwritten_by : (room : Option ℕ) (old new : List ℕ → Type 0) (k : EncodeError)
      → WhyOctetsNotWritten (valid (written v)) (printed (written v)) room old new k
      → WhyNotAppended (valid (written v)) (Prints valid printed means) v room k
  value_unwritten_by None old new no_encoding h = λ encoding p. h.0 (written_valid encoding p)
  value_unwritten_by (Some room) old new no_encoding h = λ encoding p. h.0 (written_valid encoding p)
  value_unwritten_by None old new too_long h = (h.0, written_too_long h.1)
  value_unwritten_by (Some room) old new too_long h = (h.0, written_too_long h.1)
  value_unwritten_by None old new no_room h = absurd h.2
  value_unwritten_by (Some room) old new no_room h = (printed (written v), written_is_shortest law v h.0 h.1, h.2)
  value_unwritten_by room old new another h = absurd h

  pub value_unwritten : {A : Type 0} (room : Option ℕ) (old new : List ℕ → Type 0) (r : Result A Error)
      → IfErr r
      (λ e. WhyOctetsNotWritten (valid (written v)) (printed (written v)) room old new (encode_error e.kind))
      → IfErr r (λ e. WhyNotAppended (valid (written v)) (Prints valid printed means) v room (encode_error e.kind))
  value_unwritten room old new (Ok x) h = tt
  value_unwritten room old new (Err e) h = value_unwritten_by room old new (encode_error e.kind) h

-- What the clauses of `encode_into` say, in the words of the statement.
module _ {S V : Type 0} {valid : S → Type 0} {printed : S → List ℕ} {means : S → V} {written : V → S}
    (law : WritesShortest valid printed means written) (v : V) where
  abbrev WhyValueNotWritten : ℕ → EncodeError → Type 0
  WhyValueNotWritten room k = WhyNotWritten (valid (written v)) (Prints valid printed means) v room k

  -- Each encoding is longer than the room.
  room_below_encodings : (room : ℕ) (k : EncodeError) → WhyValueNotWritten room k → (bytes : List ℕ)
      → Spells valid printed means v bytes
      → room < length bytes
  room_below_encodings room no_encoding h bytes p = absurd (h bytes p.1)
  room_below_encodings room too_long h bytes p = absurd (h.1 bytes p)
  room_below_encodings room no_room h bytes p = elim (h.1.1 bytes p) [
    | inl same ↦ omega (arith, ap length same)
    | inr longer ↦ omega arith
  ]
  room_below_encodings room another h bytes p = absurd h

  -- What the call left in the slice.
  pub encode_into_encodes : (old new : List ℕ) (r : Result ℕ Error)
      → IfOk r (λ n. (n ≡ length (printed (written v))) × (new ≡ printed (written v) ++ drop n old))
      → OnOk r (IsShortest (Spells valid printed means) v (printed (written v)))
      → IfErr r (λ e. WhyValueNotWritten (length old) (encode_error e.kind)) → OnErr r (new ≡ old)
      → length new ≡ length old
      → Encodes (Spells valid printed means) v old new (ok_of (λ n. n) r)
  encode_into_encodes old new (Ok n) is s why same kept =
      written_encodes (Spells valid printed means) v old new (printed (written v)) n s is.0 is.1 kept
  encode_into_encodes old new (Err e) is s why same kept =
      (same, room_below_encodings (length old) (encode_error e.kind) why)

  -- Its error, in the words of the statement.
  encode_into_unwritten_by : (room : ℕ) (k : EncodeError) → WhyValueNotWritten room k
      → Unwritten (λ u. valid (written u)) (Spells valid printed means) v room k
  encode_into_unwritten_by room no_encoding h = λ ok. h (printed (written v)) (written v, law.back v, ok, refl)
  encode_into_unwritten_by room too_long h = h
  encode_into_unwritten_by room no_room h = h
  encode_into_unwritten_by room another h = h

  pub encode_into_unwritten : {X : Type 0} (room : ℕ) (r : Result X Error)
      → IfErr r (λ e. WhyValueNotWritten room (encode_error e.kind))
      → IfErr r (λ e. Unwritten (λ u. valid (written u)) (Spells valid printed means) v room (encode_error e.kind))
  encode_into_unwritten room (Ok x) h = tt
  encode_into_unwritten room (Err e) h = encode_into_unwritten_by room (encode_error e.kind) h

-- The length of an encoding, by that of its contents.
pub tlv_length : (n t : ℕ) (c encoding : List ℕ) → length c ≡ n → Tlv t (IsExactly c) encoding
    → length encoding ≡ 1 + length (length_octets n) + n
tlv_length n t c encoding e p =
    let same : p.contents ≡ c = p.holds in
    let count : length p.contents ≡ n = ap length same ∙ e in
    let counted : IsLength n p.octets = rw count at p.counted in
    let form : p.octets ≡ length_octets n = length_octets-only n p.octets counted in
    omega (arith, ap length p.written, ap length form, length-append p.octets p.contents)

-- No octets take no room.
pub takes_none : (room : Option ℕ) → TakesRoom 0 room room
takes_none None = tt
takes_none (Some left) = omega arith

-- Octets take the room of both their parts.
pub takes_both : {all : ℕ} (m n : ℕ) (room mid left : Option ℕ) → all ≡ m + n → TakesRoom m room mid
    → TakesRoom n mid left → TakesRoom all room left
takes_both m n None None None e p q = tt
takes_both m n None None (Some c) e p q = absurd q
takes_both m n None (Some b) left e p q = absurd p
takes_both m n (Some a) None left e p q = absurd p
takes_both m n (Some a) (Some b) None e p q = absurd q
takes_both m n (Some a) (Some b) (Some c) e p q = omega arith

-- Where there is too little room for what is left, there is too little for all.
lacks_behind : {all : ℕ} (m n : ℕ) (room mid : Option ℕ) → all ≡ m + n → TakesRoom m room mid → LacksRoom n mid
    → LacksRoom all room
lacks_behind m n room None e p q = absurd q
lacks_behind m n None (Some b) e p q = absurd p
lacks_behind m n (Some a) (Some b) e p q = omega arith

-- Where there is too little room, there is too little for more.
pub lacks_more : {m n : ℕ} (room : Option ℕ) → m ≤ n → LacksRoom m room → LacksRoom n room
lacks_more None l p = absurd p
lacks_more (Some left) l p = omega arith

-- Octets were written by both their parts.
pub receives_both : {octets : List ℕ} (front back : List ℕ) (old mid new : List ℕ → Type 0) → octets ≡ front ++ back
    → Receives front old mid → Receives back mid new → Receives octets old new
receives_both front back old mid new t p q = λ before h.
    subst (λ o. new (before ++ o)) (sym t) (subst new (append_assoc before front back) (q (before ++ front) (p before h)))

-- None were written.
pub receives_none : (old new : List ℕ → Type 0) → ReceivesNothing old new → Receives [] old new
receives_none old new p = λ before h. subst new (sym (append-nil before)) (p before h)

-- Where the writing of one part after another stops: behind what was written whole.
stops_behind : {here has : Type 0} (encoding front back : List ℕ) (old mid new : List ℕ → Type 0) (room left : Option ℕ)
    (k : EncodeError) → here → has → encoding ≡ front ++ back → length encoding ≤ limit → Receives front old mid
    → TakesRoom (length front) room left
    → WhyOctetsNotWritten here back left mid new k → WhyOctetsNotWritten has encoding room old new k
stops_behind encoding front back old mid new room left no_encoding y h t l m r s = absurd (s.0 y)
stops_behind encoding front back old mid new room left too_long y h t l m r s =
    absurd (omega (arith, s.1, l, ap length t, length-append front back))
stops_behind encoding front back old mid new room left no_room y h t l m r s = (
  h,
  l,
  lacks_behind _ _ room left (ap length t ∙ length-append front back) r s.2,
  (
    front ++ s.3.0,
    s.3.1,
    append_assoc front s.3.0 s.3.1 ∙ ap (λ x. front ++ x) s.3.2 ∙ sym t,
    receives_both front s.3.0 old mid new refl m s.3.3,
  ),
)
stops_behind encoding front back old mid new room left another y h t l m r s = absurd s

-- in the first part
stops_in_front : {here has : Type 0} (encoding front back : List ℕ) (old new : List ℕ → Type 0) (room : Option ℕ)
    (k : EncodeError) → here → has → encoding ≡ front ++ back → length encoding ≤ limit
    → WhyOctetsNotWritten here front room old new k → WhyOctetsNotWritten has encoding room old new k
stops_in_front encoding front back old new room no_encoding y h t l s = absurd (s.0 y)
stops_in_front encoding front back old new room too_long y h t l s =
    absurd (omega (arith, s.1, l, ap length t, length-append front back))
stops_in_front encoding front back old new room no_room y h t l s = (
  h,
  l,
  lacks_more room (omega (arith, ap length t, length-append front back)) s.2,
  (s.3.0, s.3.1 ++ back, sym (append_assoc s.3.0 s.3.1 back) ∙ ap (λ x. x ++ back) s.3.2 ∙ sym t, s.3.3),
)
stops_in_front encoding front back old new room another y h t l s = absurd s

-- before anything was written
stops_at_once : {has : Type 0} (encoding : List ℕ) (old new : List ℕ → Type 0) (room : Option ℕ) → has
    → length encoding ≤ limit → LacksRoom (length encoding) room → ReceivesNothing old new
    → WhyOctetsNotWritten has encoding room old new no_room
stops_at_once encoding old new room h l r e = (h, l, r, ([], encoding, refl, receives_none old new e))

-- One part was appended, or a beginning of it, behind what was appended before.
pub appends_behind : {W A here has : Type 0} {Room : W → Option ℕ} {Written : W → List ℕ → Type 0} {old mid new : W}
    {r : Result A Error} (encoding front back : List ℕ)
    → here → has → encoding ≡ front ++ back → length encoding ≤ limit → Receives front (Written old) (Written mid)
    → TakesRoom (length front) (Room old) (Room mid)
    → Appends here back Room Written mid new r → Appends has encoding Room Written old new r
appends_behind {Written = Written} {old} {mid} {new} {r = Ok x} encoding front back y h t l m n a = record {
  has = (h, l);
  written = receives_both front back (Written old) (Written mid) (Written new) t m a.written;
  room = takes_both _ _ _ _ _ (ap length t ∙ length-append front back) n a.room;
  left = tt;
}
appends_behind {r = Err e} encoding front back y h t l m n a = record {
  has = tt;
  written = tt;
  room = tt;
  left = stops_behind encoding front back _ _ _ _ _ _ y h t l m n a.left;
}

-- Writing the first part fails, and so writing the whole does.
pub appends_in_front : {W A B here has : Type 0} {Room : W → Option ℕ} {Written : W → List ℕ → Type 0} {old new : W}
    {e : Error} (encoding front back : List ℕ)
    → here → has → encoding ≡ front ++ back → length encoding ≤ limit
    → Appends {A = B} here front Room Written old new (Err e)
    → Appends {A = A} has encoding Room Written old new (Err e)
appends_in_front encoding front back y h t l a = record {
  has = tt;
  written = tt;
  room = tt;
  left = stops_in_front encoding front back _ _ _ _ y h t l a.left;
}

-- There was too little room for the first part, and nothing was written.
pub appends_nothing : {W A has : Type 0} {Room : W → Option ℕ} {Written : W → List ℕ → Type 0} {old new : W} {e : Error}
    {encoding : List ℕ} → has → length encoding ≤ limit → e.kind ≡ NoRoom → LacksRoom (length encoding) (Room old)
    → ReceivesNothing (Written old) (Written new)
    → Appends {A = A} has encoding Room Written old new (Err e)
appends_nothing h l k full same =
    record { has = tt; written = tt; room = tt; left = rw k (stops_at_once _ _ _ _ h l full same) }

-- There are too many octets, and nothing was written.
pub appends_too_long : {W A has : Type 0} {Room : W → Option ℕ} {Written : W → List ℕ → Type 0} {old : W} {e : Error}
    {encoding : List ℕ} → has → e.kind ≡ Overflow → limit < length encoding → Appends {A = A} has encoding Room Written old old (Err e)
appends_too_long h k many = record { has = tt; written = tt; room = tt; left = rw k (h, many, λ before o. o) }

-- All octets were written by one call.
pub appends_at_once : {W A has : Type 0} {Room : W → Option ℕ} {Written : W → List ℕ → Type 0} {old new : W}
    {encoding : List ℕ} (r : Result A Error) → has → length encoding ≤ limit
    → OnOk r (Receives encoding (Written old) (Written new)) → OnOk r (TakesRoom (length encoding) (Room old) (Room new))
    → IfErr r (λ e. (e.kind ≡ NoRoom) × LacksRoom (length encoding) (Room old))
    → OnErr r (ReceivesNothing (Written old) (Written new) × (Room new ≡ Room old))
    → Appends has encoding Room Written old new r
appends_at_once (Ok x) h l w n full same = record { has = (h, l); written = w; room = n; left = tt }
appends_at_once (Err e) h l w n full same = appends_nothing h l full.0 full.1 same.0

-- What a call counts of an encoding, by the length of its contents.
pub counts_encoding : {P : Type 0} (tag : ℕ) (contents : List ℕ) (n : ℕ) (r : Result ℕ Error) → P → n ≡ length contents
    → IfOk r (λ total. (total ≡ 1 + length (length_octets n) + n) × (total ≤ limit))
    → IfErr r (λ e. (e.kind ≡ kind.Overflow) × (limit < 1 + length (length_octets n) + n))
    → Counts P (tlv tag contents) r
counts_encoding tag contents n (Ok m) p e ok err = (
  p,
  omega (arith, ap (λ k. length (length_octets k)) e, length-append (length_octets (length contents)) contents),
  ok.1,
)
counts_encoding tag contents n (Err x) p e ok err =
    rw err.0 (
      p,
      omega (arith, ap (λ k. length (length_octets k)) e, length-append (length_octets (length contents)) contents),
    )

-- The kind of the error.
abbrev kind_in : {A : Type 0} → Result A Error → ErrorKind
kind_in (Ok x) = NoRoom
kind_in (Err e) = e.kind

-- A value that has octets isn't refused.
pub not_refused : {W A Has : Type 0} {octets : List ℕ} {Room : W → Option ℕ} {Written : W → List ℕ → Type 0} {old new : W}
    (Tags : Tag → Type 0) (r : Result A Error) → Has → Appends Has octets Room Written old new r → RefusedAs Tags r
not_refused Tags (Ok x) has appends tag e = cc
not_refused Tags (Err e) has appends tag same =
    let is : e.kind ≡ kind.Value tag = ap kind_in same in
    absurd ((rw is at appends.left).0 has)

-- An error made with a tag is refused with this one.
pub refused_with : {A : Type 0} (t : Tag) (e : Error) → e.kind ≡ kind.Value t → RefusedAs {A = A} (λ tag. tag ≡ t) (Err e)
refused_with t e is tag same = cc
