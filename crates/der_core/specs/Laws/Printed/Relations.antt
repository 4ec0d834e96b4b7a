-- From spellings to a relation that is written out, as `Statement.antt` has it.
use Rattle.std.proofs.Common.{ℕ, List, ◌≡◌, ◌≤◌, length, refl, sym, subst, ap, ◌∙◌, arith, Option, Some, None, take, drop, length-append, inl, inr, option_map, ◌↔◌, ◌++◌, IfErr, Result, Ok, Err}
use Rattle.std.proofs.Math.Seq.{take-append_seam, drop-append_seam}
use Rattle.der_core.specs.declared.error.Error.{Error}
use Rattle.der_core.specs.Document.{EncodeError, no_encoding, too_long, no_room, another}
use Rattle.der_core.specs.Length.{limit}
use Rattle.der_core.specs.Printed.{Spells, ok_of}
use Rattle.der_core.specs.Reading.{DecodesOrMemory}
use Rattle.der_core.specs.Writing.{Unwritten, encode_error}
use Rattle.standard.specs.Statement.{Decodes, Encodes, IsShortest}

-- A second relation says the same of the values that stand for those of a first one.
pub record StatedAs {V W : Type 0} (Is : V → Type 0) (E : V → List ℕ → Type 0) (Valid : W → Type 0)
    (F : W → List ℕ → Type 0) (to : V → W) : Type 0 where
  pub from : W → V
  pub back : (w : W) → to (from w) ≡ w
  pub valid : (v : V) → Is v ↔ Valid (to v)
  pub same : (v : V) (bytes : List ℕ) → E v bytes ↔ F (to v) bytes

-- So what is promised of the one is promised of the other.
module _ {V W : Type 0} {Is : V → Type 0} {E : V → List ℕ → Type 0} {Valid : W → Type 0} {F : W → List ℕ → Type 0}
    {to : V → W} (law : StatedAs Is E Valid F to) where
  from_stated : (w : W) (bytes : List ℕ) → F w bytes → E (law.from w) bytes
  from_stated w bytes p = (law.same (law.from w) bytes).1 (subst (λ u. F u bytes) (sym (law.back w)) p)

  pub decodes_stated : {X Z : Type 0} (value : X → V) (bytes : List ℕ) (r : Result X Z)
      → Decodes E bytes (ok_of value r) → Decodes F bytes (ok_of (λ x. to (value x)) r)
  decodes_stated value bytes (Ok x) p = (
    (law.same (value x) bytes).0 p.0,
    λ w q. sym (law.back w) ∙ ap to (p.1 (law.from w) (from_stated w bytes q)),
  )
  decodes_stated value bytes (Err e) p = λ w q. p (law.from w) (from_stated w bytes q)

  pub memory_stated : {X : Type 0} (value : X → V) (asked : Type 0) (bytes : List ℕ) (r : Result X Error)
      → DecodesOrMemory value E asked bytes r → DecodesOrMemory (λ x. to (value x)) F asked bytes r
  memory_stated value asked bytes (Ok x) p = decodes_stated {Z = Error} value bytes (Ok x) p
  memory_stated value asked bytes (Err e) (inl w) = inl w
  memory_stated value asked bytes (Err e) (inr p) = inr (decodes_stated value bytes (Err e) p)

  pub shortest_stated : (v : V) (bytes : List ℕ) → IsShortest E v bytes → IsShortest F (to v) bytes
  shortest_stated v bytes s = ((law.same v bytes).0 s.0, λ other p. s.1 other ((law.same v other).1 p))

  pub encodes_stated : (v : V) (old new : List ℕ) (n : Option ℕ) → Encodes E v old new n → Encodes F (to v) old new n
  encodes_stated v old new (Some n) e = (e.0, shortest_stated v (take n new) e.1, e.2)
  encodes_stated v old new None e = (e.0, λ bytes p. e.1 bytes ((law.same v bytes).1 p))

  unwritten_stated_by : (v : V) (room : ℕ) (k : EncodeError) → Unwritten Is E v room k → Unwritten Valid F (to v) room k
  unwritten_stated_by v room no_encoding h = λ ok. h ((law.valid v).1 ok)
  unwritten_stated_by v room too_long h = ((law.valid v).0 h.0, λ bytes p. h.1 bytes ((law.same v bytes).1 p))
  unwritten_stated_by v room no_room h = (h.0, shortest_stated v h.0 h.1, h.2)
  unwritten_stated_by v room another h = h

  pub unwritten_stated : {X : Type 0} (v : V) (room : ℕ) (r : Result X Error)
      → IfErr r (λ e. Unwritten Is E v room (encode_error e.kind))
      → IfErr r (λ e. Unwritten Valid F (to v) room (encode_error e.kind))
  unwritten_stated v room (Ok x) h = tt
  unwritten_stated v room (Err e) h = unwritten_stated_by v room (encode_error e.kind) h

-- A type whose values are spelled as themselves, by a function that changes nothing. A relation that is written out says
-- the same.
module _ {V W : Type 0} {valid : V → Type 0} {printed : V → List ℕ} {Valid : W → Type 0} {F : W → List ℕ → Type 0}
    {to : V → W} (spelled : V → V) (itself : (v : V) → spelled v ≡ v) (from : W → V) (back : (w : W) → to (from w) ≡ w)
  where
    pub stated : ((v : V) → valid v ↔ Valid (to v))
        → ((v : V) (bytes : List ℕ) → ((length bytes ≤ limit) × valid v × (bytes ≡ printed v)) ↔ F (to v) bytes)
        → StatedAs (λ v. valid (spelled v)) (Spells valid printed spelled) Valid F to
    stated holds same = record {
      from = from;
      back = back;
      valid = λ v.
          (λ p. (holds v).0 (subst valid (itself v) p), λ p. subst valid (sym (itself v)) ((holds v).1 p));
      same = λ v bytes. (
        λ (few, (s, is, ok, made)).
            let e : s ≡ v = sym (itself s) ∙ is in (same v bytes).0 (few, subst valid e ok, made ∙ ap printed e),
        λ p. let q = (same v bytes).1 p in (q.0, (v, itself v, q.1, q.2)),
      );
    }

-- An OPTIONAL part that is spelled as itself.
pub optional_itself : {V : Type 0} (o : Option V) → option_map (λ v. v) o ≡ o
optional_itself None = refl
optional_itself (Some v) = refl

-- An encoding was written over the front of a slice.
pub written_encodes : {V : Type 0} (E : V → List ℕ → Type 0) (v : V) (old new encoding : List ℕ) (n : ℕ)
    → IsShortest E v encoding → n ≡ length encoding → new ≡ encoding ++ drop n old → length new ≡ length old
    → Encodes E v old new (Some n)
written_encodes E v old new encoding n shortest count is kept =
    let front : take n new ≡ encoding =
    ap (take n) is ∙ ap (λ m. take m (encoding ++ drop n old)) count ∙ take-append_seam encoding (drop n old) in
    let rest : drop n new ≡ drop n old =
    ap (drop n) is ∙ ap (λ m. drop m (encoding ++ drop n old)) count ∙ drop-append_seam encoding (drop n old) in (
      omega (arith, count, kept, ap length is, length-append encoding (drop n old)),
      subst (IsShortest E v) (sym front) shortest,
      rest,
    )
