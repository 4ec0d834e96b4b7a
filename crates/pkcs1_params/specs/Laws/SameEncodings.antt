-- Values that have the same encodings, and values whose shortest encodings are the same.
use Rattle.std.proofs.Common.{ℕ, List, ◌≡◌, subst, take, ◌↔◌, Option, Some, None, [], arith, sym, inl, inr, append-nil}
use Rattle.der_core.specs.Words.{EncodeError, no_encoding, too_long, no_room, another, Unwritten, encode_error}
use Rattle.pkcs1_params.specs.Meanings.{Refuses, AreDelimited}
use Rattle.pkcs1_params.specs.declared.error.Error.{Error}
use Rattle.standard.specs.Statement.{Encodes, IsShortest, SameByShortest}
use Rattle.pkcs1_params.specs.Laws.Answers.{asn1_as}

-- A value, and another that has the same encodings.
module _ {V W : Type 0} (Encoding : V → List ℕ → Type 0) (Other : W → List ℕ → Type 0) (v : V) (w : W)
    (same : (bytes : List ℕ) → Encoding v bytes ↔ Other w bytes) where
  pub shortest_as : (bytes : List ℕ) → IsShortest Encoding v bytes → IsShortest Other w bytes
  shortest_as bytes s = ((same bytes).0 s.0, λ other p. s.1 other ((same other).1 p))

  pub encodes_as : (old new : List ℕ) (n : Option ℕ) → Encodes Encoding v old new n → Encodes Other w old new n
  encodes_as old new (Some n) e = (e.0, shortest_as (take n new) e.1, e.2)
  encodes_as old new None e = (e.0, λ bytes p. e.1 bytes ((same bytes).1 p))

  module _ (Is : V → Type 0) (Valid : W → Type 0) (valid : Is v ↔ Valid w) where
    pub unwritten_of_same_encodings : (room : ℕ) (k : EncodeError) → Unwritten Is Encoding v room k
        → Unwritten Valid Other w room k
    unwritten_of_same_encodings room no_encoding h = λ ok. h (valid.1 ok)
    unwritten_of_same_encodings room too_long h = (valid.0 h.0, λ bytes p. h.1 bytes ((same bytes).1 p))
    unwritten_of_same_encodings room no_room h = (h.0, shortest_as h.0 h.1, h.2)
    unwritten_of_same_encodings room another h = h

    pub refuses_as : (room : ℕ) (e : Error) → Refuses Is Encoding v room e → Refuses Valid Other w room e
    refuses_as room = asn1_as (λ e. unwritten_of_same_encodings room (encode_error e.kind))

module _ {V : Type 0} (Encoding : V → List ℕ → Type 0) where
  one_shortest : (v : V) (s t : List ℕ) → IsShortest Encoding v s → IsShortest Encoding v t → s ≡ t
  one_shortest v s t p q = elim (p.1 t q.0) [
    | inl e ↦ sym e
    | inr l ↦ elim (q.1 s p.0) [ inl e ↦ e | inr k ↦ absurd (omega arith) ]
  ]

  pub same_by_shortest : AreDelimited Encoding → SameByShortest Encoding
  same_by_shortest delimited v w a b s t p q x y = (
    λ e. one_shortest w s t (subst (λ u. IsShortest Encoding u s) e x) y,
    λ e. (delimited.1 v w t [] (subst (Encoding v) e x.0) (subst (Encoding w) (sym (append-nil t)) y.0)).0,
  )
