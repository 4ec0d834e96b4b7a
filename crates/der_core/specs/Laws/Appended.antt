-- Of a value that has octets, the same is appended whatever says that it has them.
use Rattle.std.specs.Prelude.{ℕ, List, Option, Result, Ok, Err}
use Rattle.der_core.specs.Document.{EncodeError, another, no_encoding, no_room, too_long}
use Rattle.der_core.specs.Writing.{Appends, WhyOctetsNotWritten, encode_error}
use Rattle.der_core.specs.declared.error.Error.{Error}

module _ {P Q : Type 0} (p : P) (q : Q) where
  octets_unwritten_as : (octets : List ℕ) (room : Option ℕ) (old new : List ℕ → Type 0) (k : EncodeError)
      → WhyOctetsNotWritten P octets room old new k → WhyOctetsNotWritten Q octets room old new k
  octets_unwritten_as octets room old new no_encoding h = absurd (h.0 p)
  octets_unwritten_as octets room old new too_long h = (q, h.1, h.2)
  octets_unwritten_as octets room old new no_room h = (q, h.1, h.2, h.3)
  octets_unwritten_as octets room old new another h = h

  pub octets_appended_as : {W A : Type 0} (octets : List ℕ) (Room : W → Option ℕ) (Written : W → List ℕ → Type 0)
      (old new : W)
      (r : Result A Error) → Appends P octets Room Written old new r → Appends Q octets Room Written old new r
  octets_appended_as octets Room Written old new (Ok x) h =
      record { has = (q, h.has.1); written = h.written; room = h.room; left = h.left }
  octets_appended_as octets Room Written old new (Err e) h = record {
    has = h.has;
    written = h.written;
    room = h.room;
    left = octets_unwritten_as octets (Room old) (Written old) (Written new) (encode_error e.kind) h.left;
  }
