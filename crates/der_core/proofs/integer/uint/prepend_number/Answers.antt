-- `prepend_number`: the bytes are received, and 0 in front of them if the first is 128 or more.
use Rattle.std.proofs.Common.{sym, subst, [], ◌∷◌, inl, inr, length}
use Rattle.der_core.specs.Words.{holds_canonical}
use Rattle.der_core.proofs.Integers.{contents_large, contents_sign, contents_small}
use Rattle.der_core.proofs.integer.uint.prepend_number.Goals as goal

pub prepend-requires : goal.prepend-requires
prepend-requires g c =
    elim (contents_sign c.args.bytes.now (holds_canonical c.args.bytes.now c.requires.canonical)) [
      | inl is ↦ subst (λ o. g.W.Prepend.has_room c.args.writer.now (length o)) is c.requires.room.0
      | inr is ↦ (g.met.W.Prepend.room_for_parts (0 ∷ []) _ _
          (subst (λ o. g.W.Prepend.has_room c.args.writer.now (length o) × g.W.Prepend.length_fits (length o)) is
          c.requires.room)).0.0
    ]

pub prepend-requires-then-bytes-ge128 : goal.prepend-requires-then-bytes-ge128
prepend-requires-then-bytes-ge128 g c =
    let bytes = c.args.bytes.now in
    let is = contents_large bytes (holds_canonical bytes c.requires.canonical) c.if-bytes-ge128.true in
    ((g.met.W.Prepend.room_for_parts (0 ∷ []) _ _
    (subst (λ o. g.W.Prepend.has_room c.args.writer.now (length o) × g.W.Prepend.length_fits (length o)) is
    c.requires.room)).1 _ c.prepend.ensures).0

pub returns-then-bytes-ge128 : goal.returns-then-bytes-ge128
returns-then-bytes-ge128 g c =
    let bytes = c.args.bytes.now in
    subst (λ octets. g.W.Prepend.prepended octets c.args.writer.now c.prepend-then-bytes-ge128.new.self)
    (sym (contents_large bytes (holds_canonical bytes c.requires.canonical) c.if-bytes-ge128.true))
    (g.met.W.Prepend.prepended_through (0 ∷ []) _ _ _ _ c.prepend.ensures c.prepend-then-bytes-ge128.ensures)

pub returns-else-bytes-ge128 : goal.returns-else-bytes-ge128
returns-else-bytes-ge128 g c =
    let bytes = c.args.bytes.now in
    subst (λ octets. g.W.Prepend.prepended octets c.args.writer.now c.prepend.new.self)
    (sym (contents_small bytes (holds_canonical bytes c.requires.canonical) c.if-bytes-ge128.false)) c.prepend.ensures
