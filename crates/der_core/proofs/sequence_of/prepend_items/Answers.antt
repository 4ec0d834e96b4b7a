-- `prepend_items` may write each item: there was room for all, and only those after it have taken theirs.
use Rattle.std.proofs.Common.{arith, ap, sym, subst, ◌∙◌, ◌≡◌, ◌+◌, ◌-◌, ◌≤◌, ◌<◌, ◌++◌, length, get_or, take, drop, List, ℕ}
use Rattle.der_core.specs.Words.{all_encodings}
use Rattle.der_core.proofs.Items.{encodings_around}
use Rattle.der_core.proofs.sequence_of.prepend_items.Goals as goal

-- the encodings of all items, with that of the one in front of place `left` in the middle
around_item : {T : Type 0} (has : T → Type 0) (encoding : T → List ℕ) (xs : List T) (left : ℕ) (x : T) → 0 < left
    → left ≤ length xs → x ≡ get_or xs (left - 1) x
    → all_encodings encoding xs ≡ all_encodings encoding (take (left - 1) xs)
    ++ (encoding x ++ all_encodings encoding (drop left xs))
around_item has encoding xs left x p l e =
    let next : left - 1 + 1 ≡ left = omega arith in
    encodings_around has encoding xs (left - 1) x (omega arith)
    ∙ ap (λ y. all_encodings encoding (take (left - 1) xs) ++ (encoding y ++ all_encodings encoding (drop (left - 1 + 1) xs)))
    (sym e)
    ∙ ap (λ k. all_encodings encoding (take (left - 1) xs) ++ (encoding x ++ all_encodings encoding (drop k xs))) next

pub prepend-requires-clause-room : goal.prepend-requires-clause-room
prepend-requires-clause-room g c =
    let valid = λ (x : g.row.T.Denot). g.T.Encoding.valid (g.T.Encoding.written (g.T.Encoding.value x)) in
    let printed = λ (x : g.row.T.Denot). g.T.Encoding.printed (g.T.Encoding.written (g.T.Encoding.value x)) in
    let whole =
    around_item valid printed c.args.items.now c.loop-left.left c.index-items-left.result c.loop-left-test.true
    c.loop-left.invariant.0 c.index-items-left.is in
    let room = subst (λ o. g.W.Prepend.has_room c.args.writer.now (length o) × g.W.Prepend.length_fits (length o)) whole c.requires.room in
    (g.met.W.Prepend.room_for_parts _ _ _ (g.met.W.Prepend.room_for_parts _ _ _ room).0).1 _ c.loop-left.invariant.1
