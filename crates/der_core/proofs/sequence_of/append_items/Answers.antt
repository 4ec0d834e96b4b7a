-- `append_items` appends the encodings of the items, one after the other, and stops in the first that fails.
use Rattle.std.proofs.Common.{arith, rules, refl, ap, sym, ◌∙◌, subst, length-append, ◌≡◌, ◌+◌, ◌≤◌, ◌<◌, ◌++◌, length, get_or, take, drop, List, ℕ}
use Rattle.der_core.specs.Words.{err_from_is_err_and, AllHave, all_encodings, limit}
use Rattle.der_core.proofs.Items.{encodings_more, encodings_around, AllHave-at}
use Rattle.der_core.proofs.Writing.{appends_in_front, appends_behind, receives_both, takes_both}
use Rattle.der_core.proofs.sequence_of.append_items.Goals as goal

-- `x` stands at place `i` of `xs`. Its encoding stands between those of the items before it and behind it.
module _ {T : Type 0} (has : T → Type 0) (encoding : T → List ℕ) (xs : List T) (i : ℕ) (x : T) (h : i < length xs)
    (e : x ≡ get_or xs i x) where
  -- Those of the items up to this one.
  encodings_with_item : all_encodings encoding (take (i + 1) xs) ≡ all_encodings encoding (take i xs) ++ encoding x
  encodings_with_item =
      encodings_more has encoding xs i x h ∙ ap (λ y. all_encodings encoding (take i xs) ++ encoding y) (sym e)

  -- Those of all items, with this one's in the middle.
  encodings_around_item : all_encodings encoding xs ≡ all_encodings encoding (take i xs)
      ++ (encoding x ++ all_encodings encoding (drop (i + 1) xs))
  encodings_around_item =
      encodings_around has encoding xs i x h
      ∙ ap (λ y. all_encodings encoding (take i xs) ++ (encoding y ++ all_encodings encoding (drop (i + 1) xs))) (sym e)

  -- If all items are valid, then this one is.
  item_has : AllHave has xs → has x
  item_has p = subst has (sym e) (AllHave-at has encoding xs i x h p)

-- The encoding of an item is within the limit, as those of all are.
pub append-requires-clause-fits : goal.append-requires-clause-fits
append-requires-clause-fits g c =
    let valid = λ (x : g.row.T.Denot). g.T.Encoding.valid (g.T.Encoding.written (g.T.Encoding.value x)) in
    let printed = λ (x : g.row.T.Denot). g.T.Encoding.printed (g.T.Encoding.written (g.T.Encoding.value x)) in
    let xs = c.args.items.now in
    let x = c.item-item.result in
    let i = c.loop-item.item-index in
    let few : length (all_encodings printed xs) ≤ limit = c.requires.fits in
    let whole = encodings_around_item valid printed xs i x c.loop-item-test.true c.item-item.is in
    let rest = all_encodings printed (drop (i + 1) xs) in
    omega (
      arith,
      few,
      ap length whole,
      length-append (all_encodings printed (take i xs)) (printed x ++ rest),
      length-append (printed x) rest,
    )

-- At the `?` after `item.append`: the items before `x` were written, and the writing stops in `x`. So that of all
-- stops there. `rest` is what would follow.
pub returns-in_err-append-clause-appends : goal.returns-in_err-append-clause-appends
returns-in_err-append-clause-appends g c =
    let p = err_from_is_err_and c.from_residual.result c.from_residual.ensures.1 in
    let valid = λ (x : g.row.T.Denot). g.T.Encoding.valid (g.T.Encoding.written (g.T.Encoding.value x)) in
    let printed = λ (x : g.row.T.Denot). g.T.Encoding.printed (g.T.Encoding.written (g.T.Encoding.value x)) in
    let xs = c.args.items.now in
    let x = c.item-item.result in
    let i = c.loop-item.item-index in
    let all : AllHave valid xs = c.requires.has in
    let few : length (all_encodings printed xs) ≤ limit = c.requires.fits in
    let has = item_has valid printed xs i x c.loop-item-test.true c.item-item.is all in
    let whole = encodings_around_item valid printed xs i x c.loop-item-test.true c.item-item.is in
    let rest = all_encodings printed (drop (i + 1) xs) in
    let front = length-append (all_encodings printed (take i xs)) (printed x ++ rest) in
    let less : length (printed x ++ rest) ≤ limit = omega (arith, ap length whole) in
    rw (p.1, p.2) (appends_behind _ _ _ has all whole few c.loop-item.invariant.written c.loop-item.invariant.room
    (appends_in_front _ _ rest has has refl less c.in_err-append.ensures.appends))

-- The encoding of `x` was written behind those of the items before it, and took its room.
pub loop-item-preserved : goal.loop-item-preserved
loop-item-preserved g c =
    let valid = λ (x : g.row.T.Denot). g.T.Encoding.valid (g.T.Encoding.written (g.T.Encoding.value x)) in
    let printed = λ (x : g.row.T.Denot). g.T.Encoding.printed (g.T.Encoding.written (g.T.Encoding.value x)) in
    let x = c.item-item.result in
    let front = all_encodings printed (take c.loop-item.item-index c.args.items.now) in
    let q = encodings_with_item valid printed c.args.items.now c.loop-item.item-index x c.loop-item-test.true
    c.item-item.is in
    let appends = c.in_ok-append.ensures.appends in
    let written = g.W.Writer.written in
    record {
      written =
          receives_both front (printed x) (written c.args.writer.now) (written c.loop-item.writer)
          (written c.append.new.writer) q c.loop-item.invariant.written appends.written;
      room = takes_both _ _ _ _ _ (ap length q ∙ length-append front (printed x)) c.loop-item.invariant.room appends.room;
      kept = search rules;
    }
