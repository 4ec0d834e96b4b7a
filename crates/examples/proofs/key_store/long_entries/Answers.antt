-- `long_entries` keeps the entries of long keys, in order, and refuses what is no store.
use Rattle.std.proofs.Common.{◌≡◌, ◌++◌, ◌-◌, ◌∙◌, inr, length, refl, rules, subst, sym, take}
use Rattle.pkcs1.specs.Words.{held_view}
use Rattle.examples.proofs.KeyStore.{Walked, none_left, refused, some_left, walk_ends, walked_long, walked_short}
use Rattle.examples.proofs.key_store.long_entries.Goals as goal

-- `first_entry` has found no entry in front of a rest that isn't empty, so the whole is no store.
pub returns-in-None-clause-err : goal.returns-in-None-clause-err
returns-in-None-clause-err c =
    let some = some_left c.is_empty.result (length c.loop-rest.rest.now) c.loop-rest-test.true c.is_empty.ensures in
    inr (
      refl,
      refused c.args.store.now c.loop-rest.rest.now c.loop-rest.kept.items some (c.in-None.ensures.none refl)
          c.loop-rest.invariant,
    )

-- A long key: its entry was put behind those kept. `is_err` is the test of whether memory ran out for it.
pub loop-rest-preserved-else-is_err : goal.loop-rest-preserved-else-is_err
loop-rest-preserved-else-is_err c =
    let rest = c.loop-rest.rest.now in
    let behind = c.in-Some.first.1.now in
    let kept : c.extend_from_slice.new.self.items ≡ c.loop-rest.kept.items ++ take (length rest - length behind) rest =
    search rules in
    subst (Walked c.args.store.now behind) (sym kept)
    (walked_long c.args.store.now rest behind (held_view c.in-Some.first.0) c.in-Some.ensures.some c.loop-rest.kept.items
    (sym c.is_long.ensures ∙ c.if-is_long.true) c.loop-rest.invariant)

-- A key that isn't long: the kept ones stay as they are.
pub loop-rest-preserved : goal.loop-rest-preserved
loop-rest-preserved c =
    walked_short c.args.store.now c.loop-rest.rest.now c.in-Some.first.1.now (held_view c.in-Some.first.0)
    c.in-Some.ensures.some c.loop-rest.kept.items (sym c.is_long.ensures ∙ c.if-is_long.false) c.loop-rest.invariant

-- After the last round the rest is empty.
pub returns-clause-ok : goal.returns-clause-ok
returns-clause-ok c =
    let none = none_left c.is_empty.result (length c.loop-rest.rest.now) c.loop-rest-test.false c.is_empty.ensures in
    walk_ends c.args.store.now c.loop-rest.rest.now c.loop-rest.kept.items none c.loop-rest.invariant
