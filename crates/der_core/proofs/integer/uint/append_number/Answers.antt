-- `append_number`. `is` says that what is printed of the number is what is made of its bytes.
use Rattle.std.proofs.Common.{arith, sym, subst, ◌∷◌, ◌++◌, ◌≡◌, ◌≤◌, [], length}
use Rattle.der_core.specs.Words.{integer_contents, holds_canonical, number_contents_as, limit, Appends}
use Rattle.der_core.proofs.Writing.{appends_at_once, appends_behind}
use Rattle.der_core.proofs.integer.uint.append_number.Goals.{then-bytes-ge128+in_ok-write, else-bytes-ge128}
use Rattle.der_core.proofs.integer.uint.append_number.Goals as goal

-- At the last `write`, `write-2`, which writes the bytes: behind the octet 0 if the first byte is 128 or more, or else
-- alone. `b.writer-is` says which writer it was given.
pub returns-clause-appends : goal.returns-clause-appends
returns-clause-appends g c =
    let bytes = c.args.bytes.now in
    let w = g.W.Writer in
    let is = number_contents_as bytes (holds_canonical bytes c.requires.canonical) in
    let fits : length (integer_contents bytes) ≤ limit = rw is at c.requires.fits in
    let told : Appends (Unit {0}) (integer_contents bytes) w.room w.written c.args.writer.now c.write-2.new.self
    c.write-2.result = elim c.if-bytes-ge128.branch [
      | then-bytes-ge128+in_ok-write b ↦
          let split : integer_contents bytes ≡ (0 ∷ []) ++ bytes = grind arith in
          let few : length bytes ≤ limit = grind arith in
          let last = rw b.writer-is at c.write-2.ensures in
          let first = b.in_ok-write.ensures in
          appends_behind {here = Unit {0}} _ _ _ tt tt split fits first.written first.room
          (appends_at_once _ tt few last.written last.room last.err last.nothing)
      | else-bytes-ge128 b ↦
          let same : integer_contents bytes ≡ bytes = grind arith in
          let few : length bytes ≤ limit = grind arith in
          let last = rw b.writer-is at c.write-2.ensures in
          rw same (appends_at_once _ tt few last.written last.room last.err last.nothing)
    ] in
    subst (λ octets. Appends (Unit {0}) octets w.room w.written c.args.writer.now c.write-2.new.self c.write-2.result)
    (sym is) told
