-- `pkcs1_c_private_key_encode`: it writes the key that is meant, or tells of the count or of a number that can't be
-- held.
use Rattle.std.proofs.Common.{length, refl, arith, rules}
use Rattle.standard.specs.Statement.{PrivateKeyEncoding}
use Rattle.pkcs1_c.specs.Words.{given_key, Miscounted, NumbersError, PartThen, UnwrittenStatus, given_numbers, HasPrivateNumbers, EncodingIfHeld, private_key_seen}
use Rattle.pkcs1_c.proofs.GivenKeys.{GivenPrivateSpells, given_private_spelled, given_private_valid, private_fits, private_has}
use Rattle.pkcs1_c.proofs.StructErrors.{IsPartError, numbers_part}
use Rattle.pkcs1_c.proofs.Writes.{error_behind, held_written, part_rejected, unwritten_error_as}
use Rattle.pkcs1_c.proofs.private_key.pkcs1_c_private_key_encode.Goals as goal

-- What `GivenKey::of` made of the struct and the array is a valid key.
pub write_encoding-requires : goal.write_encoding-requires
write_encoding-requires c =
    given_private_valid c.args.key.now c.args.others.now (given_key c.in-Ok.key.0) (rw c.in-Ok.is at c.of.ensures.ok)

-- There are not as many other primes as the struct says. That is told before all else.
pub returns-then-key-others : goal.returns-then-key-others
returns-then-key-others c =
    let key = c.args.key.now in
    let others = c.args.others.now in
    let v = private_key_seen key others in
    let room = length c.args.out.now in
    let later = PartThen (NumbersError (given_numbers key others)) (UnwrittenStatus PrivateKeyEncoding v room) in
    let counted : IsPartError (Miscounted key others) = (grind arith, grind arith) in
    let told =
    part_rejected (Miscounted key others) later counted
    (EncodingIfHeld (HasPrivateNumbers key others) PrivateKeyEncoding) v
    (λ bytes p s q. q.1 p.0.0) c.args.out.now c.args.len.now refl (refl, c.if-key-others.true) in
    record { writes = told.0; exact = told.1 }

-- The key that was made has the encodings of the key that is meant. So what `write_encoding` says of it is said of the
-- struct, whose count is right, and whose numbers can be held.
pub returns-in-Ok : goal.returns-in-Ok
returns-in-Ok c =
    let key = c.args.key.now in
    let others = c.args.others.now in
    let v = private_key_seen key others in
    let room = length c.args.out.now in
    let made = rw c.in-Ok.is at c.of.ensures.ok in
    let law = given_private_spelled key others (given_key c.in-Ok.key.0) made in
    let told = c.write_encoding.ensures in
    let held = rw c.in-Ok.is at c.of.ensures.held in
    let counted = c.if-key-others.false in record {
      writes =
          held_written PrivateKeyEncoding v GivenPrivateSpells _ law (HasPrivateNumbers key others)
          (private_has key others counted held) told.writes;
      exact =
          let rest = unwritten_error_as PrivateKeyEncoding v GivenPrivateSpells _ law room _ told.exact in
          search (rules, error_behind);
    }

-- `GivenKey::of` has told which number can't be held. The count of other primes is right.
pub returns-in-Err : goal.returns-in-Err
returns-in-Err c =
    let key = c.args.key.now in
    let others = c.args.others.now in
    let v = private_key_seen key others in
    let numbers = given_numbers key others in
    let told =
    part_rejected (NumbersError numbers) (UnwrittenStatus PrivateKeyEncoding v (length c.args.out.now))
    (numbers_part numbers)
    (EncodingIfHeld (HasPrivateNumbers key others) PrivateKeyEncoding) v
    (λ bytes p. private_fits key others p.0 bytes p.1)
    c.args.out.now c.args.len.now c.status.ensures (rw c.in-Err.is at c.of.ensures.err) in
    record { writes = told.0; exact = search (rules, error_behind) }
