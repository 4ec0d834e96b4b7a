-- `pkcs1_c_public_key_encode`: it writes the key that is meant, or tells the first number that can't be held.
use Rattle.std.proofs.Common.{length, rules}
use Rattle.standard.specs.Statement.{PublicKeyEncoding}
use Rattle.pkcs1_c.specs.Words.{NumbersError, UnwrittenStatus, two_numbers, HasPublicNumbers, EncodingIfHeld, public_key_seen}
use Rattle.pkcs1_c.proofs.GivenKeys.{GivenPublicSpells, given_public_spelled, public_fits}
use Rattle.pkcs1_c.proofs.StructErrors.{numbers_have, numbers_part}
use Rattle.pkcs1_c.proofs.Writes.{error_behind, held_written, part_rejected, unwritten_error_as}
use Rattle.pkcs1_c.proofs.public_key.pkcs1_c_public_key_encode.Goals as goal

-- Any two numbers are a valid public key.
pub write_encoding-requires : goal.write_encoding-requires
write_encoding-requires c = (tt, (tt, tt))

-- The key that `from_c_key` made has the encodings of the key that is meant. So what `write_encoding` says of it is
-- said of the struct, whose numbers can be held.
pub returns-in-Ok : goal.returns-in-Ok
returns-in-Ok c =
    let key = c.args.key.now in
    let v = public_key_seen key in
    let room = length c.args.out.now in
    let law = given_public_spelled key c.in-Ok.key c.in-Ok.ensures.ok in
    let told = c.write_encoding.ensures in
    let held = c.in-Ok.ensures.held in
    let has = numbers_have (two_numbers key) held in record {
      writes =
          held_written PublicKeyEncoding v GivenPublicSpells _ law (HasPublicNumbers key) (has.0, has.1.0) told.writes;
      exact =
          let rest = unwritten_error_as PublicKeyEncoding v GivenPublicSpells _ law room _ told.exact in
          search (rules, error_behind);
    }

-- `from_c_key` has told which number can't be held. A struct whose key has an encoding has no such number.
pub returns-in-Err : goal.returns-in-Err
returns-in-Err c =
    let key = c.args.key.now in
    let v = public_key_seen key in
    let room = length c.args.out.now in
    let numbers = two_numbers key in
    let told =
    part_rejected (NumbersError numbers) (UnwrittenStatus PublicKeyEncoding v room) (numbers_part numbers)
    (EncodingIfHeld (HasPublicNumbers key) PublicKeyEncoding) v
    (λ bytes p. public_fits key p.0 bytes p.1) c.args.out.now
    c.args.len.now c.status.ensures c.in-Err.ensures.err in
    record { writes = told.0; exact = told.1 }
