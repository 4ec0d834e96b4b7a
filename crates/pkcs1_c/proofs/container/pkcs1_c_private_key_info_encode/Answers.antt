-- `pkcs1_c_private_key_info_encode`: it writes the container that the struct means, or the status says why not.
use Rattle.std.proofs.Common.{length, arith, rules, inl, inr}
use Rattle.pkcs1.specs.Words.{private_tells, rsa_private_key}
use Rattle.pkcs8_core.specs.Words.{ContainerSpells, container_stated}
use Rattle.standard.specs.Statement.{ContainerEncoding}
use Rattle.pkcs1_c.specs.Words.{InfoError, UnwrittenStatus, InfoHasKey, private_key_info_seen}
use Rattle.pkcs1_c.proofs.Containers.{error_none, info_one, info_rest}
use Rattle.pkcs1_c.proofs.Writes.{status_known, error_of_same_reasons, held_written, only_status_is_error, unwritten_error_as}
use Rattle.pkcs1_c.proofs.container.pkcs1_c_private_key_info_encode.Goals as goal

-- `from_c_info` promises that what it makes is a container.
pub write_encoding-requires : goal.write_encoding-requires
write_encoding-requires c = c.in-Ok.ensures.some

-- What was made is the container that the struct means, and there is a key in it. So the only reasons are those of
-- `write_encoding`.
pub returns-in-Ok : goal.returns-in-Ok
returns-in-Ok c =
    let info = c.args.info.now in
    let v = private_key_info_seen info in
    let room = length c.args.out.now in
    let holds = c.in-Ok.ensures.key in
    let told = c.write_encoding.ensures in record {
      writes =
          held_written ContainerEncoding v ContainerSpells v (container_stated.same v) (InfoHasKey info) holds
          (rw c.in-Ok.ensures.ok at told.writes);
      exact =
          error_of_same_reasons (UnwrittenStatus ContainerEncoding v room) (InfoError info room) _
          (λ t p. inr (holds, p))
          (info_rest info room holds)
          (unwritten_error_as ContainerEncoding v ContainerSpells v (container_stated.same v) room _
          (rw c.in-Ok.ensures.ok at told.exact));
    }

-- `from_c_info` has told the fault of the octets. They encode no key, so there is nothing to write, and no other
-- reason.
pub returns-in-Err : goal.returns-in-Err
returns-in-Err c =
    let info = c.args.info.now in
    let octets = info.private_key.now in
    let room = length c.args.out.now in
    let e = status_known (rsa_private_key octets) (private_tells octets) c.in-Err.failure c.in-Err.ensures.exact in
    let is = c.status.ensures in record {
      writes = let none = error_none info _ e.1 in search rules;
      exact = only_status_is_error (InfoError info room) _ (info_one info room) (omega arith)
          (rw is (inl e.1));
    }
