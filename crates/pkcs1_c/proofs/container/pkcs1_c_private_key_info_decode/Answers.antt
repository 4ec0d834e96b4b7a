-- `pkcs1_c_private_key_info_decode`: the structs hold the container and its key, or the status is that of the first
-- fault.
use Rattle.std.proofs.Common.{sym, ap, subst, Some}
use Rattle.pkcs1.specs.Words.{held_view}
use Rattle.pkcs8_core.specs.Words.{rsa_private_key_info}
use Rattle.standard.specs.Statement.{Container, ContainerEncoding, Decodes, PrivateKeyEncoding}
use Rattle.pkcs1_c.proofs.Containers.{contained_keys_tell}
use Rattle.pkcs1_c.proofs.Writes.{decodes_equal_value, status_exact}
use Rattle.pkcs1_c.proofs.container.pkcs1_c_private_key_info_decode.Goals as goal

-- An RSA key was read in the container, so its algorithm is rsaEncryption with NULL, and the struct holds it.
pub returns-in-Ok-clause-ok : goal.returns-in-Ok-clause-ok
returns-in-Ok-clause-ok c = λ _.
    decodes_equal_value ContainerEncoding (c.to_c_info.ensures.seen c.in-Ok.ensures.key.0.0) c.in-Ok.ensures.container

-- The key is the one in the container, whose octets are those of the struct.
pub returns-in-Ok-clause-key : goal.returns-in-Ok-clause-key
returns-in-Ok-clause-key c = λ _.
    let ((rsa, is), only) = c.in-Ok.ensures.key in
    let octets = ap (λ (i : Container). i.private_key) (c.to_c_info.ensures.seen rsa) in (
      held_view c.in-Ok.view,
      subst (λ b. Decodes PrivateKeyEncoding b (Some (held_view c.in-Ok.view))) (sym octets)
          (is, λ other p. only other (rsa, p)),
      c.to_c_key.ensures,
      c.to_c_list.ensures,
    )

-- The status is the number of the error. Each fault of a container and of its key is about the bytes, so it is neither
-- 0 nor above 14.
pub returns-in-Err-clause-exact : goal.returns-in-Err-clause-exact
returns-in-Err-clause-exact c =
    status_exact (rsa_private_key_info c.args.encoding.now) (contained_keys_tell c.args.encoding.now)
    c.in-Err.error _ c.status.ensures c.in-Err.ensures.exact
