-- PrivateKeyInfo (RFC 5208 5).
use Rattle.std.specs.Prelude.{ℕ, List, Option}
use Rattle.spki_core.specs.Words.{TagAndContents, Algorithm}
-- An algorithm, the octets of a private key, and those of attributes, if there are any.
pub use Rattle.standard.specs.Statement.{Container}

-- Its parts in a row. The version has no value.
abbrev pub info_parts : Container → Unit {0} × (Algorithm TagAndContents × (List ℕ × Option (List ℕ)))
info_parts info = (tt, (info.algorithm, (info.private_key, info.attributes)))
