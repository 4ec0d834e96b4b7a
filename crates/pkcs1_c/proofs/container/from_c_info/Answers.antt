-- `from_c_info`: the key is the one that `RsaPrivateKeyView::try_from` has read from the octets.
use Rattle.pkcs1.specs.Words.{held_view}
use Rattle.pkcs1_c.proofs.container.from_c_info.Goals as goal

pub returns-clause-key : goal.returns-clause-key
returns-clause-key c = (held_view c.in_ok-_view._view, c.in_ok-_view.ensures.read.0)
