-- `with_row` of `Extension`: in each arm the part for `critical` is the one of the value.
use Rattle.examples.proofs.extension.ExtensionEncodeInParts.with_row.Goals as goal

pub apply-requires : goal.apply-requires
apply-requires g c = rw c.if-self.true at c.requires

pub apply-requires-else-self : goal.apply-requires-else-self
apply-requires-else-self g c = rw c.if-self.false at c.requires

pub returns-then-self : goal.returns-then-self
returns-then-self g c = rw c.if-self.true c.apply.ensures

pub returns-else-self : goal.returns-else-self
returns-else-self g c = rw c.if-self.false c.apply-else-self.ensures
