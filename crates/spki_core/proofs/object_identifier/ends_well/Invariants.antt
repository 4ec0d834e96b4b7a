-- In the loop of `ends_well`, all octets end well exactly if those from `index` on do, knowing whether a subidentifier
-- starts at `index`.
use Rattle.std.proofs.Common.{◌≡◌, true, drop}
use Rattle.spki_core.specs.IdentifierTest as specs
use Rattle.spki_core.proofs.object_identifier.ends_well.Given as goal

abbrev pub invariant-loop-index : goal.invariant-loop-index
invariant-loop-index l =
    specs.ends_well true l.octets ≡ specs.ends_well (specs.starts_at l.octets l.index) (drop l.index l.octets)
