-- `with_row` of `PrivateKeyInfoOf`: the row is the version, the algorithm, the key, and the attributes as an OPTIONAL
-- last part. `is` says that it means the container.
use Rattle.std.proofs.Common.{◌≡◌, ◌⊎◌, option_map, subst, sym}
use Rattle.der_core.specs.Words.{octets_of, optional_itself}
use Rattle.spki_core.specs.Words.{algorithm_in, algorithm_map, any_of}
use Rattle.pkcs8_core.specs.Words.{Container, IsContainer, attributes_of, container_printed, info_in}
use Rattle.pkcs8_core.proofs.info.PrivateKeyInfoOfEncodeInParts.with_row.Goals as goal

pub apply-requires : goal.apply-requires
apply-requires g c =
    let means : Container =
    record {
      algorithm = algorithm_map (λ v. v) (algorithm_in g.O.IdentifierValue.octets any_of c.args.self.now.algorithm);
      private_key = octets_of c.args.self.now.private_key;
      attributes = option_map (λ v. v) (option_map attributes_of c.attributes_encoding.result);
    } in
    let is : means ≡ info_in g.O.IdentifierValue.octets c.args.self.now =
    let parameters = optional_itself (option_map any_of c.args.self.now.algorithm.parameters) in
    let attributes = optional_itself (option_map attributes_of c.attributes_encoding.result) in
    let same = c.attributes_encoding.ensures in cc in
    subst (λ v. g.R.RowOperation.needs c.args.operation.now (IsContainer v) (container_printed v)) (sym is) c.requires

pub returns : goal.returns
returns g c =
    let means : Container =
    record {
      algorithm = algorithm_map (λ v. v) (algorithm_in g.O.IdentifierValue.octets any_of c.args.self.now.algorithm);
      private_key = octets_of c.args.self.now.private_key;
      attributes = option_map (λ v. v) (option_map attributes_of c.attributes_encoding.result);
    } in
    let is : means ≡ info_in g.O.IdentifierValue.octets c.args.self.now =
    let parameters = optional_itself (option_map any_of c.args.self.now.algorithm.parameters) in
    let attributes = optional_itself (option_map attributes_of c.attributes_encoding.result) in
    let same = c.attributes_encoding.ensures in cc in
    subst (λ v. g.R.RowOperation.gives c.args.operation.now c.apply.new.self (IsContainer v) (container_printed v)
    (λ _. ⊥ ⊎ ((⊥ ⊎ ⊥) ⊎ (⊥ ⊎ ⊥))) c.apply.result) is c.apply.ensures
