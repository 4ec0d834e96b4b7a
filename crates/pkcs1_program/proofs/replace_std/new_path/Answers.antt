-- `new_path`: the number in its name is that of the bytes.
use Rattle.std.proofs.Common.{rules, ◌≡◌, IfOk, subst}
use Rattle.std.specs.Path.{path_buf_bytes, path_bytes, path_with_file_name}
use Rattle.std.specs.Prelude.{Result, Ok, Err}
use Rattle.pkcs1_program.specs.Words.{new_name}
use Rattle.pkcs1_program.proofs.replace_std.new_path.Goals as goal

on_ok : {A E : Type 0} {P Q : A → Type 0} → ((a : A) → P a → Q a) → (r : Result A E) → IfOk r P → IfOk r Q
on_ok f (Ok a) p = f a p
on_ok f (Err e) p = p

pub returns : goal.returns
returns g c =
    let number = c.from_be_bytes.result in
    let spelled : c.as_str.result.now ≡ new_name number = search rules in
    on_ok (λ new named. (
      number,
      subst (λ name. path_buf_bytes new ≡ path_with_file_name (path_bytes c.args.path) name) spelled named,
    ))
    c.with_file_name.result c.with_file_name.ensures
