-- `copy_file`, where `write_output` refused the key: `error` and `left` say why. It was opened and read before, so the
-- calls are one more.
use Rattle.std.proofs.Common.{◌≡◌, ◌∷◌, List, ℕ, Option, option_map, subst}
use Rattle.std.specs.Path.{path_buf_bytes, path_bytes}
use Rattle.der_core.specs.Words.{FileCall, looked_for, with_calls}
use Rattle.pkcs1_program.specs.Words.{FillsFile, RefusesFile, creation_after}
use Rattle.pkcs1_program.proofs.copy.copy_file.Goals as goal

pub returns : goal.returns
returns g c =
    let old = FillsFile g.F.ReplaceFiles.opens_in_place g.F.Created.Close.is_closed g.F.Created.Sink.contents
    g.F.Created.Sink.is_flushed g.F.Created.Sink.failures in
    let new = FillsFile g.F.ReplaceFiles.creates_new g.F.New.Close.is_closed g.F.New.Sink.contents
    g.F.New.Sink.is_flushed g.F.New.Sink.failures in
    let output = path_bytes c.args.output in
    let why = c.in-Err-write_output.field-0 in
    let creation = creation_after g.K.Copied.mode g.K.Copied.umask c.in-Ok.key.mode in
    let Refuses : Option (List FileCall) → List ℕ → Type 0 = λ before bytes.
    RefusesFile g.F.ReplaceFiles.aims old new creation
    (λ calls. g.F.FileSystem.calls c.write_output.new.files ≡ with_calls before (looked_for output ∷ calls)) output
    why.error (option_map path_buf_bytes why.left) bytes in
    let one_more = subst (λ before. Refuses before c.as_slice.result.now) c.in-Ok.ensures.called
    c.in-Err-write_output.ensures in
    let refused = subst (Refuses _) c.as_slice.ensures.value one_more in
    rw (c.writing.ensures.error, c.writing.ensures.left)
    ((c.in-Ok.key.mode, c.in-Ok.key.encoding.items, c.in-Ok.ensures.ok, refused), c.writing.ensures.path)
