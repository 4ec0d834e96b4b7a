-- What sources and sinks over std's readers and writers consist of.
use Rattle.std.specs.Prelude.{ℕ, ◌≡◌, Result, Ok, Err, IsOkAnd, IsErrAnd}
use Rattle.der_core.specs.Errors.{IsFile}
use Rattle.der_core.specs.declared.error.Error.{Error}
use Rattle.der_core.specs.declared.std_io.FromRead.{FromRead}
use Rattle.der_core.specs.declared.std_io.ToWrite.{ToWrite}

-- the reader
abbrev pub reader_of : {R : Type 0} → FromRead R → R
reader_of source = source.inner

-- how many of its calls failed
abbrev pub read_faults : {R : Type 0} → FromRead R → ℕ
read_faults source = source.faults

-- the writer
abbrev pub writer_of : {W : Type 0} → ToWrite W → W
writer_of sink = sink.inner

-- how many of its calls failed
abbrev pub write_faults : {W : Type 0} → ToWrite W → ℕ
write_faults sink = sink.faults

-- What was opened is a source of which no call failed yet; if nothing was, a file failed.
abbrev pub IsOpened : {R E : Type 0} → Result R E → Result (FromRead R) Error → Type 0
IsOpened (Ok reader) result = IsOkAnd result (λ source. (source.inner ≡ reader) × (source.faults ≡ 0))
IsOpened (Err e) result = IsErrAnd result IsFile

-- The same of what was created, as a sink.
abbrev pub IsCreated : {W E : Type 0} → Result W E → Result (ToWrite W) Error → Type 0
IsCreated (Ok writer) result = IsOkAnd result (λ sink. (sink.inner ≡ writer) × (sink.faults ≡ 0))
IsCreated (Err e) result = IsErrAnd result IsFile
