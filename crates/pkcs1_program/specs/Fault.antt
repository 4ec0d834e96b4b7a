-- What is printed for a fault, and errors for which there is no output.
use Rattle.std.specs.Prelude.{◌≡◌, ℕ, List, codes}
use Rattle.der_core.specs.declared.error.ErrorKind.TheVariants.{OutOfMemory}
use Rattle.pkcs1_params.specs.declared.error.Error.{Error}
use Rattle.pkcs1_params.specs.Words.{IsAsn1}
use Rattle.pkcs1_program.specs.declared.fault.Fault.{Fault}
use Rattle.pkcs1_program.specs.declared.fault.Fault.TheVariants.{Read, Write, Memory}

abbrev pub fault_text : Fault → List ℕ
fault_text Read = codes "fault: read"
fault_text Write = codes "fault: write"
fault_text Memory = codes "fault: memory"

-- The error of `der_core` is out of memory.
abbrev pub IsMemoryError : Error → Type 0
IsMemoryError error = IsAsn1 (λ e. e.kind ≡ OutOfMemory) error
