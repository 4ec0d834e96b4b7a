-- What a reader over a slice has left is bytes, and no more than an encoding may have.
use Rattle.std.specs.Prelude.{◌≤◌, length}
use Rattle.der_core.specs.Length.{limit}
use Rattle.der_core.specs.Encodings.{AreBytes}
use Rattle.der_core.specs.Input.{left_in}
use Rattle.der_core.specs.Slices.{left_of}
use Rattle.der_core.specs.Laws.LengthReading.{left_bounded, left_bytes}
use Rattle.der_core.specs.declared.slice_reader.SliceReader.{SliceReader}

pub left_of-bounded : (reader : SliceReader) → length (left_in (left_of reader)) ≤ limit
left_of-bounded reader = left_bounded reader.failed reader.bytes.now reader.bounded

pub left_of-bytes : (reader : SliceReader) → AreBytes (left_in (left_of reader))
left_of-bytes reader = left_bytes reader.failed reader.bytes.now reader.octets
