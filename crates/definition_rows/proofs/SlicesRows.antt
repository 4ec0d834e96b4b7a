-- Worked rows of `Slices.antt` of `der_core`: what a reader over a slice has left, and what writers to one wrote and keep.
use Rattle.std.proofs.Common.{ℕ, List, ◌++◌, ◌≡◌, ◌≤◌, ◌+◌, ◌-◌, length, take, drop, refl}
use Rattle.std.specs.Prelude.{◌↔◌, Some, None, if◌then◌else◌}
use Rattle.der_core.specs.Slices.{HasRoom, Keeps, Prepends, back_slice_of, filled_of, free_of, left_of, len_of, room_of, slice_of, written_of}
use Rattle.der_core.specs.declared.back_writer.BackWriter.{BackWriter}
use Rattle.der_core.specs.declared.slice_reader.SliceReader.{SliceReader}
use Rattle.der_core.specs.declared.writer.SliceWriter.{SliceWriter}

reader_left : (reader : SliceReader) → left_of reader ≡ (if reader.failed then None else Some reader.bytes.now)
reader_left reader = refl

module _ (old new : SliceWriter) where
  slice_kept : slice_of old ≡ old.slice
  slice_kept = refl

  octets_written : (len_of old ≡ old.len) × (written_of old ≡ take old.len old.slice.now)
      × (room_of old ≡ length old.slice.now - old.len)
  octets_written = (refl, refl, refl)

  rest_of_slice_kept : Keeps old new ↔ ((new.slice.ghost_name ≡ old.slice.ghost_name)
      × (length new.slice.now ≡ length old.slice.now) × (old.len ≤ new.len)
      × (drop new.len new.slice.now ≡ drop new.len old.slice.now))
  rest_of_slice_kept = (λ p. p, λ p. p)

module _ (old new : BackWriter) where
  slice_filled : (back_slice_of old ≡ old.slice) × (free_of old ≡ old.free)
      × (filled_of old ≡ length old.slice.now - old.free)
  slice_filled = (refl, refl, refl)

  room_in_front : (n : ℕ) → HasRoom old n ↔ (n ≤ old.free)
  room_in_front n = (λ p. p, λ p. p)

  octets_prepended : (bytes : List ℕ) → Prepends bytes old new ↔ ((new.slice.ghost_name ≡ old.slice.ghost_name)
      × (new.free + length bytes ≡ old.free)
      × (new.slice.now ≡ take new.free old.slice.now ++ (bytes ++ drop old.free old.slice.now)))
  octets_prepended bytes = (λ p. p, λ p. p)
