-- What a reader over a slice has left, and what writers to one wrote.
use Rattle.std.specs.Prelude.{Some, None, if◌then◌else◌, ℕ, ◌≡◌, ◌-◌, ◌≤◌, List, length, take, drop, ◌+◌, ◌++◌}
use Rattle.der_core.specs.Input.{Input}
use Rattle.der_core.specs.declared.slice_reader.SliceReader.{SliceReader}
use Rattle.std.specs.Borrow.{MutBor}
use Rattle.der_core.specs.declared.writer.SliceWriter.{SliceWriter}
use Rattle.der_core.specs.declared.back_writer.BackWriter.{BackWriter}

-- == A reader ==
abbrev pub left_of : SliceReader → Input
left_of reader = if reader.failed then None else Some reader.bytes.now

-- == A writer to the front of a slice ==
-- the slice
abbrev pub slice_of : SliceWriter → MutBor (List ℕ)
slice_of writer = writer.slice

-- how many octets were written
abbrev pub len_of : SliceWriter → ℕ
len_of writer = writer.len

-- what was written
abbrev pub written_of : SliceWriter → List ℕ
written_of writer = take writer.len writer.slice.now

-- how many octets may still be written
abbrev pub room_of : SliceWriter → ℕ
room_of writer = length writer.slice.now - writer.len

-- the same slice, of the same length, unchanged behind what was written
abbrev pub Keeps : SliceWriter → SliceWriter → Type 0
Keeps old new =
    (new.slice.ghost_name ≡ old.slice.ghost_name)
    × (length new.slice.now ≡ length old.slice.now)
    × (old.len ≤ new.len)
    × (drop new.len new.slice.now ≡ drop new.len old.slice.now)

-- == A writer that fills a slice from its end ==
-- the slice
abbrev pub back_slice_of : BackWriter → MutBor (List ℕ)
back_slice_of writer = writer.slice

-- how many octets in front aren't filled
abbrev pub free_of : BackWriter → ℕ
free_of writer = writer.free

-- how many are filled
abbrev pub filled_of : BackWriter → ℕ
filled_of writer = length writer.slice.now - writer.free

-- There is room for so many octets.
abbrev pub HasRoom : BackWriter → ℕ → Type 0
HasRoom writer n = n ≤ writer.free

-- The bytes were written in front of what was filled. What stands before them is unchanged.
abbrev pub Prepends : List ℕ → BackWriter → BackWriter → Type 0
Prepends bytes old new =
    (new.slice.ghost_name ≡ old.slice.ghost_name)
    × (new.free + length bytes ≡ old.free)
    × (new.slice.now ≡ take new.free old.slice.now ++ (bytes ++ drop old.free old.slice.now))
