-- The lines of an input, and what a line asks for.
use Rattle.std.specs.Prelude.{ℕ, ◌==◌, if◌then◌else◌, List, [], ◌∷◌, Option, Some, None, codes, find, option_map, bytes_eq}
use Rattle.std.specs.List.{onto_first, slice_split}
use Rattle.std.specs.declared.result.Result.{Result}
use Rattle.std.specs.declared.result.Result.TheVariants.{Ok, Err}
use Rattle.hex.specs.Hex.{decode_of}
use Rattle.hex.specs.declared.error.FromHexError.{FromHexError}
use Rattle.pkcs1_program.specs.declared.request.Request.{Request}
use Rattle.pkcs1_program.specs.declared.request.Request.TheVariants as request
use Rattle.pkcs1_program.specs.declared.request.Word.{Word}
use Rattle.pkcs1_program.specs.declared.request.Word.TheVariants as word
use Rattle.pkcs1_program.specs.declared.request.PairWord.{PairWord}
use Rattle.pkcs1_program.specs.declared.request.PairWord.TheVariants as pair

-- The longest input, in octets: this is the program's limit.
abbrev pub longest_input : ℕ
longest_input = 16777216

-- A line ends before a line feed or at the end of the input. No empty line follows a last line feed, and an empty input
-- has no line.
abbrev pub lines_of : List ℕ → List (List ℕ)
lines_of [] = []
lines_of (byte ∷ bytes) = if byte == 10 then [] ∷ lines_of bytes else onto_first byte (lines_of bytes)

-- the parts of a line, split at each space
abbrev pub parts_of : List ℕ → List (List ℕ)
parts_of line = slice_split (λ byte. byte == 32) line

-- The words of lines with one HEX part.
abbrev pub words : List (List ℕ × Word)
words =
    (codes "pub", word.Pub)
    ∷ (codes "priv", word.Priv)
    ∷ (codes "pss", word.Pss)
    ∷ (codes "oaep", word.Oaep)
    ∷ (codes "p8", word.P8)
    ∷ (codes "spell-pss", word.SpellPss)
    ∷ (codes "spell-oaep", word.SpellOaep)
    ∷ (codes "strict-pss", word.StrictPss)
    ∷ (codes "strict-oaep", word.StrictOaep)
    ∷ []

-- The words of lines with two HEX parts.
abbrev pub pair_words : List (List ℕ × PairWord)
pair_words = (codes "same-pss", pair.SamePss) ∷ (codes "same-oaep", pair.SameOaep) ∷ []

-- a word with the bytes of its HEX parts, or a line of another form
pub data Asked : Type 0 where
  bad_line : Asked
  asks : Word → List ℕ → Asked
  asks_pair : PairWord → List ℕ → List ℕ → Asked

abbrev pub decoded : Result (List ℕ) FromHexError → Option (List ℕ)
decoded (Ok encoding) = Some encoding
decoded (Err e) = None

-- the bytes of an even number of hexadecimal digits, of either case
abbrev pub encoding_in_hex : List ℕ → Option (List ℕ)
encoding_in_hex hex = decoded (decode_of hex)

-- the value beside the name in a list
abbrev pub value_named : {W : Type 0} → List (List ℕ × W) → List ℕ → Option W
value_named rows name = option_map (λ row. row.1) (find (λ row. bytes_eq row.0 name) rows)

abbrev pub asked_with : Option Word → Option (List ℕ) → Asked
asked_with (Some word) (Some encoding) = asks word encoding
asked_with (Some word) None = bad_line
asked_with None encoding = bad_line

abbrev pub pair_asked_with : Option PairWord → Option (List ℕ) → Option (List ℕ) → Asked
pair_asked_with (Some word) (Some first) (Some second) = asks_pair word first second
pair_asked_with (Some word) (Some first) None = bad_line
pair_asked_with (Some word) None second = bad_line
pair_asked_with None first second = bad_line

abbrev pub asked_by_parts : List (List ℕ) → Asked
asked_by_parts [] = bad_line
asked_by_parts (word ∷ []) = bad_line
asked_by_parts (word ∷ hex ∷ []) = asked_with (value_named words word) (encoding_in_hex hex)
asked_by_parts (word ∷ hex ∷ second ∷ []) =
    pair_asked_with (value_named pair_words word) (encoding_in_hex hex) (encoding_in_hex second)
asked_by_parts (word ∷ hex ∷ second ∷ more ∷ rest) = bad_line

-- what the line asks for
abbrev pub asked_by : List ℕ → Asked
asked_by line = asked_by_parts (parts_of line)

-- A request, with the buffers that hold the bytes of its HEX parts.
abbrev pub request_seen : Request → List ℕ → List ℕ → Asked
request_seen request.BadLine first second = bad_line
request_seen (request.Word word) first second = asks word first
request_seen (request.Pair word) first second = asks_pair word first second
