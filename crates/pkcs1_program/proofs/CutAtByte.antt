-- An input and a line, cut at the first place of a byte.
use Rattle.std.proofs.Common.{◌≡◌, ℕ, suc, ◌+◌, ◌<◌, ◌==◌, not, List, [], ◌∷◌, length, take, drop, Some, None, refl, ◌∙◌, arith, one-add, add-one, position, take_all, inl, inr}
use Rattle.std.specs.List.{position_or_len, onto_first}
use Rattle.std.proofs.lemmas.Bool.{cases_Bool}
use Rattle.std.proofs.lemmas.List.{drop_all}
use Rattle.std.proofs.lemmas.List.Sums.{prefix_len-le-length}
use Rattle.std.proofs.lemmas.List.Splits.{length-slice_split}
use Rattle.pkcs1_program.specs.Words.{lines_of, parts_of}

-- where the first such byte is
pub position-some : (at n : ℕ) (bytes : List ℕ) → position (λ other. other == at) bytes ≡ Some n
    → (position_or_len (λ other. other == at) bytes ≡ n) × (n < length bytes)
position-some at n bytes h = grind arith

pub position-none : (at : ℕ) (bytes : List ℕ) → position (λ other. other == at) bytes ≡ None
    → position_or_len (λ other. other == at) bytes ≡ length bytes
position-none at bytes h = let within = prefix_len-le-length (λ x. not (x == at)) bytes in grind arith

abbrev to_line_feed : List ℕ → ℕ
to_line_feed bytes = position_or_len (λ byte. byte == 10) bytes

-- the first line ends at the first line feed, or at the end
lines_of-more : (b n : ℕ) (bs : List ℕ) (more : List (List ℕ)) → more ≡ take n bs ∷ lines_of (drop (n + 1) bs)
    → onto_first b more ≡ take (1 + n) (b ∷ bs) ∷ lines_of (drop (1 + n + 1) (b ∷ bs))
lines_of-more b n bs more h = rw (h, one-add, add-one, add-one)

pub lines_of-first : (b : ℕ) (bs : List ℕ)
    → lines_of (b ∷ bs) ≡ take (to_line_feed (b ∷ bs)) (b ∷ bs) ∷ lines_of (drop (to_line_feed (b ∷ bs) + 1) (b ∷ bs))
lines_of-first b [] = elim (cases_Bool (b == 10)) [
  | inl is ↦ rw is refl
  | inr isnt ↦ rw isnt refl
]
lines_of-first b (c ∷ bs) = elim (cases_Bool (b == 10)) [
  | inl is ↦ rw is refl
  | inr isnt ↦ rw isnt (lines_of-more b (to_line_feed (c ∷ bs)) (c ∷ bs) _ (lines_of-first c bs))
]

-- a line with no space is one part
pub parts_of-none : (line : List ℕ) → position_or_len (λ byte. byte == 32) line ≡ length line
    → parts_of line ≡ line ∷ []
parts_of-none [] h = refl
parts_of-none (b ∷ bs) h = elim (cases_Bool (b == 32)) [
  | inl is ↦ let no : 0 ≡ suc (length bs) = rw is at h in absurd (omega arith)
  | inr isnt ↦
      let later : 1 + position_or_len (λ byte. byte == 32) bs ≡ suc (length bs) = rw isnt at h in
      rw (isnt, parts_of-none bs (omega arith)) refl
]

pub lines_of-at : (n : ℕ) (bytes : List ℕ) → 0 < length bytes → to_line_feed bytes ≡ n
    → lines_of bytes ≡ take n bytes ∷ lines_of (drop (n + 1) bytes)
lines_of-at n [] h e = absurd (omega arith)
lines_of-at n (b ∷ bs) h e = rw (← e) (lines_of-first b bs)

-- an input with no line feed is one line
pub lines_of-none : (bytes : List ℕ) → 0 < length bytes → to_line_feed bytes ≡ length bytes
    → lines_of bytes ≡ bytes ∷ []
lines_of-none bytes h e =
    let cut = lines_of-at (length bytes) bytes h e in
    cut ∙ rw (take_all (length bytes) bytes (omega arith), drop_all (length bytes + 1) bytes (omega arith))

-- a line has a part
pub parts_of-some : (line : List ℕ) → 0 < length (parts_of line)
parts_of-some line = omega (arith, length-slice_split (λ byte. byte == 32) line)
