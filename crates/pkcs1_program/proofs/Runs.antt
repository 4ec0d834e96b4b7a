-- What a line asks for, and answers line by line.
use Rattle.std.proofs.Common.{◌≡◌, ℕ, ◌+◌, min, List, [], ◌∷◌, ◌++◌, length, take, refl, sym, ap, subst, ◌∙◌, arith, append_assoc, Option, ◌==◌, true, false, Some, None, Result, Ok, Err, codes, bytes_eq, eqb-true}
use Rattle.std.specs.Io.KnownBytes.{Appends}
use Rattle.std.proofs.KnownBytes.{Appends-nil, Appends-trans}
use Rattle.std.proofs.Math.Seq.{take-append-add}
use Rattle.std.proofs.lemmas.List.{take-append-le, take_min}
use Rattle.der_core.specs.Words.{AppendsFront, HasAtMostOne}
use Rattle.pkcs1_program.specs.Words.{Answer, Outputs, MakesOutput, WritesFront, WritesFrontOfAll, parts_of, bad_line, words, pair_words, value_named, decoded, encoding_in_hex, asked_with, pair_asked_with, asked_by, asked_by_parts}
use Rattle.std.proofs.lemmas.Bool.{false_from_ne_true}
use Rattle.std.specs.List.{join_with_byte}
use Rattle.std.proofs.lemmas.List.Splits.{slice_split_none, join_with_byte-slice_split}
use Rattle.std.proofs.lemmas.Slice.Eq.{bytes_eq-Decides}
use Rattle.hex.specs.Hex.{decode_of, is_hex_digit}
use Rattle.hex.specs.declared.error.FromHexError.{FromHexError}
use Rattle.hex.proofs.HexLemmas.{decode_of-ok}
use Rattle.pkcs1_program.specs.declared.request.Word.{Word}
use Rattle.pkcs1_program.specs.declared.request.PairWord.{PairWord}
use Rattle.pkcs1_program.proofs.CutAtByte.{parts_of-some}

-- one more answer
pub Outputs-push : (lines : List (List ℕ)) (line output answer : List ℕ) → Outputs lines output → Answer line answer
    → Outputs (lines ++ line ∷ []) (output ++ (answer ++ 10 ∷ []))
Outputs-push [] line output answer h k = (answer, [], k, refl, ap (λ o. o ++ (answer ++ 10 ∷ [])) h)
Outputs-push (first ∷ lines) line output answer h k = (
  h.0,
  h.1 ++ (answer ++ 10 ∷ []),
  h.2,
  Outputs-push lines line h.1 answer h.3 k,
  rw h.4 (append_assoc h.0 (10 ∷ h.1) (answer ++ 10 ∷ [])),
)

-- one more answer is held, and then a front of what is held is written
pub Makes-push : (old mid new : Option (List ℕ)) (held all held2 : List ℕ) (lines : List (List ℕ))
    (line answer front : List ℕ) → MakesOutput old mid held lines → Answer line answer → all
    ≡ held ++ (answer ++ 10 ∷ [])
    → Appends mid new front → all ≡ front ++ held2 → MakesOutput old new held2 (lines ++ line ∷ [])
Makes-push old mid new held all held2 lines line answer front made h e taken split =
    let whole : (made.0 ++ front) ++ held2 ≡ (made.0 ++ held) ++ (answer ++ 10 ∷ []) =
    rw (append_assoc, append_assoc, ← split, e) refl in
    (made.0 ++ front, Appends-trans old mid new _ _ made.1 taken, rw whole (Outputs-push lines line (made.0 ++ held) answer made.2 h))

-- a beginning of what is held was written
pub Makes-front : (old mid new : Option (List ℕ)) (held : List ℕ) (all lines rest : List (List ℕ))
    → all ≡ lines ++ rest → MakesOutput old mid held lines → AppendsFront mid new held → WritesFront old new all
Makes-front old mid new held all lines rest e made taken =
    let front : AppendsFront old new (made.0 ++ held) =
    (length made.0 + taken.0, rw take-append-add (Appends-trans old mid new _ _ made.1 taken.1))
    in (lines, rest, e, made.0 ++ held, made.2, front)

-- one more answer is held, and then a beginning of what is held was written
pub Makes-stop : (old mid new : Option (List ℕ)) (held all : List ℕ) (whole lines rest : List (List ℕ))
    (line answer : List ℕ) → whole ≡ lines ++ line ∷ rest → MakesOutput old mid held lines → Answer line answer
    → all ≡ held ++ (answer ++ 10 ∷ []) → AppendsFront mid new all → WritesFront old new whole
Makes-stop old mid new held all whole lines rest line answer w made h e taken =
    Makes-front old mid new all whole (lines ++ line ∷ []) rest (rw (w, append_assoc))
    (Makes-push old mid mid held all all lines line answer [] made h e (Appends-nil mid) refl) taken

-- the answers of lines in two parts
Outputs-split : (first later : List (List ℕ)) (all : List ℕ) → Outputs (first ++ later) all
    → (front : List ℕ) × (back : List ℕ) × Outputs first front × (all ≡ front ++ back)
Outputs-split [] later all h = ([], all, refl, refl)
Outputs-split (line ∷ first) later all h =
    let more = Outputs-split first later h.1 h.3 in (
      h.0 ++ 10 ∷ more.0,
      more.1,
      (h.0, more.0, h.2, more.2, refl),
      h.4 ∙ ap (λ o. h.0 ++ 10 ∷ o) more.3
          ∙ sym (append_assoc h.0 (10 ∷ more.0) more.1),
    )

-- a beginning of the front is one of the whole
take-front : (n : ℕ) (xs ys : List ℕ) → take (min n (length xs)) (xs ++ ys) ≡ take n xs
take-front n xs ys = take-append-le (min n (length xs)) xs ys (omega arith) ∙ take_min n xs

-- what is a beginning of the answers of some first lines is one of whatever answers all of the lines
pub WritesFront-all : ((lines : List (List ℕ)) → HasAtMostOne (Outputs lines))
    → (old new : Option (List ℕ)) (lines : List (List ℕ)) → WritesFront old new lines → WritesFrontOfAll old new lines
WritesFront-all one old new lines written all answers =
    let n = written.5.0 in
    let output = written.3 in
    let parts = Outputs-split written.0 written.1 all (rw written.2 at answers) in
    let same : parts.0 ≡ output = one written.0 parts.0 output parts.2 written.4 in
    let whole : all ≡ output ++ parts.1 = parts.3 ∙ ap (λ o. o ++ parts.1) same in
    (min n (length output), rw (whole, take-front n output parts.1) written.5.1)

-- What a line asks for.

-- a space is no digit
hex_digit_not_space : (b : ℕ) → is_hex_digit b ≡ true → (b == 32) ≡ false
hex_digit_not_space b digit =
    false_from_ne_true (b == 32)
    (λ e. let no : false ≡ true = subst (λ x. is_hex_digit x ≡ true) (eqb-true b 32 e) digit in cc)

-- what stands for an encoding has no space, so what has one stands for no encoding
hex_one_part : (hex bytes : List ℕ) → decode_of hex ≡ Ok bytes → parts_of hex ≡ hex ∷ []
hex_one_part hex bytes ok =
    slice_split_none (λ byte. byte == 32) hex
    (λ k d below. hex_digit_not_space _ ((decode_of-ok hex bytes ok).1 k d below))

parts_not_decoded : (r : Result (List ℕ) FromHexError) (hex a b : List ℕ) (more : List (List ℕ)) → decode_of hex ≡ r
    → parts_of hex ≡ a ∷ b ∷ more → decoded r ≡ None
parts_not_decoded (Ok bytes) hex a b more ok cut =
    let lengths : length (hex ∷ []) ≡ length (a ∷ b ∷ more) = ap length (sym (hex_one_part hex bytes ok) ∙ cut) in
    absurd (omega arith)
parts_not_decoded (Err failure) hex a b more e cut = refl

parts_no_encoding : (hex a b : List ℕ) (more : List (List ℕ)) → parts_of hex ≡ a ∷ b ∷ more → encoding_in_hex hex ≡ None
parts_no_encoding hex a b more cut = parts_not_decoded (decode_of hex) hex a b more refl cut

-- the only part is the whole
one_part : (line part : List ℕ) → parts_of line ≡ part ∷ [] → part ≡ line
one_part line part cut = sym (ap (join_with_byte 32) cut) ∙ join_with_byte-slice_split 32 line

parts_not_none : (line : List ℕ) → parts_of line ≡ [] → ⊥
parts_not_none line cut =
    let some = parts_of-some line in
    let none : length (parts_of line) ≡ 0 = ap length cut in
    omega arith

-- a word of one encoding isn't one of two
another_name : (name word : List ℕ) (w : Word) → value_named words name ≡ None → value_named words word ≡ Some w
    → bytes_eq name word ≡ false
another_name name word w none some =
    false_from_ne_true (bytes_eq name word) (λ e.
    let no : None ≡ Some w =
    sym none ∙ subst (λ n. value_named words n ≡ Some w) (sym ((bytes_eq-Decides name word).0 e)) some in
    cc)

no_pair_word : (word : List ℕ) (w : Word) → value_named words word ≡ Some w → value_named pair_words word ≡ None
no_pair_word word w is =
    rw (another_name (codes "same-pss") word w refl is, another_name (codes "same-oaep") word w refl is)

-- What follows a word of one encoding is that encoding, or the line is bad.
one_encoding_asked : (word rest : List ℕ) (w : Word) (parts : List (List ℕ)) → parts_of rest ≡ parts
    → value_named words word ≡ Some w
    → asked_by_parts (word ∷ parts) ≡ asked_with (Some w) (encoding_in_hex rest)
one_encoding_asked word rest w [] cut is = absurd (parts_not_none rest cut)
one_encoding_asked word rest w (hex ∷ []) cut is =
    ap (λ n. asked_with n (encoding_in_hex hex)) is
    ∙ ap (λ h. asked_with (Some w) (encoding_in_hex h)) (one_part rest hex cut)
one_encoding_asked word rest w (hex ∷ second ∷ []) cut is =
    ap (λ n. pair_asked_with n (encoding_in_hex hex) (encoding_in_hex second)) (no_pair_word word w is)
    ∙ sym (ap (λ t. asked_with (Some w) t) (parts_no_encoding rest hex second [] cut))
one_encoding_asked word rest w (hex ∷ second ∷ more ∷ parts) cut is =
    sym (ap (λ t. asked_with (Some w) t) (parts_no_encoding rest hex second (more ∷ parts) cut))

pub asks_one : (line word rest : List ℕ) (w : Word) → parts_of line ≡ word ∷ parts_of rest → value_named words word
    ≡ Some w
    → asked_by line ≡ asked_with (Some w) (encoding_in_hex rest)
asks_one line word rest w cut is = ap asked_by_parts cut ∙ one_encoding_asked word rest w (parts_of rest) refl is

-- What follows the first part of a word of two encodings is the second encoding, or the line is bad.
second_missing : (w : PairWord) (first : Option (List ℕ)) → pair_asked_with (Some w) first None ≡ bad_line
second_missing w (Some first) = refl
second_missing w None = refl

two_encodings_asked : (word first rest : List ℕ) (w : PairWord) (parts : List (List ℕ)) → parts_of rest ≡ parts
    → value_named pair_words word ≡ Some w
    → asked_by_parts (word ∷ first ∷ parts) ≡ pair_asked_with (Some w) (encoding_in_hex first) (encoding_in_hex rest)
two_encodings_asked word first rest w [] cut is = absurd (parts_not_none rest cut)
two_encodings_asked word first rest w (second ∷ []) cut is =
    ap (λ n. pair_asked_with n (encoding_in_hex first) (encoding_in_hex second)) is
    ∙ ap (λ s. pair_asked_with (Some w) (encoding_in_hex first) (encoding_in_hex s)) (one_part rest second cut)
two_encodings_asked word first rest w (second ∷ more ∷ parts) cut is =
    sym (ap (λ t. pair_asked_with (Some w) (encoding_in_hex first) t) (parts_no_encoding rest second more parts cut)
    ∙ second_missing w (encoding_in_hex first))

pub asks_two : (line word rest first second : List ℕ) (w : PairWord) → parts_of line ≡ word ∷ parts_of rest
    → parts_of rest ≡ first ∷ parts_of second
    → value_named pair_words word ≡ Some w
    → asked_by line ≡ pair_asked_with (Some w) (encoding_in_hex first) (encoding_in_hex second)
asks_two line word rest first second w cut cut2 is =
    ap asked_by_parts (cut ∙ ap (λ parts. word ∷ parts) cut2)
    ∙ two_encodings_asked word first second w (parts_of second) refl is
