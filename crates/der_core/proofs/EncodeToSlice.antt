-- What a call leaves in the slice that it answers the front of, from what the calls in it say; and the laws of the types
-- that these return.
use Rattle.std.proofs.Common.{ℕ, List, ◌∷◌, ◌≡◌, ◌≤◌, length, take, ◌++◌, ◌∙◌, arith, sym, subst, ap, refl, Err, [], Ok, drop, Result, IfOk, IfErr, OnOk, OnErr, MatchResult, length-append, length-take, Bor, MutBor}
use Rattle.std.proofs.Math.Seq.{take-append_seam}
use Rattle.der_core.specs.Words.{Error, IsFront, RefusedAs, SliceRests, Tag}
use Rattle.std.specs.Bool.{⊤}
use Rattle.std.specs.Borrow.{u8, Array}
use Rattle.std.specs.contracts.result.Result as Res
use Rattle.std.proofs.result.Result.TheLaws.{the_row_laws as result_laws}
use mir.Syntax.{named}
use denote.Builtin.{usize}
use denote.Param.Laws.{Laws, of_field}
use denote.Param.Shared.{copy_shared}
use denote.RattleType.{RattleType}
use denote.Struct.Field.{usize-field, u8-field, shr_slice_field}
use denote.Struct.Laws.{usize-laws, usize-copy, u8-laws, u8-copy, shr_slice_laws, shr_slice_copy}
use mathlib.Core.Option.{none}
use seplogic.Ra.Ura.{Ura}
use base.Logic.{ent}
use base.Fml.{Lft, fres}
use base.Stored.{coded_list}
use types.Logic.{Logic, sem}
use types.Kit.{‵, ◌$◌, ◌∵◌, !, qed, use1, fpack, done}
use denote.Slice.{ShrSlice, finally}
use denote.Follow.{such_by, follows_by}
use denote.FollowSlice.{finally-res}

-- Bytes; a length or an error; a shared slice of bytes or an error.
pub byte_laws : Laws u8
byte_laws = of_field u8-field u8-laws refl (copy_shared u8-field u8-copy)

abbrev pub CountOr : RattleType → RattleType
CountOr E = Res.the_row usize E

pub count_laws : (E : RattleType) → Laws E → Laws (CountOr E)
count_laws E L = result_laws usize E (of_field usize-field usize-laws refl (copy_shared usize-field usize-copy)) L

abbrev pub FrontOr : RattleType → Lft → RattleType
FrontOr E κ = Res.the_row (ShrSlice (named 0) κ u8) E

pub front_laws : (E : RattleType) → Laws E → (κ : Lft) → Laws (FrontOr E κ)
front_laws E L κ =
    let F = shr_slice_field (record { mir = named 0; lft = κ }) u8 tt in
    result_laws F.row E (of_field F (shr_slice_laws (record { mir = named 0; lft = κ }) u8 tt) refl
    (copy_shared F (shr_slice_copy (record { mir = named 0; lft = κ }) u8 tt byte_laws.shr_laws))) L

-- A slice whose last list is known rests at it.
module _ {M : Type 1} {𝓤 : Ura M} (𝓛 : Logic 𝓤) where
  pub slice_rests_finally : (s : MutBor (List ℕ)) (ys : List ℕ) (P : List ℕ → Type 0) → P ys
      → ent 𝓤 (sem 𝓛 (finally u8 s.ghost_name ys)) (sem 𝓛 (SliceRests s P))
  unfolding such_by follows_by
  slice_rests_finally s ys P p = qed 𝓛 (‵ (finally u8 s.ghost_name ys) ∷ []) ∵
      use1 𝓛 (‵ (fres s.ghost_name ((coded_list u8.coded).code ys))) (finally-res 𝓛 u8 s.ghost_name ys) $
      fpack ! ((t : (List ℕ → List ℕ) × List ℕ) × ((w : List ℕ) → ⊤) × P t.1)
      (λ t. follows_by (List ℕ) (List ℕ) (Array u8 0).coded.code (Array u8 0).coded.code s.ghost_name none t.0.0
      t.0.1) (((λ w. w), ys), (λ w. tt), p) $ done !

-- An encoding was written over xs, which gave ys, and r is its length, or why it wasn't.
abbrev pub WroteOver : {E : Type 0} → List ℕ → List ℕ → List ℕ → Result ℕ E → Type 0
WroteOver encoding xs ys r = IfOk r (λ n. (n ≡ length encoding) × (ys ≡ encoding ++ drop n xs))

module _ {E : Type 0} (encoding xs ys : List ℕ) where
  -- The length that is returned is no more than the slice's.
  pub written_fits : (r : Result ℕ E) → WroteOver encoding xs ys r → IfOk r (λ n. n ≤ length ys)
  written_fits (Ok n) w =
      let l : length ys ≡ length (encoding ++ drop n xs) =
      ap length w.1 in let k = length-append encoding (drop n xs) in let e = w.0 in omega arith
  written_fits (Err e) w = tt

  -- After Ok the encoding stands in front of the rest. After an error all is as it was.
  pub leaves_rest : (r : Result ℕ E) (t : Result (Bor (List ℕ)) E) → WroteOver encoding xs ys r → OnErr r (ys ≡ xs)
      → IsFront ys r t
      → MatchResult t (λ _. ys ≡ encoding ++ drop (length encoding) xs) (λ _. ys ≡ xs)
  leaves_rest (Ok n) (Ok front) w k a = rw w.0 at w.1
  leaves_rest (Ok n) (Err e) w k a = absurd a
  leaves_rest (Err e) (Ok front) w k a = absurd a
  leaves_rest (Err e) (Err e') w k a = k

  -- What holds of the encoding, if something does after Ok, holds of the front that is answered.
  pub front_has_encoding_property : (H : Type 0) (P : List ℕ → Type 0) → (H → P encoding)
      → (r : Result ℕ E) (t : Result (Bor (List ℕ)) E)
      → WroteOver encoding xs ys r → OnOk r H → IsFront ys r t → IfOk t (λ front. P front.now)
  front_has_encoding_property H P f (Ok n) (Ok front) w h a =
      let seam =
      take-append_seam encoding (drop n xs) in subst P (sym (a ∙ ap (λ l. take n l) w.1 ∙ (rw (sym w.0) at seam))) (f h)
  front_has_encoding_property H P f (Ok n) (Err e) w h a = absurd a
  front_has_encoding_property H P f (Err e) (Ok front) w h a = absurd a
  front_has_encoding_property H P f (Err e) (Err e') w h a = tt

  -- The front is no longer than the slice was.
  pub front_within : length ys ≡ length xs → (r : Result ℕ E) (t : Result (Bor (List ℕ)) E) → IsFront ys r t
      → IfOk t (λ front. length front.now ≤ length xs)
  front_within l (Ok n) (Ok front) a = rw a (omega (arith, length-take n ys))
  front_within l (Ok n) (Err e) a = absurd a
  front_within l (Err e) (Ok front) a = absurd a
  front_within l (Err e) (Err e') a = tt

-- What holds of the inner call's error holds of the one that is answered.
pub front_error_kept : {E : Type 0} (ys : List ℕ) (Q : E → Type 0) (r : Result ℕ E) (t : Result (Bor (List ℕ)) E)
    → IfErr r Q
    → IsFront ys r t → IfErr t Q
front_error_kept ys Q (Ok n) (Ok front) h a = tt
front_error_kept ys Q (Ok n) (Err e) h a = absurd a
front_error_kept ys Q (Err e) (Ok front) h a = absurd a
front_error_kept ys Q (Err e) (Err e') h a = subst Q (sym a) h

-- It is refused with the same tag.
pub front_refused : {Tags : Tag → Type 0} (ys : List ℕ) (r : Result ℕ Error) (t : Result (Bor (List ℕ)) Error)
    → RefusedAs Tags r → IsFront ys r t → RefusedAs Tags t
front_refused ys (Ok n) (Ok front) h a tag e = cc
front_refused ys (Ok n) (Err e) h a tag same = absurd a
front_refused ys (Err e) (Ok front) h a tag same = absurd a
front_refused ys (Err e) (Err e') h a tag same = h tag cc
