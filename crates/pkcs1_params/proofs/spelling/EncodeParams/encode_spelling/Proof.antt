-- `encode_spelling` lends the slice to `encode_spelling_into`, shares it for all of its own lifetime, and answers the
-- front.
use Rattle.std.proofs.Common.{◌≡◌, ℕ, ◌≤◌, ◌<◌, List, [], ◌∷◌, length, ◌^◌, refl, sym, ap, arith, Result, IfOk, IfErr}
use Rattle.std.proofs.raw_atomic.Walks.{proved, leaves}
use Rattle.std.specs.Prelude.{⊤}
use mir.Syntax.{a_type, dcons, dnil, named, erased, w8}
use mir.Val.{Val, vint}
use mir.MapTy.{inst_fn}
use base.Logic.{SProp, emp, id⊢}
use base.Fraction.{full_share}
use base.Fml.{Lft, Share, GName, ftrue, flft}
use types.Kit.{◌∵◌, ‵, raw, ◌⊛◌, some, given, later, ◌$◌, !, qed, by, move, keep, drop, use0, use1, use2, use3, split, split3, join, learn, fsplit, fjoin, pick, await, feq_i, feq_l}
use types.Run.{from, addr, stop, fld, hop, no_more, and_then, returns, enter}
use types.ByLocal.{alloc_all, pass_all, free_all, look_at, look_in_at, get, get_in, sets, lands_as, is}
use types.Part.{agg, whole, sub}
use types.Tokens.{lft_new, lft_end}
use contract.BorrowLft.{◌⊑◌, ⊑_static}
use contract.Running.{tables}
use contract.Monad.{fact, fact_i}
use denote.Exit.{yes, no}
use denote.RattleType.{RattleType}
use denote.Signature.{plain, mut_slice_of}
use denote.Builtin.{u8}
use denote.Laws.{Is, shows}
use denote.Plain.{uint_vals, uint_Tells}
use denote.Ref.{Bor, MutBor}
use denote.Slice.{MutSlice, slice_val, mut_slice_vals, shr_slice_vals, mut_slice_Tells, finally}
use denote.Steps.{nothing, heard, peeks}
use denote.Param.{copied, bounded}
use denote.Triple.Call.{calls_at}
use denote.Triple.Clauses.{lasts}
use denote.Triple.Spec.{triple_of}
use denote.Triple.Table.{framed}
use denote.Triple.Walked.{Stays, stay_dropped, walk_of, Goes-dropped, Goes-spent_slice}
use borrow.Rule.Slice.Lend.{kept_f, sl_relend, sl_relent_backˡ}
use borrow.Rule.Slice.Handed.{sl_Share}
use denote.Shares.{Shares-less}
use borrow.Table.Owned as own
use denote.Param.Laws.{copied_laws, copied_copy}
use Rattle.der_core.specs.Words.{IsFront, ok_of}
use Rattle.der_core.proofs.EncodeToSlice.{byte_laws, count_laws, CountOr, front_laws, FrontOr, slice_rests_finally, front_error_kept, front_within}
use Rattle.standard.specs.Statement.{Encodes, IsShortest}
use Rattle.pkcs1_params.specs.Words.{EncodingUnderMask, Error, IsMask, LeavesEncoded, Refuses}
use Rattle.pkcs1_params.specs.contracts.error.Error.{the_row as ErrorRow}
use Rattle.pkcs1_params.proofs.error.Error.TheLaws.{the_row_laws as error_laws}
use Rattle.pkcs1_params.proofs.WrittenFront.{encoded_fits, leaves_encoded, front_is_shortest}
use Rattle.pkcs1_params.specs.contracts.spelling.EncodeParams.encode_spelling as f
use Rattle.pkcs1_params.specs.contracts.spelling.EncodeParams.encode_spelling.Key.{name as #self}
use Rattle.pkcs1_params.specs.contracts.spelling.EncodeParams.encode_spelling_into as g
use Rattle.pkcs1_params.specs.contracts.spelling.front as h
use Rattle.pkcs1_params.proofs.spelling.EncodeParams.encode_spelling_into.Met.{met as writes}
use Rattle.pkcs1_params.proofs.spelling.front.Met.{met as answers}
use Rattle.pkcs1_params.proofs.spelling.EncodeParams.encode_spelling.Statement.{statement}
use Rattle.pkcs1_params.proofs.spelling.EncodeParams.encode_spelling.Code as code

pub encode_spelling_spec : {M : Type 1} → statement M
encode_spelling_spec 𝓤 𝓛 𝓜 𝓡 wired W Fs L Ls C gh d gc dc gf df dd met met_clone met_fields met_drop =
    let H = 𝓛.H in let 𝓣 = tables 𝓤 H 𝓜 𝓡 𝓡.env in let R : RattleType = copied 0 W in
    let told = copied_copy 0 W C in
    let En = f.ended W Fs gh d gc dc gf df dd in
    let c = f.clauses W Fs gh d gc dc gf df dd 𝓛 𝓜.mem 𝓡.returns in
    let inst = bounded (a_type ∷ a_type ∷ []) (W, (Fs, tt)) (dcons d (dcons dc (dcons df (dcons dd dnil)))) in
    let fn = inst_fn inst code.function in
    let hs : Stays En.signature.params En.kept = (
      stay_dropped (plain (λ _. R)) no,
      (stay_dropped (plain (λ _. u8)) yes, (stay_dropped (mut_slice_of (0 ∷ []) tt (plain (λ _. u8))) no, tt)),
    ) in
    proved 𝓛 En hs c 𝓜 𝓡 (
      Goes-dropped 𝓛 3 (plain (λ _. R)) no (λ κs x w. refl),
      (
        Goes-dropped 𝓛 3 (plain (λ _. u8)) yes (λ κs x w. refl),
        (Goes-spent_slice 𝓛 3 (0 ∷ []) tt (plain (λ _. u8)), tt),
      ),
    ) (#self inst) fn
    (code.unfolded 𝓤 H 𝓜 𝓡 wired (W, (Fs, tt)) d dc df dd)
    (λ κs. ((λ x. told.val x ∷ []), (uint_vals w8, (mut_slice_vals, tt))))
    (λ κs. (told.tells, (uint_Tells w8, (mut_slice_Tells (named 0) κs.0 u8, tt)))) (λ κs qs bounds a _ are.
    let κ : Lft = κs.0 in let κ₁ : Lft = κs.1.0 in let κ₂ : Lft = κs.1.1.0 in let q : Share = qs.0 in
    let mask : ℕ = a.1.0 in let out : MutBor (List ℕ) = a.1.1.0 in
    let b : ℕ = out.ref_ptr.0 in let o : ℕ = out.ref_ptr.1 in let γ : GName = out.ghost_name in
    let xs : List ℕ = out.now in let rm = are.1.1.0.0.1 in
    let v₀ : Val = told.val a.0 in
    let Encoding : gh.Params → List ℕ → Type 0 = EncodingUnderMask mask gh.Is gh.fields_of in
    let value : gh.Params = gh.params a.0 in
    let y : (walk_of 𝓛 En hs c).Ghost =
    ((κs, qs, bounds, a, (v₀ ∷ [], (uint_vals w8 mask, (mut_slice_vals out, tt)))), tt) in
    let Post : Val → SProp 𝓤 = (walk_of 𝓛 En hs c).post y in
    qed 𝓛 (((‵ (flft κ q) ⊛ ‵ (flft κ₁ qs.1.0) ⊛ ‵ (flft κ₂ qs.1.1.0) ⊛ ‵ ftrue)
    ⊛ (‵ (R.own_val a.0 (v₀ ∷ [])) ⊛ ‵ (u8.own_val mask (uint_vals w8 mask))
    ⊛ ‵ ((MutSlice (named 0) κ u8).own_val out (mut_slice_vals out)) ⊛ ‵ ftrue))
    ∷ (raw (fact 𝓤 (κ₁ ⊑ W.lives)) ⊛ raw (fact 𝓤 (κ₂ ⊑ Fs.lives)) ⊛ raw (fact 𝓤 (IsMask (gh.fields_of value) mask))) ∷ []) ∵
    move ! (1 ∷ []) $ split3 ! $ heard ! (κ₁ ⊑ W.lives) (λ inside. heard ! (κ₂ ⊑ Fs.lives) (λ fields_inside.
    heard ! (IsMask (gh.fields_of value) mask) (λ is_mask.
    split ! $ split3 ! $ move ! (2 ∷ []) $ split ! $ move ! (4 ∷ []) $ split3 ! $ move ! (2 ∷ []) $ split ! $
    keep ! (2 ∷ 3 ∷ 0 ∷ 6 ∷ 7 ∷ 4 ∷ []) $
    -- [self; the mask; the slice; the tokens of κ, κ₁ and κ₂]
    enter ! 𝓣.C 𝓣.Λ fn (v₀ ∷ vint w8 mask ∷ slice_val out.ref_ptr (length xs) ∷ []) Post $
    alloc_all ! (λ l. pass_all ! refl (
      (((copied_laws 0 W L).lawful 𝓛).typed a.0 (v₀ ∷ []) are.0).0,
      ((tt, record { fits = are.1.0.1 }), ((tt, (tt, (record { fits = rm.0 }, tt))), tt)),
    ) $
    sets ! (addr ! (from ! (fld ! refl (hop ! (look_in_at ! 3 (sub ! 0 refl (whole !))) (stop !))))) refl (tt, tt) $
    sets ! (agg ! (and_then ! (get ! refl)
    (and_then ! (get_in ! (fld ! refl (stop !)) (sub ! 1 refl (whole !))) (no_more !)))) refl
    (tt, (tt, (record { fits = rm.0 }, tt))) $
    -- lent to `encode_spelling_into`
    lft_new ! tt (λ α. move ! (3 ∷ []) $ fsplit ! $ fsplit ! $ feq_l ! (λ _. fjoin ! $ move ! (0 ∷ 4 ∷ []) $
    use2 𝓛 (later (some (λ (δ : GName). ‵ ((own.MutSlice erased (α ∷ []) u8).own_val (record out { ghost_name = δ }))
    ⊛ kept_f 𝓛 u8 κ q (α ∷ []) γ δ xs b o))) (sl_relend 𝓛 u8 κ q (α ∷ []) b o γ xs) $ await ! tt $
    pick ! (λ δ. split ! $
    -- [the loan; what is kept; the token of α; self; the mask; the tokens of κ₁ and κ₂]
    let lent : MutBor (List ℕ) = record out { ghost_name = δ } in
    let G = triple_of 𝓛 (g.signature W Fs) (g.spec W Fs gh d gc dc gf df dd 𝓛 𝓜.mem 𝓡.returns) in
    let z : G.Ghost = (
      (
        (α ∷ [], (κ₁, (κ₂, tt))),
        (full_share, (qs.1.0, (qs.1.1.0, tt))),
        bounds,
        (a.0, (mask, (lent, tt))),
        (v₀ ∷ [], (uint_vals w8 mask, (mut_slice_vals lent, tt))),
      ),
      tt,
    ) in
    fsplit ! $ feq_i ! (List Val) (mut_slice_vals lent) (mut_slice_vals lent) refl $ fjoin ! $ fjoin ! $
    use0 𝓛 (raw (fact 𝓤 (IsMask (gh.fields_of value) mask)))
    (fact_i 𝓤 (IsMask (gh.fields_of value) mask) (emp 𝓤) is_mask) $
    use0 𝓛 (raw (fact 𝓤 (κ₂ ⊑ Fs.lives))) (fact_i 𝓤 (κ₂ ⊑ Fs.lives) (emp 𝓤) fields_inside) $ join ! $
    use0 𝓛 (raw (fact 𝓤 (κ₁ ⊑ W.lives))) (fact_i 𝓤 (κ₁ ⊑ W.lives) (emp 𝓤) inside) $ join ! $
    nothing ! $ move ! (2 ∷ 0 ∷ []) $ join ! $ move ! (5 ∷ 0 ∷ []) $ join ! $ move ! (4 ∷ 0 ∷ []) $ join ! $
    nothing ! $ move ! (6 ∷ 0 ∷ []) $ join ! $ move ! (5 ∷ 0 ∷ []) $ join ! $ move ! (4 ∷ 0 ∷ []) $ join ! $ join ! $
    join ! $
    use1 𝓛 (raw (G.pre z)) (id⊢ 𝓤 _) $
    calls_at ! (framed 𝓤 H 𝓜 𝓣) G (writes 𝓤 𝓛 𝓜 𝓡
    (code.calls-pkcs1_params::spelling::EncodeParams::encode_spelling_into 𝓡.env wired) W Fs L Ls C gh d gc dc gf df dd
    met met_clone met_fields met_drop) z
    (and_then ! (get ! refl) (and_then ! (get ! refl) (and_then ! (get ! refl) (no_more !)))) (λ v.
    let Rejected : Error → Type 0 = Refuses (λ _. ⊤) Encoding value (length xs) in
    use1 𝓛 (later (some (λ (r : Result ℕ Error).
    ((‵ (flft (α ∷ []) full_share) ⊛ ‵ (flft κ₁ qs.1.0) ⊛ ‵ (flft κ₂ qs.1.1.0) ⊛ ‵ ftrue)
    ⊛ ‵ ((CountOr ErrorRow).own_val r (v ∷ [])))
    ⊛ some (λ (ws : Unit {0} × (Unit {0} × (List ℕ × Unit {0}))).
    ‵ (lasts (g.ended W Fs gh d gc dc gf df dd) z.0.0 z.0.3 ws)
    ⊛ given (Encodes Encoding value xs ws.1.1.0 (ok_of (λ n. n) r)) (‵ ftrue)
    ⊛ given (IfErr r Rejected) (‵ ftrue))))) (id⊢ 𝓤 _) $
    await ! tt $ pick ! (λ r. split ! $ split ! $ move ! (1 ∷ []) $
    peeks ! (CountOr ErrorRow) (Is (CountOr ErrorRow)) (shows 𝓛 (CountOr ErrorRow)) r (v ∷ []) (λ told_count.
    lands_as ! refl refl (((count_laws ErrorRow error_laws).lawful 𝓛).typed r (v ∷ []) told_count).0 $ move ! (2 ∷ []) $
    pick ! (λ ws. let ys : List ℕ = ws.1.1.0 in
    split ! $ move ! (1 ∷ []) $ split ! $
    learn ! (λ wrote. drop ! $ learn ! (λ rejected. drop ! $
    fsplit ! $ drop ! $ fsplit ! $ drop ! $ fsplit ! $ fsplit ! $ fsplit ! $
    -- [how the loan ends; two facts; nothing; the count; the tokens; what is kept]
    move ! (5 ∷ []) $ split3 ! $ lft_end ! tt $ move ! (0 ∷ 8 ∷ 3 ∷ []) $
    use3 𝓛 (later (given (length ys ≡ length xs)
    (‵ ((own.MutSlice erased κ u8).own_val (record out { now = ys })) ⊛ ‵ (flft κ q))))
    (sl_relent_backˡ 𝓛 u8 κ q (α ∷ []) b o γ δ xs ys) $ await ! tt $ learn ! (λ long. split ! $
    -- shared for all of κ
    use2 𝓛 (later (‵ ((own.ShrSlice erased κ u8).own_val (record { ref_ptr = (b, o); now = ys })) ⊛ ‵ (finally u8 γ ys)
    ⊛ ‵ (flft κ q))) (sl_Share 𝓛 u8 b o γ ys byte_laws.shr_laws κ q
    (Shares-less 𝓛 u8 [] κ (⊑_static κ) (byte_laws.shares 𝓛))) $ await ! tt $ split3 ! $
    -- [the shared slice; how the slice ends; the tokens of κ, κ₁ and κ₂; two facts; nothing; the count]
    sets ! (addr ! (from ! (fld ! refl (hop ! (look_in_at ! 3 (sub ! 0 refl (whole !))) (stop !))))) refl (tt, tt) $
    let room : length ys < 2 ^ 64 = (let room = rm.0 in omega arith) in
    sets ! (is ! (agg ! (and_then ! (get ! refl)
    (and_then ! (get_in ! (fld ! refl (stop !)) (sub ! 1 refl (whole !))) (no_more !))))
    (ap (slice_val (b, o)) (sym long))) refl (tt, (tt, (record { fits = room }, tt))) $
    let all : Bor (List ℕ) = record { ref_ptr = (b, o); now = ys } in
    let B = triple_of 𝓛 h.signature (h.spec 𝓛 𝓜.mem 𝓡.returns) in
    let x : B.Ghost = (((κ, tt), (q, tt), tt, (all, (r, tt)), (shr_slice_vals all, (v ∷ [], tt))), tt) in
    fsplit ! $ feq_i ! (List Val) (shr_slice_vals all) (shr_slice_vals all) refl $ fjoin ! $ fjoin ! $
    nothing ! $ move ! (9 ∷ 0 ∷ []) $ join ! $ move ! (1 ∷ 0 ∷ []) $ join ! $ nothing ! $ move ! (3 ∷ 0 ∷ []) $ join ! $
    join ! $
    use0 𝓛 (raw (fact 𝓤 (IfOk r (λ n. n ≤ length ys))))
    (fact_i 𝓤 (IfOk r (λ n. n ≤ length ys)) (emp 𝓤) (encoded_fits Encoding value xs ys long r wrote)) $
    move ! (1 ∷ 0 ∷ []) $ join ! $
    use1 𝓛 (raw (B.pre x)) (id⊢ 𝓤 _) $
    calls_at ! (framed 𝓤 H 𝓜 𝓣) B (answers 𝓤 𝓛 𝓜 𝓡 (code.calls-pkcs1_params::spelling::front 𝓡.env wired)) x
    (and_then ! (get ! refl) (and_then ! (get ! refl) (no_more !))) (λ u.
    use1 𝓛 (later (some (λ (t : Result (Bor (List ℕ)) Error).
    ((‵ (flft κ q) ⊛ ‵ ftrue) ⊛ ‵ ((FrontOr ErrorRow κ).own_val t (u ∷ [])))
    ⊛ some (λ (us : Unit {0} × (Unit {0} × Unit {0})). ‵ (lasts h.ended x.0.0 x.0.3 us)
    ⊛ given (IsFront ys r t) (‵ ftrue))))) (id⊢ 𝓤 _) $
    await ! tt $ pick ! (λ t. split ! $ split ! $ move ! (1 ∷ []) $
    peeks ! (FrontOr ErrorRow κ) (Is (FrontOr ErrorRow κ)) (shows 𝓛 (FrontOr ErrorRow κ)) t (u ∷ []) (λ told_front.
    lands_as ! refl refl (((front_laws ErrorRow error_laws κ).lawful 𝓛).typed t (u ∷ []) told_front).0 $ move ! (2 ∷ []) $
    pick ! (λ us. split ! $ move ! (1 ∷ []) $ learn ! (λ answered. drop ! $ drop ! $
    -- [the answer; the token of κ; how the slice ends; the tokens of κ₁ and κ₂; ..]
    returns ! (look_at ! 0 refl) $ free_all ! refl $
    move ! (1 ∷ []) $ split ! $ keep ! (0 ∷ 2 ∷ 3 ∷ 4 ∷ 5 ∷ []) $ move ! (3 ∷ 4 ∷ []) $ join ! $ move ! (1 ∷ 0 ∷ []) $
    join ! $ move ! (2 ∷ []) $
    let F₁ : Type 0 = IfOk t (λ front. IsShortest Encoding value front.now) in
    let F₂ : Type 0 = IfOk t (λ front. length front.now ≤ length xs) in let F₃ : Type 0 = IfErr t Rejected in
    use1 𝓛 (‵ (LeavesEncoded Encoding value out t))
    (slice_rests_finally 𝓛 out ys (λ end. Encodes Encoding value xs end (ok_of (λ front. length front.now) t))
    (leaves_encoded Encoding value xs ys long r t wrote answered)) $
    use0 𝓛 (raw (fact 𝓤 F₃)) (fact_i 𝓤 F₃ (emp 𝓤) (front_error_kept ys Rejected r t rejected answered)) $
    use0 𝓛 (raw (fact 𝓤 F₂)) (fact_i 𝓤 F₂ (emp 𝓤) (front_within [] xs ys long r t answered)) $ join ! $
    use0 𝓛 (raw (fact 𝓤 F₁)) (fact_i 𝓤 F₁ (emp 𝓤) (front_is_shortest Encoding value xs ys long r t wrote answered)) $
    join ! $ move ! (1 ∷ 0 ∷ []) $ join ! $
    nothing ! $ nothing ! $ fjoin ! $ nothing ! $ fjoin ! $ nothing ! $ fjoin ! $ move ! (2 ∷ 0 ∷ 3 ∷ 1 ∷ []) $
    by ! (leaves 𝓛 En hs c y u t (tt, (tt, (tt, tt))) (tt, (tt, (tt, tt))))))))))))))))))))))))
