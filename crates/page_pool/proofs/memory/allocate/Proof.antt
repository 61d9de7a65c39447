-- `allocate` asks the allocator for an array: its room is the memory, with nothing written, and its token the claim. Assumes `Logic`.
use Rattle.std.proofs.Common.{◌≡◌, refl, sym, ap, subst, arith, lit<, ℕ, ◌*◌, ◌^◌, ◌<◌, List, [], ◌∷◌, ◌++◌, w64, true, false, Ok, Err}
use native.Mathlib.Nat.{zero-add}
use Rattle.std.specs.Vec.Ownership.{FitsInBlock}
use mir.Syntax.{Fn, Body}
use mir.MapTy.{inst_fn}
use mir.Val.{Val, vint, vptr, vstruct, vcons, vnil, WT}
use base.Logic.{SProp, emp}
use base.Fml.{ftrue, flft, Incl-trans}
use prog.Capped.{capped_fits}
use prog.Memory.{align, capped}
use prog.Wp.{Env, Wp, WpFn, after_seq, at_return}
use contract.BorrowLft.{◌⊑◌}
use contract.Monad.{fact, fact_i}
use contract.Running.{tables}
use denote.Triple.Table.{framed}
use types.Kit.{Post as Goes, any_q, ‵, raw, ◌⊛◌, later, prop, at_ret, ◌$◌, ◌∵◌, !, qed, by, move, keep, drop, use0, use1, use2, split, join, regoal, fjoin, fsplit, await}
use types.Match.{live, vrt, in_variant}
use types.Part.{whole, agg}
use types.Run.{stop, fld, lit, size_word, align_word, of_opd, bin, and_then, no_more, first, switches_on, exec, returns, enter}
use types.ByLocal.{alloc_all, pass_all, free_all, look_at, get, get_in, get_tag, is, sets, sets_last, lands_as, env}
use denote.Builtin.{usize, RefOf}
use denote.Exit.{yes}
use denote.RattleType.{RattleType, owns}
use denote.RawPtr.{Ptr, block_ptr}
use denote.Signature.{plain, types_at}
use denote.Steps.{heard, nothing, owned}
use denote.Laws.{Is}
use denote.Struct.Declared.{shape}
use denote.Struct.Struct.{Struct, Struct-Makes}
use denote.Struct.Tuple.{Tuple}
use denote.Triple.Call.{calls_at}
use denote.Triple.Walked.{Stays, stay_dropped, walk_of, Goes-dropped}
use Rattle.std.proofs.raw_atomic.Walks.{proved_at, leaves}
use Rattle.std_alloc.proofs.Pairs.{pair_of, pair_val}
use Rattle.std_alloc.proofs.ResultValues.{ok_of, err_of}
use Rattle.core.proofs.alloc.Calls.{Al, Answer-typed, Takes, at_takes, Answered, Takes-goes, Takes-gives, answers}
use Rattle.core.proofs.alloc.Shapes.{after, head, arm_body}
use Rattle.core.proofs.mem.Param.{El, R, elτ}
use Rattle.core.proofs.slots.Leases.{uncapped, block_ty, block_size, block_align, args, P}
use Rattle.core.specs.contracts.alloc.AllocError as refusal
use Rattle.core.specs.contracts.result.Result as outcome
use Rattle.page_pool.specs.contracts.memory.allocate as F
use Rattle.page_pool.specs.contracts.memory.allocate.Key.{name as #self}
use Rattle.page_pool.proofs.Places.{width}
use Rattle.page_pool.proofs.Values.{Mr, Cl, start_val, empty_val, memory_made, claim_made}
use Rattle.page_pool.proofs.memory.allocate.Statement.{statement}
use Rattle.page_pool.proofs.memory.allocate.Code as compiled

pub allocate_spec : {M : Type 1} → statement M
allocate_spec 𝓤 𝓛 𝓜 𝓡 wired T A LT LA g d dd met glue =
    let H = 𝓛.H in let C = (tables 𝓤 H 𝓜 𝓡 𝓡.env).C in let Λ = (tables 𝓤 H 𝓜 𝓡 𝓡.env).Λ in
    let E : El = record { row = T; laws = LT } in let Z : Al = record { row = A; laws = LA; g = g; d = d; drops = dd } in
    let Ended = F.ended T A g d dd in
    let c = F.clauses T A g d dd 𝓛 𝓜.mem 𝓡.returns in
    let fn : Fn = inst_fn (args E Z) compiled.function in
    let alloc = RefOf (0 ∷ []) tt (plain (λ _. P E Z)) (λ _. tt) in
    let stays : Stays Ended.signature.params Ended.kept = (stay_dropped alloc yes, (stay_dropped (plain (λ _. usize)) yes, tt)) in
    proved_at 𝓛 Ended stays c 𝓜 𝓡 (Goes-dropped 𝓛 3 alloc yes (λ κs x f. refl), (Goes-dropped 𝓛 3 (plain (λ _. usize)) yes (λ κs x f. refl), tt))
    (#self (args E Z)) fn (compiled.unfolded 𝓤 H 𝓜 𝓡 wired (T, (A, tt)) d dd) (λ z are.
    let κ = z.0.0.0 in let q = z.0.1.0 in let a = z.0.3 in let vss = z.0.4 in let hp = a.0.ref_ptr in let h = a.0.now in let n = a.1.0 in
    let Post : Val → SProp 𝓤 = (walk_of 𝓛 Ended stays c).post z in
    let Asked : Type 0 = FitsInBlock (R E) n in
    let Two : RattleType = Tuple (Mr E ∷ Cl E Z ∷ []) in let Out : RattleType = outcome.the_row Two refusal.the_row in
    let s = width E in let al : ℕ = capped (align (elτ E)) in let τ = block_ty E n in
    qed 𝓛 (((‵ (flft κ q) ⊛ ‵ (flft z.0.0.1.0 z.0.1.1.0) ⊛ ‵ (flft z.0.0.1.1.0 z.0.1.1.1.0) ⊛ ‵ ftrue) ⊛ ‵ (owns (types_at Ended.signature.params z.0.0) a vss))
    ∷ (raw (fact 𝓤 (z.0.0.1.0 ⊑ T.lives)) ⊛ raw (fact 𝓤 (z.0.0.1.1.0 ⊑ A.lives)) ⊛ raw (fact 𝓤 Asked)) ∷ []) ∵
    move ! (1 ∷ []) $ split ! $ drop ! $ split ! $ heard ! (z.0.0.1.1.0 ⊑ A.lives) (λ lives. heard ! Asked (λ asked.
    let small : n * s < 2 ^ 63 = asked.0 in let bytes : n * s < 2 ^ 64 = omega arith in
    split ! $ split ! $ move ! (2 ∷ []) $ fsplit ! $ fsplit ! $ keep ! (1 ∷ 3 ∷ 4 ∷ []) $
    -- [the allocator behind its `&`; its token; the other tokens]
    regoal ! (λ (us : List Val). prop (WpFn 𝓤 H C Λ fn us Post)) (λ j. are.0.0 j ++ (are.1.0.0 j ++ [])) refl $
    enter ! C Λ fn (vptr hp.0 hp.1 ∷ vint w64 n ∷ []) Post $ alloc_all ! (λ l. pass_all ! refl ((tt, tt), ((tt, record { fits = are.1.0.1 }), tt)) $
    let En : Env 𝓤 H = env fn.locals l in let both : Body = head (after 2 fn.body) in
    let rest : Goes 𝓤 H = any_q (after_seq 𝓤 H (Wp 𝓤 H C Λ En (after 3 fn.body) (at_return 𝓤 H En Post)) (at_return 𝓤 H En Post)) in
    let y = at_takes Z 𝓛 𝓜.mem 𝓡.returns κ q hp h (n * s) al τ in
    sets ! (is ! (bin ! (get ! refl) (size_word !) (record { fits = subst (λ (k : ℕ). k < 2 ^ 64) (sym (uncapped n s bytes)) bytes })) (ap (vint w64) (uncapped n s bytes))) refl (tt, record { fits = bytes }) $
    use2 𝓛 (raw ((Takes Z 𝓛 𝓜.mem 𝓡.returns).pre y)) (Takes-goes Z 𝓛 𝓜.mem 𝓡.returns κ q hp h (Incl-trans z.0.2.0 lives) (n * s) al τ (block_size E n bytes) (block_align E n) bytes (capped_fits (align (elτ E)))) $
    calls_at ! (framed 𝓤 H 𝓜 (tables 𝓤 H 𝓜 𝓡 𝓡.env)) (Takes Z 𝓛 𝓜.mem 𝓡.returns) (met.allocate dd) y (and_then ! (get ! refl) (and_then ! (get ! refl) (and_then ! (align_word !) (no_more !)))) (λ v.
    use1 𝓛 (later (raw (Answered Z 𝓛 𝓜.mem 𝓡.returns h τ v) ⊛ ‵ (flft κ q))) (Takes-gives Z 𝓛 𝓜.mem 𝓡.returns κ q hp h (n * s) al τ v) $ await ! tt $ split ! $
    answers Z ! 𝓜.mem 𝓡.returns h τ v
    (λ b o e.
    let p : Ptr = block_ptr b o in
    let memory : (Mr E).Denot = record { start = p; items = []; left = n } in
    let claim : (Cl E Z).Denot = record { by = record {}; start = p; places = n; alloc = h } in
    let both_val : Val = pair_val (start_val p) empty_val in
    let typed : WT (live 0 (vcons both_val vnil)) = (record { fits = lit< tt }, (((tt, tt), ((tt, tt), tt)), tt)) in
    lands_as ! e refl (Answer-typed true b o) $ first ! $ switches_on ! (get_tag ! (vrt ! refl (fld ! refl (stop !))) (whole !)) $ exec ! C Λ En (arm_body 0 both) rest $
    sets ! (of_opd ! (get_in ! (vrt ! refl (fld ! refl (stop !))) (in_variant ! 0 0 refl refl (whole !)))) refl (tt, tt) $ sets ! (of_opd ! (get ! refl)) refl (tt, tt) $
    sets ! (agg ! (and_then ! (get ! refl) (no_more !))) refl (tt, (tt, tt)) $ sets ! (agg ! (no_more !)) refl (tt, tt) $ sets ! (agg ! (and_then ! (get ! refl) (no_more !))) refl (tt, (tt, tt)) $
    sets ! (agg ! (and_then ! (get ! refl) (and_then ! (get ! refl) (no_more !)))) refl (tt, ((tt, tt), ((tt, tt), tt))) $
    sets_last ! (agg ! (and_then ! (lit ! tt) (and_then ! (get ! refl) (no_more !)))) refl (tt, typed) $
    exec ! C Λ En (after 3 fn.body) (at_ret En Post) $ sets ! (of_opd ! (get ! refl)) refl (tt, typed) $
    -- [the room; the allocator's token for it; the tokens]
    memory_made E ! memory b o refl (subst (λ (k : ℕ). k * s < 2 ^ 63) (sym (zero-add n)) small) $ move ! (1 ∷ []) $ claim_made E Z ! claim $ move ! (1 ∷ 0 ∷ []) $
    use2 𝓛 (‵ (Two.own_val (memory, claim) (both_val ∷ []))) (pair_of 𝓛 (Mr E) (Cl E Z) memory claim (start_val p) empty_val) $
    use1 𝓛 (‵ (Out.own_val (Ok (memory, claim)) (live 0 (vcons both_val vnil) ∷ []))) (ok_of 𝓛 Two refusal.the_row (memory, claim) both_val) $
    returns ! (look_at ! 0 refl) $ free_all ! refl $ move ! (1 ∷ 2 ∷ []) $ join ! $
    let Said : Type 0 = (memory.items ≡ []) × (memory.left ≡ n) × (claim.start ≡ memory.start) × (claim.places ≡ n) × (claim.alloc ≡ h) in
    use0 𝓛 (raw (fact 𝓤 Said)) (fact_i 𝓤 Said (emp 𝓤) (refl, refl, refl, refl, refl)) $ nothing ! $ nothing ! $ fjoin ! $ nothing ! $ fjoin ! $ move ! (2 ∷ 0 ∷ 3 ∷ 1 ∷ []) $
    by ! (leaves 𝓛 Ended stays c z (live 0 (vcons both_val vnil)) (Ok (memory, claim)) (tt, (tt, tt)) (tt, (tt, tt))))
    (λ e.
    let none : Val = vstruct vnil in
    let typed : WT (live 1 (vcons none vnil)) = (record { fits = lit< tt }, (tt, tt)) in
    lands_as ! e refl (Answer-typed false 0 0) $ first ! $ switches_on ! (get_tag ! (vrt ! refl (fld ! refl (stop !))) (whole !)) $ exec ! C Λ En (arm_body 1 both) rest $
    sets ! (of_opd ! (get_in ! (vrt ! refl (fld ! refl (stop !))) (in_variant ! 1 0 refl refl (whole !)))) refl (tt, tt) $
    sets_last ! (agg ! (and_then ! (lit ! tt) (and_then ! (get ! refl) (no_more !)))) refl (tt, typed) $
    exec ! C Λ En (after 3 fn.body) (at_ret En Post) $ sets ! (of_opd ! (get ! refl)) refl (tt, typed) $
    -- [the tokens, in two parts]
    let Refusal : RattleType = Struct (shape refusal.the_type) in
    owned ! Refusal (Is Refusal) (Struct-Makes 𝓛 (shape refusal.the_type) tt) tt (none ∷ []) (tt, (refl, tt)) $
    use1 𝓛 (‵ (Out.own_val (Err (record {})) (live 1 (vcons none vnil) ∷ []))) (err_of 𝓛 Two refusal.the_row (record {}) none) $
    returns ! (look_at ! 0 refl) $ free_all ! refl $ move ! (1 ∷ 2 ∷ []) $ join ! $
    use0 𝓛 (raw (fact 𝓤 (Unit {0}))) (fact_i 𝓤 (Unit {0}) (emp 𝓤) tt) $ nothing ! $ nothing ! $ fjoin ! $ nothing ! $ fjoin ! $ move ! (2 ∷ 0 ∷ 3 ∷ 1 ∷ []) $
    by ! (leaves 𝓛 Ended stays c z (live 1 (vcons none vnil)) (Err (record {})) (tt, (tt, tt)) (tt, (tt, tt)))))))))
