-- `free` forgets the items, and hands all the room back with the allocator's token. Assumes `Logic`.
use Rattle.std.proofs.Common.{◌≡◌, refl, sym, ap, subst, ◌∙◌, arith, ℕ, ◌+◌, ◌*◌, ◌^◌, ◌<◌, List, [], ◌∷◌, ◌++◌, length, w64, T as Holds}
use mir.Syntax.{Fn, ty_unit}
use mir.MapTy.{inst_fn}
use mir.Val.{Val, vint, vptr, vunit, has_ty, WT}
use base.Logic.{SProp}
use base.Fml.{ftrue, flft, froom, Incl-trans}
use prog.Capped.{capped_fits}
use prog.Memory.{align, capped}
use prog.Wp.{Env, WpFn}
use contract.BorrowLft.{◌⊑◌}
use contract.Monad.{fact}
use contract.Running.{tables}
use types.Kit.{‵, raw, ◌⊛◌, given, later, prop, at_ret, ◌$◌, ◌∵◌, !, qed, by, move, keep, drop, use1, split, join, group, regoal, rewrite, fjoin, fsplit, fsplit3, feq_i, await, learn}
use types.Part.{whole, sub}
use types.Run.{stop, fld, unit_lit, size_word, align_word, of_opd, bin, and_then, no_more, first, blocks, exec, returns, enter}
use types.ByLocal.{alloc_all, pass_all, free_all, look_at, get, get_in, is, sets, lands_last, env}
use denote.Builtin.{usize, RefOf}
use denote.Exit.{yes, no}
use denote.RattleType.{owns}
use denote.RawPtr.{Ptr, block_ptr}
use denote.Signature.{plain, types_at}
use denote.Steps.{heard, nothing}
use denote.Triple.Call.{calls_at_last}
use denote.Triple.Table.{framed}
use denote.Triple.Walked.{Stays, stay_dropped, walk_of, Goes-dropped}
use Rattle.std.proofs.raw_atomic.Walks.{proved_at, leaves}
use Rattle.core.proofs.alloc.Calls.{Al, token, Gives, at_gives, Gives-goes, Gives-Gives, Goes-blank}
use Rattle.core.proofs.alloc.Shapes.{after}
use Rattle.core.proofs.mem.Param.{El, elτ}
use Rattle.core.proofs.slots.Leases.{uncapped, block_ty, block_size, block_align, args, P}
use Rattle.page_pool.specs.contracts.memory.free as F
use Rattle.page_pool.specs.contracts.memory.free.Key.{name as #self}
use Rattle.page_pool.proofs.Places.{width, all_room}
use Rattle.page_pool.proofs.Values.{Mr, Cl, start_val, empty_val, memory_had, claim_had}
use Rattle.page_pool.proofs.memory.free.Statement.{statement}
use Rattle.page_pool.proofs.memory.free.Code as compiled

pub free_spec : {M : Type 1} → statement M
free_spec 𝓤 𝓛 𝓜 𝓡 wired T A LT LA g d dd met glue =
    let H = 𝓛.H in let C = (tables 𝓤 H 𝓜 𝓡 𝓡.env).C in let Λ = (tables 𝓤 H 𝓜 𝓡 𝓡.env).Λ in
    let E : El = record { row = T; laws = LT } in let Z : Al = record { row = A; laws = LA; g = g; d = d; drops = dd } in
    let Ended = F.ended T A g d dd in
    let c = F.clauses T A g d dd 𝓛 𝓜.mem 𝓡.returns in
    let fn : Fn = inst_fn (args E Z) compiled.function in
    let alloc = RefOf (0 ∷ []) tt (plain (λ _. P E Z)) (λ _. tt) in
    let stays : Stays Ended.signature.params Ended.kept = (stay_dropped alloc yes, (stay_dropped (plain (λ _. usize)) yes, (stay_dropped (plain (λ _. Mr E)) no, (stay_dropped (plain (λ _. Cl E Z)) no, tt)))) in
    proved_at 𝓛 Ended stays c 𝓜 𝓡 (Goes-dropped 𝓛 3 alloc yes (λ κs x f. refl), (Goes-dropped 𝓛 3 (plain (λ _. usize)) yes (λ κs x f. refl), (Goes-blank 𝓛 3 (plain (λ _. Mr E)) no (λ κs x f. tt), (Goes-blank 𝓛 3 (plain (λ _. Cl E Z)) no (λ κs x f. tt), tt))))
    (#self (args E Z)) fn (compiled.unfolded 𝓤 H 𝓜 𝓡 wired (T, (A, tt)) d dd) (λ z are.
    let κ = z.0.0.0 in let q = z.0.1.0 in let a = z.0.3 in let vss = z.0.4 in let hp = a.0.ref_ptr in let h = a.0.now in
    let n = a.1.0 in let m = a.1.1.0 in let k = a.1.1.1.0 in
    let Post : Val → SProp 𝓤 = (walk_of 𝓛 Ended stays c).post z in
    let Asked : Type 0 = (length m.items + m.left ≡ n) × (k.start ≡ m.start) × (k.places ≡ n) × (k.alloc ≡ h) in
    let s = width E in let al : ℕ = capped (align (elτ E)) in
    qed 𝓛 (((‵ (flft κ q) ⊛ ‵ (flft z.0.0.1.0 z.0.1.1.0) ⊛ ‵ (flft z.0.0.1.1.0 z.0.1.1.1.0) ⊛ ‵ ftrue) ⊛ ‵ (owns (types_at Ended.signature.params z.0.0) a vss))
    ∷ (raw (fact 𝓤 (z.0.0.1.0 ⊑ T.lives)) ⊛ raw (fact 𝓤 (z.0.0.1.1.0 ⊑ A.lives)) ⊛ raw (fact 𝓤 Asked)) ∷ []) ∵
    move ! (1 ∷ []) $ split ! $ drop ! $ split ! $ heard ! (z.0.0.1.1.0 ⊑ A.lives) (λ lives. heard ! Asked (λ asked.
    split ! $ split ! $ move ! (2 ∷ []) $ fsplit3 ! $ fsplit ! $ drop ! $ move ! (2 ∷ []) $ fsplit ! $
    -- [the memory; the claim, before nothing; the allocator behind its `&`; the count; its token; the other tokens]
    memory_had E ! m vss.1.1.0 (λ b at here is_m fit.
    let bytes : n * s < 2 ^ 64 = let e : n * s < 2 ^ 63 = subst (λ (j : ℕ). j * s < 2 ^ 63) asked.0 fit in omega arith in
    use1 𝓛 (‵ (froom (block_ty E n) b at)) (all_room E 𝓛 b m.items m.left n at asked.0) $ move ! (1 ∷ []) $ fsplit ! $
    claim_had E Z ! k vss.1.1.1.0 (λ is_k.
    rewrite ! 0 (λ (j : A.Denot × ℕ × Ptr). ‵ (token Z j.0 (block_ty E j.1) j.2)) (λ i. (asked.3 i, asked.2 i, (asked.1 ∙ here) i)) refl $
    keep ! (2 ∷ 0 ∷ 3 ∷ 5 ∷ 6 ∷ []) $
    -- [the room; the allocator's token for it; the allocator behind its `&`; its token; the other tokens]
    regoal ! (λ (us : List Val). prop (WpFn 𝓤 H C Λ fn us Post)) (λ j. are.0.0 j ++ (are.1.0.0 j ++ (is_m j ++ (is_k j ++ [])))) refl $
    enter ! C Λ fn (vptr hp.0 hp.1 ∷ vint w64 n ∷ start_val (block_ptr b at) ∷ empty_val ∷ []) Post $ alloc_all ! (λ l. pass_all ! refl ((tt, tt), ((tt, record { fits = are.1.0.1 }), ((tt, (tt, tt)), ((tt, (tt, tt)), tt)))) $
    let En : Env 𝓤 H = env fn.locals l in let y = at_gives Z 𝓛 𝓜.mem 𝓡.returns κ q hp h b at (n * s) al (block_ty E n) in
    sets ! (of_opd ! (get_in ! (fld ! refl (stop !)) (sub ! 0 refl (whole !)))) refl (tt, tt) $ first ! $ blocks ! $ sets ! (of_opd ! (get ! refl)) refl (tt, tt) $
    sets ! (is ! (bin ! (get ! refl) (size_word !) (record { fits = subst (λ (j : ℕ). j < 2 ^ 64) (sym (uncapped n s bytes)) bytes })) (ap (vint w64) (uncapped n s bytes))) refl (tt, record { fits = bytes }) $
    group ! 4 $ use1 𝓛 (raw ((Gives Z 𝓛 𝓜.mem 𝓡.returns).pre y)) (Gives-goes Z 𝓛 𝓜.mem 𝓡.returns κ q hp h (Incl-trans z.0.2.0 lives) b at (n * s) al (block_ty E n) (block_size E n bytes) (block_align E n) bytes (capped_fits (align (elτ E)))) $
    calls_at_last ! (framed 𝓤 H 𝓜 (tables 𝓤 H 𝓜 𝓡 𝓡.env)) (Gives Z 𝓛 𝓜.mem 𝓡.returns) (met.deallocate dd) y (and_then ! (get ! refl) (and_then ! (get ! refl) (and_then ! (get ! refl) (and_then ! (align_word !) (no_more !))))) (λ v.
    use1 𝓛 (later (given (v ≡ vunit) (‵ (flft κ q)))) (Gives-Gives Z 𝓛 𝓜.mem 𝓡.returns κ q hp h b at (n * s) al (block_ty E n) v) $ await ! tt $ learn ! (λ e.
    lands_last ! refl (subst (λ (w : Val). Holds (has_ty ty_unit w) × WT w) (sym e) (tt, tt)) $ exec ! C Λ En (after 2 fn.body) (at_ret En Post) $
    sets ! (of_opd ! (unit_lit !)) refl (tt, tt) $ returns ! (look_at ! 0 refl) $ free_all ! refl $ join ! $
    feq_i ! (List Val) (vunit ∷ []) (vunit ∷ []) refl $ nothing ! $ nothing ! $ nothing ! $ fjoin ! $ nothing ! $ fjoin ! $ nothing ! $ fjoin ! $ nothing ! $ fjoin ! $ move ! (3 ∷ 0 ∷ 2 ∷ 1 ∷ []) $
    by ! (leaves 𝓛 Ended stays c z vunit tt (tt, (tt, (tt, (tt, tt)))) (tt, (tt, (tt, (tt, tt)))))))))))))
