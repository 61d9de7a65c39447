-- `write` takes the place out as room, puts the item into it, and gives it back. Assumes `Logic`.
use Rattle.std.proofs.Common.{◌≡◌, refl, sym, subst, arith, ℕ, ◌+◌, ◌*◌, ◌^◌, ◌<◌, ◌≤◌, List, [], ◌∷◌, ◌++◌, length, w64}
use mir.Syntax.{Fn}
use mir.MapTy.{inst_fn}
use mir.Val.{Val, vint, vptr, vunit}
use base.Fraction.{full_share}
use base.Logic.{SProp, emp}
use base.Fml.{ftrue, fat, froom, flft}
use prog.Wp.{Env, WpFn}
use contract.BorrowLft.{◌⊑◌}
use contract.Monad.{fact, fact_i}
use contract.Running.{tables}
use types.Kit.{‵, raw, ◌⊛◌, prop, at_ret, ◌$◌, ◌∵◌, !, qed, by, move, keep, drop, use0, use1, use3, split, join, regoal, rewrite, fsplit, fsplit3, fjoin, fjoin3, feq_i}
use types.Part.{whole, sub, look_in}
use types.Run.{init, stop, fld, load, size_lit, unit_lit, of_opd, bin, assigns_last, first, blocks, exec, returns, enter}
use types.ByLocal.{alloc_all, pass_all, free_all, look_at, get, through, sets, env}
use denote.Builtin.{usize}
use denote.Exit.{yes, no}
use denote.Index.{place, place_is}
use denote.Memory.{cell_at}
use denote.RattleType.{owns}
use denote.RawPtr.{block_ptr}
use denote.Signature.{plain, types_at}
use denote.Steps.{heard, nothing, opens, closes}
use denote.Triple.Walked.{Stays, stay_ref, stay_dropped, walk_of, Goes-ref, Goes-dropped}
use Rattle.std.proofs.raw_atomic.Walks.{proved_at, leaves}
use Rattle.core.proofs.alloc.Shapes.{after}
use Rattle.core.proofs.mem.Param.{El, R, elτ, args, lawful, one}
use Rattle.core.proofs.ptr.Rows.{times_below, one_below}
use Rattle.page_pool.specs.Ownership.{laid}
use Rattle.page_pool.specs.Written.{written}
use Rattle.page_pool.specs.contracts.memory.Memory.write as F
use Rattle.page_pool.specs.contracts.memory.Memory.write.Key.{name as #self}
use Rattle.page_pool.proofs.Places.{width, around, place_out, place_in, left_after, same_places}
use Rattle.page_pool.proofs.Values.{Mr, start_val, memory_had, memory_made}
use Rattle.page_pool.proofs.memory.Memory.write.Statement.{statement}
use Rattle.page_pool.proofs.memory.Memory.write.Code as compiled

pub write_spec : {M : Type 1} → statement M
write_spec 𝓤 𝓛 𝓜 𝓡 wired T L =
    let H = 𝓛.H in let C = (tables 𝓤 H 𝓜 𝓡 𝓡.env).C in let Λ = (tables 𝓤 H 𝓜 𝓡 𝓡.env).Λ in
    let E : El = record { row = T; laws = L } in
    let c = F.clauses T 𝓛 𝓜.mem 𝓡.returns in
    let fn : Fn = inst_fn (args E) compiled.function in
    let stays : Stays (F.ended T).signature.params (F.ended T).kept = (stay_ref (0 ∷ []) tt (plain (λ _. Mr E)), (stay_dropped (plain (λ _. usize)) yes, (stay_dropped (plain (λ _. R E)) no, tt))) in
    proved_at 𝓛 (F.ended T) stays c 𝓜 𝓡 (Goes-ref 𝓛 2 0 tt (plain (λ _. Mr E)), (Goes-dropped 𝓛 2 (plain (λ _. usize)) yes (λ κs x f. refl), (Goes-dropped 𝓛 2 (plain (λ _. R E)) no (λ κs x f. refl), tt)))
    (#self (args E)) fn (compiled.unfolded 𝓤 H 𝓜 𝓡 wired (T, tt)) (λ z are.
    let a = z.0.3 in let vss = z.0.4 in let rb = a.0.ref_ptr.0 in let ro = a.0.ref_ptr.1 in
    let m = a.0.now in let i = a.1.0 in let x = a.1.1.0 in
    let Post : Val → SProp 𝓤 = (walk_of 𝓛 (F.ended T) stays c).post z in
    let Asked : Type 0 = (i ≤ length m.items) × (i < length m.items + m.left) in
    let told = one E vss.1.1.0 ((lawful E 𝓛).typed x vss.1.1.0 are.1.1.0) in let v = told.0 in
    qed 𝓛 (((‵ (flft z.0.0.0 z.0.1.0) ⊛ ‵ (flft z.0.0.1.0 z.0.1.1.0) ⊛ ‵ ftrue) ⊛ ‵ (owns (types_at (F.ended T).signature.params z.0.0) a vss)) ∷ (raw (fact 𝓤 (z.0.0.1.0 ⊑ T.lives)) ⊛ raw (fact 𝓤 Asked)) ∷ []) ∵
    move ! (1 ∷ []) $ split ! $ drop ! $ heard ! Asked (λ asked.
    split ! $ split ! $ move ! (2 ∷ []) $ fsplit3 ! $ fsplit3 ! $ move ! (4 ∷ []) $ fsplit ! $ keep ! (3 ∷ 4 ∷ 6 ∷ 0 ∷ 7 ∷ []) $
    -- [what self tells, in two parts; its token; what the item owns; the other token]
    regoal ! (λ (us : List Val). prop (WpFn 𝓤 H C Λ fn us Post)) (λ j. are.0.0 j ++ (are.1.0.0 j ++ (told.1 j ++ []))) refl $ rewrite ! 3 (λ (us : List Val). ‵ (T.own_val x us)) told.1 refl $
    enter ! C Λ fn (vptr rb ro ∷ vint w64 i ∷ v ∷ []) Post $ alloc_all ! (λ l. pass_all ! refl ((tt, tt), ((tt, record { fits = are.1.0.1 }), (told.2, tt))) $ let En : Env 𝓤 H = env fn.locals l in
    opens ! tt (Mr E) {h = m} rb ro (λ us. move ! (1 ∷ []) $ memory_had E ! m us (λ b at here is fit. rewrite ! 1 (λ (ws : List Val). ‵ (cell_at full_share (Mr E).mir ws rb ro)) is refl $
    let places = length m.items + m.left in let s = width E in
    let tiny : s < 2 ^ 64 = omega (arith, one_below places s (2 ^ 63) (omega (arith, asked.1)) fit) in let far : i * s < 2 ^ 64 = omega (arith, times_below i places s (2 ^ 63) (omega (arith, asked.1)) fit) in
    use1 𝓛 (‵ (froom (elτ E) b (place s at i)) ⊛ ‵ (around E b at m.items m.left i)) (place_out E 𝓛 b m.items m.left i at asked.0 asked.1) $ split ! $
    rewrite ! 0 (λ (k : ℕ). ‵ (froom (elτ E) b k)) (place_is s at i) refl $
    -- [the room; what lies around it; the pointer; the open borrow, in three parts; what the item owns; the other token]
    first ! $ blocks ! $ sets ! (of_opd ! (load ! (through ! refl (fld ! refl (stop !))) (look_in ! 2 (sub ! 0 refl (whole !))))) refl (tt, tt) $
    sets ! (bin ! (get ! refl) (size_lit ! (record { fits = tiny })) (record { fits = far })) refl (tt, record { fits = far }) $ sets ! (bin ! (get ! refl) (get ! refl) tt) refl (tt, tt) $
    sets ! (of_opd ! (get ! refl)) refl told.2 $ assigns_last ! (of_opd ! (get ! refl)) (through ! refl (stop !)) (init ! 0 refl told.2) $
    exec ! C Λ En (after 1 fn.body) (at_ret En Post) $ sets ! (of_opd ! (unit_lit !)) refl (tt, tt) $
    let new : (Mr E).Denot = record { start = m.start; items = written m.items i x; left = left_after m.items m.left i } in
    let same = same_places m.items m.left i x asked.0 asked.1 in
    rewrite ! 0 (λ (k : ℕ). ‵ (fat full_share (elτ E) b k v)) (sym (place_is s at i)) refl $ move ! (0 ∷ 6 ∷ []) $
    use3 𝓛 (‵ (laid (R E) b at new.items new.left)) (place_in E 𝓛 b m.items m.left i at x v asked.0 asked.1) $
    memory_made E ! new b at here (subst (λ (n : ℕ). n * s < 2 ^ 63) (sym same) fit) $ move ! (1 ∷ 0 ∷ []) $ closes ! tt (Mr E) new (start_val (block_ptr b at) ∷ []) rb ro $
    returns ! (look_at ! 0 refl) $ free_all ! refl $
    feq_i ! (List Val) vss.0 (vptr rb ro ∷ []) are.0.0 $ fjoin3 ! $ nothing ! $ nothing ! $ fjoin ! $ nothing ! $ fjoin ! $ move ! (1 ∷ 0 ∷ []) $ fjoin ! $ move ! (1 ∷ 2 ∷ []) $ join ! $
    let Said : Type 0 = (m.start ≡ m.start) × (new.items ≡ new.items) × (length new.items + new.left ≡ places) in
    use0 𝓛 (raw (fact 𝓤 Said)) (fact_i 𝓤 Said (emp 𝓤) (refl, refl, same)) $ feq_i ! (List Val) (vunit ∷ []) (vunit ∷ []) refl $ move ! (2 ∷ 3 ∷ 0 ∷ 1 ∷ []) $
    by ! (leaves 𝓛 (F.ended T) stays c z vunit tt (new, (tt, (tt, tt))) (tt, (tt, (tt, tt)))))))))
