-- `front` makes a slice of the pointer and the count, over the items that a `&` reaches. Assumes `Logic`.
use Rattle.std.proofs.Common.{◌≡◌, refl, sym, ap, subst, arith, ℕ, ◌+◌, ◌*◌, ◌^◌, ◌<◌, ◌≤◌, List, [], ◌∷◌, ◌++◌, length, take, w64}
use Rattle.std.proofs.lemmas.List.{length-take-le}
use mir.Syntax.{Fn}
use mir.MapTy.{inst_fn}
use mir.Val.{Val, vint, vptr}
use base.Logic.{SProp, emp, id⊢, never}
use base.Fml.{ftrue, flft}
use prog.Wp.{Env, WpFn}
use contract.BorrowLft.{◌⊑◌}
use contract.Monad.{fact, fact_i}
use contract.Running.{tables}
use types.Kit.{‵, raw, ◌⊛◌, prop, at_ret, ◌$◌, ◌∵◌, !, qed, by, move, keep, drop, use0, use1, split, join, regoal, fsplit, fjoin, feq_i, flt_l, flt_i}
use types.Part.{agg}
use types.Run.{look, stop, fld, load, of_opd, and_then, no_more, first, blocks, exec, returns, enter}
use types.ByLocal.{alloc_all, pass_all, free_all, look_at, get, through, sets, sets_last, env}
use denote.Builtin.{usize, RefOf}
use denote.Exit.{yes}
use denote.Memory.{hidden_shr}
use denote.Opens.{hide}
use denote.RattleType.{owns}
use denote.RawPtr.{RawPtr, in_a_block}
use denote.Signature.{plain, types_at}
use denote.Slice.{slice_val, elements_shared}
use denote.Steps.{heard, nothing}
use denote.Triple.Walked.{Stays, stay_dropped, walk_of, Goes-dropped}
use Rattle.std.proofs.raw_atomic.Walks.{proved_at, leaves}
use Rattle.core.proofs.alloc.Shapes.{after}
use Rattle.core.proofs.mem.Param.{El, R, el_x, args}
use Rattle.core.proofs.ptr.Rows.{times_below}
use Rattle.core.proofs.slots.Lent.{pointer_in, pointer_out}
use Rattle.page_pool.specs.Ownership.{memory_lends}
use Rattle.page_pool.specs.contracts.memory.Memory.front as F
use Rattle.page_pool.specs.contracts.memory.Memory.front.Key.{name as #self}
use Rattle.page_pool.proofs.Places.{width, front_seen}
use Rattle.page_pool.proofs.Values.{Mr, memory_shown}
use Rattle.page_pool.proofs.memory.Memory.front.Statement.{statement}
use Rattle.page_pool.proofs.memory.Memory.front.Code as compiled

pub front_spec : {M : Type 1} → statement M
front_spec 𝓤 𝓛 𝓜 𝓡 wired T L =
    let H = 𝓛.H in let C = (tables 𝓤 H 𝓜 𝓡 𝓡.env).C in let Λ = (tables 𝓤 H 𝓜 𝓡 𝓡.env).Λ in
    let E : El = record { row = T; laws = L } in
    let c = F.clauses T 𝓛 𝓜.mem 𝓡.returns in
    let fn : Fn = inst_fn (args E) compiled.function in
    let stays : Stays (F.ended T).signature.params (F.ended T).kept = (stay_dropped (RefOf (0 ∷ []) tt (plain (λ _. Mr E)) (λ _. tt)) yes, (stay_dropped (plain (λ _. usize)) yes, tt)) in
    proved_at 𝓛 (F.ended T) stays c 𝓜 𝓡 (Goes-dropped 𝓛 2 (RefOf (0 ∷ []) tt (plain (λ _. Mr E)) (λ _. tt)) yes (λ κs x f. refl), (Goes-dropped 𝓛 2 (plain (λ _. usize)) yes (λ κs x f. refl), tt))
    (#self (args E)) fn (compiled.unfolded 𝓤 H 𝓜 𝓡 wired (T, tt)) (λ z are.
    let κ = z.0.0.0 in let a = z.0.3 in let vss = z.0.4 in let rb = a.0.ref_ptr.0 in let ro = a.0.ref_ptr.1 in
    let m = a.0.now in let n = a.1.0 in
    let Post : Val → SProp 𝓤 = (walk_of 𝓛 (F.ended T) stays c).post z in
    let Asked : Type 0 = n ≤ length m.items in
    qed 𝓛 (((‵ (flft κ z.0.1.0) ⊛ ‵ (flft z.0.0.1.0 z.0.1.1.0) ⊛ ‵ ftrue) ⊛ ‵ (owns (types_at (F.ended T).signature.params z.0.0) a vss)) ∷ (raw (fact 𝓤 (z.0.0.1.0 ⊑ T.lives)) ⊛ raw (fact 𝓤 Asked)) ∷ []) ∵
    move ! (1 ∷ []) $ split ! $ drop ! $ heard ! Asked (λ asked.
    split ! $ split ! $ move ! (2 ∷ []) $ fsplit ! $ fsplit ! $ keep ! (1 ∷ 3 ∷ 4 ∷ []) $
    use1 𝓛 (‵ (hidden_shr RawPtr κ m.start rb (ro + 0)) ⊛ ‵ (memory_lends (R E) m.start m.items m.left κ)) (memory_shown E 𝓛 κ m rb ro) $ split ! $ move ! (1 ∷ []) $
    in_a_block ! m.start (λ p. memory_lends (R E) p m.items m.left κ) (id⊢ 𝓤 (never 𝓤)) (λ b at here. fsplit ! $ flt_l ! (λ fit.
    let xs : List (el_x E) = take n m.items in let long : length xs ≡ n = length-take-le n m.items asked in
    let places = length m.items + m.left in let s = width E in
    let fits : n < 2 ^ 64 = are.1.0.1 in let small : n * s < 2 ^ 63 = times_below n places s (2 ^ 63) (omega (arith, asked)) fit in
    use1 𝓛 (‵ (elements_shared (R E) xs b at κ)) (front_seen E 𝓛 b κ m.items n at) $ move ! (1 ∷ 2 ∷ []) $
    -- [the pointer behind the `&`; its token; the items; the other token]
    regoal ! (λ (us : List Val). prop (WpFn 𝓤 H C Λ fn us Post)) (λ j. are.0.0 j ++ (are.1.0.0 j ++ [])) refl $
    enter ! C Λ fn (vptr rb ro ∷ vint w64 n ∷ []) Post $ alloc_all ! (λ l. pass_all ! refl ((tt, tt), ((tt, record { fits = fits }), tt)) $ let En : Env 𝓤 H = env fn.locals l in
    first ! $ blocks ! $ pointer_in ! tt m.start b at here rb (ro + 0) (λ q'.
    sets ! (of_opd ! (load ! (through ! refl (fld ! refl (stop !))) (look ! 0 refl))) refl (tt, tt) $ pointer_out ! tt m.start b at here rb (ro + 0) $
    sets_last ! (agg ! (and_then ! (get ! refl) (and_then ! (get ! refl) (no_more !)))) refl (tt, (tt, (record { fits = fits }, tt))) $
    exec ! C Λ En (after 1 fn.body) (at_ret En Post) $ sets ! (of_opd ! (get ! refl)) refl (tt, (tt, (record { fits = fits }, tt))) $
    move ! (1 ∷ []) $ hide ! $ flt_i ! (length xs * s) (2 ^ 63) (subst (λ (k : ℕ). k * s < 2 ^ 63) (sym long) small) $ flt_i ! (length xs) (2 ^ 64) (subst (λ (k : ℕ). k < 2 ^ 64) (sym long) fits) $ fjoin ! $
    feq_i ! (List Val) (slice_val (b, at) n ∷ []) (slice_val (b, at) (length xs) ∷ []) (ap (λ (k : ℕ). slice_val (b, at) k ∷ []) (sym long)) $ fjoin ! $ fjoin ! $
    returns ! (look_at ! 0 refl) $ free_all ! refl $ move ! (1 ∷ 2 ∷ []) $ join ! $
    let Said : Type 0 = xs ≡ xs in
    use0 𝓛 (raw (fact 𝓤 Said)) (fact_i 𝓤 Said (emp 𝓤) refl) $ nothing ! $ nothing ! $ fjoin ! $ nothing ! $ fjoin ! $ move ! (2 ∷ 0 ∷ 3 ∷ 1 ∷ []) $
    by ! (leaves 𝓛 (F.ended T) stays c z (slice_val (b, at) n) (record { ref_ptr = (b, at); now = xs }) (tt, (tt, tt)) (tt, (tt, tt)))))))))
