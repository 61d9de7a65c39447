-- The machine values of `Memory` and `Claim`, and what their owners have. Assumes `Logic`.
--     memory_had, memory_made      what an owned `Memory` is taken apart into, and made of
--     memory_shown      what a `&` to one shows
--     claim_had, claim_made      an owned `Claim` is the allocator's token
use Rattle.std.proofs.Common.{◌≡◌, refl, sym, ap, ◌∙◌, ℕ, ◌+◌, ◌*◌, ◌^◌, ◌<◌, List, [], ◌∷◌, ◌++◌, length}
use seplogic.Ra.Ura.{Ura}
use base.Logic.{ent, sep, id⊢, never}
use base.Fml.{Lft, fsep, fhide}
use mir.Val.{Val, vptr, vstruct, vcons, vnil, of_list}
use types.Logic.{Logic, sem}
use types.Kit.{Goal, Seq, Step, step, Item, ‵, ◌⊛◌, ◌$◌, ◌∵◌, !, qed, use1, split, keep, done, drop, rewrite, fsplit, fjoin, fpick, fpack, feq_l, feq_i, flt_l, flt_i}
use denote.RattleType.{RattleType, Valss}
use denote.Memory.{hidden_shr}
use denote.Opens.{unhide}
use denote.Struct.Lending.{lent_out}
use denote.RawPtr.{Ptr, RawPtr, block_ptr, ptr_val, in_a_block}
use denote.Shadow.{pure_i}
use denote.Steps.{nothing}
use denote.Struct.Struct.{Struct, within}
use denote.Struct.Owning.{shape}
use Rattle.core.proofs.mem.Param.{El, R, el_x}
use Rattle.core.proofs.alloc.Calls.{Al, token}
use Rattle.core.proofs.slots.Leases.{P, block_ty}
use Rattle.page_pool.specs.contracts.memory.Memory as memory
use Rattle.page_pool.specs.contracts.memory.Claim as claim
use Rattle.page_pool.specs.Ownership.{laid, memory_owns, memory_lends}
use Rattle.page_pool.proofs.Places.{width}

-- a struct of one pointer
abbrev pub start_val : Ptr → Val
start_val p = vstruct (vcons (ptr_val p) vnil)

-- a struct of a field that takes no bytes
abbrev pub empty_val : Val
empty_val = vstruct (vcons (vstruct vnil) vnil)

module _ (E : El) where
  abbrev pub Mr : RattleType
  Mr = memory.the_row (R E)

  -- the pointer alone
  abbrev pub Start : RattleType
  Start = Struct (shape (memory.the_type (R E)))

module _ (E : El) {M : Type 1} {𝓤 : Ura M} {𝓛 : Logic 𝓤} {K : Type 0} {Γ : List (Item 𝓤)} {G : Goal 𝓤 𝓛.H} where
  pub memory_had : K → (m : (Mr E).Denot) (vs : List Val)
      → ((b at : ℕ) → m.start ≡ block_ptr b at → vs ≡ start_val (block_ptr b at) ∷ [] → (length m.items + m.left) * width E < 2 ^ 63 → Seq K 𝓛 (‵ (laid (R E) b at m.items m.left) ∷ Γ) G)
      → Seq K 𝓛 (‵ ((Mr E).own_val m vs) ∷ Γ) G
  memory_had t m vs next =
      fsplit t $ fpick t (λ parts. fsplit t $ feq_l t (λ whole. fsplit t $ feq_l t (λ pointer. drop t $
      in_a_block t m.start (λ p. memory_owns (R E) p m.items m.left) (id⊢ 𝓤 (never 𝓤)) (λ b at e. fsplit t $ flt_l t (λ fit.
      next b at e (whole ∙ (λ i. vstruct (of_list (pointer i ++ [])) ∷ []) ∙ ap (λ (p : Ptr). start_val p ∷ []) e) fit)))))

  pub memory_made : K → (m : (Mr E).Denot) (b at : ℕ) → m.start ≡ block_ptr b at → (length m.items + m.left) * width E < 2 ^ 63
      → Step K 𝓛 (‵ ((Mr E).own_val m (start_val (block_ptr b at) ∷ [])) ∷ Γ) G (‵ (laid (R E) b at m.items m.left) ∷ Γ) G
  memory_made t m b at e fit = step (λ s.
      flt_i t ((length m.items + m.left) * width E) (2 ^ 63) fit $ fjoin t $
      nothing t $ feq_i t (List Val) (vptr b at ∷ []) (vptr b at ∷ []) refl $ fjoin t $
      feq_i t (List Val) (start_val (block_ptr b at) ∷ []) (start_val (block_ptr b at) ∷ []) refl $ fjoin t $
      fpack t (Valss (RawPtr ∷ [])) (within (shape (memory.the_type (R E))) (block_ptr b at, tt) (start_val (block_ptr b at) ∷ [])) (vptr b at ∷ [], tt) $ fjoin t $
      rewrite t 0 (λ (p : Ptr). ‵ (fsep ((Start E).own_val (p, tt) (start_val (block_ptr b at) ∷ [])) (memory_owns (R E) p m.items m.left))) (sym e) refl $ s)

-- what a `&` to a `Memory` shows: its pointer, and what is lent of its items
pub memory_shown : (E : El) {M : Type 1} {𝓤 : Ura M} (𝓛 : Logic 𝓤) (κ : Lft) (m : (Mr E).Denot) (rb ro : ℕ)
    → ent 𝓤 (sem 𝓛 (hidden_shr (Mr E) κ m rb ro)) (sep 𝓤 (sem 𝓛 (hidden_shr RawPtr κ m.start rb (ro + 0))) (sem 𝓛 (memory_lends (R E) m.start m.items m.left κ)))
memory_shown E 𝓛 κ m rb ro = qed 𝓛 (‵ (hidden_shr (Mr E) κ m rb ro) ∷ []) ∵
    use1 𝓛 (‵ (hidden_shr (Start E) κ (m.start, tt) rb ro) ⊛ ‵ (fhide (memory.the_lent (R E) m m.start κ))) (lent_out 𝓛 (memory.struct (R E)) (memory.the_codes (el_x E) (R E).coded) (memory.the_heap (R E)) (memory.the_lent (R E)) κ m rb ro) $
    split ! $ unhide ! $ fsplit ! $ fsplit ! $ keep ! (0 ∷ 3 ∷ []) $ done !

-- an owned `Claim` is the allocator's token, since its value is made of nothing
module _ (E : El) (Z : Al) where
  abbrev pub Cl : RattleType
  Cl = claim.the_row (R E) (P E Z) Z.g

  abbrev Mark : RattleType
  Mark = Struct (shape (claim.the_type (R E) (P E Z) Z.g))

  module _ {M : Type 1} {𝓤 : Ura M} {𝓛 : Logic 𝓤} {K : Type 0} {Γ : List (Item 𝓤)} {G : Goal 𝓤 𝓛.H} where
    pub claim_had : K → (d : Cl.Denot) (vs : List Val) → (vs ≡ empty_val ∷ [] → Seq K 𝓛 (‵ (token Z d.alloc (block_ty E d.places) d.start) ∷ Γ) G) → Seq K 𝓛 (‵ (Cl.own_val d vs) ∷ Γ) G
    claim_had t d vs next =
        fsplit t $ fpick t (λ parts. fsplit t $ feq_l t (λ whole. fsplit t $ fpick t (λ none. fsplit t $ feq_l t (λ field. drop t $ drop t $
        next (whole ∙ (λ i. vstruct (of_list (field i ++ [])) ∷ []))))))

    pub claim_made : K → (d : Cl.Denot) → Step K 𝓛 (‵ (Cl.own_val d (empty_val ∷ [])) ∷ Γ) G (‵ (token Z d.alloc (block_ty E d.places) d.start) ∷ Γ) G
    claim_made t d = step (λ s.
        pure_i t (Mark.own_val (tt, tt) (empty_val ∷ [])) (λ parts. (tt, ((λ none. (tt, tt)), tt))) ((vstruct vnil ∷ [], tt), (refl, ((tt, (refl, tt)), tt))) $ fjoin t $ s)
