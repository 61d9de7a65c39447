-- A place of memory is taken out as room, and comes back with an item; all of it is room again; its front is seen. Assumes `Logic`.
--     around        the memory without one place
--     place_out     a place that is written, or the first that is not, becomes room
--     place_in      an item stands in it
--     all_room      items are forgotten
--     front_seen    a `&` to the items reaches the first of them
use Rattle.std.proofs.Common.{◌≡◌, refl, arith, ℕ, zero, suc, ◌+◌, ◌<◌, ◌≤◌, List, [], ◌∷◌, length, take}
use seplogic.Ra.Ura.{Ura}
use base.Fraction.{full_share}
use base.Logic.{ent, sep, emp, mono_r, id⊢}
use base.Fml.{Lft, Fml, ftrue, fsep, fat, froom}
use mir.Syntax.{ty_array}
use mir.Raw.{raw as bare}
use mir.Val.{Val}
use types.Logic.{Logic, sem}
use types.Kit.{‵, ◌⊛◌, some, given, ◌$◌, ◌∵◌, !, qed, by, move, keep, use1, use2, pick, learn, split, rewrite, frame, fsplit, fjoin, done}
use denote.Memory.{part_at, shared_of}
use denote.Index.{place}
use denote.Slice.{elements_shared}
use Rattle.std.specs.Mem.{type_size}
use Rattle.core.proofs.mem.Param.{El, R, el_x, elτ, Good}
use Rattle.core.proofs.slice.Rows.{el_out, el_in}
use Rattle.page_pool.specs.Ownership.{laid}
use Rattle.page_pool.specs.Written.{written}

-- the room that is left behind a written place
abbrev pub left_after : {X : Type 0} → List X → ℕ → ℕ → ℕ
left_after [] zero i = zero
left_after [] (suc left) i = left
left_after (x ∷ xs) left zero = left
left_after (x ∷ xs) left (suc i) = left_after xs left i

-- no place comes or goes
pub same_places : {X : Type 0} (xs : List X) (left i : ℕ) (y : X) → i ≤ length xs → i < length xs + left → length (written xs i y) + left_after xs left i ≡ length xs + left
same_places [] zero i y h k = absurd (omega (arith, k))
same_places [] (suc left) i y h k = omega arith
same_places (x ∷ xs) left zero y h k = refl
same_places (x ∷ xs) left (suc i) y h k = omega (arith, same_places xs left i y (omega (arith, h)) (omega (arith, k)))

module _ (E : El) where
  abbrev pub width : ℕ
  width = type_size (R E)

  abbrev pub around : ℕ → ℕ → List (el_x E) → ℕ → ℕ → Fml
  around b at [] zero i = ftrue
  around b at [] (suc left) i = froom (bare (ty_array (elτ E) left)) b (at + width)
  around b at (x ∷ xs) left zero = laid (R E) b (at + width) xs left
  around b at (x ∷ xs) left (suc i) = fsep (part_at (R E) full_share x b at) (around b (at + width) xs left i)

module _ (E : El) {M : Type 1} {𝓤 : Ura M} (𝓛 : Logic 𝓤) (b : ℕ) where
  open 𝓛 use {H}

  -- an item is forgotten
  forgotten : (x : el_x E) (at : ℕ) → ent 𝓤 (sem 𝓛 (part_at (R E) full_share x b at)) (H.room (elτ E) b at)
  forgotten x at = qed 𝓛 (‵ (part_at (R E) full_share x b at) ∷ []) ∵
      use1 𝓛 (some (λ (v : Val). given (Good E v) (‵ (fat full_share (elτ E) b at v) ⊛ ‵ (E.row.own_val x (v ∷ []))))) (el_out E 𝓛 b x at) $
      pick ! (λ v. learn ! (λ good. split ! $ keep ! (0 ∷ []) $ by ! (𝓛.laws.at_room (elτ E) b at v)))

  pub place_out : (xs : List (el_x E)) (left i at : ℕ) → i ≤ length xs → i < length xs + left
      → ent 𝓤 (sem 𝓛 (laid (R E) b at xs left)) (sep 𝓤 (H.room (elτ E) b (place (width E) at i)) (sem 𝓛 (around E b at xs left i)))
  place_out [] zero i at h k = absurd (omega (arith, k))
  place_out [] (suc left) (suc i) at h k = absurd (omega (arith, h))
  place_out [] (suc left) zero at h k = qed 𝓛 (‵ (laid (R E) b at [] (suc left)) ∷ []) ∵
      use1 𝓛 (‵ (froom (ty_array (elτ E) (suc left)) b at)) (𝓛.laws.raw-room (ty_array (elτ E) (suc left)) b at) $
      use1 𝓛 (‵ (froom (elτ E) b at) ⊛ ‵ (froom (ty_array (elτ E) left) b (at + width E))) (𝓛.laws.room_uncons (elτ E) left b at) $ split ! $ frame ! $
      by ! (𝓛.laws.room-raw (ty_array (elτ E) left) b (at + width E))
  place_out (x ∷ xs) left zero at h k = qed 𝓛 (‵ (laid (R E) b at (x ∷ xs) left) ∷ []) ∵ fsplit ! $
      use1 𝓛 (‵ (froom (elτ E) b at)) (forgotten x at) $ frame ! $ done !
  place_out (x ∷ xs) left (suc i) at h k = qed 𝓛 (‵ (laid (R E) b at (x ∷ xs) left) ∷ []) ∵ fsplit ! $ move ! (1 ∷ []) $
      use1 𝓛 (‵ (froom (elτ E) b (place (width E) (at + width E) i)) ⊛ ‵ (around E b (at + width E) xs left i)) (place_out xs left i (at + width E) (omega (arith, h)) (omega (arith, k))) $
      split ! $ frame ! $ move ! (1 ∷ 0 ∷ []) $ fjoin ! $ done !

  place_back : (xs : List (el_x E)) (left i at : ℕ) (y : el_x E) → i ≤ length xs → i < length xs + left
      → ent 𝓤 (sep 𝓤 (sem 𝓛 (part_at (R E) full_share y b (place (width E) at i))) (sem 𝓛 (around E b at xs left i))) (sem 𝓛 (laid (R E) b at (written xs i y) (left_after xs left i)))
  place_back [] zero i at y h k = absurd (omega (arith, k))
  place_back [] (suc left) (suc i) at y h k = absurd (omega (arith, h))
  place_back [] (suc left) zero at y h k = id⊢ 𝓤 _
  place_back (x ∷ xs) left zero at y h k = id⊢ 𝓤 _
  place_back (x ∷ xs) left (suc i) at y h k =
      qed 𝓛 (‵ (part_at (R E) full_share y b (place (width E) (at + width E) i)) ∷ ‵ (around E b at (x ∷ xs) left (suc i)) ∷ []) ∵ move ! (1 ∷ []) $ fsplit ! $ move ! (2 ∷ 1 ∷ []) $
      use2 𝓛 (‵ (laid (R E) b (at + width E) (written xs i y) (left_after xs left i))) (place_back xs left i (at + width E) y (omega (arith, h)) (omega (arith, k))) $ move ! (1 ∷ 0 ∷ []) $ fjoin ! $ done !

  pub place_in : (xs : List (el_x E)) (left i at : ℕ) (y : el_x E) (v : Val) → i ≤ length xs → i < length xs + left
      → ent 𝓤 (sep 𝓤 (H.at full_share (elτ E) b (place (width E) at i) v) (sep 𝓤 (sem 𝓛 (E.row.own_val y (v ∷ []))) (sem 𝓛 (around E b at xs left i)))) (sem 𝓛 (laid (R E) b at (written xs i y) (left_after xs left i)))
  place_in xs left i at y v h k =
      qed 𝓛 (‵ (fat full_share (elτ E) b (place (width E) at i) v) ∷ ‵ (E.row.own_val y (v ∷ [])) ∷ ‵ (around E b at xs left i) ∷ []) ∵
      use2 𝓛 (‵ (part_at (R E) full_share y b (place (width E) at i))) (el_in E 𝓛 b y (place (width E) at i) v) $ by ! (place_back xs left i at y h k)

  pub all_room : (xs : List (el_x E)) (left all at : ℕ) → length xs + left ≡ all → ent 𝓤 (sem 𝓛 (laid (R E) b at xs left)) (H.room (bare (ty_array (elτ E) all)) b at)
  all_room [] left all at e = qed 𝓛 (‵ (laid (R E) b at [] left) ∷ []) ∵ rewrite ! 0 (λ (n : ℕ). ‵ (froom (bare (ty_array (elτ E) n)) b at)) {x = all} (let same : left ≡ all = omega (arith, e) in same) refl $ done !
  all_room (x ∷ xs) left zero at e = absurd (omega (arith, e))
  all_room (x ∷ xs) left (suc all) at e = qed 𝓛 (‵ (laid (R E) b at (x ∷ xs) left) ∷ []) ∵ fsplit ! $
      use1 𝓛 (‵ (froom (elτ E) b at)) (forgotten x at) $ move ! (1 ∷ []) $
      use1 𝓛 (‵ (froom (bare (ty_array (elτ E) all)) b (at + width E))) (all_room xs left all (at + width E) (omega (arith, e))) $
      use1 𝓛 (‵ (froom (ty_array (elτ E) all) b (at + width E))) (𝓛.laws.raw-room (ty_array (elτ E) all) b (at + width E)) $ move ! (1 ∷ []) $
      use2 𝓛 (‵ (froom (ty_array (elτ E) (suc all)) b at)) (𝓛.laws.room_cons (elτ E) all b at) $ by ! (𝓛.laws.room-raw (ty_array (elτ E) (suc all)) b at)

  pub front_seen : (κ : Lft) (xs : List (el_x E)) (n at : ℕ) → ent 𝓤 (sem 𝓛 (elements_shared (R E) xs b at κ)) (sem 𝓛 (elements_shared (R E) (take n xs) b at κ))
  front_seen κ xs zero at = qed 𝓛 (‵ (elements_shared (R E) xs b at κ) ∷ []) ∵ keep ! [] $ done !
  front_seen κ [] (suc n) at = id⊢ 𝓤 (emp 𝓤)
  front_seen κ (x ∷ xs) (suc n) at = mono_r 𝓤 (sem 𝓛 (shared_of (R E) x b at κ)) (front_seen κ xs n (at + width E))
