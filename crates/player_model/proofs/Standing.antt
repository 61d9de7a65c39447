-- Where a player stands in a kept list, and how it moves on.
use Rattle.std.proofs.Common.{◌≡◌, ℕ, zero, suc, ◌+◌, ◌*◌, ◌/◌, ◌%◌, ◌<◌, ◌≤◌, arith, refl, ap, sym, ◌∙◌, subst, false, true, ◌⊎◌, inl, inr, List, get_or}
use Rattle.std.proofs.lemmas.Nat.{div-mul-add, mod-mul-add}
use Rattle.std.proofs.lemmas.Bool.{eq-eqb, ne_eqb}
use Rattle.machine_core.specs.declared.state.State.{State}
use Rattle.machine_core.specs.declared.state.HeadRule.TheVariants.{FilterZero}
use Rattle.machine_core.specs.Decoder.{Decoder, Forgets, run}
use Rattle.machine_core.specs.Blocks.{Blocks, state_at, output_at}
use Rattle.block_flags.proofs.LastLaws.{last_none}
use Rattle.player_model.specs.declared.position.Position.{Position}
use Rattle.player_model.specs.Format.{Format, repeats}
use Rattle.player_model.specs.Player.{sounded, is_last, moved, next_position, sound, first_position}
use Rattle.player_model.specs.Track.{Track, starts_at, set_to, end_register}
use Rattle.player_model.specs.Sound.{IsTrack, IsAt}
use Rattle.player_model.proofs.Keeping.{IsKept, Keeps}
use Rattle.player_model.proofs.Moving.{within-block, to-next-block, to-loop-block, to-silence, sounds-within, sounds-next, sounds-looped}

-- the symbols of block b, by their places
abbrev pub codes_of : Decoder → Blocks → ℕ → ℕ → ℕ
codes_of d list b p = get_or list.symbols (b * d.samples + p) 0

-- the history at place p of block b: from a base that is the list's own, or that the block's head forgets
pub record Agrees (d : Decoder) (list : Blocks) (from : State) (b p : ℕ) (s : State) : Type 0 where
  pub base : State
  pub state_is : s ≡ run d (get_or list.heads b 0) (codes_of d list b) base p
  pub base_is : (d.allows (get_or list.heads b 0) FilterZero ≡ true) ⊎ (base ≡ state_at d list from (b * d.samples))

-- the player sounds, and stands at sample j of the list
pub record Stands (d : Decoder) (f : Format) (t : Track) (list : Blocks) (from : State) (j : ℕ) (at : Position) : Type 0 where
  pub block : ℕ
  pub here : IsAt d f t block at
  pub index : j ≡ block * d.samples + at.place
  pub sounds : at.muted ≡ false
  pub agrees : Agrees d list from block at.place at.history

run-is : (d : Decoder) (list : Blocks) (from : State) (b p i : ℕ) → i ≡ b * d.samples + p → p ≤ d.samples
    → run d (get_or list.heads b 0) (codes_of d list b) (state_at d list from (b * d.samples)) p ≡ state_at d list from i
run-is d list from b zero i e h = let q : b * d.samples ≡ i = omega arith in ap (state_at d list from) q
run-is d list from b (suc p) zero e h = absurd (omega arith)
run-is d list from b (suc p) (suc i) e h =
    let w : i ≡ b * d.samples + p = omega arith in
    let ih = run-is d list from b p i w (omega arith) in
    let dv : i / d.samples ≡ b = rw w (div-mul-add b d.samples p h) in
    let md : i % d.samples ≡ p = rw w (mod-mul-add b d.samples p h) in
    cc

-- the state after the next sample
sounded-is : (d : Decoder) (f : Format) (memory : List ℕ) (list : Blocks) (b address : ℕ) (at : Position) (base : State)
    → IsKept d f memory address list b → at.place < d.samples → at.address ≡ address
    → at.history ≡ run d (get_or list.heads b 0) (codes_of d list b) base at.place
    → sounded d f memory at ≡ run d (get_or list.heads b 0) (codes_of d list b) base (suc at.place)
sounded-is d f memory list b address at base st lt ea es =
    let h' : f.head_in memory at.address ≡ get_or list.heads b 0 = ap (f.head_in memory) ea ∙ st.head in
    let s' : f.symbol_in memory at.address at.place ≡ get_or list.symbols (b * d.samples + at.place) 0 = ap (λ x. f.symbol_in memory x at.place) ea ∙ st.symbols at.place lt in
    let u : d.step (f.head_in memory at.address) at.place (f.symbol_in memory at.address at.place) at.history
    ≡ d.step (get_or list.heads b 0) at.place (get_or list.symbols (b * d.samples + at.place) 0) (run d (get_or list.heads b 0) (codes_of d list b) base at.place) = cc in
    u

after-is : (d : Decoder) (f : Format) (t : Track) (list : Blocks) (from : State) (j : ℕ) (at : Position) → Keeps d f t list → (w : Stands d f t list from j at)
    → sounded d f t.memory at ≡ run d (get_or list.heads w.block 0) (codes_of d list w.block) w.agrees.base (suc at.place)
after-is d f t list from j at keeps w =
    sounded-is d f t.memory list w.block _ at w.agrees.base (keeps w.block w.here.block_fits) w.here.place_fits w.here.address_is w.agrees.state_is

-- what is heard is the list's output
pub heard-is : (d : Decoder) (f : Format) (t : Track) (list : Blocks) (from : State) (j : ℕ) (at : Position)
    → Forgets d → Keeps d f t list → Stands d f t list from j at → sound d f t.memory at ≡ output_at d list from j
heard-is d f t list from j at laws keeps w =
    let s = after-is d f t list from j at keeps w in
    let r = run-is d list from w.block (suc at.place) (suc j) (omega (arith, w.index)) w.here.place_fits in
    let q : (run d (get_or list.heads w.block 0) (codes_of d list w.block) w.agrees.base (suc at.place)).a ≡ output_at d list from j =
    elim w.agrees.base_is [
      | inl forgets ↦ laws.outputs (get_or list.heads w.block 0) (codes_of d list w.block) w.agrees.base (state_at d list from (w.block * d.samples)) at.place forgets w.here.place_fits ∙ ap (λ (x : State). x.a) r
      | inr own ↦ ap (λ (x : State). (run d (get_or list.heads w.block 0) (codes_of d list w.block) x (suc at.place)).a) own ∙ ap (λ (x : State). x.a) r
    ] in
    let v : sound d f t.memory at ≡ (sounded d f t.memory at).a = rw w.sounds refl in
    v ∙ (ap (λ (x : State). x.a) s ∙ q)

-- at a block's end the history is the list's own
ended-is : (d : Decoder) (f : Format) (t : Track) (list : Blocks) (from : State) (j : ℕ) (at : Position)
    → Forgets d → Keeps d f t list → (w : Stands d f t list from j at) → suc at.place ≡ d.samples → sounded d f t.memory at ≡ state_at d list from (suc j)
ended-is d f t list from j at laws keeps w last =
    let s = after-is d f t list from j at keeps w in
    let r = run-is d list from w.block d.samples (suc j) (omega (arith, w.index, last)) (omega arith) in
    let s2 : sounded d f t.memory at ≡ run d (get_or list.heads w.block 0) (codes_of d list w.block) w.agrees.base d.samples = s ∙ ap (run d (get_or list.heads w.block 0) (codes_of d list w.block) w.agrees.base) last in
    elim w.agrees.base_is [
      | inl forgets ↦ s2 ∙ (laws.after (get_or list.heads w.block 0) (codes_of d list w.block) w.agrees.base (state_at d list from (w.block * d.samples)) forgets ∙ r)
      | inr own ↦ s2 ∙ (ap (λ (x : State). run d (get_or list.heads w.block 0) (codes_of d list w.block) x d.samples) own ∙ r)
    ]

next-is : (d : Decoder) (f : Format) (memory : List ℕ) (at : Position) → at.muted ≡ false → moved d f memory at ≡ next_position d f memory at
next-is d f memory at h = rw h refl

-- at a block's first place the history that the player has is the base
at-first : (d : Decoder) (list : Blocks) (from : State) (b p : ℕ) (s : State) → p ≡ 0
    → ((d.allows (get_or list.heads b 0) FilterZero ≡ true) ⊎ (s ≡ state_at d list from (b * d.samples))) → Agrees d list from b p s
at-first d list from b p s none is = record { base = s; state_is = ap (run d (get_or list.heads b 0) (codes_of d list b) s) (sym none); base_is = is }

-- after a sample within a block the player stands at the next one
pub stands-within : (d : Decoder) (f : Format) (t : Track) (list : Blocks) (from : State) (j : ℕ) (at : Position)
    → Keeps d f t list → (w : Stands d f t list from j at) → suc at.place < d.samples → Stands d f t list from (suc j) (next_position d f t.memory at)
stands-within d f t list from j at keeps w less =
    let no : is_last d at ≡ false = ne_eqb (suc at.place) d.samples (omega arith) in
    let p : (moved d f t.memory at).place ≡ suc at.place = rw no refl in
    let s = after-is d f t list from j at keeps w in
    subst (λ (x : Position). Stands d f t list from (suc j) x) (next-is d f t.memory at w.sounds) (record {
      block = w.block;
      here = within-block d f t w.block at w.here less;
      index = omega (arith, w.index, p);
      sounds = sounds-within d f t at less;
      agrees = record { base = w.agrees.base; state_is = s ∙ ap (run d (get_or list.heads w.block 0) (codes_of d list w.block) w.agrees.base) (sym p); base_is = w.agrees.base_is };
    })

first-place : (d : Decoder) (f : Format) (memory : List ℕ) (at : Position) → suc at.place ≡ d.samples → (moved d f memory at).place ≡ 0
first-place d f memory at last = let over : is_last d at ≡ true = eq-eqb (suc at.place) d.samples last in rw over refl

-- after the last sample of a block, at the first of the next block
pub stands-on : (d : Decoder) (f : Format) (t : Track) (list : Blocks) (from : State) (j : ℕ) (at : Position)
    → Forgets d → IsTrack d f t → Keeps d f t list → (w : Stands d f t list from j at) → suc at.place ≡ d.samples → suc w.block < t.blocks
    → Stands d f t list from (suc j) (next_position d f t.memory at)
stands-on d f t list from j at laws track keeps w last more =
    let p = first-place d f t.memory at last in
    let s = ended-is d f t list from j at laws keeps w last in
    let i : suc j ≡ suc w.block * d.samples = omega (arith, w.index, last) in
    subst (λ (x : Position). Stands d f t list from (suc j) x) (next-is d f t.memory at w.sounds) (record {
      block = suc w.block;
      here = to-next-block d f t w.block at track w.here last more;
      index = omega (arith, i, p);
      sounds = sounds-next d f t w.block at track w.here last more;
      agrees = at-first d list from (suc w.block) _ _ p (inr (s ∙ ap (state_at d list from) i));
    })

-- after the last sample of all, at the first of the loop block
pub stands-round : (d : Decoder) (f : Format) (t : Track) (l : ℕ) (list : Blocks) (from : State) (j : ℕ) (at : Position)
    → IsTrack d f t → (w : Stands d f t list from j at) → suc at.place ≡ d.samples → suc w.block ≡ t.blocks
    → repeats f t.memory at.address ≡ true → end_register f t ≡ t.start + f.size * l → l < t.blocks → d.allows (get_or list.heads l 0) FilterZero ≡ true
    → Stands d f t list from (l * d.samples) (next_position d f t.memory at)
stands-round d f t l list from j at track w last over again there within forgets =
    let p = first-place d f t.memory at last in
    subst (λ (x : Position). Stands d f t list from (l * d.samples) x) (next-is d f t.memory at w.sounds) (record {
      block = l;
      here = to-loop-block d f t w.block l at track w.here last over within there;
      index = omega (arith, p);
      sounds = sounds-looped d f t w.block at track w.here last over again;
      agrees = at-first d list from l _ _ p (inl forgets);
    })

-- or it is silent, where there is no loop
pub falls-silent : (d : Decoder) (f : Format) (t : Track) (list : Blocks) (from : State) (j : ℕ) (at : Position)
    → IsTrack d f t → (w : Stands d f t list from j at) → suc at.place ≡ d.samples → suc w.block ≡ t.blocks → repeats f t.memory at.address ≡ false
    → (next_position d f t.memory at).muted ≡ true
falls-silent d f t list from j at track w last over once =
    ap (λ (x : Position). x.muted) (sym (next-is d f t.memory at w.sounds)) ∙ to-silence d f t w.block at track w.here last over once

-- and stays silent
pub stays-silent : (d : Decoder) (f : Format) (memory : List ℕ) (at : Position) → at.muted ≡ true → (next_position d f memory at).muted ≡ true
stays-silent d f memory at h = let q : next_position d f memory at ≡ at = rw h refl in ap (λ (x : Position). x.muted) q ∙ h

-- at first it stands at the first sample
pub stands-first : (d : Decoder) (f : Format) (t : Track) (list : Blocks) (from history : State) → Forgets d → IsTrack d f t → d.allows (get_or list.heads 0 0) FilterZero ≡ true
    → Stands d f t list from 0 (first_position t.start t.again history)
stands-first d f t list from history laws track forgets = record {
  block = 0;
  here = record {
    block_fits = track.some;
    address_is = omega arith;
    place_fits = laws.some_samples;
    again_is = inl (ap (set_to f t.start t.again) (sym (last_none (starts_at f t.memory t.start))));
  };
  index = omega arith;
  sounds = refl;
  agrees = at-first d list from 0 0 history refl (inl forgets);
}
