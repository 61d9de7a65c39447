-- Which way the player of a track goes, whatever the heads of its blocks.
use Rattle.std.proofs.Common.{◌≡◌, ℕ, zero, suc, ◌+◌, ◌-◌, ◌*◌, ◌<◌, ◌≤◌, true, false, inl, inr, List, length, refl, sym, ap, ◌∙◌, subst, arith}
use Rattle.std.specs.Prelude.{◌==◌}
use Rattle.std.proofs.Math.Nat.{mul-le-mul_right}
use Rattle.std.proofs.lemmas.Bool.{cases_lt, eq-eqb, ne_eqb}
use Rattle.adpcm_nums.specs.Round.{round_place}
use Rattle.adpcm_nums.proofs.RoundLaws.{round_place-within, round_place-le, round_place-next, round_place-end}
use Rattle.machine_core.specs.declared.state.State.{State}
use Rattle.machine_core.specs.Decoder.{Decoder}
use Rattle.block_flags.proofs.LastLaws.{last_none}
use Rattle.player_model.specs.declared.position.Position.{Position}
use Rattle.player_model.specs.Format.{Format}
use Rattle.player_model.specs.Looped.{points_of}
use Rattle.player_model.specs.Player.{is_last, moved, next_position, first_position, position_at}
use Rattle.player_model.specs.Sound.{IsTrack, IsAt}
use Rattle.player_model.specs.Track.{Track, ends_at, repeats_at, starts_at, set_to, is_block, end_register}
use Rattle.player_model.proofs.Moving.{place-or-last, within-block, to-next-block, to-loop-block, to-silence, sounds-within, sounds-next, sounds-looped, repeats-last}
use Rattle.player_model.proofs.Passes.{points-ordered}
use Rattle.player_model.proofs.Standing.{stays-silent}

-- a track, but for the heads of its blocks
pub record IsWay (f : Format) (t : Track) : Type 0 where
  pub some : 0 < t.blocks
  pub fits : t.start + f.size * t.blocks ≤ length t.memory
  pub ends : (b : ℕ) → b < t.blocks → ends_at f t.memory t.start b ≡ (suc b == t.blocks)
  pub returns : repeats_at f t.memory t.start (t.blocks - 1) ≡ true → is_block f t.start t.blocks (end_register f t) ≡ true

-- its blocks with another head
abbrev headless : Format → Format
headless f = record f { head_in = λ memory address. 0 }

pub way_of : (d : Decoder) (f : Format) (t : Track) → IsTrack d f t → IsWay f t
way_of d f t track = record { some = track.some; fits = track.fits; ends = track.ends; returns = track.returns }

-- and a decoder that has no other
abbrev plain : Decoder → Decoder
plain d = record d { heads = 1 }

as-track : (d : Decoder) (f : Format) (t : Track) → IsWay f t → IsTrack (plain d) (headless f) t
as-track d f t way = record { some = way.some; fits = way.fits; heads_fit = λ b h. omega arith; ends = way.ends; returns = way.returns }

-- the player sounds, and stands at sample j
pub record Here (d : Decoder) (f : Format) (t : Track) (j : ℕ) (at : Position) : Type 0 where
  pub block : ℕ
  pub here : IsAt d f t block at
  pub index : j ≡ block * d.samples + at.place
  pub sounds : at.muted ≡ false

-- where it stands does not hang on heads
plain-at : (d : Decoder) (f : Format) (t : Track) (b : ℕ) (at : Position) → IsAt d f t b at → IsAt (plain d) (headless f) t b at
plain-at d f t b at h = record { block_fits = h.block_fits; address_is = h.address_is; place_fits = h.place_fits; again_is = h.again_is }

at-next : (d : Decoder) (f : Format) (t : Track) (b : ℕ) (at : Position) → IsWay f t → IsAt d f t b at → suc at.place ≡ d.samples → suc b < t.blocks → IsAt d f t (suc b) (moved d f t.memory at)
at-next d f t b at way here last more =
    let h = to-next-block (plain d) (headless f) t b at (as-track d f t way) (plain-at d f t b at here) last more in
    record { block_fits = h.block_fits; address_is = h.address_is; place_fits = h.place_fits; again_is = h.again_is }

pub at_loop : (d : Decoder) (f : Format) (t : Track) (b l : ℕ) (at : Position) → IsWay f t → IsAt d f t b at → suc at.place ≡ d.samples → suc b ≡ t.blocks → l < t.blocks
    → end_register f t ≡ t.start + f.size * l → IsAt d f t l (moved d f t.memory at)
at_loop d f t b l at way here last end within there =
    let h = to-loop-block (plain d) (headless f) t b l at (as-track d f t way) (plain-at d f t b at here) last end within there in
    record { block_fits = h.block_fits; address_is = h.address_is; place_fits = h.place_fits; again_is = h.again_is }

pub next_is : (d : Decoder) (f : Format) (memory : List ℕ) (at : Position) → at.muted ≡ false → moved d f memory at ≡ next_position d f memory at
next_is d f memory at h = rw h refl

place-next : (d : Decoder) (f : Format) (memory : List ℕ) (at : Position) → suc at.place < d.samples → (moved d f memory at).place ≡ suc at.place
place-next d f memory at less = let on : is_last d at ≡ false = ne_eqb (suc at.place) d.samples (omega arith) in rw on refl

pub place_first : (d : Decoder) (f : Format) (memory : List ℕ) (at : Position) → suc at.place ≡ d.samples → (moved d f memory at).place ≡ 0
place_first d f memory at last = let over : is_last d at ≡ true = eq-eqb (suc at.place) d.samples last in rw over refl

-- it sounds there
pub loop_sounds : (d : Decoder) (f : Format) (t : Track) (b : ℕ) (at : Position) → IsWay f t → IsAt d f t b at → suc at.place ≡ d.samples → suc b ≡ t.blocks
    → repeats_at f t.memory t.start (t.blocks - 1) ≡ true → (moved d f t.memory at).muted ≡ false
loop_sounds d f t b at way here last over repeats =
    sounds-looped (plain d) (headless f) t b at (as-track d f t way) (plain-at d f t b at here) last over (repeats-last d f t b at here over ∙ repeats)

-- it goes on within a block
here-within : (d : Decoder) (f : Format) (t : Track) (j : ℕ) (at : Position) → (w : Here d f t j at) → suc at.place < d.samples → Here d f t (suc j) (next_position d f t.memory at)
here-within d f t j at w less =
    let place = place-next d f t.memory at less in
    subst (Here d f t (suc j)) (next_is d f t.memory at w.sounds) (record {
      block = w.block;
      here = within-block d f t w.block at w.here less;
      index = omega (arith, w.index, place);
      sounds = sounds-within d f t at less;
    })

-- and at its end in the next one
here-on : (d : Decoder) (f : Format) (t : Track) (j : ℕ) (at : Position) → IsWay f t → (w : Here d f t j at) → suc at.place ≡ d.samples → suc w.block < t.blocks
    → Here d f t (suc j) (next_position d f t.memory at)
here-on d f t j at way w last more =
    let place = place_first d f t.memory at last in
    subst (Here d f t (suc j)) (next_is d f t.memory at w.sounds) (record {
      block = suc w.block;
      here = at-next d f t w.block at way w.here last more;
      index = omega (arith, w.index, place, last);
      sounds = sounds-next (plain d) (headless f) t w.block at (as-track d f t way) (plain-at d f t w.block at w.here) last more;
    })

-- at the end block's end it goes back to the loop block
here-round : (d : Decoder) (f : Format) (t : Track) (l j : ℕ) (at : Position) → IsWay f t → (w : Here d f t j at) → suc at.place ≡ d.samples → suc w.block ≡ t.blocks
    → repeats_at f t.memory t.start (t.blocks - 1) ≡ true → end_register f t ≡ t.start + f.size * l → l < t.blocks → Here d f t (l * d.samples) (next_position d f t.memory at)
here-round d f t l j at way w last over repeats there within =
    let place = place_first d f t.memory at last in
    subst (Here d f t (l * d.samples)) (next_is d f t.memory at w.sounds) (record {
      block = l;
      here = at_loop d f t w.block l at way w.here last over within there;
      index = omega (arith, place);
      sounds = loop_sounds d f t w.block at way w.here last over repeats;
    })

-- at first it stands at the first sample
here-first : (d : Decoder) (f : Format) (t : Track) (history : State) → 0 < d.samples → IsWay f t → Here d f t 0 (first_position t.start t.again history)
here-first d f t history some way = record {
  block = 0;
  here = record {
    block_fits = way.some;
    address_is = omega arith;
    place_fits = some;
    again_is = inl (ap (set_to f t.start t.again) (sym (last_none (starts_at f t.memory t.start))));
  };
  index = omega arith;
  sounds = refl;
}

-- before the last sample, and at it
inner : (b p n blocks : ℕ) → suc p < n → b < blocks → suc (b * n + p) < blocks * n
inner b p n blocks h k = let m : suc b * n ≤ blocks * n = mul-le-mul_right n k in omega arith

outer : (b p n blocks : ℕ) → p < n → suc b < blocks → suc (b * n + p) < blocks * n
outer b p n blocks h k = let m : suc (suc b) * n ≤ blocks * n = mul-le-mul_right n k in omega arith

whole : (b p n blocks : ℕ) → suc p ≡ n → suc b ≡ blocks → suc (b * n + p) ≡ blocks * n
whole b p n blocks h k = let m : suc b * n ≡ blocks * n = ap (λ x. x * n) k in omega arith

-- at the last sample the player stands at the end of the end block
pub record AtEnd (d : Decoder) (t : Track) (block place : ℕ) : Type 0 where
  pub last : suc place ≡ d.samples
  pub over : suc block ≡ t.blocks

pub at_end : (d : Decoder) (f : Format) (t : Track) (j : ℕ) (at : Position) → (w : Here d f t j at) → suc j ≡ t.blocks * d.samples → AtEnd d t w.block at.place
at_end d f t j at w all = elim (place-or-last at.place d.samples w.here.place_fits) [
  | inl less ↦ absurd (omega (arith, w.index, inner w.block at.place d.samples t.blocks less w.here.block_fits))
  | inr last ↦ elim (place-or-last w.block t.blocks w.here.block_fits) [
    | inl more ↦ absurd (omega (arith, w.index, outer w.block at.place d.samples t.blocks w.here.place_fits more))
    | inr over ↦ record { last = last; over = over }
  ]
]

-- before it there comes another one
here-more : (d : Decoder) (f : Format) (t : Track) (j : ℕ) (at : Position) → IsWay f t → (w : Here d f t j at) → suc j < t.blocks * d.samples → Here d f t (suc j) (next_position d f t.memory at)
here-more d f t j at way w less = elim (place-or-last at.place d.samples w.here.place_fits) [
  | inl within ↦ here-within d f t j at w within
  | inr last ↦ elim (place-or-last w.block t.blocks w.here.block_fits) [
    | inl more ↦ here-on d f t j at way w last more
    | inr over ↦ absurd (omega (arith, w.index, whole w.block at.place d.samples t.blocks last over))
  ]
]

pub some_samples : (blocks n : ℕ) → 0 < n → 0 < blocks → 0 < blocks * n
some_samples blocks n some h = let m : 1 * n ≤ blocks * n = mul-le-mul_right n h in omega arith

-- a track that repeats goes on at a block
pub record GoesOn (f : Format) (t : Track) (l : ℕ) : Type 0 where
  pub repeats : repeats_at f t.memory t.start (t.blocks - 1) ≡ true
  pub there : end_register f t ≡ t.start + f.size * l
  pub within : l < t.blocks

round-step : (d : Decoder) (f : Format) (t : Track) (l i j : ℕ) (at : Position) → 0 < d.samples → IsWay f t → GoesOn f t l → j ≡ round_place (points_of d t.blocks l) i → Here d f t j at
    → Here d f t (round_place (points_of d t.blocks l) (suc i)) (next_position d f t.memory at)
round-step d f t l i j at some way on is w =
    let points = points_of d t.blocks l in
    let ordered = points-ordered d t.blocks l some on.within in
    let high = round_place-le points i ordered in
    elim (cases_lt (suc j) (t.blocks * d.samples)) [
      | inl less ↦ (let next = round_place-next points i ordered (omega (arith, is, less)) in
          subst (λ (x : ℕ). Here d f t x (next_position d f t.memory at)) (ap suc is ∙ sym next) (here-more d f t j at way w less))
      | inr over ↦ (let all : suc j ≡ t.blocks * d.samples = (let n = some_samples t.blocks d.samples some way.some in omega (arith, is, high, over, n)) in
          let end = at_end d f t j at w all in
          let next = round_place-end points i ordered (omega (arith, is, all)) in
          subst (λ (x : ℕ). Here d f t x (next_position d f t.memory at)) (sym next) (here-round d f t l j at way w end.last end.over on.repeats on.there on.within))
    ]

-- so a player with a loop always stands in the track, at the round's place
pub goes_round : (d : Decoder) (f : Format) (t : Track) (l : ℕ) (history : State) → 0 < d.samples → IsWay f t → GoesOn f t l → (i : ℕ)
    → Here d f t (round_place (points_of d t.blocks l) i) (position_at d f t.memory t.start t.again history i)
goes_round d f t l history some way on zero =
    subst (λ (x : ℕ). Here d f t x (first_position t.start t.again history)) (sym (round_place-within (points_of d t.blocks l) 0 (omega arith))) (here-first d f t history some way)
goes_round d f t l history some way on (suc i) =
    round-step d f t l i _ (position_at d f t.memory t.start t.again history i) some way on refl (goes_round d f t l history some way on i)

-- without one it stands at each sample of the first pass
pub goes_once : (d : Decoder) (f : Format) (t : Track) (history : State) → 0 < d.samples → IsWay f t → (i : ℕ) → i < t.blocks * d.samples
    → Here d f t i (position_at d f t.memory t.start t.again history i)
goes_once d f t history some way zero h = here-first d f t history some way
goes_once d f t history some way (suc i) h =
    here-more d f t i (position_at d f t.memory t.start t.again history i) way (goes_once d f t history some way i (omega arith)) h

-- and is silent behind it
pub goes_silent : (d : Decoder) (f : Format) (t : Track) (history : State) → 0 < d.samples → IsWay f t → repeats_at f t.memory t.start (t.blocks - 1) ≡ false
    → (i : ℕ) → t.blocks * d.samples ≤ i → (position_at d f t.memory t.start t.again history i).muted ≡ true
goes_silent d f t history some way once zero h = absurd (omega (arith, some_samples t.blocks d.samples some way.some))
goes_silent d f t history some way once (suc i) h =
    let at = position_at d f t.memory t.start t.again history i in
    elim (cases_lt i (t.blocks * d.samples)) [
      | inl before ↦ (let w = goes_once d f t history some way i before in
          let end = at_end d f t i at w (omega arith) in
          ap (λ (x : Position). x.muted) (sym (next_is d f t.memory at w.sounds))
          ∙ to-silence (plain d) (headless f) t w.block at (as-track d f t way) (plain-at d f t w.block at w.here) end.last end.over (repeats-last d f t w.block at w.here end.over ∙ once))
      | inr after ↦ stays-silent d f t.memory at (goes_silent d f t history some way once i after)
    ]
