-- The player's passes over a kept list.
use Rattle.std.proofs.Common.{◌≡◌, ℕ, zero, suc, ◌+◌, ◌-◌, ◌*◌, ◌<◌, ◌≤◌, arith, refl, ap, sym, ◌∙◌, subst, nat_lt, false, true, inl, inr, if◌then◌else◌, get_or, pos}
use Rattle.std.proofs.Math.Nat.{mul-le-mul_right}
use Rattle.std.proofs.lemmas.Bool.{cases_lt, lt-ltb, le-ltb}
use Rattle.adpcm_nums.specs.Round.{round_place}
use Rattle.adpcm_nums.proofs.RoundLaws.{round_place-within, round_place-next, round_place-end}
use Rattle.machine_core.specs.declared.state.State.{State}
use Rattle.machine_core.specs.declared.state.HeadRule.TheVariants.{FilterZero}
use Rattle.machine_core.specs.Decoder.{Decoder, Forgets}
use Rattle.machine_core.specs.Blocks.{Blocks, output_at}
use Rattle.player_model.specs.declared.position.Position.{Position}
use Rattle.player_model.specs.Format.{Format}
use Rattle.player_model.specs.Player.{next_position, first_position, position_at, play}
use Rattle.player_model.specs.Track.{Track, repeats_at, end_register}
use Rattle.player_model.specs.Looped.{points_of}
use Rattle.player_model.specs.Sound.{IsTrack}
use Rattle.player_model.proofs.Keeping.{Keeps}
use Rattle.player_model.proofs.Moving.{place-or-last, repeats-last}
use Rattle.player_model.proofs.Standing.{Stands, heard-is, stands-first, stands-within, stands-on, stands-round, falls-silent, stays-silent}

within-end : (b p n blocks : ℕ) → p < n → suc b < blocks → suc (b * n + p) < blocks * n
within-end b p n blocks h k = let m : suc (suc b) * n ≤ blocks * n = mul-le-mul_right n k in omega arith

within-block : (b p n blocks : ℕ) → suc p < n → b < blocks → suc (b * n + p) < blocks * n
within-block b p n blocks h k = let m : suc b * n ≤ blocks * n = mul-le-mul_right n k in omega arith

at-end : (b p n blocks : ℕ) → suc p ≡ n → suc b ≡ blocks → suc (b * n + p) ≡ blocks * n
at-end b p n blocks h k = let m : suc b * n ≡ blocks * n = ap (λ x. x * n) k in omega arith

before-end : (j end : ℕ) → suc j < end → j < end - 1
before-end j end h = omega arith

-- the loop's first sample is not behind its last
pub points-ordered : (d : Decoder) (blocks l : ℕ) → 0 < d.samples → l < blocks → l * d.samples ≤ blocks * d.samples - 1
points-ordered d blocks l some within = let m : suc l * d.samples ≤ blocks * d.samples = mul-le-mul_right d.samples within in omega arith

-- with a loop the player always stands, at the round's place
pub goes-round : (d : Decoder) (f : Format) (t : Track) (l : ℕ) (list : Blocks) (history from : State)
    → Forgets d → IsTrack d f t → Keeps d f t list → repeats_at f t.memory t.start (t.blocks - 1) ≡ true → end_register f t ≡ t.start + f.size * l → l < t.blocks
    → d.allows (get_or list.heads 0 0) FilterZero ≡ true → d.allows (get_or list.heads l 0) FilterZero ≡ true
    → (i : ℕ) → Stands d f t list from (round_place (points_of d t.blocks l) i) (position_at d f t.memory t.start t.again history i)
goes-round d f t l list history from laws track keeps again there within first looped zero =
    subst (λ (x : ℕ). Stands d f t list from x (first_position t.start t.again history)) (sym (round_place-within (points_of d t.blocks l) 0 (omega arith)))
    (stands-first d f t list from history laws track first)
goes-round d f t l list history from laws track keeps again there within first looped (suc i) =
    let points = points_of d t.blocks l in
    let ordered = points-ordered d t.blocks l laws.some_samples within in
    let ih = goes-round d f t l list history from laws track keeps again there within first looped i in
    let at = position_at d f t.memory t.start t.again history i in
    let next : Position = next_position d f t.memory at in
    elim (place-or-last at.place d.samples ih.here.place_fits) [
      | inl less ↦ (let below = within-block ih.block at.place d.samples t.blocks less ih.here.block_fits in
          let n = round_place-next points i ordered (before-end _ _ (subst (λ (x : ℕ). suc x < t.blocks * d.samples) (sym ih.index) below)) in
          subst (λ (x : ℕ). Stands d f t list from x next) (sym n) (stands-within d f t list from _ at keeps ih less))
      | inr last ↦ elim (place-or-last ih.block t.blocks ih.here.block_fits) [
        | inl more ↦ (let below = within-end ih.block at.place d.samples t.blocks ih.here.place_fits more in
            let n = round_place-next points i ordered (before-end _ _ (subst (λ (x : ℕ). suc x < t.blocks * d.samples) (sym ih.index) below)) in
            subst (λ (x : ℕ). Stands d f t list from x next) (sym n) (stands-on d f t list from _ at laws track keeps ih last more))
        | inr over ↦ (let whole = at-end ih.block at.place d.samples t.blocks last over in
            let n = round_place-end points i ordered (omega (arith, ih.index, whole)) in
            let repeats = repeats-last d f t ih.block at ih.here over ∙ again in
            subst (λ (x : ℕ). Stands d f t list from x next) (sym n) (stands-round d f t l list from _ at track ih last over repeats there within looped))
      ]
    ]

-- so the player's outputs are those of the list, going round
pub round-holds : (d : Decoder) (f : Format) (t : Track) (l : ℕ) (list : Blocks) (history from : State) (i : ℕ)
    → Forgets d → IsTrack d f t → Keeps d f t list → repeats_at f t.memory t.start (t.blocks - 1) ≡ true → end_register f t ≡ t.start + f.size * l → l < t.blocks
    → d.allows (get_or list.heads 0 0) FilterZero ≡ true → d.allows (get_or list.heads l 0) FilterZero ≡ true
    → play d f t.memory t.start t.again history i ≡ output_at d list from (round_place (points_of d t.blocks l) i)
round-holds d f t l list history from i laws track keeps again there within first looped =
    heard-is d f t list from _ (position_at d f t.memory t.start t.again history i) laws keeps
    (goes-round d f t l list history from laws track keeps again there within first looped i)

-- without a loop the player stands at each sample of the list
goes-once : (d : Decoder) (f : Format) (t : Track) (list : Blocks) (history from : State)
    → Forgets d → IsTrack d f t → Keeps d f t list → d.allows (get_or list.heads 0 0) FilterZero ≡ true
    → (i : ℕ) → i < t.blocks * d.samples → Stands d f t list from i (position_at d f t.memory t.start t.again history i)
goes-once d f t list history from laws track keeps first zero h = stands-first d f t list from history laws track first
goes-once d f t list history from laws track keeps first (suc i) h =
    let ih = goes-once d f t list history from laws track keeps first i (omega arith) in
    let at = position_at d f t.memory t.start t.again history i in
    elim (place-or-last at.place d.samples ih.here.place_fits) [
      | inl less ↦ stands-within d f t list from i at keeps ih less
      | inr last ↦ elim (place-or-last ih.block t.blocks ih.here.block_fits) [
        | inl more ↦ stands-on d f t list from i at laws track keeps ih last more
        | inr over ↦ absurd (omega (arith, ih.index, at-end ih.block at.place d.samples t.blocks last over))
      ]
    ]

last-place : (d : Decoder) (f : Format) (t : Track) (list : Blocks) (from : State) (j : ℕ) (at : Position) → (w : Stands d f t list from j at) → suc j ≡ t.blocks * d.samples
    → (suc at.place ≡ d.samples) × (suc w.block ≡ t.blocks)
last-place d f t list from j at w h =
    elim (place-or-last at.place d.samples w.here.place_fits) [
      | inl less ↦ absurd (omega (arith, w.index, within-block w.block at.place d.samples t.blocks less w.here.block_fits))
      | inr last ↦ elim (place-or-last w.block t.blocks w.here.block_fits) [
        | inl more ↦ absurd (omega (arith, w.index, within-end w.block at.place d.samples t.blocks w.here.place_fits more))
        | inr over ↦ (last, over)
      ]
    ]

-- a list of some blocks has some samples
pub some-samples : (d : Decoder) (blocks : ℕ) → 0 < d.samples → 0 < blocks → 0 < blocks * d.samples
some-samples d blocks some h = let m : 1 * d.samples ≤ blocks * d.samples = mul-le-mul_right d.samples h in omega arith

goes-silent : (d : Decoder) (f : Format) (t : Track) (list : Blocks) (history from : State)
    → Forgets d → IsTrack d f t → Keeps d f t list → repeats_at f t.memory t.start (t.blocks - 1) ≡ false → d.allows (get_or list.heads 0 0) FilterZero ≡ true
    → (i : ℕ) → t.blocks * d.samples ≤ i → (position_at d f t.memory t.start t.again history i).muted ≡ true
goes-silent d f t list history from laws track keeps once first zero h = absurd (omega (arith, some-samples d t.blocks laws.some_samples track.some))
goes-silent d f t list history from laws track keeps once first (suc i) h =
    let at = position_at d f t.memory t.start t.again history i in
    elim (cases_lt i (t.blocks * d.samples)) [
      | inl before ↦ (let w = goes-once d f t list history from laws track keeps first i before in
          let e = last-place d f t list from i at w (omega arith) in
          falls-silent d f t list from i at track w e.0 e.1 (repeats-last d f t w.block at w.here e.1 ∙ once))
      | inr after ↦ stays-silent d f t.memory at (goes-silent d f t list history from laws track keeps once first i after)
    ]

-- so the player's outputs are those of the list, and then silence
pub once-holds : (d : Decoder) (f : Format) (t : Track) (list : Blocks) (history from : State) (i : ℕ)
    → Forgets d → IsTrack d f t → Keeps d f t list → repeats_at f t.memory t.start (t.blocks - 1) ≡ false → d.allows (get_or list.heads 0 0) FilterZero ≡ true
    → play d f t.memory t.start t.again history i ≡ (if nat_lt i (t.blocks * d.samples) then output_at d list from i else pos 0)
once-holds d f t list history from i laws track keeps once first =
    elim (cases_lt i (t.blocks * d.samples)) [
      | inl before ↦ (let h = heard-is d f t list from i (position_at d f t.memory t.start t.again history i) laws keeps
          (goes-once d f t list history from laws track keeps first i before) in
          let q : (if nat_lt i (t.blocks * d.samples) then output_at d list from i else pos 0) ≡ output_at d list from i = rw (lt-ltb i (t.blocks * d.samples) before) refl in
          h ∙ sym q)
      | inr after ↦ (let m = goes-silent d f t list history from laws track keeps once first i after in
          let q : (if nat_lt i (t.blocks * d.samples) then output_at d list from i else pos 0) ≡ pos 0 = rw (le-ltb i (t.blocks * d.samples) after) refl in
          let v : play d f t.memory t.start t.again history i ≡ pos 0 = rw m refl in
          v ∙ sym q)
    ]
