-- Once a playing of a loop is given again by the next one, the player gives it for ever.
use Rattle.std.proofs.Common.{◌≡◌, ℕ, zero, suc, ◌+◌, ◌-◌, ◌*◌, ◌%◌, ◌<◌, ◌≤◌, Bool, true, false, List, refl, sym, ap, ◌∙◌, arith}
use Rattle.std.specs.Prelude.{ℤ, not, Option, Some, None, is_none}
use Rattle.std.specs.Ordering.{int_eq}
use Rattle.std.proofs.Math.Nat.{mul-le-mul_right}
use Rattle.std.proofs.lemmas.Bool.{eq-eqb, false≢true}
use Rattle.std.proofs.lemmas.Bool.Decides.{Decides-int_eq}
use Rattle.std.proofs.lemmas.Nat.{mod-mul-add, mod_below}
use Rattle.adpcm_nums.specs.First.{first_where}
use Rattle.adpcm_nums.specs.Round.{round_place}
use Rattle.adpcm_nums.specs.declared.loop_at.LoopAt.{LoopAt}
use Rattle.adpcm_nums.proofs.FirstLaws.{first_where-is, none_passes}
use Rattle.adpcm_nums.proofs.RoundLaws.{round_place-within, round_place-over}
use Rattle.machine_core.specs.declared.state.State.{State}
use Rattle.machine_core.specs.Decoder.{Decoder, start}
use Rattle.player_model.specs.declared.position.Position.{Position}
use Rattle.player_model.specs.Format.{Format}
use Rattle.player_model.specs.Looped.{points_of}
use Rattle.player_model.specs.Player.{is_last, register_after, moved, next_position, sound, position_after}
use Rattle.player_model.specs.Sound.{heard, track_position}
use Rattle.player_model.specs.Track.{Track, end_register}
use Rattle.player_model.proofs.Passes.{points-ordered}
use Rattle.player_model.proofs.Register.{register-last}
use Rattle.player_model.proofs.Rounds.{position_after-plus, round_left_out}
use Rattle.decompile_core.specs.Playings.{differs, end_of, is_again, length_of, settled, settles_at}
use Rattle.decompile_core.proofs.Ways.{GoesOn, IsWay, at_loop, at_end, goes_round, loop_sounds, next_is, place_first}

-- every step keeps the last output behind the new one
abbrev pub Shifts : Decoder → Type 0
Shifts d = (head place symbol : ℕ) (at : State) → (d.step head place symbol at).b ≡ at.a

-- the output before a position is in its history
after-sound : (d : Decoder) (f : Format) (memory : List ℕ) (at : Position) → at.muted ≡ false → (next_position d f memory at).history.a ≡ sound d f memory at
after-sound d f memory at sounds = rw sounds refl

kept-sound : (d : Decoder) (f : Format) (memory : List ℕ) (at : Position) → Shifts d → at.muted ≡ false → (next_position d f memory at).history.b ≡ at.history.a
kept-sound d f memory at shifts sounds = rw sounds (shifts _ _ _ _)

-- where a player with this history begins another playing
abbrev loop_position : Format → Track → ℤ → ℤ → Position
loop_position f t a b = record { address = end_register f t; place = 0; again = end_register f t; history = record { a = a; b = b }; muted = false }

position-is : (at : Position) (address place again : ℕ) (a b : ℤ) → at.address ≡ address → at.place ≡ place → at.again ≡ again → at.history.a ≡ a → at.history.b ≡ b → at.muted ≡ false
    → at ≡ record { address = address; place = place; again = again; history = record { a = a; b = b }; muted = false }
position-is at address place again a b p q r s t u =
    let make : ℕ → ℕ → ℕ → ℤ → ℤ → Bool → Position = λ v w x y z m. record { address = v; place = w; again = x; history = record { a = y; b = z }; muted = m } in
    ap (λ v. make v at.place at.again at.history.a at.history.b at.muted) p
    ∙ ap (λ w. make address w at.again at.history.a at.history.b at.muted) q
    ∙ ap (λ x. make address place x at.history.a at.history.b at.muted) r
    ∙ ap (λ y. make address place again y at.history.b at.muted) s
    ∙ ap (λ z. make address place again a z at.muted) t
    ∙ ap (λ m. make address place again a b m) u

again-is : (d : Decoder) (f : Format) (memory : List ℕ) (at : Position) → suc at.place ≡ d.samples → (moved d f memory at).again ≡ register_after f memory at.again at.address
again-is d f memory at last = let over : is_last d at ≡ true = eq-eqb (suc at.place) d.samples last in rw over refl

-- after the end block the player stands at the loop block; what it comes to hangs on the last two outputs alone
begins-playing : (d : Decoder) (f : Format) (t : Track) (l i : ℕ) → Shifts d → 0 < d.samples → IsWay f t → GoesOn f t l → suc (round_place (points_of d t.blocks l) (suc i)) ≡ t.blocks * d.samples
    → track_position d f t (suc (suc i)) ≡ loop_position f t (heard d f t (suc i)) (heard d f t i)
begins-playing d f t l i shifts some way on last =
    let before = track_position d f t i in
    let at = track_position d f t (suc i) in
    let v = goes_round d f t l start some way on i in
    let w = goes_round d f t l start some way on (suc i) in
    let end = at_end d f t _ at w last in
    let there = at_loop d f t w.block l at way w.here end.last end.over on.within on.there in
    let next = next_is d f t.memory at w.sounds in
    position-is (next_position d f t.memory at) _ _ _ _ _
    (ap (λ (p : Position). p.address) (sym next) ∙ there.address_is ∙ sym on.there)
    (ap (λ (p : Position). p.place) (sym next) ∙ place_first d f t.memory at end.last)
    (ap (λ (p : Position). p.again) (sym next) ∙ again-is d f t.memory at end.last ∙ register-last f t w.block at.again at.address w.here.again_is end.over w.here.address_is)
    (after-sound d f t.memory at w.sounds)
    (kept-sound d f t.memory at shifts w.sounds ∙ after-sound d f t.memory before v.sounds)
    (ap (λ (p : Position). p.muted) (sym next) ∙ loop_sounds d f t w.block at way w.here end.last end.over on.repeats)

-- the last sample of a playing stands at the loop's end
last-place : (points : LoopAt) (n : ℕ) → points.start ≤ points.end → round_place points (points.end + n * length_of points) ≡ points.end
last-place points zero ordered =
    let same : points.end + 0 * length_of points ≡ points.end = omega arith in
    ap (round_place points) same ∙ round_place-within points points.end (omega arith)
last-place points (suc n) ordered =
    let len = length_of points in
    let over = round_place-over points (points.end + suc n * len) (omega arith) in
    let gone : points.end + suc n * len - points.start ≡ suc n * len + (points.end - points.start) = omega (arith, ordered) in
    let rest : (points.end + suc n * len - points.start) % len ≡ points.end - points.start = ap (λ x. x % len) gone ∙ mod-mul-add (suc n) len (points.end - points.start) (omega arith) in
    omega (arith, over, rest, ordered)

none-is : (o : Option ℕ) → is_none o ≡ true → o ≡ None
none-is None e = refl
none-is (Some k) e = absurd (false≢true e)

not-not : (b : Bool) → not b ≡ false → b ≡ true
not-not true e = refl
not-not false e = sym e

-- a playing that is given again has the same outputs
again-each : (output : ℕ → ℤ) (at len k : ℕ) → is_again output at len ≡ true → k < len → output (at + k) ≡ output (at + len + k)
unfolding is_again
again-each output at len k again within =
    let same = none_passes (differs output at len) len k (none-is (first_where (differs output at len) len) again) within in
    (Decides-int_eq (output (at + k)) (output (at + len + k))).0 (not-not (int_eq (output (at + k)) (output (at + len + k))) same)

pub settled_passes : (output : ℕ → ℤ) (points : LoopAt) (m : ℕ) → settled output points ≡ Some m → settles_at output points m ≡ true
unfolding settled
settled_passes output points m found = (first_where-is (settles_at output points) 64 m found).here

-- the numbers of a loop of two samples at least: its samples, and where its playing m begins and ends
loop-long : (d : Decoder) (blocks l : ℕ) → 2 ≤ d.samples → l < blocks → 2 ≤ length_of (points_of d blocks l)
loop-long d blocks l two within =
    let m : suc l * d.samples ≤ blocks * d.samples = mul-le-mul_right d.samples within in
    omega arith

pub points_whole : (d : Decoder) (blocks l : ℕ) → 0 < d.samples → l < blocks → suc (points_of d blocks l).end ≡ blocks * d.samples
points_whole d blocks l some within =
    let m : suc l * d.samples ≤ blocks * d.samples = mul-le-mul_right d.samples within in
    omega arith

-- where playing m + 1 begins
begins-after : (d : Decoder) (f : Format) (t : Track) (l m : ℕ) → Shifts d → 2 ≤ d.samples → IsWay f t → GoesOn f t l
    → track_position d f t (end_of (points_of d t.blocks l) m)
    ≡ loop_position f t (heard d f t ((points_of d t.blocks l).end + m * length_of (points_of d t.blocks l))) (heard d f t ((points_of d t.blocks l).end + m * length_of (points_of d t.blocks l) - 1))
begins-after d f t l m shifts two way on =
    let points = points_of d t.blocks l in
    let last = points.end + m * length_of points in
    let some : 0 < d.samples = omega (arith, two) in
    let long = loop-long d t.blocks l two on.within in
    let all = points_whole d t.blocks l some on.within in
    let ordered = points-ordered d t.blocks l some on.within in
    let least : 1 ≤ last = omega (arith, long) in
    let second : suc (last - 1) ≡ last = omega (arith, least) in
    let after : suc (suc (last - 1)) ≡ end_of points m = omega (arith, second) in
    let here : suc (round_place points (suc (last - 1))) ≡ t.blocks * d.samples = ap (λ n. suc (round_place points n)) second ∙ ap suc (last-place points m ordered) ∙ all in
    ap (track_position d f t) (sym after) ∙ begins-playing d f t l (last - 1) shifts some way on here
    ∙ ap (λ n. loop_position f t (heard d f t n) (heard d f t (last - 1))) second

-- a playing that is given again leaves the player where it found it
comes-back : (d : Decoder) (f : Format) (t : Track) (l m : ℕ) → Shifts d → 2 ≤ d.samples → IsWay f t → GoesOn f t l → settles_at (heard d f t) (points_of d t.blocks l) m ≡ true
    → position_after d f t.memory (track_position d f t (end_of (points_of d t.blocks l) m)) (length_of (points_of d t.blocks l)) ≡ track_position d f t (end_of (points_of d t.blocks l) m)
comes-back d f t l m shifts two way on again =
    let points = points_of d t.blocks l in
    let len = length_of points in
    let some : 0 < d.samples = omega (arith, two) in
    let long = loop-long d t.blocks l two on.within in
    let ordered = points-ordered d t.blocks l some on.within in
    let each = again-each (heard d f t) (points.start + m * len) len in
    let one : heard d f t (points.end + m * len) ≡ heard d f t (points.end + suc m * len) =
    (let p : points.end + m * len ≡ points.start + m * len + (len - 1) = omega (arith, ordered) in
    let q : points.start + m * len + len + (len - 1) ≡ points.end + suc m * len = omega (arith, ordered) in
    ap (heard d f t) p ∙ each (len - 1) again (omega (arith, long)) ∙ ap (heard d f t) q) in
    let two_back : heard d f t (points.end + m * len - 1) ≡ heard d f t (points.end + suc m * len - 1) =
    (let p : points.end + m * len - 1 ≡ points.start + m * len + (len - 2) = omega (arith, ordered, long) in
    let q : points.start + m * len + len + (len - 2) ≡ points.end + suc m * len - 1 = omega (arith, ordered, long) in
    ap (heard d f t) p ∙ each (len - 2) again (omega (arith, long)) ∙ ap (heard d f t) q) in
    let next : end_of points (suc m) ≡ end_of points m + len = omega arith in
    sym (position_after-plus d f t.memory (track_position d f t 0) (end_of points m) len (end_of points (suc m)) next)
    ∙ begins-after d f t l (suc m) shifts two way on
    ∙ ap (λ x. loop_position f t x (heard d f t (points.end + suc m * len - 1))) (sym one)
    ∙ ap (λ y. loop_position f t (heard d f t (points.end + m * len)) y) (sym two_back)
    ∙ sym (begins-after d f t l m shifts two way on)

-- so behind it the player gives that playing again and again
pub given_for_ever : (d : Decoder) (f : Format) (t : Track) (l m k : ℕ) → Shifts d → 2 ≤ d.samples → IsWay f t → GoesOn f t l → settles_at (heard d f t) (points_of d t.blocks l) m ≡ true
    → heard d f t (end_of (points_of d t.blocks l) m + k)
    ≡ heard d f t ((points_of d t.blocks l).start + m * length_of (points_of d t.blocks l) + k % length_of (points_of d t.blocks l))
given_for_ever d f t l m k shifts two way on again =
    let points = points_of d t.blocks l in
    let len = length_of points in
    let some : 0 < d.samples = omega (arith, two) in
    let ordered = points-ordered d t.blocks l some on.within in
    let rest : k % len < len = mod_below k len (omega arith) in
    let from = track_position d f t (end_of points m) in
    let first = track_position d f t 0 in
    let there : end_of points m + k % len ≡ points.start + m * len + len + k % len = omega (arith, ordered) in
    ap (sound d f t.memory) (position_after-plus d f t.memory first (end_of points m) k (end_of points m + k) refl)
    ∙ ap (sound d f t.memory) (round_left_out d f t.memory from len k (comes-back d f t l m shifts two way on again))
    ∙ ap (sound d f t.memory) (sym (position_after-plus d f t.memory first (end_of points m) (k % len) (end_of points m + k % len) refl))
    ∙ ap (heard d f t) there ∙ sym (again-each (heard d f t) (points.start + m * len) len (k % len) again rest)
