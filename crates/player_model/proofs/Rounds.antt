-- Where a player stands after some samples and then some more.
use Rattle.std.proofs.Common.{◌≡◌, ℕ, zero, suc, ◌+◌, ◌*◌, ◌/◌, ◌%◌, List, refl, sym, ap, ◌∙◌, true, false, arith}
use Rattle.std.specs.Prelude.{pos}
use Rattle.std.proofs.lemmas.Nat.{div-add-mod'}
use Rattle.machine_core.specs.Decoder.{Decoder, start}
use Rattle.player_model.specs.declared.position.Position.{Position}
use Rattle.player_model.specs.Format.{Format}
use Rattle.player_model.specs.Player.{sounded, moved, sound, next_position, first_position, position_after}
use Rattle.player_model.specs.Track.{Track}
use Rattle.player_model.specs.Sound.{track_position, heard}

-- one sample more
pub one_more : (d : Decoder) (f : Format) (memory : List ℕ) (from at after : Position) (n : ℕ) → at ≡ position_after d f memory from n → after ≡ next_position d f memory at
    → after ≡ position_after d f memory from (n + 1)
one_more d f memory from at after n is moves =
    let more : suc n ≡ n + 1 = omega arith in
    moves ∙ ap (next_position d f memory) is ∙ ap (position_after d f memory from) more

-- from a position on the way
pub position_after-plus : (d : Decoder) (f : Format) (memory : List ℕ) (at : Position) (m n k : ℕ) → k ≡ m + n
    → position_after d f memory at k ≡ position_after d f memory (position_after d f memory at m) n
position_after-plus d f memory at m zero k e =
    let same : k ≡ m = omega (arith, e) in ap (position_after d f memory at) same
position_after-plus d f memory at m (suc n) zero e = absurd (omega (arith, e))
position_after-plus d f memory at m (suc n) (suc k) e =
    ap (next_position d f memory) (position_after-plus d f memory at m n k (omega (arith, e)))

-- a player that came back comes back again and again
comes-back : (d : Decoder) (f : Format) (memory : List ℕ) (at : Position) (gone rounds k : ℕ) → position_after d f memory at gone ≡ at
    → k ≡ gone * rounds → position_after d f memory at k ≡ at
comes-back d f memory at gone zero k back e = let none : k ≡ 0 = omega (arith, e) in ap (position_after d f memory at) none
comes-back d f memory at gone (suc rounds) k back e =
    position_after-plus d f memory at gone (gone * rounds) k (omega (arith, e))
    ∙ ap (λ (p : Position). position_after d f memory p (gone * rounds)) back
    ∙ comes-back d f memory at gone rounds (gone * rounds) back refl

-- so whole rounds may be left out
pub round_left_out : (d : Decoder) (f : Format) (memory : List ℕ) (at : Position) (gone left : ℕ) → position_after d f memory at gone ≡ at
    → position_after d f memory at left ≡ position_after d f memory at (left % gone)
round_left_out d f memory at gone left back =
    position_after-plus d f memory at (gone * (left / gone)) (left % gone) left (omega (arith, div-add-mod' left gone))
    ∙ ap (λ (p : Position). position_after d f memory p (left % gone)) (comes-back d f memory at gone (left / gone) (gone * (left / gone)) back refl)

-- one more playing: what is left
pub playing_more : (d : Decoder) (f : Format) (memory : List ℕ) (at next whole : Position) (playing left less : ℕ)
    → whole ≡ position_after d f memory at left → next ≡ position_after d f memory at playing → left ≡ playing + less
    → whole ≡ position_after d f memory next less
playing_more d f memory at next whole playing left less is goes split =
    is ∙ position_after-plus d f memory at playing less left split ∙ ap (λ (p : Position). position_after d f memory p less) (sym goes)

-- and how far a known position lies behind
pub known_more : (d : Decoder) (f : Format) (memory : List ℕ) (known at next : Position) (playing gone more : ℕ)
    → position_after d f memory known gone ≡ at → next ≡ position_after d f memory at playing → more ≡ gone + playing
    → position_after d f memory known more ≡ next
known_more d f memory known at next playing gone more is goes split =
    position_after-plus d f memory known gone playing more split ∙ ap (λ (p : Position). position_after d f memory p playing) is ∙ sym goes

-- where the player of a track stands, from its first position
pub from_first : (d : Decoder) (f : Format) (t : Track) (first at : Position) (i : ℕ) → first ≡ first_position t.start t.again start
    → at ≡ position_after d f t.memory first i → at ≡ track_position d f t i
from_first d f t first at i begins is =
    is ∙ ap (λ (p : Position). position_after d f t.memory p i) begins

-- and from its position after the first pass
pub from_end : (d : Decoder) (f : Format) (t : Track) (first end at : Position) (whole rest i : ℕ) → first ≡ first_position t.start t.again start
    → end ≡ position_after d f t.memory first whole → at ≡ position_after d f t.memory end rest
    → i ≡ whole + rest → at ≡ track_position d f t i
from_end d f t first end at whole rest i begins ends is sum =
    from_first d f t first at i begins
    (is ∙ ap (λ (p : Position). position_after d f t.memory p rest) ends
    ∙ sym (position_after-plus d f t.memory first whole rest i sum))

-- what is heard at the position of a sample: silence where the player is muted
pub heard_silent : (d : Decoder) (f : Format) (t : Track) (at : Position) (i : ℕ) → at ≡ track_position d f t i → at.muted ≡ true → pos 0 ≡ heard d f t i
heard_silent d f t at i is silent =
    let sounds : sound d f t.memory at ≡ pos 0 = rw silent refl in
    sym sounds ∙ ap (sound d f t.memory) is

-- and else the last output of the history after it
pub heard_sound : (d : Decoder) (f : Format) (t : Track) (at after : Position) (i : ℕ) → at ≡ track_position d f t i → at.muted ≡ false
    → after ≡ moved d f t.memory at → after.history.a ≡ heard d f t i
heard_sound d f t at after i is sounding moves =
    let sounds : sound d f t.memory at ≡ (sounded d f t.memory at).a = rw sounding refl in
    ap (λ (p : Position). p.history.a) moves ∙ sym sounds ∙ ap (sound d f t.memory) is

-- a playing that begins as a known one did
pub came_round : (d : Decoder) (f : Format) (memory : List ℕ) (known at next whole answer : Position) (playing gone more left less : ℕ)
    → whole ≡ position_after d f memory at left → position_after d f memory known gone ≡ at → next ≡ position_after d f memory at playing
    → left ≡ playing + less → more ≡ gone + playing → next ≡ known → answer ≡ position_after d f memory next (less % more) → answer ≡ whole
came_round d f memory known at next whole answer playing gone more left less is goes steps split sum back ends =
    let round : position_after d f memory next more ≡ next =
    ap (λ (p : Position). position_after d f memory p more) back ∙ known_more d f memory known at next playing gone more goes steps sum in
    ends ∙ sym (round_left_out d f memory next more less round) ∙ sym (playing_more d f memory at next whole playing left less is steps split)
