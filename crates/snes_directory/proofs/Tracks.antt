-- What a track says of the memory that it lies in.
use Rattle.std.proofs.Common.{◌≡◌, ℕ, suc, ◌+◌, ◌-◌, ◌*◌, ◌/◌, ◌%◌, ◌≤◌, ◌<◌, length, Bool, true, false, cond, not, ◌&&◌, List, Option, Some, None, Result, Ok, Err, refl, sym, ap, ◌∙◌, arith}
use Rattle.std.specs.Prelude.{nat_le, nat_lt, nat_eq}
use Rattle.std.proofs.lemmas.Bool.{and_parts, leb-true, ltb-true}
use Rattle.adpcm_nums.proofs.FirstLaws.{first_where-is}
use Rattle.player_model.specs.declared.fault.TrackFault.{TrackFault}
use Rattle.player_model.specs.declared.fault.TrackFault.TheVariants.{BadAgain}
use Rattle.player_model.specs.Track.{Track, whole_blocks, ends_at, repeats_at, end_block, is_block, loop_block_of, end_register}
use Rattle.player_model.specs.BrrTrack.{track_from, track_of}
use Rattle.player_model.specs.BrrFormat.{brr_format}

-- its last block is the first with the end flag, and where that one repeats, the track goes on at one of its blocks
pub record IsClosed (memory : List ℕ) (start again : ℕ) (track : Track) : Type 0 where
  pub last : ℕ
  pub end : end_block brr_format memory start ≡ Some last
  pub again_fits : repeats_at brr_format memory start last ≡ true → is_block brr_format start (suc last) again ≡ true
  pub is : record { memory = memory; start = start; again = again; blocks = suc last } ≡ track

-- where a choice is Ok, its test failed
passed : (b : Bool) (e : TrackFault) (x y : Track) → cond {A = Result Track TrackFault} b (Err e) (Ok x) ≡ Ok y → (b ≡ false) × (x ≡ y)
passed true e x y h = (cc, cc)
passed false e x y h = (refl, cc)

other_fails : (a b : Bool) → (a && not b) ≡ false → a ≡ true → b ≡ true
other_fails true true h e = refl
other_fails true false h e = cc
other_fails false b h e = cc

closed_from : (memory : List ℕ) (start again : ℕ) (o : Option ℕ) (track : Track) → end_block brr_format memory start ≡ o → track_from memory start again o ≡ Ok track → IsClosed memory start again track
closed_from memory start again None track e h = absurd (cc)
closed_from memory start again (Some last) track e h =
    let repeats = repeats_at brr_format memory start last in
    let whole : Track = record { memory = memory; start = start; again = again; blocks = suc last } in
    let test = passed (repeats && not (is_block brr_format start (suc last) again)) (BadAgain again) whole track h in
    record { last = last; end = e; again_fits = other_fails repeats (is_block brr_format start (suc last) again) test.0; is = test.1 }

-- a track that was read is closed
pub track_of-closed : (memory : List ℕ) (start again : ℕ) (track : Track) → track_of memory start again ≡ Ok track → IsClosed memory start again track
unfolding track_of
track_of-closed memory start again track h = closed_from memory start again (end_block brr_format memory start) track refl h

-- a track that does not repeat is one wherever it would go on
pub track_of-once : (memory : List ℕ) (start again last : ℕ) → end_block brr_format memory start ≡ Some last → repeats_at brr_format memory start last ≡ false
    → track_of memory start again ≡ Ok (record { memory = memory; start = start; again = again; blocks = suc last })
unfolding track_of
track_of-once memory start again last end once = ap (track_from memory start again) end ∙ rw once refl

no_choice : (b : Bool) (n : ℕ) → cond b (Some n) None ≡ None → b ≡ false
no_choice true n h = cc
no_choice false n h = refl

-- the block at which a track goes on, where it repeats
abbrev loop_number : List ℕ → ℕ → ℕ → ℕ → ℕ
loop_number memory start again blocks = (end_register brr_format (record { memory = memory; start = start; again = again; blocks = blocks }) - start) / 9

-- it does not repeat where it has no loop block
pub once_from : (memory : List ℕ) (start again : ℕ) (track : Track) (closed : IsClosed memory start again track) → loop_block_of brr_format track ≡ None → repeats_at brr_format memory start closed.last ≡ false
once_from memory start again track closed none =
    let here : loop_block_of brr_format (record { memory = memory; start = start; again = again; blocks = suc closed.last }) ≡ None = ap (loop_block_of brr_format) closed.is ∙ none in
    let last : suc closed.last - 1 ≡ closed.last = omega arith in
    ap (repeats_at brr_format memory start) (sym last) ∙ no_choice (repeats_at brr_format memory start (suc closed.last - 1)) (loop_number memory start again (suc closed.last)) here

-- it repeats where it has a loop block
some_choice : (b : Bool) (n l : ℕ) → cond b (Some n) None ≡ Some l → b ≡ true
some_choice true n l h = refl
some_choice false n l h = cc

-- so the address where it goes on is that of one of its blocks
pub again_from : (memory : List ℕ) (start again : ℕ) (track : Track) (l : ℕ) (closed : IsClosed memory start again track) → loop_block_of brr_format track ≡ Some l → is_block brr_format start (suc closed.last) again ≡ true
again_from memory start again track l closed some =
    let here : loop_block_of brr_format (record { memory = memory; start = start; again = again; blocks = suc closed.last }) ≡ Some l = ap (loop_block_of brr_format) closed.is ∙ some in
    let last : suc closed.last - 1 ≡ closed.last = omega arith in
    closed.again_fits (ap (repeats_at brr_format memory start) (sym last) ∙ some_choice (repeats_at brr_format memory start (suc closed.last - 1)) (loop_number memory start again (suc closed.last)) l here)

-- an address of one of so many blocks
pub is_block-within : (start blocks address : ℕ) → is_block brr_format start blocks address ≡ true → (start ≤ address) × ((address - start) / 9 < blocks)
is_block-within start blocks address h =
    let parts = and_parts (nat_le start address) (nat_eq ((address - start) % 9) 0 && nat_lt ((address - start) / 9) blocks) h in
    let more = and_parts (nat_eq ((address - start) % 9) 0) (nat_lt ((address - start) / 9) blocks) parts.1 in
    (leb-true _ _ parts.0, ltb-true _ _ more.1)

-- the blocks up to the one with the end flag lie in the memory
pub blocks_within : (memory : List ℕ) (start last : ℕ) → end_block brr_format memory start ≡ Some last → start + 9 * suc last ≤ length memory
blocks_within memory start last end =
    let found = first_where-is (ends_at brr_format memory start) (whole_blocks brr_format memory start) last end in
    let within : last < (length memory - start) / 9 = found.within in
    omega arith
