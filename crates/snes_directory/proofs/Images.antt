-- What holds of each image that is read.
use Rattle.std.proofs.Common.{◌≡◌, ℕ, zero, suc, ◌+◌, ◌-◌, ◌*◌, ◌<◌, cond, Bool, true, false, ◌||◌, List, [], ◌∷◌, ◌++◌, length, get_or, Option, Some, None, Result, Ok, Err, refl, sym, ap, ◌∙◌, subst, arith, inl, inr}
use Rattle.std.specs.Prelude.{All, nat_lt, nat_eq}
use Rattle.std.proofs.lemmas.Bool.{cases_lt, cases_Bool, ltb-false, or_parts}
use Rattle.std.proofs.lemmas.Bool.Decides.{nat_tests}
use Rattle.std.proofs.lemmas.List.{get_or_append_left, get_or_push, length_push}
use Rattle.std.proofs.lemmas.List.Elements.{All-nil, All-push}
use Rattle.adpcm_nums.specs.Outcome.{◌>>=◌}
use Rattle.adpcm_nums.proofs.OutcomeLaws.{went_on}
use Rattle.player_model.specs.declared.fault.TrackFault.{TrackFault}
use Rattle.player_model.specs.Track.{Track, loop_block_of}
use Rattle.player_model.specs.BrrTrack.{track_of}
use Rattle.player_model.specs.BrrFormat.{brr_format}
use Rattle.snes_directory.specs.declared.fault.ImageFault.{ImageFault}
use Rattle.snes_directory.specs.declared.fault.ImageFault.TheVariants.{BadRate, BadLoopAddress}
use Rattle.snes_directory.specs.declared.entry.Entry.{Entry}
use Rattle.snes_directory.specs.declared.entry_lists.EntryLists.{EntryLists}
use Rattle.snes_directory.specs.Header.{number2_at, number4_at}
use Rattle.snes_directory.specs.Entry.{rate_of, start_in, again_place, tracked, again_of, again_in, entry_of}
use Rattle.snes_directory.specs.Reading.{no_entries, with_entry, entries_of, HasTrack, IsRate}
use Rattle.snes_directory.proofs.Tracks.{track_of-closed, track_of-once, once_from, again_from, is_block-within, blocks_within}

abbrev done : {A : Type 0} → A → Result A ImageFault
done x = Ok x

same_ok : {A : Type 0} (x y : A) → done x ≡ Ok y → x ≡ y
same_ok x y h = cc

tracked-ok : (i : ℕ) (r : Result Track TrackFault) (track : Track) → tracked i r ≡ Ok track → r ≡ Ok track
tracked-ok i (Ok t) track h = cc
tracked-ok i (Err e) track h = absurd (cc)

-- a track that repeats
loop-has : (memory : List ℕ) (start again : ℕ) (track : Track) (block : ℕ) → track_of memory start again ≡ Ok track → loop_block_of brr_format track ≡ Some block → HasTrack memory start again
loop-has memory start again track block h some =
    let closed = track_of-closed memory start again track h in
    let inside = blocks_within memory start closed.last closed.end in
    let within = is_block-within start (suc closed.last) again (again_from memory start again track block closed some) in
    record {
      start_within = omega arith;
      again_within = omega (arith, within.0, within.1);
      blocks = suc closed.last;
      track = h ∙ ap (λ (t : Track). Ok t) (sym closed.is);
    }

-- whatever its loop block is, the player has a track that goes on where the entry says
again-has : (memory : List ℕ) (i base start address again : ℕ) (track : Track) (o : Option ℕ) → track_of memory start (again_place base start address) ≡ Ok track → loop_block_of brr_format track ≡ o
    → again_of i base start address o ≡ Ok again → HasTrack memory start again
again-has memory i base start address again track None h none is =
    let closed = track_of-closed memory start (again_place base start address) track h in
    let same : start ≡ again = cc in
    subst (HasTrack memory start) same
    (let inside = blocks_within memory start closed.last closed.end in record {
      start_within = omega arith;
      again_within = omega arith;
      blocks = suc closed.last;
      track = track_of-once memory start start closed.last closed.end (once_from memory start (again_place base start address) track closed none);
    })
again-has memory i base start address again track (Some block) h some is =
    elim (cases_Bool (nat_lt address base)) [
      | inl below ↦ absurd (let refused : Err (BadLoopAddress i) ≡ Ok again = rw below at is in (cc))
      | inr above ↦ (let told : Ok (address - base) ≡ Ok again = rw above at is in
          let same : address - base ≡ again = cc in
          let place : again_place base start address ≡ again = ap (λ b. cond b start (address - base)) above ∙ same in
          subst (HasTrack memory start) place (loop-has memory start (again_place base start address) track block h some))
    ]

again_in-has : (base : ℕ) (memory : List ℕ) (i start again : ℕ) → again_in base memory i start ≡ Ok again → HasTrack memory start again
unfolding again_in
again_in-has base memory i start again h =
    let address = number2_at memory (4 * i + 2) in
    let w = went_on (tracked i (track_of memory start (again_place base start address))) (λ track. again_of i base start address (loop_block_of brr_format track)) again h in
    again-has memory i base start address again w.0 (loop_block_of brr_format w.0) (tracked-ok i (track_of memory start (again_place base start address)) w.0 w.1) refl w.2

-- an entry with a rate and a track in the memory
record IsEntry (memory : List ℕ) (entry : Entry) : Type 0 where
  rate : IsRate entry.rate
  track : HasTrack memory entry.start entry.again

-- where a choice is Ok, its test failed
passed : (b : Bool) (e : ImageFault) (x y : ℕ) → cond {A = Result ℕ ImageFault} b (Err e) (Ok x) ≡ Ok y → (b ≡ false) × (x ≡ y)
passed true e x y h = (cc, cc)
passed false e x y h = (refl, cc)

rate_of-fits : (bytes : List ℕ) (i rate : ℕ) → rate_of bytes i ≡ Ok rate → IsRate rate
unfolding rate_of
rate_of-fits bytes i rate h =
    let n = number4_at bytes (16 + 4 * i) in
    let test = passed (nat_eq n 0 || nat_lt 1000000 n) (BadRate i n) n rate h in
    let parts = or_parts (nat_eq n 0) (nat_lt 1000000 n) test.0 in
    subst IsRate test.1 (record { some = grind (arith, nat_tests, parts.0); high = ltb-false _ _ parts.1 })

entry-has : (bytes : List ℕ) (base : ℕ) (memory : List ℕ) (i : ℕ) (entry : Entry) → entry_of bytes base memory i ≡ Ok entry → IsEntry memory entry
unfolding entry_of
entry-has bytes base memory i entry h =
    let made : ℕ → ℕ → ℕ → Entry = λ rate start again. record { rate = rate; start = start; again = again } in
    let rated = went_on (rate_of bytes i) (λ rate. start_in base memory i >>= λ start. again_in base memory i start >>= λ again. Ok (made rate start again)) entry h in
    let started = went_on (start_in base memory i) (λ start. again_in base memory i start >>= λ again. Ok (made rated.0 start again)) entry rated.2 in
    let ended = went_on (again_in base memory i started.0) (λ again. Ok (made rated.0 started.0 again)) entry started.2 in
    let same : made rated.0 started.0 ended.0 ≡ entry = same_ok (made rated.0 started.0 ended.0) entry ended.2 in
    subst (IsEntry memory) same (record { rate = rate_of-fits bytes i rated.0 rated.1; track = again_in-has base memory i started.0 ended.0 ended.1 })

-- n entries, each of which has a track in the memory
pub record AreEntries (memory : List ℕ) (n : ℕ) (entries : EntryLists) : Type 0 where
  pub rates : length entries.rates ≡ n
  pub starts : length entries.starts ≡ n
  pub agains : length entries.agains ≡ n
  pub each_rate : All IsRate entries.rates
  pub tracks : (i : ℕ) → i < n → HasTrack memory (get_or entries.starts i 0) (get_or entries.agains i 0)

-- one entry more
entries-more : (memory : List ℕ) (n : ℕ) (before : EntryLists) (entry : Entry) → AreEntries memory n before → IsEntry memory entry → AreEntries memory (suc n) (with_entry before entry)
entries-more memory n before entry so_far here = record {
  rates = omega (arith, so_far.rates, length_push before.rates entry.rate);
  starts = omega (arith, so_far.starts, length_push before.starts entry.start);
  agains = omega (arith, so_far.agains, length_push before.agains entry.again);
  each_rate = All-push IsRate before.rates entry.rate so_far.each_rate here.rate;
  tracks = λ i less. elim (cases_lt i n) [
    | inl below ↦ (let s : get_or (before.starts ++ entry.start ∷ []) i 0 ≡ get_or before.starts i 0 = get_or_append_left before.starts (entry.start ∷ []) 0 i (omega (arith, so_far.starts)) in
        let a : get_or (before.agains ++ entry.again ∷ []) i 0 ≡ get_or before.agains i 0 = get_or_append_left before.agains (entry.again ∷ []) 0 i (omega (arith, so_far.agains)) in
        rw (s, a) (so_far.tracks i below))
    | inr above ↦ (let s : get_or (before.starts ++ entry.start ∷ []) i 0 ≡ entry.start = get_or_push before.starts entry.start 0 i (omega (arith, so_far.starts)) in
        let a : get_or (before.agains ++ entry.again ∷ []) i 0 ≡ entry.again = get_or_push before.agains entry.again 0 i (omega (arith, so_far.agains)) in
        rw (s, a) here.track)
  ];
}

-- the first n entries that are read are so
pub entries_of-are : (bytes : List ℕ) (base : ℕ) (memory : List ℕ) (n : ℕ) (entries : EntryLists) → entries_of bytes base memory n ≡ Ok entries → AreEntries memory n entries
unfolding entries_of
entries_of-are bytes base memory zero entries h =
    subst (AreEntries memory 0) (same_ok no_entries entries h) (record { rates = refl; starts = refl; agains = refl; each_rate = All-nil IsRate; tracks = λ i less. absurd (omega arith) })
entries_of-are bytes base memory (suc n) entries h =
    let so_far = went_on (entries_of bytes base memory n) (λ before. entry_of bytes base memory n >>= λ entry. Ok (with_entry before entry)) entries h in
    let here = went_on (entry_of bytes base memory n) (λ entry. Ok (with_entry so_far.0 entry)) entries so_far.2 in
    subst (AreEntries memory (suc n)) (same_ok (with_entry so_far.0 here.0) entries here.2)
    (entries-more memory n so_far.0 here.0 (entries_of-are bytes base memory n so_far.0 so_far.1) (entry-has bytes base memory n here.0 here.1))
