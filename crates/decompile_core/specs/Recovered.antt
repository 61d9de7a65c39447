-- What an entry of a bank is taken apart into: samples, and the loop that they go round for ever.
use Rattle.std.specs.Prelude.{ℕ, ◌+◌, ◌*◌, ◌^◌, ◌<◌, ◌≤◌, ℤ, List, length, Option, Some, None, IfSome}
use Rattle.adpcm_nums.specs.declared.loop_at.LoopAt.{LoopAt}
use Rattle.machine_core.specs.Decoder.{Decoder}
use Rattle.player_model.specs.Format.{Format}
use Rattle.player_model.specs.Looped.{loop_points}
use Rattle.player_model.specs.Sound.{heard}
use Rattle.player_model.specs.Track.{Track, loop_block_of}
use Rattle.player_model.specs.ImaTrack.{ImaSound, first_outputs}
use Rattle.decompile_core.specs.declared.recovered.Recovered.{Recovered}
use Rattle.decompile_core.specs.declared.recovered.Settles.{Settles}
use Rattle.decompile_core.specs.declared.recovered.Settles.TheVariants.{NoLoop, From, Unsettled}
use Rattle.decompile_core.specs.Playings.{kept_samples, length_of, samples_of, settled}

-- playing m of a loop
abbrev pub playing_of : LoopAt → ℕ → LoopAt
playing_of points m = record { start = points.start + m * length_of points; end = points.end + m * length_of points }

-- samples that end with a playing, which is their loop; where there is none they are the first pass with its loop
abbrev pub with_loop : ℕ → List ℤ → LoopAt → ℕ → Option ℕ → Recovered
with_loop rate samples points trailing None = record { rate = rate; samples = samples; loop_at = Some points; settles = Unsettled; trailing = trailing }
with_loop rate samples points trailing (Some m) =
    record { rate = rate; samples = samples; loop_at = Some (playing_of points m); settles = From m; trailing = trailing }

-- what a player's outputs are taken apart into, times a scale: so many are the first pass, of which these are played again
unfoldable pub recovered_of : ℕ → ℕ → (ℕ → ℤ) → ℕ → Option LoopAt → ℕ → Recovered
recovered_of rate scale output count None trailing =
    record { rate = rate; samples = samples_of scale output count; loop_at = None; settles = NoLoop; trailing = trailing }
recovered_of rate scale output count (Some points) trailing =
    with_loop rate (samples_of scale output (kept_samples points (settled output points))) points trailing (settled output points)

-- what a track of blocks with flags is taken apart into
abbrev pub stored_recovered : Decoder → Format → ℕ → ℕ → Track → Recovered
stored_recovered d f rate trailing t = recovered_of rate d.scale (heard d f t) (t.blocks * d.samples) (loop_points d t.blocks (loop_block_of f t)) trailing

-- a loop of frames stays the same from the first pass on
abbrev pub first_settles : Option LoopAt → Settles
first_settles None = NoLoop
first_settles (Some points) = From 0

-- what a track of IMA ADPCM is taken apart into: all frames, with this loop
abbrev pub sound_recovered : ℕ → Option LoopAt → ImaSound → Recovered
sound_recovered rate points t = record { rate = rate; samples = first_outputs t; loop_at = points; settles = first_settles points; trailing = 0 }

-- what holds of each entry that is taken apart: it can be written as a WAVE file
pub record IsEntry (entry : Recovered) : Type 0 where
  pub some_rate : 1 ≤ entry.rate
  pub low_rate : entry.rate ≤ 1000000
  pub few : length entry.samples ≤ 2 ^ 24
  pub forward : IfSome entry.loop_at (λ at. at.start ≤ at.end)
  pub inside : IfSome entry.loop_at (λ at. at.end < length entry.samples)
