-- What a loop that was played is taken apart into, over plain variables.
use Rattle.std.proofs.Common.{◌≡◌, ℕ, ◌-◌, ◌*◌, List, ap, ◌∙◌}
use Rattle.std.specs.Prelude.{ℤ, Option, Some}
use Rattle.adpcm_nums.specs.declared.loop_at.LoopAt.{LoopAt}
use Rattle.machine_core.specs.Decoder.{Decoder}
use Rattle.player_model.specs.Format.{Format}
use Rattle.player_model.specs.Looped.{points_of, loop_points}
use Rattle.player_model.specs.Sound.{heard}
use Rattle.player_model.specs.Track.{Track, loop_block_of}
use Rattle.decompile_core.specs.declared.recovered.Recovered.{Recovered}
use Rattle.decompile_core.specs.Playings.{kept_samples, samples_of, settled}
use Rattle.decompile_core.specs.Recovered.{with_loop, recovered_of, stored_recovered}

-- the playing that is kept, with the samples up to its end
pub looped_is : (d : Decoder) (f : Format) (rate trailing : ℕ) (t u : Track) (block in_block blocks : ℕ) (points : LoopAt) (samples : List ℤ) (m : Option ℕ) (result : Recovered)
    → u ≡ t → Some block ≡ loop_block_of f t → points ≡ record { start = block * in_block; end = blocks * in_block - 1 } → in_block ≡ d.samples → blocks ≡ t.blocks
    → m ≡ settled (heard d f u) points → samples ≡ samples_of d.scale (heard d f u) (kept_samples points m) → result ≡ with_loop rate samples points trailing m
    → result ≡ stored_recovered d f rate trailing t
unfolding recovered_of
looped_is d f rate trailing t u block in_block blocks points samples m result track loops at each all settles played is =
    let F : Track → LoopAt → Option ℕ → Recovered = λ v p o. with_loop rate (samples_of d.scale (heard d f v) (kept_samples p o)) p trailing o in
    let there : points ≡ points_of d t.blocks block =
    at ∙ ap (λ n. record { start = block * n; end = blocks * n - 1 }) each ∙ ap (λ n. record { start = block * d.samples; end = n * d.samples - 1 }) all in
    is ∙ ap (λ xs. with_loop rate xs points trailing m) played ∙ ap (F u points) settles
    ∙ ap (λ v. F v points (settled (heard d f v) points)) track ∙ ap (λ p. F t p (settled (heard d f t) p)) there
    ∙ ap (λ o. recovered_of rate d.scale (heard d f t) (t.blocks * d.samples) (loop_points d t.blocks o) trailing) loops
