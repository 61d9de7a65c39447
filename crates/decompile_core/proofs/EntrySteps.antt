-- The entries of a file one after another, and what is known of a track that was found.
use Rattle.std.proofs.Common.{◌≡◌, ℕ, suc, ◌+◌, ◌*◌, ◌≤◌, List, [], ◌∷◌, ◌++◌, length, refl, sym, ap, ◌∙◌, subst, arith}
use Rattle.std.specs.Prelude.{Option, Some, None, Result, Ok, Err}
use Rattle.adpcm_nums.specs.Outcome.{◌>>=◌}
use Rattle.block_flags.specs.declared.split.Split.{Split}
use Rattle.block_flags.specs.declared.split.SplitFault.{SplitFault}
use Rattle.spu_machine.specs.Spu.{spu}
use Rattle.snes_directory.specs.declared.image.Image.{Image}
use Rattle.player_model.specs.SpuFormat.{spu_format}
use Rattle.player_model.specs.SpuTrack.{bad_block, checked_track, split_track, spu_split, spu_track_of}
use Rattle.player_model.specs.Track.{Track}
use Rattle.player_model.specs.Sound.{IsTrack}
use Rattle.player_model.proofs.SpuWalks.{split-track, split-within, whole_track}
use Rattle.decompile_core.specs.declared.recovered.Recovered.{Recovered}
use Rattle.decompile_core.specs.Decompiled.{entries_of, entry_of}

pub no_entries : (image : Image) (list : List Recovered) → list ≡ [] → entries_of image 0 ≡ Ok list
unfolding entries_of
no_entries image list none = ap (λ (xs : List Recovered). Ok xs) (sym none)

-- one entry more
pub entries_more : (image : Image) (n m : ℕ) (before after : List Recovered) (entry : Recovered) → entries_of image n ≡ Ok before → entry_of image n ≡ Ok entry → after ≡ before ++ entry ∷ [] → m ≡ n + 1
    → entries_of image m ≡ Ok after
unfolding entries_of
entries_more image n m before after entry so_far next pushed more =
    let last : m ≡ suc n = omega (arith, more) in
    ap (entries_of image) last ∙ ap (λ r. r >>= (λ xs. entry_of image n >>= (λ x. Ok (xs ++ x ∷ [])))) so_far
    ∙ ap (λ r. r >>= (λ x. Ok (before ++ x ∷ []))) next ∙ ap (λ (xs : List Recovered). Ok xs) (sym pushed)

-- bytes of SPU-ADPCM whose track was found
pub record IsSpuTrack (bytes : List ℕ) (t : Track) : Type 0 where
  pub track : IsTrack spu spu_format t
  pub within : 16 * t.blocks ≤ length bytes

checked-is : (bytes : List ℕ) (s : Split) (t : Track) (bad : Option ℕ) → spu_split bytes ≡ Ok s → bad_block bytes s.blocks ≡ bad → checked_track bytes s.blocks bad ≡ Ok t → IsSpuTrack bytes t
checked-is bytes s t None splits none found =
    let same : whole_track bytes s.blocks ≡ t = cc in
    subst (IsSpuTrack bytes) same (record { track = split-track bytes s splits none; within = split-within bytes s splits })
checked-is bytes s t (Some block) splits none found = absurd (let e : Err _ ≡ Ok t = found in cc)

split-is : (bytes : List ℕ) (t : Track) (read : Result Split SplitFault) → spu_split bytes ≡ read → split_track bytes read ≡ Ok t → IsSpuTrack bytes t
split-is bytes t (Ok s) splits found = checked-is bytes s t (bad_block bytes s.blocks) splits refl found
split-is bytes t (Err e) splits found = absurd (let e : Err _ ≡ Ok t = found in cc)

pub spu_track_is : (bytes : List ℕ) (t : Track) → spu_track_of bytes ≡ Ok t → IsSpuTrack bytes t
unfolding spu_track_of
spu_track_is bytes t found = split-is bytes t (spu_split bytes) refl found
