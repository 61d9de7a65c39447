-- What a `fmt ` body says, or the first fault (RIFF WAVE, format chunk).
use Rattle.std.specs.Prelude.{◌≤◌, ◌<◌, ℕ, ◌*◌, ◌/◌, Bool, List, [], ◌∷◌, length, take, drop, Option, Some, None, Result, Ok, Err, nat_lt, ◌==◌, ◌&&◌, ◌||◌, not, if◌then◌else◌}
use Rattle.std.specs.Str.{bytes_eq}
use Rattle.byteorder.specs.Endian.{little_number}
use Rattle.wave_form.specs.declared.format.Depth.{Depth}
use Rattle.wave_form.specs.declared.format.Depth.TheVariants.{Eight, Sixteen}
use Rattle.wave_form.specs.declared.format.Format.{Format}
use Rattle.wave_form.specs.declared.fault.WaveFault.{WaveFault}
use Rattle.wave_form.specs.declared.fault.WaveFault.TheVariants.{BadFmt, NotPcm, BadChannels, BadRate, BadBits, BadAlign, NeedsChannel, NoChannel}

-- the format tag, in bytes 0 and 1
abbrev pub tag_at : List ℕ → ℕ
tag_at body = little_number 2 body

-- the channels, in bytes 2 and 3
abbrev pub channels_at : List ℕ → ℕ
channels_at body = little_number 2 (drop 2 body)

-- the frames per second, in bytes 4 to 7
abbrev pub rate_at : List ℕ → ℕ
rate_at body = little_number 4 (drop 4 body)

-- the bytes of a frame, in bytes 12 and 13; those between are bytes per second, which are not looked at
abbrev pub align_at : List ℕ → ℕ
align_at body = little_number 2 (drop 12 body)

-- the bits of a sample, in bytes 14 and 15
abbrev pub bits_at : List ℕ → ℕ
bits_at body = little_number 2 (drop 14 body)

-- the sub-format of an extensible header that says PCM
abbrev pub pcm_sub_format : List ℕ
pcm_sub_format = 1 ∷ 0 ∷ 0 ∷ 0 ∷ 0 ∷ 0 ∷ 16 ∷ 0 ∷ 128 ∷ 0 ∷ 0 ∷ 170 ∷ 0 ∷ 56 ∷ 155 ∷ 113 ∷ []

-- tag 0xFFFE: the header is extended, and its sub-format counts
abbrev pub is_extensible : List ℕ → Bool
is_extensible body = tag_at body == 65534

-- whether fields are missing at the end
abbrev pub is_short : List ℕ → Bool
is_short body = nat_lt (length body) 16 || is_extensible body && nat_lt (length body) 40

-- tag 1, or an extended header with the sub-format of PCM
abbrev pub is_pcm : List ℕ → Bool
is_pcm body = tag_at body == 1 || is_extensible body && bytes_eq (take 16 (drop 24 body)) pcm_sub_format

-- bytes of a sample
abbrev pub width_of : Depth → ℕ
width_of Eight = 1
width_of Sixteen = 2

-- bytes of a frame
abbrev pub frame_size : Format → ℕ
frame_size format = format.channels * width_of format.depth

-- 8 or 16 bits
abbrev pub depth_of : ℕ → Depth
depth_of bits = if bits == 8 then Eight else Sixteen

-- what a body says whose tag says PCM
unfoldable pub layout_of : List ℕ → Result Format WaveFault
layout_of body =
    if not (channels_at body == 1) && not (channels_at body == 2) then Err (BadChannels (channels_at body))
    else (if rate_at body == 0 || nat_lt 1000000 (rate_at body) then Err (BadRate (rate_at body))
    else (if not (bits_at body == 8) && not (bits_at body == 16) then Err (BadBits (bits_at body))
    else (if not (align_at body == channels_at body * (bits_at body / 8)) then Err (BadAlign (align_at body))
    else Ok (record { channels = channels_at body; rate = rate_at body; depth = depth_of (bits_at body) }))))

-- what a body says, or its first fault
unfoldable pub format_of : List ℕ → Result Format WaveFault
format_of body =
    if is_short body then Err (BadFmt (length body))
    else (if not (is_pcm body) then Err (NotPcm (tag_at body))
    else layout_of body)

-- one or two channels at a rate that is allowed
pub record FormatFits (format : Format) : Type 0 where
  pub some_channels : 0 < format.channels
  pub few_channels : format.channels ≤ 2
  pub some_rate : 1 ≤ format.rate
  pub low_rate : format.rate ≤ 1000000

-- the channel to read, where one may be given
unfoldable pub channel_of : ℕ → Option ℕ → Result ℕ WaveFault
channel_of channels None = if channels == 2 then Err NeedsChannel else Ok 0
channel_of channels (Some given) = if nat_lt given channels then Ok given else Err (NoChannel given)
