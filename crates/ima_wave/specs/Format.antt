-- What a `fmt ` body of IMA ADPCM says, or the first fault (RIFF WAVE, format tag 0x0011).
use Rattle.std.specs.Prelude.{ℕ, List, length, drop, Result, Ok, Err, nat_lt, ◌==◌, ◌&&◌, ◌||◌, not, if◌then◌else◌}
use Rattle.byteorder.specs.Endian.{little_number}
use Rattle.wave_form.specs.Format.{tag_at, channels_at, rate_at, align_at, bits_at}
use Rattle.ima_machine.specs.Ima.{is_align, samples_in}
use Rattle.ima_wave.specs.declared.format.Format.{Format}
use Rattle.ima_wave.specs.declared.fault.ImaWaveFault.{ImaWaveFault}
use Rattle.ima_wave.specs.declared.fault.ImaWaveFault.TheVariants.{BadFmt, NotIma, BadChannels, BadRate, BadBits, BadAlign}

-- the samples of a block, in bytes 18 and 19; those before are the size of the extension, which is not looked at
abbrev pub samples_at : List ℕ → ℕ
samples_at body = little_number 2 (drop 18 body)

-- what a body says whose tag says IMA ADPCM
unfoldable pub layout_of : List ℕ → Result Format ImaWaveFault
layout_of body =
    if not (channels_at body == 1) then Err (BadChannels (channels_at body))
    else (if rate_at body == 0 || nat_lt 1000000 (rate_at body) then Err (BadRate (rate_at body))
    else (if not (bits_at body == 4) then Err (BadBits (bits_at body))
    else (if not (is_align (align_at body) && samples_at body == samples_in (align_at body)) then Err (BadAlign (align_at body))
    else Ok (record { rate = rate_at body; align = align_at body }))))

-- what a body says, or its first fault
unfoldable pub format_of : List ℕ → Result Format ImaWaveFault
format_of body =
    if nat_lt (length body) 20 then Err (BadFmt (length body))
    else (if not (tag_at body == 17) then Err (NotIma (tag_at body))
    else layout_of body)
