-- The names of the files under which a bank is stored.
use Rattle.std.specs.Prelude.{ℕ, List, [], ◌∷◌, ◌++◌, map, codes}
use Rattle.std.specs.List.{flat_map}
use Rattle.machine_core.specs.declared.state.Kind.{Kind}
use Rattle.machine_core.specs.declared.state.Kind.TheVariants.{Brr, Spu, Ima}
use Rattle.manifest_reader.specs.declared.manifest.SampleEntry.{SampleEntry}

-- the name of a file of a sample
abbrev pub joined : List ℕ → List ℕ → List ℕ → List ℕ
joined bank sample ending = bank ++ (codes "." ++ (sample ++ ending))

-- what a player gives of a sample, up to the end of its loop's first round
abbrev pub first_pass_of : List ℕ → List ℕ → List ℕ
first_pass_of bank sample = joined bank sample (codes ".first.wav")

-- the VAG file of a sample
abbrev pub vag_name_of : List ℕ → List ℕ → List ℕ
vag_name_of bank sample = joined bank sample (codes ".vag")

-- the WAVE file of the blocks of a sample of IMA ADPCM
abbrev pub ima_name_of : List ℕ → List ℕ → List ℕ
ima_name_of bank sample = joined bank sample (codes ".wav")

-- the certificate of the bound that is told of a sample
abbrev pub cert_name_of : List ℕ → List ℕ → List ℕ
cert_name_of bank sample = joined bank sample (codes ".cert")

-- the ending of the file that holds the blocks of a sample alone
abbrev pub blocks_endings : Kind → List (List ℕ)
blocks_endings Brr = []
blocks_endings Spu = codes ".vag" ∷ []
blocks_endings Ima = codes ".wav" ∷ []

-- the endings of the files of a sample, in store order: its blocks where they have a file, its first pass, and its certificate
abbrev pub stored_endings : Kind → List (List ℕ)
stored_endings kind = blocks_endings kind ++ codes ".first.wav" ∷ codes ".cert" ∷ []

-- the file that holds the blocks of all samples
abbrev pub image_names : Kind → List ℕ → List (List ℕ)
image_names Brr bank = bank ∷ []
image_names Spu bank = []
image_names Ima bank = []

-- all files of a bank, in store order: the image, and then those of each sample; nothing that its compilation reads may have one of these names
unfoldable pub stored_names : Kind → List ℕ → List SampleEntry → List (List ℕ)
stored_names kind bank samples = image_names kind bank ++ flat_map (λ s. map (joined bank s.name) (stored_endings kind)) samples
