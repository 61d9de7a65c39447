-- What is stored for the samples of a bank: an image of all, or a file of each, and the list of blocks that it spells.
use Rattle.std.specs.Prelude.{◌≡◌, ⊤, ℕ, List, [], ◌∷◌, length, Result, Ok}
use Rattle.host_files.specs.Outside.{Files}
use Rattle.machine_core.specs.declared.state.Kind.{Kind}
use Rattle.machine_core.specs.declared.state.Kind.TheVariants.{Brr, Spu, Ima}
use Rattle.machine_core.specs.Blocks.{Blocks, IsLegal}
use Rattle.manifest_reader.specs.Meaning.{Content}
use Rattle.manifest_reader.specs.Stored.{vag_name_of, ima_name_of}
use Rattle.snes_directory.specs.declared.image.Image.{Image}
use Rattle.bank_kinds.specs.Fits.{error_of}
use Rattle.bank_check.specs.Stored.{bank_image, image_list, vag_list, ima_list}
use Rattle.command_faults.specs.declared.status.Status.TheVariants.{Input}
use Rattle.command_faults.specs.declared.status.HostCall.{HostCall}
use Rattle.command_faults.specs.declared.status.HostCall.TheVariants.{Fetch}
use Rattle.command_faults.specs.declared.input_fault.InputFault.{InputFault}
use Rattle.command_plan.specs.Read.{Read, given, fetched_for}
use Rattle.tool_files.specs.declared.source.Source.{Source}
use Rattle.command_plan.specs.Front.{front_in, or_told}
use Rattle.loop_fit.specs.declared.fitted.Fitted.{Fitted}
use Rattle.snes_directory.specs.Reading.{IsImage}
use Rattle.bank_kinds.specs.Codec.{Codec, fixed_in}

-- a bank in files of its own has no image
abbrev pub no_image : Image
no_image = record { base = 0; rates = []; memory = []; starts = []; agains = [] }

-- the image of a bank, where its format has one
abbrev pub image_by : Kind → Files → Content → Read Image
image_by Brr files m = fetched_for m.bank (or_told (λ f. Input m.bank f) (bank_image (length m.samples) (front_in files m.bank 8388608)))
image_by Spu files m = given (Ok no_image)
image_by Ima files m = given (Ok no_image)

-- the list that is stored for sample j: in the image, or in a file of its own
abbrev pub stored_by : Kind → Files → Content → Image → ℕ → Source → Result Blocks InputFault
stored_by Brr files m image j s = image_list image j s.fitted
stored_by Spu files m image j s = vag_list s.fitted (front_in files (vag_name_of m.bank s.name) 8388608)
stored_by Ima files m image j s = ima_list m.block s.fitted (front_in files (ima_name_of m.bank s.name) 8388608)

-- that file
abbrev pub own_calls : Kind → Content → Source → List HostCall
own_calls Brr m s = []
own_calls Spu m s = Fetch (vag_name_of m.bank s.name) ∷ []
own_calls Ima m s = Fetch (ima_name_of m.bank s.name) ∷ []

abbrev pub stored_read : Files → Content → Image → ℕ → Source → Read Blocks
stored_read files m image j s = record { calls = own_calls m.kind m s; gives = or_told (λ f. Input s.name f) (stored_by m.kind files m image j s) }

-- an image has this many entries, where the format of the bank has one
abbrev pub HasEntries : Kind → ℕ → Image → Type 0
HasEntries Brr count image = IsImage image × (length image.starts ≡ count)
HasEntries Spu count image = ⊤
HasEntries Ima count image = ⊤

-- some legal list has this error
pub record IsSomeError (c : Codec) (fitted : Fitted) (error : ℕ) : Type 0 where
  pub list : Blocks
  pub legal : IsLegal c.rules.decoder fitted.blocks (fixed_in c fitted) list
  pub error_is : error ≡ error_of c fitted list
