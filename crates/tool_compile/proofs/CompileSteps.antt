-- The command `compile`, over plain variables.
use Rattle.std.proofs.Common.{◌≡◌, ℕ, List, subst, Ok}
use Rattle.host_files.specs.Outside.{World, Files}
use Rattle.host_files.specs.declared.named_file.NamedFile.{NamedFile}
use Rattle.manifest_reader.specs.Meaning.{Content}
use Rattle.command_faults.specs.declared.status.Status.{Status}
use Rattle.command_plan.specs.Read.{as_reading, written_under}
use Rattle.command_plan.specs.Steps.{HasRead, Comes, writing}
use Rattle.command_plan.specs.Promise.{Reaches}
use Rattle.command_plan.proofs.Promised.{then_reaches, written}
use Rattle.tool_files.specs.declared.source.Source.{Source}
use Rattle.tool_files.specs.Sources.{manifest_read, sources_read}
use Rattle.tool_compile.specs.Compile.{bank_names, IsBank, bank_course, MayStore}

-- the sources were read, and their bank stored
pub stored_bank : (files : Files) (name : List ℕ) (m : Content) (sources : List Source) (writes kept : List NamedFile) (line said : List ℕ) (a n b : World) (s : Status) → kept ≡ writes → said ≡ line → (manifest_read files name).gives ≡ Ok m
    → HasRead (as_reading (sources_read files m)) a n → (sources_read files m).gives ≡ Ok sources → IsBank m sources writes line → Comes (writing kept said) n b s → Reaches (as_reading (bank_course files m)) (MayStore files name) a b s
stored_bank files name m sources writes kept line said a n b s k l meaning h e bank r =
    then_reaches (sources_read files m) (λ ss. written_under (bank_names m)) sources (MayStore files name) a n b s e h
    (written (MayStore files name) (bank_names m) writes line n b s (record { content = m; meaning = meaning; sources = sources; read = e; bank = bank }) bank.names
    (subst (λ (ws : List NamedFile). Comes (writing ws line) n b s) k (subst (λ (x : List ℕ). Comes (writing kept x) n b s) l r)))
