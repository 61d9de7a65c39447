-- A `&` to memory reaches its items. Assumes `Logic`.
use mathlib.Core.List.{[], ◌++◌}
use base.Fml.{Incl-trans}
use contract.BorrowLft.{meet_⊑_left}
use denote.RattleType.{RattleType}
use denote.Param.Laws.{Laws}
use denote.Param.Shared.{copy_shared}
use denote.Struct.Field.{RawPtr-field}
use denote.Struct.Laws.{RawPtr-copy}
use denote.Struct.Lending.{of_Lends}
use Rattle.page_pool.specs.contracts.memory.Memory as C
use Rattle.page_pool.proofs.memory.Memory.TheLaw.Statement.{statement}
use Rattle.page_pool.proofs.Lending.{memory_lends_laws, Lends-memory}

pub shares : (R : RattleType) (L : Laws R) → statement R L
shares R L = of_Lends (C.struct R) (C.the_codes R.Denot R.coded) (C.the_heap R) (C.the_lent R)
    (λ m p. memory_lends_laws R L.shr_laws m.start m.items m.left) (copy_shared RawPtr-field RawPtr-copy, tt)
    (λ M 𝓤 𝓛 m p. Lends-memory 𝓛 R L (C.the_row R).lives (Incl-trans (meet_⊑_left (R.lives ++ []) _) (meet_⊑_left R.lives [])) m.start m.items m.left)
