-- A `&` to a claim holds nothing. Assumes `Logic`.
use denote.RattleType.{RattleType}
use denote.RawPtr.{RawPtr}
use denote.Param.Laws.{Laws}
use denote.Param.Shared.{copy_shared}
use denote.SharingLaws.{nothing_shr_laws}
use denote.Struct.Laws.{field_copy}
use denote.Struct.Lending.{of_Lends, Lends-nothing}
use Rattle.core.specs.declared.alloc.Allocator.{Ghosts}
use Rattle.core.specs.contracts.marker.PhantomData as marker
use Rattle.page_pool.specs.contracts.memory.Claim as C
use Rattle.page_pool.proofs.memory.Claim.TheLaw.Statement.{statement}

pub shares : (T A : RattleType) (g : Ghosts A.Denot) (L : Laws T) (P : Laws A) → statement T A g L P
shares T A g L P =
    of_Lends (C.struct T A g) (C.the_codes T.Denot A.Denot T.coded A.coded (marker.the_row RawPtr).coded) (C.the_heap T A g) (C.the_lent T A g) (λ c p. nothing_shr_laws)
    (copy_shared (marker.the_field RawPtr) (field_copy (marker.the_type RawPtr) tt), tt) (λ M 𝓤 𝓛 c p. Lends-nothing 𝓛 (C.the_heap T A g c) (C.the_row T A g).lives)
