-- Entries, one after another.
use Rattle.std.proofs.Common.{◌≡◌, ℕ, zero, suc, ◌+◌, ◌<◌, List, [], ◌∷◌, ◌++◌, Result, Ok, Err, refl, sym, ap, ◌∙◌, arith, add-one, inl, inr}
use Rattle.std.proofs.lemmas.Bool.{cases_lt}
use Rattle.snes_directory.specs.declared.fault.ImageFault.{ImageFault}
use Rattle.snes_directory.specs.declared.entry.Entry.{Entry}
use Rattle.snes_directory.specs.declared.entry_lists.EntryLists.{EntryLists}
use Rattle.snes_directory.specs.Entry.{entry_of}
use Rattle.snes_directory.specs.Reading.{no_entries, with_entry, entries_of}

abbrev lists : List ℕ → List ℕ → List ℕ → EntryLists
lists rates starts agains = record { rates = rates; starts = starts; agains = agains }

abbrev done : EntryLists → Result EntryLists ImageFault
done entries = Ok entries

same_lists : (rates starts agains r s a : List ℕ) → rates ≡ r → starts ≡ s → agains ≡ a → done (lists r s a) ≡ done (lists rates starts agains)
same_lists rates starts agains r s a p q t = rw (p, q, t) refl

-- none so far
pub entries_begin : (bytes : List ℕ) (base : ℕ) (memory rates starts agains : List ℕ) → rates ≡ [] → starts ≡ [] → agains ≡ []
    → entries_of bytes base memory 0 ≡ Ok (record { rates = rates; starts = starts; agains = agains })
unfolding entries_of
entries_begin bytes base memory rates starts agains p q t = same_lists rates starts agains [] [] [] p q t

-- the first 0 entries are none
pub entries_of-zero : (bytes : List ℕ) (base : ℕ) (memory : List ℕ) → entries_of bytes base memory 0 ≡ Ok no_entries
unfolding entries_of
entries_of-zero bytes base memory = refl

-- and the first n + 1 are one more than the first n
pub entries_of-suc : (bytes : List ℕ) (base : ℕ) (memory : List ℕ) (n : ℕ) (before : EntryLists) (entry : Entry) → entries_of bytes base memory n ≡ Ok before → entry_of bytes base memory n ≡ Ok entry
    → entries_of bytes base memory (suc n) ≡ Ok (with_entry before entry)
unfolding entries_of
entries_of-suc bytes base memory n before entry so_far here = rw (so_far, here) refl

-- one entry more
pub entries_more : (bytes : List ℕ) (base : ℕ) (memory : List ℕ) (n : ℕ) (before : EntryLists) (entry : Entry) (rates starts agains : List ℕ)
    → entries_of bytes base memory n ≡ Ok before → entry_of bytes base memory n ≡ Ok entry
    → rates ≡ before.rates ++ entry.rate ∷ [] → starts ≡ before.starts ++ entry.start ∷ [] → agains ≡ before.agains ++ entry.again ∷ []
    → entries_of bytes base memory (n + 1) ≡ Ok (record { rates = rates; starts = starts; agains = agains })
entries_more bytes base memory n before entry rates starts agains so_far here p q t =
    ap (entries_of bytes base memory) (add-one n) ∙ (entries_of-suc bytes base memory n before entry so_far here
    ∙ same_lists rates starts agains (before.rates ++ entry.rate ∷ []) (before.starts ++ entry.start ∷ []) (before.agains ++ entry.again ∷ []) p q t)

fault_at : (bytes : List ℕ) (base : ℕ) (memory : List ℕ) (n : ℕ) (before : EntryLists) (fault : ImageFault) → entries_of bytes base memory n ≡ Ok before → entry_of bytes base memory n ≡ Err fault
    → entries_of bytes base memory (suc n) ≡ Err fault
unfolding entries_of
fault_at bytes base memory n before fault so_far here = rw (so_far, here) refl

fault_stays : (bytes : List ℕ) (base : ℕ) (memory : List ℕ) (n : ℕ) (fault : ImageFault) → entries_of bytes base memory n ≡ Err fault → entries_of bytes base memory (suc n) ≡ Err fault
unfolding entries_of
fault_stays bytes base memory n fault so_far = rw so_far refl

-- the first fault of an entry is that of all
pub entries_stop : (bytes : List ℕ) (base : ℕ) (memory : List ℕ) (count n : ℕ) (before : EntryLists) (fault : ImageFault) → n < count
    → entries_of bytes base memory n ≡ Ok before → entry_of bytes base memory n ≡ Err fault → entries_of bytes base memory count ≡ Err fault
entries_stop bytes base memory zero n before fault less so_far here = absurd (omega arith)
entries_stop bytes base memory (suc count) n before fault less so_far here =
    elim (cases_lt n count) [
      | inl below ↦ fault_stays bytes base memory count fault (entries_stop bytes base memory count n before fault below so_far here)
      | inr above ↦ (let same : n ≡ count = omega arith in ap (λ m. entries_of bytes base memory (suc m)) (sym same) ∙ fault_at bytes base memory n before fault so_far here)
    ]
