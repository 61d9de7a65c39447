-- A stored list is a track of its blocks.
use Rattle.std.proofs.Common.{◌≡◌, ℕ, ◌+◌, ◌-◌, ◌*◌, ◌/◌, ◌<◌, inl, inr, Bool, true, false, if◌then◌else◌, refl, sym, ap, ◌∙◌, subst, arith}
use Rattle.std.specs.Prelude.{◌==◌, Option, Some, None, is_some}
use Rattle.std.proofs.Math.Nat.{mul-div_cancel_left}
use Rattle.std.proofs.lemmas.Bool.{cases_Bool, false≢true, eq-eqb, ne_eqb}
use Rattle.machine_core.specs.Decoder.{Decoder}
use Rattle.machine_core.specs.Blocks.{Blocks, IsInRange}
use Rattle.block_flags.specs.Flags.{flags_of_block, tells_end, tells_start, has_end, has_repeat, has_start}
use Rattle.block_flags.specs.Last.{last_where}
use Rattle.block_flags.proofs.FlagLaws.{ends_is, repeats_is, starts_is, never_starts}
use Rattle.block_flags.proofs.LastLaws.{last_of_none, last_is}
use Rattle.player_model.specs.Format.{Format}
use Rattle.player_model.specs.FormatLaws.{IsStoredFormat}
use Rattle.player_model.specs.Track.{Track, repeats_at, starts_at, set_to, is_block, end_register, loop_block_of}
use Rattle.player_model.specs.Looped.{IsStoredAt}
use Rattle.player_model.specs.Sound.{IsTrack}
use Rattle.player_model.proofs.Keeping.{Keeps}
use Rattle.player_model.proofs.Moving.{gap-is, block-is}
use Rattle.player_model.proofs.StoredBytes.{symbol-of, stored-spelled, stored-fits}

-- a list of blocks, and the track that it has to be
pub record IsStoredList (d : Decoder) (f : Format) (t : Track) (list : Blocks) (loop_block : Option ℕ) : Type 0 where
  pub laws : IsStoredFormat d f
  pub tells : tells_end f.kind ≡ true
  pub range : IsInRange d t.blocks list
  pub stored : IsStoredAt d f t.memory t.start t.again list t.blocks loop_block

-- its blocks are kept
pub stored-keeps : (d : Decoder) (f : Format) (t : Track) (list : Blocks) (loop_block : Option ℕ) → IsStoredFormat d f → IsInRange d t.blocks list
    → IsStoredAt d f t.memory t.start t.again list t.blocks loop_block → Keeps d f t list
stored-keeps d f t list loop_block laws range stored b h =
    let spelled = stored-spelled d f t.memory t.start list t.blocks loop_block b laws range stored.bytes h in
    record {
      head = laws.head_kept _ _ _ _ _ spelled;
      symbols = λ p within. laws.symbols_kept _ _ _ _ _ spelled p within ∙ symbol-of d list b p within;
    }

-- with the flags that were written
flags-at : (d : Decoder) (f : Format) (t : Track) (list : Blocks) (loop_block : Option ℕ) (b : ℕ) → IsStoredList d f t list loop_block → b < t.blocks
    → f.flags_in t.memory (t.start + f.size * b) ≡ flags_of_block f.kind b t.blocks loop_block
flags-at d f t list loop_block b s h = s.laws.flags_kept _ _ _ _ _ (stored-spelled d f t.memory t.start list t.blocks loop_block b s.laws s.range s.stored.bytes h)

-- the end block repeats where there is a loop
pub repeats-stored : (d : Decoder) (f : Format) (t : Track) (list : Blocks) (loop_block : Option ℕ) → IsStoredList d f t list loop_block
    → repeats_at f t.memory t.start (t.blocks - 1) ≡ is_some loop_block
repeats-stored d f t list loop_block s =
    let some = s.stored.some in
    ap has_repeat (flags-at d f t list loop_block (t.blocks - 1) s (omega arith)) ∙ repeats_is f.kind (t.blocks - 1) t.blocks loop_block s.tells (omega arith)

-- where blocks tell where the loop begins, the loop block is the last that does
pub last-marked : (d : Decoder) (f : Format) (t : Track) (list : Blocks) (l : ℕ) → IsStoredList d f t list (Some l) → tells_start f.kind ≡ true
    → last_where (starts_at f t.memory t.start) t.blocks ≡ Some l
last-marked d f t list l s marks =
    let mark : (b : ℕ) → b < t.blocks → starts_at f t.memory t.start b ≡ (b == l) =
    λ b h. ap (has_start f.kind) (flags-at d f t list (Some l) b s h) ∙ starts_is f.kind b t.blocks l marks in
    let within : l < t.blocks = s.stored.loop_within in
    last_is (starts_at f t.memory t.start) t.blocks l within (mark l within ∙ eq-eqb l l refl) (λ k after h. mark k h ∙ ne_eqb k l (omega arith))

-- so the repeat register comes to the loop block: by its start flag, or since it was there from the start
register-marked : (d : Decoder) (f : Format) (t : Track) (list : Blocks) (l : ℕ) → IsStoredList d f t list (Some l) → tells_start f.kind ≡ true
    → end_register f t ≡ t.start + f.size * l
register-marked d f t list l s marks = ap (set_to f t.start t.again) (last-marked d f t list l s marks)

register-told : (d : Decoder) (f : Format) (t : Track) (list : Blocks) (l : ℕ) → IsStoredList d f t list (Some l) → tells_start f.kind ≡ false
    → end_register f t ≡ t.start + f.size * l
register-told d f t list l s told =
    let there : t.again ≡ t.start + f.size * l = s.stored.again_is told in
    ap (set_to f t.start t.again) (last_of_none (starts_at f t.memory t.start) t.blocks (λ k h. never_starts f.kind _ told)) ∙ there

pub register-stored : (d : Decoder) (f : Format) (t : Track) (list : Blocks) (l : ℕ) → IsStoredList d f t list (Some l) → end_register f t ≡ t.start + f.size * l
register-stored d f t list l s = elim (cases_Bool (tells_start f.kind)) [
  | inl marks ↦ register-marked d f t list l s marks
  | inr told ↦ register-told d f t list l s told
]

returns-stored : (d : Decoder) (f : Format) (t : Track) (list : Blocks) (loop_block : Option ℕ) → IsStoredList d f t list loop_block
    → is_some loop_block ≡ true → is_block f t.start t.blocks (end_register f t) ≡ true
returns-stored d f t list None s some = absurd (false≢true some)
returns-stored d f t list (Some l) s some = block-is f t.start t.blocks (end_register f t) l s.laws.some_bytes (register-stored d f t list l s) s.stored.loop_within

-- so the bytes are a track
pub stored-track : (d : Decoder) (f : Format) (t : Track) (list : Blocks) (loop_block : Option ℕ) → IsStoredList d f t list loop_block → IsTrack d f t
stored-track d f t list loop_block s =
    let keeps = stored-keeps d f t list loop_block s.laws s.range s.stored in
    record {
      some = s.stored.some;
      fits = stored-fits d f t.memory t.start list t.blocks loop_block s.laws s.range s.stored.some s.stored.bytes;
      heads_fit = λ b h. subst (λ (x : ℕ). x < d.heads) (sym (keeps b h).head) (s.range.heads_fit b h);
      ends = λ b h. ap has_end (flags-at d f t list loop_block b s h) ∙ ends_is f.kind b t.blocks loop_block s.tells;
      returns = λ repeats. returns-stored d f t list loop_block s (sym (repeats-stored d f t list loop_block s) ∙ repeats);
    }

-- with the list's loop block
pub stored-loop : (d : Decoder) (f : Format) (t : Track) (list : Blocks) (loop_block : Option ℕ) → IsStoredList d f t list loop_block → loop_block_of f t ≡ loop_block
stored-loop d f t list None s =
    ap (λ (b : Bool). if b then Some ((end_register f t - t.start) / f.size) else None) (repeats-stored d f t list None s)
stored-loop d f t list (Some l) s =
    let gap = gap-is (end_register f t) t.start f.size l (register-stored d f t list l s) in
    let block : (end_register f t - t.start) / f.size ≡ l = ap (λ x. x / f.size) gap ∙ mul-div_cancel_left l s.laws.some_bytes in
    ap (λ (b : Bool). if b then Some ((end_register f t - t.start) / f.size) else None) (repeats-stored d f t list (Some l) s) ∙ ap (λ (n : ℕ). Some n) block
