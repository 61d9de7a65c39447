-- What is known of bytes that split.
use Rattle.std.proofs.Common.{◌≡◌, ℕ, suc, ◌-◌, ◌*◌, ◌/◌, ◌%◌, ◌<◌, ◌≤◌, Bool, true, false, if◌then◌else◌, List, length, refl, sym, ap, ◌∙◌, arith}
use Rattle.std.specs.Prelude.{◌==◌, Option, Some, None, Result, Ok, Err}
use Rattle.std.proofs.Math.Nat.{mul-le-mul_left, div-add-mod}
use Rattle.adpcm_nums.specs.First.{first_where}
use Rattle.adpcm_nums.proofs.FirstLaws.{first_where-is, first_alone}
use Rattle.adpcm_nums.proofs.OutcomeLaws.{went_on}
use Rattle.machine_core.specs.declared.state.Kind.{Kind}
use Rattle.block_flags.specs.declared.split.Split.{Split}
use Rattle.block_flags.specs.declared.split.SplitFault.{SplitFault}
use Rattle.block_flags.specs.declared.split.SplitFault.TheVariants.{Ragged}
use Rattle.block_flags.specs.Flags.{tells_start, has_repeat}
use Rattle.block_flags.specs.Last.{last_where}
use Rattle.block_flags.specs.Split.{block_bytes, flag_byte, ends_at, starts_at, started, loop_start_of, split_with, closed_split, split_at, split_of}

-- the last of the split's blocks alone ends, and where it repeats the loop block is the last that starts a loop
pub record IsSplit (kind : Kind) (bytes : List ℕ) (split : Split) : Type 0 where
  pub last : ℕ
  pub blocks_are : split.blocks ≡ suc last
  pub within : block_bytes kind * suc last ≤ length bytes
  pub ends : (b : ℕ) → b < suc last → ends_at kind bytes b ≡ (suc b == suc last)
  pub once : has_repeat (flag_byte kind bytes last) ≡ false → split.loop_block ≡ None
  pub looped : has_repeat (flag_byte kind bytes last) ≡ true → tells_start kind ≡ true
      → (l : ℕ) × (split.loop_block ≡ Some l) × (last_where (starts_at kind bytes) (suc last) ≡ Some l)

-- where a choice is Ok, its test held
not-ragged : (b : Bool) (len : ℕ) (r : Result Split SplitFault) (s : Split) → (if b then r else Err (Ragged len)) ≡ Ok s → r ≡ Ok s
not-ragged true len r s h = h
not-ragged false len r s h = absurd (cc)

started-is : (kind : Kind) (last : ℕ) (o x : Option ℕ) → started kind last o ≡ Ok x → (l : ℕ) × (x ≡ Some l) × (o ≡ Some l)
started-is kind last None x h = absurd (cc)
started-is kind last (Some l) x h = let same : Some l ≡ x = cc in (l, sym same, refl)

none_of : (x : Option ℕ) (r : Result (Option ℕ) SplitFault) (b : Bool) → (if b then r else Ok None) ≡ Ok x → b ≡ false → x ≡ None
none_of x r true h e = absurd (cc)
none_of x r false h e = let same : None ≡ x = cc in sym same

start-told : (x : Option ℕ) (r : Result (Option ℕ) SplitFault) (b : Bool) → (if b then r else Ok None) ≡ Ok x → b ≡ true → r ≡ Ok x
start-told x r true h e = h
start-told x r false h e = absurd (cc)

split-parts : (kind : Kind) (bytes : List ℕ) (last : ℕ) (x : Option ℕ) (s : Split) → split_with kind bytes last x ≡ Ok s → (s.blocks ≡ suc last) × (s.loop_block ≡ x)
split-parts kind bytes last x s h =
    let whole : Split = record { blocks = suc last; looped = has_repeat (flag_byte kind bytes last); loop_block = x; trailing = length bytes - block_bytes kind * suc last } in
    let same : whole ≡ s = cc in
    (sym (ap (λ (t : Split). t.blocks) same), sym (ap (λ (t : Split). t.loop_block) same))

room : (size len last : ℕ) → last < len / size → size * suc last ≤ len
room size len last h = let rows : size * suc last ≤ size * (len / size) = mul-le-mul_left size h in omega (arith, rows, div-add-mod len size)

closed-is : (kind : Kind) (bytes : List ℕ) (last : ℕ) (s : Split) → first_where (ends_at kind bytes) (length bytes / block_bytes kind) ≡ Some last
    → closed_split kind bytes last ≡ Ok s → IsSplit kind bytes s
closed-is kind bytes last s end h =
    let first = first_where-is (ends_at kind bytes) (length bytes / block_bytes kind) last end in
    let repeats = has_repeat (flag_byte kind bytes last) in
    let start = loop_start_of kind bytes last in
    let told = went_on (if repeats then start else Ok None) (split_with kind bytes last) s h in
    let parts = split-parts kind bytes last told.0 s told.2 in
    record {
      last = last;
      blocks_are = parts.0;
      within = room (block_bytes kind) (length bytes) last first.within;
      ends = first_alone (ends_at kind bytes) (length bytes / block_bytes kind) last first;
      once = λ no. parts.1 ∙ none_of told.0 start repeats told.1 no;
      looped = λ again tells.
          let found = start-told told.0 start repeats told.1 again in
          let here : started kind last (last_where (starts_at kind bytes) (suc last)) ≡ start = rw tells refl in
          let set = started-is kind last (last_where (starts_at kind bytes) (suc last)) told.0 (here ∙ found) in
          (set.0, parts.1 ∙ set.1, set.2);
    }

at-end : (kind : Kind) (bytes : List ℕ) (s : Split) (o : Option ℕ) → first_where (ends_at kind bytes) (length bytes / block_bytes kind) ≡ o
    → split_at kind bytes o ≡ Ok s → IsSplit kind bytes s
at-end kind bytes s None end h = absurd (cc)
at-end kind bytes s (Some last) end h = closed-is kind bytes last s end h

-- what bytes split to is so
pub split_of-is : (kind : Kind) (bytes : List ℕ) (s : Split) → split_of kind bytes ≡ Ok s → IsSplit kind bytes s
unfolding split_of
split_of-is kind bytes s h =
    let o = first_where (ends_at kind bytes) (length bytes / block_bytes kind) in
    at-end kind bytes s o refl (not-ragged (length bytes % block_bytes kind == 0) (length bytes) (split_at kind bytes o) s h)
