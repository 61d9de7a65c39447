-- The segments of a certificate that is read have the blocks of the shape, and a level that a certificate may have.
use Rattle.std.proofs.Common.{◌≡◌, ℕ, zero, suc, ◌+◌, List, [], ◌∷◌, length, ap, sym, ◌∙◌, subst, refl, true, false, Bool, nat_lt, not, cond, arith}
use Rattle.std.specs.Prelude.{Result, Ok, Err, ◌&&◌, ◌==◌, slice_index, None}
use Rattle.std.specs.Bool.{⊤}
use Rattle.std.proofs.lemmas.Bool.Decides.{nat_tests}
use Rattle.machine_core.specs.declared.state.Kind.{Kind}
use Rattle.bound_cert.specs.declared.fault.CertFault.{CertFault}
use Rattle.bound_cert.specs.Content.{Layer, Segment}
use Rattle.bound_cert.specs.Places.{u16_at, u32_at, segment_end}
use Rattle.bound_cert.specs.Ranges.{is_level_byte}
use Rattle.bound_cert.specs.Grammar.{layers_of, front_of, segment_of, segments_of, file_of, read_of, limits_of}
use Rattle.bound_cert.proofs.Whole.{bind-ok, guard}

ok-same : {A : Type 0} (x y : A) → ◌≡◌ {A = Result A CertFault} (Ok x) (Ok y) → x ≡ y
ok-same x y h = cc

not-false : (a : Bool) → not a ≡ false → a ≡ true
not-false true h = refl
not-false false h = cc

no-count : (a b : ℕ) → ((a == 255) && not (b == 0)) ≡ false → a ≡ 255 → b ≡ 0
no-count a b h e = grind (arith, nat_tests)

-- a level, and no layers where it is that of a segment without cells
record IsFront (bytes : List ℕ) (at level : ℕ) : Type 0 where
  fits : is_level_byte level ≡ true
  floor_only : level ≡ 255 → u32_at bytes (at + 12) ≡ 0

is-front : (blocks : ℕ) (bytes : List ℕ) (at level : ℕ) → front_of blocks bytes at ≡ Ok level → IsFront bytes at level
unfolding front_of
is-front blocks bytes at level h =
    let byte = slice_index bytes (at + 2) in
    let a = guard (nat_lt (length bytes) (at + 2)) _ _ level h in
    let b = guard (not (u16_at bytes at == blocks)) _ _ level a.1 in
    let c = guard (nat_lt (length bytes) (at + 3)) _ _ level b.1 in
    let d = guard (not (is_level_byte byte)) _ _ level c.1 in
    let e = guard (nat_lt (length bytes) (at + 4)) _ _ level d.1 in
    let f = guard (not (slice_index bytes (at + 3) == 0)) _ _ level e.1 in
    let g = guard (nat_lt (length bytes) (at + 12)) _ _ level f.1 in
    let i = guard (nat_lt (length bytes) (at + 16)) _ _ level g.1 in
    let j = guard ((byte == 255) && not (u32_at bytes (at + 12) == 0)) _ _ level i.1 in
    let same : byte ≡ level = ok-same _ _ j.1 in
    record { fits = subst (λ (k : ℕ). is_level_byte k ≡ true) same (not-false _ d.0); floor_only = λ e. no-count _ _ j.0 (same ∙ e) }

-- a segment of so many blocks, at a level that a certificate may have
pub record IsRead (blocks : ℕ) (s : Segment) : Type 0 where
  pub blocks_are : s.blocks ≡ blocks
  pub level : is_level_byte s.level ≡ true
  pub floor_only : s.level ≡ 255 → length s.layers ≡ 0

no-layers : (kind : Kind) (samples blocks level : ℕ) (bytes : List ℕ) (at count : ℕ) (layers : List Layer) → layers_of (limits_of kind samples blocks level) bytes at count None ≡ Ok layers → count ≡ 0
    → length layers ≡ 0
unfolding layers_of
no-layers kind samples blocks level bytes at zero layers h none = ap (λ (xs : List Layer). length xs) (sym (ok-same [] layers h))
no-layers kind samples blocks level bytes at (suc n) layers h none = absurd (omega arith)

is-read : (kind : Kind) (samples blocks : ℕ) (bytes : List ℕ) (at : ℕ) (s : Segment) → segment_of kind samples blocks bytes at ≡ Ok s → IsRead blocks s
unfolding segment_of
is-read kind samples blocks bytes at s h =
    let front = bind-ok (front_of blocks bytes at) _ s h in
    let level = front.0 in
    let rest = bind-ok (layers_of (limits_of kind samples blocks level) bytes (at + 16) (u32_at bytes (at + 12)) None) _ s front.2 in
    let f = is-front blocks bytes at level front.1 in
    subst (IsRead blocks) (ok-same _ _ rest.2)
    (record { blocks_are = refl; level = f.fits; floor_only = λ e. no-layers kind samples blocks level bytes (at + 16) (u32_at bytes (at + 12)) rest.0 rest.1 (f.floor_only e) })

-- a segment for each number of blocks
abbrev pub AreRead : List ℕ → List Segment → Type 0
AreRead [] [] = ⊤
AreRead [] (s ∷ ss) = ⊥
AreRead (count ∷ counts) [] = ⊥
AreRead (count ∷ counts) (s ∷ ss) = IsRead count s × AreRead counts ss

none-left : (past : Bool) (fault : CertFault) (ss : List Segment) → cond past (Err fault) (Ok []) ≡ Ok ss → AreRead [] ss
none-left past fault [] h = tt
none-left true fault (s ∷ ss) h = absurd (cc)
none-left false fault (s ∷ ss) h = absurd (cc)

are-read : (kind : Kind) (samples : ℕ) (counts bytes : List ℕ) (at : ℕ) (ss : List Segment) → segments_of kind samples counts bytes at ≡ Ok ss → AreRead counts ss
unfolding segments_of
are-read kind samples [] bytes at ss h = none-left (nat_lt at (length bytes)) _ ss h
are-read kind samples (count ∷ counts) bytes at ss h =
    let first = bind-ok (segment_of kind samples count bytes at) _ ss h in
    let later = bind-ok (segments_of kind samples counts bytes (segment_end bytes at)) _ ss first.2 in
    subst (AreRead (count ∷ counts)) (ok-same _ _ later.2) (is-read kind samples count bytes at first.0 first.1, are-read kind samples counts bytes (segment_end bytes at) later.0 later.1)

pub read-segments : (kind : Kind) (samples : ℕ) (counts bytes : List ℕ) (ss : List Segment) → read_of kind samples counts bytes ≡ Ok ss → AreRead counts ss
unfolding read_of
read-segments kind samples counts bytes ss h = let rest = bind-ok (file_of kind (length counts) bytes) _ ss h in are-read kind samples counts bytes 8 ss rest.2
