-- What was written is read again.
use Rattle.std.proofs.Common.{div-le_self, ◌≡◌, ℕ, suc, ◌+◌, ◌*◌, ◌/◌, ◌^◌, ◌<◌, ◌≤◌, List, [], ◌∷◌, ◌++◌, length, drop, arith, refl, ap, sym, ◌∙◌, ℤ, pos, negsuc, true, false, Bool, nat_lt, not, Some, None, Option}
use Rattle.std.specs.Prelude.{Result, Ok, ◌&&◌, ◌||◌, ◌==◌, slice_index, take, codes, map, ◌≤ℤ◌}
use Rattle.std.specs.List.{flat_map}
use Rattle.std.specs.Str.{bytes_eq}
use Rattle.std.specs.Int.{w16, cast_unsigned}
use Rattle.std.proofs.lemmas.Int.{ints}
use Rattle.std.proofs.lemmas.List.{append_assoc, length-append, length-drop, length-map}
use Rattle.std.proofs.lemmas.Bool.Decides.{nat_tests}
use Rattle.byteorder.specs.Endian.{little_bytes}
use Rattle.byteorder.specs.Numbers.{length-bytes_low_first}
use Rattle.machine_core.specs.declared.boxes.Cell.{Cell}
use Rattle.box_layers.specs.declared.cell_value.CellValue.{CellValue}
use Rattle.box_layers.specs.declared.key.Key.{Key}
use Rattle.machine_core.specs.declared.state.Kind.{Kind}
use Rattle.machine_core.specs.declared.state.Kind.TheVariants.{Brr, Spu, Ima}
use Rattle.bound_cert.specs.declared.shape.Limits.{Limits}
use Rattle.bound_cert.specs.declared.fault.CertFault.{CertFault}
use Rattle.box_layers.specs.Cells.{IsAscending}
use Rattle.bound_cert.specs.Content.{Layer, Segment, Plain, AreSorted}
use Rattle.bound_cert.specs.Places.{u16_at, i16_at, u32_at, u64_at, cell_at, key_at, count_at, layer_end, layers_end, segment_end}
use Rattle.bound_cert.specs.Ranges.{cell_fits, key_fits, cell_follows, key_follows, is_level_byte, around, b_fits, reach_of, width_of, lane_fits, kind_number}
use Rattle.bound_cert.specs.Grammar.{◌>>=◌, cell_of, cells_of, head_of, layers_of, front_of, segment_of, segments_of, file_of, read_of, limits_of}
use Rattle.bound_cert.specs.Good.{CellsFit, LayersFit, AfterLast, BelowLast}
use Rattle.bound_cert.specs.Spelling.{cell_bytes, key_bytes, layer_bytes, front_bytes, segment_bytes, cert_bytes, IsWritable, AreWritable, placed, blocks_of}
use Rattle.std.proofs.lemmas.Bool.{cond-false}
use Rattle.bound_cert.proofs.FieldLaws.{field, little-field, u16-is, i16-is, u32-is, u64-is, byte-is}

lt-false : (a b : ℕ) → b ≤ a → nat_lt a b ≡ false
lt-false a b h = grind (arith, nat_tests)

lt-true : (a b : ℕ) → a < b → nat_lt a b ≡ true
lt-true a b h = grind (arith, nat_tests)

not-and : (a b : Bool) → a ≡ true → b ≡ true → not (a && b) ≡ false
not-and a b p q = rw (p, q) refl

not-true : (a : Bool) → a ≡ true → not a ≡ false
not-true a p = rw p refl

and-true : (a b : Bool) → (a && b) ≡ true → (a ≡ true) × (b ≡ true)
and-true true b h = (refl, h)
and-true false b h = cc

cell-make : (limits : Limits) (bytes : List ℕ) (at : ℕ) (last : Option Cell) (c : Cell) → cell_at bytes at ≡ c → at + 12 ≤ length bytes → cell_fits limits.kind limits.level c ≡ true
    → u64_at bytes (at + 4) < 1152921504606846976 → cell_follows last c ≡ true → cell_of limits bytes at last ≡ Ok c
unfolding cell_of
cell-make limits bytes at last c e w r s f =
    let r' = ap (cell_fits limits.kind limits.level) e ∙ r in
    let f' = ap (cell_follows last) e ∙ f in
    cond-false (nat_lt (length bytes) (at + 2)) _ _ (lt-false _ _ (omega arith))
    ∙ (cond-false (nat_lt (length bytes) (at + 4)) _ _ (lt-false _ _ (omega arith))
    ∙ (cond-false (nat_lt (length bytes) (at + 12)) _ _ (lt-false _ _ w)
    ∙ (cond-false (not (cell_fits limits.kind limits.level (cell_at bytes at) && nat_lt (u64_at bytes (at + 4)) 1152921504606846976)) _ _ (not-and _ _ r' (lt-true _ _ s))
    ∙ (cond-false (not (cell_follows last (cell_at bytes at))) _ _ (not-true _ f')
    ∙ ap (λ (z : Cell). Ok z) e))))

pub record IsShort (x : ℤ) : Type 0 where
  pub low : negsuc 32767 ≤ℤ x
  pub high : x ≤ℤ pos 32767

around-short : (n : ℕ) (x : ℤ) → n ≤ 32768 → around n x ≡ true → IsShort x
around-short n x h e = record { low = grind (arith, ints); high = grind (arith, ints) }

index-short : (x : ℤ) → b_fits Ima 0 x ≡ true → IsShort x
index-short x e = record { low = grind (arith, ints); high = grind (arith, ints) }

reach-small : (kind : Kind) → reach_of kind ≤ 32768
reach-small Brr = omega arith
reach-small Spu = omega arith
reach-small Ima = omega arith

over-small : (n w : ℕ) → n ≤ 32768 → n / w ≤ 32768
over-small n w h = let d = div-le_self n w in omega arith

b-short : (kind : Kind) (level : ℕ) (b : ℤ) → b_fits kind level b ≡ true → IsShort b
b-short Brr level b h = around-short (16384 / width_of level) b (over-small 16384 (width_of level) (omega arith)) h
b-short Spu level b h = around-short (32768 / width_of level) b (over-small 32768 (width_of level) (omega arith)) h
b-short Ima level b h = index-short b h

pub cell-short : (kind : Kind) (level : ℕ) (c : Cell) → cell_fits kind level c ≡ true → IsShort c.a × IsShort c.b
unfolding cell_fits
cell-short kind level c h =
    let p = and-true _ _ h in
    (around-short (reach_of kind / width_of level) c.a (over-small (reach_of kind) (width_of level) (reach-small kind)) p.0, b-short kind level c.b p.1)

move : (bytes rest : List ℕ) (a b : ℕ) → a ≡ b → drop a bytes ≡ rest → drop b bytes ≡ rest
move bytes rest a b e d = ap (λ z. drop z bytes) (sym e) ∙ d

record CellBack (limits : Limits) (x : CellValue) (bytes rest : List ℕ) (at : ℕ) (last : Option Cell) : Type 0 where
  read : cell_of limits bytes at last ≡ Ok x.cell
  value : u64_at bytes (at + 4) ≡ x.value
  next : drop (at + 12) bytes ≡ rest

cell-back : (limits : Limits) (x : CellValue) (bytes rest : List ℕ) (at : ℕ) (last : Option Cell) → cell_fits limits.kind limits.level x.cell ≡ true → x.value < 1152921504606846976
    → cell_follows last x.cell ≡ true → drop at bytes ≡ cell_bytes x ++ rest → CellBack limits x bytes rest at last
unfolding cell_bytes
cell-back limits x bytes rest at last fits small follows d =
    let a = little_bytes 2 (cast_unsigned w16 x.cell.a) in
    let b = little_bytes 2 (cast_unsigned w16 x.cell.b) in
    let v = little_bytes 8 x.value in
    let short = cell-short limits.kind limits.level x.cell fits in
    let d1 : drop at bytes ≡ a ++ ((b ++ v) ++ rest) = d ∙ append_assoc a (b ++ v) rest in
    let f1 = little-field bytes ((b ++ v) ++ rest) at 2 (cast_unsigned w16 x.cell.a) (omega arith) d1 in
    let d2 : drop (at + 2) bytes ≡ b ++ (v ++ rest) = f1.next ∙ append_assoc b v rest in
    let f2 = little-field bytes (v ++ rest) (at + 2) 2 (cast_unsigned w16 x.cell.b) (omega arith) d2 in
    let d3 : drop (at + 4) bytes ≡ v ++ rest = move bytes (v ++ rest) (at + 2 + 2) (at + 4) (omega arith) f2.next in
    let f3 = little-field bytes rest (at + 4) 8 x.value (omega arith) d3 in
    let va = i16-is bytes ((b ++ v) ++ rest) at x.cell.a short.0.low short.0.high d1 in
    let vb = i16-is bytes (v ++ rest) (at + 2) x.cell.b short.1.low short.1.high d2 in
    let vv = u64-is bytes rest (at + 4) x.value (omega arith) d3 in
    let mk : ℤ → ℤ → Cell = λ a b. record { a = a; b = b } in
    let w = f3.within in
    record {
      read = cell-make limits bytes at last x.cell (ap (λ z. mk z (i16_at bytes (at + 2))) va ∙ ap (mk x.cell.a) vb) (omega arith) fits (omega arith) follows;
      value = vv;
      next = move bytes rest (at + 4 + 8) (at + 12) (omega arith) f3.next;
    }

cell-follows : (last : Option Cell) (x : CellValue) (xs : List CellValue) → AfterLast last (x ∷ xs) → cell_follows last x.cell ≡ true
cell-follows None x xs h = refl
cell-follows (Some l) x xs h = h.0

record CellsBack (limits : Limits) (cells : List CellValue) (bytes rest : List ℕ) (at : ℕ) (last : Option Cell) : Type 0 where
  read : cells_of limits bytes at (length cells) last ≡ Ok cells
  next : drop (at + 12 * length cells) bytes ≡ rest

cells-back : (limits : Limits) (cells : List CellValue) (bytes rest : List ℕ) (at : ℕ) (last : Option Cell) → CellsFit limits cells → IsAscending cells → AfterLast last cells
    → drop at bytes ≡ flat_map cell_bytes cells ++ rest → CellsBack limits cells bytes rest at last
unfolding cells_of
cells-back limits [] bytes rest at last fit asc after d = record { read = refl; next = move bytes rest at (at + 12 * 0) (omega arith) d }
cells-back limits (x ∷ xs) bytes rest at last fit asc after d =
    let c = cell-back limits x bytes (flat_map cell_bytes xs ++ rest) at last fit.0 fit.1 (cell-follows last x xs after) (d ∙ append_assoc (cell_bytes x) (flat_map cell_bytes xs) rest) in
    let i = cells-back limits xs bytes rest (at + 12) (Some x.cell) fit.2 asc.1 asc.0 c.next in
    record {
      read = ap (λ (z : Result Cell CertFault). z >>= λ cell. (cells_of limits bytes (at + 12) (length xs) (Some cell) >>= λ more. Ok (record { cell = cell; value = u64_at bytes (at + 4) } ∷ more))) c.read
          ∙ (ap (λ (z : Result (List CellValue) CertFault). z >>= λ more. Ok (record { cell = x.cell; value = u64_at bytes (at + 4) } ∷ more)) i.read
          ∙ ap (λ z. Ok (record { cell = x.cell; value = z } ∷ xs)) c.value);
      next = move bytes rest (at + 12 + 12 * length xs) (at + 12 * suc (length xs)) (omega arith) i.next;
    }

not-or : (a b : Bool) → a ≡ true → b ≡ false → (not a || b) ≡ false
not-or a b p q = rw (p, q) refl

count-some : (n : ℕ) → 0 < n → (n == 0) ≡ false
count-some n h = grind (arith, nat_tests)

head-make : (limits : Limits) (bytes : List ℕ) (at : ℕ) (last : Option Key) (k : Key) → key_at bytes at ≡ k → at + 10 ≤ length bytes → key_fits limits k ≡ true
    → 0 < count_at bytes at → key_follows last k ≡ true → head_of limits bytes at last ≡ Ok k
unfolding head_of
head-make limits bytes at last k e w r s f =
    let r' = ap (key_fits limits) e ∙ r in
    let f' = ap (key_follows last) e ∙ f in
    cond-false (nat_lt (length bytes) (at + 2)) _ _ (lt-false _ _ (omega arith))
    ∙ (cond-false (nat_lt (length bytes) (at + 4)) _ _ (lt-false _ _ (omega arith))
    ∙ (cond-false (nat_lt (length bytes) (at + 6)) _ _ (lt-false _ _ (omega arith))
    ∙ (cond-false (nat_lt (length bytes) (at + 10)) _ _ (lt-false _ _ w)
    ∙ (cond-false (not (key_fits limits (key_at bytes at)) || (count_at bytes at == 0)) _ _ (not-or _ _ r' (count-some _ s))
    ∙ (cond-false (not (key_follows last (key_at bytes at))) _ _ (not-true _ f')
    ∙ ap (λ (z : Key). Ok z) e)))))

pub record IsSmallKey (k : Key) : Type 0 where
  pub block : k.block < 65536
  pub place : k.place < 65536
  pub lane : k.lane < 65536

brr-lane : (place lane : ℕ) → lane_fits Brr place lane ≡ true → lane < 65536
brr-lane place lane h = grind (arith, nat_tests)

spu-lane : (place lane : ℕ) → lane_fits Spu place lane ≡ true → lane < 65536
spu-lane place lane h = grind (arith, nat_tests)

ima-lane : (place lane : ℕ) → lane_fits Ima place lane ≡ true → lane < 65536
ima-lane place lane h = grind (arith, nat_tests)

lane-small : (kind : Kind) (place lane : ℕ) → lane_fits kind place lane ≡ true → lane < 65536
lane-small Brr place lane h = brr-lane place lane h
lane-small Spu place lane h = spu-lane place lane h
lane-small Ima place lane h = ima-lane place lane h

lt-is : (a b : ℕ) → nat_lt a b ≡ true → a < b
lt-is a b h = grind (arith, nat_tests)

pub key-small : (limits : Limits) (k : Key) → limits.blocks ≤ 65536 → limits.samples ≤ 65536 → key_fits limits k ≡ true → IsSmallKey k
unfolding key_fits
key-small limits k b s h =
    let p = and-true (nat_lt k.block limits.blocks && nat_lt k.place limits.samples) (lane_fits limits.kind k.place k.lane) h in
    let q = and-true (nat_lt k.block limits.blocks) (nat_lt k.place limits.samples) p.0 in
    let x = lt-is _ _ q.0 in let y = lt-is _ _ q.1 in
    record { block = omega arith; place = omega arith; lane = lane-small limits.kind k.place k.lane p.1 }

record KeyBack (k : Key) (bytes rest : List ℕ) (at : ℕ) : Type 0 where
  is : key_at bytes at ≡ k
  within : at + 6 ≤ length bytes
  next : drop (at + 6) bytes ≡ rest

key-back : (k : Key) (bytes rest : List ℕ) (at : ℕ) → IsSmallKey k → drop at bytes ≡ key_bytes k ++ rest → KeyBack k bytes rest at
unfolding key_bytes
key-back k bytes rest at small d =
    let b = little_bytes 2 k.block in
    let p = little_bytes 2 k.place in
    let l = little_bytes 2 k.lane in
    let d1 : drop at bytes ≡ b ++ ((p ++ l) ++ rest) = d ∙ append_assoc b (p ++ l) rest in
    let f1 = little-field bytes ((p ++ l) ++ rest) at 2 k.block (omega arith) d1 in
    let d2 : drop (at + 2) bytes ≡ p ++ (l ++ rest) = f1.next ∙ append_assoc p l rest in
    let f2 = little-field bytes (l ++ rest) (at + 2) 2 k.place (omega arith) d2 in
    let d3 : drop (at + 4) bytes ≡ l ++ rest = move bytes (l ++ rest) (at + 2 + 2) (at + 4) (omega arith) f2.next in
    let f3 = little-field bytes rest (at + 4) 2 k.lane (omega arith) d3 in
    let x = u16-is bytes ((p ++ l) ++ rest) at k.block small.block d1 in
    let y = u16-is bytes (l ++ rest) (at + 2) k.place small.place d2 in
    let z = u16-is bytes rest (at + 4) k.lane small.lane d3 in
    let mk : ℕ → ℕ → ℕ → Key = λ x y z. record { block = x; place = y; lane = z } in
    let w = f3.within in
    record {
      is = ap (λ a. mk a (u16_at bytes (at + 2)) (u16_at bytes (at + 4))) x ∙ (ap (λ a. mk k.block a (u16_at bytes (at + 4))) y ∙ ap (mk k.block k.place) z);
      within = omega arith;
      next = move bytes rest (at + 4 + 2) (at + 6) (omega arith) f3.next;
    }

length-cell : (x : CellValue) → length (cell_bytes x) ≡ 12
unfolding cell_bytes
length-cell x = refl

length-cells-text : (cells : List CellValue) → length (flat_map cell_bytes cells) ≡ 12 * length cells
length-cells-text [] = refl
length-cells-text (x ∷ xs) =
    let a = length-append (cell_bytes x) (flat_map cell_bytes xs) in let b = length-cell x in let c = length-cells-text xs in omega arith

length-key : (k : Key) → length (key_bytes k) ≡ 6
unfolding key_bytes
length-key k = refl

length-layer : (x : Layer) → length (layer_bytes x) ≡ 10 + 12 * length x.cells
unfolding layer_bytes
length-layer x =
    let a = length-append (key_bytes x.key) (little_bytes 4 (length x.cells) ++ flat_map cell_bytes x.cells) in
    let b = length-append (little_bytes 4 (length x.cells)) (flat_map cell_bytes x.cells) in
    let c = length-bytes_low_first 0 4 (length x.cells) in
    let k = length-key x.key in
    let d = length-cells-text x.cells in
    omega arith

key-follows : (last : Option Key) (x : Layer) (xs : List Layer) → BelowLast last (x ∷ xs) → key_follows last x.key ≡ true
key-follows None x xs h = refl
key-follows (Some l) x xs h = h.0

record LayerBack (limits : Limits) (x : Layer) (bytes rest : List ℕ) (at : ℕ) (last : Option Key) : Type 0 where
  head : head_of limits bytes at last ≡ Ok x.key
  count : count_at bytes at ≡ length x.cells
  cells : cells_of limits bytes (at + 10) (length x.cells) None ≡ Ok x.cells
  end : layer_end bytes at ≡ at + length (layer_bytes x)
  next : drop (layer_end bytes at) bytes ≡ rest

layer-back : (limits : Limits) (x : Layer) (bytes rest : List ℕ) (at : ℕ) (last : Option Key) → limits.blocks ≤ 65536 → limits.samples ≤ 65536
    → key_fits limits x.key ≡ true → length x.cells < 2 ^ 32 → CellsFit limits x.cells → 0 < length x.cells → IsAscending x.cells → key_follows last x.key ≡ true
    → drop at bytes ≡ layer_bytes x ++ rest → LayerBack limits x bytes rest at last
unfolding layer_bytes
layer-back limits x bytes rest at last b s fits few cells some asc follows d =
    let n = little_bytes 4 (length x.cells) in
    let t = flat_map cell_bytes x.cells in
    let k = key-back x.key bytes ((n ++ t) ++ rest) at (key-small limits x.key b s fits) (d ∙ append_assoc (key_bytes x.key) (n ++ t) rest) in
    let d2 : drop (at + 6) bytes ≡ n ++ (t ++ rest) = k.next ∙ append_assoc n t rest in
    let f = little-field bytes (t ++ rest) (at + 6) 4 (length x.cells) (omega arith) d2 in
    let c : count_at bytes at ≡ length x.cells = u32-is bytes (t ++ rest) (at + 6) (length x.cells) few d2 in
    let d3 : drop (at + 10) bytes ≡ t ++ rest = move bytes (t ++ rest) (at + 6 + 4) (at + 10) (omega arith) f.next in
    let cb = cells-back limits x.cells bytes rest (at + 10) None cells asc tt d3 in
    let w = f.within in
    let e : layer_end bytes at ≡ at + 10 + 12 * length x.cells = ap (λ z. at + 10 + 12 * z) c in
    let l = length-layer x in
    record {
      head = head-make limits bytes at last x.key k.is (omega arith) fits (omega arith) follows;
      count = c;
      cells = cb.read;
      end = omega arith;
      next = move bytes rest (at + 10 + 12 * length x.cells) (layer_end bytes at) (sym e) cb.next;
    }

record LayersBack (limits : Limits) (layers : List Layer) (bytes rest : List ℕ) (at : ℕ) (last : Option Key) : Type 0 where
  read : layers_of limits bytes at (length layers) last ≡ Ok layers
  end : layers_end bytes at (length layers) ≡ at + length (flat_map layer_bytes layers)
  next : drop (layers_end bytes at (length layers)) bytes ≡ rest

layers-back : (limits : Limits) (layers : List Layer) (bytes rest : List ℕ) (at : ℕ) (last : Option Key) → limits.blocks ≤ 65536 → limits.samples ≤ 65536
    → LayersFit limits layers → AreSorted layers → BelowLast last layers → drop at bytes ≡ flat_map layer_bytes layers ++ rest → LayersBack limits layers bytes rest at last
unfolding layers_of
layers-back limits [] bytes rest at last b s fit sorted after d = record { read = refl; end = omega arith; next = d }
layers-back limits (x ∷ xs) bytes rest at last b s fit sorted after d =
    let l = layer-back limits x bytes (flat_map layer_bytes xs ++ rest) at last b s fit.0 fit.1 fit.2 sorted.0 sorted.1 (key-follows last x xs after)
    (d ∙ append_assoc (layer_bytes x) (flat_map layer_bytes xs) rest) in
    let i = layers-back limits xs bytes rest (layer_end bytes at) (Some x.key) b s fit.3 sorted.3 sorted.2 l.next in
    let a = length-append (layer_bytes x) (flat_map layer_bytes xs) in
    let e = i.end in let f = l.end in
    record {
      read = ap (λ (z : Result Key CertFault). z >>= λ key. (cells_of limits bytes (at + 10) (count_at bytes at) None >>= λ cells. (layers_of limits bytes (layer_end bytes at) (length xs) (Some key) >>= λ more. Ok (record { key = key; cells = cells } ∷ more)))) l.head
          ∙ (ap (λ (z : Result (List CellValue) CertFault). z >>= λ cells. (layers_of limits bytes (layer_end bytes at) (length xs) (Some x.key) >>= λ more. Ok (record { key = x.key; cells = cells } ∷ more))) (ap (λ z. cells_of limits bytes (at + 10) z None) l.count ∙ l.cells)
          ∙ ap (λ (z : Result (List Layer) CertFault). z >>= λ more. Ok (x ∷ more)) i.read);
      end = e ∙ (ap (λ z. z + length (flat_map layer_bytes xs)) f ∙ omega arith);
      next = i.next;
    }

eq-true : (a b : ℕ) → a ≡ b → (a == b) ≡ true
eq-true a b h = grind (arith, nat_tests)

not-all : (a b : ℕ) → (a ≡ 255 → b ≡ 0) → ((a == 255) && not (b == 0)) ≡ false
not-all a b h = grind (arith, nat_tests)

front-make : (blocks : ℕ) (bytes : List ℕ) (at level : ℕ) → u16_at bytes at ≡ blocks → slice_index bytes (at + 2) ≡ level → is_level_byte level ≡ true → slice_index bytes (at + 3) ≡ 0
    → at + 16 ≤ length bytes → (level ≡ 255 → u32_at bytes (at + 12) ≡ 0) → front_of blocks bytes at ≡ Ok level
unfolding front_of
front-make blocks bytes at level b l r z w f =
    cond-false (nat_lt (length bytes) (at + 2)) _ _ (lt-false _ _ (omega arith))
    ∙ (cond-false (not (u16_at bytes at == blocks)) _ _ (not-true _ (eq-true _ _ b))
    ∙ (cond-false (nat_lt (length bytes) (at + 3)) _ _ (lt-false _ _ (omega arith))
    ∙ (cond-false (not (is_level_byte (slice_index bytes (at + 2)))) _ _ (not-true _ (ap is_level_byte l ∙ r))
    ∙ (cond-false (nat_lt (length bytes) (at + 4)) _ _ (lt-false _ _ (omega arith))
    ∙ (cond-false (not (slice_index bytes (at + 3) == 0)) _ _ (not-true _ (eq-true _ _ z))
    ∙ (cond-false (nat_lt (length bytes) (at + 12)) _ _ (lt-false _ _ (omega arith))
    ∙ (cond-false (nat_lt (length bytes) (at + 16)) _ _ (lt-false _ _ w)
    ∙ (cond-false ((slice_index bytes (at + 2) == 255) && not (u32_at bytes (at + 12) == 0)) _ _ (not-all _ _ (λ e. f (sym l ∙ e)))
    ∙ ap (λ z. Ok z) l))))))))

length-segment : (s : Plain) → length (segment_bytes s) ≡ 16 + length (flat_map layer_bytes s.layers)
unfolding segment_bytes front_bytes
length-segment s = omega arith

both-false : (a b : Bool) → a ≡ false → b ≡ false → (a || b) ≡ false
both-false a b p q = rw (p, q) refl

record SegmentBack (kind : Kind) (samples : ℕ) (s : Plain) (bytes rest : List ℕ) (at : ℕ) : Type 0 where
  read : segment_of kind samples s.blocks bytes at ≡ Ok (record { at = at + 16; blocks = s.blocks; level = s.level; bound = s.bound; layers = s.layers })
  end : segment_end bytes at ≡ at + length (segment_bytes s)
  next : drop (segment_end bytes at) bytes ≡ rest

segment-back : (kind : Kind) (samples : ℕ) (s : Plain) (bytes rest : List ℕ) (at : ℕ) → samples ≤ 65536 → IsWritable kind samples s → drop at bytes ≡ segment_bytes s ++ rest → SegmentBack kind samples s bytes rest at
unfolding segment_bytes front_bytes segment_of
segment-back kind samples s bytes rest at few w d =
    let b = little_bytes 2 s.blocks in
    let two : List ℕ = s.level ∷ 0 ∷ [] in
    let o = little_bytes 8 s.bound in
    let n = little_bytes 4 (length s.layers) in
    let t = flat_map layer_bytes s.layers in
    let limits = limits_of kind samples s.blocks s.level in
    let r = t ++ rest in
    let d0 : drop at bytes ≡ (b ++ (two ++ (o ++ n))) ++ r = d ∙ append_assoc (b ++ (two ++ (o ++ n))) t rest in
    let d1 : drop at bytes ≡ b ++ ((two ++ (o ++ n)) ++ r) = d0 ∙ append_assoc b (two ++ (o ++ n)) r in
    let f1 = little-field bytes ((two ++ (o ++ n)) ++ r) at 2 s.blocks (omega arith) d1 in
    let d2 : drop (at + 2) bytes ≡ two ++ ((o ++ n) ++ r) = f1.next ∙ append_assoc two (o ++ n) r in
    let f2 = field bytes two ((o ++ n) ++ r) (at + 2) 2 refl (omega arith) d2 in
    let f2' = field bytes (s.level ∷ []) (0 ∷ ((o ++ n) ++ r)) (at + 2) 1 refl (omega arith) d2 in
    let d2' : drop (at + 3) bytes ≡ 0 ∷ ((o ++ n) ++ r) = move bytes (0 ∷ ((o ++ n) ++ r)) (at + 2 + 1) (at + 3) (omega arith) f2'.next in
    let d3 : drop (at + 4) bytes ≡ o ++ (n ++ r) = move bytes ((o ++ n) ++ r) (at + 2 + 2) (at + 4) (omega arith) f2.next ∙ append_assoc o n r in
    let f3 = little-field bytes (n ++ r) (at + 4) 8 s.bound (omega arith) d3 in
    let d4 : drop (at + 12) bytes ≡ n ++ r = move bytes (n ++ r) (at + 4 + 8) (at + 12) (omega arith) f3.next in
    let f4 = little-field bytes r (at + 12) 4 (length s.layers) (omega arith) d4 in
    let d5 : drop (at + 16) bytes ≡ t ++ rest = move bytes (t ++ rest) (at + 12 + 4) (at + 16) (omega arith) f4.next in
    let c : u32_at bytes (at + 12) ≡ length s.layers = u32-is bytes (t ++ rest) (at + 12) (length s.layers) w.count d4 in
    let v : u64_at bytes (at + 4) ≡ s.bound = u64-is bytes (n ++ r) (at + 4) s.bound w.bound d3 in
    let blocks_fit : s.blocks ≤ 65536 = (let q = w.blocks in omega arith) in
    let l = layers-back limits s.layers bytes rest (at + 16) None blocks_fit few w.fit w.sorted tt d5 in
    let within : at + 16 ≤ length bytes = (let q = f4.within in omega arith) in
    let front = front-make s.blocks bytes at s.level (u16-is bytes _ at s.blocks w.blocks d1) (byte-is bytes _ (at + 2) s.level d2) w.level (byte-is bytes _ (at + 3) 0 d2') within
    (λ e. c ∙ w.floor_only e) in
    let end : segment_end bytes at ≡ layers_end bytes (at + 16) (length s.layers) = ap (layers_end bytes (at + 16)) c in
    let mk : ℕ → Segment = λ z. record { at = at + 16; blocks = s.blocks; level = s.level; bound = z; layers = s.layers } in
    let len = length-segment s in
    let e = l.end in
    record {
      read = ap (λ (z : Result ℕ CertFault). z >>= λ level. (layers_of (limits_of kind samples s.blocks level) bytes (at + 16) (u32_at bytes (at + 12)) None >>= λ layers. Ok (record { at = at + 16; blocks = s.blocks; level = level; bound = u64_at bytes (at + 4); layers = layers }))) front
          ∙ (ap (λ (z : Result (List Layer) CertFault). z >>= λ layers. Ok (record { at = at + 16; blocks = s.blocks; level = s.level; bound = u64_at bytes (at + 4); layers = layers })) (ap (λ z. layers_of limits bytes (at + 16) z None) c ∙ l.read)
          ∙ ap (λ z. Ok (mk z)) v);
      end = end ∙ (e ∙ omega arith);
      next = move bytes rest (layers_end bytes (at + 16) (length s.layers)) (segment_end bytes at) (sym end) l.next;
    }

record SegmentsBack (kind : Kind) (samples : ℕ) (segments : List Plain) (bytes : List ℕ) (at : ℕ) : Type 0 where
  read : segments_of kind samples (map blocks_of segments) bytes at ≡ Ok (placed at segments)

nothing-left : (bytes : List ℕ) (at : ℕ) → drop at bytes ≡ [] → length bytes ≤ at
nothing-left bytes at d = let l = ap length d in let a = length-drop at bytes in omega arith

segments-back : (kind : Kind) (samples : ℕ) (segments : List Plain) (bytes : List ℕ) (at : ℕ) → samples ≤ 65536 → AreWritable kind samples segments → drop at bytes ≡ flat_map segment_bytes segments → SegmentsBack kind samples segments bytes at
unfolding segments_of
segments-back kind samples [] bytes at few w d = record { read = cond-false (nat_lt at (length bytes)) _ _ (lt-false _ _ (nothing-left bytes at d)) }
segments-back kind samples (s ∷ ss) bytes at few w d =
    let b = segment-back kind samples s bytes (flat_map segment_bytes ss) at few w.0 d in
    let i = segments-back kind samples ss bytes (segment_end bytes at) few w.1 b.next in
    let x : Segment = record { at = at + 16; blocks = s.blocks; level = s.level; bound = s.bound; layers = s.layers } in
    record {
      read = ap (λ (z : Result Segment CertFault). z >>= λ segment. (segments_of kind samples (map blocks_of ss) bytes (segment_end bytes at) >>= λ more. Ok (segment ∷ more))) b.read
          ∙ (ap (λ (z : Result (List Segment) CertFault). z >>= λ more. Ok (x ∷ more)) i.read
          ∙ ap (λ z. Ok (x ∷ placed z ss)) b.end);
    }

file-make : (kind : Kind) (count : ℕ) (bytes : List ℕ) → 8 ≤ length bytes → bytes_eq (take 4 bytes) (codes "ADBC") ≡ true → slice_index bytes 4 ≡ 1 → slice_index bytes 5 ≡ kind_number kind → u16_at bytes 6 ≡ count
    → file_of kind count bytes ≡ Ok count
unfolding file_of
file-make kind count bytes w m v k n =
    cond-false (nat_lt (length bytes) 4 || not (bytes_eq (take 4 bytes) (codes "ADBC"))) _ _ (both-false _ _ (lt-false _ _ (omega arith)) (not-true _ m))
    ∙ (cond-false (nat_lt (length bytes) 5) _ _ (lt-false _ _ (omega arith))
    ∙ (cond-false (not (slice_index bytes 4 == 1)) _ _ (not-true _ (eq-true _ _ v))
    ∙ (cond-false (nat_lt (length bytes) 6) _ _ (lt-false _ _ (omega arith))
    ∙ (cond-false (not (slice_index bytes 5 == kind_number kind)) _ _ (not-true _ (eq-true _ _ k))
    ∙ (cond-false (nat_lt (length bytes) 8) _ _ (lt-false _ _ (omega arith))
    ∙ cond-false (not (u16_at bytes 6 == count)) _ _ (not-true _ (eq-true _ _ n)))))))

-- what was written is read again
pub read-back : (kind : Kind) (samples : ℕ) (segments : List Plain) → samples ≤ 65536 → length segments < 65536 → AreWritable kind samples segments
    → read_of kind samples (map blocks_of segments) (cert_bytes kind segments) ≡ Ok (placed 8 segments)
unfolding read_of cert_bytes
read-back kind samples segments few count w =
    let bytes = cert_bytes kind segments in
    let magic = codes "ADBC" in
    let two : List ℕ = 1 ∷ kind_number kind ∷ [] in
    let n = little_bytes 2 (length segments) in
    let t = flat_map segment_bytes segments in
    let d0 : drop 0 bytes ≡ magic ++ (two ++ (n ++ t)) = refl in
    let f0 = field bytes magic (two ++ (n ++ t)) 0 4 refl (omega arith) d0 in
    let d1 : drop 4 bytes ≡ two ++ (n ++ t) = f0.next in
    let d1' : drop 5 bytes ≡ kind_number kind ∷ (n ++ t) = (field bytes (1 ∷ []) (kind_number kind ∷ (n ++ t)) 4 1 refl (omega arith) d1).next in
    let d2 : drop 6 bytes ≡ n ++ t = (field bytes two (n ++ t) 4 2 refl (omega arith) d1).next in
    let f2 = little-field bytes t 6 2 (length segments) (omega arith) d2 in
    let d3 : drop 8 bytes ≡ t = f2.next in
    let lens : length (map blocks_of segments) ≡ length segments = length-map segments blocks_of in
    let file = file-make kind (length (map blocks_of segments)) bytes f2.within refl (byte-is bytes _ 4 1 d1) (byte-is bytes _ 5 (kind_number kind) d1') (u16-is bytes t 6 (length segments) count d2 ∙ sym lens) in
    let i = segments-back kind samples segments bytes 8 few w d3 in
    ap (λ (z : Result ℕ CertFault). z >>= λ count. segments_of kind samples (map blocks_of segments) bytes 8) file ∙ i.read
