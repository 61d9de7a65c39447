-- What is read without a fault stands in the bytes, in order and in range.
use Rattle.std.proofs.Common.{◌≡◌, ℕ, zero, suc, ◌+◌, ◌*◌, ◌<◌, ◌≤◌, ◌^◌, List, [], ◌∷◌, length, arith, refl, ap, sym, ◌∙◌, subst, Some, None, Option, true, false, Bool, nat_lt, not}
use Rattle.std.specs.Prelude.{Result, Ok, Err, cond, ◌&&◌, ◌||◌, ◌==◌, slice_index, take, codes, map}
use Rattle.std.specs.Str.{bytes_eq}
use Rattle.std.proofs.lemmas.Bool.Decides.{nat_tests}
use Rattle.machine_core.specs.declared.boxes.Cell.{Cell}
use Rattle.box_layers.specs.declared.cell_value.CellValue.{CellValue}
use Rattle.box_layers.specs.declared.key.Key.{Key}
use Rattle.machine_core.specs.declared.state.Kind.{Kind}
use Rattle.bound_cert.specs.declared.shape.Limits.{Limits}
use Rattle.bound_cert.specs.declared.fault.CertFault.{CertFault}
use Rattle.box_layers.specs.Cells.{before, IsAfterAll, IsAscending}
use Rattle.box_layers.specs.Keys.{key_before}
use Rattle.bound_cert.specs.Content.{Layer, Segment, IsBelowAll, AreSorted}
use Rattle.bound_cert.specs.Places.{u16_at, u32_at, u64_at, cell_at, value_at, cells_at, key_at, count_at, layer_at, layer_end, layers_at, layers_end, segment_at, segment_end, segments_at, Fit, Stand, AllStand}
use Rattle.bound_cert.specs.Ranges.{cell_fits, key_fits, cell_follows, key_follows, is_level_byte, kind_number}
use Rattle.bound_cert.specs.Grammar.{◌>>=◌, cell_of, cells_of, head_of, layers_of, front_of, segment_of, segments_of, file_of, read_of, limits_of}
use Rattle.bound_cert.specs.Scan.{cells_scan, layer_scan, layers_scan, segment_scan, segments_scan, read_scan}
use Rattle.bound_cert.specs.Good.{CellsFit, LayersFit, SegmentFits, SegmentsFit, AfterLast, BelowLast, blocks_in}
use Rattle.box_layers.proofs.CellOrder.{lt-trans, key-trans}
use Rattle.bound_cert.proofs.ByNumber.{length-cells}
use Rattle.bound_cert.proofs.PlaceSteps.{length-layers}

pub bind-ok : {A B : Type 0} (r : Result A CertFault) (f : A → Result B CertFault) (y : B) → (r >>= f) ≡ Ok y → (x : A) × (r ≡ Ok x) × (f x ≡ Ok y)
bind-ok (Ok x) f y h = (x, refl, h)
bind-ok (Err e) f y h = absurd (cc)

pub guard : {A : Type 0} (b : Bool) (e : CertFault) (r : Result A CertFault) (x : A) → cond b (Err e) r ≡ Ok x → (b ≡ false) × (r ≡ Ok x)
guard true e r x h = absurd (cc)
guard false e r x h = (refl, h)

ok-same : {A : Type 0} (x y : A) → ◌≡◌ {A = Result A CertFault} (Ok x) (Ok y) → x ≡ y
ok-same x y h = cc

not-false : (a : Bool) → not a ≡ false → a ≡ true
not-false true h = refl
not-false false h = cc

and-true : (a b : Bool) → (a && b) ≡ true → (a ≡ true) × (b ≡ true)
and-true true b h = (refl, h)
and-true false b h = cc

or-false : (a b : Bool) → (a || b) ≡ false → (a ≡ false) × (b ≡ false)
or-false true b h = cc
or-false false b h = (refl, h)

lt-not : (a b : ℕ) → nat_lt a b ≡ false → b ≤ a
lt-not a b h = grind (arith, nat_tests)

lt-is : (a b : ℕ) → nat_lt a b ≡ true → a < b
lt-is a b h = grind (arith, nat_tests)

eq-is : (a b : ℕ) → (a == b) ≡ true → a ≡ b
eq-is a b h = grind (arith, nat_tests)

some-count : (a : ℕ) → (a == 0) ≡ false → 0 < a
some-count a h = grind (arith, nat_tests)

record CellGood (limits : Limits) (bytes : List ℕ) (at : ℕ) (last : Option Cell) (c : Cell) : Type 0 where
  is : cell_at bytes at ≡ c
  within : at + 12 ≤ length bytes
  range : cell_fits limits.kind limits.level (cell_at bytes at) ≡ true
  small : u64_at bytes (at + 4) < 1152921504606846976
  follows : cell_follows last (cell_at bytes at) ≡ true

cell-good : (limits : Limits) (bytes : List ℕ) (at : ℕ) (last : Option Cell) (c : Cell) → cell_of limits bytes at last ≡ Ok c → CellGood limits bytes at last c
unfolding cell_of
cell-good limits bytes at last c h =
    let a = guard (nat_lt (length bytes) (at + 2)) _ _ c h in
    let b = guard (nat_lt (length bytes) (at + 4)) _ _ c a.1 in
    let d = guard (nat_lt (length bytes) (at + 12)) _ _ c b.1 in
    let e = guard (not (cell_fits limits.kind limits.level (cell_at bytes at) && nat_lt (u64_at bytes (at + 4)) 1152921504606846976)) _ _ c d.1 in
    let f = guard (not (cell_follows last (cell_at bytes at))) _ _ c e.1 in
    let r = and-true _ _ (not-false _ e.0) in
    record {
      is = ok-same _ _ f.1;
      within = lt-not _ _ d.0;
      range = r.0;
      small = lt-is _ _ r.1;
      follows = not-false _ f.0;
    }

pub after-more : (l c : Cell) (xs : List CellValue) → before l c ≡ true → IsAfterAll c xs → IsAfterAll l xs
after-more l c [] h a = tt
after-more l c (x ∷ xs) h a = (lt-trans l c x.cell h a.0, after-more l c xs h a.1)

pub record CellsGood (limits : Limits) (bytes : List ℕ) (at n : ℕ) (last : Option Cell) (end : ℕ) : Type 0 where
  pub end_is : end ≡ at + 12 * n
  pub within : end ≤ length bytes
  pub ascending : IsAscending (cells_at bytes at n)
  pub after : AfterLast last (cells_at bytes at n)
  pub range : CellsFit limits (cells_at bytes at n)

after-last : (last : Option Cell) (x : CellValue) (xs : List CellValue) → cell_follows last x.cell ≡ true → IsAfterAll x.cell xs → AfterLast last (x ∷ xs)
after-last None x xs h a = tt
after-last (Some l) x xs h a = (h, after-more l x.cell xs h a)

no-cells : (last : Option Cell) → AfterLast last []
no-cells None = tt
no-cells (Some c) = tt

pub cells-good : (limits : Limits) (bytes : List ℕ) (at n : ℕ) (last : Option Cell) (end : ℕ) → at ≤ length bytes → cells_scan limits bytes at n last ≡ Ok end → CellsGood limits bytes at n last end
unfolding cells_scan
cells-good limits bytes at zero last end p h = let e = ok-same at end h in record { end_is = omega arith; within = omega arith; ascending = tt; after = no-cells last; range = tt }
cells-good limits bytes at (suc n) last end p h =
    let b = bind-ok (cell_of limits bytes at last) _ end h in
    let g = cell-good limits bytes at last b.0 b.1 in
    let i = cells-good limits bytes (at + 12) n (Some b.0) end g.within b.2 in
    let a = subst (λ (z : Cell). IsAfterAll z (cells_at bytes (at + 12) n)) (sym g.is) i.after in
    let e = i.end_is in
    record {
      end_is = omega arith;
      within = i.within;
      ascending = (a, i.ascending);
      after = after-last last (value_at bytes at) (cells_at bytes (at + 12) n) g.follows a;
      range = (g.range, g.small, i.range);
    }

bind-ap : {A B : Type 0} (r : Result A CertFault) (f g : A → Result B CertFault) → ((x : A) → r ≡ Ok x → f x ≡ g x) → (r >>= f) ≡ (r >>= g)
bind-ap (Ok x) f g h = h x refl
bind-ap (Err e) f g h = refl

bind-bind : {A B C : Type 0} (r : Result A CertFault) (f : A → Result B CertFault) (g : B → Result C CertFault) → (r >>= f >>= g) ≡ (r >>= λ x. (f x >>= g))
bind-bind (Ok x) f g = refl
bind-bind (Err e) f g = refl

-- the content of cells
pub cells-is : (limits : Limits) (bytes : List ℕ) (at n : ℕ) (last : Option Cell) → cells_of limits bytes at n last ≡ (cells_scan limits bytes at n last >>= λ _. Ok (cells_at bytes at n))
unfolding cells_of cells_scan
cells-is limits bytes at zero last = refl
cells-is limits bytes at (suc n) last =
    bind-ap (cell_of limits bytes at last) _ _ (λ c h.
    (let g = cell-good limits bytes at last c h in
    ap (λ (z : Result (List CellValue) CertFault). z >>= λ more. Ok (record { cell = c; value = u64_at bytes (at + 4) } ∷ more)) (cells-is limits bytes (at + 12) n (Some c))
    ∙ (bind-bind (cells_scan limits bytes (at + 12) n (Some c)) _ _
    ∙ ap (λ (z : Cell). cells_scan limits bytes (at + 12) n (Some c) >>= λ _. Ok (record { cell = z; value = u64_at bytes (at + 4) } ∷ cells_at bytes (at + 12) n)) (sym g.is))))
    ∙ sym (bind-bind (cell_of limits bytes at last) (λ c. cells_scan limits bytes (at + 12) n (Some c)) (λ _. Ok (cells_at bytes at (suc n))))

record HeadGood (limits : Limits) (bytes : List ℕ) (at : ℕ) (last : Option Key) (k : Key) : Type 0 where
  is : key_at bytes at ≡ k
  within : at + 10 ≤ length bytes
  range : key_fits limits (key_at bytes at) ≡ true
  some : 0 < count_at bytes at
  follows : key_follows last (key_at bytes at) ≡ true

head-good : (limits : Limits) (bytes : List ℕ) (at : ℕ) (last : Option Key) (k : Key) → head_of limits bytes at last ≡ Ok k → HeadGood limits bytes at last k
unfolding head_of
head-good limits bytes at last c h =
    let a = guard (nat_lt (length bytes) (at + 2)) _ _ c h in
    let b = guard (nat_lt (length bytes) (at + 4)) _ _ c a.1 in
    let b' = guard (nat_lt (length bytes) (at + 6)) _ _ c b.1 in
    let d = guard (nat_lt (length bytes) (at + 10)) _ _ c b'.1 in
    let e = guard (not (key_fits limits (key_at bytes at)) || (count_at bytes at == 0)) _ _ c d.1 in
    let f = guard (not (key_follows last (key_at bytes at))) _ _ c e.1 in
    let r = or-false _ _ e.0 in
    record {
      is = ok-same _ _ f.1;
      within = lt-not _ _ d.0;
      range = not-false _ r.0;
      some = some-count _ r.1;
      follows = not-false _ f.0;
    }

below-more : (l k : Key) (xs : List Layer) → key_before l k ≡ true → IsBelowAll k xs → IsBelowAll l xs
below-more l k [] h a = tt
below-more l k (x ∷ xs) h a = (key-trans l k x.key h a.0, below-more l k xs h a.1)

below-last : (last : Option Key) (x : Layer) (xs : List Layer) → key_follows last x.key ≡ true → IsBelowAll x.key xs → BelowLast last (x ∷ xs)
below-last None x xs h a = tt
below-last (Some l) x xs h a = (h, below-more l x.key xs h a)

no-layers : (last : Option Key) → BelowLast last []
no-layers None = tt
no-layers (Some c) = tt

pub record LayersGood (limits : Limits) (bytes : List ℕ) (at n : ℕ) (last : Option Key) (end : ℕ) : Type 0 where
  pub end_is : end ≡ layers_end bytes at n
  pub within : end ≤ length bytes
  pub fit : Fit bytes at n
  pub sorted : AreSorted (layers_at bytes at n)
  pub after : BelowLast last (layers_at bytes at n)
  pub range : LayersFit limits (layers_at bytes at n)

record LayerGood (limits : Limits) (bytes : List ℕ) (at : ℕ) (last : Option Key) (x : Key × ℕ) : Type 0 where
  head : HeadGood limits bytes at last x.0
  cells : CellsGood limits bytes (at + 10) (count_at bytes at) None x.1
  end_is : x.1 ≡ layer_end bytes at

layer-good : (limits : Limits) (bytes : List ℕ) (at : ℕ) (last : Option Key) (x : Key × ℕ) → layer_scan limits bytes at last ≡ Ok x → LayerGood limits bytes at last x
unfolding layer_scan
layer-good limits bytes at last x h =
    let b = bind-ok (head_of limits bytes at last) _ x h in
    let d = bind-ok (cells_scan limits bytes (at + 10) (count_at bytes at) None) _ x b.2 in
    let e = ok-same _ _ d.2 in
    let g = head-good limits bytes at last b.0 b.1 in
    let cg = cells-good limits bytes (at + 10) (count_at bytes at) None d.0 g.within d.1 in
    subst (λ (z : Key × ℕ). LayerGood limits bytes at last z) e (record { head = g; cells = cg; end_is = cg.end_is })

layer-small : (bytes : List ℕ) (at e n : ℕ) → e ≡ at + 10 + 12 * count_at bytes at → e ≤ length bytes → length bytes < 2 ^ 31 → n ≡ count_at bytes at → n < 2 ^ 32
layer-small bytes at e n q w s h = omega arith

pub layers-good : (limits : Limits) (bytes : List ℕ) (at n : ℕ) (last : Option Key) (end : ℕ) → at ≤ length bytes → length bytes < 2 ^ 31 → layers_scan limits bytes at n last ≡ Ok end → LayersGood limits bytes at n last end
unfolding layers_scan
layers-good limits bytes at zero last end p s h = let e = ok-same at end h in record { end_is = omega arith; within = omega arith; fit = p; sorted = tt; after = no-layers last; range = tt }
layers-good limits bytes at (suc n) last end p s h =
    let b = bind-ok (layer_scan limits bytes at last) _ end h in
    let g = layer-good limits bytes at last b.0 b.1 in
    let w : layer_end bytes at ≤ length bytes = subst (λ z. z ≤ length bytes) g.end_is g.cells.within in
    let h' = subst (λ z. layers_scan limits bytes z n (Some b.0.0) ≡ Ok end) g.end_is b.2 in
    let i = layers-good limits bytes (layer_end bytes at) n (Some b.0.0) end w s h' in
    let a = subst (λ (z : Key). IsBelowAll z (layers_at bytes (layer_end bytes at) n)) (sym g.head.is) i.after in
    let len = length-cells bytes (at + 10) (count_at bytes at) in
    let some : 0 < length (layer_at bytes at).cells = (let q = g.head.some in omega arith) in
    record {
      end_is = i.end_is;
      within = i.within;
      fit = (w, i.fit);
      sorted = (some, g.cells.ascending, a, i.sorted);
      after = below-last last (layer_at bytes at) (layers_at bytes (layer_end bytes at) n) g.head.follows a;
      range = (g.head.range, layer-small bytes at b.0.1 _ g.end_is g.cells.within s len, g.cells.range, i.range);
    }

abbrev paired : Key → ℕ → Result (Key × ℕ) CertFault
paired k e = Ok (k, e)

join : (H : Result Key CertFault) (S : Result ℕ CertFault) (R : ℕ → Key → Result ℕ CertFault) (end0 : ℕ) (key0 : Key) (cells : List CellValue) (more : List Layer)
    → ((k : Key) (e : ℕ) → H ≡ Ok k → S ≡ Ok e → (k ≡ key0) × (e ≡ end0))
    → (H >>= λ k. ((S >>= λ _. Ok cells) >>= λ cs. ((R end0 k >>= λ _. Ok more) >>= λ m. Ok (record { key = k; cells = cs } ∷ m))))
    ≡ (((H >>= λ k. (S >>= λ e. paired k e)) >>= λ x. R x.1 x.0) >>= λ _. Ok (record { key = key0; cells = cells } ∷ more))
join (Err e) S R end0 key0 cells more h = refl
join (Ok k) (Err e) R end0 key0 cells more h = refl
join (Ok k) (Ok e) R end0 key0 cells more h =
    let q = h k e refl refl in
    let mk : Key → Layer = λ z. record { key = z; cells = cells } in
    bind-bind (R end0 k) _ _ ∙ (ap (λ z. R z k >>= λ _. Ok (mk k ∷ more)) (sym q.1) ∙ ap (λ (z : Key). R e k >>= λ _. Ok (mk z ∷ more)) q.0)

pub layers-is : (limits : Limits) (bytes : List ℕ) (at n : ℕ) (last : Option Key) → layers_of limits bytes at n last ≡ (layers_scan limits bytes at n last >>= λ _. Ok (layers_at bytes at n))
unfolding layers_of layers_scan layer_scan
layers-is limits bytes at zero last = refl
layers-is limits bytes at (suc n) last =
    bind-ap (head_of limits bytes at last) _ _ (λ k h.
    ap (λ (z : Result (List CellValue) CertFault). z >>= λ cells. (layers_of limits bytes (layer_end bytes at) n (Some k) >>= λ more. Ok (record { key = k; cells = cells } ∷ more))) (cells-is limits bytes (at + 10) (count_at bytes at) None)
    ∙ ap (λ (z : Result (List Layer) CertFault). (cells_scan limits bytes (at + 10) (count_at bytes at) None >>= λ _. Ok (cells_at bytes (at + 10) (count_at bytes at))) >>= λ cells. (z >>= λ more. Ok (record { key = k; cells = cells } ∷ more))) (layers-is limits bytes (layer_end bytes at) n (Some k)))
    ∙ join (head_of limits bytes at last) (cells_scan limits bytes (at + 10) (count_at bytes at) None) (λ e k. layers_scan limits bytes e n (Some k)) (layer_end bytes at) (key_at bytes at) (cells_at bytes (at + 10) (count_at bytes at)) (layers_at bytes (layer_end bytes at) n)
    (λ k e h g. (
    let hg = head-good limits bytes at last k h in
    let cg = cells-good limits bytes (at + 10) (count_at bytes at) None e hg.within g in
    (sym hg.is, cg.end_is)))

only-floor : (a b : ℕ) → ((a == 255) && not (b == 0)) ≡ false → a ≡ 255 → b ≡ 0
only-floor a b h e = grind (arith, nat_tests)

record FrontGood (blocks : ℕ) (bytes : List ℕ) (at level : ℕ) : Type 0 where
  blocks_is : u16_at bytes at ≡ blocks
  level_is : slice_index bytes (at + 2) ≡ level
  within : at + 16 ≤ length bytes
  level_fits : is_level_byte (slice_index bytes (at + 2)) ≡ true
  floor_only : slice_index bytes (at + 2) ≡ 255 → u32_at bytes (at + 12) ≡ 0

front-good : (blocks : ℕ) (bytes : List ℕ) (at level : ℕ) → front_of blocks bytes at ≡ Ok level → FrontGood blocks bytes at level
unfolding front_of
front-good blocks bytes at level h =
    let a = guard (nat_lt (length bytes) (at + 2)) _ _ level h in
    let b = guard (not (u16_at bytes at == blocks)) _ _ level a.1 in
    let c = guard (nat_lt (length bytes) (at + 3)) _ _ level b.1 in
    let d = guard (not (is_level_byte (slice_index bytes (at + 2)))) _ _ level c.1 in
    let e = guard (nat_lt (length bytes) (at + 4)) _ _ level d.1 in
    let f = guard (not (slice_index bytes (at + 3) == 0)) _ _ level e.1 in
    let g = guard (nat_lt (length bytes) (at + 12)) _ _ level f.1 in
    let i = guard (nat_lt (length bytes) (at + 16)) _ _ level g.1 in
    let j = guard ((slice_index bytes (at + 2) == 255) && not (u32_at bytes (at + 12) == 0)) _ _ level i.1 in
    record { blocks_is = eq-is _ _ (not-false _ b.0); level_is = ok-same _ _ j.1; within = lt-not _ _ i.0; level_fits = not-false _ d.0; floor_only = only-floor _ _ j.0 }

pub record SegmentGood (kind : Kind) (samples blocks : ℕ) (bytes : List ℕ) (at end : ℕ) : Type 0 where
  pub head : at + 16 ≤ length bytes
  pub end_is : end ≡ segment_end bytes at
  pub within : end ≤ length bytes
  pub stand : Stand bytes (at + 16) (u32_at bytes (at + 12))
  pub blocks_is : u16_at bytes at ≡ blocks
  pub range : SegmentFits kind samples (segment_at bytes at)

segment-good : (kind : Kind) (samples blocks : ℕ) (bytes : List ℕ) (at end : ℕ) → length bytes < 2 ^ 31 → segment_scan kind samples blocks bytes at ≡ Ok end → SegmentGood kind samples blocks bytes at end
unfolding segment_scan
segment-good kind samples blocks bytes at end s h =
    let b = bind-ok (front_of blocks bytes at) _ end h in
    let f = front-good blocks bytes at b.0 b.1 in
    let g = layers-good (limits_of kind samples blocks b.0) bytes (at + 16) (u32_at bytes (at + 12)) None end f.within s b.2 in
    record {
      head = f.within;
      end_is = g.end_is;
      within = g.within;
      stand = record { fit = g.fit; sorted = g.sorted };
      blocks_is = f.blocks_is;
      range = record {
        level = f.level_fits;
        floor_only = λ e. (length-layers bytes (at + 16) (u32_at bytes (at + 12)) ∙ f.floor_only e);
        layers = subst (λ z. LayersFit (limits_of kind samples z (slice_index bytes (at + 2))) (segment_at bytes at).layers) (sym f.blocks_is)
            (subst (λ z. LayersFit (limits_of kind samples blocks z) (segment_at bytes at).layers) (sym f.level_is) g.range);
        sorted = g.sorted;
      };
    }

segment-is : (kind : Kind) (samples blocks : ℕ) (bytes : List ℕ) (at : ℕ) → segment_of kind samples blocks bytes at ≡ (segment_scan kind samples blocks bytes at >>= λ _. Ok (segment_at bytes at))
unfolding segment_of segment_scan
segment-is kind samples blocks bytes at =
    let mk : ℕ → ℕ → Segment = λ b l. record { at = at + 16; blocks = b; level = l; bound = u64_at bytes (at + 4); layers = layers_at bytes (at + 16) (u32_at bytes (at + 12)) } in
    bind-ap (front_of blocks bytes at) _ _ (λ level h.
    (let f = front-good blocks bytes at level h in
    let limits = limits_of kind samples blocks level in
    ap (λ (z : Result (List Layer) CertFault). z >>= λ layers. Ok (record { at = at + 16; blocks = blocks; level = level; bound = u64_at bytes (at + 4); layers = layers })) (layers-is limits bytes (at + 16) (u32_at bytes (at + 12)) None)
    ∙ (bind-bind (layers_scan limits bytes (at + 16) (u32_at bytes (at + 12)) None) _ _
    ∙ (ap (λ z. layers_scan limits bytes (at + 16) (u32_at bytes (at + 12)) None >>= λ _. Ok (mk z level)) (sym f.blocks_is)
    ∙ ap (λ z. layers_scan limits bytes (at + 16) (u32_at bytes (at + 12)) None >>= λ _. Ok (mk (u16_at bytes at) z)) (sym f.level_is)))))
    ∙ sym (bind-bind (front_of blocks bytes at) (λ level. layers_scan (limits_of kind samples blocks level) bytes (at + 16) (u32_at bytes (at + 12)) None) (λ _. Ok (segment_at bytes at)))

pub segments-good : (kind : Kind) (samples : ℕ) (blocks bytes : List ℕ) (at end : ℕ) → at ≤ length bytes → length bytes < 2 ^ 31 → segments_scan kind samples blocks bytes at ≡ Ok end
    → AllStand bytes at (length blocks) × SegmentsFit kind samples (segments_at bytes at (length blocks)) × (map blocks_in (segments_at bytes at (length blocks)) ≡ blocks)
unfolding segments_scan
segments-good kind samples [] bytes at end p s h = (p, tt, refl)
segments-good kind samples (b ∷ bs) bytes at end p s h =
    let d = bind-ok (segment_scan kind samples b bytes at) _ end h in
    let g = segment-good kind samples b bytes at d.0 s d.1 in
    let w : segment_end bytes at ≤ length bytes = subst (λ z. z ≤ length bytes) g.end_is g.within in
    let i = segments-good kind samples bs bytes (segment_end bytes at) end w s (subst (λ z. segments_scan kind samples bs bytes z ≡ Ok end) g.end_is d.2) in
    ((g.head, g.stand, i.0), (g.range, i.1), ap (λ z. z ∷ map blocks_in (segments_at bytes (segment_end bytes at) (length bs))) g.blocks_is ∙ ap (λ z. b ∷ z) i.2)

join-segments : (S : Result ℕ CertFault) (R : ℕ → Result ℕ CertFault) (end0 : ℕ) (x : Segment) (more : List Segment) → ((e : ℕ) → S ≡ Ok e → e ≡ end0)
    → ((S >>= λ _. Ok x) >>= λ s. ((R end0 >>= λ _. Ok more) >>= λ m. Ok (s ∷ m))) ≡ ((S >>= λ e. R e) >>= λ _. Ok (x ∷ more))
join-segments (Err e) R end0 x more h = refl
join-segments (Ok e) R end0 x more h = bind-bind (R end0) _ _ ∙ ap (λ z. R z >>= λ _. Ok (x ∷ more)) (sym (h e refl))

none-is : (b : Bool) (e : CertFault) (at : ℕ) → ◌≡◌ {A = Result (List Segment) CertFault} (cond b (Err e) (Ok [])) (cond b (Err e) (Ok at) >>= λ _. Ok [])
none-is true e at = refl
none-is false e at = refl

segments-is : (kind : Kind) (samples : ℕ) (blocks bytes : List ℕ) (at : ℕ) → length bytes < 2 ^ 31 → segments_of kind samples blocks bytes at ≡ (segments_scan kind samples blocks bytes at >>= λ _. Ok (segments_at bytes at (length blocks)))
unfolding segments_of segments_scan
segments-is kind samples [] bytes at s = none-is (nat_lt at (length bytes)) _ _
segments-is kind samples (b ∷ bs) bytes at s =
    ap (λ (z : Result Segment CertFault). z >>= λ segment. (segments_of kind samples bs bytes (segment_end bytes at) >>= λ more. Ok (segment ∷ more))) (segment-is kind samples b bytes at)
    ∙ (ap (λ (z : Result (List Segment) CertFault). (segment_scan kind samples b bytes at >>= λ _. Ok (segment_at bytes at)) >>= λ segment. (z >>= λ more. Ok (segment ∷ more))) (segments-is kind samples bs bytes (segment_end bytes at) s)
    ∙ join-segments (segment_scan kind samples b bytes at) (λ e. segments_scan kind samples bs bytes e) (segment_end bytes at) (segment_at bytes at) (segments_at bytes (segment_end bytes at) (length bs))
    (λ e h. (segment-good kind samples b bytes at e s h).end_is))

file-good : (kind : Kind) (count : ℕ) (bytes : List ℕ) (n : ℕ) → file_of kind count bytes ≡ Ok n → 8 ≤ length bytes
unfolding file_of
file-good kind count bytes n h =
    let a = guard (nat_lt (length bytes) 4 || not (bytes_eq (take 4 bytes) (codes "ADBC"))) _ _ n h in
    let b = guard (nat_lt (length bytes) 5) _ _ n a.1 in
    let c = guard (not (slice_index bytes 4 == 1)) _ _ n b.1 in
    let d = guard (nat_lt (length bytes) 6) _ _ n c.1 in
    let e = guard (not (slice_index bytes 5 == kind_number kind)) _ _ n d.1 in
    let f = guard (nat_lt (length bytes) 8) _ _ n e.1 in
    lt-not _ _ f.0

-- what is read is what stands in the bytes, where no fault is found
pub read-is : (kind : Kind) (samples : ℕ) (blocks bytes : List ℕ) → length bytes < 2 ^ 31 → read_of kind samples blocks bytes ≡ (read_scan kind samples blocks bytes >>= λ _. Ok (segments_at bytes 8 (length blocks)))
unfolding read_of read_scan
read-is kind samples blocks bytes s =
    bind-ap (file_of kind (length blocks) bytes) _ _ (λ n h. segments-is kind samples blocks bytes 8 s)
    ∙ sym (bind-bind (file_of kind (length blocks) bytes) (λ n. segments_scan kind samples blocks bytes 8) (λ _. Ok (segments_at bytes 8 (length blocks))))

pub read-good : (kind : Kind) (samples : ℕ) (blocks bytes : List ℕ) (end : ℕ) → length bytes < 2 ^ 31 → read_scan kind samples blocks bytes ≡ Ok end
    → AllStand bytes 8 (length blocks) × SegmentsFit kind samples (segments_at bytes 8 (length blocks)) × (map blocks_in (segments_at bytes 8 (length blocks)) ≡ blocks)
unfolding read_scan
read-good kind samples blocks bytes end s h =
    let b = bind-ok (file_of kind (length blocks) bytes) _ end h in
    segments-good kind samples blocks bytes 8 end (file-good kind (length blocks) bytes b.0 b.1) s b.2

pub read-ok : (kind : Kind) (samples : ℕ) (blocks bytes : List ℕ) (end : ℕ) → length bytes < 2 ^ 31 → Ok end ≡ read_scan kind samples blocks bytes → Ok (segments_at bytes 8 (length blocks)) ≡ read_of kind samples blocks bytes
read-ok kind samples blocks bytes end s h = sym (read-is kind samples blocks bytes s ∙ ap (λ (z : Result ℕ CertFault). z >>= λ _. Ok (segments_at bytes 8 (length blocks))) (sym h))

pub read-err : (kind : Kind) (samples : ℕ) (blocks bytes : List ℕ) (fault : CertFault) → length bytes < 2 ^ 31 → Err fault ≡ read_scan kind samples blocks bytes → Err fault ≡ read_of kind samples blocks bytes
read-err kind samples blocks bytes fault s h = sym (read-is kind samples blocks bytes s ∙ ap (λ (z : Result ℕ CertFault). z >>= λ _. Ok (segments_at bytes 8 (length blocks))) (sym h))
