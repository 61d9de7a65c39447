-- What a linear decoder gives is a path of the layers that stand for it.
use Rattle.std.proofs.Common.{◌≡◌, ◌⊎◌, ℕ, ◌+◌, ◌*◌, ◌<◌, ◌≤◌, arith, ap, subst, ◌∙◌, sym, refl, false, true≢false}
use Rattle.std.specs.Prelude.{ℤ, pos, ◌+ℤ◌, ◌-ℤ◌, ◌*ℤ◌, ◌≤ℤ◌, Bool, List, [], ◌∷◌, length, get_or}
use Rattle.std.proofs.lemmas.Int.{ints}
use Rattle.adpcm_nums.specs.Nums.{square_of}
use Rattle.adpcm_nums.specs.Sample.{IsSample}
use Rattle.row_bound.specs.declared.row.Row.{Row as ErrorRow}
use Rattle.row_bound.specs.declared.layer.Layer.{Layer}
use Rattle.row_bound.specs.Rows.{Fits, IsMoved}
use Rattle.row_bound.specs.Paths.{IsChoice, moved, first, second, Path, done, by_layer}
use Rattle.row_bound.specs.Ladder.{IsLadder}
use Rattle.row_bound.proofs.MovedRows.{moved-exists}
use Rattle.adpcm_nums.proofs.ProductLaws.{mul-add, in-order}
use Rattle.window_floor.specs.Row.{Row}
use Rattle.window_floor.specs.Miss.{rho_of}
use Rattle.window_floor.specs.Outcome.{IsWrap, none as no_wrap}
use Rattle.window_floor.specs.Windows.{Windows}
use Rattle.window_floor.proofs.Equations.{error-equation}
use Rattle.block_bounds.specs.Outputs.{weight_of, Outputs, ends, goes}
use Rattle.window_floor.specs.Clamps.{IsResult, MayCome, over, under, inside}
use Rattle.block_bounds.proofs.Clamped.{natural-scale, error-size, sum-size, over-fits, under-fits}
use Rattle.block_bounds.proofs.RowSums.{sum-as}
use Rattle.block_bounds.specs.Covers.{IsKnownRow, Covers, AreSteps, LayersFor, none, more}

-- an output of the filter fits the base row moved by the step of its sample and wrap
filtered-fits : (f : Row) (base w : ErrorRow) (r o x at_r at_o y raw a k s rho : ℤ) (e : ℕ) → pos 0 ≤ℤ f.scale → base.d ≡ f.d → base.a ≡ f.ca → base.b ≡ f.cb → base.known ≡ false
    → rho ≡ rho_of f r o x → base.low ≡ f.scale *ℤ (f.bias -ℤ pos f.errs) -ℤ rho → base.high ≡ f.scale *ℤ f.bias -ℤ rho
    → s ≡ f.scale *ℤ (f.d *ℤ (a -ℤ pos 32768 *ℤ k)) → IsMoved base s w → e ≤ f.errs
    → (f.d *ℤ raw) ≡ (f.d *ℤ a +ℤ f.ca *ℤ at_o +ℤ f.cb *ℤ at_r +ℤ f.bias -ℤ pos e) → y ≡ raw -ℤ pos 32768 *ℤ k
    → Fits w (f.scale *ℤ at_o -ℤ o) (f.scale *ℤ at_r -ℤ r) (f.scale *ℤ y -ℤ x)
filtered-fits f base w r o x at_r at_o y raw a k s rho e sign hd ha hb free er el eh es m l p q =
    let sum = sum-as w f.d f.ca f.cb (f.scale *ℤ at_o -ℤ o) (f.scale *ℤ at_r -ℤ r) (f.scale *ℤ y -ℤ x) (m.d ∙ hd) (m.a ∙ ha) (m.b ∙ hb) in
    let eq = error-equation f.d f.ca f.cb f.bias (pos e) f.scale a o r x at_o at_r raw (pos 32768 *ℤ k) y p q in
    let v = f.d *ℤ (a -ℤ pos 32768 *ℤ k) in
    let split = mul-add f.scale v (f.bias -ℤ pos e) in
    let same : v +ℤ (f.bias -ℤ pos e) ≡ v +ℤ f.bias -ℤ pos e = omega (arith, ints) in
    let shaped : f.scale *ℤ (v +ℤ f.bias -ℤ pos e) ≡ f.scale *ℤ v +ℤ f.scale *ℤ (f.bias -ℤ pos e) = ap (λ t. f.scale *ℤ t) (sym same) ∙ split in
    let lower = in-order f.scale (f.bias -ℤ pos f.errs) (f.bias -ℤ pos e) sign (omega (arith, ints, l)) in
    let upper = in-order f.scale (f.bias -ℤ pos e) f.bias sign (omega (arith, ints)) in
    let ml = m.low in let mh = m.high in
    record {
      low = omega (arith, ints, sum, eq, shaped, lower, ml, el, er, es);
      high = omega (arith, ints, sum, eq, shaped, upper, mh, eh, er, es);
      at = λ t. absurd (true≢false (sym t ∙ (m.known ∙ free)));
    }

weighs : (steps : List ℤ) (layer : Layer) (w : ErrorRow) → IsChoice steps layer w → w.weight ≡ layer.base.weight
weighs steps layer w (moved i h m) = m.weight
weighs steps layer w (first e) = ap (λ (r : ErrorRow). r.weight) e ∙ layer.first_weighs
weighs steps layer w (second e) = ap (λ (r : ErrorRow). r.weight) e ∙ layer.second_weighs

-- what a place's row is chosen as
record Chosen (steps : List ℤ) (layer : Layer) (x y z : ℤ) : Type 0 where
  pub row : ErrorRow
  pub choice : IsChoice steps layer row
  pub fits : Fits row x y z

-- the base row moved by the step of a sample and wrap, which an error z fits
record MovedFits (b : Windows) (steps : List ℤ) (base : ErrorRow) (i : ℕ) (k x y z : ℤ) : Type 0 where
  pub at : ℕ
  pub within : at < length steps
  pub step : get_or steps at (pos 0) ≡ b.row.scale *ℤ (b.row.d *ℤ (get_or b.samples i (pos 0) -ℤ pos 32768 *ℤ k))
  pub row : ErrorRow
  pub moves : IsMoved base (get_or steps at (pos 0)) row
  pub fits : Fits row x y z

-- a result of the filter, less a wrap, fits such a row
result-fits : (b : Windows) (steps : List ℤ) (layer : Layer) (r o x at_r at_o raw k y : ℤ) (weight : ℕ) → pos 0 ≤ℤ b.row.scale → IsLadder steps → AreSteps b steps → Covers b r o x weight layer
    → (is : IsResult b.row b.samples at_r at_o raw) → IsWrap b.row.wraps k → y ≡ raw -ℤ pos 32768 *ℤ k
    → MovedFits b steps layer.base is.code k (b.row.scale *ℤ at_o -ℤ o) (b.row.scale *ℤ at_r -ℤ r) (b.row.scale *ℤ y -ℤ x)
result-fits b steps layer r o x at_r at_o raw k y weight sign ladder are c is wrap e =
    let step = are.all is.code k is.within wrap in
    let row = moved-exists steps layer step.0 ladder step.1 in
    record {
      at = step.0;
      within = step.1;
      step = step.2;
      row = row.0;
      moves = row.1;
      fits = filtered-fits b.row layer.base row.0 r o x at_r at_o y raw (get_or b.samples is.code (pos 0)) k (get_or steps step.0 (pos 0)) (rho_of b.row r o x) is.rounding sign c.d c.a c.b layer.free refl c.low c.high step.2 row.1 is.rounds is.is e;
    }

-- the result itself, without a wrap
unwrapped : (x : ℤ) → x ≡ x -ℤ pos 32768 *ℤ pos 0
unwrapped x = omega (arith, ints)

-- the error that a row of clamping knows is that of the output
out-is : (scale out x y : ℤ) (base row : ErrorRow) → IsKnownRow scale out x base row → y ≡ out → row.out ≡ scale *ℤ y -ℤ x
out-is scale out x y base row known e = known.out ∙ ap (λ (z : ℤ). scale *ℤ z -ℤ x) (sym e)

outcome-fits : (b : Windows) (steps : List ℤ) (layer : Layer) (r o x at_r at_o y : ℤ) (weight : ℕ) → (b.row.scale ≡ pos 1) ⊎ (b.row.scale ≡ pos 2) → IsLadder steps → AreSteps b steps → Covers b r o x weight layer
    → IsSample at_r → IsSample at_o → MayCome b at_r at_o y → Chosen steps layer (b.row.scale *ℤ at_o -ℤ o) (b.row.scale *ℤ at_r -ℤ r) (b.row.scale *ℤ y -ℤ x)
outcome-fits b steps layer r o x at_r at_o y weight scale ladder are c sr so (over raw is past e) =
    let t = result-fits b steps layer r o x at_r at_o raw (pos 0) raw weight (natural-scale b.row.scale scale) ladder are c is (no_wrap b.row.wraps) (unwrapped raw) in
    let last = error-size b.row.scale at_o o scale so c.last in
    let older = error-size b.row.scale at_r r scale sr c.older in
    record {
      row = layer.first;
      choice = first refl;
      fits = subst (λ (z : ℤ). Fits layer.first (b.row.scale *ℤ at_o -ℤ o) (b.row.scale *ℤ at_r -ℤ r) z) (out-is b.row.scale b.first x y layer.base layer.first c.first.known e)
          (over-fits b layer.base layer.first t.row is.code _ x _ _ raw (natural-scale b.row.scale scale) c.d c.first t.moves t.step is.within t.fits past (sum-size layer.first _ _ last older).0);
    }
outcome-fits b steps layer r o x at_r at_o y weight scale ladder are c sr so (under raw is past e) =
    let t = result-fits b steps layer r o x at_r at_o raw (pos 0) raw weight (natural-scale b.row.scale scale) ladder are c is (no_wrap b.row.wraps) (unwrapped raw) in
    let last = error-size b.row.scale at_o o scale so c.last in
    let older = error-size b.row.scale at_r r scale sr c.older in
    record {
      row = layer.second;
      choice = second refl;
      fits = subst (λ (z : ℤ). Fits layer.second (b.row.scale *ℤ at_o -ℤ o) (b.row.scale *ℤ at_r -ℤ r) z) (out-is b.row.scale b.second x y layer.base layer.second c.second.known e)
          (under-fits b layer.base layer.second t.row is.code _ x _ _ raw (natural-scale b.row.scale scale) c.d c.second t.moves t.step is.within t.fits past (sum-size layer.second _ _ last older).1);
    }
outcome-fits b steps layer r o x at_r at_o y weight scale ladder are c sr so (inside raw k is wrap e) =
    let t = result-fits b steps layer r o x at_r at_o raw k y weight (natural-scale b.row.scale scale) ladder are c is wrap e in
    record { row = t.row; choice = moved t.at t.within t.moves; fits = t.fits }

weighed : (n m k c : ℕ) → n ≡ m → n * k + c ≡ m * k + c
weighed n m k c e = ap (λ t. t * k + c) e

pub outputs-path : (b : Windows) (leaving : Bool) (steps : List ℤ) (ts : List ℤ) (layers : List Layer) (tr to r o : ℤ) (c : ℕ) → (b.row.scale ≡ pos 1) ⊎ (b.row.scale ≡ pos 2) → IsLadder steps → AreSteps b steps → LayersFor b leaving ts tr to layers
    → Outputs b leaving ts tr to r o c → Path steps [] layers (b.row.scale *ℤ o -ℤ to) (b.row.scale *ℤ r -ℤ tr) c
outputs-path b leaving steps _ _ tr to r o _ scale ladder are (none _ _) (ends _ _ _ _) = done (b.row.scale *ℤ o -ℤ to) (b.row.scale *ℤ r -ℤ tr)
outputs-path b leaving steps _ _ tr to r o _ scale ladder are (more x ts _ _ layer layers covers rest) (goes _ _ _ _ _ _ y c sr so is after) =
    let t = outcome-fits b steps layer tr to x r o y (weight_of leaving (length ts)) scale ladder are covers sr so is in
    let p = outputs-path b leaving steps ts layers to x o y c scale ladder are rest after in
    let q = by_layer layer layers (b.row.scale *ℤ o -ℤ to) (b.row.scale *ℤ r -ℤ tr) (b.row.scale *ℤ y -ℤ x) c t.row t.choice t.fits p in
    subst (λ (n : ℕ). Path steps [] (layer ∷ layers) (b.row.scale *ℤ o -ℤ to) (b.row.scale *ℤ r -ℤ tr) n) (weighed t.row.weight (weight_of leaving (length ts)) (square_of (b.row.scale *ℤ y -ℤ x)) c (weighs steps layer t.row t.choice ∙ covers.weighs)) q
