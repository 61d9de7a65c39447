-- The lists of segments, one after another, are a list of the whole.
use Rattle.std.proofs.Common.{◌≡◌, ℕ, ◌+◌, ◌-◌, ◌*◌, ◌%◌, ◌<◌, ℤ, List, [], ◌∷◌, ◌++◌, length, take, drop, slice_range, sum, sym, ap, ◌∙◌, subst, refl, arith, inl, inr}
use Rattle.std.specs.List.{sum_by}
use Rattle.std.proofs.Math.Seq.{take-append_seam, drop-append_seam}
use Rattle.std.proofs.lemmas.Bool.{cases_lt}
use Rattle.std.proofs.lemmas.List.{append_assoc, append-nil, length-append, get_or_append_left, get_or-append_right}
use Rattle.std.proofs.lemmas.List.Sums.{sum_by-cons}
use Rattle.machine_core.specs.Decoder.{Decoder}
use Rattle.machine_core.specs.Blocks.{Blocks, IsInRange, IsLegal, first_only, symbol_at}
use Rattle.machine_core.specs.Rules.{Rules}
use Rattle.machine_core.specs.Sums.{sum_of}
use Rattle.machine_core.specs.Segments.{part_of, part_targets, joined, AreLegal, segment_sums}
use Rattle.machine_core.proofs.PartLaws.{moved-place}
use Rattle.branch_bound.specs.declared.top.Found.{Found}
use Rattle.bank_kinds.specs.Chosen.{list_of}
use Rattle.manifest_reader.specs.declared.effort.Effort.{Effort}
use Rattle.bank_compile.specs.Sample.{AreFound, list_in}

-- the part in the middle
middle-part : {X : Type 0} (xs ys zs : List X) (n m : ℕ) → length xs ≡ n → length ys ≡ m → slice_range (xs ++ (ys ++ zs)) n (n + m) ≡ ys
middle-part xs ys zs n m e f =
    let whole : n + m - n ≡ length ys = omega arith in
    ap (λ k. take k (drop n (xs ++ (ys ++ zs)))) whole
    ∙ (ap (λ k. take (length ys) (drop k (xs ++ (ys ++ zs)))) (sym e) ∙ (ap (take (length ys)) (drop-append_seam xs (ys ++ zs)) ∙ take-append_seam ys zs))

-- one list after another is in range
pub joined-in-range : (d : Decoder) (a b : ℕ) (x y : Blocks) → 0 < d.samples → IsInRange d a x → IsInRange d b y → IsInRange d (a + b) (joined x y)
joined-in-range d a b x y some here later =
    let seam : (a + b) * d.samples ≡ a * d.samples + b * d.samples = omega arith in
    record {
      head_count = length-append x.heads y.heads ∙ (ap (λ n. n + length y.heads) here.head_count ∙ ap (λ n. a + n) later.head_count);
      symbol_count = length-append x.symbols y.symbols ∙ (ap (λ n. n + length y.symbols) here.symbol_count ∙ (ap (λ n. a * d.samples + n) later.symbol_count ∙ sym seam));
      heads_fit = λ k below. elim (cases_lt k a) [
        | inl within ↦ subst (λ (h : ℕ). h < d.heads) (sym (get_or_append_left x.heads y.heads 0 k (omega (arith, here.head_count)))) (here.heads_fit k within)
        | inr behind ↦ subst (λ (h : ℕ). h < d.heads) (sym (get_or-append_right x.heads y.heads a k 0 here.head_count behind)) (later.heads_fit (k - a) (omega arith))
      ];
      symbols_fit = λ i below. elim (cases_lt i (a * d.samples)) [
        | inl within ↦ subst (λ (s : ℕ). s < d.symbols (i % d.samples)) (sym (get_or_append_left x.symbols y.symbols 0 i (omega (arith, here.symbol_count)))) (here.symbols_fit i within)
        | inr behind ↦ (
            let j = i - a * d.samples in
            let whole : a * d.samples + j ≡ i = omega arith in
            let place : j % d.samples ≡ i % d.samples = sym (moved-place d.samples a j some) ∙ ap (λ z. z % d.samples) whole in
            let fits = later.symbols_fit j (omega (arith, seam)) in
            subst (λ (s : ℕ). s < d.symbols (i % d.samples)) (sym (get_or-append_right x.symbols y.symbols (a * d.samples) i 0 here.symbol_count behind))
            (subst (λ (p : ℕ). symbol_at y j < d.symbols p) place fits))
      ];
    }

-- nothing, before and after a list
abbrev pub nothing : Blocks
nothing = record { heads = []; symbols = [] }

pub nothing-in-range : (d : Decoder) → IsInRange d 0 nothing
nothing-in-range d = record { head_count = refl; symbol_count = omega arith; heads_fit = λ b below. absurd (omega arith); symbols_fit = λ i below. absurd (omega arith) }

pub nothing-first : (fs : List Found) → joined nothing (list_in fs) ≡ list_in fs
nothing-first [] = refl
nothing-first (f ∷ fs) = refl

abbrev blocks_of : List ℕ → List ℕ → Blocks
blocks_of heads symbols = record { heads = heads; symbols = symbols }

joined-three : (x y z : Blocks) → joined x (joined y z) ≡ joined (joined x y) z
joined-three x y z =
    ap (λ h. blocks_of h (x.symbols ++ (y.symbols ++ z.symbols))) (sym (append_assoc x.heads y.heads z.heads))
    ∙ ap (blocks_of (x.heads ++ y.heads ++ z.heads)) (sym (append_assoc x.symbols y.symbols z.symbols))

-- the list in the middle
part-is-list : (d : Decoder) (b count : ℕ) (front x later : Blocks) → IsInRange d b front → IsInRange d count x → part_of d (joined front (joined x later)) b count ≡ blocks_of x.heads x.symbols
part-is-list d b count front x later before is =
    let heads = middle-part front.heads x.heads later.heads b count before.head_count is.head_count in
    let symbols = middle-part front.symbols x.symbols later.symbols (b * d.samples) (count * d.samples) before.symbol_count is.symbol_count in
    ap (λ h. blocks_of h (slice_range (front.symbols ++ (x.symbols ++ later.symbols)) (b * d.samples) (b * d.samples + count * d.samples))) heads ∙ ap (blocks_of x.heads) symbols

-- segments that were found, after a list in front of them
pub record ArePartsOf (r : Rules) (targets : List ℤ) (front : Blocks) (b : ℕ) (counts : List ℕ) (fs : List Found) : Type 0 where
  pub in_range : IsInRange r.decoder (b + sum counts) (joined front (list_in fs))
  pub legal : AreLegal r.decoder (joined front (list_in fs)) b counts
  pub sums : segment_sums r.decoder (joined front (list_in fs)) targets b counts ≡ sum_by (λ f. f.choice.sum) fs

pub are-parts : (r : Rules) (effort : Effort) (share : ℕ) (targets : List ℤ) (front : Blocks) (b : ℕ) (counts : List ℕ) (fs : List Found) → 0 < r.decoder.samples → IsInRange r.decoder b front
    → AreFound r effort share targets b counts fs → ArePartsOf r targets front b counts fs
are-parts r effort share targets front b [] [] some before are =
    let plain : joined front nothing ≡ blocks_of front.heads front.symbols = ap (λ h. blocks_of h (front.symbols ++ [])) (append-nil front.heads) ∙ ap (blocks_of front.heads) (append-nil front.symbols) in
    let none : b ≡ b + 0 = omega arith in
    record {
      in_range = subst (λ (l : Blocks). IsInRange r.decoder (b + 0) l) (sym plain) (subst (λ (n : ℕ). IsInRange r.decoder n (blocks_of front.heads front.symbols)) none before);
      legal = tt;
      sums = refl;
    }
are-parts r effort share targets front b [] (f ∷ fs) some before are = absurd are
are-parts r effort share targets front b (count ∷ counts) [] some before are = absurd are
are-parts r effort share targets front b (count ∷ counts) (f ∷ fs) some before are =
    let d = r.decoder in
    let list = list_of f.choice in
    let choice = are.0.choice in
    let next = joined front list in
    let whole = joined front (list_in (f ∷ fs)) in
    let more = are-parts r effort share targets next (b + count) counts fs some (joined-in-range d b count front list some before choice.legal.in_range) are.1 in
    let same : joined next (list_in fs) ≡ whole = sym (joined-three front list (list_in fs)) in
    let part : part_of d whole b count ≡ list = part-is-list d b count front list (list_in fs) before choice.legal.in_range in
    let ends : b + count + sum counts ≡ b + sum (count ∷ counts) = omega (arith, sum_by-cons (λ n. n) count counts) in
    let mine = part_targets d targets b count in
    let here : sum_of d (part_of d whole b count) mine count ≡ f.choice.sum = ap (λ (l : Blocks). sum_of d l mine count) part ∙ sym choice.sum in
    let later : segment_sums d whole targets (b + count) counts ≡ sum_by (λ (g : Found). g.choice.sum) fs = ap (λ (l : Blocks). segment_sums d l targets (b + count) counts) (sym same) ∙ more.sums in
    record {
      in_range = subst (λ (n : ℕ). IsInRange d n whole) ends (subst (λ (l : Blocks). IsInRange d (b + count + sum counts) l) same more.in_range);
      legal = (subst (λ (l : Blocks). IsLegal d count first_only l) (sym part) choice.legal, subst (λ (l : Blocks). AreLegal d l (b + count) counts) same more.legal);
      sums = omega (arith, here, later, sum_by-cons (λ (g : Found). g.choice.sum) f fs);
    }
