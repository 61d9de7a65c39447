-- One step of each reading, and its ends.
use Rattle.std.proofs.Common.{◌≡◌, ℕ, suc, ◌+◌, ◌-◌, ◌<◌, ◌≤◌, List, [], ◌∷◌, length, get_or, drop, arith, refl, ap, sym, ◌∙◌, Some, Option, true, false, nat_lt}
use Rattle.std.specs.Prelude.{Result, Ok, Err, cond}
use Rattle.std.proofs.lemmas.List.{drop_all, drop_more}
use Rattle.std.proofs.lemmas.Bool.Decides.{nat_tests}
use Rattle.machine_core.specs.declared.boxes.Cell.{Cell}
use Rattle.box_layers.specs.declared.key.Key.{Key}
use Rattle.machine_core.specs.declared.state.Kind.{Kind}
use Rattle.bound_cert.specs.declared.shape.Limits.{Limits}
use Rattle.bound_cert.specs.declared.fault.CertFault.{CertFault}
use Rattle.bound_cert.specs.declared.fault.CertFault.TheVariants.{Trailing}
use Rattle.bound_cert.specs.Grammar.{◌>>=◌, cell_of}
use Rattle.bound_cert.specs.Scan.{cells_scan, layer_scan, layers_scan, segment_scan, segments_scan}
use Rattle.std.proofs.lemmas.Bool.{cond-true, cond-false}

pub bind-ok : {A B : Type 0} (r : Result A CertFault) (f : A → Result B CertFault) (x : A) → Ok x ≡ r → (r >>= f) ≡ f x
bind-ok r f x h = ap (λ z. z >>= f) (sym h)

pub bind-err : {A B : Type 0} (r : Result A CertFault) (f : A → Result B CertFault) (e : CertFault) → Err e ≡ r → (r >>= f) ≡ Err e
bind-err r f e h = ap (λ z. z >>= f) (sym h)

-- cells
cells-one : (limits : Limits) (bytes : List ℕ) (at n : ℕ) (last : Option Cell) → cells_scan limits bytes at (suc n) last ≡ (cell_of limits bytes at last >>= λ c. cells_scan limits bytes (at + 12) n (Some c))
unfolding cells_scan
cells-one limits bytes at n last = refl

pub cells-go : (limits : Limits) (bytes : List ℕ) (at count i : ℕ) (last : Option Cell) (cell : Cell) → i < count → Ok cell ≡ cell_of limits bytes at last
    → cells_scan limits bytes (at + 12) (count - (i + 1)) (Some cell) ≡ cells_scan limits bytes at (count - i) last
cells-go limits bytes at count i last cell h e =
    let n : count - i ≡ suc (count - (i + 1)) = omega arith in
    sym (ap (λ z. cells_scan limits bytes at z last) n ∙ (cells-one limits bytes at (count - (i + 1)) last ∙ bind-ok _ _ cell e))

pub cells-stop : (limits : Limits) (bytes : List ℕ) (at count i : ℕ) (last : Option Cell) (fault : CertFault) → i < count → Err fault ≡ cell_of limits bytes at last
    → Err fault ≡ cells_scan limits bytes at (count - i) last
cells-stop limits bytes at count i last fault h e =
    let n : count - i ≡ suc (count - (i + 1)) = omega arith in
    sym (ap (λ z. cells_scan limits bytes at z last) n ∙ (cells-one limits bytes at (count - (i + 1)) last ∙ bind-err _ _ fault e))

pub cells-end : (limits : Limits) (bytes : List ℕ) (at count i : ℕ) (last : Option Cell) → count ≤ i → Ok at ≡ cells_scan limits bytes at (count - i) last
unfolding cells_scan
cells-end limits bytes at count i last h = let n : 0 ≡ count - i = omega arith in ap (λ z. cells_scan limits bytes at z last) n

-- layers
layers-one : (limits : Limits) (bytes : List ℕ) (at n : ℕ) (last : Option Key) → layers_scan limits bytes at (suc n) last ≡ (layer_scan limits bytes at last >>= λ x. layers_scan limits bytes x.1 n (Some x.0))
unfolding layers_scan
layers-one limits bytes at n last = refl

pub layers-go : (limits : Limits) (bytes : List ℕ) (at count i : ℕ) (last : Option Key) (key : Key) (end : ℕ) → i < count → Ok (key, end) ≡ layer_scan limits bytes at last
    → layers_scan limits bytes end (count - (i + 1)) (Some key) ≡ layers_scan limits bytes at (count - i) last
layers-go limits bytes at count i last key end h e =
    let n : count - i ≡ suc (count - (i + 1)) = omega arith in
    sym (ap (λ z. layers_scan limits bytes at z last) n ∙ (layers-one limits bytes at (count - (i + 1)) last ∙ bind-ok _ _ (key, end) e))

pub layers-stop : (limits : Limits) (bytes : List ℕ) (at count i : ℕ) (last : Option Key) (fault : CertFault) → i < count → Err fault ≡ layer_scan limits bytes at last
    → Err fault ≡ layers_scan limits bytes at (count - i) last
layers-stop limits bytes at count i last fault h e =
    let n : count - i ≡ suc (count - (i + 1)) = omega arith in
    sym (ap (λ z. layers_scan limits bytes at z last) n ∙ (layers-one limits bytes at (count - (i + 1)) last ∙ bind-err _ _ fault e))

pub layers-end : (limits : Limits) (bytes : List ℕ) (at count i : ℕ) (last : Option Key) → count ≤ i → Ok at ≡ layers_scan limits bytes at (count - i) last
unfolding layers_scan
layers-end limits bytes at count i last h = let n : 0 ≡ count - i = omega arith in ap (λ z. layers_scan limits bytes at z last) n

-- segments
segments-one : (kind : Kind) (samples b : ℕ) (bs bytes : List ℕ) (at : ℕ) → segments_scan kind samples (b ∷ bs) bytes at ≡ (segment_scan kind samples b bytes at >>= λ end. segments_scan kind samples bs bytes end)
unfolding segments_scan
segments-one kind samples b bs bytes at = refl

pub segments-go : (kind : Kind) (samples : ℕ) (blocks bytes : List ℕ) (at i b end : ℕ) → i < length blocks → b ≡ get_or blocks i 0 → Ok end ≡ segment_scan kind samples b bytes at
    → segments_scan kind samples (drop (i + 1) blocks) bytes end ≡ segments_scan kind samples (drop i blocks) bytes at
segments-go kind samples blocks bytes at i b end h q e =
    let d : drop i blocks ≡ b ∷ drop (i + 1) blocks = drop_more blocks i 0 h ∙ ap (λ z. z ∷ drop (i + 1) blocks) (sym q) in
    sym (ap (λ z. segments_scan kind samples z bytes at) d ∙ (segments-one kind samples b (drop (i + 1) blocks) bytes at ∙ bind-ok _ _ end e))

pub segments-stop : (kind : Kind) (samples : ℕ) (blocks bytes : List ℕ) (at i b : ℕ) (fault : CertFault) → i < length blocks → b ≡ get_or blocks i 0 → Err fault ≡ segment_scan kind samples b bytes at
    → Err fault ≡ segments_scan kind samples (drop i blocks) bytes at
segments-stop kind samples blocks bytes at i b fault h q e =
    let d : drop i blocks ≡ b ∷ drop (i + 1) blocks = drop_more blocks i 0 h ∙ ap (λ z. z ∷ drop (i + 1) blocks) (sym q) in
    sym (ap (λ z. segments_scan kind samples z bytes at) d ∙ (segments-one kind samples b (drop (i + 1) blocks) bytes at ∙ bind-err _ _ fault e))

lt-true : (a b : ℕ) → a < b → nat_lt a b ≡ true
lt-true a b h = grind (arith, nat_tests)

lt-false : (a b : ℕ) → b ≤ a → nat_lt a b ≡ false
lt-false a b h = grind (arith, nat_tests)

segments-none : (kind : Kind) (samples : ℕ) (bytes : List ℕ) (at : ℕ) → segments_scan kind samples [] bytes at ≡ cond (nat_lt at (length bytes)) (Err (Trailing at)) (Ok at)
unfolding segments_scan
segments-none kind samples bytes at = refl

pub segments-trail : (kind : Kind) (samples : ℕ) (blocks bytes : List ℕ) (at i : ℕ) → length blocks ≤ i → at < length bytes → Err (Trailing at) ≡ segments_scan kind samples (drop i blocks) bytes at
segments-trail kind samples blocks bytes at i h t =
    sym (ap (λ z. segments_scan kind samples z bytes at) (drop_all i blocks h) ∙ (segments-none kind samples bytes at ∙ cond-true _ _ _ (lt-true _ _ t)))

pub segments-end : (kind : Kind) (samples : ℕ) (blocks bytes : List ℕ) (at i : ℕ) → length blocks ≤ i → length bytes ≤ at → Ok at ≡ segments_scan kind samples (drop i blocks) bytes at
segments-end kind samples blocks bytes at i h t =
    sym (ap (λ z. segments_scan kind samples z bytes at) (drop_all i blocks h) ∙ (segments-none kind samples bytes at ∙ cond-false _ _ _ (lt-false _ _ t)))
