-- No file of a bank is stored over another.
use Rattle.std.proofs.Common.{◌≡◌, ℕ, Bool, true, false, List, [], ◌∷◌, ◌++◌, length, map, ◌&&◌, ◌<◌, All, nat_le, refl, sym, ap, subst, ◌∙◌, arith, length-append}
use Rattle.std.specs.List.{list_all, flat_map, IsDistinct, AllByRecursion}
use Rattle.std.specs.Str.{bytes_eq}
use Rattle.std.proofs.lemmas.Bool.{false_from_ne_true, true≢false}
use Rattle.std.proofs.lemmas.List.{append_cancel_left}
use Rattle.std.proofs.lemmas.List.Elements.{recursion_from_All}
use Rattle.std.proofs.lemmas.Slice.Eq.{bytes_eq-Decides}
use Rattle.machine_core.specs.declared.state.Kind.{Kind}
use Rattle.machine_core.specs.declared.state.Kind.TheVariants.{Brr, Spu, Ima}
use Rattle.manifest_reader.specs.declared.manifest.SampleEntry.{SampleEntry}
use Rattle.manifest_reader.specs.Words.{is_name, is_name_byte}
use Rattle.manifest_reader.specs.Stored.{joined, stored_endings, stored_names}
use Rattle.manifest_reader.specs.Ranges.{IsEntry, AreDistinct, StoresOnce}

-- two texts that differ
differ : (a b : List ℕ) → (a ≡ b → ⊥) → bytes_eq a b ≡ false
differ a b other = false_from_ne_true _ (λ e. other ((bytes_eq-Decides a b).0 e))

-- no byte of a sample's name is a dot
no_dot : (b : ℕ) (bytes : List ℕ) → b ≡ 46 → list_all is_name_byte (b ∷ bytes) ≡ true → ⊥
no_dot b bytes e h = let dot = rw e at h in true≢false (sym dot)

-- the right side of an and that is true
rest_too : (a b : Bool) → (a && b) ≡ true → b ≡ true
rest_too true b h = h
rest_too false b h = absurd (true≢false (sym h))

-- equal lists have equal heads
head_is : (a b : ℕ) (s t : List ℕ) → a ∷ s ≡ b ∷ t → a ≡ b
head_is a b s t h = cc

-- and equal tails
tail_is : (a b : ℕ) (s t : List ℕ) → a ∷ s ≡ b ∷ t → s ≡ t
tail_is a b s t h = cc

-- a text is cut at its first dot in one way
name_is : (s t e f : List ℕ) → list_all is_name_byte s ≡ true → list_all is_name_byte t ≡ true → s ++ 46 ∷ e ≡ t ++ 46 ∷ f → s ≡ t
name_is [] [] e f hs ht h = refl
name_is [] (b ∷ t) e f hs ht h = absurd (no_dot b t (sym (head_is _ _ _ _ h)) ht)
name_is (a ∷ s) [] e f hs ht h = absurd (no_dot a s (head_is _ _ _ _ h) hs)
name_is (a ∷ s) (b ∷ t) e f hs ht h =
    let first = head_is _ _ _ _ h in
    let rest = name_is s t e f (rest_too (is_name_byte a) _ hs) (rest_too (is_name_byte b) _ ht) (tail_is _ _ _ _ h) in
    cc

-- this is the name of no file of that sample
abbrev pub IsFree : List ℕ → List ℕ → List ℕ → Type 0
IsFree bank file sample = (ending : List ℕ) → bytes_eq file (joined bank sample (46 ∷ ending)) ≡ false

-- a list is shorter than itself with more behind it
longer : (xs ys : List ℕ) → 0 < length ys → length xs ≡ length (xs ++ ys) → ⊥
longer xs ys some e = let l = length-append xs ys in omega arith

-- the image has the name of no file of a sample
pub image_free : (bank sample : List ℕ) → IsFree bank bank sample
image_free bank sample ending = differ _ _ (λ e. longer bank (46 ∷ (sample ++ 46 ∷ ending)) (let l : 0 < length (46 ∷ (sample ++ 46 ∷ ending)) = omega arith in l) (ap length e))

-- a file of another sample
pub other_free : (bank s t e : List ℕ) → list_all is_name_byte s ≡ true → list_all is_name_byte t ≡ true → bytes_eq s t ≡ false → IsFree bank (joined bank s (46 ∷ e)) t
other_free bank s t e hs ht apart ending =
    differ _ _ (λ same. let name = name_is s t e ending hs ht (tail_is _ _ _ _ (append_cancel_left bank _ _ same)) in true≢false (sym ((bytes_eq-Decides s t).1 name) ∙ apart))

-- two files of one sample
endings_differ : (bank sample e f : List ℕ) → bytes_eq e f ≡ false → bytes_eq (joined bank sample e) (joined bank sample f) ≡ false
endings_differ bank sample e f other =
    differ _ _ (λ same. let one = append_cancel_left sample _ _ (tail_is _ _ _ _ (append_cancel_left bank _ _ same)) in true≢false (sym ((bytes_eq-Decides e f).1 one) ∙ other))

-- endings that begin with a dot, of which no two are equal
record AreEndings (endings : List (List ℕ)) : Type 0 where
  dotted : AllByRecursion (λ e. (more : List ℕ) × (e ≡ 46 ∷ more)) endings
  once : IsDistinct bytes_eq endings

stored_are : (kind : Kind) → AreEndings (stored_endings kind)
unfolding IsDistinct
stored_are Brr = record { dotted = ((_, refl), ((_, refl), tt)); once = ((refl, tt), (tt, tt)) }
stored_are Spu = record { dotted = ((_, refl), ((_, refl), ((_, refl), tt))); once = ((refl, (refl, tt)), ((refl, tt), (tt, tt))) }
stored_are Ima = record { dotted = ((_, refl), ((_, refl), ((_, refl), tt))); once = ((refl, (refl, tt)), ((refl, tt), (tt, tt))) }

-- what holds of all elements of two lists
both : {X : Type 0} (P : X → Type 0) (xs ys : List X) → AllByRecursion P xs → AllByRecursion P ys → AllByRecursion P (xs ++ ys)
both P [] ys h k = k
both P (x ∷ xs) ys h k = (h.0, both P xs ys h.1 k)

-- two lists of names, of which none of the one stands in the other
distinct_both : (xs ys : List (List ℕ)) → IsDistinct bytes_eq xs → IsDistinct bytes_eq ys → AllByRecursion (λ x. AllByRecursion (λ y. bytes_eq x y ≡ false) ys) xs → IsDistinct bytes_eq (xs ++ ys)
unfolding IsDistinct
distinct_both [] ys h k apart = k
distinct_both (x ∷ xs) ys h k apart = (both (λ y. bytes_eq x y ≡ false) xs ys h.0 apart.0, distinct_both xs ys h.1 k apart.1)

-- the files of the samples, in store order
abbrev files : List (List ℕ) → List ℕ → List SampleEntry → List (List ℕ)
files endings bank samples = flat_map (λ s. map (joined bank s.name) endings) samples

-- a name that is free of a sample is none of its files
free_of_one : (endings : List (List ℕ)) (bank file sample : List ℕ) → AllByRecursion (λ e. (more : List ℕ) × (e ≡ 46 ∷ more)) endings → IsFree bank file sample
    → AllByRecursion (λ name. bytes_eq file name ≡ false) (map (joined bank sample) endings)
free_of_one [] bank file sample dotted free = tt
free_of_one (e ∷ endings) bank file sample dotted free =
    (subst (λ (x : List ℕ). bytes_eq file (joined bank sample x) ≡ false) (sym dotted.0.1) (free dotted.0.0), free_of_one endings bank file sample dotted.1 free)

-- a name that is free of each sample is none of the files
free_of_all : (endings : List (List ℕ)) (bank file : List ℕ) (samples : List SampleEntry) → AreEndings endings → AllByRecursion (λ s. IsFree bank file s.name) samples
    → AllByRecursion (λ name. bytes_eq file name ≡ false) (files endings bank samples)
free_of_all endings bank file [] are h = tt
free_of_all endings bank file (s ∷ samples) are h =
    both (λ name. bytes_eq file name ≡ false) (map (joined bank s.name) endings) (files endings bank samples) (free_of_one endings bank file s.name are.dotted h.0) (free_of_all endings bank file samples are h.1)

-- a file of a sample is free of all samples of other names
others_free : (bank s e : List ℕ) (samples : List SampleEntry) → list_all is_name_byte s ≡ true → AllByRecursion (λ t. list_all is_name_byte t.name ≡ true) samples
    → AllByRecursion (λ name. bytes_eq s name ≡ false) (map (λ t. t.name) samples) → AllByRecursion (λ t. IsFree bank (joined bank s (46 ∷ e)) t.name) samples
others_free bank s e [] hs named apart = tt
others_free bank s e (t ∷ samples) hs named apart = (other_free bank s t.name e hs named.0 apart.0, others_free bank s e samples hs named.1 apart.1)

-- so none of its files is one of theirs
own_free : (own endings : List (List ℕ)) (bank s : List ℕ) (samples : List SampleEntry) → AllByRecursion (λ e. (more : List ℕ) × (e ≡ 46 ∷ more)) own → AreEndings endings
    → list_all is_name_byte s ≡ true → AllByRecursion (λ t. list_all is_name_byte t.name ≡ true) samples → AllByRecursion (λ name. bytes_eq s name ≡ false) (map (λ t. t.name) samples)
    → AllByRecursion (λ x. AllByRecursion (λ y. bytes_eq x y ≡ false) (files endings bank samples)) (map (joined bank s) own)
own_free [] endings bank s samples dotted are hs named apart = tt
own_free (e ∷ own) endings bank s samples dotted are hs named apart =
    let free = free_of_all endings bank (joined bank s (46 ∷ dotted.0.0)) samples are (others_free bank s dotted.0.0 samples hs named apart) in (
      subst (λ (x : List ℕ). AllByRecursion (λ y. bytes_eq (joined bank s x) y ≡ false) (files endings bank samples)) (sym dotted.0.1) free,
      own_free own endings bank s samples dotted.1 are hs named apart,
    )

-- no two files of one sample have one name
apart_from : (bank s e : List ℕ) (endings : List (List ℕ)) → AllByRecursion (λ f. bytes_eq e f ≡ false) endings → AllByRecursion (λ name. bytes_eq (joined bank s e) name ≡ false) (map (joined bank s) endings)
apart_from bank s e [] h = tt
apart_from bank s e (f ∷ endings) h = (endings_differ bank s e f h.0, apart_from bank s e endings h.1)

own_distinct : (bank s : List ℕ) (endings : List (List ℕ)) → IsDistinct bytes_eq endings → IsDistinct bytes_eq (map (joined bank s) endings)
unfolding IsDistinct
own_distinct bank s [] h = tt
own_distinct bank s (e ∷ endings) h = (apart_from bank s e endings h.0, own_distinct bank s endings h.1)

-- the image is free of all samples
images_free : (bank : List ℕ) (samples : List SampleEntry) → AllByRecursion (λ t. IsFree bank bank t.name) samples
images_free bank [] = tt
images_free bank (t ∷ samples) = (image_free bank t.name, images_free bank samples)

-- no two files of samples have one name
files_distinct : (endings : List (List ℕ)) (bank : List ℕ) (samples : List SampleEntry) → AreEndings endings → AllByRecursion (λ t. list_all is_name_byte t.name ≡ true) samples → AreDistinct samples
    → IsDistinct bytes_eq (files endings bank samples)
unfolding IsDistinct
files_distinct endings bank [] are named apart = tt
files_distinct endings bank (s ∷ samples) are named apart =
    distinct_both (map (joined bank s.name) endings) (files endings bank samples) (own_distinct bank s.name endings are.once) (files_distinct endings bank samples are named.1 apart.1)
    (own_free endings endings bank s.name samples are.dotted are named.0 named.1 apart.0)

-- the bytes of a sample's name
only_name_bytes : (name : List ℕ) → is_name name ≡ true → list_all is_name_byte name ≡ true
unfolding is_name
only_name_bytes name h = rest_too (nat_le (length name) 16) _ (rest_too (nat_le 1 (length name)) _ h)

-- the same of all samples
all_named : (samples : List SampleEntry) → AllByRecursion IsEntry samples → AllByRecursion (λ t. list_all is_name_byte t.name ≡ true) samples
all_named [] h = tt
all_named (s ∷ samples) h = (only_name_bytes s.name h.0.name, all_named samples h.1)

-- where no two samples have one name, no two files of the bank have one
pub stores_once : (kind : Kind) (bank : List ℕ) (samples : List SampleEntry) → All IsEntry samples → AreDistinct samples → StoresOnce kind bank samples
unfolding stored_names IsDistinct
stores_once Brr bank samples entries apart =
    let named = all_named samples (recursion_from_All IsEntry samples entries) in
    (free_of_all (stored_endings Brr) bank bank samples (stored_are Brr) (images_free bank samples), files_distinct (stored_endings Brr) bank samples (stored_are Brr) named apart)
stores_once Spu bank samples entries apart = files_distinct (stored_endings Spu) bank samples (stored_are Spu) (all_named samples (recursion_from_All IsEntry samples entries)) apart
stores_once Ima bank samples entries apart = files_distinct (stored_endings Ima) bank samples (stored_are Ima) (all_named samples (recursion_from_All IsEntry samples entries)) apart
