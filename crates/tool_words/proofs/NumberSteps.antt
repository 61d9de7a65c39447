-- Numbers as words, over plain variables.
use Rattle.std.proofs.Common.{◌≡◌, ℕ, ◌<◌, ◌≤◌, ◌^◌, List, [], ◌∷◌, length, true, false, Bool, cond, ◌&&◌, refl, ap, sym, ◌∙◌, arith, inl, inr, Some, None, Ok, Err, nat_le}
use Rattle.std.specs.List.{list_all}
use Rattle.std.specs.Char.{is_ascii_digit}
use Rattle.std.specs.Str.{all_ascii_digits}
use Rattle.std.specs.Str.Parse.{digits_value, ParsesUnsigned}
use Rattle.std.proofs.lemmas.Bool.{cond-true, cond-false, le-leb, lt-leb, true≢false, cases_lt}
use Rattle.std.proofs.lemmas.Str.Parse.{IsNumeralModel, numerals_by_value, tells_all_ascii_digits, parse_digits}
use Rattle.tool_words.specs.Numbers.{is_trimmed, is_number, number_of}

-- digits, as std tells them
same_digits : (word : List ℕ) → list_all (λ c. is_ascii_digit c) word ≡ all_ascii_digits word
same_digits [] = refl
same_digits (c ∷ cs) = ap (λ b. is_ascii_digit c && b) (same_digits cs)

own : IsNumeralModel (λ word. all_ascii_digits word ≡ true) (digits_value 10)
own = numerals_by_value _ tells_all_ascii_digits

second : (a b : Bool) → (a && b) ≡ true → b ≡ true
second true b e = e
second false b e = absurd (true≢false (sym e))

first : (a b : Bool) → (a && b) ≡ true → a ≡ true
first true b e = refl
first false b e = absurd (true≢false (sym e))

are_digits : (word : List ℕ) → is_number word ≡ true → all_ascii_digits word ≡ true
are_digits word e = sym (same_digits word) ∙ second (is_trimmed word) _ e

some : (word : List ℕ) → is_trimmed word ≡ true → 0 < length word
some [] e = absurd (true≢false (sym e))
some (c ∷ cs) e = omega arith

by_test : (word : List ℕ) (greatest : ℕ) → is_number word ≡ true → number_of greatest word ≡ cond (nat_le (digits_value 10 word) greatest) (Some (digits_value 10 word)) None
unfolding number_of
by_test word greatest e = ap (λ b. cond (b && nat_le (digits_value 10 word) greatest) (Some (digits_value 10 word)) None) e

value_is : (word : List ℕ) (value : ℕ) → is_number word ≡ true → ParsesUnsigned {E = Unit {0}} 32 10 word (Ok value) → value ≡ digits_value 10 word
value_is word value e h = (parse_digits own {E = Unit {0}} 32 word (Ok value) h (are_digits word e)).1

-- a number that was read and is not too great
pub reads_number : (word : List ℕ) (value greatest : ℕ) → is_number word ≡ true → ParsesUnsigned {E = Unit {0}} 32 10 word (Ok value) → value ≤ greatest → Some value ≡ number_of greatest word
reads_number word value greatest e h less =
    let same : value ≡ digits_value 10 word = value_is word value e h in
    ap Some same ∙ sym (by_test word greatest e ∙ cond-true _ _ _ (le-leb _ greatest (omega (arith, same, less))))

-- one that is too great
pub reads_too_great : (word : List ℕ) (value greatest : ℕ) → is_number word ≡ true → ParsesUnsigned {E = Unit {0}} 32 10 word (Ok value) → greatest < value → None ≡ number_of greatest word
reads_too_great word value greatest e h more =
    let same : value ≡ digits_value 10 word = value_is word value e h in
    sym (by_test word greatest e ∙ cond-false _ _ _ (lt-leb _ greatest (omega (arith, same, more))))

-- one that has no 32 bits
pub reads_none : (E : Type 0) (word : List ℕ) (fault : E) (greatest : ℕ) → is_number word ≡ true → ParsesUnsigned {E = E} 32 10 word (Err fault) → greatest < 2 ^ 32 → None ≡ number_of greatest word
reads_none E word fault greatest e h bound =
    let not = parse_digits own {E = E} 32 word (Err fault) h (are_digits word e) in
    let long : 0 < length word = some word (first (is_trimmed word) _ e) in
    let more : greatest < digits_value 10 word = elim (cases_lt greatest (digits_value 10 word)) [
      | inl less ↦ less
      | inr small ↦ absurd (not (long, omega (arith, small, bound)))
    ] in
    sym (by_test word greatest e ∙ cond-false _ _ _ (lt-leb _ greatest more))
