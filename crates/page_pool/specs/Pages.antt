-- A list that lies in pages, and the room that is left in them.
use Rattle.std.specs.Prelude.{◌≡◌, ℕ, ◌-◌, ◌≤◌, List, [], ◌∷◌, ◌++◌, length, take, min, refl}
use Rattle.std.specs.Coded.{Coded, code_by, coded×, coded_ℕ, coded_list}

-- the first n items of pages, of which each has w places
unfoldable pub gathered : {T : Type 0} → ℕ → List (List T) → ℕ → List T
gathered w [] n = []
gathered w (page ∷ pages) n = take (min n w) page ++ gathered w pages (n - w)

-- those items are written: each page has its share of them
unfoldable pub AreFilled : {T : Type 0} → ℕ → List (List T) → ℕ → Type 0
AreFilled w [] n = n ≡ 0
AreFilled w (page ∷ pages) n = (min n w ≤ length page) × AreFilled w pages (n - w)

-- what a pool is seen as: its items, and for how many more there is room
pub record Pooled (T : Type 0) : Type 0 where
  pub items : List T
  pub spare : ℕ

abbrev pub pooled_code : {T : Type 0} → Coded T → Coded (Pooled T)
pooled_code {T} code =
    code_by (List T × ℕ) (coded× (coded_list code) coded_ℕ) (λ p. (p.items, p.spare)) (λ p. record { items = p.0; spare = p.1 }) (λ _. refl)
