-- Parts of a list by cubes, w elements each, and by tags. Definitions only.
use Rattle.std.specs.Prelude.{◌≡◌, cond, List, [], ◌∷◌, ◌++◌, ℕ, suc, ◌*◌, ◌<◌, eqb, length, get_or, take, drop}

module _ {A : Type 0} where
  -- the w elements of cube i
  abbrev pub block : ℕ → List A → ℕ → List A
  block w xs i = take w (drop (w * i) xs)

  -- of cubes with tags, the elements of those with tag s, one after another
  unfoldable pub own : ℕ → ℕ → List ℕ → List A → List A
  own w s [] xs = []
  own w s (t ∷ ts) xs = cond (eqb t s) (take w xs ++ own w s ts (drop w xs)) (own w s ts (drop w xs))

  -- xs with the next of another list in place of each cube with tag s
  unfoldable pub replaced : ℕ → ℕ → List ℕ → List A → List A → List A
  replaced w s [] part xs = xs
  replaced w s (t ∷ ts) part xs =
      cond (eqb t s) (take w part ++ replaced w s ts (drop w part) (drop w xs)) (take w xs ++ replaced w s ts part (drop w xs))

-- the places of the tag s, the first tag's being i
unfoldable pub places_from : ℕ → ℕ → List ℕ → List ℕ
places_from s i [] = []
places_from s i (t ∷ ts) = cond (eqb t s) (i ∷ places_from s (suc i) ts) (places_from s (suc i) ts)

module _ {A : Type 0} where
  -- xs and ys agree at every cube with tag s
  abbrev pub AgreeFor : ℕ → ℕ → List ℕ → List A → List A → Type 0
  AgreeFor w s ts xs ys = (i : ℕ) → i < length ts → get_or ts i 0 ≡ s → block w xs i ≡ block w ys i
