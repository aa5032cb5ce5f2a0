-- Parts of a list by cubes and by tags: one cube's elements, a tag's part, and the list with that part replaced. Assumes nothing.
use mathlib.Core.Path.{◌≡◌, refl, sym, ap, ◌∙◌}
use mathlib.Core.Bool.{Bool, true, false, cond}
use mathlib.Core.List.{List, [], ◌∷◌, ◌++◌}
use Prim.Native.Nat.{ℕ, zero, suc, ◌*◌, ◌≤◌}
use native.Mathlib.Nat.{mul-zero, mul-suc, add_comm, not-suc-le-zero, le_of_suc-le-suc}
use native.Mathlib.Omega.{arith}
use lib.Dec.{eqb}
use lib.ListN.{length, take, drop, length-append, length-drop, take-append-drop}
use lib.Seq.{length-take-le, take_all, take_at, drop_at, drop-drop, take-append-le, drop-append-le}
use borrow.Author.Tests.{eqb-true, eq-eqb}
use Rattle.rows.specs.Parts.{block, own, replaced, places_from, AgreeFor}

-- cases on a test, with its value
pub by_tag : (P : Bool → Type 0) (b : Bool) → (b ≡ true → P true) → (b ≡ false → P false) → P b
by_tag P true f g = f refl
by_tag P false f g = g refl

-- one cube
module _ {A : Type 0} (w : ℕ) where
  pub past_next : (n : ℕ) (xs : List A) → drop (w * suc n) xs ≡ drop (w * n) (drop w xs)
  past_next n xs = ap (λ (k : ℕ). drop k xs) (mul-suc w n ∙ add_comm (w * n) w) ∙ sym (drop-drop (w * n) w xs)

  pub block_first : (xs : List A) → block w xs 0 ≡ take w xs
  block_first xs = ap (λ (k : ℕ). take w (drop k xs)) (mul-zero w)

  pub block_next : (xs : List A) (i : ℕ) → block w xs (suc i) ≡ block w (drop w xs) i
  block_next xs i = ap (take w) (past_next i xs)

  -- a row behind i others
  pub block_append : (p row rest : List A) (i : ℕ) → length p ≡ w * i → length row ≡ w → block w (p ++ (row ++ rest)) i ≡ row
  block_append p row rest i e l = ap (take w) (drop_at p (row ++ rest) (w * i) e) ∙ take_at row rest w l

  -- what follows a list changes no cube in it
  pub block_front : (p rest : List A) (i : ℕ) → w * suc i ≤ length p → block w (p ++ rest) i ≡ block w p i
  block_front p rest i h =
      let next = mul-suc w i in
      let left = length-drop (w * i) p in
      ap (take w) (drop-append-le (w * i) p rest (omega arith)) ∙ take-append-le w (drop (w * i) p) rest (omega arith)

  -- a list long enough for a cube and n more
  first_fits : (n : ℕ) (xs : List A) → w * suc n ≤ length xs → length (take w xs) ≡ w
  first_fits n xs h = let next = mul-suc w n in length-take-le w xs (omega arith)

  rest_fits : (n : ℕ) (xs : List A) → w * suc n ≤ length xs → w * n ≤ length (drop w xs)
  rest_fits n xs h = let next = mul-suc w n in let left = length-drop w xs in omega arith

  rest_length : (n : ℕ) (xs : List A) → length xs ≡ w * suc n → length (drop w xs) ≡ w * n
  rest_length n xs h = let next = mul-suc w n in let left = length-drop w xs in omega arith

  -- a cube p in front of r
  front_length : (n : ℕ) (p r xs : List A) → w * suc n ≤ length xs → length p ≡ w → length r ≡ length (drop w xs) → length (p ++ r) ≡ length xs
  front_length n p r xs h l e = let next = mul-suc w n in let left = length-drop w xs in length-append p r ∙ omega arith

  front_past : (n : ℕ) (p r xs : List A) → length p ≡ w → drop (w * n) r ≡ drop (w * n) (drop w xs) → drop (w * suc n) (p ++ r) ≡ drop (w * suc n) xs
  front_past n p r xs l e = past_next n (p ++ r) ∙ ap (drop (w * n)) (drop_at p r w l) ∙ e ∙ sym (past_next n xs)

-- the cubes of one tag
module _ {A : Type 0} (w s : ℕ) where
  pub own_length : (i : ℕ) (ts : List ℕ) (xs : List A) → w * length ts ≤ length xs → length (own w s ts xs) ≡ w * length (places_from s i ts)
  unfolding own places_from
  own_length i [] xs h = sym (mul-zero w)
  own_length i (t ∷ ts) xs h =
      let ps = places_from s (suc i) ts in
      let part = own w s ts (drop w xs) in
      let more = own_length (suc i) ts (drop w xs) (rest_fits w (length ts) xs h) in
      let first = first_fits w (length ts) xs h in
      let next = mul-suc w (length ps) in
      by_tag (λ (b : Bool). length (cond b (take w xs ++ part) part) ≡ w * length (cond b (i ∷ ps) ps)) (eqb t s)
      (λ e. length-append (take w xs) part ∙ omega arith)
      (λ e. more)

  own_alike : (t : ℕ) (ts : List ℕ) (xs ys : List A) → (t ≡ s → take w xs ≡ take w ys) → own w s ts (drop w xs) ≡ own w s ts (drop w ys)
      → own w s (t ∷ ts) xs ≡ own w s (t ∷ ts) ys
  unfolding own
  own_alike t ts xs ys f more =
      let x = own w s ts (drop w xs) in
      let y = own w s ts (drop w ys) in
      by_tag (λ (b : Bool). cond b (take w xs ++ x) x ≡ cond b (take w ys ++ y) y) (eqb t s) (λ e j. f (eqb-true t s e) j ++ more j) (λ e. more)

  -- a cube p in front of r
  front_alike : (t : ℕ) (ts : List ℕ) (p r xs : List A) → length p ≡ w → (t ≡ s → p ≡ take w xs) → own w s ts r ≡ own w s ts (drop w xs)
      → own w s (t ∷ ts) (p ++ r) ≡ own w s (t ∷ ts) xs
  front_alike t ts p r xs l f more = own_alike t ts (p ++ r) xs (λ q. take_at p r w l ∙ f q) (ap (own w s ts) (drop_at p r w l) ∙ more)

  front_own : (t : ℕ) (ts : List ℕ) (p r : List A) (b : Bool) → eqb t s ≡ b → length p ≡ w
      → own w s (t ∷ ts) (p ++ r) ≡ cond b (p ++ own w s ts r) (own w s ts r)
  unfolding own
  front_own t ts p r b e l = λ j. cond (e j) (take_at p r w l j ++ own w s ts (drop_at p r w l j)) (own w s ts (drop_at p r w l j))

  -- lists that agree at every cube of s have equal parts
  pub own_agreed : (ts : List ℕ) (xs ys : List A) → AgreeFor w s ts xs ys → own w s ts xs ≡ own w s ts ys
  unfolding own
  own_agreed [] xs ys f = refl
  own_agreed (t ∷ ts) xs ys f =
      own_alike t ts xs ys
      (λ q. sym (block_first w xs) ∙ f 0 (omega arith) q ∙ block_first w ys)
      (own_agreed ts (drop w xs) (drop w ys) (λ i l q. sym (block_next w xs i) ∙ f (suc i) (omega arith) q ∙ block_next w ys i))

  -- the part's first cube, and its rest
  own_first : (t : ℕ) (ts : List ℕ) (xs : List A) → w * length (t ∷ ts) ≤ length xs → t ≡ s → take w (own w s (t ∷ ts) xs) ≡ block w xs 0
  unfolding own
  own_first t ts xs h q =
      let part = own w s ts (drop w xs) in
      ap (λ (b : Bool). take w (cond b (take w xs ++ part) part)) (eq-eqb t s q)
      ∙ take_at (take w xs) part w (first_fits w (length ts) xs h)
      ∙ sym (block_first w xs)

  own_rest : (t : ℕ) (ts : List ℕ) (xs : List A) → w * length (t ∷ ts) ≤ length xs → drop (cond (eqb t s) w 0) (own w s (t ∷ ts) xs) ≡ own w s ts (drop w xs)
  unfolding own
  own_rest t ts xs h =
      let part = own w s ts (drop w xs) in
      by_tag (λ (b : Bool). drop (cond b w 0) (cond b (take w xs ++ part) part) ≡ part) (eqb t s)
      (λ e. drop_at (take w xs) part w (first_fits w (length ts) xs h))
      (λ e. refl)

  -- and lists with equal parts agree there
  pub agreed_own : (ts : List ℕ) (xs ys : List A) → w * length ts ≤ length xs → w * length ts ≤ length ys → own w s ts xs ≡ own w s ts ys
      → AgreeFor w s ts xs ys
  agreed_own [] xs ys h k e i l q = absurd (not-suc-le-zero l)
  agreed_own (t ∷ ts) xs ys h k e zero l q = sym (own_first t ts xs h q) ∙ ap (take w) e ∙ own_first t ts ys k q
  agreed_own (t ∷ ts) xs ys h k e (suc i) l q =
      let rest = sym (own_rest t ts xs h) ∙ ap (drop (cond (eqb t s) w 0)) e ∙ own_rest t ts ys k in
      block_next w xs i
      ∙ agreed_own ts (drop w xs) (drop w ys) (rest_fits w (length ts) xs h) (rest_fits w (length ts) ys k) rest i (le_of_suc-le-suc l) q
      ∙ sym (block_next w ys i)

-- the cubes of one tag replaced
module _ {A : Type 0} (w s : ℕ) where
  -- a part put back where it was changes nothing
  pub replaced_own : (ts : List ℕ) (xs : List A) → w * length ts ≤ length xs → replaced w s ts (own w s ts xs) xs ≡ xs
  unfolding own replaced
  replaced_own [] xs h = refl
  replaced_own (t ∷ ts) xs h =
      let first = first_fits w (length ts) xs h in
      let part = own w s ts (drop w xs) in
      let rest : List A → List A = λ p. replaced w s ts p (drop w xs) in
      let more : rest part ≡ drop w xs = replaced_own ts (drop w xs) (rest_fits w (length ts) xs h) in
      let whole : take w xs ++ rest part ≡ xs = ap (◌++◌ (take w xs)) more ∙ take-append-drop w xs in
      by_tag
      (λ (b : Bool). let p = cond b (take w xs ++ part) part in cond b (take w p ++ rest (drop w p)) (take w xs ++ rest p) ≡ xs)
      (eqb t s)
      (λ e. (λ j. take_at (take w xs) part w first j ++ rest (drop_at (take w xs) part w first j)) ∙ whole)
      (λ e. whole)

  -- the first cube comes from the part, or stays
  by_cube : (P : List A → Type 0) (i t : ℕ) (ts : List ℕ) (part xs : List A) → w * length (t ∷ ts) ≤ length xs → length part ≡ w * length (places_from s i (t ∷ ts))
      → (eqb t s ≡ true → length (take w part) ≡ w → length (drop w part) ≡ w * length (places_from s (suc i) ts) → P (take w part ++ replaced w s ts (drop w part) (drop w xs)))
      → (eqb t s ≡ false → length (take w xs) ≡ w → length part ≡ w * length (places_from s (suc i) ts) → P (take w xs ++ replaced w s ts part (drop w xs)))
      → P (replaced w s (t ∷ ts) part xs)
  unfolding replaced places_from
  by_cube P i t ts part xs h k f g =
      let ps = places_from s (suc i) ts in
      let put = take w part ++ replaced w s ts (drop w part) (drop w xs) in
      let kept = take w xs ++ replaced w s ts part (drop w xs) in
      by_tag (λ (b : Bool). length part ≡ w * length (cond b (i ∷ ps) ps) → P (cond b put kept)) (eqb t s)
      (λ e l. f e (first_fits w (length ps) part (omega arith)) (rest_length w (length ps) part l))
      (λ e. g e (first_fits w (length ts) xs h))
      k

  pub replaced_length : (i : ℕ) (ts : List ℕ) (part xs : List A) → w * length ts ≤ length xs → length part ≡ w * length (places_from s i ts)
      → length (replaced w s ts part xs) ≡ length xs
  unfolding replaced
  replaced_length i [] part xs h k = refl
  replaced_length i (t ∷ ts) part xs h k =
      let fits = rest_fits w (length ts) xs h in
      by_cube (λ (r : List A). length r ≡ length xs) i t ts part xs h k
      (λ e f l. front_length w (length ts) (take w part) _ xs h f (replaced_length (suc i) ts (drop w part) (drop w xs) fits l))
      (λ e f l. front_length w (length ts) (take w xs) _ xs h f (replaced_length (suc i) ts part (drop w xs) fits l))

  -- what follows the last cube stays
  pub past_replaced : (i : ℕ) (ts : List ℕ) (part xs : List A) → w * length ts ≤ length xs → length part ≡ w * length (places_from s i ts)
      → drop (w * length ts) (replaced w s ts part xs) ≡ drop (w * length ts) xs
  unfolding replaced
  past_replaced i [] part xs h k = refl
  past_replaced i (t ∷ ts) part xs h k =
      let fits = rest_fits w (length ts) xs h in
      by_cube (λ (r : List A). drop (w * suc (length ts)) r ≡ drop (w * suc (length ts)) xs) i t ts part xs h k
      (λ e f l. front_past w (length ts) (take w part) _ xs f (past_replaced (suc i) ts (drop w part) (drop w xs) fits l))
      (λ e f l. front_past w (length ts) (take w xs) _ xs f (past_replaced (suc i) ts part (drop w xs) fits l))

  -- what was put is read back
  pub own_replaced : (i : ℕ) (ts : List ℕ) (part xs : List A) → w * length ts ≤ length xs → length part ≡ w * length (places_from s i ts)
      → own w s ts (replaced w s ts part xs) ≡ part
  unfolding own replaced places_from
  own_replaced i [] part xs h k = let none = mul-zero w in take_all 0 part (omega arith)
  own_replaced i (t ∷ ts) part xs h k =
      let fits = rest_fits w (length ts) xs h in
      by_cube (λ (r : List A). own w s (t ∷ ts) r ≡ part) i t ts part xs h k
      (λ e f l. front_own w s t ts (take w part) _ true e f ∙ ap (◌++◌ (take w part)) (own_replaced (suc i) ts (drop w part) (drop w xs) fits l) ∙ take-append-drop w part)
      (λ e f l. front_own w s t ts (take w xs) _ false e f ∙ own_replaced (suc i) ts part (drop w xs) fits l)

  -- another tag's part stays
  pub other_replaced : (u i : ℕ) (ts : List ℕ) (part xs : List A) → (s ≡ u → ⊥) → w * length ts ≤ length xs → length part ≡ w * length (places_from s i ts)
      → own w u ts (replaced w s ts part xs) ≡ own w u ts xs
  unfolding own replaced
  other_replaced u i [] part xs d h k = refl
  other_replaced u i (t ∷ ts) part xs d h k =
      let fits = rest_fits w (length ts) xs h in
      by_cube (λ (r : List A). own w u (t ∷ ts) r ≡ own w u (t ∷ ts) xs) i t ts part xs h k
      (λ e f l. front_alike w u t ts (take w part) _ xs f (λ q. absurd (d (sym (eqb-true t s e) ∙ q))) (other_replaced u (suc i) ts (drop w part) (drop w xs) d fits l))
      (λ e f l. front_alike w u t ts (take w xs) _ xs f (λ q. refl) (other_replaced u (suc i) ts part (drop w xs) d fits l))
