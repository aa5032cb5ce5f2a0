-- Text put at a place: its length, one text after another, a copy and a move. Assumes nothing.
use mathlib.Core.Path.{◌≡◌, refl, sym, ap, ◌∙◌, subst}
use mathlib.Core.List.{List, [], ◌++◌, append_assoc}
use Prim.Native.Nat.{ℕ, ◌+◌, ◌-◌, ◌≤◌}
use native.Mathlib.Nat.{add-zero, add_assoc}
use native.Mathlib.Omega.{arith}
use lib.ListN.{length, take, drop, length-append, length-drop, take-append-drop}
use lib.Seq.{length-take-le, take_at, drop-append-add, drop-drop}
use borrow.Rule.Slice.PartMut.{put_mid}
use Rattle.std.specs.List.{copy_within}
use Rattle.std.proofs.lemmas.Slice.{put_mid-paste}
use Rattle.std.proofs.lemmas.List.Edits.{paste_all}
use Rattle.put.specs.Placed.{placed}

pub placed_length : (xs : List ℕ) (at : ℕ) (text : List ℕ) → at + length text ≤ length xs → length (placed xs at text) ≡ length xs
unfolding placed
placed_length xs at text h =
    let whole = length-append (take at xs) (text ++ drop (at + length text) xs) in
    let rest = length-append text (drop (at + length text) xs) in
    let before = length-take-le at xs (omega arith) in
    let after = length-drop (at + length text) xs in
    omega arith

pub placed_nothing : (xs : List ℕ) (at : ℕ) → placed xs at [] ≡ xs
unfolding placed
placed_nothing xs at = ap (λ (k : ℕ). take at xs ++ drop k xs) (add-zero at) ∙ take-append-drop at xs

pub placed_front : (xs text : List ℕ) (n : ℕ) → length text ≡ n → take n (placed xs 0 text) ≡ text
unfolding placed
placed_front xs text n e = take_at text (drop (0 + length text) xs) n e

-- m elements past a first part, which has n
drop_past : (p q : List ℕ) (n m : ℕ) → length p ≡ n → drop (n + m) (p ++ q) ≡ drop m q
drop_past p q n m e = subst (λ (k : ℕ). drop (k + m) (p ++ q) ≡ drop m q) e (drop-append-add p q m)

-- a text, and more right after it
pub placed_twice : (xs : List ℕ) (at : ℕ) (text more : List ℕ) → at + length text + length more ≤ length xs
    → placed (placed xs at text) (at + length text) more ≡ placed xs at (text ++ more)
unfolding placed
placed_twice xs at text more h =
    let k = at + length text in
    let front = take at xs ++ text in
    let e : length front ≡ k = length-append (take at xs) text ∙ ap (λ (m : ℕ). m + length text) (length-take-le at xs (omega arith)) in
    ap (λ (l : List ℕ). take k l ++ (more ++ drop (k + length more) l)) (sym (append_assoc (take at xs) text (drop k xs)))
    ∙ ap (λ (l : List ℕ). l ++ (more ++ drop (k + length more) (front ++ drop k xs))) (take_at front (drop k xs) k e)
    ∙ ap (λ (l : List ℕ). front ++ (more ++ l)) (drop_past front (drop k xs) k (length more) e ∙ drop-drop (length more) k xs)
    ∙ append_assoc (take at xs) text (more ++ drop (k + length more) xs)
    ∙ ap (λ (l : List ℕ). take at xs ++ l) (sym (append_assoc text more (drop (k + length more) xs)))
    ∙ ap (λ (m : ℕ). take at xs ++ (text ++ more ++ drop m xs)) (add_assoc at (length text) (length more) ∙ ap (λ (m : ℕ). at + m) (sym (length-append text more)))

-- the same of what was put, and what was put after it
pub placed_after : (xs : List ℕ) (at : ℕ) (text ys : List ℕ) (i : ℕ) (more zs : List ℕ) → at + length text + length more ≤ length xs
    → i ≡ at + length text → ys ≡ placed xs at text → zs ≡ placed ys i more → zs ≡ placed xs at (text ++ more)
placed_after xs at text ys i more zs h e p q = q ∙ (λ j. placed (p j) (e j) more) ∙ placed_twice xs at text more h

-- a text copied to its place
pub copied : (xs : List ℕ) (at k : ℕ) (text ys : List ℕ) → ys ≡ text → k ≡ length text → put_mid at k xs ys ≡ placed xs at text
unfolding placed
copied xs at k text ys e p = put_mid-paste at k xs ys text (length text) e (sym p) refl ∙ paste_all xs at text (length text) refl

-- bytes moved to the front
pub moved : (xs : List ℕ) (from to : ℕ) → to ≤ length xs → copy_within xs from to 0 ≡ placed xs 0 (take (to - from) (drop from xs))
unfolding placed
moved xs from to h =
    let text = take (to - from) (drop from xs) in
    let n : length text ≡ to - from = length-take-le (to - from) (drop from xs) (omega (arith, length-drop from xs)) in
    ap (λ (k : ℕ). text ++ drop (0 + k) xs) (sym n)
