-- Where a line ends: up to a newline a run and a block gather bytes. Assumes nothing.
use mathlib.Core.Path.{◌≡◌, refl, sym, ap, ◌∙◌}
use mathlib.Core.Bool.{Bool, true, false}
use mathlib.Core.List.{List, [], ◌∷◌, ◌++◌, append-nil}
use Prim.Native.Nat.{ℕ, suc, ◌<◌}
use native.Mathlib.Nat.{suc-ne-zero, suc_inj}
use lib.Dec.{eqb}
use lib.ListN.{length, take, drop}
use lib.Seq.{append_snoc}
use Rattle.scan.specs.Bytes.{index_after, index_of}
use Rattle.line.proofs.Cuts.{cut_at}
use Rattle.answer.specs.Answer.{reply_to}
use Rattle.text.specs.Run.{run_from}
use Rattle.text.specs.Block.{after, block_from, block_of}

-- no byte of xs is a newline
abbrev pub Plain : List ℕ → Type 0
Plain xs = index_of 10 xs ≡ length xs

pub plain_nil : Plain []
unfolding index_of
plain_nil = refl

not_first : (t : Bool) (k m : ℕ) → index_after t k ≡ suc m → (t ≡ false) × (k ≡ m)
unfolding index_after
not_first true k m e = absurd (suc-ne-zero m (sym e))
not_first false k m e = (refl, suc_inj e)

pub plain_parts : (x : ℕ) (xs : List ℕ) → Plain (x ∷ xs) → (eqb x 10 ≡ false) × Plain xs
unfolding index_of
plain_parts x xs h = not_first (eqb x 10) (index_of 10 xs) (length xs) h

pub plain_cons : (x : ℕ) (xs : List ℕ) → eqb x 10 ≡ false → Plain xs → Plain (x ∷ xs)
unfolding index_of index_after
plain_cons x xs e h = ap (λ (t : Bool). index_after t (index_of 10 xs)) e ∙ ap suc h

pub plain_snoc : (xs : List ℕ) (x : ℕ) → Plain xs → eqb x 10 ≡ false → Plain (xs ++ (x ∷ []))
plain_snoc [] x h e = plain_cons x [] e plain_nil
plain_snoc (y ∷ ys) x h e =
    plain_cons y (ys ++ (x ∷ [])) (plain_parts y ys h).0 (plain_snoc ys x (plain_parts y ys h).1 e)

-- what gathers each byte that is no newline gathers a text that has none
gathers : {A : Type 0} (F : List ℕ → List ℕ → A) → ((part : List ℕ) (x : ℕ) (xs : List ℕ) → eqb x 10 ≡ false → F part (x ∷ xs) ≡ F (part ++ (x ∷ [])) xs)
    → (part xs ys : List ℕ) → Plain xs → F part (xs ++ ys) ≡ F (part ++ xs) ys
gathers F step part [] ys h = ap (λ (p : List ℕ). F p ys) (sym (append-nil part))
gathers F step part (x ∷ xs) ys h =
    let p = plain_parts x xs h in
    step part x (xs ++ ys) p.0 ∙ gathers F step (part ++ (x ∷ [])) xs ys p.1 ∙ ap (λ (p : List ℕ). F p ys) (append_snoc part x xs)

pub run_gathers : (n : ℕ) (part xs ys : List ℕ) → Plain xs → run_from n part (xs ++ ys) ≡ run_from n (part ++ xs) ys
unfolding run_from
run_gathers n = gathers (run_from n) (λ part x xs e. rw e)

block_gathers : (n : ℕ) (part xs ys : List ℕ) → Plain xs → block_from n part (xs ++ ys) ≡ block_from n (part ++ xs) ys
unfolding block_from
block_gathers n = gathers (block_from n) (λ part x xs e. rw e)

-- a whole line and what follows
pub whole_line : (n : ℕ) (xs ys : List ℕ) → Plain xs → block_of n (xs ++ 10 ∷ ys) ≡ after (reply_to n xs) n (block_of (suc n) ys)
unfolding block_of block_from
whole_line n xs ys h = block_gathers n [] xs (10 ∷ ys) h

-- a line that has not ended
pub part_line : (n : ℕ) (xs : List ℕ) → Plain xs → block_of n xs ≡ block_from n xs []
unfolding block_of
part_line n xs h = ap (block_from n []) (sym (append-nil xs)) ∙ block_gathers n [] xs [] h

plain_after : (t : Bool) (x k : ℕ) (xs : List ℕ) → eqb x 10 ≡ t → Plain (take k xs) → Plain (take (index_after t k) (x ∷ xs))
unfolding index_after
plain_after true x k xs e ih = plain_nil
plain_after false x k xs e ih = plain_cons x (take k xs) e ih

pub plain_front : (xs : List ℕ) → Plain (take (index_of 10 xs) xs)
unfolding index_of
plain_front [] = refl
plain_front (x ∷ xs) = plain_after (eqb x 10) x (index_of 10 xs) xs refl (plain_front xs)

pub next_line : (n : ℕ) (xs : List ℕ) → index_of 10 xs < length xs → block_of n xs ≡ after (reply_to n (take (index_of 10 xs) xs)) n (block_of (suc n) (drop (suc (index_of 10 xs)) xs))
next_line n xs h =
    ap (block_of n) (cut_at 10 xs h) ∙ whole_line n (take (index_of 10 xs) xs) (drop (suc (index_of 10 xs)) xs) (plain_front xs)
