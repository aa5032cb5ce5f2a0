-- Texts appended one after another: the fields of a line, and the line of a refusal. Assumes nothing.
use mathlib.Core.Path.{◌≡◌, refl, sym, ap, ◌∙◌}
use mathlib.Core.List.{List, [], ◌∷◌, ◌++◌, append_assoc, append-nil}
use Prim.Native.Nat.{ℕ, suc, ◌+◌, ◌≤◌, ◌<◌}
use native.Mathlib.Omega.{arith}
use lib.ListN.{length, take, get_or}
use lib.Seq.{take_all, take-suc}
use Rattle.put.specs.Decimal.{decimal}
use Rattle.answer.specs.Answer.{fields, refused_word, refused_line}

-- numbers with a space behind each
abbrev pub spaced : List ℕ → List ℕ
spaced [] = []
spaced (n ∷ ns) = (decimal n ++ (32 ∷ [])) ++ spaced ns

spaced_snoc : (ns : List ℕ) (n : ℕ) → spaced (ns ++ (n ∷ [])) ≡ spaced ns ++ (decimal n ++ (32 ∷ []))
spaced_snoc [] n = append-nil (decimal n ++ (32 ∷ []))
spaced_snoc (m ∷ ms) n =
    ap (λ (l : List ℕ). (decimal m ++ (32 ∷ [])) ++ l) (spaced_snoc ms n)
    ∙ sym (append_assoc (decimal m ++ (32 ∷ [])) (spaced ms) (decimal n ++ (32 ∷ [])))

-- a turn of the loop over the numbers
pub spaced_more : (ns : List ℕ) (k : ℕ) (before now after : List ℕ) → k < length ns → now ≡ before ++ spaced (take k ns)
    → after ≡ now ++ (decimal (get_or ns k 0) ++ (32 ∷ [])) → after ≡ before ++ spaced (take (k + 1) ns)
spaced_more ns k before now after h e f =
    let on : suc k ≡ k + 1 = omega arith in
    f
    ∙ ap (λ (l : List ℕ). l ++ (decimal (get_or ns k 0) ++ (32 ∷ []))) e
    ∙ append_assoc before (spaced (take k ns)) (decimal (get_or ns k 0) ++ (32 ∷ []))
    ∙ ap (λ (l : List ℕ). before ++ l) (sym (spaced_snoc (take k ns) (get_or ns k 0)) ∙ ap spaced (sym (take-suc ns k 0 h) ∙ ap (λ (j : ℕ). take j ns) on))

-- a line's last number, with the newline
spaced_last : (ns : List ℕ) (n : ℕ) → fields (ns ++ (n ∷ [])) ≡ spaced ns ++ (decimal n ++ (10 ∷ []))
unfolding fields
spaced_last [] n = refl
spaced_last (m ∷ []) n = simp append_assoc
spaced_last (m ∷ k ∷ ms) n = ap (λ (l : List ℕ). decimal m ++ ((32 ∷ []) ++ l)) (spaced_last (k ∷ ms) n) ∙ simp append_assoc

pub fields_put : (ns : List ℕ) (n k : ℕ) (before now after : List ℕ) → length ns ≤ k → now ≡ before ++ spaced (take k ns)
    → after ≡ now ++ (decimal n ++ (10 ∷ [])) → after ≡ before ++ fields (ns ++ (n ∷ []))
fields_put ns n k before now after all e f =
    f
    ∙ ap (λ (l : List ℕ). l ++ (decimal n ++ (10 ∷ []))) (e ∙ ap (λ (l : List ℕ). before ++ spaced l) (take_all k ns all))
    ∙ append_assoc before (spaced ns) (decimal n ++ (10 ∷ []))
    ∙ ap (λ (l : List ℕ). before ++ l) (sym (spaced_last ns n))

pub refused_put : (why number : ℕ) (before a b c after : List ℕ) → a ≡ before ++ refused_word → b ≡ a ++ (decimal why ++ (32 ∷ []))
    → c ≡ b ++ decimal number → after ≡ c ++ (10 ∷ []) → after ≡ before ++ refused_line why number
unfolding refused_line
refused_put why number before a b c after e f g h = rw (h, g, f, e) (simp append_assoc)
