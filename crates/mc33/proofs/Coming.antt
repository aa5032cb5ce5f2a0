-- What a read tells: that it failed, that the input ended, or how many bytes came behind the part line, which stands as it was. Assumes nothing.
use mathlib.Core.Path.{◌≡◌, sym, subst}
use mathlib.Core.List.{List, [], ◌∷◌, ◌++◌}
use mathlib.Core.Logic.{inl, inr}
use Prim.Native.Nat.{ℕ, ◌+◌, ◌≤◌}
use native.Mathlib.Omega.{arith}
use lib.ListN.{length, take, drop, length-drop}
use lib.Seq.{length-take-le, take-add, take_at}
use Rattle.std.specs.Prelude.{Result, Ok, Err}
use Rattle.std.specs.declared.io.Error.{Error}
use Rattle.text.specs.Block.{block_of}
use Rattle.mc33.specs.declared.part.Part.{Part}
use Rattle.mc33.specs.Kept.{State, Kept, Counted, Came, Told, Turned}

some_bytes : (number : ℕ) (part came : List ℕ) (r : State) (buf out : List ℕ) → 1 ≤ length came → Counted number r (Kept r buf out (block_of number (part ++ came)))
    → Came came number part r buf out
some_bytes number part [] r buf out h x = absurd (omega arith)
some_bytes number part (b ∷ bs) r buf out h x = x

pub some_came : (got : Result ℕ Error) (s : Part) (r : State) (xs buf out : List ℕ) (n : ℕ) → got ≡ Ok n → 1 ≤ n → s.have + n ≤ length xs
    → Counted s.number r (Kept r buf out (block_of s.number (take (s.have + n) xs))) → Told got s xs r buf out
some_came got s r xs buf out n g h l x =
    let d = length-drop s.have xs in
    let t = length-take-le n (drop s.have xs) (omega arith) in
    let came = some_bytes s.number (take s.have xs) (take n (drop s.have xs)) r buf out (omega arith)
    (subst (λ (w : List ℕ). Counted s.number r (Kept r buf out (block_of s.number w))) (take-add s.have n xs) x) in
    subst (λ (o : Result ℕ Error). Told o s xs r buf out) (sym g) came

-- what was read went behind the part line
pub behind : (s : Part) (r : State) (xs buf out more : List ℕ) (got : Result ℕ Error) → s.have ≤ length xs → Told got s (take s.have xs ++ more) r buf out
    → Turned s xs r buf out
behind s r xs buf out more (Err e) h f = ([], inl f)
behind s r xs buf out more (Ok n) h x =
    let part = take s.have xs in
    let came = take n (drop s.have (part ++ more)) in
    let e = take_at part more s.have (length-take-le s.have xs h) in
    (came, inr (subst (λ (p : List ℕ). Came came s.number p r buf out) e x))
