-- The turns of a run: what is handed to the writes is what the blocks that came write, one after the other, and so the program's run of the whole.
-- Assumes nothing.
use mathlib.Core.Path.{◌≡◌, refl, sym, ap, ◌∙◌, subst}
use mathlib.Core.Bool.{Bool, true, false, cond}
use mathlib.Core.List.{List, [], ◌∷◌, ◌++◌, append-nil, append_assoc, foldr}
use mathlib.Core.Logic.{inl, inr}
use Prim.Native.Nat.{ℕ, ◌+◌, ◌≤◌}
use Rattle.std.proofs.Math.Bridge.{le_prop}
use lib.ListN.{take}
use Rattle.text.specs.Run.{at_end, run}
use Rattle.text.specs.Block.{Block, block_of, run_blocks}
use Rattle.text.proofs.Joins.{blocks_join}
use Rattle.std.specs.Prelude.{Option, Some, None, Ok, Err}
use Rattle.mc33.specs.declared.Failure.{Failure}
use Rattle.mc33.specs.declared.part.Part.{Part}
use Rattle.mc33.specs.Kept.{State, Left, TurnedBy, Turned}
use Rattle.mc33.specs.Runs.{most_turns, handed, Ran, begun, turned, Finished, going as going_of}

Err≢Ok : {r : State} {why : Failure} {o : Option Part} → r ≡ Err why → r ≡ Ok o → ⊥
Err≢Ok e f = cc

None≢Some : {r : State} {t : Part} → r ≡ Ok None → r ≡ Ok (Some t) → ⊥
None≢Some e f = cc

-- the first part line is empty, and its number is 1
begin_at : (r : State) (s t : Part) (buf : List ℕ) → s.have ≡ 0 → s.number ≡ 1 → r ≡ Ok (Some s) → r ≡ Ok (Some t) → (more : List (List ℕ))
    → run_blocks 1 [] more ≡ run_blocks t.number (take t.have buf) more
begin_at r s t buf h n d e more =
    let same : s ≡ t = cc in
    subst (λ (u : Part). run_blocks 1 [] more ≡ run_blocks u.number (take u.have buf) more) same (ap (λ (m : ℕ). run_blocks 1 (take m buf) more) (sym h) ∙ ap (λ (m : ℕ). run_blocks m (take s.have buf) more) (sym n))

-- these blocks came; what was handed to the writes, and then what the later blocks write, is what all the blocks write
abbrev Joined : List ℕ → List ℕ → ℕ → List ℕ → List (List ℕ) → Type 0
Joined came written number part inputs =
    (foldr ◌++◌ [] inputs ≡ came)
    × ((more : List (List ℕ)) → run_blocks 1 [] (inputs ++ more) ≡ written ++ run_blocks number part more)

one_more : (inputs : List (List ℕ)) (came more : List ℕ) → foldr ◌++◌ [] inputs ≡ came → foldr ◌++◌ [] (inputs ++ (more ∷ [])) ≡ came ++ more
one_more [] came more e = append-nil more ∙ ap (λ (w : List ℕ). w ++ more) e
one_more (input ∷ inputs) came more e =
    ap (λ (w : List ℕ). input ++ w) (one_more inputs (foldr ◌++◌ [] inputs) more refl)
    ∙ sym (append_assoc input (foldr ◌++◌ [] inputs) more)
    ∙ ap (λ (w : List ℕ). w ++ more) e

-- what a block that is not the end writes, and what the later blocks write behind it
block_more : (n : ℕ) (part more next : List ℕ) (number : ℕ) (later : List (List ℕ)) → (block_of n (part ++ more)).over ≡ false
    → number ≡ (block_of n (part ++ more)).number → next ≡ (block_of n (part ++ more)).left
    → run_blocks n part (more ∷ later) ≡ (block_of n (part ++ more)).written ++ run_blocks number next later
unfolding run_blocks
block_more n part more next number later o k l =
    let x : Block = block_of n (part ++ more) in
    ap (λ (b : Bool). x.written ++ cond b [] (run_blocks x.number x.left later)) o
    ∙ ap (λ (m : ℕ). x.written ++ run_blocks m x.left later) (sym k)
    ∙ ap (λ (p : List ℕ). x.written ++ run_blocks number p later) (sym l)

block_last : (n : ℕ) (part more : List ℕ) → (block_of n (part ++ more)).over ≡ true → run_blocks n part (more ∷ []) ≡ (block_of n (part ++ more)).written
unfolding run_blocks
block_last n part more o =
    let x : Block = block_of n (part ++ more) in
    ap (λ (b : Bool). x.written ++ cond b [] (run_blocks x.number x.left [])) o ∙ append-nil x.written

no_blocks : (n : ℕ) (part : List ℕ) → run_blocks n part [] ≡ at_end n part
unfolding run_blocks
no_blocks n part = refl

module _ (came written : List ℕ) (number : ℕ) (part : List ℕ) (inputs : List (List ℕ)) (j : Joined came written number part inputs) where
  -- a block came that was not the end
  joined_more : (more next : List ℕ) (line : ℕ) → (block_of number (part ++ more)).over ≡ false → next ≡ (block_of number (part ++ more)).left
      → line ≡ (block_of number (part ++ more)).number
      → Joined (came ++ more) (written ++ (block_of number (part ++ more)).written) line next (inputs ++ (more ∷ []))
  joined_more more next line o l k =
      let x : Block = block_of number (part ++ more) in (
        one_more inputs came more j.0,
        λ later.
            ap (run_blocks 1 []) (append_assoc inputs (more ∷ []) later)
            ∙ j.1 (more ∷ later)
            ∙ ap (λ (w : List ℕ). written ++ w) (block_more number part more next line later o k l)
            ∙ sym (append_assoc written x.written (run_blocks line next later)),
      )

  -- a block came that was the end
  joined_last : (more : List ℕ) → (block_of number (part ++ more)).over ≡ true → written ++ (block_of number (part ++ more)).written ≡ run (came ++ more)
  joined_last more o =
      ap (λ (w : List ℕ). written ++ w) (sym (block_last number part more o))
      ∙ sym (j.1 (more ∷ []))
      ∙ blocks_join (inputs ++ (more ∷ []))
      ∙ ap run (one_more inputs came more j.0)

  -- the input ended
  joined_end : written ++ at_end number part ≡ run (came ++ [])
  joined_end =
      ap (λ (w : List ℕ). written ++ w) (sym (no_blocks number part))
      ∙ sym (j.1 [])
      ∙ ap (run_blocks 1 []) (append-nil inputs)
      ∙ blocks_join inputs
      ∙ ap run (j.0 ∙ sym (append-nil came))

abbrev Going : List ℕ → List ℕ → Part → List ℕ → Type 0
Going came written s buf = (inputs : List (List ℕ)) × Joined came written s.number (take s.have buf) inputs

going_on : (more : List ℕ) (came written : List ℕ) (s t : Part) (r : State) (xs buf out : List ℕ) → Going came written s xs → TurnedBy more s xs r buf out
    → r ≡ Ok (Some t) → Going (came ++ more) (written ++ handed s.number (take s.have xs) more) t buf
going_on more came written s t r xs buf out j (inl e) g = absurd (Err≢Ok e g)
going_on [] came written s t r xs buf out j (inr (inl e)) g = absurd (Err≢Ok e g)
going_on [] came written s t r xs buf out j (inr (inr e)) g = absurd (None≢Some e.0 g)
going_on (b ∷ bs) came written s t r xs buf out j (inr (inl e)) g = absurd (Err≢Ok e.1 g)
going_on (b ∷ bs) came written s t r xs buf out j (inr (inr (h, inl e))) g = absurd (Err≢Ok e g)
going_on (b ∷ bs) came written s t r xs buf out j (inr (inr (h, inr k))) g =
    let left = subst (λ (o : State). Left o buf (block_of s.number (take s.have xs ++ (b ∷ bs)))) g k.left in
    (j.0 ++ ((b ∷ bs) ∷ []), joined_more came written s.number (take s.have xs) j.0 j.1 (b ∷ bs) (take t.have buf) t.number left.0 left.1.0 left.1.1)

going : {k : ℕ} {came written : List ℕ} {r : State} {buf : List ℕ} → Ran k came written r buf → (t : Part) → r ≡ Ok (Some t) → Going came written t buf
going (begun {s = s} {buf = buf} h n) t e = ([], (refl, λ more. begin_at _ s t buf h n refl e more))
going {buf = buf} (turned {came = came} {written = written} {s = s} {r = r} {xs = xs} out more ran w) t e =
    going_on more came written s t r xs buf out (going ran s refl) w e

stopping : (more : List ℕ) (came written : List ℕ) (s : Part) (r : State) (xs buf out : List ℕ) → Going came written s xs → TurnedBy more s xs r buf out
    → r ≡ Ok None → written ++ handed s.number (take s.have xs) more ≡ run (came ++ more)
stopping more came written s r xs buf out j (inl e) g = absurd (Err≢Ok e g)
stopping [] came written s r xs buf out j (inr (inl e)) g = absurd (Err≢Ok e g)
stopping [] came written s r xs buf out j (inr (inr e)) g = joined_end came written s.number (take s.have xs) j.0 j.1
stopping (b ∷ bs) came written s r xs buf out j (inr (inl e)) g = absurd (Err≢Ok e.1 g)
stopping (b ∷ bs) came written s r xs buf out j (inr (inr (h, inl e))) g = absurd (Err≢Ok e g)
stopping (b ∷ bs) came written s r xs buf out j (inr (inr (h, inr k))) g =
    joined_last came written s.number (take s.have xs) j.0 j.1 (b ∷ bs) (subst (λ (o : State). Left o buf (block_of s.number (take s.have xs ++ (b ∷ bs)))) g k.left)

-- a run that stops, and nothing failed
pub whole : {k : ℕ} {came written : List ℕ} {r : State} {buf : List ℕ} → Ran k came written r buf → r ≡ Ok None → written ≡ run came
whole (begun h n) e = absurd (None≢Some e refl)
whole {buf = buf} (turned {came = came} {written = written} {s = s} {r = r} {xs = xs} out more ran w) e =
    stopping more came written s r xs buf out (going ran s refl) w e

-- after so many turns
abbrev pub Running : ℕ → State → List ℕ → Type 0
Running k r buf = (came : List ℕ) × ((written : List ℕ) × Ran k came written r buf)

pub at_start : (s : Part) (buf : List ℕ) → s.have ≡ 0 → s.number ≡ 1 → Running 0 (Ok (Some s)) buf
at_start s buf h n = ([], ([], begun h n))

-- it does not matter how it is shown that the part line is short
pub same_part : (k have number : ℕ) (p q : have ≤ 81) (buf : List ℕ) → Running k (Ok (Some record { have = have; number = number; short = p })) buf
    → Running k (Ok (Some record { have = have; number = number; short = q })) buf
same_part k have number p q buf = subst (λ (h : have ≤ 81). Running k (Ok (Some record { have = have; number = number; short = h })) buf) (le_prop p q)

-- one more turn, from which the program goes on, or with which it ends
module _ (k have number : ℕ) (short : have ≤ 81) (t : State) (xs buf out : List ℕ) (h : Running k (Ok (Some record { have = have; number = number; short = short })) xs)
    (w : Turned record { have = have; number = number; short = short } xs t buf out) where
  pub one_turn : (r : State) → r ≡ t → Running (k + 1) r buf
  one_turn r e =
      (h.0 ++ w.0, (h.1.0 ++ handed number (take have xs) w.0, subst (λ (u : State). Ran (k + 1) (h.0 ++ w.0) (h.1.0 ++ handed number (take have xs) w.0) u buf) (sym e) (turned out w.0 h.1.1 w.1)))

  pub last_turn : (r : State) → r ≡ t → going_of r ≡ false → Finished r buf
  last_turn r e g = let d = one_turn r e in record { turns = k + 1; came = d.0; written = d.1.0; ran = d.1.1; ends = inl g; whole = whole d.1.1 }

pub all_used : (k : ℕ) (r : State) (buf : List ℕ) → k ≡ most_turns → Running k r buf → Finished r buf
all_used k r buf e (came, (written, ran)) = record { turns = k; came = came; written = written; ran = ran; ends = inr e; whole = whole ran }
