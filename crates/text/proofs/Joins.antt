-- What the blocks of an input write is the run of the whole. Assumes nothing.
use mathlib.Core.Path.{◌≡◌, refl, sym, ap, ◌∙◌}
use mathlib.Core.Bool.{Bool, true, false, cond}
use mathlib.Core.List.{List, [], ◌∷◌, ◌++◌, append-nil, append_assoc, foldr}
use Prim.Native.Nat.{ℕ, suc, ◌≤◌}
use native.Mathlib.Omega.{arith}
use lib.Dec.{eqb, leb}
use lib.ListN.{length}
use borrow.Author.Tests.{leb-true, leb-false}
use Rattle.answer.specs.Answer.{Reply, answer, refusal, reply_to, refused_line}
use Rattle.text.specs.Run.{follow, run_from, run}
use Rattle.text.specs.Block.{Block, block, stopped, after, block_from, block_of, onward, Composes, run_blocks, BlocksJoin}
use Rattle.text.proofs.Lines.{Plain, plain_nil, plain_snoc, run_gathers}
use Rattle.text.proofs.Overlong.{run_overlong}

-- the whole of what comes out when `rest` follows a block
abbrev Whole : Block → List ℕ → List ℕ
Whole x rest = x.written ++ onward x rest

whole_end : (t : Bool) (n : ℕ) (part rest : List ℕ) → leb 82 (length part) ≡ t → Plain part
    → Whole (cond t (stopped 8 n) (block [] part n false)) rest ≡ run_from n part rest
unfolding onward
whole_end true n part rest e h =
    append-nil (refused_line 8 n) ∙ sym (run_overlong n part rest (leb-true 82 (length part) e))
whole_end false n part rest e h = run_gathers n [] part rest h

whole_after : (r : Reply) (n : ℕ) (x : Block) (rest next : List ℕ) → Whole x rest ≡ next → Whole (after r n x) rest ≡ follow r n next
unfolding onward follow
whole_after (answer text) n x rest next e = append_assoc text x.written (onward x rest) ∙ ap (λ (w : List ℕ). text ++ w) e
whole_after (refusal why) n x rest next e = append-nil (refused_line why n)

whole_step : (t : Bool) (x y : Block) {u v : List ℕ} (rest : List ℕ) → (t ≡ true → Whole x rest ≡ u) → (t ≡ false → Whole y rest ≡ v) → Whole (cond t x y) rest ≡ cond t u v
whole_step true x y rest p q = p refl
whole_step false x y rest p q = q refl

whole_from : (n : ℕ) (part input rest : List ℕ) → Plain part → Whole (block_from n part input) rest ≡ run_from n part (input ++ rest)
unfolding block_from run_from
whole_from n part [] rest h = whole_end (leb 82 (length part)) n part rest refl h
whole_from n part (b ∷ bs) rest h =
    let next : Block = block_from (suc n) [] bs in
    let longer : List ℕ = part ++ (b ∷ []) in
    whole_step (eqb b 10) (after (reply_to n part) n next) (block_from n longer bs) rest
    (λ e. whole_after (reply_to n part) n next rest (run_from (suc n) [] (bs ++ rest)) (whole_from (suc n) [] bs rest plain_nil))
    (λ e. whole_from n longer bs rest (plain_snoc part b h e))

pub composes : (number : ℕ) (input : List ℕ) → Composes number input
unfolding block_of
composes number input rest = whole_from number [] input rest plain_nil

-- a part line that is left: no newline, and no more than a line may have
abbrev Part : List ℕ → Type 0
Part part = Plain part × (length part ≤ 81)

part_nil : Part []
part_nil = (plain_nil, omega arith)

left_end : (t : Bool) (n : ℕ) (part : List ℕ) → leb 82 (length part) ≡ t → Plain part → Part (cond t (stopped 8 n) (block [] part n false)).left
left_end true n part e h = part_nil
left_end false n part e h = let short = leb-false 82 (length part) e in (h, omega arith)

left_after : (r : Reply) (n : ℕ) (x : Block) → Part x.left → Part (after r n x).left
left_after (answer text) n x h = h
left_after (refusal why) n x h = part_nil

left_step : (t : Bool) (x y : Block) → (t ≡ true → Part x.left) → (t ≡ false → Part y.left) → Part (cond t x y).left
left_step true x y p q = p refl
left_step false x y p q = q refl

left_from : (n : ℕ) (part input : List ℕ) → Plain part → Part (block_from n part input).left
unfolding block_from
left_from n part [] h = left_end (leb 82 (length part)) n part refl h
left_from n part (b ∷ bs) h =
    let next : Block = block_from (suc n) [] bs in
    let longer : List ℕ = part ++ (b ∷ []) in
    left_step (eqb b 10) (after (reply_to n part) n next) (block_from n longer bs)
    (λ e. left_after (reply_to n part) n next (left_from (suc n) [] bs plain_nil))
    (λ e. left_from n longer bs (plain_snoc part b h e))

pub left_short : (number : ℕ) (input : List ℕ) → length (block_of number input).left ≤ 81
unfolding block_of
left_short number input = (left_from number [] input plain_nil).1

join_from : (n : ℕ) (part : List ℕ) (inputs : List (List ℕ)) → Plain part → run_blocks n part inputs ≡ run_from n [] (part ++ foldr ◌++◌ [] inputs)
unfolding run_blocks onward run_from block_of
join_from n part [] h = sym (run_gathers n [] part [] h)
join_from n part (input ∷ inputs) h =
    let x : Block = block_of n (part ++ input) in
    let rest : List ℕ = foldr ◌++◌ [] inputs in
    ap (λ (w : List ℕ). x.written ++ cond x.over [] w)
    (join_from x.number x.left inputs (left_from n [] (part ++ input) plain_nil).0)
    ∙ composes n (part ++ input) rest
    ∙ ap (run_from n []) (append_assoc part input rest)

pub blocks_join : BlocksJoin
unfolding run
blocks_join inputs = join_from 1 [] inputs plain_nil
