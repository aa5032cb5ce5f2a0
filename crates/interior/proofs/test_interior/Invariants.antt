use Rattle.std.proofs.Common.{◌≡◌, ◌*◌, ◌≤◌, map, drop}
use Rattle.interior.specs.Interior.{joined, counted, inside_of}
use Rattle.interior.proofs.test_interior.Given as goal

-- what was seen so far, with what the faces that are left will show, is the whole; and no more was counted than a reading of each counts
abbrev pub invariant-loop-face : goal.invariant-loop-face
invariant-loop-face g l = record {
  seen : joined l.sofar (inside_of l.fn.q (map (λ face. face.n) (drop l.face-index l.fn.faces)) l.fn.side.0)
      ≡ inside_of l.fn.q (map (λ face. face.n) l.fn.faces) l.fn.side.0;
  few : counted l.sofar ≤ 3 * l.face-index;
}
