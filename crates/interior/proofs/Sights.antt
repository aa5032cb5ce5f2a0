-- What is seen at the edge picked, as code comes to it, and what is seen joined. Assumes nothing.
use mathlib.Core.Path.{◌≡◌}
use mathlib.Core.Bool.{Bool, false, or-false}
use Prim.Native.Nat.{ℕ}
use lib.IntN.{pos}
use lib.Ieee.{Float}
use Rattle.std.proofs.Math.Bool.{or_assoc}
use Rattle.std.proofs.Math.Nat.{zero-add, add_assoc}
use Rattle.binary32.specs.Numbers.{f32}
use Rattle.edge.specs.Edge.{quotients, edge_by}
use Rattle.edge.specs.declared.Moves.{Moves}
use Rattle.edge.specs.Moves.{moves_of, read_of}
use Rattle.notes.specs.declared.Notes.{Notes}
use Rattle.notes.specs.Notes.{no_notes, added}
use Rattle.notes.proofs.Sums.{added_none}
use Rattle.interior.specs.declared.Sight.{Sight}
use Rattle.interior.specs.Pick.{Picked}
use Rattle.interior.specs.Interior.{seen, seen_as, look_at, joined}

-- ---- the reading at the edge picked
pub looked_at : (corner : ℕ → Float) (p : Picked) (matched : Bool) (m : Moves) (x : Sight)
    → matched ≡ p.matched → m ≡ moves_of corner (pos p.edge) → x ≡ seen_as f32 quotients matched (read_of m) → x ≡ look_at f32 quotients corner p
unfolding look_at edge_by moves_of read_of
looked_at corner p matched m x ep em ex = rw (ex, em, ep)

-- ---- two joined
-- nothing seen joins to nothing more
pub joined_none : (x : Sight) → joined x (seen false no_notes) ≡ x
unfolding joined
joined_none x = λ i. seen (or-false x.hit i) (added_none x.notes i)

none_added : (m : Notes) → added no_notes m ≡ m
none_added m = λ i. record { unsettled = zero-add m.unsettled i; unmatched = zero-add m.unmatched i; readings = zero-add m.readings i }

pub none_joined : (x : Sight) → joined (seen false no_notes) x ≡ x
unfolding joined
none_joined x = λ i. seen x.hit (none_added x.notes i)

-- three joined, from the left and from the right
same_added : (x y z : Notes) → added (added x y) z ≡ added x (added y z)
same_added x y z =
    λ i. record {
      unsettled = add_assoc x.unsettled y.unsettled z.unsettled i;
      unmatched = add_assoc x.unmatched y.unmatched z.unmatched i;
      readings = add_assoc x.readings y.readings z.readings i;
    }

pub joined_assoc : (x y z : Sight) → joined (joined x y) z ≡ joined x (joined y z)
unfolding joined
joined_assoc x y z = λ i. seen (or_assoc x.hit y.hit z.hit i) (same_added x.notes y.notes z.notes i)
