-- What holds of one call holds of a call that is retried, since a call that fails takes and puts no byte. Assumes nothing.
use mathlib.Core.Path.{◌≡◌, sym, ◌∙◌, subst}
use Prim.Native.Nat.{ℕ}
use mathlib.Core.List.{List}
use lib.ListN.{length, take}
use Rattle.std.specs.Prelude.{Option, None, Some, Result, Ok, Err}
use Rattle.std.specs.declared.io.Error.{Error}
use Rattle.std.specs.Io.KnownBytes.{Keeps, Appends}
use Rattle.std.proofs.KnownBytes.{Keeps-trans}
use Rattle.waiting.specs.Waits.{Moved, Passed, none, again, Retried}
use Rattle.waiting.specs.Bytes.{Takes, Puts}

kept_takes : (a b c : Option (List ℕ)) (r : Result ℕ Error) (room : List ℕ) → Keeps a b → Takes b c r room → Takes a c r room
kept_takes None b c (Ok n) room k t = (tt, t.1)
kept_takes (Some xs) None c (Ok n) room k t = absurd k
kept_takes (Some xs) (Some ys) None (Ok n) room k t = t
kept_takes (Some xs) (Some ys) (Some zs) (Ok n) room k t = (sym k ∙ t.0, t.1)
kept_takes a b c (Err e) room k t = Keeps-trans a b c k t

kept_puts : (a b c : Option (List ℕ)) (r : Result ℕ Error) (text : List ℕ) → Keeps a b → Puts b c r text → Puts a c r text
kept_puts None b c (Ok n) text k t = tt
kept_puts (Some xs) None c (Ok n) text k t = absurd k
kept_puts (Some xs) (Some ys) (Some zs) (Ok n) text k t = subst (λ (w : List ℕ). Appends (Some w) (Some zs) (take n text)) k t
kept_puts (Some xs) (Some ys) None (Ok n) text k t = t
kept_puts a b c (Err e) text k t = Keeps-trans a b c k t

module _ {F : Type 0} (call : F → Result ℕ Error → F → Type 0) (P : F → Result ℕ Error → F → Type 0) (one : (f : F) (r : Result ℕ Error) (g : F) → call f r g → P f r g)
    (more : (f g h : F) (e : Error) (r : Result ℕ Error) → P f (Err e) g → P g r h → P f r h) where
  all_passed : {k : ℕ} {f g : F} → Passed call k f g → (r : Result ℕ Error) (h : F) → P g r h → P f r h
  all_passed none r h p = p
  all_passed (again e passed step passes) r h p = all_passed passed r h (more _ _ h e r (one _ _ _ step) p)

  pub retried : {f h : F} {r : Result ℕ Error} → Retried call f r h → P f r h
  retried {h = h} {r = r} t = all_passed t.passed r h (one _ _ _ t.last)

-- a read from the state f to h, of a reader whose bytes are known, into the room; both stay the ones that were lent
pub record DidRead {F N M : Type 0} (lent : F → N) (lent_room : F → M) (known : F → Option (List ℕ)) (room : F → List ℕ) (f : F) (r : Result ℕ Error) (h : F) : Type 0 where
  pub same : lent h ≡ lent f
  pub same_room : lent_room h ≡ lent_room f
  pub same_length : length (room h) ≡ length (room f)
  pub moved : Moved (length (room f)) r
  pub bytes : Takes (known f) (known h) r (room h)

pub read_more : {F N M : Type 0} {lent : F → N} {lent_room : F → M} {known : F → Option (List ℕ)} {room : F → List ℕ} (f g h : F) (e : Error) (r : Result ℕ Error)
    → DidRead lent lent_room known room f (Err e) g → DidRead lent lent_room known room g r h → DidRead lent lent_room known room f r h
read_more {known = known} {room = room} f g h e r a b = record {
  same = b.same ∙ a.same;
  same_room = b.same_room ∙ a.same_room;
  same_length = b.same_length ∙ a.same_length;
  moved = subst (λ (n : ℕ). Moved n r) a.same_length b.moved;
  bytes = kept_takes (known f) (known g) (known h) r (room h) a.bytes b.bytes;
}

-- a write of the text from the state f to h, to a writer whose bytes are known, which stays the one that was lent
pub record DidWrite {F N : Type 0} (lent : F → N) (known : F → Option (List ℕ)) (text : F → List ℕ) (f : F) (r : Result ℕ Error) (h : F) : Type 0 where
  pub same : lent h ≡ lent f
  pub same_text : text h ≡ text f
  pub moved : Moved (length (text f)) r
  pub bytes : Puts (known f) (known h) r (text f)

pub write_more : {F N : Type 0} {lent : F → N} {known : F → Option (List ℕ)} {text : F → List ℕ} (f g h : F) (e : Error) (r : Result ℕ Error)
    → DidWrite lent known text f (Err e) g → DidWrite lent known text g r h → DidWrite lent known text f r h
write_more {known = known} {text = text} f g h e r a b = record {
  same = b.same ∙ a.same;
  same_text = b.same_text ∙ a.same_text;
  moved = subst (λ (xs : List ℕ). Moved (length xs) r) a.same_text b.moved;
  bytes = kept_puts (known f) (known g) (known h) r (text f) a.bytes (subst (Puts (known g) (known h) r) a.same_text b.bytes);
}
