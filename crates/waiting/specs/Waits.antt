-- When a call is made again. Definitions only.
use Rattle.std.specs.Prelude.{ℕ, ◌+◌, ◌-◌, ◌^◌, ◌≤◌, ◌≡◌, Bool, true, false, ◌⊎◌, Result, Err, IfOk, IfErr}
use Rattle.std.specs.IoError.{error_kind}
use Rattle.std.specs.declared.io.ErrorKind.{ErrorKind}
use Rattle.std.specs.declared.io.Error.{Error}

-- a loop has to end: so many times a call is made again at most
abbrev pub most_tries : ℕ
most_tries = 2 ^ 64 - 1

-- the call failed, but for now only: a signal interrupted it, or its descriptor would block
abbrev pub passing : ErrorKind → Bool
passing ErrorKind.Interrupted = true
passing ErrorKind.WouldBlock = true
passing _ = false

-- an answer stands where it is not passing, or after the most tries
abbrev pub Stands : Result ℕ Error → ℕ → Type 0
Stands answer tries = IfErr answer (λ e. passing (error_kind e) ≡ false) ⊎ (tries ≡ most_tries)

-- what a call that is handed n bytes may answer: an error, or how many bytes it moved, at most n
abbrev pub Moved : ℕ → Result ℕ Error → Type 0
Moved n answer = IfOk answer (λ k. k ≤ n)

-- so many calls, by `call` from one state to the next, each of which failed for now only
pub data Passed {F : Type 0} (call : F → Result ℕ Error → F → Type 0) : ℕ → F → F → Type 0 where
  none : {f : F} → Passed call 0 f f
  again : {k : ℕ} {f g h : F} (e : Error) → Passed call k f g → call g (Err e) h → passing (error_kind e) ≡ true → Passed call (k + 1) f h

-- the answer is the last call's, and stands; each call before it failed for now only
pub record Retried {F : Type 0} (call : F → Result ℕ Error → F → Type 0) (f : F) (answer : Result ℕ Error) (h : F) : Type 0 where
  pub tries : ℕ
  pub before : F
  pub passed : Passed call tries f before
  pub last : call before answer h
  pub stands : Stands answer tries
