-- Which failures pass, and the limit in digits: 2^64 - 1 tries. Assumes nothing.
use mathlib.Core.Path.{◌≡◌, refl}
use mathlib.Core.Bool.{true, false}
use mathlib.Core.List.{[], ◌∷◌}
use Rattle.std.specs.declared.io.ErrorKind.{ErrorKind}
use Rattle.waiting.specs.Waits.{most_tries, passing}

-- EINTR and EAGAIN, and by their kinds EIO, ENOSPC and EPIPE
passes : passing ErrorKind.Interrupted ∷ passing ErrorKind.WouldBlock ∷ passing ErrorKind.Uncategorized ∷ passing ErrorKind.StorageFull ∷ passing ErrorKind.BrokenPipe ∷ []
    ≡ true ∷ true ∷ false ∷ false ∷ false ∷ []
passes = refl

limit : most_tries ≡ 18446744073709551615
limit = refl
