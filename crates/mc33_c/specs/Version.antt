-- The version of the static library, as include/mc33.h has it. Definitions only.
use Rattle.std.specs.Prelude.{ℕ, ◌+◌, ◌*◌}

-- moves where a caller that was built before would read something wrongly or no longer build
abbrev pub major : ℕ
major = 5

-- moves where something is added: a function, a refusal, a kind of reading to what is counted
abbrev pub minor : ℕ
minor = 2

abbrev pub version : ℕ
version = 1000 * major + minor
