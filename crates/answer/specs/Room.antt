-- How many bytes an answer to a line has at most. Definitions only.
use Rattle.std.specs.Prelude.{ℕ, ◌+◌}

-- any answer: the word of a refusal, its number and that of a line
abbrev pub line_room : ℕ
line_room = 64

-- what was counted: three numbers of up to three digits, with a byte behind each
abbrev pub counts_room : ℕ
counts_room = 12

-- a choice: four more
abbrev pub choice_room : ℕ
choice_room = 16 + counts_room

-- the output's names with their newline have so many more than the input's without
abbrev pub names_more : ℕ
names_more = 17
