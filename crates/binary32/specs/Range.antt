-- The magnitudes for which faces are shown to agree (document 01, term 3): from 1e-6 as an f32 to 2 ^ 63. Definitions only.
use Rattle.std.specs.Prelude.{Bool, false, ◌&&◌, pos, Float}
use Rattle.std.specs.Float.{fin, binary32}
use Rattle.std.specs.Float.Ieee.{of_bits, le}

-- 1e-6 as an f32
abbrev pub least : Float
least = of_bits binary32 0x358637bd

-- 2 ^ 63
abbrev pub most : Float
most = fin false 1 (pos 63)

unfoldable pub in_range : Float → Bool
in_range x = le least x && le x most
