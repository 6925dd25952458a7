-- What a `NumberHasher` computes.
use Rattle.std.specs.Prelude.{ℕ, ◌*◌, ◌%◌, ◌^◌, List, fold, length, if◌then◌else◌, nat_eq, bit_xor}
use Rattle.std.specs.Int.{w32, w64, from_le_bytes}

-- the state before the first number
abbrev pub start : ℕ
start = 0x243f_6a88_85a3_08d3

-- the state after a number
unfoldable pub mixed : ℕ → ℕ → ℕ
mixed state number = (bit_xor state number * 0x9e37_79b9_7f4a_7c15) % 2 ^ 64

-- the state after bytes: four or eight are one number, of which the lowest byte comes first, and of others each is one
unfoldable pub after_bytes : ℕ → List ℕ → ℕ
after_bytes state bytes =
    if nat_eq (length bytes) 4 then mixed state (from_le_bytes w32 bytes)
    else (if nat_eq (length bytes) 8 then mixed state (from_le_bytes w64 bytes) else fold mixed state bytes)
