-- Numbers that look random: a shift register of 64 bits. Assumes nothing: these are definitions.
use Rattle.std.specs.Prelude.{ℕ, ◌*◌, ◌/◌, ◌%◌, ◌^◌, bit_xor}

-- shifted up and mixed in, and shifted down and mixed in
abbrev pub up : ℕ → ℕ → ℕ
up k x = bit_xor x (x * 2 ^ k % 2 ^ 64)

abbrev pub down : ℕ → ℕ → ℕ
down k x = bit_xor x (x / 2 ^ k)

abbrev pub turned : ℕ → ℕ
turned x = up 17 (down 7 (up 13 x))
