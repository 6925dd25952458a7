-- The state of a `NumberHasher` after bytes.
use Rattle.std.proofs.Common.{◌≡◌, ◌≢◌, ℕ, ◌^◌, ◌<◌, List, length, fold, ap, sym, refl}
use Rattle.std.specs.Int.{w32, w64, from_le_bytes}
use Rattle.std.specs.Hash.{le_bytes}
use Rattle.std.proofs.lemmas.Nat.{from_le_bytes-to_le_bytes_4, from_le_bytes-to_le_bytes_8}
use Rattle.std.proofs.lemmas.Bool.{eq-eqb, ne_eqb}
use Rattle.nwa_base.specs.NumberHashes.{mixed, after_bytes}

-- four bytes are one number
pub after_four : (state : ℕ) (bytes : List ℕ) → length bytes ≡ 4 → after_bytes state bytes ≡ mixed state (from_le_bytes w32 bytes)
unfolding after_bytes
after_four state bytes e = rw (eq-eqb (length bytes) 4 e) refl

-- and so are eight
pub after_eight : (state : ℕ) (bytes : List ℕ) → length bytes ≢ 4 → length bytes ≡ 8 → after_bytes state bytes ≡ mixed state (from_le_bytes w64 bytes)
unfolding after_bytes
after_eight state bytes n e = rw (ne_eqb (length bytes) 4 n, eq-eqb (length bytes) 8 e) refl

-- each of others is one
pub after_others : (state : ℕ) (bytes : List ℕ) → length bytes ≢ 4 → length bytes ≢ 8 → after_bytes state bytes ≡ fold mixed state bytes
unfolding after_bytes
after_others state bytes m n = rw (ne_eqb (length bytes) 4 m, ne_eqb (length bytes) 8 n) refl

-- a number is read back as it was written
pub after_u32 : (state number : ℕ) → number < 2 ^ 32 → mixed state number ≡ after_bytes state (le_bytes 4 number)
unfolding after_bytes le_bytes
after_u32 state number fits = ap (mixed state) (sym (from_le_bytes-to_le_bytes_4 number fits))

pub after_u64 : (state number : ℕ) → number < 2 ^ 64 → mixed state number ≡ after_bytes state (le_bytes 8 number)
unfolding after_bytes le_bytes
after_u64 state number fits = ap (mixed state) (sym (from_le_bytes-to_le_bytes_8 number fits))
