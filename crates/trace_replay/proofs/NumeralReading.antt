-- A number, and the byte behind it, at the front of bytes.
use Rattle.std.proofs.Common.{◌≡◌, ◌≢◌, ℕ, ◌+◌, ◌^◌, ◌<◌, Bool, true, false, cond, List, [], ◌∷◌, ◌++◌, length, take, drop, refl, sym, ap, ◌∙◌, arith, one-add, append_assoc}
use Rattle.std.specs.List.{prefix_len}
use Rattle.std.specs.Fmt.{decimal}
use Rattle.std.proofs.lemmas.List.{take_at, drop_at}
use Rattle.boogie_tree.specs.Names.{is_digit}
use Rattle.trace_replay.proofs.Decimals.{AreDigits, decimal_digits, decimal_injective}

-- the digits at the front
pub front_digits : (bs : List ℕ) → AreDigits (take (prefix_len is_digit bs) bs)
front_digits [] = tt
front_digits (b ∷ bs) =
    let Goal : Bool → Type 0 = λ t. is_digit b ≡ t → AreDigits (take (cond t (1 + prefix_len is_digit bs) 0) (b ∷ bs)) in
    elim (is_digit b) as (λ t. Goal t) [ true ↦ λ e. rw one-add (e, front_digits bs) | false ↦ λ e. tt ] refl

-- digits are all of those at the front, where none follows
all_digits : (ds rest : List ℕ) → AreDigits ds → prefix_len is_digit rest ≡ 0 → prefix_len is_digit (ds ++ rest) ≡ length ds
all_digits [] rest h stop = stop
all_digits (d ∷ ds) rest h stop = rw (h.0, all_digits ds rest h.1 stop) (omega arith)

-- the digits of a number, and what is behind them
pub number_split : (n end : ℕ) (bytes rest : List ℕ) → n < 2 ^ 128 → is_digit end ≡ false → bytes ≡ (decimal n ++ end ∷ []) ++ rest → (take (prefix_len is_digit bytes) bytes ≡ decimal n) × (drop (prefix_len is_digit bytes) bytes ≡ end ∷ rest)
number_split n end bytes rest small stop e =
    let shape : bytes ≡ decimal n ++ (end ∷ rest) = e ∙ append_assoc (decimal n) (end ∷ []) rest in
    let none : prefix_len is_digit (end ∷ rest) ≡ 0 = rw stop refl in
    let count = all_digits (decimal n) (end ∷ rest) (decimal_digits n (omega arith)) none in
    rw (shape, count) (take_at (decimal n) (end ∷ rest) (length (decimal n)) refl, drop_at (decimal n) (end ∷ rest) (length (decimal n)) refl)

-- a number and the byte behind it are written in one way
pub same_number : (m n end : ℕ) (bytes rest more : List ℕ) → m < 2 ^ 128 → n < 2 ^ 128 → is_digit end ≡ false → bytes ≡ (decimal m ++ end ∷ []) ++ rest → bytes ≡ (decimal n ++ end ∷ []) ++ more → (m ≡ n) × (rest ≡ more)
same_number m n end bytes rest more p q stop e f =
    let one = number_split m end bytes rest p stop e in
    let two = number_split n end bytes more q stop f in
    (decimal_injective m n (omega arith) (omega arith) (sym one.0 ∙ two.0), ap (drop 1) (sym one.1 ∙ two.1))

-- No number and no such byte behind it is at the front: the digits there are no number.
pub no_number_there : (k end : ℕ) (bytes digits : List ℕ) → digits ≡ take k bytes → k ≡ prefix_len is_digit bytes → is_digit end ≡ false → ((n : ℕ) → n < 2 ^ 128 → digits ≢ decimal n) → (n : ℕ) (rest : List ℕ) → n < 2 ^ 128 → bytes ≢ (decimal n ++ end ∷ []) ++ rest
no_number_there k end bytes digits front count stop none n rest small e =
    none n small (front ∙ ap (λ j. take j bytes) count ∙ (number_split n end bytes rest small stop e).0)

-- Another byte is behind the digits.
pub another_end : (k end : ℕ) (bytes behind : List ℕ) → behind ≡ drop k bytes → k ≡ prefix_len is_digit bytes → is_digit end ≡ false → ((rest : List ℕ) → behind ≢ (end ∷ []) ++ rest) → (n : ℕ) (rest : List ℕ) → n < 2 ^ 128 → bytes ≢ (decimal n ++ end ∷ []) ++ rest
another_end k end bytes behind back count stop none n rest small e =
    none rest (back ∙ ap (λ j. drop j bytes) count ∙ (number_split n end bytes rest small stop e).1)
