-- The four blanks.
use Rattle.std.proofs.Common.{◌≡◌, ℕ, ◌==◌, true, ◌||◌, inl, inr, sym, subst}
use Rattle.std.proofs.lemmas.Bool.{or_cases, eqb-true}
use Rattle.boogie_parse.specs.Lexing.Bytes.{is_blank}

-- what holds of the four blanks holds of each
pub at_blank : (P : ℕ → Type 0) (b : ℕ) → is_blank b ≡ true → P 32 → P 9 → P 10 → P 13 → P b
at_blank P b blank space tab feed return =
    let is : (n : ℕ) → (b == n) ≡ true → P n → P b = λ n e p. subst P (sym (eqb-true b n e)) p in
    elim (or_cases (b == 32 || b == 9 || b == 10) (b == 13) blank) [
      | inl e ↦ elim (or_cases (b == 32 || b == 9) (b == 10) e) [
        | inl f ↦ elim (or_cases (b == 32) (b == 9) f) [ inl g ↦ is 32 g space | inr g ↦ is 9 g tab ]
        | inr f ↦ is 10 f feed
      ]
      | inr e ↦ is 13 e return
    ]
