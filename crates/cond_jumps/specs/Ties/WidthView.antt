-- How many members the code counts, as contracts see it.
use Rattle.std.specs.Prelude.{◌≡◌, ℕ, ◌<◌, ◌≤◌, true, false, length, Result, MatchResult}
use Rattle.cond_jumps.specs.declared.fault.JumpFault.{JumpFault}
use Rattle.cond_jumps.specs.declared.fault.JumpFault.TheVariants.{TooWide, TooBig}
use Rattle.cond_jumps.specs.Conjunctions.{Plan, listed_plan, is_wide}

-- how many members the list of a plan has, none of whose lists has more than 4,096
pub record IsWidth (p : Plan) (n w : ℕ) : Type 0 where
  pub narrow : is_wide p n ≡ false
  pub exact : w ≡ length (listed_plan p n)

-- that number, or that a list has more than 4,096
abbrev pub IsWidthAnswer : Plan → ℕ → Result ℕ JumpFault → Type 0
IsWidthAnswer p n r = MatchResult r (IsWidth p n) (λ f. (f ≡ TooWide → is_wide p n ≡ true) × (f ≡ TooBig → ⊥))

-- the number, or that it is more than 4,096
abbrev pub IsLimited : ℕ → Result ℕ JumpFault → Type 0
IsLimited m r = MatchResult r (λ w. (w ≡ m) × (m ≤ 4096)) (λ f. (f ≡ TooWide) × (4096 < m))
