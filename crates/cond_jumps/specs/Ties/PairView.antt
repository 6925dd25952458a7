-- The lists that the code makes of a condition in one visit, as contracts see them: that of the wanted value, and that of the other.
use Rattle.std.specs.Prelude.{◌≡◌, ◌⊎◌, ℕ, true, false, Result, MatchResult}
use Rattle.cond_jumps.specs.declared.pairs.Lists.{Lists}
use Rattle.cond_jumps.specs.declared.widths.Counts.{Counts}
use Rattle.cond_jumps.specs.declared.fault.JumpFault.{JumpFault}
use Rattle.cond_jumps.specs.declared.fault.JumpFault.TheVariants as faults
use Rattle.cond_jumps.specs.declared.refusal.Refusal.{Refusal}
use Rattle.cond_jumps.specs.declared.refusal.Refusal.TheVariants.{TooBig}
use Rattle.cond_jumps.specs.Conjunctions.{Plan, Then, With, is_wide, all_fit}
use Rattle.cond_jumps.specs.ListView.{IsPlanList}
use Rattle.cond_jumps.specs.Ties.WidthView.{IsWidth}

-- one of the first with one of the second, and then one of the other first with one of the other second
abbrev pub crossed : Plan → Plan → Plan → Plan → Plan
crossed p s q r = Then (With p q) (With s r)

-- the lists of two plans, all of whose numbers fit
pub record ArePlanLists (p q : Plan) (n : ℕ) (l : Lists) : Type 0 where
  pub wanted : IsPlanList p n l.wanted
  pub other : IsPlanList q n l.other

-- a number of one of two plans does not fit
abbrev pub IsUnfit : Plan → Plan → ℕ → Type 0
IsUnfit p q n = (all_fit p n ≡ false) ⊎ (all_fit q n ≡ false)

-- the lists, or the refusal that a number does not fit
abbrev pub ArePlanAnswers : Plan → Plan → ℕ → Result Lists Refusal → Type 0
ArePlanAnswers p q n r = MatchResult r (ArePlanLists p q n) (λ f. f ≡ TooBig → IsUnfit p q n)

-- how many members the lists of two plans have, none of whose lists has more than 4,096
pub record AreWidths (p q : Plan) (n : ℕ) (w : Counts) : Type 0 where
  pub wanted : IsWidth p n w.wanted
  pub other : IsWidth q n w.other

-- one of two plans has a list of more than 4,096 members
abbrev pub IsEitherWide : Plan → Plan → ℕ → Type 0
IsEitherWide p q n = (is_wide p n ≡ true) ⊎ (is_wide q n ≡ true)

-- the numbers of members, or that a list has more than 4,096
abbrev pub AreWidthAnswers : Plan → Plan → ℕ → Result Counts JumpFault → Type 0
AreWidthAnswers p q n r = MatchResult r (AreWidths p q n) (λ f. (f ≡ faults.TooWide → IsEitherWide p q n) × (f ≡ faults.TooBig → ⊥))
