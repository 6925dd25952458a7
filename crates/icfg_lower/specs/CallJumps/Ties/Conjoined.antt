-- Lists of several conditions together.
use Rattle.std.specs.Prelude.{◌≡◌, ℕ, false, length}
use Rattle.cond_jumps.specs.Conjunctions.{Plan, listed_plan, is_wide}

-- so many members, and none of the plan's lists has more than 4,096
pub record HasMembers (p : Plan) (n members : ℕ) : Type 0 where
  pub narrow : is_wide p n ≡ false
  pub count : members ≡ length (listed_plan p n)
