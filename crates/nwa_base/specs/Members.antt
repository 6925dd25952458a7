-- Members of lists.
use Rattle.std.specs.Prelude.{◌≡◌, ℕ, Bool, true, List, [], ◌∷◌, ◌⊎◌}

-- x stands in the list
abbrev pub Member : {X : Type 0} → List X → X → Type 0
Member [] x = ⊥
Member (y ∷ ys) x = (y ≡ x) ⊎ Member ys x

-- the lists are equal as sets
pub record SameMembers {X : Type 0} (xs ys : List X) : Type 0 where
  pub there : (x : X) → Member xs x → Member ys x
  pub back : (x : X) → Member ys x → Member xs x

-- the test passes exactly at the numbers of the list
pub record IsSetOf (xs : List ℕ) (test : ℕ → Bool) : Type 0 where
  pub there : (x : ℕ) → Member xs x → test x ≡ true
  pub back : (x : ℕ) → test x ≡ true → Member xs x
