-- Where letters lead from sets, as far as it is noted.
use Rattle.std.specs.Prelude.{◌≡◌, ℕ, [], ◌∷◌, Option, Some}
use Rattle.nwa_base.specs.declared.letters.Kind.TheVariants.{Inside, Call, Back}
use Rattle.nwa_base.specs.declared.letters.Letter.{Letter}
use Rattle.nwa_determinise.specs.Kept.{Kept}
use Rattle.nwa_determinise.specs.Reads.{LeadsTo}

-- What is noted of a set and a letter, and of a return also of the set before the call, is the number of the set to which that letter leads.
pub record AreNoted (d : Kept) (by_inside by_call : ℕ × Letter → Option ℕ) (by_back : ℕ × ℕ × Letter → Option ℕ) : Type 0 where
  pub insides : (s t : ℕ) (a : Letter) → by_inside (s, a) ≡ Some t → LeadsTo d Inside a [] s [] t
  pub calls : (s t : ℕ) (a : Letter) → by_call (s, a) ≡ Some t → LeadsTo d Call a [] s (s ∷ []) t
  pub backs : (s b t : ℕ) (a : Letter) → by_back (s, b, a) ≡ Some t → LeadsTo d Back a (b ∷ []) s [] t
