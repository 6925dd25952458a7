-- The parts of a word that is written from its end.
use Rattle.std.specs.Prelude.{◌≡◌, ℕ, List, [], ◌∷◌, ◌++◌, reverse, Option, Some, slice_get}
use Rattle.nwa_base.specs.declared.letters.Letter.{Letter}
use Rattle.nwa_emptiness.specs.declared.spelling.Task.{Task}
use Rattle.nwa_emptiness.specs.declared.spelling.Task.TheVariants as tasks
use Rattle.nwa_emptiness.specs.Spelled.{Spells, Reaches}
use Rattle.nwa_emptiness.specs.Ties.Search.{Searched}

-- the word is what the task asks for, where its place has a pair
abbrev pub IsFilling : Searched → Task → List Letter → Type 0
IsFilling s (tasks.Letter a) w = w ≡ a ∷ []
IsFilling s (tasks.Segment i) w = (k : Option ℕ) (q : ℕ) → slice_get s.pairs i ≡ Some (k, q) → Spells s.nwa k q w
IsFilling s (tasks.Whole i) w = (k : Option ℕ) (q : ℕ) → slice_get s.pairs i ≡ Some (k, q) → Reaches s.nwa q w

-- the word is what the tasks ask for, one after another
abbrev pub AreFillings : Searched → List Task → List Letter → Type 0
AreFillings s [] w = w ≡ []
AreFillings s (t ∷ rest) w = (u : List Letter) × (v : List Letter) × IsFilling s t u × AreFillings s rest v × (w ≡ u ++ v)

-- the word is what the tasks ask for, and then the letters that are written, last first
abbrev pub IsRest : Searched → List Task → List Letter → List Letter → Type 0
IsRest s rest letters w = (u : List Letter) × AreFillings s rest u × (w ≡ u ++ reverse letters)
