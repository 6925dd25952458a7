-- What is still to be written of a word, as a number that falls with each task that is performed.
use Rattle.std.specs.Prelude.{ℕ, zero, suc, ◌+◌, ◌*◌, List, [], ◌∷◌}
use Rattle.nwa_emptiness.specs.declared.spelling.Task.{Task}
use Rattle.nwa_emptiness.specs.declared.spelling.Task.TheVariants as tasks

-- four times that of the pair before, so more than that of any two of the pairs before
unfoldable pub weight_at : ℕ → ℕ
weight_at zero = 4
weight_at (suc i) = 4 * weight_at i

abbrev pub weight : Task → ℕ
weight (tasks.Letter a) = 1
weight (tasks.Segment i) = weight_at i
weight (tasks.Whole i) = 2 * weight_at i

abbrev pub load : List Task → ℕ
load [] = 0
load (t ∷ ts) = weight t + load ts
