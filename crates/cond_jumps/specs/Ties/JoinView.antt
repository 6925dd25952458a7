-- Lists joined by the code, whose second list is made once.
use Rattle.std.specs.Prelude.{ℕ, List, [], ◌∷◌, ◌++◌, map}
use Rattle.cond_jumps.specs.declared.conj.Conj.{Conj}
use Rattle.cond_jumps.specs.declared.pairs.Lists.{Lists}
use Rattle.cond_jumps.specs.declared.shapes.Shape.{Shape}
use Rattle.cond_jumps.specs.declared.shapes.Shape.TheVariants as shapes
use Rattle.cond_jumps.specs.Conjs.{conjunction, conjunctions}
use Rattle.cond_jumps.specs.Conjunctions.{Conjunction, joined}
use Rattle.cond_jumps.specs.Moving.{moved}

-- each of the first joined to each of the second, moved behind its helpers
abbrev pub each_moved : ℕ → List Conjunction → List Conjunction → List Conjunction
each_moved base [] ds = []
each_moved base (c ∷ cs) ds = map (joined c) (map (moved base c.helpers) ds) ++ each_moved base cs ds

-- how many helpers are numbered before those of the second list: those of the only member of the first; none where it has not exactly one
abbrev pub helpers_before : List Conj → ℕ
helpers_before (c ∷ []) = c.helpers
helpers_before cs = 0

-- each of the first joined to each of the second, which is numbered so
abbrev pub each_behind : ℕ → List Conj → List Conjunction → List Conjunction
each_behind base (c ∷ []) ds = map (joined (conjunction c)) ds
each_behind base cs ds = each_moved base (conjunctions cs) ds

-- of the list of the first operand to which the lists of the second are joined, where it is one
abbrev pub helpers_by : Shape → Lists → ℕ
helpers_by (shapes.Both x y) a = helpers_before a.wanted.items
helpers_by (shapes.Over x y) a = helpers_before a.other.items
helpers_by shape a = 0
