-- The predicates before the calls that are open, by their positions.
use Rattle.std.specs.Prelude.{ℕ, zero, suc, List, [], ◌∷◌, map}
use Rattle.nwa_base.specs.declared.letters.Kind.{Kind}
use Rattle.nwa_base.specs.declared.letters.Kind.TheVariants.{Inside, Call, Back}
use Rattle.triple_rows.specs.declared.triples.Scoped.{Scoped}

-- the predicate of a position; of none a predicate without nodes
abbrev pub scoped_in : List Scoped → ℕ → Scoped
scoped_in [] k = record { proc = 0; pred = [] }
scoped_in (p ∷ ps) zero = p
scoped_in (p ∷ ps) (suc k) = scoped_in ps k

-- those of several positions
abbrev pub saved_at : List Scoped → List ℕ → List Scoped
saved_at preds calls = map (scoped_in preds) calls

abbrev pub without_call : List ℕ → List ℕ
without_call [] = []
without_call (k ∷ calls) = calls

-- the positions before the open calls, innermost first, after a letter of this kind behind a position
abbrev pub calls_after : Kind → ℕ → List ℕ → List ℕ
calls_after Inside at calls = calls
calls_after Call at calls = at ∷ calls
calls_after Back at calls = without_call calls

-- a return finds an open call
abbrev pub FindsCall : Kind → List ℕ → Type 0
FindsCall Inside calls = Unit {0}
FindsCall Call calls = Unit {0}
FindsCall Back [] = ⊥
FindsCall Back (k ∷ calls) = Unit {0}
