-- To which procedures places belong.
use Rattle.std.specs.Prelude.{ℕ, List, map, drop}
use Rattle.typed_tree.specs.TypedTree.{TypedProgram}
use Rattle.boogie_run.specs.BoogiePlaces.Places.{Place, places_from}
use Rattle.lowered_graph.specs.Lowered.{sites_of}

abbrev pub owners : List Place → List ℕ
owners ps = map (λ p. p.proc) ps

-- the procedures of the assertions at these places
abbrev pub site_owners : TypedProgram → List Place → List ℕ
site_owners t ps = map (λ s. s.0) (sites_of t ps)

-- those of the procedures from number n on
abbrev pub owners_from : TypedProgram → ℕ → List ℕ
owners_from t n = owners (places_from t n (drop n t.procs))

abbrev pub site_owners_from : TypedProgram → ℕ → List ℕ
site_owners_from t n = site_owners t (places_from t n (drop n t.procs))
