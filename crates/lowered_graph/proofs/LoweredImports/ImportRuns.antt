-- A whole call of a procedure without body is its steps in a run, and a run that fails at such a call fails behind it.
use Rattle.std.proofs.Common.{◌≡◌, ℕ, suc, ◌+◌, ◌<◌, ◌≤◌, ℤ, true, false, nat_lt, List, [], ◌∷◌, ◌++◌, map, length, Option, None, Some, slice_get, refl, sym, ap, subst, ◌∙◌, arith, append_assoc}
use Rattle.std.specs.List.{AllByRecursion}
use Rattle.std.proofs.lemmas.List.{length-append, length-map}
use Rattle.std.proofs.lemmas.Bool.Decides.{nat_tests}
use Rattle.boogie_tree.specs.declared.tree.Column.{Column}
use Rattle.boogie_tree.specs.declared.tree.VarInfo.{VarInfo}
use Rattle.typed_tree.specs.TypedTree.{TypedExpression, TypedInvariant, TypedProcedure, TypedProgram}
use Rattle.boogie_run.specs.BoogiePoints.Points.{Point, settled, past_first}
use Rattle.boogie_run.specs.BoogiePoints.Actions.{ensured_conditions, chosen_columns, results_from}
use Rattle.boogie_run.specs.BoogiePoints.Starts.{targets_at}
use Rattle.boogie_run.specs.Configurations.{Config}
use Rattle.boogie_run.specs.Needs.{locals_if_any, locals_at}
use Rattle.boogie_run.specs.Steps.{Failed, moved_to, finished, granted_state, is_true}
use Rattle.typed_tree.specs.Values.{value}
use Rattle.boogie_run.specs.Runs.{run}
use Rattle.lowered_graph.specs.LoweredSteps.Moves.{IsGood}
use Rattle.lowered_graph.proofs.LoweredSteps.FrameColumns.{types_length}
use Rattle.lowered_graph.specs.LoweredImports.Imports.{IsKnownImport, keeping, IsImport, none_for}
use Rattle.lowered_graph.specs.LoweredImports.Laws.{choices_of, ChoicesAreSteps, FailsLater}
use Rattle.lowered_graph.proofs.LoweredImports.Phases as phases
use Rattle.lowered_graph.proofs.LoweredImports.Phases.{IsFull, AreTakenBy, phase, first_phase, AreParted, taken_parts, taken_results, taken_length, globals_taken, results_taken, KeptBack, GrantedBack}

not_below : (a b : ℕ) → a ≡ b → nat_lt a b ≡ false
not_below a b e = grind (arith, nat_tests)

pub full_of_good : (t : TypedProgram) (Known : ℕ → Point → Type 0) (c : Config) → IsGood t Known c → IsFull t c
full_of_good t Known c g = record {
  globals = not_below (length c.globals) (length t.globals) (types_length t.globals c.globals g.top.keeps.globals);
  locals = not_below (length c.top.locals) (length (locals_at t c.top.proc)) (types_length (locals_at t c.top.proc) c.top.locals g.top.keeps.locals);
}

-- all values that a call chooses, as those of its columns
news_taken : (t : TypedProgram) (c d : Config) (i : IsImport t c d) → AreTakenBy t.globals (locals_at t i.callee) (chosen_columns i.known.procedure) (i.held ++ i.results)
news_taken t c d i =
    let q : TypedProcedure = i.known.procedure in
    let own : q.locals ≡ locals_at t i.callee = sym (ap locals_if_any i.known.is) in
    subst (λ (ls : List VarInfo). AreTakenBy t.globals ls (chosen_columns q) (i.held ++ i.results)) own
    (globals_taken t.globals q.locals q.modifies (results_from q.params q.results) i.held i.results i.held_typed (results_taken t.globals q.locals q.params q.results i.results i.known.enough i.results_typed))

pub imports_run : (t : TypedProgram) (Known : ℕ → Point → Type 0) (c d : Config) → IsGood t Known c → (i : IsImport t c d) → (rest : List (Option ℤ)) →
    run t c (choices_of t c d i ++ rest) ≡ run t d rest
imports_run t Known c d g i rest =
    let k = i.known in
    let full : IsFull t c = full_of_good t Known c g in
    let q : TypedProcedure = k.procedure in
    let news : List ℤ = i.held ++ i.results in
    let chosen : List Column = chosen_columns q in
    let ensured : List TypedInvariant = ensured_conditions q.specs in
    let taken : AreTakenBy t.globals (locals_at t i.callee) chosen news = news_taken t c d i in
    let counted : length news ≡ length chosen = taken_length t.globals (locals_at t i.callee) chosen news taken in
    let parts : (map Some news ++ (none_for ensured ++ None ∷ [])) ++ rest ≡ map Some news ++ (none_for ensured ++ None ∷ rest) =
    append_assoc (map Some news) (none_for ensured ++ None ∷ []) rest ∙ ap (λ (ys : List (Option ℤ)). map Some news ++ ys) (append_assoc (none_for ensured) (None ∷ []) rest) in
    let zero_parts : 0 + length news ≡ length chosen + 0 = omega arith in
    let all_parts : length chosen + (0 + length ensured) ≡ length chosen + length ensured = omega arith in
    ap (run t c) parts
    ∙ ap (λ (x : Config). run t x (map Some news ++ (none_for ensured ++ None ∷ rest))) (sym (first_phase c g.top.nothing_kept))
    ∙ phases.keeps t c i.callee i.args k full chosen news 0 [] (none_for ensured ++ None ∷ rest) (λ n. let e : 0 + n ≡ n = omega arith in ap (slice_get chosen) e) taken
    ∙ ap (λ (m : ℕ). run t (phase c m news) (none_for ensured ++ None ∷ rest)) zero_parts
    ∙ phases.grants t c i.callee i.args k full ensured 0 news (None ∷ rest) (λ n. let e : 0 + n ≡ n = omega arith in ap (slice_get ensured) e) i.granted
    ∙ ap (λ (m : ℕ). run t (phase c m news) (None ∷ rest)) all_parts
    ∙ phases.finishes t c i.callee i.args k full news rest
    ∙ ap (λ (x : Config). run t x rest) (sym i.done)

none_length : (is : List TypedInvariant) → length (none_for is) ≡ length is
none_length [] = refl
none_length (i ∷ is) = ap suc (none_length is)

pub choices_are_steps : ChoicesAreSteps
choices_are_steps t c d i =
    let q : TypedProcedure = i.known.procedure in
    let news : List ℤ = i.held ++ i.results in
    let ensured : List TypedInvariant = ensured_conditions q.specs in
    let counted : length news ≡ length (chosen_columns q) = taken_length t.globals (locals_at t i.callee) (chosen_columns q) news (news_taken t c d i) in
    let a : length (map Some news ++ (none_for ensured ++ None ∷ [])) ≡ length (map Some news) + length (none_for ensured ++ None ∷ []) = length-append (map Some news) (none_for ensured ++ None ∷ []) in
    let b : length (none_for ensured ++ None ∷ []) ≡ length (none_for ensured) + 1 = length-append (none_for ensured) (None ∷ []) in
    let e : length (map Some news) ≡ length news = length-map news Some in
    let n : length (none_for ensured) ≡ length ensured = none_length ensured in
    omega arith

pub runs_import : (t : TypedProgram) (Known : ℕ → Point → Type 0) (c : Config) (f : ℕ) (args : List TypedExpression) (choices : List (Option ℤ)) (n : ℕ) → IsGood t Known c →
    IsKnownImport t c.top.proc c.top.point f args → run t c choices ≡ Failed n → FailsLater t c choices n
runs_import t Known c f args choices n g k h =
    let full : IsFull t c = full_of_good t Known c g in
    let q : TypedProcedure = k.procedure in
    let chosen : List Column = chosen_columns q in
    let ensured : List TypedInvariant = ensured_conditions q.specs in
    let a : KeptBack t c f args k full chosen 0 [] choices n =
    phases.keeps_back t c f args k full chosen 0 [] choices n (λ n. let e : 0 + n ≡ n = omega arith in ap (slice_get chosen) e) (ap (λ (x : Config). run t x choices) (first_phase c g.top.nothing_kept) ∙ h) in
    let zero_parts : length chosen + 0 ≡ 0 + length chosen = omega arith in
    let b : GrantedBack t c f args k full ensured 0 a.kept a.rest n =
    phases.grants_back t c f args k full ensured 0 a.kept a.rest n (λ n. let e : 0 + n ≡ n = omega arith in ap (slice_get ensured) e) (ap (λ (m : ℕ). run t (phase c m a.kept) a.rest) zero_parts ∙ a.fails) in
    let all_parts : length chosen + length ensured ≡ length chosen + (0 + length ensured) = omega arith in
    let r = phases.finish_back t c f args k full a.kept b.rest n (ap (λ (m : ℕ). run t (phase c m a.kept) b.rest) all_parts ∙ b.fails) in
    let own : locals_at t f ≡ q.locals = ap locals_if_any k.is in
    let taken : AreTakenBy t.globals q.locals chosen a.kept = subst (λ (ls : List VarInfo). AreTakenBy t.globals ls chosen a.kept) own a.taken in
    let p : AreParted t.globals q.locals q.modifies (results_from q.params q.results) a.kept = taken_parts t q.locals q.modifies (results_from q.params q.results) a.kept k.modified taken in
    let whole : IsImport t c (moved_to (finished t (keeping c a.kept) f (targets_at c.top.point.todo)) (settled (past_first t.procs c.top.point.todo))) = record {
      callee = f;
      args = args;
      known = k;
      held = p.held;
      held_typed = p.typed;
      results = p.rest;
      results_typed = taken_results t.globals q.locals q.params q.results p.rest k.enough p.taken;
      granted = subst (λ (zs : List ℤ). AllByRecursion (λ i. is_true (value (granted_state t (keeping c zs) f args) i.cond) ≡ true) ensured) p.parts b.granted;
      done = ap (λ (zs : List ℤ). moved_to (finished t (keeping c zs) f (targets_at c.top.point.todo)) (settled (past_first t.procs c.top.point.todo))) p.parts;
    } in
    let few : length a.rest ≤ length choices = a.fewer in
    let fewer : length b.rest ≤ length a.rest = b.fewer in
    let less : length r.0 < length b.rest = r.1 in
    record {
      behind = moved_to (finished t (keeping c a.kept) f (targets_at c.top.point.todo)) (settled (past_first t.procs c.top.point.todo));
      whole = whole;
      rest = r.0;
      fewer = omega arith;
      fails = r.2;
    }
