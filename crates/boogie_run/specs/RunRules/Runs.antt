-- Runs, and when a program is safe.
use Rattle.std.specs.Prelude.{◌≡◌, ℕ, zero, suc, false, [], ◌∷◌, map, Some}
use Rattle.std.specs.List.{AllByRecursion}
use Rattle.typed_tree.specs.TypedTree.{TypedBlock, TypedProgram}
use Rattle.boogie_run.specs.BoogiePoints.Actions.{plain_conditions, free_conditions, first_assertion}
use Rattle.boogie_run.specs.RunRules.Moments.{Moment, seen, begun}
use Rattle.boogie_run.specs.RunRules.Conditions.{IsMet, AreMet, AreOfTypes}
use Rattle.boogie_run.specs.RunRules.Steps.{procedure_numbered, BlocksLead, FailsBy}

-- A run begins: the constants, globals and locals of the entry have any values, with which the axioms and the requires of the entry are met.
pub record Begins (t : TypedProgram) (m : Moment) : Type 0 where
  pub body : TypedBlock
  pub has_body : (procedure_numbered t t.entry).body ≡ Some body
  pub globals : AreOfTypes (map (λ v. v.ty) t.globals) m.globals
  pub locals : AreOfTypes (map (λ v. v.ty) (procedure_numbered t t.entry).locals) m.top.locals
  pub top : m.top ≡ record { proc = t.entry; locals = m.top.locals; entry = m.globals; pending = begun body false (first_assertion t.procs t.entry) ∷ []; targets = [] }
  pub below : m.below ≡ []
  pub axioms : AllByRecursion (IsMet (seen m)) t.axioms
  pub requires : AreMet (seen m) (plain_conditions (procedure_numbered t t.entry).specs)
  pub free_requires : AreMet (seen m) (free_conditions (procedure_numbered t t.entry).specs)

-- k steps lead from m to d
abbrev pub Leads : TypedProgram → ℕ → Moment → Moment → Type 0
Leads t zero m d = m ≡ d
Leads t (suc k) m d = (x : Moment) × BlocksLead t m m.top.pending x × Leads t k x d

-- some run fails the assertion of that number
pub record Fails (t : TypedProgram) (n : ℕ) : Type 0 where
  pub steps : ℕ
  pub first : Moment
  pub last : Moment
  pub begins : Begins t first
  pub leads : Leads t steps first last
  pub fails : FailsBy t last last.top.pending n

-- Safe: no run, of any length and any call stack, fails an assertion.
abbrev pub IsSafe : TypedProgram → Type 0
IsSafe t = (n : ℕ) → Fails t n → ⊥
