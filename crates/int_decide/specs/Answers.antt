-- The answers of Decide as contracts see them.
use Rattle.std.specs.Prelude.{◌≡◌, ℕ, ℤ, List}
use Rattle.std.specs.List.{AllByRecursion}
use Rattle.math_facts.specs.Fits.{Fits}
use Rattle.lin_rows.specs.declared.systems.System.{System}
use Rattle.lin_rows.specs.Systems.{Meets}
use Rattle.lin_rows.specs.Points.{point_of}
use Rattle.farkas_check.specs.Nodes.{PlainNode}
use Rattle.farkas_check.specs.Refutes.{Refutes}
use Rattle.fm_elim.specs.declared.types.ElimFault.{ElimFault}
use Rattle.fm_elim.specs.declared.types.ElimFault.TheVariants as elim_fault
use Rattle.int_decide.specs.declared.types.Answer.{Answer}
use Rattle.int_decide.specs.declared.types.Answer.TheVariants.{Refuted, Whole}
use Rattle.int_decide.specs.declared.types.DecideFault.{DecideFault}
use Rattle.int_decide.specs.declared.types.DecideFault.TheVariants.{Past, Memory}
use Rattle.int_decide.specs.Decisions.{Decision, refuted, whole}
use Rattle.int_decide.specs.Decide.{decide}
use Rattle.int_decide.specs.Worth.{IsTreeOf, IsPointOf}

-- a fault of an elimination as a fault of Decide
abbrev pub fault_of : ElimFault → DecideFault
fault_of elim_fault.Past = Past
fault_of elim_fault.Memory = Memory

-- what an answer says
abbrev pub decision_of : Answer → Decision
decision_of (Refuted nodes) = refuted nodes
decision_of (Whole values) = whole values.items

-- The answer is true of the system: a refutation refutes it with d cuts on a branch at most, and a whole point with a value for
-- each of n columns meets it, and its values fit.
abbrev pub IsWorthOf : ℕ → ℕ → System → Answer → Type 0
IsWorthOf n d s (Refuted nodes) = Refutes nodes s × IsTreeOf d nodes
IsWorthOf n d s (Whole values) = IsPointOf n s values.items × AllByRecursion Fits values.items

-- what a refutation owes, however it is found
abbrev pub OfRefuted : Answer → (List PlainNode → Type 0) → Type 0
OfRefuted (Refuted nodes) P = P nodes
OfRefuted (Whole values) P = Unit {0}

-- what a whole point owes
abbrev pub OfWhole : Answer → (List ℤ → Type 0) → Type 0
OfWhole (Refuted nodes) P = Unit {0}
OfWhole (Whole values) P = P values.items

-- the refutation refutes the system, with d cuts on a branch at most
pub record RefutesWithin (d : ℕ) (s : System) (nodes : List PlainNode) : Type 0 where
  pub refutes : Refutes nodes s
  pub tree : IsTreeOf d nodes

-- the point is that of Decide, it meets the system, and its values fit
pub record IsDecided (n d : ℕ) (s : System) (values : List ℤ) : Type 0 where
  pub decided : decide n d s ≡ whole values
  pub meets : Meets (point_of values) s
  pub fit : AllByRecursion Fits values
