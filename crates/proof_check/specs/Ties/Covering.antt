-- Which steps and backs a node has, by numbers.
use Rattle.std.specs.Prelude.{◌≡◌, ℕ, List}
use Rattle.nwa_base.specs.declared.letters.Letter.{Letter}
use Rattle.nwa_base.specs.Members.{Member}
use Rattle.letter_acts.specs.Invariant.{Graph}
use Rattle.proof_names.specs.declared.outlines.NamedStep.{NamedStep}
use Rattle.proof_names.specs.Outlines.{OutlineNode, Sketch}
use Rattle.proof_check.specs.Steps.{IsNode, IsOpen, HasStepTo, BacksTo}
use Rattle.proof_check.specs.Ties.Sound.{StepExists}

-- a step leads from node n to the end of each of the edges, by its letter
abbrev pub HasStepsAlong : Sketch → ℕ → List (ℕ × Letter × ℕ) → Type 0
HasStepsAlong s n edges = (q : ℕ) (a : Letter) (e : ℕ) → Member edges (q, a, e) → HasStepTo s n a.id e

-- a back leads from the exit x, with node c before the call, to the end of each of the edges whose return names the call letter
abbrev pub HasBacksAlong : Sketch → ℕ → ℕ → ℕ → List (ℕ × ℕ × Letter × ℕ) → Type 0
HasBacksAlong s x c call edges = (q p : ℕ) (a : Letter) (e : ℕ) → Member edges (q, p, a, e) → a.call ≡ call → BacksTo s x c a.id e

-- the nodes of all steps exist
abbrev pub AllExist : Sketch → Type 0
AllExist s = (t : NamedStep) → Member s.steps t → StepExists s t

-- node c has false, or a back leads from the exit x at the place to the end of each return edge there that names the call letter
abbrev pub HasBacksFrom : Graph → Sketch → ℕ → ℕ → ℕ → ℕ → Type 0
HasBacksFrom g s x place c call =
    (before : OutlineNode) → IsNode s c before → IsOpen before → (r : Letter) (e : ℕ) → Member g.automaton.backs (place, before.place, r, e) →
    r.call ≡ call → BacksTo s x c r.id e
