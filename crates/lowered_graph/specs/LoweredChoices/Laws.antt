-- What holds of the choices that are told of traces.
use Rattle.std.specs.Prelude.{ℕ, List, [], ◌∷◌, ◌++◌, IsTrue}
use Rattle.typed_tree.specs.TypedTree.{TypedProgram}
use Rattle.typed_tree.specs.TypingRules.ValidProgram.{is_valid}
use Rattle.nwa_base.specs.declared.letters.Letter.{Letter}
use Rattle.lowered_graph.specs.Lowered.{lowered}
use Rattle.lowered_graph.specs.Laws.{IsExactWord}
use Rattle.lowered_graph.specs.LoweredChoices.Traces.{TracePosition, IsTrace}
use Rattle.lowered_graph.specs.LoweredChoices.Choices.{trace_choices, FailsAtLast, ComesTo}

-- The run of a typed program that takes the choices told of a trace of its graph, over a word without coarse letters, fails the assertion at whose
-- failing the trace ends, after exactly as many steps as there are choices.
abbrev pub TracesFail : Type 0
TracesFail = (t : TypedProgram) (i : ℕ) (w : List Letter) (first : TracePosition) (more : List TracePosition) → IsTrue (is_valid t) → IsExactWord (lowered t) w → IsTrace (lowered t) i w first more →
    FailsAtLast t (trace_choices t more) i

-- And behind each position but the last, when the run has taken the choices told so far, it has come to that position.
abbrev pub TracesAreRun : Type 0
TracesAreRun = (t : TypedProgram) (i : ℕ) (w : List Letter) (first : TracePosition) (front : List TracePosition) (x y : TracePosition) (rest : List TracePosition) → IsTrue (is_valid t) → IsExactWord (lowered t) w →
    IsTrace (lowered t) i w first (front ++ x ∷ y ∷ rest) → ComesTo t (trace_choices t (front ++ x ∷ [])) x
