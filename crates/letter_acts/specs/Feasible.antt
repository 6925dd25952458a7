-- Feasible words, and the stack machine of an automaton and its letters.
use Rattle.std.specs.Prelude.{ℕ, ◌<◌, List, [], ◌∷◌, length}
use Rattle.nwa_base.specs.declared.letters.Letter.{Letter}
use Rattle.nwa_base.specs.Members.{Member}
use Rattle.nwa_base.specs.Automata.{Automaton}
use Rattle.letter_acts.specs.Frames.{IsState}
use Rattle.letter_acts.specs.Acts.{Alphabet, frame_of, act_of}
use Rattle.letter_acts.specs.Meaning.{Situation, ActInside, ActCalls, ActReturns}
use Rattle.letter_acts.specs.Ways.{Steps, both, Goes, GoesAlong}

-- the situation is a state of the frame of its procedure, which exists
abbrev pub IsSituation : Alphabet → Situation → Type 0
IsSituation al s = (s.proc < length al.frames) × IsState (frame_of al s.proc) s.values

-- what the letters of an alphabet allow between situations
abbrev pub meaning : Alphabet → Steps Situation
meaning al = record {
  inside = λ a s t. ActInside al (act_of al a) s t;
  call = λ a s t. ActCalls al (act_of al a) s t;
  back = λ a exit before after. ActReturns al (act_of al a) exit before after;
}

-- the first situation and those after it, one for each position of the word, obey each letter
pub record Obeys (al : Alphabet) (w : List Letter) (first : Situation) (more : List Situation) : Type 0 where
  pub begins : IsSituation al first
  pub along : GoesAlong (meaning al) w (first ∷ more)

-- The word is feasible: some situations, one for each position, obey each letter, a return seeing those before itself,
-- before its match and after itself.
abbrev pub IsFeasible : Alphabet → List Letter → Type 0
IsFeasible al w = (first : Situation) × (more : List Situation) × Obeys al w first more

-- the edges of an automaton as steps between its states
abbrev pub edges : Automaton → Steps ℕ
edges m = record {
  inside = λ a q e. Member m.insides (q, a, e);
  call = λ a q e. Member m.calls (q, a, e);
  back = λ a q p e. Member m.backs (q, p, a, e);
}

-- the stack machine: a state of the automaton with a situation, and the same of each call that is open on its stack
abbrev pub machine : Automaton → Alphabet → Steps (ℕ × Situation)
machine m al = both (edges m) (meaning al)

-- a run of the stack machine over the word, from the automaton's start with no call open to a final state
pub record MachineRun (m : Automaton) (al : Alphabet) (w : List Letter) : Type 0 where
  pub first : Situation
  pub last : ℕ × Situation
  pub open_calls : List (ℕ × Situation)
  pub begins : IsSituation al first
  pub goes : Goes (machine m al) [] (m.start, first) w open_calls last
  pub ends : Member m.finals last.0

-- some way of the meaning leads from a situation through the word
pub record FeasibleWay (al : Alphabet) (w : List Letter) : Type 0 where
  pub first : Situation
  pub last : Situation
  pub open_calls : List Situation
  pub begins : IsSituation al first
  pub goes : Goes (meaning al) [] first w open_calls last
