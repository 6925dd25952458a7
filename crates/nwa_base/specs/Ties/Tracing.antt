-- An accepting run traced back from its last state, over the steps that were kept while the word was read.
use Rattle.std.specs.Prelude.{◌≡◌, ℕ, List, [], ◌∷◌, ◌++◌}
use Rattle.nwa_base.specs.declared.letters.Letter.{Letter}
use Rattle.nwa_base.specs.declared.reading.Step.{Step}
use Rattle.nwa_base.specs.Members.{Member}
use Rattle.nwa_base.specs.Automata.{Automaton}
use Rattle.nwa_base.specs.Acceptance.{Follows, Accepts}
use Rattle.nwa_base.specs.Pairs.{HasFinal}
use Rattle.nwa_base.specs.Ties.Reading.{IsStep}

-- the sets before the first letter
abbrev pub first_sets : Automaton → List (List (ℕ × ℕ))
first_sets m = ((m.start, m.start) ∷ []) ∷ []

-- the word was read by these steps, from the first sets to the last ones
abbrev pub IsPast : Automaton → List (List (ℕ × ℕ)) → List Letter → List Step → List (List (ℕ × ℕ)) → Type 0
IsPast m sets [] [] last = sets ≡ last
IsPast m sets [] (step ∷ steps) last = ⊥
IsPast m sets (a ∷ w) [] last = ⊥
IsPast m sets (a ∷ w) (step ∷ steps) last = (next : List (List (ℕ × ℕ))) × IsStep m a step sets next × IsPast m next w steps last

-- the word was read, `here` is the set after it, and it is accepted only where a pair of this set ends in a final state
pub record IsRead (m : Automaton) (w : List Letter) (steps : List Step) (here : List (ℕ × ℕ)) (saved : List (List (ℕ × ℕ))) : Type 0 where
  pub past : IsPast m (first_sets m) w steps (here ∷ saved)
  pub ends : Accepts m w → HasFinal m here

-- The pair (k, q) stands in the innermost set, and each key with the one before it in the next set, for the calls whose
-- return comes later in the run; around them are the saved sets.
abbrev pub Chained : List (List (ℕ × ℕ)) → List ℕ → ℕ → ℕ → List (List (ℕ × ℕ)) → Type 0
Chained [] keys k q saved = ⊥
Chained (s ∷ sets) [] k q saved = Member s (k, q) × (sets ≡ saved)
Chained (s ∷ sets) (x ∷ keys) k q saved = Member s (k, q) × Chained sets keys x k saved

-- the states before those calls, innermost first
abbrev pub required : ℕ → List ℕ → List ℕ
required k [] = []
required k (x ∷ keys) = k ∷ required x keys

-- there is a way back over the step of the letter a, from the pair `here`
abbrev pub CanStepBack : Automaton → Letter → Step → List ℕ → ℕ × ℕ → List (List (ℕ × ℕ)) → Type 0
CanStepBack m a step keys here saved =
    (sets : List (List (ℕ × ℕ))) × (next : List (List (ℕ × ℕ))) × IsStep m a step sets next × Chained next keys here.0 here.1 saved

-- the pair `before` stands before the letter a, from which an edge leads to the pair `here`
pub record StepsBack (m : Automaton) (a : Letter) (step : Step) (keys : List ℕ) (here : ℕ × ℕ) (saved : List (List (ℕ × ℕ)))
    (keys' : List ℕ) (before : ℕ × ℕ) (saved' : List (List (ℕ × ℕ))) : Type 0 where
  pub chained : (sets next : List (List (ℕ × ℕ))) → IsStep m a step sets next → Chained next keys here.0 here.1 saved →
      Chained sets keys' before.0 before.1 saved'
  pub follows : (below : List ℕ) → (below' : List ℕ) × Follows m a.kind a (required before.0 keys' ++ below) before.1 here.1
      (λ s. s ≡ required here.0 keys ++ below')

-- a call letter can be stepped back over: where no key is known, some pair of the innermost saved set has the state p
abbrev pub CallsBack : List ℕ → List (List (ℕ × ℕ)) → ℕ → Type 0
CallsBack (x ∷ keys) saved p = Unit {0}
CallsBack [] [] p = ⊥
CallsBack [] (s ∷ saved) p = (k : ℕ) × Member s (k, p)

-- the key k of the pair before a call: the innermost one, or one of the innermost saved set where none is known
abbrev pub GoesOut : List ℕ → List (List (ℕ × ℕ)) → ℕ → List ℕ → List (List (ℕ × ℕ)) → ℕ → Type 0
GoesOut (x ∷ keys) saved p keys' saved' k = (k ≡ x) × (keys' ≡ keys) × (saved' ≡ saved)
GoesOut [] [] p keys' saved' k = ⊥
GoesOut [] (s ∷ saved) p keys' saved' k = Member s (k, p) × (keys' ≡ []) × (saved' ≡ saved)
