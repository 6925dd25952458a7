-- Triples: when their scopes agree with their letter, when they are valid, and which system each has.
use Rattle.std.specs.Prelude.{◌≡◌, ℕ, ◌<◌, Bool, List, [], ◌∷◌, length, Option, None, Some, slice_get}
use Rattle.lin_rows.specs.declared.systems.System.{System}
use Rattle.lin_rows.specs.Points.{point_of}
use Rattle.letter_acts.specs.Acts.{PlainAct, inside_act, call_act, back_act, Alphabet, frame_of}
use Rattle.letter_acts.specs.Meaning.{Situation, ActInside, ActCalls, ActReturns}
use Rattle.farkas_check.specs.Nodes.{PlainNode}
use Rattle.farkas_check.specs.Refutes.{Refutes}
use Rattle.triple_rows.specs.declared.predicates.PredNode.TheVariants.{Truth}
use Rattle.triple_rows.specs.declared.triples.Scoped.{Scoped}
use Rattle.triple_rows.specs.declared.triples.Triple.{Triple}
use Rattle.triple_rows.specs.declared.triples.Triple.TheVariants.{Inside, Call, Back}
use Rattle.triple_rows.specs.Predicates.{Formula, formula_of, FormulaHolds, IsOver, SpellsPredicate}
use Rattle.triple_rows.specs.Systems.{PlainSystem, only_rows, PlainFits, IsSystem, inside_system, call_system, back_system}

-- the predicate true, or false, of a procedure
abbrev pub truth_of : ℕ → Bool → Scoped
truth_of p b = record { proc = p; pred = Truth b ∷ [] }

-- the situation is in the predicate's procedure, and its values meet the predicate
abbrev pub ScopedHolds : Scoped → Situation → Type 0
ScopedHolds p s = (s.proc ≡ p.proc) × FormulaHolds (point_of s.values) (formula_of p.pred)

-- The triple is valid: wherever its letter leads from situations that meet the source, or the exit and the predicate
-- before the call, the situation after meets the target.
abbrev pub IsValid : Alphabet → Triple → Type 0
IsValid al (Inside from letter to) =
    (s t : Situation) → ActInside al (slice_get al.acts letter) s t → ScopedHolds from s → ScopedHolds to t
IsValid al (Call from letter to) =
    (s t : Situation) → ActCalls al (slice_get al.acts letter) s t → ScopedHolds from s → ScopedHolds to t
IsValid al (Back exit before letter to) =
    (x b t : Situation) → ActReturns al (slice_get al.acts letter) x b t → ScopedHolds exit x → ScopedHolds before b → ScopedHolds to t

-- the predicate is of this procedure, which exists, and its atoms name columns of that frame alone
pub record IsScoped (al : Alphabet) (p : ℕ) (scoped : Scoped) : Type 0 where
  pub proc : scoped.proc ≡ p
  pub exists : p < length al.frames
  pub over : IsOver (length (frame_of al p)) (formula_of scoped.pred)

-- the letter's act is an inside act of the procedure of source and target
abbrev pub InsideAgrees : Alphabet → Option PlainAct → Scoped → Scoped → Type 0
InsideAgrees al None from to = ⊥
InsideAgrees al (Some (inside_act p written helpers rows)) from to = IsScoped al p from × IsScoped al p to
InsideAgrees al (Some (call_act caller callee helpers rows)) from to = ⊥
InsideAgrees al (Some (back_act c targets)) from to = ⊥

-- the letter's act is a call act from the source's procedure to the target's
abbrev pub CallAgrees : Alphabet → Option PlainAct → Scoped → Scoped → Type 0
CallAgrees al None from to = ⊥
CallAgrees al (Some (inside_act p written helpers rows)) from to = ⊥
CallAgrees al (Some (call_act caller callee helpers rows)) from to = IsScoped al caller from × IsScoped al callee to
CallAgrees al (Some (back_act c targets)) from to = ⊥

-- the call's act leads from the procedure of the predicate before it, which is that of the target, to the exit's
abbrev pub ReturnAgrees : Alphabet → Option PlainAct → Scoped → Scoped → Scoped → Type 0
ReturnAgrees al None exit before to = ⊥
ReturnAgrees al (Some (inside_act p written helpers rows)) exit before to = ⊥
ReturnAgrees al (Some (call_act caller callee helpers rows)) exit before to = IsScoped al callee exit × IsScoped al caller before × IsScoped al caller to
ReturnAgrees al (Some (back_act c targets)) exit before to = ⊥

-- the letter's act is a return from such a call
abbrev pub BackAgrees : Alphabet → Option PlainAct → Scoped → Scoped → Scoped → Type 0
BackAgrees al None exit before to = ⊥
BackAgrees al (Some (inside_act p written helpers rows)) exit before to = ⊥
BackAgrees al (Some (call_act caller callee helpers rows)) exit before to = ⊥
BackAgrees al (Some (back_act c targets)) exit before to = ReturnAgrees al (slice_get al.acts c) exit before to

-- kinds and scopes agree: the letter's act has the triple's kind, and the predicates are of its procedures
abbrev pub Agrees : Alphabet → Triple → Type 0
Agrees al (Inside from letter to) = InsideAgrees al (slice_get al.acts letter) from to
Agrees al (Call from letter to) = CallAgrees al (slice_get al.acts letter) from to
Agrees al (Back exit before letter to) = BackAgrees al (slice_get al.acts letter) exit before to

-- what it claims after the letter is spelled as a predicate
abbrev pub HasTarget : Triple → Type 0
HasTarget (Inside from letter to) = SpellsPredicate to.pred
HasTarget (Call from letter to) = SpellsPredicate to.pred
HasTarget (Back exit before letter to) = SpellsPredicate to.pred

-- ---- the system

-- of an inside triple, where its letter has this act
abbrev pub inside_system_of : Alphabet → Option PlainAct → Formula → Formula → PlainSystem
inside_system_of al None from to = only_rows []
inside_system_of al (Some (inside_act p written helpers rows)) from to = inside_system (frame_of al p) written rows from to
inside_system_of al (Some (call_act caller callee helpers rows)) from to = only_rows []
inside_system_of al (Some (back_act c targets)) from to = only_rows []

abbrev pub call_system_of : Alphabet → Option PlainAct → Formula → Formula → PlainSystem
call_system_of al None from to = only_rows []
call_system_of al (Some (inside_act p written helpers rows)) from to = only_rows []
call_system_of al (Some (call_act caller callee helpers rows)) from to = call_system (frame_of al caller) (frame_of al callee) rows from to
call_system_of al (Some (back_act c targets)) from to = only_rows []

-- of a return with these targets from a call with this act
abbrev pub return_system_of : Alphabet → List ℕ → Option PlainAct → Formula → Formula → Formula → PlainSystem
return_system_of al targets None exit before to = only_rows []
return_system_of al targets (Some (inside_act p written helpers rows)) exit before to = only_rows []
return_system_of al targets (Some (call_act caller callee helpers rows)) exit before to =
    back_system (frame_of al caller) (frame_of al callee) rows targets exit before to
return_system_of al targets (Some (back_act c more)) exit before to = only_rows []

abbrev pub back_system_of : Alphabet → Option PlainAct → Formula → Formula → Formula → PlainSystem
back_system_of al None exit before to = only_rows []
back_system_of al (Some (inside_act p written helpers rows)) exit before to = only_rows []
back_system_of al (Some (call_act caller callee helpers rows)) exit before to = only_rows []
back_system_of al (Some (back_act c targets)) exit before to = return_system_of al targets (slice_get al.acts c) exit before to

-- the system of a triple; without rows where kinds do not agree
abbrev pub system_of : Alphabet → Triple → PlainSystem
system_of al (Inside from letter to) = inside_system_of al (slice_get al.acts letter) (formula_of from.pred) (formula_of to.pred)
system_of al (Call from letter to) = call_system_of al (slice_get al.acts letter) (formula_of from.pred) (formula_of to.pred)
system_of al (Back exit before letter to) = back_system_of al (slice_get al.acts letter) (formula_of exit.pred) (formula_of before.pred) (formula_of to.pred)

-- all numbers of the triple's system fit, and the nodes refute it
pub record IsRefuted (al : Alphabet) (triple : Triple) (nodes : List PlainNode) : Type 0 where
  pub fits : PlainFits (system_of al triple)
  pub system : System
  pub is_system : IsSystem (system_of al triple) system
  pub refutes : Refutes nodes system

-- there is a system with the rows and groups of the triple's that the nodes do not refute
pub record IsUnrefuted (al : Alphabet) (triple : Triple) (nodes : List PlainNode) : Type 0 where
  pub system : System
  pub is_system : IsSystem (system_of al triple) system
  pub unrefuted : Refutes nodes system → ⊥
