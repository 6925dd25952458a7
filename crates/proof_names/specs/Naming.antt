-- What each line of an annotation names.
use Rattle.std.specs.Prelude.{◌≡◌, ◌⊎◌, ℕ, zero, suc, ◌+◌, true, false, IsTrue, List, [], ◌∷◌, map, Option, None, Some, IsSomeAnd, slice_get}
use Rattle.std.specs.Option.{option_map}
use Rattle.std.specs.List.{AllByRecursion}
use Rattle.letter_acts.specs.Acts.{PlainAct, inside_act, call_act, back_act, Alphabet, frame_of}
use Rattle.letter_acts.specs.Invariant.{Graph, alphabet_of, IsPlaceOf, inside_width, call_width}
use Rattle.letter_acts.specs.Widths.{back_width}
use Rattle.triple_rows.specs.declared.triples.Scoped.{Scoped}
use Rattle.triple_rows.specs.declared.triples.Triple.{Triple}
use Rattle.triple_rows.specs.declared.triples.Triple.TheVariants as triples
use Rattle.triple_rows.specs.Triples.{Agrees, truth_of}
use Rattle.proof_form.specs.declared.lines.StepLine.{StepLine}
use Rattle.proof_form.specs.declared.lines.StepLine.TheVariants as lines
use Rattle.proof_form.specs.Refutations.{RefutationNode}
use Rattle.proof_form.specs.Lines as form
use Rattle.proof_form.specs.Lines.{inside_triple, call_triple, back_triple}
use Rattle.proof_names.specs.declared.outlines.Listed.{Listed}
use Rattle.proof_names.specs.declared.outlines.Listed.TheVariants.{Inside, Call, Back}
use Rattle.proof_names.specs.declared.outlines.NamedTriple.{NamedTriple}
use Rattle.proof_names.specs.declared.outlines.NamedStep.{NamedStep}
use Rattle.proof_names.specs.declared.outlines.NamedStep.TheVariants as steps
use Rattle.proof_names.specs.Numbers.{index_in, short_in}
use Rattle.proof_names.specs.Options.{both, all_some}
use Rattle.proof_names.specs.Refutations.{refutation_is_named, refutation_of}
use Rattle.proof_names.specs.Outlines.{OutlineNode}

-- ---- predicates by number

-- the predicate with this number in a procedure: 0 is true and 1 is false in every procedure, the lines have the numbers from 2 on
abbrev pub scoped_at : (ℕ → Option Scoped) → ℕ → ℕ → Option Scoped
scoped_at preds p zero = Some (truth_of p true)
scoped_at preds p (suc zero) = Some (truth_of p false)
scoped_at preds p (suc (suc k)) = preds k

-- the number is that of a predicate of the procedure
abbrev pub IsPredOf : (ℕ → Option Scoped) → ℕ → ℕ → Type 0
IsPredOf preds p k = IsSomeAnd (scoped_at preds p k) (λ s. s.proc ≡ p)

-- ---- triples

-- the numbers of a triple's line
abbrev pub listed_of : form.Triple → Option Listed
listed_of (inside_triple q l r proof) = option_map (λ t. Inside t.0 t.1.0 t.1.1) (both (index_in q) (both (short_in l) (index_in r)))
listed_of (call_triple q l r proof) = option_map (λ t. Call t.0 t.1.0 t.1.1) (both (index_in q) (both (short_in l) (index_in r)))
listed_of (back_triple x b l r proof) =
    option_map (λ t. Back t.0.0 t.0.1 t.1.0 t.1.1) (both (both (index_in x) (index_in b)) (both (short_in l) (index_in r)))

abbrev pub proof_in : form.Triple → List RefutationNode
proof_in (inside_triple q l r proof) = proof
proof_in (call_triple q l r proof) = proof
proof_in (back_triple x b l r proof) = proof

-- the predicates before and after an inside letter, in the procedure of its act
abbrev pub inside_at : (ℕ → Option Scoped) → ℕ → ℕ → ℕ → Option PlainAct → Option Triple
inside_at preds q l r None = None
inside_at preds q l r (Some (inside_act p written helpers rows)) =
    option_map (λ t. triples.Inside t.0 l t.1) (both (scoped_at preds p q) (scoped_at preds p r))
inside_at preds q l r (Some (call_act caller callee helpers rows)) = None
inside_at preds q l r (Some (back_act c targets)) = None

-- the predicates before a call letter, in the caller, and after it, in the callee
abbrev pub call_at : (ℕ → Option Scoped) → ℕ → ℕ → ℕ → Option PlainAct → Option Triple
call_at preds q l r None = None
call_at preds q l r (Some (inside_act p written helpers rows)) = None
call_at preds q l r (Some (call_act caller callee helpers rows)) =
    option_map (λ t. triples.Call t.0 l t.1) (both (scoped_at preds caller q) (scoped_at preds callee r))
call_at preds q l r (Some (back_act c targets)) = None

-- the predicates at the exit, in the callee, before the call and after the return, in the caller; by the call's act
abbrev pub return_at : (ℕ → Option Scoped) → ℕ → ℕ → ℕ → ℕ → Option PlainAct → Option Triple
return_at preds x b l r None = None
return_at preds x b l r (Some (inside_act p written helpers rows)) = None
return_at preds x b l r (Some (call_act caller callee helpers rows)) =
    option_map (λ t. triples.Back t.0 t.1.0 l t.1.1) (both (scoped_at preds callee x) (both (scoped_at preds caller b) (scoped_at preds caller r)))
return_at preds x b l r (Some (back_act c targets)) = None

-- the same by the act of the return
abbrev pub back_at : List PlainAct → (ℕ → Option Scoped) → ℕ → ℕ → ℕ → ℕ → Option PlainAct → Option Triple
back_at acts preds x b l r None = None
back_at acts preds x b l r (Some (inside_act p written helpers rows)) = None
back_at acts preds x b l r (Some (call_act caller callee helpers rows)) = None
back_at acts preds x b l r (Some (back_act c targets)) = return_at preds x b l r (slice_get acts c)

-- the triple with these numbers; none where a predicate or the letter does not exist, or the letter is of another kind
abbrev pub triple_at : List PlainAct → (ℕ → Option Scoped) → Listed → Option Triple
triple_at acts preds (Inside q l r) = inside_at preds q l r (slice_get acts l)
triple_at acts preds (Call q l r) = call_at preds q l r (slice_get acts l)
triple_at acts preds (Back x b l r) = back_at acts preds x b l r (slice_get acts l)

abbrev pub letter_in : Listed → ℕ
letter_in (Inside q l r) = l
letter_in (Call q l r) = l
letter_in (Back x b l r) = l

-- how many columns the system of a triple has, by its letter's act
abbrev pub width : Alphabet → Option PlainAct → ℕ
width al None = 0
width al (Some (inside_act p written helpers rows)) = inside_width (frame_of al p) written helpers
width al (Some (call_act caller callee helpers rows)) = call_width (frame_of al caller) (frame_of al callee) helpers
width al (Some (back_act c targets)) = back_width al targets (slice_get al.acts c)

-- A line names a triple: its numbers are those of predicates and of a letter of its kind, whose scopes agree, the numbers of
-- its refutation fit, and each cut is at a column of the triple's system.
pub record NamesTriple (g : Graph) (preds : ℕ → Option Scoped) (line : form.Triple) (t : NamedTriple) : Type 0 where
  pub numbers : listed_of line ≡ Some t.listed
  pub triple : triple_at g.acts preds t.listed ≡ Some t.triple
  pub agrees : Agrees (alphabet_of g) t.triple
  pub named : IsTrue (refutation_is_named (width (alphabet_of g) (slice_get g.acts (letter_in t.listed))) (proof_in line))
  pub proof : t.proof ≡ refutation_of (proof_in line)

-- ---- nodes

-- the line's place exists and belongs to the procedure
pub record IsLineIn (g : Graph) (p : ℕ) (line : form.Node) : Type 0 where
  pub place : ℕ
  pub number : short_in line.place ≡ Some place
  pub belongs : IsPlaceOf g.place_procs p place

-- the line with this number names itself as entry node, and its place belongs to the procedure
pub record IsEntryIn (g : Graph) (p : ℕ) (lines : List form.Node) (n : ℕ) : Type 0 where
  pub line : form.Node
  pub stands : slice_get lines n ≡ Some line
  pub itself : index_in line.entry ≡ Some n
  pub belongs : IsLineIn g p line

-- place 0, or the entry place of its procedure
abbrev pub MayBegin : Graph → ℕ → ℕ → Type 0
MayBegin g p place = (place ≡ 0) ⊎ (slice_get g.entries p ≡ Some (Some place))

-- Line n of the nodes names a node: its place exists, its predicates exist and are of the procedure of the place, its entry
-- node is one, of the same procedure, and if it is an entry node itself, its place is 0 or an entry place.
pub record NamesNode (g : Graph) (preds : ℕ → Option Scoped) (lines : List form.Node) (n : ℕ) (line : form.Node) (x : OutlineNode) : Type 0 where
  pub proc : ℕ
  pub place : short_in line.place ≡ Some x.place
  pub exists : IsPlaceOf g.place_procs proc x.place
  pub preds_are : all_some (map index_in line.preds) ≡ Some x.preds
  pub scoped : AllByRecursion (IsPredOf preds proc) x.preds
  pub entry : index_in line.entry ≡ Some x.entry
  pub is_entry : IsEntryIn g proc lines x.entry
  pub begins : x.entry ≡ n → MayBegin g proc x.place

-- ---- steps

-- the node with this number exists, and its place belongs to the procedure
abbrev pub IsNodeIn : Graph → (ℕ → Option ℕ) → ℕ → ℕ → Type 0
IsNodeIn g places p n = IsSomeAnd (places n) (IsPlaceOf g.place_procs p)

-- the nodes of a step are of the procedures of its letter's act, an inside or call act
abbrev pub StepIsIn : Graph → (ℕ → Option ℕ) → ℕ → ℕ → Option PlainAct → Type 0
StepIsIn g places n m None = ⊥
StepIsIn g places n m (Some (inside_act p written helpers rows)) = IsNodeIn g places p n × IsNodeIn g places p m
StepIsIn g places n m (Some (call_act caller callee helpers rows)) = IsNodeIn g places caller n × IsNodeIn g places callee m
StepIsIn g places n m (Some (back_act c targets)) = ⊥

-- the exit of a back is a node of the callee, its call and its end are nodes of the caller; by the call's act
abbrev pub ReturnIsIn : Graph → (ℕ → Option ℕ) → ℕ → ℕ → ℕ → Option PlainAct → Type 0
ReturnIsIn g places x c m None = ⊥
ReturnIsIn g places x c m (Some (inside_act p written helpers rows)) = ⊥
ReturnIsIn g places x c m (Some (call_act caller callee helpers rows)) =
    IsNodeIn g places callee x × IsNodeIn g places caller c × IsNodeIn g places caller m
ReturnIsIn g places x c m (Some (back_act l targets)) = ⊥

-- the same by the act of the return
abbrev pub BackIsIn : Graph → (ℕ → Option ℕ) → ℕ → ℕ → ℕ → Option PlainAct → Type 0
BackIsIn g places x c m None = ⊥
BackIsIn g places x c m (Some (inside_act p written helpers rows)) = ⊥
BackIsIn g places x c m (Some (call_act caller callee helpers rows)) = ⊥
BackIsIn g places x c m (Some (back_act l targets)) = ReturnIsIn g places x c m (slice_get g.acts l)

-- the nodes exist and are of the procedures of the letter's act, which is of the step's kind
abbrev pub IsInScope : Graph → (ℕ → Option ℕ) → NamedStep → Type 0
IsInScope g places (steps.Step n l m) = StepIsIn g places n m (slice_get g.acts l)
IsInScope g places (steps.Back x c l m) = BackIsIn g places x c m (slice_get g.acts l)

-- the numbers of a step's line
abbrev pub step_of : StepLine → Option NamedStep
step_of (lines.Step n l m) = option_map (λ t. steps.Step t.0 t.1.0 t.1.1) (both (index_in n) (both (short_in l) (index_in m)))
step_of (lines.Back x c l m) =
    option_map (λ t. steps.Back t.0.0 t.0.1 t.1.0 t.1.1) (both (both (index_in x) (index_in c)) (both (short_in l) (index_in m)))

-- a line names a step or a back
pub record NamesStep (g : Graph) (places : ℕ → Option ℕ) (line : StepLine) (s : NamedStep) : Type 0 where
  pub numbers : step_of line ≡ Some s
  pub scoped : IsInScope g places s
