-- The columns of a frame whose value is fixed are those of the program's constants.
use Rattle.std.proofs.Common.{◌≡◌, ℕ, false, true, Option, None, Some, slice_get, refl, sym, ap, ◌∙◌, subst, List, [], ◌∷◌, map}
use Rattle.std.specs.List.{AllByRecursion}
use Rattle.boogie_tree.specs.declared.tree.Column.{Column}
use Rattle.boogie_tree.specs.declared.tree.Column.TheVariants as columns
use Rattle.boogie_tree.specs.declared.tree.VarInfo.{VarInfo}
use Rattle.typed_tree.specs.TypedTree.{TypedExpression, TypedSpecification, Requires, Ensures, TypedProgram}
use Rattle.typed_tree.specs.AffineForm.{forms_fit}
use Rattle.typed_tree.specs.Scope.{is_constant_column, is_constant_variable}
use Rattle.letter_acts.specs.Frames.{Columns}
use Rattle.cond_jumps.specs.Frames.{fixed_in, is_constant_place, place_from}
use Rattle.boogie_run.specs.BoogiePoints.Actions.{ensured_conditions}
use Rattle.lowered_graph.specs.LoweredSteps.ProgramFrames.{frame_at}
use Rattle.lowered_graph.proofs.LoweredSteps.Places.{global_place, no_global_place}
use Rattle.icfg_lower.specs.PlaceEdges.Forms.{AllFormsFit, FormsFit, SpecificationsFit}

constants_are : (t : TypedProgram) (n : ℕ) → fixed_in (frame_at t n) ≡ is_constant_column t.globals
constants_are t n = λ i c. of_column c i
  where
    of_global : (g : ℕ) (o : Option VarInfo) → slice_get t.globals g ≡ o → is_constant_place (place_from 0 (frame_at t n) (columns.Global g)) ≡ is_constant_variable o
    of_global g None e = ap is_constant_place (no_global_place t n g e)
    of_global g (Some v) e = ap is_constant_place (global_place t n g v e)

    of_column : (c : Column) → fixed_in (frame_at t n) c ≡ is_constant_column t.globals c
    of_column (columns.Global g) = of_global g (slice_get t.globals g) refl
    of_column (columns.Old g) = refl
    of_column (columns.Local l) = refl

-- of a frame and of globals that are those of the program
pub frame_constants : (t : TypedProgram) (n : ℕ) (frame : Columns) (globals : List VarInfo) → frame ≡ frame_at t n → globals ≡ t.globals → fixed_in frame ≡ is_constant_column globals
frame_constants t n frame globals f g = ap fixed_in f ∙ constants_are t n ∙ ap is_constant_column (sym g)

-- forms that fit in a program fit by globals that are those of the program
pub forms_by : (t : TypedProgram) (globals : List VarInfo) (e : TypedExpression) → globals ≡ t.globals → FormsFit t e → forms_fit (is_constant_column globals) false e ≡ true
forms_by t globals e g h = subst (λ (vs : List VarInfo). forms_fit (is_constant_column vs) false e ≡ true) (sym g) h

pub all_forms_by : (t : TypedProgram) (globals : List VarInfo) (es : List TypedExpression) → globals ≡ t.globals → AllFormsFit t es →
    AllByRecursion (λ e. forms_fit (is_constant_column globals) false e ≡ true) es
all_forms_by t globals es g h = subst (λ (vs : List VarInfo). AllByRecursion (λ e. forms_fit (is_constant_column vs) false e ≡ true) es) (sym g) h

-- the conditions of ensures among those of specifications
ensured_fit : (t : TypedProgram) (ss : List TypedSpecification) → SpecificationsFit t ss → AllFormsFit t (map (λ i. i.cond) (ensured_conditions ss))
ensured_fit t [] h = tt
ensured_fit t (Requires i ∷ ss) h = ensured_fit t ss h.1
ensured_fit t (Ensures i ∷ ss) h = (h.0, ensured_fit t ss h.1)

pub ensured_by : (t : TypedProgram) (globals : List VarInfo) (ss : List TypedSpecification) → globals ≡ t.globals → SpecificationsFit t ss →
    AllByRecursion (λ e. forms_fit (is_constant_column globals) false e ≡ true) (map (λ i. i.cond) (ensured_conditions ss))
ensured_by t globals ss g h = all_forms_by t globals (map (λ i. i.cond) (ensured_conditions ss)) g (ensured_fit t ss h)
