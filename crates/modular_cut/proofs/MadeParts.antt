-- The parts that the code makes.
use Rattle.std.proofs.Common.{◌≡◌, ℕ, ◌<◌, true, false, List, [], ◌∷◌, ◌++◌, map, length, get_or, Option, None, Some, is_some, slice_get, Vec, Global, refl, sym, ap, ◌∙◌, append-nil}
use Rattle.std.specs.Option.{option_map}
use Rattle.std.proofs.lemmas.Bool.{false≢true}
use Rattle.std.proofs.lemmas.Option.{slice_get_read}
use Rattle.std.proofs.lemmas.List.{length-map, map-append}
use Rattle.boogie_tree.specs.declared.tree.VarInfo.{VarInfo}
use Rattle.typed_tree.specs.declared.types.TExpr.{TExpr}
use Rattle.typed_tree.specs.declared.types.TProc.{TProc}
use Rattle.typed_tree.specs.declared.types.TStmt.{TStmt}
use Rattle.typed_tree.specs.TypedTree.{TypedProcedure}
use Rattle.typed_tree.specs.TypedView as view
use Rattle.typed_tree.specs.TypingRules.TypedParts.{TypedParts, typed_program}
use Rattle.modular_cut.specs.declared.cutting.Part.{Part}
use Rattle.modular_cut.specs.Parts.{called_in, cut_procs, copies, procedure_part, PlainPart, part_if, part_at}
use Rattle.modular_cut.specs.View.{plain_part}
use Rattle.modular_cut.proofs.Called.{get_map}

-- the program of these pieces is the part
pub part_made : (t : TypedParts) (gs : List VarInfo) (es : List TExpr) (ps : List TProc) (n : ℕ) → gs ≡ t.globals → map view.expression es ≡ map view.expression t.axioms →
    map view.procedure ps ≡ cut_procs (called_in (length t.procs) n) n (map view.procedure t.procs) ++ copies (slice_get (map view.procedure t.procs) n) →
    typed_program (record { globals = gs; axioms = es; procs = ps; entry = n }) ≡ procedure_part (typed_program t) n
part_made t gs es ps n g e p =
    let many : length t.procs ≡ length (map view.procedure t.procs) = sym (length-map t.procs view.procedure) in
    let procs : map view.procedure ps ≡ (procedure_part (typed_program t) n).procs =
    p ∙ ap (λ (k : ℕ). cut_procs (called_in k n) n (map view.procedure t.procs) ++ copies (slice_get (map view.procedure t.procs) n)) many in
    λ i. record { globals = g i; axioms = e i; procs = procs i; entry = n }

-- the procedure is the one with that number
found : (t : TypedParts) (n : ℕ) (own : TProc) → n < length t.procs → own ≡ get_or t.procs n own → slice_get (map view.procedure t.procs) n ≡ Some (view.procedure own)
found t n own l is = get_map view.procedure t.procs n own (slice_get_read t.procs (length t.procs) n own refl l is)

-- one with a body has a part
pub part_added : (t : TypedParts) (n : ℕ) (own : TProc) (old new : List Part) (p : Part) → n < length t.procs → own ≡ get_or t.procs n own → is_some own.body ≡ true → p.name ≡ own.name →
    typed_program p.program ≡ procedure_part (typed_program t) n → new ≡ old ++ p ∷ [] → map plain_part new ≡ map plain_part old ++ part_at (typed_program t) n (slice_get (map view.procedure t.procs) n)
part_added t n own old new p l is some named made pushed =
    let at : slice_get (map view.procedure t.procs) n ≡ Some (view.procedure own) = found t n own l is in
    ap (map plain_part) pushed ∙ map-append plain_part old (p ∷ []) ∙ (λ i. map plain_part old ++ record { name = named i; program = made i } ∷ [])
    ∙ ap (λ (xs : List PlainPart). map plain_part old ++ xs) (by_body own.body some) ∙ sym (ap (λ (o : Option TypedProcedure). map plain_part old ++ part_at (typed_program t) n o) at)
  where
    by_body : (o : Option (Vec TStmt Global)) → is_some o ≡ true → record { name = own.name; program = procedure_part (typed_program t) n } ∷ [] ≡ part_if (typed_program t) n (view.procedure own) (option_map (λ b. view.statements b.items) o)
    by_body None h = absurd (false≢true h)
    by_body (Some b) h = refl

-- one without has none
pub part_skipped : (t : TypedParts) (n : ℕ) (own : TProc) (old : List Part) → n < length t.procs → own ≡ get_or t.procs n own → is_some own.body ≡ false →
    map plain_part old ≡ map plain_part old ++ part_at (typed_program t) n (slice_get (map view.procedure t.procs) n)
part_skipped t n own old l is none =
    let at : slice_get (map view.procedure t.procs) n ≡ Some (view.procedure own) = found t n own l is in
    sym (append-nil (map plain_part old)) ∙ ap (λ (xs : List PlainPart). map plain_part old ++ xs) (by_body own.body none)
    ∙ sym (ap (λ (o : Option TypedProcedure). map plain_part old ++ part_at (typed_program t) n o) at)
  where
    by_body : (o : Option (Vec TStmt Global)) → is_some o ≡ false → [] ≡ part_if (typed_program t) n (view.procedure own) (option_map (λ b. view.statements b.items) o)
    by_body None h = refl
    by_body (Some b) h = absurd (false≢true (sym h))
