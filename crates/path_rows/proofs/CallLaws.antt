-- The rows of a call hold at a point exactly where it leads from the state that the point has in the caller to that in the callee.
use Rattle.std.proofs.Common.{◌≡◌, ◌↔◌, ◌∙◌, ℕ, ◌+◌, ◌<◌, ℤ, List, [], ◌∷◌, ◌++◌, length, take, drop, refl, sym, ap, subst, arith, append_assoc, length-append, take-append-drop}
use Rattle.std.specs.Prelude.{map, slice_index}
use Rattle.std.specs.List.{AllByRecursion}
use Rattle.std.proofs.lemmas.List.{map-append, take-map, length-take-le, length-map}
use Rattle.boogie_tree.specs.declared.tree.VarInfo.{VarInfo}
use Rattle.math_facts.specs.Terms.{IsBelow}
use Rattle.lin_rows.specs.Rows.{LinearRow, Holds}
use Rattle.lin_rows.specs.Points.{point_of}
use Rattle.letter_acts.specs.Frames.{Columns, IsState, IsFrame, globals_of, variables_of, globals_from}
use Rattle.letter_acts.specs.Acts.{Alphabet, frame_of}
use Rattle.letter_acts.specs.Values.{picked}
use Rattle.letter_acts.specs.Invariant.{CallIsActed, call_width, MayName}
use Rattle.letter_acts.proofs.ListLemmas.{all_from_members}
use Rattle.letter_acts.proofs.PointLemmas.{state_length}
use Rattle.letter_acts.proofs.FrameLemmas.{variable_below}
use Rattle.letter_acts.specs.FrameRows.Rows.{bounds, types_of, columns_from}
use Rattle.path_rows.specs.Versions.{PathStage, part_rows, call_part, entered_versions, local_columns, old_part}
use Rattle.path_rows.specs.Solutions.{read, CallObeyed}
use Rattle.path_rows.proofs.ListLemmas.{all_joined, length-columns_from, length-read, length-read_from, read_picked, split_same}
use Rattle.path_rows.proofs.RowLemmas.{rows_read, entries_read, bounds_read, states_joined, states_split}
use Rattle.path_rows.proofs.LayoutLemmas.{laid_out, length-globals_from}

-- what is known of the frames of a call, where the caller's frame has these versions
pub record CallFrames (globals : List VarInfo) (caller callee : Columns) (here : List ℕ) : Type 0 where
  pub from_frame : IsFrame globals caller
  pub to_frame : IsFrame globals callee
  pub long : length here ≡ length caller

-- the first column of the old columns
abbrev pub olds_at : Columns → ℕ → ℕ → ℕ
olds_at callee made helpers = made + length (local_columns callee) + helpers

-- the values at the entry: of the globals, of the old columns, of the locals
pub entry_read : (point : ℕ → ℤ) (callee : Columns) (locals olds : ℕ) (here : List ℕ) →
    read point (entered_versions callee locals olds here) ≡
    take (length (globals_of callee)) (read point here) ++ (read point (columns_from olds (length (old_part callee))) ++ read point (columns_from locals (length (local_columns callee))))
entry_read point callee locals olds here =
    let front : List ℕ = take (length (globals_of callee)) here in
    let os : List ℕ = columns_from olds (length (old_part callee)) in
    let ls : List ℕ = columns_from locals (length (local_columns callee)) in
    map-append point front (os ++ ls) ∙
    ap (λ (l : List ℤ). l ++ read point (os ++ ls)) (sym (take-map point (length (globals_of callee)) here)) ∙
    ap (λ (l : List ℤ). take (length (globals_of callee)) (read point here) ++ l) (map-append point os ls)

-- the values of the globals of the old columns
pub variables_read : (point : ℕ → ℤ) (globals : List VarInfo) (caller callee : Columns) (here : List ℕ) → CallFrames globals caller callee here →
    read point (map (slice_index here) (variables_of callee)) ≡ picked (read point here) (variables_of callee)
variables_read point globals caller callee here f =
    let long = (laid_out globals caller f.from_frame).long in
    let k = length-globals_from 0 globals in
    let l = f.long in
    read_picked point here (variables_of callee)
    (all_from_members (λ c. c < length here) (variables_of callee) (λ c m. let b = variable_below globals callee f.to_frame c m in omega (arith, b, long, k, l)))

pub front_length : (globals : List VarInfo) (caller callee : Columns) (here : List ℕ) → CallFrames globals caller callee here → (s : List ℤ) → length s ≡ length here →
    length (take (length (globals_of callee)) s) ≡ length (globals_from 0 globals)
front_length globals caller callee here f s e =
    let long = (laid_out globals caller f.from_frame).long in
    let c = (laid_out globals callee f.to_frame).global_count in
    let l = f.long in
    length-take-le (length (globals_of callee)) s (omega (arith, long, c, l, e)) ∙ c

pub entered_length : (globals : List VarInfo) (caller callee : Columns) (here : List ℕ) → CallFrames globals caller callee here → (locals olds : ℕ) →
    length (entered_versions callee locals olds here) ≡ length callee
entered_length globals caller callee here f locals olds =
    let o = laid_out globals callee f.to_frame in
    let long = (laid_out globals caller f.from_frame).long in
    let c = o.global_count in
    let l = f.long in
    let t = length-take-le (length (globals_of callee)) here (omega (arith, long, c, l)) in
    let os : List ℕ = columns_from olds (length (old_part callee)) in
    let ls : List ℕ = columns_from locals (length (local_columns callee)) in
    let a = length-append (take (length (globals_of callee)) here) (os ++ ls) in
    let b = length-append os ls in
    let d = length-columns_from olds (length (old_part callee)) in
    let e = length-columns_from locals (length (local_columns callee)) in
    let p = ap length o.parts in
    let q = length-append (globals_from 0 globals) (old_part callee ++ local_columns callee) in
    let r = length-append (old_part callee) (local_columns callee) in
    omega (arith, t, c, a, b, d, e, p, q, r)

-- the columns of the call's rows
abbrev pub call_names : Columns → ℕ → PathStage → List ℕ
call_names callee helpers p =
    p.here ++ (entered_versions callee p.made (olds_at callee p.made helpers) p.here ++ columns_from (p.made + length (local_columns callee)) helpers)

names_read : (point : ℕ → ℤ) (callee : Columns) (helpers : ℕ) (p : PathStage) →
    read point (call_names callee helpers p) ≡
    (read point p.here ++ read point (entered_versions callee p.made (olds_at callee p.made helpers) p.here)) ++ read point (columns_from (p.made + length (local_columns callee)) helpers)
names_read point callee helpers p =
    let entry : List ℕ = entered_versions callee p.made (olds_at callee p.made helpers) p.here in
    let hs : List ℕ = columns_from (p.made + length (local_columns callee)) helpers in
    map-append point p.here (entry ++ hs) ∙ ap (λ (l : List ℤ). read point p.here ++ l) (map-append point entry hs) ∙
    sym (append_assoc (read point p.here) (read point entry) (read point hs))

below_width : (caller callee : Columns) (helpers : ℕ) (ts : List (ℕ × ℤ)) → AllByRecursion (λ t. MayName caller callee helpers t.0) ts → IsBelow (call_width caller callee helpers) ts
below_width caller callee helpers [] h = tt
below_width caller callee helpers (t ∷ ts) h = (h.0.within, below_width caller callee helpers ts h.1)

pub call_below : (caller callee : Columns) (helpers : ℕ) (rows : List LinearRow) →
    AllByRecursion (λ r. AllByRecursion (λ t. MayName caller callee helpers t.0) r.terms) rows → AllByRecursion (λ r. IsBelow (call_width caller callee helpers) r.terms) rows
call_below caller callee helpers [] h = tt
call_below caller callee helpers (r ∷ rs) h = (below_width caller callee helpers r.terms h.0, call_below caller callee helpers rs h.1)

pub call_names_length : (globals : List VarInfo) (caller callee : Columns) (helpers : ℕ) (p : PathStage) → CallFrames globals caller callee p.here →
    call_width caller callee helpers ≡ length (call_names callee helpers p)
call_names_length globals caller callee helpers p f =
    let entry : List ℕ = entered_versions callee p.made (olds_at callee p.made helpers) p.here in
    let hs : List ℕ = columns_from (p.made + length (local_columns callee)) helpers in
    let a = length-append p.here (entry ++ hs) in
    let b = length-append entry hs in
    let d = entered_length globals caller callee p.here f p.made (olds_at callee p.made helpers) in
    let e = length-columns_from (p.made + length (local_columns callee)) helpers in
    let l = f.long in
    omega (arith, a, b, d, e, l)

own_read : (point : ℕ → ℤ) (globals : List VarInfo) (al : Alphabet) (caller callee helpers : ℕ) (rows : List LinearRow) (p : PathStage) →
    CallIsActed al caller callee helpers rows → CallFrames globals (frame_of al caller) (frame_of al callee) p.here →
    AllByRecursion (Holds point) (call_part (frame_of al callee) helpers rows p).own ↔
    AllByRecursion (Holds (point_of ((read point p.here ++ read point (call_part (frame_of al callee) helpers rows p).after.here) ++
    read point (columns_from (p.made + length (local_columns (frame_of al callee))) helpers)))) rows
own_read point globals al caller callee helpers rows p act f =
    let w = rows_read point (call_names (frame_of al callee) helpers p) rows
    (subst (λ (n : ℕ). AllByRecursion (λ r. IsBelow n r.terms) rows) (call_names_length globals (frame_of al caller) (frame_of al callee) helpers p f)
    (call_below (frame_of al caller) (frame_of al callee) helpers rows act.may_name)) in
    let n = names_read point (frame_of al callee) helpers p in (
      λ h. subst (λ (v : List ℤ). AllByRecursion (Holds (point_of v)) rows) n (w.0 h),
      λ h. w.1 (subst (λ (v : List ℤ). AllByRecursion (Holds (point_of v)) rows) (sym n) h),
    )

-- the states of a frame are those of its three parts
pub state_in_parts : (globals : List VarInfo) (frame : Columns) (f : IsFrame globals frame) (g o l : List ℤ) → IsState (globals_from 0 globals) g →
    IsState (old_part frame) o → IsState (local_columns frame) l → IsState frame (g ++ (o ++ l))
state_in_parts globals frame f g o l hg ho hl =
    subst (λ (columns : Columns). IsState columns (g ++ (o ++ l))) (sym (laid_out globals frame f).parts)
    (states_joined (globals_from 0 globals) (old_part frame ++ local_columns frame) g (o ++ l) hg (states_joined (old_part frame) (local_columns frame) o l ho hl))

-- the first values of a state are a state of the constants and globals
pub globals_of_state : (globals : List VarInfo) (frame : Columns) (f : IsFrame globals frame) (s : List ℤ) (n : ℕ) → n ≡ length (globals_from 0 globals) → IsState frame s →
    IsState (globals_from 0 globals) (take n s) × IsState (old_part frame ++ local_columns frame) (drop n s)
globals_of_state globals frame f s n e h =
    let o = laid_out globals frame f in
    let long = o.long in
    let l = state_length frame s h in
    states_split (globals_from 0 globals) (old_part frame ++ local_columns frame) (take n s) (drop n s) (length-take-le n s (omega (arith, e, long, l)) ∙ e)
    (subst (λ (v : List ℤ). IsState (globals_from 0 globals ++ (old_part frame ++ local_columns frame)) v) (sym (take-append-drop n s))
    (subst (λ (columns : Columns). IsState columns s) o.parts h))

pub call_heard : (point : ℕ → ℤ) (globals : List VarInfo) (al : Alphabet) (caller callee helpers : ℕ) (rows : List LinearRow) (p : PathStage) →
    CallIsActed al caller callee helpers rows → IsFrame globals (frame_of al caller) → IsFrame globals (frame_of al callee) →
    IsState (frame_of al caller) (read point p.here) → AllByRecursion (Holds point) (part_rows (call_part (frame_of al callee) helpers rows p)) →
    CallObeyed point (frame_of al caller) (frame_of al callee) helpers rows p
call_heard point globals al caller callee helpers rows p act fr fe s h =
    let in_callee : Columns = frame_of al callee in
    let olds : ℕ = olds_at in_callee p.made helpers in
    let f : CallFrames globals (frame_of al caller) in_callee p.here = record {
      from_frame = fr;
      to_frame = fe;
      long = sym (length-read point p.here) ∙ state_length (frame_of al caller) (read point p.here) s;
    } in
    let o = laid_out globals in_callee fe in
    let part = call_part in_callee helpers rows p in
    let j = (all_joined (Holds point) part.own (part.entries ++ part.bounds)).0 h in
    let k = (all_joined (Holds point) part.entries part.bounds).0 j.1 in
    let b = (all_joined (Holds point) (bounds p.made (types_of (local_columns in_callee))) (bounds olds (types_of (old_part in_callee)))).0 k.1 in
    let locals : List ℤ = read point (columns_from p.made (length (local_columns in_callee))) in
    let entry = entry_read point in_callee p.made olds p.here in
    let count : length (map (slice_index p.here) (variables_of in_callee)) ≡ length (old_part in_callee) = length-map (variables_of in_callee) (slice_index p.here) ∙ o.variable_count in
    let same : read point (columns_from olds (length (old_part in_callee))) ≡ picked (read point p.here) (variables_of in_callee) =
    ap (λ (n : ℕ). read point (columns_from olds n)) (sym count) ∙
    (entries_read point olds (map (slice_index p.here) (variables_of in_callee))).0 k.0 ∙ variables_read point globals (frame_of al caller) in_callee p.here f in
    record {
      leads = record {
        before = s;
        after = subst (IsState in_callee) (sym entry)
            (state_in_parts globals in_callee fe (take (length (globals_of in_callee)) (read point p.here)) (read point (columns_from olds (length (old_part in_callee)))) locals
            (globals_of_state globals (frame_of al caller) fr (read point p.here) (length (globals_of in_callee)) o.global_count s).0
            ((bounds_read point olds (old_part in_callee)).0 b.1) ((bounds_read point p.made (local_columns in_callee)).0 b.0));
        locals = locals;
        entered = entry ∙ ap (λ (v : List ℤ). take (length (globals_of in_callee)) (read point p.here) ++ (v ++ locals)) same;
        rows_hold = record {
          helpers = read point (columns_from (p.made + length (local_columns in_callee)) helpers);
          as_many = length-read_from point (p.made + length (local_columns in_callee)) helpers;
          hold = (own_read point globals al caller callee helpers rows p act f).0 j.0;
        };
      };
      helped = refl;
    }

pub call_said : (point : ℕ → ℤ) (globals : List VarInfo) (al : Alphabet) (caller callee helpers : ℕ) (rows : List LinearRow) (p : PathStage) →
    CallIsActed al caller callee helpers rows → IsFrame globals (frame_of al caller) → IsFrame globals (frame_of al callee) →
    CallObeyed point (frame_of al caller) (frame_of al callee) helpers rows p → AllByRecursion (Holds point) (part_rows (call_part (frame_of al callee) helpers rows p))
call_said point globals al caller callee helpers rows p act fr fe h =
    let in_callee : Columns = frame_of al callee in
    let olds : ℕ = olds_at in_callee p.made helpers in
    let s : List ℤ = read point p.here in
    let n : ℕ = length (globals_of in_callee) in
    let f : CallFrames globals (frame_of al caller) in_callee p.here = record {
      from_frame = fr;
      to_frame = fe;
      long = sym (length-read point p.here) ∙ state_length (frame_of al caller) s h.leads.before;
    } in
    let o = laid_out globals in_callee fe in
    let part = call_part in_callee helpers rows p in
    let locals : List ℤ = read point (columns_from p.made (length (local_columns in_callee))) in
    let old_values : List ℤ = read point (columns_from olds (length (old_part in_callee))) in
    let entry = entry_read point in_callee p.made olds p.here in
    let after : IsState (globals_from 0 globals ++ (old_part in_callee ++ local_columns in_callee)) (take n s ++ (old_values ++ locals)) =
    subst (λ (columns : Columns). IsState columns (take n s ++ (old_values ++ locals))) o.parts (subst (IsState in_callee) entry h.leads.after) in
    let rest = (states_split (globals_from 0 globals) (old_part in_callee ++ local_columns in_callee) (take n s) (old_values ++ locals)
    (front_length globals (frame_of al caller) in_callee p.here f s (length-read point p.here)) after).1 in
    let both = states_split (old_part in_callee) (local_columns in_callee) old_values locals (length-read_from point olds (length (old_part in_callee))) rest in
    let count : length (map (slice_index p.here) (variables_of in_callee)) ≡ length (old_part in_callee) = length-map (variables_of in_callee) (slice_index p.here) ∙ o.variable_count in
    let e : take n s ++ (old_values ++ locals) ≡ take n s ++ (picked s (variables_of in_callee) ++ h.leads.locals) = sym entry ∙ h.leads.entered in
    let e2 = (split_same (take n s) (take n s) (old_values ++ locals) (picked s (variables_of in_callee) ++ h.leads.locals) refl e).1 in
    let same : old_values ≡ picked s (variables_of in_callee) =
    (split_same old_values (picked s (variables_of in_callee)) locals h.leads.locals
    (length-read_from point olds (length (old_part in_callee)) ∙ sym o.variable_count ∙ sym (length-map (variables_of in_callee) (point_of s))) e2).0 in
    (all_joined (Holds point) part.own (part.entries ++ part.bounds)).1 (
      (own_read point globals al caller callee helpers rows p act f).1
          (subst (λ (v : List ℤ). AllByRecursion (Holds (point_of ((s ++ read point part.after.here) ++ v))) rows) h.helped h.leads.rows_hold.hold),
      (all_joined (Holds point) part.entries part.bounds).1 (
        (entries_read point olds (map (slice_index p.here) (variables_of in_callee))).1
            (ap (λ (k : ℕ). read point (columns_from olds k)) count ∙ same ∙ sym (variables_read point globals (frame_of al caller) in_callee p.here f)),
        (all_joined (Holds point) (bounds p.made (types_of (local_columns in_callee))) (bounds olds (types_of (old_part in_callee)))).1
            ((bounds_read point p.made (local_columns in_callee)).1 both.1, (bounds_read point olds (old_part in_callee)).1 both.0),
      ),
    )
