-- What is known at a return of an accepted word, and the rows of its triple's system.
use Rattle.std.proofs.Common.{◌≡◌, ◌∙◌, ℕ, suc, ◌+◌, true, List, [], ◌∷◌, ◌++◌, length, map, refl, sym, ap, subst, append-nil, Option, Some}
use Rattle.std.specs.Prelude.{filter, not, slice_get}
use Rattle.nwa_base.specs.declared.letters.Kind.{Kind}
use Rattle.nwa_base.specs.declared.letters.Kind.TheVariants as kinds
use Rattle.nwa_base.specs.declared.letters.Letter.{Letter}
use Rattle.nwa_base.specs.Acceptance.{AcceptsFrom, Follows}
use Rattle.lin_rows.specs.Rows.{LinearRow}
use Rattle.farkas_check.specs.Trees.{Tree}
use Rattle.letter_acts.specs.Frames.{Columns, constants_of, olds_of, result_columns, variables_of}
use Rattle.letter_acts.specs.Acts.{PlainAct, call_act, back_act, Alphabet, frame_of, act_of}
use Rattle.letter_acts.specs.Reading.{taken, is_listed}
use Rattle.letter_acts.specs.Invariant.{Graph, IsGraph, alphabet_of, BackIsActed, written_by}
use Rattle.letter_acts.proofs.KnownLemmas.{act_found}
use Rattle.path_rows.specs.Versions.{Part, returned, back_part, return_part, part_of, act_part}
use Rattle.path_rows.specs.Stages.{AreVersions, VersionsAt}
use Rattle.path_rows.specs.Drafts.{CanGoOn}
use Rattle.path_rows.proofs.EdgeLemmas.{BackEdge, back_acts}
use Rattle.triple_rows.specs.Predicates.{Formula}
use Rattle.triple_rows.specs.Systems.{PlainSystem, only_rows, all_systems, said, denied, after_column, call_column, back_system}
use Rattle.letter_acts.specs.FrameRows.Rows.{equal_row, renamed, types_of, types_at, bounds}
use Rattle.nested_itp.specs.NestedPredicates.Stamps.{stamp_of}
use Rattle.nested_itp.specs.NestedPredicates.Positions.{CallScope, has_return, returned_by, left_scopes, scopes_after, Position, innermost}
use Rattle.nested_itp.specs.NestedRefutations.Refutations.{rows_in}
use Rattle.nested_itp.specs.NestedRefutations.Numbers.{Step, back_step, OpenCall, Reading, position_here, read_on}
use Rattle.nested_itp.proofs.NestedRefutations.MovingLaws.{both_rows}
use Rattle.nested_itp.proofs.NestedRefutations.AlongLaws.{same_proc, Along}
use Rattle.nested_itp.proofs.NestedRefutations.CallAtLaws.{entry_of}
use Rattle.nested_itp.proofs.NestedRefutations.OpenLaws.{IsKept, OpenAt, StackFits, Stacked}

pub record BackAt (g : Graph) (globals : ℕ) (w : List Letter) (r : Reading) (a : Letter) (rest : List Letter) (targets : List ℕ) : Type 0 where
  pub along : Along g globals w r (a ∷ rest)
  pub there : slice_get g.acts a.id ≡ Some (back_act a.call targets)
  pub act_is : act_of (alphabet_of g) a ≡ Some (back_act a.call targets)
  pub kind : a.kind ≡ kinds.Back
  pub place : ℕ
  pub call : OpenCall
  pub scope : CallScope
  pub before : List ℕ
  pub calls : List OpenCall
  pub scopes : List CallScope
  pub saved : List (List ℕ)
  pub calls_are : r.calls ≡ call ∷ calls
  pub scopes_are : r.scopes ≡ scope ∷ scopes
  pub saved_are : r.stage.saved ≡ before ∷ saved
  pub open_at : OpenAt g globals w place call scope before
  pub returns : has_return 0 open_at.rest ≡ true
  pub kept : IsKept (frame_of (alphabet_of g) open_at.callee) (entry_of g open_at.reading open_at.callee open_at.helpers) r.stage.here
  pub outer_scopes : open_at.reading.scopes ≡ scopes
  pub outer_saved : open_at.reading.stage.saved ≡ saved
  pub call_there : slice_get g.acts a.call ≡ Some (call_act open_at.caller open_at.callee open_at.helpers open_at.rows)
  pub acted : BackIsActed (frame_of (alphabet_of g) open_at.caller) (frame_of (alphabet_of g) open_at.callee) open_at.helpers targets
  pub versions : AreVersions r.stage.made (frame_of (alphabet_of g) open_at.callee) r.stage.here

-- at a letter with a return's act
pub back_at : (g : Graph) → IsGraph g → (globals : ℕ) (w : List Letter) (r : Reading) (a : Letter) (rest : List Letter) → Along g globals w r (a ∷ rest) → Stacked g globals w r (a ∷ rest) →
    (n : ℕ) (targets : List ℕ) → act_of (alphabet_of g) a ≡ Some (back_act n targets) → BackAt g globals w r a rest targets
back_at g ok globals w r a rest h t n targets e =
    let found = act_found (alphabet_of g) a (back_act n targets) e in
    let kind : a.kind ≡ kinds.Back = ap (λ (b : Letter). b.kind) found.1 in
    by_places kind found.0 t.places r.calls r.scopes r.stage.saved refl refl refl t.stack
    (subst (λ (d : Kind). Follows g.automaton d a t.places t.from t.accepts.0 (λ st. AcceptsFrom g.automaton st t.accepts.0 rest)) kind t.accepts.1)
  where
    versions_there : a.kind ≡ kinds.Back → (from to : ℕ) → VersionsAt g from r.stage.made r.stage.here → (caller callee helpers : ℕ) (rows : List LinearRow) →
        slice_get g.acts a.call ≡ Some (call_act caller callee helpers rows) → (places : List ℕ) → Follows g.automaton kinds.Back a places from to (λ st. AcceptsFrom g.automaton st to rest) →
        AreVersions r.stage.made (frame_of (alphabet_of g) callee) r.stage.here
    versions_there k from to v caller callee helpers rows i [] f = absurd f
    versions_there k from to v caller callee helpers rows i (p ∷ places) f =
        let x : BackEdge g from p a to = back_acts g ok from p to a k f.0 in
        let act : Some (call_act x.known.caller x.known.callee x.known.helpers x.known.rows) ≡ Some (call_act caller callee helpers rows) = sym x.known.call ∙ i in
        let proc : x.known.callee ≡ callee = cc in
        subst (λ (m : ℕ). AreVersions r.stage.made (frame_of (alphabet_of g) m) r.stage.here) (same_proc g.place_procs from v.proc x.known.callee v.place x.exit ∙ proc) v.versions

    by_places : a.kind ≡ kinds.Back → slice_get g.acts a.id ≡ Some (back_act n targets) → (places : List ℕ) (calls : List OpenCall) (scopes : List CallScope) (saved : List (List ℕ)) →
        r.calls ≡ calls → r.scopes ≡ scopes → r.stage.saved ≡ saved → StackFits g globals w (λ k. has_return k (a ∷ rest)) 0 places calls scopes saved r.stage.here →
        Follows g.automaton kinds.Back a places t.from t.accepts.0 (λ st. AcceptsFrom g.automaton st t.accepts.0 rest) → BackAt g globals w r a rest targets
    by_places k act [] calls scopes saved e1 e2 e3 s f = absurd f
    by_places k act (p ∷ places) [] scopes saved e1 e2 e3 s f = absurd s
    by_places k act (p ∷ places) (c ∷ calls) [] saved e1 e2 e3 s f = absurd s
    by_places k act (p ∷ places) (c ∷ calls) (q ∷ scopes) [] e1 e2 e3 s f = absurd s
    by_places k act (p ∷ places) (c ∷ calls) (q ∷ scopes) (v ∷ saved) e1 e2 e3 s f =
        let o : OpenAt g globals w p c q v = s.0 in
        let x : BackEdge g t.from p a t.accepts.0 = back_acts g ok t.from p t.accepts.0 a k f.0 in
        let id : o.letter.id ≡ a.call = ok.edges.one_call.both p t.from o.to t.accepts.0 o.letter a o.edge f.0 in
        let call_there : slice_get g.acts a.call ≡ Some (call_act o.caller o.callee o.helpers o.rows) = ap (slice_get g.acts) (sym id) ∙ o.at.there in
        let known : Some (call_act x.known.caller x.known.callee x.known.helpers x.known.rows) ≡ Some (call_act o.caller o.callee o.helpers o.rows) = sym x.known.call ∙ call_there in
        let same_caller : x.known.caller ≡ o.caller = cc in
        let same_callee : x.known.callee ≡ o.callee = cc in
        let same_helpers : x.known.helpers ≡ o.helpers = cc in
        let back : Some (back_act a.call x.known.targets) ≡ Some (back_act n targets) = sym x.known.act ∙ act in
        let same_targets : x.known.targets ≡ targets = cc in
        let acted : BackIsActed (frame_of (alphabet_of g) o.caller) (frame_of (alphabet_of g) o.callee) o.helpers targets =
        subst (λ (m : ℕ). BackIsActed (frame_of (alphabet_of g) m) (frame_of (alphabet_of g) o.callee) o.helpers targets) same_caller
        (subst (λ (m : ℕ). BackIsActed (frame_of (alphabet_of g) x.known.caller) (frame_of (alphabet_of g) m) o.helpers targets) same_callee
        (subst (λ (m : ℕ). BackIsActed (frame_of (alphabet_of g) x.known.caller) (frame_of (alphabet_of g) x.known.callee) m targets) same_helpers
        (subst (λ (l : List ℕ). BackIsActed (frame_of (alphabet_of g) x.known.caller) (frame_of (alphabet_of g) x.known.callee) x.known.helpers l) same_targets x.known.acted))) in
        let goes : CanGoOn g r.stage (a ∷ rest) = h.goes in
        record {
          along = h;
          there = x.known.act ∙ ap (λ (l : List ℕ). Some (back_act a.call l)) same_targets;
          act_is = x.act_is ∙ ap (λ (l : List ℕ). Some (back_act a.call l)) same_targets;
          kind = k;
          place = p;
          call = c;
          scope = q;
          before = v;
          calls = calls;
          scopes = scopes;
          saved = saved;
          calls_are = e1;
          scopes_are = e2;
          saved_are = e3;
          open_at = o;
          returns = s.1 ∙ ap (λ (d : Kind). returned_by d 0 (λ m. has_return m rest)) k;
          kept = s.2;
          outer_scopes = s.3;
          outer_saved = s.4;
          call_there = call_there;
          acted = acted;
          versions = versions_there k goes.from goes.accepts.0 goes.comes.here o.caller o.callee o.helpers o.rows call_there goes.places
              (subst (λ (d : Kind). Follows g.automaton d a goes.places goes.from goes.accepts.0 (λ st. AcceptsFrom g.automaton st goes.accepts.0 rest)) k goes.accepts.1);
        }

-- ---- its triple

-- the position after it
abbrev pub back_to : Graph → Reading → List CallScope → ℕ → ℕ → List ℕ → List ℕ → Position
back_to g r scopes caller callee targets before = record {
  scope = innermost scopes;
  here = returned (frame_of (alphabet_of g) caller) (frame_of (alphabet_of g) callee) targets r.stage.here before;
  upto = suc (stamp_of (suc r.letters));
}

abbrev position_with : ℕ → CallScope → List ℕ → Position
position_with upto s l = record { scope = s; here = l; upto = upto }

pub back_part_is : (g : Graph) (globals : ℕ) (w : List Letter) (r : Reading) (a : Letter) (rest : List Letter) (targets : List ℕ) (h : BackAt g globals w r a rest targets) →
    part_of (alphabet_of g) a r.stage ≡ back_part (frame_of (alphabet_of g) h.open_at.caller) (frame_of (alphabet_of g) h.open_at.callee) targets r.stage.made r.stage.here (h.before ∷ h.saved)
back_part_is g globals w r a rest targets h =
    let al : Alphabet = alphabet_of g in
    ap (λ (o : Option PlainAct). act_part al o r.stage) h.act_is ∙
    ap (λ (o : Option PlainAct). return_part al targets o r.stage) h.call_there ∙
    ap (back_part (frame_of al h.open_at.caller) (frame_of al h.open_at.callee) targets r.stage.made r.stage.here) h.saved_are

pub back_to_is : (g : Graph) (globals : ℕ) (w : List Letter) (r : Reading) (a : Letter) (rest : List Letter) (targets : List ℕ) (h : BackAt g globals w r a rest targets) →
    position_here (read_on (alphabet_of g) a rest r) ≡ back_to g r h.scopes h.open_at.caller h.open_at.callee targets h.before
back_to_is g globals w r a rest targets h =
    let al : Alphabet = alphabet_of g in
    let k : ℕ = suc r.letters in
    let after : List ℕ = returned (frame_of al h.open_at.caller) (frame_of al h.open_at.callee) targets r.stage.here h.before in
    ap (λ (x : Part). position_with (suc (stamp_of k)) (innermost (scopes_after al k a.kind (act_of al a) rest x.after.here r.stage.here r.scopes)) x.after.here) (back_part_is g globals w r a rest targets h) ∙
    ap (λ (d : Kind). position_with (suc (stamp_of k)) (innermost (scopes_after al k d (act_of al a) rest after r.stage.here r.scopes)) after) h.kind ∙
    ap (λ (s : List CallScope). position_with (suc (stamp_of k)) (innermost (left_scopes s)) after) h.scopes_are

-- the step of the letter
abbrev pub back_step_at : Graph → List Letter → Tree → Reading → Letter → OpenCall → List CallScope → ℕ → ℕ → ℕ → List LinearRow → List ℕ → List ℕ → Step
back_step_at g w t r a call scopes caller callee helpers rows targets before =
    back_step g w t a.id call (position_here r) (back_to g r scopes caller callee targets before) (frame_of (alphabet_of g) caller) (frame_of (alphabet_of g) callee) helpers rows targets

eleven_rows : (a b c d e f h i j k l : PlainSystem) → rows_in (all_systems (a ∷ b ∷ c ∷ d ∷ e ∷ f ∷ h ∷ i ∷ j ∷ k ∷ l ∷ [])) ≡
    rows_in a ++ (rows_in b ++ (rows_in c ++ (rows_in d ++ (rows_in e ++ (rows_in f ++ (rows_in h ++ (rows_in i ++ (rows_in j ++ (rows_in k ++ rows_in l)))))))))
eleven_rows a b c d e f h i j k l =
    both_rows a (all_systems (b ∷ c ∷ d ∷ e ∷ f ∷ h ∷ i ∷ j ∷ k ∷ l ∷ [])) ∙ ap (λ (z : List LinearRow). rows_in a ++ z)
    (both_rows b (all_systems (c ∷ d ∷ e ∷ f ∷ h ∷ i ∷ j ∷ k ∷ l ∷ [])) ∙ ap (λ (z : List LinearRow). rows_in b ++ z)
    (both_rows c (all_systems (d ∷ e ∷ f ∷ h ∷ i ∷ j ∷ k ∷ l ∷ [])) ∙ ap (λ (z : List LinearRow). rows_in c ++ z)
    (both_rows d (all_systems (e ∷ f ∷ h ∷ i ∷ j ∷ k ∷ l ∷ [])) ∙ ap (λ (z : List LinearRow). rows_in d ++ z)
    (both_rows e (all_systems (f ∷ h ∷ i ∷ j ∷ k ∷ l ∷ [])) ∙ ap (λ (z : List LinearRow). rows_in e ++ z)
    (both_rows f (all_systems (h ∷ i ∷ j ∷ k ∷ l ∷ [])) ∙ ap (λ (z : List LinearRow). rows_in f ++ z)
    (both_rows h (all_systems (i ∷ j ∷ k ∷ l ∷ [])) ∙ ap (λ (z : List LinearRow). rows_in h ++ z)
    (both_rows i (all_systems (j ∷ k ∷ l ∷ [])) ∙ ap (λ (z : List LinearRow). rows_in i ++ z)
    (both_rows j (all_systems (k ∷ l ∷ [])) ∙ ap (λ (z : List LinearRow). rows_in j ++ z)
    (both_rows k (all_systems (l ∷ [])) ∙ ap (λ (z : List LinearRow). rows_in k ++ z)
    (both_rows l (all_systems []) ∙ append-nil (rows_in l)))))))))))

pub back_system_rows : (caller callee : Columns) (rows : List LinearRow) (targets : List ℕ) (exit before to : Formula) →
    rows_in (back_system caller callee rows targets exit before to) ≡
    rows_in (said (λ c. c) exit) ++ (rows_in (said (λ c. length callee + c) before) ++ (map (λ c. equal_row c (length callee + c)) (constants_of callee) ++
    (map (λ o. equal_row o.0 (length callee + o.1)) (olds_of callee) ++ (map (renamed (call_column (length callee) (length caller) (length (written_by caller targets)))) rows ++
    (map (λ j. equal_row (after_column (length callee) (length callee + length caller) (written_by caller targets) j) j) (filter (λ j. not (is_listed targets j)) (variables_of caller)) ++
    (map (λ p. equal_row (after_column (length callee) (length callee + length caller) (written_by caller targets) p.0) p.1) (taken targets (result_columns callee)) ++
    (rows_in (denied (after_column (length callee) (length callee + length caller) (written_by caller targets)) to) ++ (bounds 0 (types_of callee) ++ (bounds (length callee) (types_of caller) ++
    bounds (length callee + length caller) (types_at caller (written_by caller targets)))))))))))
back_system_rows caller callee rows targets exit before to =
    let m : ℕ = length callee in
    let n : ℕ = length caller in
    let written : List ℕ = written_by caller targets in
    eleven_rows (said (λ c. c) exit) (said (λ c. m + c) before) (only_rows (map (λ c. equal_row c (m + c)) (constants_of callee))) (only_rows (map (λ o. equal_row o.0 (m + o.1)) (olds_of callee)))
    (only_rows (map (renamed (call_column m n (length written))) rows)) (only_rows (map (λ j. equal_row (after_column m (m + n) written j) j) (filter (λ j. not (is_listed targets j)) (variables_of caller))))
    (only_rows (map (λ p. equal_row (after_column m (m + n) written p.0) p.1) (taken targets (result_columns callee)))) (denied (after_column m (m + n) written) to)
    (only_rows (bounds 0 (types_of callee))) (only_rows (bounds m (types_of caller))) (only_rows (bounds (m + n) (types_at caller written)))
