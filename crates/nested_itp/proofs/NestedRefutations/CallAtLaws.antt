-- What is known at a call of an accepted word, and the rows of its triple's system.
use Rattle.std.proofs.Common.{◌≡◌, ◌∙◌, ◌⊎◌, inl, inr, ℕ, suc, ◌+◌, ◌<◌, List, [], ◌∷◌, ◌++◌, length, map, sym, ap, subst, append-nil, Option, Some}
use Rattle.std.specs.Prelude.{slice_get, unwrap_or}
use Rattle.boogie_tree.specs.declared.tree.VarInfo.{VarInfo}
use Rattle.nwa_base.specs.declared.letters.Kind.{Kind}
use Rattle.nwa_base.specs.declared.letters.Kind.TheVariants as kinds
use Rattle.nwa_base.specs.declared.letters.Letter.{Letter}
use Rattle.nwa_base.specs.Members.{Member}
use Rattle.nwa_base.specs.Acceptance.{AcceptsFrom, Follows}
use Rattle.lin_rows.specs.Rows.{LinearRow}
use Rattle.farkas_check.specs.Trees.{Tree}
use Rattle.letter_acts.specs.Frames.{Columns, IsFrame, globals_of, olds_of}
use Rattle.letter_acts.specs.Acts.{PlainAct, call_act, Alphabet, frame_of, act_of}
use Rattle.letter_acts.specs.Invariant.{Graph, IsGraph, alphabet_of, IsPlaceOf, CallIsActed}
use Rattle.letter_acts.proofs.KnownLemmas.{act_found, frames_laid_out}
use Rattle.path_rows.specs.Versions.{Part, local_columns, entered_versions, call_part, part_of, act_part}
use Rattle.path_rows.specs.Paths.{start_frame}
use Rattle.path_rows.specs.Stages.{AreVersions, VersionsAt}
use Rattle.path_rows.specs.Drafts.{CanGoOn}
use Rattle.path_rows.proofs.EdgeLemmas.{CallEdge, call_acts}
use Rattle.triple_rows.specs.Predicates.{Formula, prefix_of, formula_of}
use Rattle.triple_rows.specs.Systems.{PlainSystem, only_rows, all_systems, said, denied, call_system}
use Rattle.letter_acts.specs.FrameRows.Rows.{equal_row, types_of, bounds}
use Rattle.triple_rows.specs.Triples.{call_system_of, system_of}
use Rattle.triple_rows.proofs.FormulaLaws.{prefix_read}
use Rattle.nested_itp.specs.NestedPredicates.Stamps.{stamp_of}
use Rattle.nested_itp.specs.NestedPredicates.Positions.{CallScope, has_return, callee_of, callee_scope, scopes_after, Position, innermost}
use Rattle.nested_itp.specs.NestedPredicates.Joins.{predicate_at}
use Rattle.nested_itp.specs.NestedRefutations.Refutations.{rows_in}
use Rattle.nested_itp.specs.NestedRefutations.Numbers.{Step, call_step, Reading, position_here, read_on}
use Rattle.nested_itp.proofs.NestedRefutations.MovingLaws.{both_rows}
use Rattle.nested_itp.proofs.NestedRefutations.AlongLaws.{first_reading, ScopesFit, Placed, same_proc, Along}

pub record CallAt (g : Graph) (globals : ℕ) (w : List Letter) (r : Reading) (a : Letter) (rest : List Letter) (caller callee helpers : ℕ) (rows : List LinearRow) : Type 0 where
  pub along : Along g globals w r (a ∷ rest)
  pub act_is : act_of (alphabet_of g) a ≡ Some (call_act caller callee helpers rows)
  pub there : slice_get g.acts a.id ≡ Some (call_act caller callee helpers rows)
  pub kind : a.kind ≡ kinds.Call
  pub acted : CallIsActed (alphabet_of g) caller callee helpers rows
  pub versions : AreVersions r.stage.made (frame_of (alphabet_of g) caller) r.stage.here
  pub infos : List VarInfo
  pub from_frame : IsFrame infos (frame_of (alphabet_of g) caller)
  pub to_frame : IsFrame infos (frame_of (alphabet_of g) callee)
  pub begun : ((r ≡ first_reading g) × (frame_of (alphabet_of g) caller ≡ start_frame g)) ⊎ (0 < r.letters)

head_place : (g : Graph) (places : List ℕ) (q : ℕ) (scopes : List CallScope) → ScopesFit g places q scopes → IsPlaceOf g.place_procs (innermost scopes).proc q
head_place g places q [] h = absurd h
head_place g [] q (s ∷ scopes) h = h.0
head_place g (p ∷ places) q (s ∷ scopes) h = h.0

-- at a letter with a call act
pub call_at : (g : Graph) → IsGraph g → (globals : ℕ) (w : List Letter) (r : Reading) (a : Letter) (rest : List Letter) → Along g globals w r (a ∷ rest) →
    (caller callee helpers : ℕ) (rows : List LinearRow) → act_of (alphabet_of g) a ≡ Some (call_act caller callee helpers rows) → CallAt g globals w r a rest caller callee helpers rows
call_at g ok globals w r a rest h caller callee helpers rows e =
    let al : Alphabet = alphabet_of g in
    let found = act_found al a (call_act caller callee helpers rows) e in
    let kind : a.kind ≡ kinds.Call = ap (λ (b : Letter). b.kind) found.1 in
    let pl : Placed g r (a ∷ rest) = h.placed in
    let edge : CallEdge g pl.from a pl.accepts.0 = call_acts g ok pl.from pl.accepts.0 a (follows_call pl.places pl.from pl.accepts.0 kind pl.accepts.1) in
    let act : Some (call_act edge.known.caller edge.known.callee edge.known.helpers edge.known.rows) ≡ Some (call_act caller callee helpers rows) = sym edge.known.act ∙ found.0 in
    let proc : edge.known.caller ≡ caller = cc in
    let target : edge.known.callee ≡ callee = cc in
    let helped : edge.known.helpers ≡ helpers = cc in
    let has : edge.known.rows ≡ rows = cc in
    let acted : CallIsActed al caller callee helpers rows =
    subst (λ (n : ℕ). CallIsActed al n callee helpers rows) proc (subst (λ (n : ℕ). CallIsActed al edge.known.caller n helpers rows) target
    (subst (λ (n : ℕ). CallIsActed al edge.known.caller edge.known.callee n rows) helped (subst (λ (l : List LinearRow). CallIsActed al edge.known.caller edge.known.callee edge.known.helpers l) has edge.known.acted))) in
    let starts : IsPlaceOf g.place_procs caller pl.from = subst (λ (n : ℕ). IsPlaceOf g.place_procs n pl.from) proc edge.known.starts in
    let lay = frames_laid_out g ok in
    record {
      along = h;
      act_is = e;
      there = found.0;
      kind = kind;
      acted = acted;
      versions = versions_there kind found.0;
      infos = lay.0;
      from_frame = lay.1 caller acted.caller_exists;
      to_frame = lay.1 callee acted.callee_exists;
      begun = begun_at pl starts pl.begun;
    }
  where
    follows_call : (places : List ℕ) (from to : ℕ) → a.kind ≡ kinds.Call → Follows g.automaton a.kind a places from to (λ st. AcceptsFrom g.automaton st to rest) → Member g.automaton.calls (from, a, to)
    follows_call places from to k f = (subst (λ (d : Kind). Follows g.automaton d a places from to (λ st. AcceptsFrom g.automaton st to rest)) k f).0

    versions_there : a.kind ≡ kinds.Call → slice_get g.acts a.id ≡ Some (call_act caller callee helpers rows) → AreVersions r.stage.made (frame_of (alphabet_of g) caller) r.stage.here
    versions_there k f =
        let c : CanGoOn g r.stage (a ∷ rest) = h.goes in
        let x : CallEdge g c.from a c.accepts.0 = call_acts g ok c.from c.accepts.0 a (follows_call c.places c.from c.accepts.0 k c.accepts.1) in
        let act : Some (call_act x.known.caller x.known.callee x.known.helpers x.known.rows) ≡ Some (call_act caller callee helpers rows) = sym x.known.act ∙ f in
        let proc : x.known.caller ≡ caller = cc in
        let v : VersionsAt g c.from r.stage.made r.stage.here = c.comes.here in
        subst (λ (n : ℕ). AreVersions r.stage.made (frame_of (alphabet_of g) n) r.stage.here) (same_proc g.place_procs c.from v.proc x.known.caller v.place x.known.starts ∙ proc) v.versions

    begun_at : (pl : Placed g r (a ∷ rest)) → IsPlaceOf g.place_procs caller pl.from → (r ≡ first_reading g) ⊎ ((0 < r.letters) × (pl.from ≡ 0 → ⊥)) →
        ((r ≡ first_reading g) × (frame_of (alphabet_of g) caller ≡ start_frame g)) ⊎ (0 < r.letters)
    begun_at pl starts (inl e) =
        let first : (innermost r.scopes).proc ≡ unwrap_or (slice_get g.place_procs g.automaton.start) 0 = ap (λ (x : Reading). (innermost x.scopes).proc) e in
        inl (e, ap (frame_of (alphabet_of g)) (same_proc g.place_procs pl.from caller (innermost r.scopes).proc starts (head_place g pl.places pl.from r.scopes pl.scopes) ∙ first))
    begun_at pl starts (inr n) = inr n.0

-- the letter is called in the procedure of the innermost scope
pub call_scope_proc : (g : Graph) → IsGraph g → (globals : ℕ) (w : List Letter) (r : Reading) (a : Letter) (rest : List Letter) (caller callee helpers : ℕ) (rows : List LinearRow) →
    CallAt g globals w r a rest caller callee helpers rows → (innermost r.scopes).proc ≡ caller
call_scope_proc g ok globals w r a rest caller callee helpers rows h =
    let pl : Placed g r (a ∷ rest) = h.along.placed in
    let edge : CallEdge g pl.from a pl.accepts.0 =
    call_acts g ok pl.from pl.accepts.0 a (subst (λ (d : Kind). Follows g.automaton d a pl.places pl.from pl.accepts.0 (λ st. AcceptsFrom g.automaton st pl.accepts.0 rest)) h.kind pl.accepts.1).0 in
    let act : Some (call_act edge.known.caller edge.known.callee edge.known.helpers edge.known.rows) ≡ Some (call_act caller callee helpers rows) = sym edge.known.act ∙ h.there in
    let proc : edge.known.caller ≡ caller = cc in
    same_proc g.place_procs pl.from (innermost r.scopes).proc edge.known.caller (head_place g pl.places pl.from r.scopes pl.scopes) edge.known.starts ∙ proc

-- ---- its triple

-- the versions at the entry
abbrev pub entry_of : Graph → Reading → ℕ → ℕ → List ℕ
entry_of g r callee helpers =
    entered_versions (frame_of (alphabet_of g) callee) r.stage.made (r.stage.made + length (local_columns (frame_of (alphabet_of g) callee)) + helpers) r.stage.here

-- the position after it
abbrev pub call_to : Graph → Reading → List Letter → ℕ → ℕ → Position
call_to g r rest callee helpers = record {
  scope = callee_scope (alphabet_of g) (suc r.letters) callee (has_return 0 rest) (entry_of g r callee helpers) r.stage.here;
  here = entry_of g r callee helpers;
  upto = suc (stamp_of (suc r.letters));
}

pub call_part_is : (g : Graph) (globals : ℕ) (w : List Letter) (r : Reading) (a : Letter) (rest : List Letter) (caller callee helpers : ℕ) (rows : List LinearRow) →
    CallAt g globals w r a rest caller callee helpers rows → part_of (alphabet_of g) a r.stage ≡ call_part (frame_of (alphabet_of g) callee) helpers rows r.stage
call_part_is g globals w r a rest caller callee helpers rows h = ap (λ (o : Option PlainAct). act_part (alphabet_of g) o r.stage) h.act_is

abbrev position_with : ℕ → CallScope → List ℕ → Position
position_with upto s l = record { scope = s; here = l; upto = upto }

pub call_to_is : (g : Graph) (globals : ℕ) (w : List Letter) (r : Reading) (a : Letter) (rest : List Letter) (caller callee helpers : ℕ) (rows : List LinearRow) →
    CallAt g globals w r a rest caller callee helpers rows → position_here (read_on (alphabet_of g) a rest r) ≡ call_to g r rest callee helpers
call_to_is g globals w r a rest caller callee helpers rows h =
    let al : Alphabet = alphabet_of g in
    let k : ℕ = suc r.letters in
    let entry : List ℕ = entry_of g r callee helpers in
    ap (λ (x : Part). position_with (suc (stamp_of k)) (innermost (scopes_after al k a.kind (act_of al a) rest x.after.here r.stage.here r.scopes)) x.after.here) (call_part_is g globals w r a rest caller callee helpers rows h) ∙
    ap (λ (d : Kind). position_with (suc (stamp_of k)) (innermost (scopes_after al k d (act_of al a) rest entry r.stage.here r.scopes)) entry) h.kind ∙
    ap (λ (o : Option PlainAct). position_with (suc (stamp_of k)) (callee_scope al k (callee_of o) (has_return 0 rest) entry r.stage.here) entry) h.act_is

-- the step of the letter
abbrev pub call_step_at : Graph → List Letter → Tree → Reading → Letter → List Letter → ℕ → ℕ → ℕ → List LinearRow → Step
call_step_at g w t r a rest caller callee helpers rows =
    call_step g w t a.id (suc r.letters) r.rows r.stage.made (has_return 0 rest) (position_here r) (call_to g r rest callee helpers) (frame_of (alphabet_of g) caller) (frame_of (alphabet_of g) callee) helpers rows

pub call_system_is : (g : Graph) (globals : ℕ) (w : List Letter) (t : Tree) (r : Reading) (a : Letter) (rest : List Letter) (caller callee helpers : ℕ) (rows : List LinearRow) →
    CallAt g globals w r a rest caller callee helpers rows → system_of (alphabet_of g) (call_step_at g w t r a rest caller callee helpers rows).triple ≡
    call_system (frame_of (alphabet_of g) caller) (frame_of (alphabet_of g) callee) rows (predicate_at g w t (position_here r)) (predicate_at g w t (call_to g r rest callee helpers))
call_system_is g globals w t r a rest caller callee helpers rows h =
    let al : Alphabet = alphabet_of g in
    let from : Formula = predicate_at g w t (position_here r) in
    let to : Formula = predicate_at g w t (call_to g r rest callee helpers) in
    ap (λ (o : Option PlainAct). call_system_of al o (formula_of (prefix_of from)) (formula_of (prefix_of to))) h.there ∙
    ap (λ (f : Formula). call_system (frame_of al caller) (frame_of al callee) rows f (formula_of (prefix_of to))) (prefix_read from) ∙
    ap (λ (f : Formula). call_system (frame_of al caller) (frame_of al callee) rows from f) (prefix_read to)

pub call_system_rows : (caller callee : Columns) (rows : List LinearRow) (from to : Formula) →
    rows_in (call_system caller callee rows from to) ≡
    rows_in (said (λ c. c) from) ++ (map (λ c. equal_row (length caller + c) c) (globals_of callee) ++ (map (λ o. equal_row (length caller + o.0) o.1) (olds_of callee) ++ (rows ++
    (rows_in (denied (λ c. length caller + c) to) ++ (bounds 0 (types_of caller) ++ bounds (length caller) (types_of callee))))))
call_system_rows caller callee rows from to =
    let n : ℕ = length caller in
    let a : PlainSystem = said (λ c. c) from in
    let b : PlainSystem = only_rows (map (λ c. equal_row (n + c) c) (globals_of callee)) in
    let c : PlainSystem = only_rows (map (λ o. equal_row (n + o.0) o.1) (olds_of callee)) in
    let d : PlainSystem = only_rows rows in
    let e : PlainSystem = denied (λ c. n + c) to in
    let f : PlainSystem = only_rows (bounds 0 (types_of caller)) in
    let h : PlainSystem = only_rows (bounds n (types_of callee)) in
    both_rows a (all_systems (b ∷ c ∷ d ∷ e ∷ f ∷ h ∷ [])) ∙ ap (λ (l : List LinearRow). rows_in a ++ l)
    (both_rows b (all_systems (c ∷ d ∷ e ∷ f ∷ h ∷ [])) ∙ ap (λ (l : List LinearRow). rows_in b ++ l)
    (both_rows c (all_systems (d ∷ e ∷ f ∷ h ∷ [])) ∙ ap (λ (l : List LinearRow). rows_in c ++ l)
    (both_rows d (all_systems (e ∷ f ∷ h ∷ [])) ∙ ap (λ (l : List LinearRow). rows ++ l)
    (both_rows e (all_systems (f ∷ h ∷ [])) ∙ ap (λ (l : List LinearRow). rows_in e ++ l)
    (both_rows f (all_systems (h ∷ [])) ∙ ap (λ (l : List LinearRow). rows_in f ++ l)
    (both_rows h (all_systems []) ∙ append-nil (bounds n (types_of callee))))))))
