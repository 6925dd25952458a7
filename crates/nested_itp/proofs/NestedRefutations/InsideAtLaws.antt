-- What is known at an inside letter of an accepted word, and the rows of its triple's system.
use Rattle.std.proofs.Common.{◌≡◌, ◌∙◌, ◌⊎◌, inl, inr, ℕ, suc, ◌<◌, Bool, true, false, List, [], ◌∷◌, ◌++◌, length, refl, sym, ap, subst, append-nil, Option, None, Some}
use Rattle.std.specs.Prelude.{slice_get, unwrap_or, IsSomeAnd}
use Rattle.std.specs.List.{AllByRecursion}
use Rattle.boogie_tree.specs.declared.tree.Column.{Column}
use Rattle.boogie_tree.specs.declared.tree.VarInfo.{VarInfo}
use Rattle.nwa_base.specs.declared.letters.Kind.{Kind}
use Rattle.nwa_base.specs.declared.letters.Kind.TheVariants as kinds
use Rattle.nwa_base.specs.declared.letters.Letter.{Letter}
use Rattle.nwa_base.specs.Members.{Member}
use Rattle.nwa_base.specs.Acceptance.{AcceptsFrom, Follows}
use Rattle.lin_rows.specs.Rows.{LinearRow}
use Rattle.farkas_check.specs.Trees.{Tree}
use Rattle.letter_acts.specs.Frames.{Columns, is_old_column}
use Rattle.letter_acts.specs.Acts.{PlainAct, inside_act, Alphabet, frame_of, act_of}
use Rattle.letter_acts.specs.Invariant.{Graph, IsGraph, alphabet_of, IsPlaceOf, MayWrite, IsOld, MayTarget, InsideIsActed}
use Rattle.letter_acts.proofs.KnownLemmas.{act_found}
use Rattle.path_rows.specs.Versions.{Part, written_over, inside_part, part_of, act_part}
use Rattle.letter_acts.specs.FrameRows.Rows.{columns_from, types_of, types_at, bounds}
use Rattle.path_rows.specs.Paths.{start_frame}
use Rattle.path_rows.specs.Stages.{AreVersions, VersionsAt}
use Rattle.path_rows.specs.Drafts.{CanGoOn}
use Rattle.path_rows.proofs.EdgeLemmas.{InsideEdge, inside_acts}
use Rattle.triple_rows.specs.Predicates.{Formula, prefix_of, formula_of}
use Rattle.triple_rows.specs.Systems.{PlainSystem, only_rows, all_systems, said, denied, after_column, inside_system}
use Rattle.triple_rows.specs.Triples.{inside_system_of, system_of}
use Rattle.triple_rows.proofs.FormulaLaws.{prefix_read}
use Rattle.nested_itp.specs.NestedPredicates.Stamps.{stamp_of}
use Rattle.nested_itp.specs.NestedPredicates.Positions.{CallScope, scopes_after, Position, innermost}
use Rattle.nested_itp.specs.NestedPredicates.Joins.{predicate_at}
use Rattle.nested_itp.specs.NestedRefutations.Refutations.{rows_in}
use Rattle.nested_itp.specs.NestedRefutations.Numbers.{Step, inside_step, Reading, position_here, read_on}
use Rattle.nested_itp.proofs.NestedRefutations.MovingLaws.{both_rows}
use Rattle.nested_itp.proofs.NestedRefutations.ColumnLaws.{known_in}
use Rattle.nested_itp.proofs.NestedRefutations.AlongLaws.{first_reading, KnowsWell, ScopesFit, Placed, same_proc, Along}

pub record InsideAt (g : Graph) (globals : ℕ) (w : List Letter) (r : Reading) (a : Letter) (rest : List Letter) (q : ℕ) (written : List ℕ) (helpers : ℕ) (rows : List LinearRow) : Type 0 where
  pub along : Along g globals w r (a ∷ rest)
  pub act_is : act_of (alphabet_of g) a ≡ Some (inside_act q written helpers rows)
  pub there : slice_get g.acts a.id ≡ Some (inside_act q written helpers rows)
  pub kind : a.kind ≡ kinds.Inside
  pub acted : InsideIsActed (alphabet_of g) q written helpers rows
  pub versions : AreVersions r.stage.made (frame_of (alphabet_of g) q) r.stage.here
  -- the caller's sum does not speak of what it writes
  pub unknown : (c : ℕ) → Member written c → known_in (innermost r.scopes).known c ≡ None
  pub begun : ((r ≡ first_reading g) × (frame_of (alphabet_of g) q ≡ start_frame g)) ⊎ (0 < r.letters)

may_target : (frame : Columns) (c : ℕ) → MayWrite frame c → (IsOld frame c → ⊥) → MayTarget frame c
may_target frame c m n = by_column (slice_get frame c) m n
  where
    no_old : (z : Bool) → (z ≡ true → ⊥) → z ≡ false
    no_old true f = absurd (f refl)
    no_old false f = refl

    by_column : (o : Option (Column × VarInfo)) → IsSomeAnd o (λ v. v.1.constant ≡ false) → (IsSomeAnd o (λ v. is_old_column v.0 ≡ true) → ⊥) →
        IsSomeAnd o (λ v. (v.1.constant ≡ false) × (is_old_column v.0 ≡ false))
    by_column None m n = m
    by_column (Some v) m n = (m, no_old (is_old_column v.0) n)

all_member : (P : ℕ → Type 0) (xs : List ℕ) (x : ℕ) → Member xs x → AllByRecursion P xs → P x
all_member P [] x m h = absurd m
all_member P (y ∷ xs) x (inl e) h = subst P e h.0
all_member P (y ∷ xs) x (inr m) h = all_member P xs x m h.1

head_knows : (g : Graph) (places : List ℕ) (q proc : ℕ) (scopes : List CallScope) → ScopesFit g places q scopes → IsPlaceOf g.place_procs proc q → KnowsWell (frame_of (alphabet_of g) proc) (innermost scopes).known
head_knows g places q proc [] h i = absurd h
head_knows g [] q proc (s ∷ scopes) h i = subst (λ (n : ℕ). KnowsWell (frame_of (alphabet_of g) n) s.known) (same_proc g.place_procs q s.proc proc h.0 i) h.1
head_knows g (p ∷ places) q proc (s ∷ scopes) h i = subst (λ (n : ℕ). KnowsWell (frame_of (alphabet_of g) n) s.known) (same_proc g.place_procs q s.proc proc h.0 i) h.1

head_place : (g : Graph) (places : List ℕ) (q : ℕ) (scopes : List CallScope) → ScopesFit g places q scopes → IsPlaceOf g.place_procs (innermost scopes).proc q
head_place g places q [] h = absurd h
head_place g [] q (s ∷ scopes) h = h.0
head_place g (p ∷ places) q (s ∷ scopes) h = h.0

-- at a letter with an inside act
pub inside_at : (g : Graph) → IsGraph g → (globals : ℕ) (w : List Letter) (r : Reading) (a : Letter) (rest : List Letter) → Along g globals w r (a ∷ rest) →
    (q : ℕ) (written : List ℕ) (helpers : ℕ) (rows : List LinearRow) → act_of (alphabet_of g) a ≡ Some (inside_act q written helpers rows) → InsideAt g globals w r a rest q written helpers rows
inside_at g ok globals w r a rest h q written helpers rows e =
    let al : Alphabet = alphabet_of g in
    let found = act_found al a (inside_act q written helpers rows) e in
    let kind : a.kind ≡ kinds.Inside = ap (λ (b : Letter). b.kind) found.1 in
    let pl : Placed g r (a ∷ rest) = h.placed in
    let edge : InsideEdge g pl.from a pl.accepts.0 = inside_acts g ok pl.from pl.accepts.0 a (follows_inside pl.places pl.from pl.accepts.0 kind pl.accepts.1) in
    let act : Some (inside_act edge.known.proc edge.known.written edge.known.helpers edge.known.rows) ≡ Some (inside_act q written helpers rows) = sym edge.known.act ∙ found.0 in
    let proc : edge.known.proc ≡ q = cc in
    let writes : edge.known.written ≡ written = cc in
    let helped : edge.known.helpers ≡ helpers = cc in
    let has : edge.known.rows ≡ rows = cc in
    let acted : InsideIsActed al q written helpers rows =
    subst (λ (n : ℕ). InsideIsActed al n written helpers rows) proc (subst (λ (l : List ℕ). InsideIsActed al edge.known.proc l helpers rows) writes
    (subst (λ (n : ℕ). InsideIsActed al edge.known.proc edge.known.written n rows) helped (subst (λ (l : List LinearRow). InsideIsActed al edge.known.proc edge.known.written edge.known.helpers l) has edge.known.acted))) in
    let starts : IsPlaceOf g.place_procs q pl.from = subst (λ (n : ℕ). IsPlaceOf g.place_procs n pl.from) proc edge.known.starts in
    record {
      along = h;
      act_is = e;
      there = found.0;
      kind = kind;
      acted = acted;
      versions = versions_there kind found.0;
      unknown = unknown_in pl starts acted.may_write (λ n. subst (λ (l : List ℕ). AllByRecursion (λ c. IsOld (frame_of al q) c → ⊥) l) writes
          (subst (λ (m : ℕ). AllByRecursion (λ c. IsOld (frame_of al m) c → ⊥) edge.known.written) proc (edge.olds n))) pl.begun;
      begun = begun_at pl starts pl.begun;
    }
  where
    follows_inside : (places : List ℕ) (from to : ℕ) → a.kind ≡ kinds.Inside → Follows g.automaton a.kind a places from to (λ st. AcceptsFrom g.automaton st to rest) → Member g.automaton.insides (from, a, to)
    follows_inside places from to k f = (subst (λ (d : Kind). Follows g.automaton d a places from to (λ st. AcceptsFrom g.automaton st to rest)) k f).0

    versions_there : a.kind ≡ kinds.Inside → slice_get g.acts a.id ≡ Some (inside_act q written helpers rows) → AreVersions r.stage.made (frame_of (alphabet_of g) q) r.stage.here
    versions_there k f =
        let c : CanGoOn g r.stage (a ∷ rest) = h.goes in
        let x : InsideEdge g c.from a c.accepts.0 = inside_acts g ok c.from c.accepts.0 a (follows_inside c.places c.from c.accepts.0 k c.accepts.1) in
        let act : Some (inside_act x.known.proc x.known.written x.known.helpers x.known.rows) ≡ Some (inside_act q written helpers rows) = sym x.known.act ∙ f in
        let proc : x.known.proc ≡ q = cc in
        let v : VersionsAt g c.from r.stage.made r.stage.here = c.comes.here in
        subst (λ (n : ℕ). AreVersions r.stage.made (frame_of (alphabet_of g) n) r.stage.here) (same_proc g.place_procs c.from v.proc x.known.proc v.place x.known.starts ∙ proc) v.versions

    unknown_in : (pl : Placed g r (a ∷ rest)) → IsPlaceOf g.place_procs q pl.from → AllByRecursion (MayWrite (frame_of (alphabet_of g) q)) written →
        ((pl.from ≡ 0 → ⊥) → AllByRecursion (λ c. IsOld (frame_of (alphabet_of g) q) c → ⊥) written) → (r ≡ first_reading g) ⊎ ((0 < r.letters) × (pl.from ≡ 0 → ⊥)) →
        (c : ℕ) → Member written c → known_in (innermost r.scopes).known c ≡ None
    unknown_in pl starts may olds (inl e) c m = ap (λ (x : Reading). known_in (innermost x.scopes).known c) e
    unknown_in pl starts may olds (inr n) c m =
        head_knows g pl.places pl.from q r.scopes pl.scopes starts c
        (may_target (frame_of (alphabet_of g) q) c (all_member (MayWrite (frame_of (alphabet_of g) q)) written c m may) (all_member (λ d. IsOld (frame_of (alphabet_of g) q) d → ⊥) written c m (olds n.1)))

    begun_at : (pl : Placed g r (a ∷ rest)) → IsPlaceOf g.place_procs q pl.from → (r ≡ first_reading g) ⊎ ((0 < r.letters) × (pl.from ≡ 0 → ⊥)) →
        ((r ≡ first_reading g) × (frame_of (alphabet_of g) q ≡ start_frame g)) ⊎ (0 < r.letters)
    begun_at pl starts (inl e) =
        let first : (innermost r.scopes).proc ≡ unwrap_or (slice_get g.place_procs g.automaton.start) 0 = ap (λ (x : Reading). (innermost x.scopes).proc) e in
        inl (e, ap (frame_of (alphabet_of g)) (same_proc g.place_procs pl.from q (innermost r.scopes).proc starts (head_place g pl.places pl.from r.scopes pl.scopes) ∙ first))
    begun_at pl starts (inr n) = inr n.0

-- the letter is of the procedure of the innermost scope
pub scope_proc : (g : Graph) → IsGraph g → (globals : ℕ) (w : List Letter) (r : Reading) (a : Letter) (rest : List Letter) → Along g globals w r (a ∷ rest) →
    (q : ℕ) (written : List ℕ) (helpers : ℕ) (rows : List LinearRow) → act_of (alphabet_of g) a ≡ Some (inside_act q written helpers rows) → (innermost r.scopes).proc ≡ q
scope_proc g ok globals w r a rest h q written helpers rows e =
    let found = act_found (alphabet_of g) a (inside_act q written helpers rows) e in
    let kind : a.kind ≡ kinds.Inside = ap (λ (b : Letter). b.kind) found.1 in
    let pl : Placed g r (a ∷ rest) = h.placed in
    let edge : InsideEdge g pl.from a pl.accepts.0 =
    inside_acts g ok pl.from pl.accepts.0 a (subst (λ (d : Kind). Follows g.automaton d a pl.places pl.from pl.accepts.0 (λ st. AcceptsFrom g.automaton st pl.accepts.0 rest)) kind pl.accepts.1).0 in
    let act : Some (inside_act edge.known.proc edge.known.written edge.known.helpers edge.known.rows) ≡ Some (inside_act q written helpers rows) = sym edge.known.act ∙ found.0 in
    let proc : edge.known.proc ≡ q = cc in
    same_proc g.place_procs pl.from (innermost r.scopes).proc edge.known.proc (head_place g pl.places pl.from r.scopes pl.scopes) edge.known.starts ∙ proc

-- ---- its triple

-- the position after it
abbrev pub inside_to : Reading → List ℕ → Position
inside_to r written = record {
  scope = innermost r.scopes;
  here = written_over r.stage.here written (columns_from r.stage.made (length written));
  upto = suc (stamp_of (suc r.letters));
}

pub inside_part_is : (g : Graph) (globals : ℕ) (w : List Letter) (r : Reading) (a : Letter) (rest : List Letter) (q : ℕ) (written : List ℕ) (helpers : ℕ) (rows : List LinearRow) →
    InsideAt g globals w r a rest q written helpers rows → part_of (alphabet_of g) a r.stage ≡ inside_part (frame_of (alphabet_of g) q) written helpers rows r.stage
inside_part_is g globals w r a rest q written helpers rows h = ap (λ (o : Option PlainAct). act_part (alphabet_of g) o r.stage) h.act_is

abbrev position_with : ℕ → CallScope → List ℕ → Position
position_with upto s l = record { scope = s; here = l; upto = upto }

pub inside_to_is : (g : Graph) (globals : ℕ) (w : List Letter) (r : Reading) (a : Letter) (rest : List Letter) (q : ℕ) (written : List ℕ) (helpers : ℕ) (rows : List LinearRow) →
    InsideAt g globals w r a rest q written helpers rows → position_here (read_on (alphabet_of g) a rest r) ≡ inside_to r written
inside_to_is g globals w r a rest q written helpers rows h =
    let al : Alphabet = alphabet_of g in
    ap (λ (x : Part). position_with (suc (stamp_of (suc r.letters))) (innermost (scopes_after al (suc r.letters) a.kind (act_of al a) rest x.after.here r.stage.here r.scopes)) x.after.here) (inside_part_is g globals w r a rest q written helpers rows h) ∙
    ap (λ (d : Kind). position_with (suc (stamp_of (suc r.letters))) (innermost (scopes_after al (suc r.letters) d (act_of al a) rest (inside_to r written).here r.stage.here r.scopes)) (inside_to r written).here) h.kind

-- the step of the letter
abbrev pub step_at : Graph → List Letter → Tree → Reading → Letter → ℕ → List ℕ → ℕ → List LinearRow → Step
step_at g w t r a q written helpers rows =
    inside_step g w t a.id (suc r.letters) r.rows r.stage.made (position_here r) (inside_to r written) (frame_of (alphabet_of g) q) written helpers rows

pub system_is : (g : Graph) (globals : ℕ) (w : List Letter) (t : Tree) (r : Reading) (a : Letter) (rest : List Letter) (q : ℕ) (written : List ℕ) (helpers : ℕ) (rows : List LinearRow) →
    InsideAt g globals w r a rest q written helpers rows → system_of (alphabet_of g) (step_at g w t r a q written helpers rows).triple ≡
    inside_system (frame_of (alphabet_of g) q) written rows (predicate_at g w t (position_here r)) (predicate_at g w t (inside_to r written))
system_is g globals w t r a rest q written helpers rows h =
    let al : Alphabet = alphabet_of g in
    let from : Formula = predicate_at g w t (position_here r) in
    let to : Formula = predicate_at g w t (inside_to r written) in
    ap (λ (o : Option PlainAct). inside_system_of al o (formula_of (prefix_of from)) (formula_of (prefix_of to))) h.there ∙
    ap (λ (f : Formula). inside_system (frame_of al q) written rows f (formula_of (prefix_of to))) (prefix_read from) ∙
    ap (λ (f : Formula). inside_system (frame_of al q) written rows from f) (prefix_read to)

pub inside_system_rows : (frame : Columns) (written : List ℕ) (rows : List LinearRow) (from to : Formula) →
    rows_in (inside_system frame written rows from to) ≡
    rows_in (said (λ c. c) from) ++ (rows ++ (rows_in (denied (after_column 0 (length frame) written) to) ++ (bounds 0 (types_of frame) ++ bounds (length frame) (types_at frame written))))
inside_system_rows frame written rows from to =
    let n : ℕ = length frame in
    let c : PlainSystem = denied (after_column 0 n written) to in
    let d : PlainSystem = only_rows (bounds 0 (types_of frame)) in
    let e : PlainSystem = only_rows (bounds n (types_at frame written)) in
    both_rows (said (λ c. c) from) (all_systems (only_rows rows ∷ c ∷ d ∷ e ∷ [])) ∙
    ap (λ (l : List LinearRow). rows_in (said (λ c. c) from) ++ l)
    (both_rows (only_rows rows) (all_systems (c ∷ d ∷ e ∷ [])) ∙
    ap (λ (l : List LinearRow). rows ++ l)
    (both_rows c (all_systems (d ∷ e ∷ [])) ∙
    ap (λ (l : List LinearRow). rows_in c ++ l)
    (both_rows d (all_systems (e ∷ [])) ∙
    ap (λ (l : List LinearRow). bounds 0 (types_of frame) ++ l)
    (both_rows e (all_systems []) ∙ append-nil (bounds n (types_at frame written))))))
