-- The numbers that interpolants are made of: those of the prefix predicates, of the systems of their triples, and of the
-- refutations of these systems.
use Rattle.std.specs.Prelude.{◌≡◌, ℕ, suc, ◌+◌, ◌-◌, ◌<◌, pos, Bool, true, false, not, List, [], ◌∷◌, ◌++◌, map, filter, length, nat_eq, nat_lt, Option, None, Some, unwrap_or, IfSome, slice_get, if◌then◌else◌}
use Rattle.std.specs.List.{AllByRecursion}
use Rattle.math_facts.specs.Fits.{Fits}
use Rattle.math_facts.specs.Terms.{coefficient}
use Rattle.lin_rows.specs.Rows.{LinearRow}
use Rattle.lin_rows.specs.Tightening.{tightened}
use Rattle.lin_rows.specs.Combinations.{RunFits}
use Rattle.farkas_check.specs.Nodes.{PlainNode}
use Rattle.farkas_check.specs.Trees.{Tree, leaf_tree, cut_tree, cases_tree, prefix_of}
use Rattle.nwa_base.specs.declared.letters.Letter.{Letter}
use Rattle.letter_acts.specs.Frames.{Columns, globals_of, constants_of, variables_of, result_columns, olds_of, places, is_local}
use Rattle.letter_acts.specs.Acts.{PlainAct, inside_act, call_act, back_act, Alphabet, frame_of, act_of}
use Rattle.letter_acts.specs.Reading.{taken, is_listed}
use Rattle.letter_acts.specs.Invariant.{Graph, alphabet_of, written_by}
use Rattle.letter_acts.specs.FrameRows.Rows.{bounds, types_of, types_at, columns_from}
use Rattle.letter_acts.specs.FrameRows.Frames.{is_old}
use Rattle.path_rows.specs.Versions.{PathStage, part_rows, local_columns, old_part, part_of}
use Rattle.path_rows.specs.Paths.{start_frame, first_stage}
use Rattle.triple_rows.specs.declared.triples.Triple.{Triple}
use Rattle.triple_rows.specs.declared.triples.Triple.TheVariants.{Inside, Call, Back}
use Rattle.triple_rows.specs.Systems.{PlainFits, after_column}
use Rattle.triple_rows.specs.Triples.{system_of}
use Rattle.nested_itp.specs.NestedPredicates.Stamps.{stamps_of}
use Rattle.nested_itp.specs.NestedPredicates.Positions.{CallScope, has_return, scopes_after, Position, position_at, positions_of, start_scope}
use Rattle.nested_itp.specs.NestedPredicates.Sums.{root_of}
use Rattle.nested_itp.specs.NestedPredicates.Fitting.{SumsFit}
use Rattle.nested_itp.specs.NestedPredicates.Walking.{is_bool}
use Rattle.nested_itp.specs.NestedPredicates.Interpolants.{interpolant_at}
use Rattle.nested_itp.specs.NestedRefutations.Refutations.{Claim, TreeSpot, truth_in, formula_at, exposed, Role, spare, branch_row, target_tie, source_tie, opposite_tie, View, Gathered, Leaf, atom_roles, is_used, of_claim, stops, leaf_from}
use Rattle.nested_itp.specs.NestedRefutations.Refutations as refutations

-- ---- the rows of the system of a letter's triple

abbrev pub spares : ℕ → List Role
spares count = map (λ r. spare) (columns_from 0 count)

-- so many rows of the word, from this number on
abbrev pub branch_rows : ℕ → ℕ → List Role
branch_rows r count = map branch_row (columns_from r count)

-- how many rows bound the columns of a frame
abbrev pub bounds_in : Columns → ℕ
bounds_in frame = length (bounds 0 (types_of frame))

-- the bounds of the frame before the letter with this number: of the first letter they are those of the start
abbrev pub before_bounds : ℕ → Columns → List Role
before_bounds number frame = if nat_eq number 1 then branch_rows 0 (bounds_in frame) else spares (bounds_in frame)

-- the bounds of the callee's columns, those of whose locals and old columns begin at these rows of the word
abbrev pub callee_bounds : ℕ → ℕ → Columns → List Role
callee_bounds local old [] = []
callee_bounds local old (c ∷ cs) =
    if not (is_bool c) then callee_bounds local old cs
    else (if is_local c then branch_rows local 2 ++ callee_bounds (local + 2) old cs
    else (if is_old c then branch_rows old 2 ++ callee_bounds local (old + 2) cs
    else spares 2 ++ callee_bounds local old cs))

-- The column in the system of a column of the word: those that the letter made, from one on, stand in these, and those of the
-- start in order from one column on.
abbrev pub column_in : ℕ → ℕ → List ℕ → ℕ → ℕ
column_in at first made c = if nat_lt c first then at + c else unwrap_or (slice_get made (c - first)) (at + c)

-- the columns of a callee's locals, of the call's helpers and of the callee's old columns in a system, in the order in which the
-- call made them; the callee's columns stand from one on, and the helpers from another
abbrev pub made_by_call : ℕ → ℕ → ℕ → Columns → List ℕ
made_by_call at helpers_at helpers callee =
    map (λ c. at + c) (places is_local 0 callee) ++ (columns_from helpers_at helpers ++ map (λ c. at + c) (places is_old 0 callee))

-- ---- the letters of a word

-- a call that is open: its number, the number of rows and of columns before it, and the position before it
pub record OpenCall : Type 0 where
  pub number : ℕ
  pub rows : ℕ
  pub made : ℕ
  pub before : Position

-- the triple of a letter, what its system says of its predicates, and what its rows are
pub record Step : Type 0 where
  pub triple : Triple
  pub view : View
  pub roles : List Role

abbrev pub source : Position → (ℕ → ℕ) → Claim
source q column = record { position = q; is_denied = false; column = column }

abbrev pub target : Position → (ℕ → ℕ) → Claim
target q column = record { position = q; is_denied = true; column = column }

-- the roles of the rows that a claim with this number gives
abbrev pub roles_of : Graph → List Letter → Tree → View → ℕ → Claim → List Role
roles_of g w t v i c = atom_roles (is_used v i) i (exposed v.columns c 0 (root_of g w) t).leaves

-- of an inside letter with this number, so many rows and columns of the word before it, from one position to the next
abbrev pub inside_step : Graph → List Letter → Tree → ℕ → ℕ → ℕ → ℕ → Position → Position → Columns → List ℕ → ℕ → List LinearRow → Step
inside_step g w t letter number row made from to frame written helpers rows =
    let n = length frame in
    let before : Claim = source from (λ c. c) in
    let after : Claim = target to (after_column 0 n written) in
    let view : View = record {
      columns = (stamps_of g w).columns;
      claims = before ∷ after ∷ [];
      returns = false;
      column = column_in 0 made (columns_from n (length written + helpers));
    } in
    record {
      triple = Inside (interpolant_at g w t from) letter (interpolant_at g w t to);
      view = view;
      roles =
          roles_of g w t view 0 before ++ branch_rows row (length rows) ++ roles_of g w t view 1 after ++
          before_bounds number frame ++ branch_rows (row + length rows) (length (bounds 0 (types_at frame written)));
    }

-- of a call
abbrev pub call_step : Graph → List Letter → Tree → ℕ → ℕ → ℕ → ℕ → Bool → Position → Position → Columns → Columns → ℕ → List LinearRow → Step
call_step g w t letter number row made returns from to caller callee helpers rows =
    let n = length caller in
    let before : Claim = source from (λ c. c) in
    let after : Claim = target to (λ c. n + c) in
    let view : View = record {
      columns = (stamps_of g w).columns;
      claims = before ∷ after ∷ [];
      returns = returns;
      column = column_in 0 made (made_by_call n (n + length callee) helpers callee);
    } in
    let local = row + length rows + length (old_part callee) in
    let old = local + bounds_in (local_columns callee) in
    record {
      triple = Call (interpolant_at g w t from) letter (interpolant_at g w t to);
      view = view;
      roles =
          roles_of g w t view 0 before ++ map target_tie (globals_of callee) ++ (if returns then map (λ o. opposite_tie o.1) (olds_of callee) else branch_rows (row + length rows) (length (olds_of callee))) ++
          (if returns then spares (length rows) else branch_rows row (length rows)) ++ roles_of g w t view 1 after ++
          (if returns then spares (bounds_in caller) else before_bounds number caller) ++ callee_bounds local old callee;
    }

-- of a return from an open call
abbrev pub back_step : Graph → List Letter → Tree → ℕ → OpenCall → Position → Position → Columns → Columns → ℕ → List LinearRow → List ℕ → Step
back_step g w t letter call exit to caller callee helpers rows targets =
    let m = length callee in
    let n = length caller in
    let written = written_by caller targets in
    let at_exit : Claim = source exit (λ c. c) in
    let before : Claim = source call.before (λ c. m + c) in
    let after : Claim = target to (after_column m (m + n) written) in
    let view : View = record {
      columns = (stamps_of g w).columns;
      claims = at_exit ∷ before ∷ after ∷ [];
      returns = false;
      column = column_in m call.made (made_by_call 0 (m + n + length written) helpers callee);
    } in
    record {
      triple = Back (interpolant_at g w t exit) (interpolant_at g w t call.before) letter (interpolant_at g w t to);
      view = view;
      roles =
          roles_of g w t view 0 at_exit ++ roles_of g w t view 1 before ++ map source_tie (constants_of callee) ++
          map (λ o. source_tie o.0) (olds_of callee) ++ branch_rows call.rows (length rows) ++
          map target_tie (filter (λ c. not (is_listed targets c)) (variables_of caller)) ++
          map (λ p. target_tie p.0) (taken targets (result_columns callee)) ++ roles_of g w t view 2 after ++
          spares (bounds_in callee) ++ before_bounds call.number caller ++ spares (length (bounds 0 (types_at caller written)));
    }

-- where a word has come to: how many letters and rows are read, the stage, the scopes and the calls that are open, innermost first
pub record Reading : Type 0 where
  pub letters : ℕ
  pub rows : ℕ
  pub stage : PathStage
  pub scopes : List CallScope
  pub calls : List OpenCall

abbrev pub position_here : Reading → Position
position_here r = position_at r.letters r.stage r.scopes

-- the call that a letter with this act opens, in front
abbrev pub open_after : Option PlainAct → Reading → List OpenCall
open_after None r = r.calls
open_after (Some (inside_act q written helpers rows)) r = r.calls
open_after (Some (call_act caller callee helpers rows)) r =
    record { number = suc r.letters; rows = r.rows; made = r.stage.made; before = position_here r } ∷ r.calls
open_after (Some (back_act c targets)) r = without_first r.calls
  where
    without_first : List OpenCall → List OpenCall
    without_first [] = []
    without_first (c ∷ cs) = cs

-- after a letter, behind which the rest of the word stands
abbrev pub read_on : Alphabet → Letter → List Letter → Reading → Reading
read_on al a rest r =
    let part = part_of al a r.stage in
    record {
      letters = suc r.letters;
      rows = r.rows + length (part_rows part);
      stage = part.after;
      scopes = scopes_after al (suc r.letters) a.kind (act_of al a) rest part.after.here r.stage.here r.scopes;
      calls = open_after (act_of al a) r;
    }

abbrev pub steps_back : Graph → List Letter → Tree → ℕ → List ℕ → List OpenCall → Position → Position → Option PlainAct → List Step
steps_back g w t letter targets [] exit to act = []
steps_back g w t letter targets (call ∷ calls) exit to None = []
steps_back g w t letter targets (call ∷ calls) exit to (Some (inside_act q written helpers rows)) = []
steps_back g w t letter targets (call ∷ calls) exit to (Some (call_act caller callee helpers rows)) =
    back_step g w t letter call exit to (frame_of (alphabet_of g) caller) (frame_of (alphabet_of g) callee) helpers rows targets ∷ []
steps_back g w t letter targets (call ∷ calls) exit to (Some (back_act c more)) = []

-- that of a letter with this act, from one position to the next; the rest of the word tells whether a call returns
abbrev pub step_by : Graph → List Letter → Tree → ℕ → Option PlainAct → List Letter → Reading → Position → List Step
step_by g w t letter None rest r to = []
step_by g w t letter (Some (inside_act q written helpers rows)) rest r to =
    inside_step g w t letter (suc r.letters) r.rows r.stage.made (position_here r) to (frame_of (alphabet_of g) q) written helpers rows ∷ []
step_by g w t letter (Some (call_act caller callee helpers rows)) rest r to =
    call_step g w t letter (suc r.letters) r.rows r.stage.made (has_return 0 rest) (position_here r) to (frame_of (alphabet_of g) caller) (frame_of (alphabet_of g) callee) helpers rows ∷ []
step_by g w t letter (Some (back_act c targets)) rest r to =
    steps_back g w t letter targets r.calls (position_here r) to (slice_get g.acts c)

-- those of the letters, in order, from where the word has come to
abbrev pub steps_along : Graph → List Letter → Tree → Reading → List Letter → List Step
steps_along g w t r [] = []
steps_along g w t r (a ∷ rest) =
    let next = read_on (alphabet_of g) a rest r in
    step_by g w t a.id (act_of (alphabet_of g) a) rest r (position_here next) ++ steps_along g w t next rest

-- those of a word, under the tree of a refutation of its rows
abbrev pub steps_of : Graph → List Letter → Tree → List Step
steps_of g w t = steps_along g w t (record {
  letters = 0;
  rows = bounds_in (start_frame g);
  stage = first_stage (start_frame g);
  scopes = start_scope g ∷ [];
  calls = [];
}) w

-- ---- all numbers

-- the multipliers of a leaf fit, and so does each product and each running sum
pub record LeafNumbersFit (l : Leaf) : Type 0 where
  pub multipliers : AllByRecursion (λ part. Fits part.1) l.parts
  pub columns : (c : ℕ) → RunFits (λ r. coefficient c r.terms) l.rows (pos 0) l.parts
  pub bound : RunFits (λ r. r.bound) l.rows (pos 0) l.parts

-- The claim is false: a source is, or the target is true. The refutation is then the one row `0 <= -1`.
abbrev pub IsFalse : Graph → List Letter → Tree → View → Claim → Type 0
IsFalse g w t v c = truth_in (formula_at v.columns c (root_of g w) t) ≡ Some c.is_denied

-- the groups that claims give, those from number i on
abbrev pub groups_from : Graph → List Letter → Tree → View → ℕ → List Claim → List (ℕ × TreeSpot)
groups_from g w t v i [] = []
groups_from g w t v i (c ∷ cs) = of_claim i (exposed v.columns c 0 (root_of g w) t).groups ++ groups_from g w t v (suc i) cs

-- where the refutation of the step's triple begins
abbrev pub begins : Graph → List Letter → Tree → Step → Gathered
begins g w t s = record {
  rows = map tightened (refutations.rows_in (system_of (alphabet_of g) s.triple));
  roles = s.roles;
  groups = groups_from g w t s.view 0 s.view.claims;
  taken = [];
}

-- the numbers of the triple's system fit; and, where no claim is false, those of each leaf of its refutation
pub record StepNumbersFit (g : Graph) (w : List Letter) (t : Tree) (s : Step) : Type 0 where
  pub system : PlainFits (system_of (alphabet_of g) s.triple)
  pub leaves : AllByRecursion (λ c. IsFalse g w t s.view c → ⊥) s.view.claims → (sides : List Bool) →
      IfSome (leaf_from s.view sides (begins g w t s) (stops s.view [] 0 (root_of g w) t)) LeafNumbersFit

-- each cut is at one of so many columns
abbrev pub AreCutsAt : ℕ → Tree → Type 0
AreCutsAt count (leaf_tree parts) = Unit {0}
AreCutsAt count (cut_tree c k t u) = (c < count) × AreCutsAt count t × AreCutsAt count u
AreCutsAt count (cases_tree ts) = Unit {0}

-- Under the refutation of the word's rows with these nodes, whose cuts are at columns of the word, all numbers of the prefix predicates, of the systems of their triples
-- and of the refutations of these fit.
pub record NumbersFit (g : Graph) (w : List Letter) (nodes : List PlainNode) : Type 0 where
  pub cuts : (t : Tree) → prefix_of t ≡ nodes → AreCutsAt (length (stamps_of g w).columns) t
  pub sums : (t : Tree) → prefix_of t ≡ nodes → SumsFit (stamps_of g w).columns (positions_of g w) (root_of g w) t
  pub steps : (t : Tree) → prefix_of t ≡ nodes → AllByRecursion (StepNumbersFit g w t) (steps_of g w t)
