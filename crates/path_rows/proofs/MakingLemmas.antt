-- Words that are read to their end, and the systems that are made of what was read.
use Rattle.std.proofs.Common.{◌≡◌, ◌↔◌, ◌∙◌, ℕ, zero, suc, ◌+◌, ◌^◌, ◌<◌, ◌≤◌, ℤ, List, [], ◌∷◌, ◌++◌, length, drop, get_or, Some, refl, sym, ap, subst, arith, length-append}
use Rattle.std.specs.Prelude.{map, slice_get, unwrap_or}
use Rattle.std.specs.Global.{Vec}
use Rattle.std.specs.List.{AllByRecursion}
use Rattle.std.proofs.lemmas.List.{drop_more, length-map, map-append}
use Rattle.math_facts.specs.Terms.{IsBelow}
use Rattle.lin_rows.specs.Rows.{LinearRow, Holds, RowsBelow}
use Rattle.nwa_base.specs.declared.letters.Letter.{Letter}
use Rattle.nwa_base.specs.Automata.{IsAutomaton}
use Rattle.nwa_base.specs.Acceptance.{Accepts}
use Rattle.letter_acts.specs.Frames.{Columns}
use Rattle.letter_acts.specs.Acts.{frame_of}
use Rattle.letter_acts.specs.Feasible.{IsFeasible}
use Rattle.letter_acts.specs.Invariant.{Graph, IsGraph, alphabet_of}
use Rattle.letter_acts.specs.Kept.{Keeps}
use Rattle.letter_acts.proofs.ListLemmas.{all_append}
use Rattle.path_rows.specs.declared.drafts.Draft.{Draft}
use Rattle.letter_acts.specs.FrameRows.Rows.{types_of}
use Rattle.path_rows.specs.Versions.{PathStage, Part, part_rows, part_of}
use Rattle.path_rows.specs.Paths.{Path, PlainPath, IsPathOf, repeated, start_frame, first_stage, path_of}
use Rattle.path_rows.specs.Stages.{GoesOnBy}
use Rattle.path_rows.specs.Drafts.{Reads, LeadsTo, IsDone, IsStart, CanGoOn, stage_of}
use Rattle.path_rows.proofs.ListLemmas.{length-columns_from}
use Rattle.path_rows.proofs.SolvedLaws.{below_columns}
use Rattle.path_rows.proofs.DifferLemmas.{columns_distinct}
use Rattle.path_rows.proofs.GoingLemmas.{kept_graph, goes_first, goes_next}
use Rattle.path_rows.proofs.DraftLemmas.{leads_first, leads_on, all_read, counted_first, counted_next}
use Rattle.path_rows.proofs.WholeLaws.{rows_are_exact, start_place, start_exists}
use Rattle.path_rows.proofs.WithinLaws.{bounds_below, rows_more, part_below}

-- ---- the start

pub start_within : (g : Graph) → Keeps g → IsAutomaton g.automaton → g.automaton.start < length g.place_procs
start_within g k m = (let p = (kept_graph g k).procedures.place_procs in let s = m.start in omega (arith, p, s))

got_index : (xs : List ℕ) (i : ℕ) → unwrap_or (slice_get xs i) 0 ≡ get_or xs i 0
got_index [] i = refl
got_index (x ∷ xs) zero = refl
got_index (x ∷ xs) (suc i) = got_index xs i

pub start_frame_is : (g : Graph) (frame : Columns) → frame ≡ frame_of (alphabet_of g) (get_or g.place_procs g.automaton.start 0) → frame ≡ start_frame g
start_frame_is g frame e = e ∙ ap (frame_of (alphabet_of g)) (sym (got_index g.place_procs g.automaton.start))

can_start : (g : Graph) → IsGraph g → IsAutomaton g.automaton → (w : List Letter) → Accepts g.automaton w → CanGoOn g (first_stage (start_frame g)) w
can_start g ok m w acc =
    let n : ℕ = length (start_frame g) in
    record {
      places = [];
      from = g.automaton.start;
      comes = record {
        here = record {
          proc = unwrap_or (slice_get g.place_procs g.automaton.start) 0;
          place = start_place g ok m;
          exists = start_exists g ok m;
          versions = record { long = length-columns_from 0 n; below = below_columns 0 n n (omega arith); differ = columns_distinct 0 n };
        };
        saved = tt;
      };
      accepts = acc;
    }

-- ---- the loop over the letters

-- so many letters are read
pub record HasRead (g : Graph) (w : List Letter) (n : ℕ) (d : Draft) : Type 0 where
  pub leads : LeadsTo g (n + 1) d (drop n w) (path_of g w)
  pub goes : CanGoOn g (stage_of d) (drop n w)
  pub room : d.made ≤ 2 ^ 32
  pub counted : d.made ≡ length d.column_at.items
  pub within : RowsBelow d.made d.rows.items

pub read_none : (g : Graph) (w : List Letter) (frame : Columns) (d : Draft) → Keeps g → IsAutomaton g.automaton → Accepts g.automaton w → frame ≡ start_frame g → IsStart frame d → HasRead g w 0 d
read_none g w frame d k m acc e s =
    let t : IsStart (start_frame g) d = subst (λ (f : Columns). IsStart f d) e s in
    let n = t.counted in
    record {
      leads = leads_first g w d t;
      goes = subst (λ (p : PathStage). CanGoOn g p w) (sym t.stage) (can_start g (kept_graph g k) m w acc);
      room = (let f : d.made ≡ length (start_frame g) = ap (λ (p : PathStage). p.made) t.stage in omega (arith, f, n));
      counted = counted_first (start_frame g) d t;
      within = subst (λ (rows : List LinearRow). RowsBelow d.made rows) (sym t.rows)
          (bounds_below d.made 0 (types_of (start_frame g)) (let f : d.made ≡ length (start_frame g) = ap (λ (p : PathStage). p.made) t.stage in
          let l = length-map (start_frame g) (λ v. Some v.1.ty) in omega (arith, f, l)));
    }

-- the next letter
front_letter : (w : List Letter) (n : ℕ) (a : Letter) → n < length w → a ≡ get_or w n a → drop n w ≡ a ∷ drop (n + 1) w
front_letter w n a l e = drop_more w n a l ∙ ap (λ (b : Letter). b ∷ drop (n + 1) w) (sym e)

pub goes_at : (g : Graph) (w : List Letter) (n : ℕ) (d : Draft) (a : Letter) → n < length w → a ≡ get_or w n a → HasRead g w n d → GoesOnBy g a (stage_of d)
goes_at g w n d a l e h = goes_first g (stage_of d) a (drop (n + 1) w) (subst (CanGoOn g (stage_of d)) (front_letter w n a l e) h.goes)

-- what was read and what the letter makes are below the number of columns after it
reads_within : (g : Graph) → Keeps g → (a : Letter) (n : ℕ) (old new : Draft) → GoesOnBy g a (stage_of old) → Reads (part_of (alphabet_of g) a (stage_of old)) n old new →
    old.made ≡ length old.column_at.items → RowsBelow old.made old.rows.items → RowsBelow new.made new.rows.items
reads_within g k a n old new goes r counted h =
    let part : Part = part_of (alphabet_of g) a (stage_of old) in
    let made : new.made ≡ part.after.made = ap (λ (p : PathStage). p.made) r.stage in
    let after : new.made ≡ length new.column_at.items = counted_next (alphabet_of g) a n old new r counted in
    let more : length new.column_at.items ≡ length old.column_at.items + length (repeated n part.columns) =
    ap length r.column_at ∙ length-append old.column_at.items (repeated n part.columns) in
    subst (λ (rows : List LinearRow). RowsBelow new.made rows) (sym r.rows)
    (all_append (λ r. IsBelow new.made r.terms) old.rows.items (part_rows part) (rows_more old.made new.made old.rows.items (omega (arith, counted, after, more)) h)
    (subst (λ (m : ℕ). RowsBelow m (part_rows part)) (sym made) (part_below g (kept_graph g k) a (stage_of old) goes)))

pub read_next : (g : Graph) (w : List Letter) (n : ℕ) (old new : Draft) (a : Letter) → Keeps g → n < length w → a ≡ get_or w n a → HasRead g w n old →
    Reads (part_of (alphabet_of g) a (stage_of old)) (n + 1) old new → new.made ≤ 2 ^ 32 → HasRead g w (n + 1) new
read_next g w n old new a k l e h r room =
    let f = front_letter w n a l e in
    let lead = leads_on g (n + 1) a (drop (n + 1) w) old new (path_of g w) r (subst (λ (v : List Letter). LeadsTo g (n + 1) old v (path_of g w)) f h.leads) in
    let i : suc (n + 1) ≡ n + 1 + 1 = omega arith in
    record {
      leads = subst (λ (m : ℕ). LeadsTo g m new (drop (n + 1) w) (path_of g w)) i lead;
      goes = subst (λ (p : PathStage). CanGoOn g p (drop (n + 1) w)) (sym r.stage)
          (goes_next g (kept_graph g k) (stage_of old) a (drop (n + 1) w) (subst (CanGoOn g (stage_of old)) f h.goes));
      room = room;
      counted = counted_next (alphabet_of g) a (n + 1) old new r h.counted;
      within = reads_within g k a (n + 1) old new (goes_at g w n old a l e h) r h.counted h.within;
    }

dropped_all : (xs : List Letter) (i : ℕ) → length xs ≤ i → drop i xs ≡ []
dropped_all [] zero l = refl
dropped_all [] (suc i) l = refl
dropped_all (x ∷ xs) zero l = absurd (omega arith)
dropped_all (x ∷ xs) (suc i) l = dropped_all xs i (omega arith)

pub read_all : (g : Graph) (w v : List Letter) (n : ℕ) (d : Draft) → length w ≤ n → w ≡ v → HasRead g w n d → IsDone d (path_of g v)
read_all g w v n d l e h =
    subst (λ (u : List Letter). IsDone d (path_of g u)) e
    (all_read g (n + 1) d (path_of g w) (subst (λ (u : List Letter). LeadsTo g (n + 1) d u (path_of g w)) (dropped_all w n l) h.leads))

pub read_within : (g : Graph) (w : List Letter) (n : ℕ) (d : Draft) → HasRead g w n d → RowsBelow (length d.column_at.items) d.rows.items
read_within g w n d h = subst (λ (m : ℕ). RowsBelow m d.rows.items) h.counted h.within

-- ---- the system

pub made_path : (g : Graph) (w copy : List Letter) (d : Draft) (rows : List LinearRow) (states : List (Vec ℕ)) → Accepts g.automaton w → IsDone d (path_of g w) → copy ≡ w →
    rows ≡ d.rows.items → states ≡ d.states.items ++ d.here ∷ [] →
    IsPathOf g (record { word = copy; rows = rows; row_at = d.row_at.items; column_at = d.column_at.items; states = map (λ (v : Vec ℕ). v.items) states })
made_path g w copy d rows states acc h e r st =
    let there : path_of g w ≡ path_of g copy = ap (path_of g) (sym e) in
    record {
      accepted = subst (Accepts g.automaton) (sym e) acc;
      rows = r ∙ h.rows ∙ ap (λ (p : Path). p.rows) there;
      row_at = h.row_at ∙ ap (λ (p : Path). p.row_at) there;
      column_at = h.column_at ∙ ap (λ (p : Path). p.column_at) there;
      states = ap (λ (l : List (Vec ℕ)). map (λ (v : Vec ℕ). v.items) l) st ∙ map-append (λ (v : Vec ℕ). v.items) d.states.items (d.here ∷ []) ∙ h.states ∙
          ap (λ (p : Path). p.states) there;
    }

pub path_exact : (g : Graph) (w : List Letter) (p : PlainPath) → Keeps g → IsAutomaton g.automaton → p.word ≡ w → IsPathOf g p →
    ((point : ℕ → ℤ) × AllByRecursion (Holds point) p.rows) ↔ IsFeasible (alphabet_of g) w
path_exact g w p k m e h =
    let b = rows_are_exact g p.word (kept_graph g k) m h.accepted in
    subst (λ (v : List Letter). ((point : ℕ → ℤ) × AllByRecursion (Holds point) p.rows) ↔ IsFeasible (alphabet_of g) v) e
    (subst (λ (rs : List LinearRow). ((point : ℕ → ℤ) × AllByRecursion (Holds point) rs) ↔ IsFeasible (alphabet_of g) p.word) (sym h.rows) b)

-- what stands at a place of a list does not depend on what is taken past its end
pub same_front : (w : List Letter) (n : ℕ) (d : Letter) → n < length w → get_or w n d ≡ get_or w n (get_or w n d)
same_front [] n d l = absurd (omega arith)
same_front (a ∷ w) zero d l = refl
same_front (a ∷ w) (suc n) d l = same_front_of w n d (get_or w n d) (omega arith)
  where
    same_front_of : (w : List Letter) (n : ℕ) (d e : Letter) → n < length w → get_or w n d ≡ get_or w n e
    same_front_of [] n d e l = absurd (omega arith)
    same_front_of (a ∷ w) zero d e l = refl
    same_front_of (a ∷ w) (suc n) d e l = same_front_of w n d e (omega arith)

pub columns_told_apart : (g : Graph) (w : List Letter) (n : ℕ) (d : Draft) → HasRead g w n d → length d.column_at.items ≤ 2 ^ 32
columns_told_apart g w n d h = (let r = h.room in let c = h.counted in omega (arith, r, c))
