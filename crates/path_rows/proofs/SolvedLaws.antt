-- Frame states that obey a word give a point: each version gets its value where a letter makes it.
use Rattle.std.proofs.Common.{◌≡◌, ◌∙◌, ℕ, zero, suc, ◌+◌, ◌<◌, ◌≤◌, ℤ, List, [], ◌∷◌, ◌++◌, length, take, drop, Option, None, Some, refl, sym, ap, subst, arith, append_assoc, append-nil, length-append}
use Rattle.std.specs.Prelude.{map, slice_get, slice_index, slice_set}
use Rattle.std.specs.List.{AllByRecursion}
use Rattle.std.proofs.lemmas.List.{length-map, length-take-le}
use Rattle.boogie_tree.specs.declared.tree.VarInfo.{VarInfo}
use Rattle.lin_rows.specs.Rows.{LinearRow, Holds}
use Rattle.lin_rows.specs.Points.{point_of}
use Rattle.nwa_base.specs.declared.letters.Kind.{Kind}
use Rattle.nwa_base.specs.declared.letters.Kind.TheVariants.{Inside, Call, Back}
use Rattle.nwa_base.specs.declared.letters.Letter.{Letter}
use Rattle.letter_acts.specs.Frames.{Columns, IsState, IsFrame, globals_of, variables_of, result_columns, globals_from}
use Rattle.letter_acts.specs.Acts.{PlainAct, inside_act, call_act, back_act, Alphabet, frame_of, act_of}
use Rattle.letter_acts.specs.Values.{picked, put_all}
use Rattle.letter_acts.specs.Meaning.{Situation, InsideLeads, CallLeads, BackLeads, ActInside, ActCalls, ActReturns, ReturnsFrom, returned_values}
use Rattle.letter_acts.specs.Ways.{Leads, GoesThrough}
use Rattle.letter_acts.specs.Feasible.{meaning}
use Rattle.letter_acts.specs.Invariant.{Graph, IsGraph, alphabet_of}
use Rattle.letter_acts.proofs.ListLemmas.{all_weaker, all_append}
use Rattle.letter_acts.proofs.PointLemmas.{point_of-left, point_of-right, state_length}
use Rattle.letter_acts.proofs.KnownLemmas.{frames_laid_out}
use Rattle.path_rows.specs.Versions.{PathStage, Part, written_over, entered_versions, returned, local_columns, old_part, inside_part, call_part, back_part, return_part, part_of, act_part}
use Rattle.letter_acts.specs.FrameRows.Rows.{columns_from}
use Rattle.path_rows.specs.Paths.{path_along, first_stage}
use Rattle.path_rows.specs.Solutions.{read, ActObeyed, ObeyedAlong, BackObeyed, ReturnObeyed}
use Rattle.path_rows.proofs.ListLemmas.{length-read, read_written}
use Rattle.path_rows.proofs.LayoutLemmas.{laid_out}
use Rattle.path_rows.proofs.CallLaws.{olds_at, entry_read}
use Rattle.path_rows.proofs.BackLaws.{returned_read}
use Rattle.path_rows.proofs.OpenLemmas.{results_within}

-- ---- columns below a number

abbrev pub Below : ℕ → List ℕ → Type 0
Below n cs = AllByRecursion (λ c. c < n) cs

pub below_more : (n m : ℕ) (cs : List ℕ) → n ≤ m → Below n cs → Below m cs
below_more n m cs l h = all_weaker (λ c. c < n) (λ c. c < m) (λ c k. omega arith) cs h

pub below_columns : (n k m : ℕ) → n + k ≤ m → Below m (columns_from n k)
below_columns n zero m l = tt
below_columns n (suc k) m l = (omega arith, below_columns (suc n) k m (omega arith))

pub all_set : (P : ℕ → Type 0) (xs : List ℕ) (i v : ℕ) → AllByRecursion P xs → P v → AllByRecursion P (slice_set xs i v)
all_set P [] i v h p = tt
all_set P (x ∷ xs) zero v h p = (p, h.1)
all_set P (x ∷ xs) (suc i) v h p = (h.0, all_set P xs i v h.1 p)

pub all_written : (P : ℕ → Type 0) (here cs news : List ℕ) → AllByRecursion P here → AllByRecursion P news → AllByRecursion P (written_over here cs news)
all_written P here [] news h k = h
all_written P here (c ∷ cs) [] h k = h
all_written P here (c ∷ cs) (v ∷ vs) h k = all_written P (slice_set here c v) cs vs (all_set P here c v h k.0) k.1

pub all_taken : (P : ℕ → Type 0) (n : ℕ) (xs : List ℕ) → AllByRecursion P xs → AllByRecursion P (take n xs)
all_taken P zero xs h = tt
all_taken P (suc n) [] h = tt
all_taken P (suc n) (x ∷ xs) h = (h.0, all_taken P n xs h.1)

pub all_dropped : (P : ℕ → Type 0) (n : ℕ) (xs : List ℕ) → AllByRecursion P xs → AllByRecursion P (drop n xs)
all_dropped P zero xs h = h
all_dropped P (suc n) [] h = tt
all_dropped P (suc n) (x ∷ xs) h = all_dropped P n xs h.1

index_in : (P : ℕ → Type 0) (xs : List ℕ) (i : ℕ) → i < length xs → AllByRecursion P xs → P (slice_index xs i)
index_in P [] i l h = absurd (omega arith)
index_in P (x ∷ xs) zero l h = h.0
index_in P (x ∷ xs) (suc i) l h = index_in P xs i (omega arith) h.1

pub all_indexed : (P : ℕ → Type 0) (xs is : List ℕ) → AllByRecursion (λ i. i < length xs) is → AllByRecursion P xs → AllByRecursion P (map (slice_index xs) is)
all_indexed P xs [] l h = tt
all_indexed P xs (i ∷ is) l h = (index_in P xs i l.0 h, all_indexed P xs is l.1 h)

pub below_entered : (callee : Columns) (locals olds m : ℕ) (here : List ℕ) → Below m here → olds + length (old_part callee) ≤ m → locals + length (local_columns callee) ≤ m →
    Below m (entered_versions callee locals olds here)
below_entered callee locals olds m here h o l =
    all_append (λ c. c < m) (take (length (globals_of callee)) here) (columns_from olds (length (old_part callee)) ++ columns_from locals (length (local_columns callee)))
    (all_taken (λ c. c < m) (length (globals_of callee)) here h)
    (all_append (λ c. c < m) (columns_from olds (length (old_part callee))) (columns_from locals (length (local_columns callee)))
    (below_columns olds (length (old_part callee)) m o) (below_columns locals (length (local_columns callee)) m l))

pub below_returned : (caller callee : Columns) (targets exit before : List ℕ) (m : ℕ) → length callee ≡ length exit → Below m exit → Below m before →
    Below m (returned caller callee targets exit before)
below_returned caller callee targets exit before m l x b =
    let n : ℕ = length (globals_of caller) in
    all_written (λ c. c < m) (take n exit ++ drop n before) targets (map (slice_index exit) (result_columns callee))
    (all_append (λ c. c < m) (take n exit) (drop n before) (all_taken (λ c. c < m) n exit x) (all_dropped (λ c. c < m) n before b))
    (all_indexed (λ c. c < m) exit (result_columns callee) (results_within callee (length exit) l) x)

-- ---- values behind others

read_more : (vals rest : List ℤ) (m : ℕ) (cs : List ℕ) → m ≡ length vals → Below m cs → read (point_of (vals ++ rest)) cs ≡ read (point_of vals) cs
read_more vals rest m [] e h = refl
read_more vals rest m (c ∷ cs) e h =
    let a : point_of (vals ++ rest) c ≡ point_of vals c = point_of-left vals rest c (let l = h.0 in omega (arith, l, e)) in
    let b : read (point_of (vals ++ rest)) cs ≡ read (point_of vals) cs = read_more vals rest m cs e h.1 in
    cc

read_new : (vals news rest : List ℤ) (m k : ℕ) → m ≡ length vals → length news ≡ k → read (point_of (vals ++ (news ++ rest))) (columns_from m k) ≡ news
read_new vals [] rest m zero e f = refl
read_new vals [] rest m (suc k) e f = absurd (omega (arith, f))
read_new vals (x ∷ news) rest m zero e f = absurd (omega (arith, f))
read_new vals (x ∷ news) rest m (suc k) e f =
    let a : point_of (vals ++ (x ∷ (news ++ rest))) m ≡ x = point_of-right vals (x ∷ (news ++ rest)) m 0 (omega (arith, e)) in
    let l = length-append vals (x ∷ []) in
    let r : read (point_of ((vals ++ (x ∷ [])) ++ (news ++ rest))) (columns_from (suc m) k) ≡ news = read_new (vals ++ (x ∷ [])) news rest (suc m) k (omega (arith, e, l)) (omega (arith, f)) in
    let s : (vals ++ (x ∷ [])) ++ (news ++ rest) ≡ vals ++ (x ∷ (news ++ rest)) = append_assoc vals (x ∷ []) (news ++ rest) in
    let b : read (point_of (vals ++ (x ∷ (news ++ rest)))) (columns_from (suc m) k) ≡ news = subst (λ (v : List ℤ). read (point_of v) (columns_from (suc m) k) ≡ news) s r in
    cc

-- ---- what is built

-- the states before the open calls have the values of their versions, which are made
abbrev SavedRead : List ℤ → ℕ → List Situation → List (List ℕ) → Type 0
SavedRead vals m [] [] = Unit {0}
SavedRead vals m [] (v ∷ saved) = ⊥
SavedRead vals m (b ∷ stack) [] = ⊥
SavedRead vals m (b ∷ stack) (v ∷ saved) = (b.values ≡ read (point_of vals) v) × Below m v × SavedRead vals m stack saved

-- the values of the versions made so far
pub record Built (vals : List ℤ) (p : PathStage) (stack : List Situation) (s : Situation) : Type 0 where
  long : p.made ≡ length vals
  values : s.values ≡ read (point_of vals) p.here
  below : Below p.made p.here
  saved : SavedRead vals p.made stack p.saved

saved_more : (vals rest : List ℤ) (n m : ℕ) (stack : List Situation) (saved : List (List ℕ)) → n ≡ length vals → n ≤ m → SavedRead vals n stack saved →
    SavedRead (vals ++ rest) m stack saved
saved_more vals rest n m [] [] e l h = tt
saved_more vals rest n m [] (v ∷ saved) e l h = absurd h
saved_more vals rest n m (b ∷ stack) [] e l h = absurd h
saved_more vals rest n m (b ∷ stack) (v ∷ saved) e l h =
    (h.0 ∙ sym (read_more vals rest n v e h.1), below_more n m v l h.1, saved_more vals rest n m stack saved e l h.2)

-- what a letter adds
record Adds (al : Alphabet) (a : Letter) (vals : List ℤ) (p : PathStage) (next : List Situation) (t : Situation) : Type 0 where
  added : List ℤ
  built : Built (vals ++ added) (part_of al a p).after next t
  obeyed : (rest : List ℤ) → ActObeyed (point_of ((vals ++ added) ++ rest)) al (act_of al a) p

inside_adds : (al : Alphabet) (a : Letter) (vals : List ℤ) (p : PathStage) (stack : List Situation) (s t : Situation) → Built vals p stack s →
    (q : ℕ) (written : List ℕ) (helpers : ℕ) (rows : List LinearRow) → act_of al a ≡ Some (inside_act q written helpers rows) →
    InsideLeads (frame_of al q) written helpers rows s.values t.values → Adds al a vals p stack t
inside_adds al a vals p stack s t b q written helpers rows e m =
    let hs : List ℤ = m.rows_hold.helpers in
    let ext : List ℤ = m.news ++ hs in
    let part : Part = inside_part (frame_of al q) written helpers rows p in
    let ln = m.as_many in
    let lh = m.rows_hold.as_many in
    let le = length-append m.news hs in
    let lv = length-append vals ext in
    let lb = b.long in
    let made : part.after.made ≡ length (vals ++ ext) = omega (arith, ln, lh, le, lv, lb) in
    let news_at : (rest : List ℤ) → read (point_of ((vals ++ ext) ++ rest)) (columns_from p.made (length written)) ≡ m.news =
    λ rest.
    subst (λ (v : List ℤ). read (point_of v) (columns_from p.made (length written)) ≡ m.news)
    (ap (λ (v : List ℤ). vals ++ v) (sym (append_assoc m.news hs rest)) ∙ sym (append_assoc vals ext rest))
    (read_new vals m.news (hs ++ rest) p.made (length written) b.long m.as_many) in
    let helpers_at : (rest : List ℤ) → read (point_of ((vals ++ ext) ++ rest)) (columns_from (p.made + length written) helpers) ≡ hs =
    λ rest.
    (let la = length-append vals m.news in
    subst (λ (v : List ℤ). read (point_of v) (columns_from (p.made + length written) helpers) ≡ hs)
    (sym (append_assoc (vals ++ m.news) hs rest) ∙ ap (λ (v : List ℤ). v ++ rest) (append_assoc vals m.news hs))
    (read_new (vals ++ m.news) hs rest (p.made + length written) helpers (omega (arith, la, ln, lb)) m.rows_hold.as_many)) in
    let here_at : (rest : List ℤ) → read (point_of ((vals ++ ext) ++ rest)) p.here ≡ s.values =
    λ rest. subst (λ (v : List ℤ). read (point_of v) p.here ≡ s.values) (sym (append_assoc vals ext rest)) (read_more vals (ext ++ rest) p.made p.here b.long b.below ∙ sym b.values) in
    let after_at : (rest : List ℤ) → read (point_of ((vals ++ ext) ++ rest)) part.after.here ≡ t.values =
    λ rest.
    read_written (point_of ((vals ++ ext) ++ rest)) p.here written (columns_from p.made (length written)) ∙
    ap (λ (v : List ℤ). put_all v written (read (point_of ((vals ++ ext) ++ rest)) (columns_from p.made (length written)))) (here_at rest) ∙
    ap (λ (v : List ℤ). put_all s.values written v) (news_at rest) ∙ sym m.put in
    record {
      added = ext;
      built = subst (λ (o : Option PlainAct). Built (vals ++ ext) (act_part al o p).after stack t) (sym e) (record {
        long = made;
        values = sym (subst (λ (v : List ℤ). read (point_of v) part.after.here ≡ t.values) (append-nil (vals ++ ext)) (after_at []));
        below = all_written (λ c. c < part.after.made) p.here written (columns_from p.made (length written))
            (below_more p.made part.after.made p.here (omega arith) b.below) (below_columns p.made (length written) part.after.made (omega arith));
        saved = saved_more vals ext p.made part.after.made stack p.saved b.long (omega arith) b.saved;
      });
      obeyed = λ rest. subst (λ (o : Option PlainAct). ActObeyed (point_of ((vals ++ ext) ++ rest)) al o p) (sym e) (record {
        leads = record {
          before = subst (IsState (frame_of al q)) (sym (here_at rest)) m.before;
          after = subst (IsState (frame_of al q)) (sym (after_at rest)) m.after;
          news = m.news;
          as_many = m.as_many;
          put = after_at rest ∙ m.put ∙ ap (λ (v : List ℤ). put_all v written m.news) (sym (here_at rest));
          rows_hold = record {
            helpers = hs;
            as_many = m.rows_hold.as_many;
            hold = subst (λ (v : List ℤ). AllByRecursion (Holds (point_of ((v ++ m.news) ++ hs))) rows) (sym (here_at rest)) m.rows_hold.hold;
          };
        };
        news = sym (news_at rest);
        helped = sym (helpers_at rest);
      });
    }

call_adds : (globals : List VarInfo) (al : Alphabet) (a : Letter) (vals : List ℤ) (p : PathStage) (stack : List Situation) (s t : Situation) → Built vals p stack s →
    (caller callee helpers : ℕ) (rows : List LinearRow) → IsFrame globals (frame_of al caller) → IsFrame globals (frame_of al callee) →
    act_of al a ≡ Some (call_act caller callee helpers rows) → CallLeads (frame_of al caller) (frame_of al callee) helpers rows s.values t.values → Adds al a vals p (s ∷ stack) t
call_adds globals al a vals p stack s t b caller callee helpers rows fr fe e m =
    let in_callee : Columns = frame_of al callee in
    let hs : List ℤ = m.rows_hold.helpers in
    let locals : List ℤ = m.locals in
    let n : ℕ = length (globals_of in_callee) in
    let olds : List ℤ = picked s.values (variables_of in_callee) in
    let ext : List ℤ = locals ++ (hs ++ olds) in
    let part : Part = call_part in_callee helpers rows p in
    let o = laid_out globals in_callee fe in
    let lh = m.rows_hold.as_many in
    let lb = b.long in
    let lo : length olds ≡ length (old_part in_callee) = length-map (variables_of in_callee) (point_of s.values) ∙ o.variable_count in
    let ll : length locals ≡ length (local_columns in_callee) =
    (let x1 = state_length in_callee t.values m.after in
    let x2 = ap length m.entered in
    let x3 = length-append (take n s.values) (olds ++ locals) in
    let x4 = length-append olds locals in
    let x5 = state_length (frame_of al caller) s.values m.before in
    let x6 = (laid_out globals (frame_of al caller) fr).long in
    let x7 = o.global_count in
    let x8 = length-take-le n s.values (omega (arith, x5, x6, x7)) in
    let x9 = ap length o.parts in
    let y1 = length-append (globals_from 0 globals) (old_part in_callee ++ local_columns in_callee) in
    let y2 = length-append (old_part in_callee) (local_columns in_callee) in
    omega (arith, x1, x2, x3, x4, x7, x8, x9, y1, y2, lo)) in
    let l1 = length-append locals (hs ++ olds) in
    let l2 = length-append hs olds in
    let l3 = length-append vals ext in
    let made : part.after.made ≡ length (vals ++ ext) = omega (arith, lo, ll, lh, lb, l1, l2, l3) in
    let locals_at : (rest : List ℤ) → read (point_of ((vals ++ ext) ++ rest)) (columns_from p.made (length (local_columns in_callee))) ≡ locals =
    λ rest.
    subst (λ (v : List ℤ). read (point_of v) (columns_from p.made (length (local_columns in_callee))) ≡ locals)
    (ap (λ (v : List ℤ). vals ++ v) (sym (append_assoc locals (hs ++ olds) rest)) ∙ sym (append_assoc vals ext rest))
    (read_new vals locals ((hs ++ olds) ++ rest) p.made (length (local_columns in_callee)) b.long ll) in
    let helpers_at : (rest : List ℤ) → read (point_of ((vals ++ ext) ++ rest)) (columns_from (p.made + length (local_columns in_callee)) helpers) ≡ hs =
    λ rest.
    (let la = length-append vals locals in
    subst (λ (v : List ℤ). read (point_of v) (columns_from (p.made + length (local_columns in_callee)) helpers) ≡ hs)
    (ap (λ (v : List ℤ). (vals ++ locals) ++ v) (sym (append_assoc hs olds rest)) ∙ sym (append_assoc (vals ++ locals) (hs ++ olds) rest) ∙
    ap (λ (v : List ℤ). v ++ rest) (append_assoc vals locals (hs ++ olds)))
    (read_new (vals ++ locals) hs (olds ++ rest) (p.made + length (local_columns in_callee)) helpers (omega (arith, la, ll, lb)) lh)) in
    let olds_are : (rest : List ℤ) → read (point_of ((vals ++ ext) ++ rest)) (columns_from (olds_at in_callee p.made helpers) (length (old_part in_callee))) ≡ olds =
    λ rest.
    (let la = length-append vals locals in
    let lc = length-append (vals ++ locals) hs in
    subst (λ (v : List ℤ). read (point_of v) (columns_from (olds_at in_callee p.made helpers) (length (old_part in_callee))) ≡ olds)
    (append_assoc (vals ++ locals) hs (olds ++ rest) ∙ ap (λ (v : List ℤ). (vals ++ locals) ++ v) (sym (append_assoc hs olds rest)) ∙
    sym (append_assoc (vals ++ locals) (hs ++ olds) rest) ∙ ap (λ (v : List ℤ). v ++ rest) (append_assoc vals locals (hs ++ olds)))
    (read_new ((vals ++ locals) ++ hs) olds rest (olds_at in_callee p.made helpers) (length (old_part in_callee)) (omega (arith, la, lc, ll, lb, lh)) lo)) in
    let here_at : (rest : List ℤ) → read (point_of ((vals ++ ext) ++ rest)) p.here ≡ s.values =
    λ rest. subst (λ (v : List ℤ). read (point_of v) p.here ≡ s.values) (sym (append_assoc vals ext rest)) (read_more vals (ext ++ rest) p.made p.here b.long b.below ∙ sym b.values) in
    let after_at : (rest : List ℤ) → read (point_of ((vals ++ ext) ++ rest)) part.after.here ≡ t.values =
    λ rest.
    (let point : ℕ → ℤ = point_of ((vals ++ ext) ++ rest) in
    let locals_columns : List ℕ = columns_from p.made (length (local_columns in_callee)) in
    entry_read point in_callee p.made (olds_at in_callee p.made helpers) p.here ∙
    ap (λ (v : List ℤ). take n v ++ (read point (columns_from (olds_at in_callee p.made helpers) (length (old_part in_callee))) ++ read point locals_columns)) (here_at rest) ∙
    ap (λ (v : List ℤ). take n s.values ++ (v ++ read point locals_columns)) (olds_are rest) ∙
    ap (λ (v : List ℤ). take n s.values ++ (olds ++ v)) (locals_at rest) ∙ sym m.entered) in
    record {
      added = ext;
      built = subst (λ (o : Option PlainAct). Built (vals ++ ext) (act_part al o p).after (s ∷ stack) t) (sym e) (record {
        long = made;
        values = sym (subst (λ (v : List ℤ). read (point_of v) part.after.here ≡ t.values) (append-nil (vals ++ ext)) (after_at []));
        below = below_entered in_callee p.made (olds_at in_callee p.made helpers) part.after.made p.here
            (below_more p.made part.after.made p.here (omega arith) b.below) (omega arith) (omega arith);
        saved = (
          sym (subst (λ (v : List ℤ). read (point_of v) p.here ≡ s.values) (append-nil (vals ++ ext)) (here_at [])),
          below_more p.made part.after.made p.here (omega arith) b.below,
          saved_more vals ext p.made part.after.made stack p.saved b.long (omega arith) b.saved,
        );
      });
      obeyed = λ rest. subst (λ (o : Option PlainAct). ActObeyed (point_of ((vals ++ ext) ++ rest)) al o p) (sym e) (record {
        leads = record {
          before = subst (IsState (frame_of al caller)) (sym (here_at rest)) m.before;
          after = subst (IsState in_callee) (sym (after_at rest)) m.after;
          locals = locals;
          entered = after_at rest ∙ m.entered ∙ ap (λ (v : List ℤ). take n v ++ (picked v (variables_of in_callee) ++ locals)) (sym (here_at rest));
          rows_hold = record {
            helpers = hs;
            as_many = lh;
            hold = subst (λ (v : List ℤ). AllByRecursion (Holds (point_of ((v ++ read (point_of ((vals ++ ext) ++ rest)) part.after.here) ++ hs))) rows) (sym (here_at rest))
                (subst (λ (v : List ℤ). AllByRecursion (Holds (point_of ((s.values ++ v) ++ hs))) rows) (sym (after_at rest)) m.rows_hold.hold);
          };
        };
        helped = sym (helpers_at rest);
      });
    }

back_adds : (al : Alphabet) (a : Letter) (vals : List ℤ) (p : PathStage) (stack : List Situation) (b s t : Situation) → Built vals p (b ∷ stack) s →
    (c : ℕ) (targets : List ℕ) (caller callee helpers : ℕ) (rows : List LinearRow) → act_of al a ≡ Some (back_act c targets) →
    slice_get al.acts c ≡ Some (call_act caller callee helpers rows) →
    BackLeads (frame_of al caller) (frame_of al callee) helpers rows targets s.values b.values t.values → Adds al a vals p stack t
back_adds al a vals p stack b s t built c targets caller callee helpers rows e f m = by_saved p.saved refl built.saved
  where
    by_saved : (saved : List (List ℕ)) → p.saved ≡ saved → SavedRead vals p.made (b ∷ stack) saved → Adds al a vals p stack t
    by_saved [] i h = absurd h
    by_saved (v ∷ saved) i h =
        let from : Columns = frame_of al caller in
        let to : Columns = frame_of al callee in
        let part : Part = back_part from to targets p.made p.here (v ∷ saved) in
        let there : act_part al (act_of al a) p ≡ part =
        ap (λ (r : Option PlainAct). act_part al r p) e ∙ ap (λ (r : Option PlainAct). return_part al targets r p) f ∙
        ap (λ (r : List (List ℕ)). back_part from to targets p.made p.here r) i in
        let long : length p.here ≡ length to = sym (length-read (point_of vals) p.here) ∙ ap length (sym built.values) ∙ state_length to s.values m.at_exit in
        let lb = built.long in
        let here_at : (rest : List ℤ) → read (point_of (vals ++ rest)) p.here ≡ s.values = λ rest. read_more vals rest p.made p.here built.long built.below ∙ sym built.values in
        let call_at : (rest : List ℤ) → read (point_of (vals ++ rest)) v ≡ b.values = λ rest. read_more vals rest p.made v built.long h.1 ∙ sym h.0 in
        let after_at : (rest : List ℤ) → read (point_of (vals ++ rest)) part.after.here ≡ t.values =
        λ rest.
        returned_read (point_of (vals ++ rest)) from to targets p.here v long ∙
        ap (λ (l : List ℤ). returned_values from to targets l (read (point_of (vals ++ rest)) v)) (here_at rest) ∙
        ap (λ (l : List ℤ). returned_values from to targets s.values l) (call_at rest) ∙ sym m.returned in
        record {
          added = [];
          built = subst (λ (r : Part). Built (vals ++ []) r.after stack t) (sym there) (record {
            long = built.long ∙ ap length (sym (append-nil vals));
            values = sym (after_at []);
            below = below_returned from to targets p.here v p.made (sym long) built.below h.1;
            saved = saved_more vals [] p.made p.made stack saved built.long (omega arith) h.2;
          });
          obeyed = λ rest.
              (let z : vals ++ rest ≡ (vals ++ []) ++ rest = ap (λ (l : List ℤ). l ++ rest) (sym (append-nil vals)) in
              let led : BackObeyed (point_of (vals ++ rest)) from to helpers rows targets p.made p.here (v ∷ saved) =
              subst (λ (l : List ℤ). BackLeads from to helpers rows targets l (read (point_of (vals ++ rest)) v) (read (point_of (vals ++ rest)) part.after.here)) (sym (here_at rest))
              (subst (λ (l : List ℤ). BackLeads from to helpers rows targets s.values l (read (point_of (vals ++ rest)) part.after.here)) (sym (call_at rest))
              (subst (λ (l : List ℤ). BackLeads from to helpers rows targets s.values b.values l) (sym (after_at rest)) m)) in
              subst (λ (l : List ℤ). ActObeyed (point_of l) al (act_of al a) p) z
              (subst (λ (r : Option PlainAct). ActObeyed (point_of (vals ++ rest)) al r p) (sym e)
              (subst (λ (r : Option PlainAct). ReturnObeyed (point_of (vals ++ rest)) al targets r p) (sym f)
              (subst (λ (r : List (List ℕ)). BackObeyed (point_of (vals ++ rest)) from to helpers rows targets p.made p.here r) (sym i) led))));
        }

-- ---- letters

inside_letter : (al : Alphabet) (a : Letter) (vals : List ℤ) (p : PathStage) (stack : List Situation) (s t : Situation) → Built vals p stack s →
    (o : Option PlainAct) → act_of al a ≡ o → ActInside al o s t → Adds al a vals p stack t
inside_letter al a vals p stack s t b None e h = absurd h
inside_letter al a vals p stack s t b (Some (inside_act q written helpers rows)) e h = inside_adds al a vals p stack s t b q written helpers rows e h.2
inside_letter al a vals p stack s t b (Some (call_act caller callee helpers rows)) e h = absurd h
inside_letter al a vals p stack s t b (Some (back_act c targets)) e h = absurd h

call_letter : (g : Graph) → IsGraph g → (a : Letter) (vals : List ℤ) (p : PathStage) (stack : List Situation) (s t : Situation) → Built vals p stack s →
    (o : Option PlainAct) → act_of (alphabet_of g) a ≡ o → ActCalls (alphabet_of g) o s t → Adds (alphabet_of g) a vals p (s ∷ stack) t
call_letter g ok a vals p stack s t b None e h = absurd h
call_letter g ok a vals p stack s t b (Some (inside_act q written helpers rows)) e h = absurd h
call_letter g ok a vals p stack s t b (Some (call_act caller callee helpers rows)) e h =
    let lay = frames_laid_out g ok in
    call_adds lay.0 (alphabet_of g) a vals p stack s t b caller callee helpers rows (lay.1 caller h.0.1) (lay.1 callee h.1.1) e h.2
call_letter g ok a vals p stack s t b (Some (back_act c targets)) e h = absurd h

return_letter : (al : Alphabet) (a : Letter) (vals : List ℤ) (p : PathStage) (stack : List Situation) (b s t : Situation) → Built vals p (b ∷ stack) s →
    (c : ℕ) (targets : List ℕ) → act_of al a ≡ Some (back_act c targets) → (o : Option PlainAct) → slice_get al.acts c ≡ o → ReturnsFrom al targets o s b t → Adds al a vals p stack t
return_letter al a vals p stack b s t built c targets e None f h = absurd h
return_letter al a vals p stack b s t built c targets e (Some (inside_act q written helpers rows)) f h = absurd h
return_letter al a vals p stack b s t built c targets e (Some (call_act caller callee helpers rows)) f h =
    back_adds al a vals p stack b s t built c targets caller callee helpers rows e f h.3
return_letter al a vals p stack b s t built c targets e (Some (back_act d more)) f h = absurd h

back_letter : (al : Alphabet) (a : Letter) (vals : List ℤ) (p : PathStage) (stack : List Situation) (b s t : Situation) → Built vals p (b ∷ stack) s →
    (o : Option PlainAct) → act_of al a ≡ o → ActReturns al o s b t → Adds al a vals p stack t
back_letter al a vals p stack b s t built None e h = absurd h
back_letter al a vals p stack b s t built (Some (inside_act q written helpers rows)) e h = absurd h
back_letter al a vals p stack b s t built (Some (call_act caller callee helpers rows)) e h = absurd h
back_letter al a vals p stack b s t built (Some (back_act c targets)) e h = return_letter al a vals p stack b s t built c targets e (slice_get al.acts c) refl h

-- ---- words

-- values for the rest of a word
pub record Extends (al : Alphabet) (n : ℕ) (vals : List ℤ) (p : PathStage) (s : Situation) (more : List Situation) (w : List Letter) : Type 0 where
  pub rest : List ℤ
  pub obeyed : ObeyedAlong (point_of (vals ++ rest)) al p w
  pub read_off : map (λ t. t.values) (s ∷ more) ≡ map (read (point_of (vals ++ rest))) (path_along al n p w).states

extended : (al : Alphabet) (n : ℕ) (a : Letter) (w : List Letter) (vals : List ℤ) (p : PathStage) (stack next : List Situation) (s t : Situation) (more : List Situation) →
    Built vals p stack s → (d : Adds al a vals p next t) → Extends al (suc n) (vals ++ d.added) (part_of al a p).after t more w → Extends al n vals p s (t ∷ more) (a ∷ w)
extended al n a w vals p stack next s t more b d x =
    let z : (vals ++ d.added) ++ x.rest ≡ vals ++ (d.added ++ x.rest) = append_assoc vals d.added x.rest in
    record {
      rest = d.added ++ x.rest;
      obeyed = subst (λ (l : List ℤ). ObeyedAlong (point_of l) al p (a ∷ w)) z (d.obeyed x.rest, x.obeyed);
      read_off =
          (let states : List (List ℕ) = (path_along al (suc n) (part_of al a p).after w).states in
          let f : map (λ t. t.values) (t ∷ more) ≡ map (read (point_of (vals ++ (d.added ++ x.rest)))) states =
          subst (λ (l : List ℤ). map (λ t. t.values) (t ∷ more) ≡ map (read (point_of l)) states) z x.read_off in
          let e : s.values ≡ read (point_of (vals ++ (d.added ++ x.rest))) p.here =
          b.values ∙ sym (read_more vals (d.added ++ x.rest) p.made p.here b.long b.below) in
          ap (λ (l : List (List ℤ)). s.values ∷ l) f ∙ ap (λ (l : List ℤ). l ∷ map (read (point_of (vals ++ (d.added ++ x.rest)))) states) e);
    }

pub extends : (g : Graph) → IsGraph g → (w : List Letter) (n : ℕ) (vals : List ℤ) (p : PathStage) (stack : List Situation) (s : Situation) (more : List Situation) →
    Built vals p stack s → GoesThrough (meaning (alphabet_of g)) stack s w more → Extends (alphabet_of g) n vals p s more w
extends g ok [] n vals p stack s [] b h = record {
  rest = [];
  obeyed = tt;
  read_off = ap (λ (l : List ℤ). l ∷ []) (b.values ∙ ap (λ (l : List ℤ). read (point_of l) p.here) (sym (append-nil vals)));
}
extends g ok [] n vals p stack s (t ∷ more) b h = absurd h
extends g ok (a ∷ w) n vals p stack s [] b h = absurd h
extends g ok (a ∷ w) n vals p stack s (t ∷ more) b h =
    by_kind a.kind stack b h (λ vals p stack t b h. extends g ok w (suc n) vals p stack t more b h)
  where
    by_kind : (kind : Kind) (stack : List Situation) → Built vals p stack s →
        Leads (meaning (alphabet_of g)) kind a stack s t (λ st. GoesThrough (meaning (alphabet_of g)) st t w more) →
        ((vals : List ℤ) (p : PathStage) (stack : List Situation) (t : Situation) → Built vals p stack t → GoesThrough (meaning (alphabet_of g)) stack t w more →
        Extends (alphabet_of g) (suc n) vals p t more w) →
        Extends (alphabet_of g) n vals p s (t ∷ more) (a ∷ w)
    by_kind Inside stack b h on =
        let d = inside_letter (alphabet_of g) a vals p stack s t b (act_of (alphabet_of g) a) refl h.0 in
        extended (alphabet_of g) n a w vals p stack stack s t more b d (on (vals ++ d.added) (part_of (alphabet_of g) a p).after stack t d.built h.1)
    by_kind Call stack b h on =
        let d = call_letter g ok a vals p stack s t b (act_of (alphabet_of g) a) refl h.0 in
        extended (alphabet_of g) n a w vals p stack (s ∷ stack) s t more b d (on (vals ++ d.added) (part_of (alphabet_of g) a p).after (s ∷ stack) t d.built h.1)
    by_kind Back [] b h on = absurd h
    by_kind Back (c ∷ stack) b h on =
        let d = back_letter (alphabet_of g) a vals p stack c s t b (act_of (alphabet_of g) a) refl h.0 in
        extended (alphabet_of g) n a w vals p (c ∷ stack) stack s t more b d (on (vals ++ d.added) (part_of (alphabet_of g) a p).after stack t d.built h.1)

-- the versions at the start have the values of a state
pub first_read : (vals rest : List ℤ) (n : ℕ) → length vals ≡ n → vals ≡ read (point_of (vals ++ rest)) (columns_from 0 n)
first_read vals rest n l = sym (read_new [] vals rest 0 n refl l)

pub built_first : (frame : Columns) (s : Situation) → length s.values ≡ length frame → Built s.values (first_stage frame) [] s
built_first frame s l = record {
  long = sym l;
  values = subst (λ (v : List ℤ). s.values ≡ read (point_of v) (columns_from 0 (length frame))) (append-nil s.values) (first_read s.values [] (length frame) l);
  below = below_columns 0 (length frame) (length frame) (omega arith);
  saved = tt;
}
