-- A tree that is put down for a triple cuts where the refutation has own cuts, and these are at columns of the triple's system.
use Rattle.std.proofs.Common.{◌≡◌, ◌∙◌, ◌⊎◌, inl, inr, ℕ, zero, suc, ◌+◌, ◌<◌, ◌≤◌, Bool, true, false, List, [], ◌∷◌, ◌++◌, length, refl, sym, ap, subst, arith, Option, None, Some}
use Rattle.std.specs.List.{AllByRecursion}
use Rattle.farkas_check.specs.Nodes.{PlainNode}
use Rattle.farkas_check.specs.Trees.{Tree, Trees, leaf_tree, cut_tree, cases_tree, no_tree, one_more, prefix_of, prefixes_of}
use Rattle.nwa_base.specs.declared.letters.Letter.{Letter}
use Rattle.nwa_base.specs.Automata.{IsAutomaton}
use Rattle.nwa_base.specs.Acceptance.{Accepts}
use Rattle.letter_acts.specs.Frames.{Columns}
use Rattle.letter_acts.specs.Acts.{PlainAct, inside_act, call_act, back_act, Alphabet, act_of, frame_of}
use Rattle.letter_acts.specs.Invariant.{Graph, IsGraph, alphabet_of, inside_width, call_width}
use Rattle.path_rows.specs.Paths.{start_frame}
use Rattle.nested_itp.specs.NestedPredicates.Stamps.{column_stamp, stamps_of}
use Rattle.nested_itp.specs.NestedPredicates.Positions.{has_return, Position}
use Rattle.nested_itp.specs.NestedPredicates.Sums.{Branch, root_of}
use Rattle.nested_itp.specs.NestedRefutations.Refutations.{side_of, TreeSpot, low_side, high_side, truth_in, formula_at, Claim, Asked, one_part, both_parts, some_part, asked_at, View, Gathered, taken_at, Meeting, own_cut, told_by, meeting_of, Stop, at_leaf, at_cut, at_group, nowhere, followed, stop_at, stops, stops_at, with_own, opened}
use Rattle.nested_itp.specs.NestedRefutations.Numbers.{Step, inside_step, call_step, back_step, Reading, position_here, read_on, OpenCall, steps_back, step_by, steps_along, steps_of, begins, AreCutsAt}
use Rattle.nested_itp.specs.NestedRefutations.Walked.{AfterMembers, gaps_of, false_row, IsWalked, AreWalked, TakesOr}
use Rattle.nested_itp.specs.NestedRefutations.Cuts.{WalkedCuts}
use Rattle.triple_rows.specs.Cuts.{inside_columns, call_columns, back_columns, columns_of, IsCutWithin}
use Rattle.letter_acts.specs.Widths.{back_width}
use Rattle.nested_itp.proofs.NestedRefutations.WayLaws.{is_own_meeting, is_own}
use Rattle.nested_itp.proofs.NestedRefutations.VersionLaws.{columns_count}
use Rattle.nested_itp.proofs.NestedRefutations.ReadLaws.{IsEarly}
use Rattle.nested_itp.proofs.NestedRefutations.WordLaws.{HaveGlobals, global_count}
use Rattle.nested_itp.proofs.NestedRefutations.AlongLaws.{first_reading, Along, along_start, along_next}
use Rattle.nested_itp.proofs.NestedRefutations.InsideAtLaws.{inside_at, inside_to_is}
use Rattle.nested_itp.proofs.NestedRefutations.InsideColumnLaws.{InsideLetter, frame_in, step_in, view_in, column_old, long_in, names_count, column_past}
use Rattle.nested_itp.proofs.NestedRefutations.CallAtLaws.{call_at, call_to_is}
use Rattle.nested_itp.proofs.NestedRefutations.CallColumnLaws.{CallLetter, caller_in, callee_in, width, made, call_step_in, call_view, caller_long, callee_long}
use Rattle.nested_itp.proofs.NestedRefutations.CallCutLaws.{low_of, call_own, MadeAt, before_it, as_local, as_helper, as_old, behind_it, made_at, column_local, column_helper, column_old_in}
use Rattle.nested_itp.proofs.NestedRefutations.OpenLaws.{Stacked, stacked_start, stacked_next}
use Rattle.nested_itp.proofs.NestedRefutations.BackAtLaws.{BackAt, back_at, back_to_is, back_step_at}
use Rattle.nested_itp.proofs.NestedRefutations.BackColumnLaws.{BackLetter, m_of, n_of, w_of, back_step_in, back_view}
use Rattle.nested_itp.proofs.NestedRefutations.BackCutLaws.{no_column}
use Rattle.nested_itp.proofs.NestedRefutations.BackBeginLaws.{at_return}
use Rattle.nested_itp.proofs.NestedRefutations.QuietLaws.{Quiet, quiet_start, quiet_next}

all_joined : {X : Type 0} (P : X → Type 0) (xs ys : List X) → AllByRecursion P xs → AllByRecursion P ys → AllByRecursion P (xs ++ ys)
all_joined P [] ys h k = k
all_joined P (x ∷ xs) ys h k = (h.0, all_joined P xs ys h.1 k)

-- ---- own cuts

-- each own cut is at one of so many columns
abbrev OwnWithin : View → ℕ → Type 0
OwnWithin v n = (col : ℕ) → col < length v.columns → is_own v (column_stamp v.columns col) ≡ true → v.column col < n

abbrev StopWithin : View → ℕ → Stop → Type 0
StopWithin v n (at_leaf m b parts) = Unit {0}
StopWithin v n (at_cut r col k low high) = (v.column col < n) × AreCutsAt (length v.columns) low.tree × AreCutsAt (length v.columns) high.tree
StopWithin v n (at_group s) = AreCutsAt (length v.columns) s.tree
StopWithin v n nowhere = Unit {0}

side_within : (v : View) (n : ℕ) (side : Bool) (low high : Stop) → StopWithin v n low → StopWithin v n high → StopWithin v n (side_of side low high)
side_within v n false low high f g = f
side_within v n true low high f g = g

followed_within : (v : View) (n : ℕ) (a : Asked) (member : Option Bool) (s : TreeSpot) (low high : Stop) → AreCutsAt (length v.columns) s.tree → StopWithin v n low → StopWithin v n high →
    StopWithin v n (followed a member s low high)
followed_within v n (one_part side) member s low high h f g = side_within v n side low high f g
followed_within v n both_parts member s low high h f g = f
followed_within v n some_part None s low high h f g = h
followed_within v n some_part (Some side) s low high h f g = side_within v n side low high f g

meeting_within : (v : View) (n : ℕ) (m : Meeting) (follow : ℕ → Claim → Stop) (cut : Stop) → ((i : ℕ) (c : Claim) → StopWithin v n (follow i c)) → (is_own_meeting m ≡ true → StopWithin v n cut) →
    StopWithin v n (stop_at m follow cut)
meeting_within v n own_cut follow cut f g = g refl
meeting_within v n (told_by i c) follow cut f g = f i c

stops_within : (v : View) (n : ℕ) → OwnWithin v n → (taken : List (ℕ × ℕ × Bool)) (m : ℕ) (b : Branch) (t : Tree) → AreCutsAt (length v.columns) t → StopWithin v n (stops v taken m b t)
stops_within v n own taken m b (leaf_tree parts) h = tt
stops_within v n own taken m b (cut_tree col k t u) h =
    let stamp : ℕ = column_stamp v.columns col in
    let low : TreeSpot = low_side v.columns m b col k t in
    let high : TreeSpot = high_side v.columns m b col k t u in
    let s : TreeSpot = record { node = m; branch = b; tree = cut_tree col k t u } in
    let to_low : Stop = stops v taken low.node low.branch t in
    let to_high : Stop = stops v taken high.node high.branch u in
    let at_low : StopWithin v n to_low = stops_within v n own taken low.node low.branch t h.1 in
    let at_high : StopWithin v n to_high = stops_within v n own taken high.node high.branch u h.2 in
    meeting_within v n (meeting_of v.returns 0 v.claims stamp)
    (λ i c. followed (asked_at c stamp (truth_in (formula_at v.columns c low.branch t)) (truth_in (formula_at v.columns c high.branch u))) (taken_at i m taken) s to_low to_high)
    (at_cut (length b.rows) col k low high)
    (λ i c. followed_within v n (asked_at c stamp (truth_in (formula_at v.columns c low.branch t)) (truth_in (formula_at v.columns c high.branch u))) (taken_at i m taken) s to_low to_high h at_low at_high)
    (λ e. (own col h.0 e, h.1, h.2))
stops_within v n own taken m b (cases_tree ts) h = tt

-- ---- the cuts of a tree that is put down

abbrev CutsWithin : ℕ → List PlainNode → Type 0
CutsWithin n = AllByRecursion (IsCutWithin n)

after_within : (v : View) (n : ℕ) → OwnWithin v n → (s : TreeSpot) (first second : Option Gathered) → AreCutsAt (length v.columns) s.tree → {X : Type 0} → (walked : List (Gathered × Stop) → Type 0) →
    ((ps : List (Gathered × Stop)) → AllByRecursion (λ p. StopWithin v n p.1) ps → walked ps → X) → AfterMembers v s first second walked → X
after_within v n own s None second cuts walked f h = absurd h
after_within v n own s (Some g) None cuts walked f h = absurd h
after_within v n own s (Some g) (Some x) cuts walked f h =
    f ((g, stops_at v g.taken s) ∷ (x, stops_at v x.taken s) ∷ [])
    (stops_within v n own g.taken s.node s.branch s.tree cuts, (stops_within v n own x.taken s.node s.branch s.tree cuts, tt)) h

mutual
  walked_within : (v : View) (n : ℕ) → OwnWithin v n → (found : Tree) (g : Gathered) (stop : Stop) → StopWithin v n stop → IsWalked v found g stop → CutsWithin n (prefix_of found)
  walked_within v n own (leaf_tree parts) g stop w h = (tt, tt)
  walked_within v n own (cut_tree c k t u) g (at_leaf m b parts) w h = absurd h
  walked_within v n own (cut_tree c k t u) g (at_cut r col j low high) w h = (
    subst (λ (x : ℕ). x < n) (sym h.0) w.0,
    all_joined (IsCutWithin n) (prefix_of t) (prefix_of u)
        (walked_within v n own t (with_own v r col j false g) (stops_at v g.taken low) (stops_within v n own g.taken low.node low.branch low.tree w.1) h.2)
        (walked_within v n own u (with_own v r col j true g) (stops_at v g.taken high) (stops_within v n own g.taken high.node high.branch high.tree w.2) h.3),
  )
  walked_within v n own (cut_tree c k t u) g (at_group s) w h = absurd h
  walked_within v n own (cut_tree c k t u) g nowhere w h = absurd h
  walked_within v n own (cases_tree ts) g (at_leaf m b parts) w h = absurd h
  walked_within v n own (cases_tree ts) g (at_cut r col j low high) w h = absurd h
  walked_within v n own (cases_tree ts) g (at_group s) w h =
      (tt, after_within v n own s (opened v false g g.groups) (opened v true g g.groups) w (AreWalked v ts) (each_within v n own ts) h)
  walked_within v n own (cases_tree ts) g nowhere w h = absurd h

  each_within : (v : View) (n : ℕ) → OwnWithin v n → (ts : Trees) (ps : List (Gathered × Stop)) → AllByRecursion (λ p. StopWithin v n p.1) ps → AreWalked v ts ps → CutsWithin n (prefixes_of ts)
  each_within v n own no_tree ps w h = tt
  each_within v n own (one_more t ts) [] w h = absurd h
  each_within v n own (one_more t ts) (p ∷ ps) w h =
      all_joined (IsCutWithin n) (prefix_of t) (prefixes_of ts) (walked_within v n own t p.0 p.1 w.0 h.0) (each_within v n own ts ps w.1 h.1)

-- ---- own cuts of the letters of a word

below_or_past : (a b : ℕ) → (a < b) ⊎ (b ≤ a)
below_or_past a zero = inr (omega arith)
below_or_past zero (suc b) = inl (omega arith)
below_or_past (suc a) (suc b) = up (below_or_past a b)
  where
    up : (a < b) ⊎ (b ≤ a) → (suc a < suc b) ⊎ (suc b ≤ suc a)
    up (inl l) = inl (omega (arith, l))
    up (inr l) = inr (omega (arith, l))

not_past : (a b : ℕ) → (b ≤ a → ⊥) → a < b
not_past a b f = by_place (below_or_past a b)
  where
    by_place : (a < b) ⊎ (b ≤ a) → a < b
    by_place (inl l) = l
    by_place (inr l) = absurd (f l)

not_both : (x : Bool) → x ≡ true → x ≡ false → ⊥
not_both true e f = absurd (cc)
not_both false e f = absurd (cc)

inside_own : (c : InsideLetter) → OwnWithin (view_in c) (inside_width (frame_in c) c.written c.helpers)
inside_own c col l own =
    let names = names_count c in
    let long = long_in c in
    not_past ((view_in c).column col) (inside_width (frame_in c) c.written c.helpers) (λ h. column_past c ((view_in c).column col) (omega (arith, names, long, h)) col l own refl)

early_low : (returns : Bool) (letters s : ℕ) → IsEarly letters s → 0 < letters → s < suc (low_of returns letters)
early_low true letters s (two, inl e) n = omega (arith, e)
early_low true letters s (two, inr e) n = omega (arith, e)
early_low false letters s (two, inl e) n = omega (arith, e, n)
early_low false letters s (two, inr e) n = omega (arith, e)

call_own_within : (c : CallLetter) → OwnWithin (call_view c) (call_width (caller_in c) (callee_in c) c.helpers)
call_own_within c col l own = by_made (made_at c col l)
  where
    by_begun : col < made c → IsEarly c.r.letters (column_stamp (call_view c).columns col) → ((c.r ≡ first_reading c.g) × (caller_in c ≡ start_frame c.g)) ⊎ (0 < c.r.letters) →
        (call_view c).column col < call_width (caller_in c) (callee_in c) c.helpers
    by_begun b e (inl f) =
        let place : (call_view c).column col ≡ col = column_old (made c) col _ b in
        let wide : made c ≡ width c = ap (λ (y : Reading). y.stage.made) f.0 ∙ sym (ap (λ (y : Reading). length y.stage.here) f.0 ∙ columns_count 0 (length (start_frame c.g))) in
        let long = caller_long c in
        omega (arith, place, wide, long, b)
    by_begun b e (inr n) =
        absurd (not_both (is_own (call_view c) (column_stamp (call_view c).columns col)) own
        ((call_own c (column_stamp (call_view c).columns col)).0 (early_low (has_return 0 c.rest) c.r.letters (column_stamp (call_view c).columns col) e n)))

    by_made : MadeAt c col (column_stamp (call_view c).columns col) → (call_view c).column col < call_width (caller_in c) (callee_in c) c.helpers
    by_made (before_it b e) = by_begun b e c.at.begun
    by_made (as_local i b e s) =
        let place = column_local c col i e b in
        let long = caller_long c in
        let more = callee_long c in
        omega (arith, place, long, more, b)
    by_made (as_helper i b e s) =
        let place = column_helper c col i e b in
        let long = caller_long c in
        let more = callee_long c in
        omega (arith, place, long, more, b)
    by_made (as_old i b e s) =
        let place = column_old_in c col i e b in
        let long = caller_long c in
        let more = callee_long c in
        omega (arith, place, long, more, b)
    by_made (behind_it b s) =
        absurd (not_both (is_own (call_view c) (column_stamp (call_view c).columns col)) own ((call_own c (column_stamp (call_view c).columns col)).2 (omega (arith, s))))

back_own_within : (c : BackLetter) → OwnWithin (back_view c) (m_of c + n_of c + w_of c + c.call.helpers)
back_own_within c col l own =
    not_past ((back_view c).column col) (m_of c + n_of c + w_of c + c.call.helpers)
    (λ h. no_column c ((back_view c).column col) (inr (omega (arith, h), inr h)) col l own refl)

-- ---- along a word

-- of a step's triple
record HasOwn (g : Graph) (w : List Letter) (t : Tree) (s : Step) : Type 0 where
  columns : s.view.columns ≡ (stamps_of g w).columns
  own : OwnWithin s.view (columns_of (alphabet_of g) s.triple)

inside_has : (c : InsideLetter) → HasOwn c.g c.w c.t (step_in c)
inside_has c = record {
  columns = refl;
  own = subst (OwnWithin (view_in c)) (sym (ap (inside_columns (alphabet_of c.g)) c.at.there)) (inside_own c);
}

call_has : (c : CallLetter) → HasOwn c.g c.w c.t (call_step_in c)
call_has c = record {
  columns = refl;
  own = subst (OwnWithin (call_view c)) (sym (ap (call_columns (alphabet_of c.g)) c.at.there)) (call_own_within c);
}

back_has : (c : BackLetter) → HasOwn c.call.g c.call.w c.call.t (back_step_in c)
back_has c = record {
  columns = refl;
  own = subst (OwnWithin (back_view c))
      (sym (ap (back_columns (alphabet_of c.call.g)) c.there ∙ ap (back_width (alphabet_of c.call.g) c.targets) c.call_there)) (back_own_within c);
}

-- the step of a return, at its open call
back_letter : (g : Graph) (globals : ℕ) (w : List Letter) (t : Tree) (r : Reading) (a : Letter) (rest : List Letter) (targets : List ℕ) (h : BackAt g globals w r a rest targets) →
    HasOwn g w t (back_step_at g w t r a h.call h.scopes h.open_at.caller h.open_at.callee h.open_at.helpers h.open_at.rows targets h.before) →
    AllByRecursion (HasOwn g w t) (step_by g w t a.id (act_of (alphabet_of g) a) rest r (position_here (read_on (alphabet_of g) a rest r)))
back_letter g globals w t r a rest targets h has =
    let al : Alphabet = alphabet_of g in
    let f1 : Columns = frame_of al h.open_at.caller in
    let f2 : Columns = frame_of al h.open_at.callee in
    subst (λ (act : Option PlainAct). AllByRecursion (HasOwn g w t) (step_by g w t a.id act rest r (position_here (read_on (alphabet_of g) a rest r)))) (sym h.act_is)
    (subst (λ (act : Option PlainAct). AllByRecursion (HasOwn g w t) (steps_back g w t a.id targets r.calls (position_here r) (position_here (read_on (alphabet_of g) a rest r)) act)) (sym h.call_there)
    (subst (λ (calls : List OpenCall). AllByRecursion (HasOwn g w t) (steps_back g w t a.id targets calls (position_here r) (position_here (read_on (alphabet_of g) a rest r))
    (Some (call_act h.open_at.caller h.open_at.callee h.open_at.helpers h.open_at.rows)))) (sym h.calls_are)
    (subst (λ (to : Position). HasOwn g w t (back_step g w t a.id h.call (position_here r) to f1 f2 h.open_at.helpers h.open_at.rows targets)) (sym (back_to_is g globals w r a rest targets h)) has, tt)))

letter_has : (g : Graph) → IsGraph g → (globals : ℕ) → HaveGlobals g globals → (w : List Letter) (t : Tree) (r : Reading) (a : Letter) (rest : List Letter) →
    Along g globals w r (a ∷ rest) → Stacked g globals w r (a ∷ rest) → Quiet g globals w r → (act : Option PlainAct) → act_of (alphabet_of g) a ≡ act →
    AllByRecursion (HasOwn g w t) (step_by g w t a.id act rest r (position_here (read_on (alphabet_of g) a rest r)))
letter_has g ok globals have w t r a rest h stack quiet None e = tt
letter_has g ok globals have w t r a rest h stack quiet (Some (inside_act q written helpers rows)) e =
    let at = inside_at g ok globals w r a rest h q written helpers rows e in
    let c : InsideLetter = record { g = g; globals = globals; w = w; t = t; r = r; a = a; rest = rest; q = q; written = written; helpers = helpers; rows = rows; at = at } in
    let step : Position → Step = λ to. inside_step g w t a.id (suc r.letters) r.rows r.stage.made (position_here r) to (frame_of (alphabet_of g) q) written helpers rows in
    (subst (λ (to : Position). HasOwn g w t (step to)) (sym (inside_to_is g globals w r a rest q written helpers rows at)) (inside_has c), tt)
letter_has g ok globals have w t r a rest h stack quiet (Some (call_act caller callee helpers rows)) e =
    let at = call_at g ok globals w r a rest h caller callee helpers rows e in
    let c : CallLetter = record { g = g; globals = globals; w = w; t = t; r = r; a = a; rest = rest; caller = caller; callee = callee; helpers = helpers; rows = rows; at = at } in
    let step : Position → Step = λ to.
    call_step g w t a.id (suc r.letters) r.rows r.stage.made (has_return 0 rest) (position_here r) to (frame_of (alphabet_of g) caller) (frame_of (alphabet_of g) callee) helpers rows in
    (subst (λ (to : Position). HasOwn g w t (step to)) (sym (call_to_is g globals w r a rest caller callee helpers rows at)) (call_has c), tt)
letter_has g ok globals have w t r a rest h stack quiet (Some (back_act c targets)) e =
    let at : BackAt g globals w r a rest targets = back_at g ok globals w r a rest h stack c targets e in
    subst (λ (act : Option PlainAct). AllByRecursion (HasOwn g w t) (step_by g w t a.id act rest r (position_here (read_on (alphabet_of g) a rest r)))) e
    (back_letter g globals w t r a rest targets at (at_return HasOwn back_has g ok globals have w t r a rest targets at quiet))

letters_have : (g : Graph) → IsGraph g → (globals : ℕ) → HaveGlobals g globals → (w : List Letter) (t : Tree) (rest : List Letter) (r : Reading) →
    Along g globals w r rest → Stacked g globals w r rest → Quiet g globals w r → AllByRecursion (HasOwn g w t) (steps_along g w t r rest)
letters_have g ok globals have w t [] r h stack quiet = tt
letters_have g ok globals have w t (a ∷ rest) r h stack quiet =
    let next : Reading = read_on (alphabet_of g) a rest r in
    all_joined (HasOwn g w t) (step_by g w t a.id (act_of (alphabet_of g) a) rest r (position_here next)) (steps_along g w t next rest)
    (letter_has g ok globals have w t r a rest h stack quiet (act_of (alphabet_of g) a) refl)
    (letters_have g ok globals have w t rest next (along_next g ok globals w r a rest h) (stacked_next g ok globals have w r a rest h stack) (quiet_next g ok globals have w r a rest h stack quiet))

step_cuts : (g : Graph) (w : List Letter) (t : Tree) (s : Step) → AreCutsAt (length (stamps_of g w).columns) t → HasOwn g w t s → WalkedCuts g w t s
step_cuts g w t s cuts has found = by_row (false_row g w t s.view 0 (gaps_of (alphabet_of g) s.triple) s.view.claims)
  where
    by_row : (o : Option ℕ) → TakesOr o found (IsWalked s.view found (begins g w t s) (stops s.view [] 0 (root_of g w) t)) → CutsWithin (columns_of (alphabet_of g) s.triple) (prefix_of found)
    by_row (Some k) down = subst (λ (x : Tree). CutsWithin (columns_of (alphabet_of g) s.triple) (prefix_of x)) (sym down) (tt, tt)
    by_row None walked =
        let n : ℕ = columns_of (alphabet_of g) s.triple in
        walked_within s.view n has.own found (begins g w t s) (stops s.view [] 0 (root_of g w) t)
        (stops_within s.view n has.own [] 0 (root_of g w) t (subst (λ (l : List ℕ). AreCutsAt (length l) t) (sym has.columns) cuts)) walked

all_from : {X : Type 0} (P Q : X → Type 0) → ((x : X) → P x → Q x) → (xs : List X) → AllByRecursion P xs → AllByRecursion Q xs
all_from P Q f [] h = tt
all_from P Q f (x ∷ xs) h = (f x h.0, all_from P Q f xs h.1)

pub steps_cut : (g : Graph) (w : List Letter) (t : Tree) → IsGraph g → IsAutomaton g.automaton → Accepts g.automaton w → AreCutsAt (length (stamps_of g w).columns) t →
    AllByRecursion (WalkedCuts g w t) (steps_of g w t)
steps_cut g w t ok m acc cuts =
    let n = global_count g ok in
    all_from (HasOwn g w t) (WalkedCuts g w t) (λ s has. step_cuts g w t s cuts has) (steps_of g w t)
    (letters_have g ok n.0 n.1 w t w (first_reading g) (along_start g ok m n.0 n.1 w acc) (stacked_start g n.0 w acc) (quiet_start g n.0 w))
