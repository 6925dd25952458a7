-- The clauses of a procedure hold where what is known at the nodes of its frames does.
use Rattle.std.proofs.Common.{◌≡◌, ◌∙◌, ℕ, ℤ, Bool, true, false, not, List, [], ◌∷◌, map, length, refl, sym, ap, arith}
use Rattle.std.specs.Prelude.{◌&&◌, ◌||◌, nat_lt, if◌then◌else◌}
use Rattle.std.specs.List.{list_any, list_all, flat_map, AllByRecursion}
use Rattle.std.proofs.lemmas.Bool.{and_from, or_parts, ltb-false, leb-true, false≢true}
use Rattle.std.proofs.lemmas.List.Folds.{list_all-append}
use Rattle.boogie_tree.specs.declared.tree.VarInfo.{VarInfo}
use Rattle.boogie_tree.specs.declared.tree.Op.TheVariants as ops
use Rattle.boogie_tree.specs.Tree.{Expression}
use Rattle.letter_acts.specs.Frames.{IsFrame}
use Rattle.triple_rows.specs.Predicates.{Formula}
use Rattle.explained_proof.specs.BuiltExpressions.Building.{operation, old_of}
use Rattle.explained_proof.specs.BuiltExpressions.Members.{Conjuncts, joined, clauses_of, is_always}
use Rattle.explained_proof.specs.BuiltExpressions.Laws.{all_hold}
use Rattle.explained_proof.proofs.BuiltExpressions.TruthLaws.{joined_holds, clauses_hold}
use Rattle.explained_proof.specs.declared.row_expressions.scopes.Position.{Position}
use Rattle.explained_proof.specs.declared.row_expressions.scopes.Position.TheVariants.{Requires}
use Rattle.explained_proof.specs.RowExpressions.Scopes.{ClauseScope, is_requires, is_of_entry, may_change}
use Rattle.explained_proof.specs.RowExpressions.Worth.{row_holds}
use Rattle.explained_proof.specs.FactExpressions.Facts.{Facts}
use Rattle.explained_proof.specs.FactExpressions.Disjunctions.{either_of_all}
use Rattle.explained_proof.specs.FactExpressions.Conclusions.{facts_said}
use Rattle.explained_proof.specs.FactExpressions.Worth.{formula_holds, facts_hold, begins_with_or, IsAt}
use Rattle.explained_proof.proofs.FactExpressions.Truths.{any_map}
use Rattle.explained_proof.proofs.FactExpressions.FactWorth.{same_rows}
use Rattle.explained_proof.proofs.FactExpressions.OrderWorth.{either_holds}
use Rattle.explained_proof.proofs.FactExpressions.SaidWorth.{cases_pass, either_cases, alternatives_conclude, premises_implied}
use Rattle.explained_proof.specs.declared.clauses.Entered.{Entered}
use Rattle.explained_proof.specs.Known.{Known, known_at}
use Rattle.explained_proof.specs.Clauses.{KnownProcedure, scope, known_at_one, row_names_changing, names_changing, premise_said, under_facts, holding_for}
use Rattle.explained_proof.specs.Worth.{is_known, IsShallow, RequirementsHold, IsState, IsFollowed, ClausesHold}
use Rattle.explained_proof.proofs.KnownWorth.{node_cases, node_deep}
use Rattle.explained_proof.proofs.FrameWorth.{olds_of_globals, mixed, mixed_entry, mixed_same, mixed_columns, entry_values}

-- ---- what is known at one of several nodes

cases_of : (k : Known) (ns : List ℕ) → list_all (cases_pass begins_with_or) (map (known_at k) ns) ≡ true
cases_of k [] = refl
cases_of k (n ∷ ns) = and_from (cases_pass begins_with_or (known_at k n)) (list_all (cases_pass begins_with_or) (map (known_at k) ns)) (node_cases k n) (cases_of k ns)

known_one : (worth : Expression → ℤ) (holds : Expression → Bool) (s : ClauseScope) (point : ℕ → ℤ) (k : Known) (ns : List ℕ) → IsAt worth holds s point → s.premise ≡ false →
    list_any (is_known k point) ns ≡ true → all_hold holds (known_at_one k s ns) ≡ true
known_one worth holds s point k ns is_at premise h =
    let c = either_cases begins_with_or (map (known_at k) ns) (cases_of k ns) in
    alternatives_conclude worth holds s point (either_of_all (map (known_at k) ns)) is_at premise (record { shared = c.shared; rests = c.rests })
    (either_holds point (map (known_at k) ns) ∙ any_map (facts_hold point) (known_at k) ns ∙ h)

-- ---- what is required

pub requirements_true : RequirementsHold
requirements_true worth holds q point is_at h =
    clauses_hold holds is_at.reading.truths (known_at_one q.known (scope q Requires false) (map (λ e. e.node) q.entries)) ∙
    known_one worth holds (scope q Requires false) point q.known (map (λ e. e.node) q.entries) is_at refl (any_map (is_known q.known point) (λ e. e.node) q.entries ∙ h)

-- ---- premises

always_true : (holds : Expression → Bool) (m : Conjuncts) → is_always m ≡ true → all_hold holds m ≡ true
always_true holds m h = by m.never m.said h
  where
    by : (b : Bool) (es : List Expression) → is_always (record { never = b; said = es }) ≡ true → all_hold holds (record { never = b; said = es }) ≡ true
    by true es k = absurd (false≢true k)
    by false [] k = refl
    by false (e ∷ es) k = let l = leb-true (length (e ∷ es)) 0 k in absurd (omega (arith, l))

-- facts that name nothing that changes are rows whose columns do not
record Unchanging (s : ClauseScope) (c : Facts) : Type 0 where
  rows : list_any (row_names_changing s) c.rows ≡ false
  cases : c.cases ≡ []

unchanging : (s : ClauseScope) (c : Facts) → names_changing s c ≡ false → Unchanging s c
unchanging s c h =
    let a = or_parts (list_any (row_names_changing s) c.rows) (nat_lt 0 (length c.cases)) h in
    record { rows = a.0; cases = none c.cases a.1 }
  where
    none : (fs : List Formula) → nat_lt 0 (length fs) ≡ false → fs ≡ []
    none [] k = refl
    none (f ∷ fs) k = let l = ltb-false 0 (length (f ∷ fs)) k in absurd (omega (arith, l))

-- facts that name nothing that changes hold at both points or at none
same_facts : (s : ClauseScope) (p q : ℕ → ℤ) (c : Facts) → ((n : ℕ) → may_change s n ≡ false → p n ≡ q n) → names_changing s c ≡ false → facts_hold p c ≡ facts_hold q c
same_facts s p q c f h =
    let u = unchanging s c h in
    ap (λ b. not c.never && (b && list_all (formula_holds p) c.cases)) (same_rows p q (may_change s) c.rows f u.rows) ∙
    ap (λ fs. not c.never && (list_all (λ r. row_holds q r false) c.rows && list_all (formula_holds p) fs)) u.cases ∙
    sym (ap (λ fs. not c.never && (list_all (λ r. row_holds q r false) c.rows && list_all (formula_holds q) fs)) u.cases)

not_requires : (position : Position) (q : KnownProcedure) → is_requires position ≡ false → is_of_entry (scope q position false) ≡ true → ⊥
not_requires position q h k = false≢true (sym h ∙ k)

module _ (worth : Expression → ℤ) (holds : Expression → Bool) (old_worth : Expression → ℤ) (old_holds : Expression → Bool) (globals : List VarInfo) (q : KnownProcedure) (position : Position)
    (place : ℕ) (now was : ℕ → ℤ) (frame : IsFrame globals q.frame) (shallow : IsShallow q.known) (where_told : is_requires position ≡ false)
    (state : IsState worth holds old_worth old_holds q position now was) where
  abbrev premises : ClauseScope
  premises = scope q position true

  abbrev plain : ClauseScope
  plain = scope q position false

  at_now : IsAt worth holds plain now
  at_now = record { reading = state.reading; columns = state.columns; entry = λ e n. absurd (not_requires position q where_told e) }

  at_entry : IsAt old_worth old_holds premises was
  at_entry = record { reading = state.old_reading; columns = state.old_columns; entry = λ e n. entry_values q position now was state.entered n }

  abbrev then_now : ℕ → ℤ
  then_now = mixed q position worth holds now was (olds_of_globals globals q.frame frame) state.entered

  at_both : IsAt worth holds premises then_now
  at_both = record {
    reading = state.reading;
    columns = mixed_columns q position worth holds now was (olds_of_globals globals q.frame frame) state.entered state.columns state.old_columns.bounded;
    entry = λ e n. mixed_entry q position worth holds now was (olds_of_globals globals q.frame frame) state.entered n;
  }

  -- what a premise says at the entry is known at its node there
  known_then : (n : ℕ) → all_hold old_holds (facts_said premises (known_at q.known n)) ≡ true → is_known q.known was n ≡ true
  known_then n h = premises_implied old_worth old_holds premises was (known_at q.known n) at_entry refl (node_deep q.known n shallow) h

  -- and so is what it says now, where it names nothing that changes
  known_since : (n : ℕ) → names_changing premises (known_at q.known n) ≡ false → all_hold holds (facts_said premises (known_at q.known n)) ≡ true → is_known q.known was n ≡ true
  known_since n e h =
      sym (same_facts premises then_now was (known_at q.known n) (λ m k. mixed_same q position worth holds now was (olds_of_globals globals q.frame frame) state.entered m k) e) ∙
      premises_implied worth holds premises then_now (known_at q.known n) at_both refl (node_deep q.known n shallow) h

  said_known : (n : ℕ) (b : Bool) → names_changing premises (known_at q.known n) ≡ b →
      holds (if b then old_of (joined (facts_said premises (known_at q.known n))) else joined (facts_said premises (known_at q.known n))) ≡ true → is_known q.known was n ≡ true
  said_known n true e h =
      known_then n (sym (joined_holds old_holds state.old_reading.truths (facts_said premises (known_at q.known n))) ∙ sym (state.olds (joined (facts_said premises (known_at q.known n)))) ∙ h)
  said_known n false e h = known_since n e (sym (joined_holds holds state.reading.truths (facts_said premises (known_at q.known n))) ∙ h)

  -- ---- conclusions under premises

  if_said : (a b : Bool) → (a ≡ true → b ≡ true) → (not a || b) ≡ true
  if_said true b f = f refl
  if_said false b f = refl

  under_holds : (n : ℕ) (never always : Bool) (conclusion : Conjuncts) → is_always (facts_said premises (known_at q.known n)) ≡ always →
      (is_known q.known was n ≡ true → all_hold holds conclusion ≡ true) →
      list_all holds (if never then [] else (if always then clauses_of conclusion
      else operation ops.Implies (premise_said premises (known_at q.known n) (facts_said premises (known_at q.known n))) (joined conclusion) ∷ [])) ≡ true
  under_holds n true always conclusion e f = refl
  under_holds n false true conclusion e f =
      clauses_hold holds state.reading.truths conclusion ∙ f (known_then n (always_true old_holds (facts_said premises (known_at q.known n)) e))
  under_holds n false false conclusion e f =
      let said = premise_said premises (known_at q.known n) (facts_said premises (known_at q.known n)) in
      and_from (holds (operation ops.Implies said (joined conclusion))) true
      (state.reading.conclusions said (joined conclusion) ∙
      if_said (holds said) (holds (joined conclusion))
      (λ k. joined_holds holds state.reading.truths conclusion ∙ f (said_known n (names_changing premises (known_at q.known n)) refl k)))
      refl

  for_holds : (e : Entered) (nothing premise : Bool) (conclusion : Conjuncts) → e.is_premise ≡ premise → ((premise ≡ true → is_known q.known was e.node ≡ true) → all_hold holds conclusion ≡ true) →
      list_all holds (if nothing then [] else (if premise then under_facts premises (known_at q.known e.node) conclusion else clauses_of conclusion)) ≡ true
  for_holds e true premise conclusion i f = refl
  for_holds e false true conclusion i f =
      under_holds e.node (facts_said premises (known_at q.known e.node)).never (is_always (facts_said premises (known_at q.known e.node))) conclusion refl (λ k. f (λ p. k))
  for_holds e false false conclusion i f = clauses_hold holds state.reading.truths conclusion ∙ f (λ p. absurd (false≢true p))

  entry_holds : (e : Entered) → IsFollowed q.known place now was e → list_all holds (holding_for q position place e) ≡ true
  entry_holds e followed =
      let conclusion = known_at_one q.known plain (q.known.standing place e.node) in
      for_holds e (is_always conclusion) e.is_premise conclusion refl
      (λ k. known_one worth holds plain now q.known (q.known.standing place e.node) at_now refl (followed k))

  entries_hold : (es : List Entered) → AllByRecursion (IsFollowed q.known place now was) es → list_all holds (flat_map (holding_for q position place) es) ≡ true
  entries_hold [] h = refl
  entries_hold (e ∷ es) h =
      list_all-append holds (holding_for q position place e) (flat_map (holding_for q position place) es) ∙
      and_from (list_all holds (holding_for q position place e)) (list_all holds (flat_map (holding_for q position place) es)) (entry_holds e h.0) (entries_hold es h.1)

pub clauses_true : ClausesHold
clauses_true worth holds old_worth old_holds globals q position place now was frame shallow told state followed =
    entries_hold worth holds old_worth old_holds globals q position place now was frame shallow told state q.entries followed
