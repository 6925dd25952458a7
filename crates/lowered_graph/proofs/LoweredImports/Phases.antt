-- The steps of a call without body, one after the other: a choice for each value that is kept, one step for each ensures, and the writing.
use Rattle.std.proofs.Common.{◌≡◌, inl, inr, ℕ, zero, suc, ◌+◌, ◌-◌, ◌<◌, ◌≤◌, ℤ, pos, negsuc, Bool, true, false, nat_lt, List, [], ◌∷◌, ◌++◌, map, length, take, drop, Option, None, Some, slice_get, refl, sym, ap, subst, ◌∙◌, arith, append_assoc, if◌then◌else◌}
use Rattle.std.specs.List.{AllByRecursion}
use Rattle.std.proofs.lemmas.Bool.{false≢true}
use Rattle.std.proofs.lemmas.Bool.Decides.{nat_tests}
use Rattle.math_facts.specs.Optional.{or_zero}
use Rattle.boogie_tree.specs.declared.tree.Ty.{Ty}
use Rattle.boogie_tree.specs.declared.tree.Ty.TheVariants as types
use Rattle.boogie_tree.specs.declared.tree.Column.{Column}
use Rattle.boogie_tree.specs.declared.tree.Column.TheVariants as columns
use Rattle.boogie_tree.specs.declared.tree.VarInfo.{VarInfo}
use Rattle.typed_tree.specs.TypedTree.{TypedExpression, TypedInvariant, TypedProgram}
use Rattle.typed_tree.specs.Values.{value}
use Rattle.letter_acts.specs.Frames.{IsValue}
use Rattle.boogie_run.specs.BoogiePoints.Points.{Point, settled, past_first}
use Rattle.boogie_run.specs.BoogiePoints.Actions as actions
use Rattle.boogie_run.specs.BoogiePoints.Actions.{Action, next_part, ensured_conditions, chosen_columns, results_from, unseen_action, action_at}
use Rattle.boogie_run.specs.BoogiePoints.Starts.{targets_at}
use Rattle.boogie_run.specs.Configurations.{Config}
use Rattle.boogie_run.specs.Needs.{Truth, need_of_type, need_of, need_of_column, need_of_action, is_taken, locals_at}
use Rattle.boogie_run.specs.Steps.{Outcome, Went, Blocked, Failed, Refused, written, all_written, moved_to, kept_on, kept_to, granted_state, finished, is_true, act, step, all_put, modifies_of}
use Rattle.boogie_run.specs.Runs.{then_goes_on, run}
use Rattle.lowered_graph.specs.LoweredSteps.Moves.{HasTypes}
use Rattle.lowered_graph.specs.LoweredImports.Imports.{IsModified, later, IsKnownImport, AreGlobalValues, keeping, none_for}

-- ---- lists

append_none : {X : Type 0} (xs : List X) → xs ++ [] ≡ xs
append_none [] = refl
append_none {X} (x ∷ xs) = ap (λ (ys : List X). x ∷ ys) (append_none xs)

get_past : {X : Type 0} (xs : List X) (n : ℕ) → length xs ≤ n → slice_get xs n ≡ None
get_past [] n h = refl
get_past (x ∷ xs) zero h = absurd (omega arith)
get_past (x ∷ xs) (suc n) h = get_past xs n (omega arith)

-- ---- values that a column takes

pub taken_by_type : (ty : Ty) (z : ℤ) → IsValue ty z → is_taken (need_of_type ty) (Some z) ≡ true
taken_by_type types.Int z h = refl
taken_by_type types.Bool z (inl e) = ap (λ (x : ℤ). is_taken Truth (Some x)) e
taken_by_type types.Bool z (inr e) = ap (λ (x : ℤ). is_taken Truth (Some x)) e

below_of : (a b : ℕ) → nat_lt a b ≡ true → a < b
below_of a b h = grind (arith, nat_tests)

truth_taken : (k : ℕ) → nat_lt k 2 ≡ true → IsValue types.Bool (pos k)
truth_taken zero h = inl refl
truth_taken (suc zero) h = inr refl
truth_taken (suc (suc k)) h = let less : suc (suc k) < 2 = below_of (suc (suc k)) 2 h in absurd (omega arith)

pub type_by_taken : (ty : Ty) (z : ℤ) → is_taken (need_of_type ty) (Some z) ≡ true → IsValue ty z
type_by_taken types.Int z h = tt
type_by_taken types.Bool (pos k) h = truth_taken k h
type_by_taken types.Bool (negsuc k) h = absurd (false≢true h)

none_of_type : (ty : Ty) → is_taken (need_of_type ty) None ≡ true → ⊥
none_of_type types.Int h = false≢true h
none_of_type types.Bool h = false≢true h

none_of : (o : Option VarInfo) → is_taken (need_of o) None ≡ true → ⊥
none_of None h = false≢true h
none_of (Some v) h = none_of_type v.ty h

-- a column takes a value, and no want of one
none_taken : (gs ls : List VarInfo) (c : Column) → is_taken (need_of_column gs ls c) None ≡ true → ⊥
none_taken gs ls (columns.Global n) h = none_of (slice_get gs n) h
none_taken gs ls (columns.Old n) h = none_of (slice_get gs n) h
none_taken gs ls (columns.Local n) h = none_of (slice_get ls n) h

-- each column takes its value
abbrev pub AreTakenBy : List VarInfo → List VarInfo → List Column → List ℤ → Type 0
AreTakenBy gs ls [] [] = Unit {0}
AreTakenBy gs ls [] (z ∷ zs) = ⊥
AreTakenBy gs ls (c ∷ cs) [] = ⊥
AreTakenBy gs ls (c ∷ cs) (z ∷ zs) = (is_taken (need_of_column gs ls c) (Some z) ≡ true) × AreTakenBy gs ls cs zs

pub taken_length : (gs ls : List VarInfo) (cs : List Column) (zs : List ℤ) → AreTakenBy gs ls cs zs → length zs ≡ length cs
taken_length gs ls [] [] h = refl
taken_length gs ls [] (z ∷ zs) h = absurd h
taken_length gs ls (c ∷ cs) [] h = absurd h
taken_length gs ls (c ∷ cs) (z ∷ zs) h = ap suc (taken_length gs ls cs zs h.1)

-- a member, with those behind it
record IsCut (vs : List VarInfo) (n : ℕ) : Type 0 where
  info : VarInfo
  is : slice_get vs n ≡ Some info
  cut : drop n vs ≡ info ∷ drop (suc n) vs

cut_at : (vs : List VarInfo) (n : ℕ) → n < length vs → IsCut vs n
cut_at [] n h = absurd (omega arith)
cut_at (v ∷ vs) zero h = record { info = v; is = refl; cut = refl }
cut_at (v ∷ vs) (suc n) h = let r = cut_at vs n (omega arith) in record { info = r.info; is = r.is; cut = r.cut }

pub results_taken : (gs ls : List VarInfo) (n k : ℕ) (zs : List ℤ) → n + k ≤ length ls → HasTypes (take k (drop n ls)) zs → AreTakenBy gs ls (results_from n k) zs
results_taken gs ls n zero [] l h = tt
results_taken gs ls n zero (z ∷ zs) l h = absurd h
results_taken gs ls n (suc k) zs l h =
    let r : IsCut ls n = cut_at ls n (omega arith) in
    of_cut r.info zs (λ ys g. results_taken gs ls (suc n) k ys (omega arith) g) r.is (subst (λ (vs : List VarInfo). HasTypes (take (suc k) vs) zs) r.cut h)
  where
    of_cut : (v : VarInfo) (zs : List ℤ) → ((ys : List ℤ) → HasTypes (take k (drop (suc n) ls)) ys → AreTakenBy gs ls (results_from (suc n) k) ys) → slice_get ls n ≡ Some v →
        HasTypes (take (suc k) (v ∷ drop (suc n) ls)) zs → AreTakenBy gs ls (results_from n (suc k)) zs
    of_cut v [] again e g = absurd g
    of_cut v (z ∷ zs) again e g =
        let next : suc n ≡ n + 1 = omega arith in (
          ap (λ (o : Option VarInfo). is_taken (need_of o) (Some z)) e ∙ taken_by_type v.ty z g.0,
          subst (λ (m : ℕ). AreTakenBy gs ls (results_from m k) zs) next (again zs g.1),
        )

pub taken_results : (gs ls : List VarInfo) (n k : ℕ) (zs : List ℤ) → n + k ≤ length ls → AreTakenBy gs ls (results_from n k) zs → HasTypes (take k (drop n ls)) zs
taken_results gs ls n zero [] l h = tt
taken_results gs ls n zero (z ∷ zs) l h = absurd h
taken_results gs ls n (suc k) [] l h = absurd h
taken_results gs ls n (suc k) (z ∷ zs) l h =
    let r : IsCut ls n = cut_at ls n (omega arith) in
    let next : n + 1 ≡ suc n = omega arith in
    let rest : HasTypes (take k (drop (suc n) ls)) zs = taken_results gs ls (suc n) k zs (omega arith) (subst (λ (m : ℕ). AreTakenBy gs ls (results_from m k) zs) next h.1) in
    let first : IsValue r.info.ty z = type_by_taken r.info.ty z (ap (λ (o : Option VarInfo). is_taken (need_of o) (Some z)) (sym r.is) ∙ h.0) in
    subst (λ (vs : List VarInfo). HasTypes (take (suc k) vs) (z ∷ zs)) (sym r.cut) (first, rest)

pub globals_taken : (gs ls : List VarInfo) (ns : List ℕ) (cs : List Column) (zs ys : List ℤ) → AreGlobalValues gs ns zs → AreTakenBy gs ls cs ys →
    AreTakenBy gs ls (map columns.Global ns ++ cs) (zs ++ ys)
globals_taken gs ls [] cs [] ys h k = k
globals_taken gs ls [] cs (z ∷ zs) ys h k = absurd h
globals_taken gs ls (n ∷ ns) cs [] ys h k = absurd h
globals_taken gs ls (n ∷ ns) cs (z ∷ zs) ys h k = (
  ap (λ (o : Option VarInfo). is_taken (need_of o) (Some z)) h.0.1 ∙ taken_by_type h.0.0.ty z h.0.2,
  globals_taken gs ls ns cs zs ys h.1 k,
)

-- values that are taken, as those of globals and others
pub record AreParted (gs ls : List VarInfo) (ns : List ℕ) (cs : List Column) (zs : List ℤ) : Type 0 where
  pub held : List ℤ
  pub rest : List ℤ
  pub parts : zs ≡ held ++ rest
  pub typed : AreGlobalValues gs ns held
  pub taken : AreTakenBy gs ls cs rest

pub taken_parts : (t : TypedProgram) (ls : List VarInfo) (ns : List ℕ) (cs : List Column) (zs : List ℤ) → AllByRecursion (IsModified t) ns →
    AreTakenBy t.globals ls (map columns.Global ns ++ cs) zs → AreParted t.globals ls ns cs zs
taken_parts t ls [] cs zs m h = record { held = []; rest = zs; parts = refl; typed = tt; taken = h }
taken_parts t ls (n ∷ ns) cs [] m h = absurd h
taken_parts t ls (n ∷ ns) cs (z ∷ zs) m h =
    let r = taken_parts t ls ns cs zs m.1 h.1 in
    record {
      held = z ∷ r.held;
      rest = r.rest;
      parts = ap (λ (ys : List ℤ). z ∷ ys) r.parts;
      typed = ((m.0.info, m.0.is, type_by_taken m.0.info.ty z (ap (λ (o : Option VarInfo). is_taken (need_of o) (Some z)) (sym m.0.is) ∙ h.0)), r.typed);
      taken = r.taken;
    }

-- ---- steps

-- all constants, globals and locals are chosen
pub record IsFull (t : TypedProgram) (c : Config) : Type 0 where
  pub globals : nat_lt (length c.globals) (length t.globals) ≡ false
  pub locals : nat_lt (length c.top.locals) (length (locals_at t c.top.proc)) ≡ false

-- then a step is the action of the point, with a choice that it takes
pub step_acts : (t : TypedProgram) (c : Config) (choice : Option ℤ) (a : Action) → IsFull t c → action_at t c.top.proc c.top.point ≡ a →
    step t c choice ≡ (if is_taken (need_of_action t c.top.proc a) choice then act t c (or_zero choice) a else Refused)
step_acts t c choice a f e =
    let g : nat_lt (length c.globals) (length t.globals) ≡ false = f.globals in
    let l : nat_lt (length c.top.locals) (length (locals_at t c.top.proc)) ≡ false = f.locals in
    rw (g, l, e) refl

taken_step : (t : TypedProgram) (c d : Config) (choice : Option ℤ) (a : Action) → IsFull t c → action_at t c.top.proc c.top.point ≡ a →
    is_taken (need_of_action t c.top.proc a) choice ≡ true → act t c (or_zero choice) a ≡ Went d → step t c choice ≡ Went d
taken_step t c d choice a f e h g = step_acts t c choice a f e ∙ ap (λ (b : Bool). if b then act t c (or_zero choice) a else Refused) h ∙ g

step_goes : (t : TypedProgram) (c d : Config) (choice : Option ℤ) (choices : List (Option ℤ)) → step t c choice ≡ Went d → run t c (choice ∷ choices) ≡ run t d choices
step_goes t c d choice choices e = ap (λ (o : Outcome). then_goes_on o (λ x. run t x choices)) e

-- where a run fails later on, its first choice is taken
taken_back : (t : TypedProgram) (c : Config) (choice : Option ℤ) (choices : List (Option ℤ)) (a : Action) (i : ℕ) → IsFull t c → action_at t c.top.proc c.top.point ≡ a →
    run t c (choice ∷ choices) ≡ Failed i →
    (is_taken (need_of_action t c.top.proc a) choice ≡ true) × (then_goes_on (act t c (or_zero choice) a) (λ d. run t d choices) ≡ Failed i)
taken_back t c choice choices a i f e h =
    by_test (is_taken (need_of_action t c.top.proc a) choice) refl (sym (ap (λ (o : Outcome). then_goes_on o (λ x. run t x choices)) (step_acts t c choice a f e)) ∙ h)
  where
    by_test : (b : Bool) → is_taken (need_of_action t c.top.proc a) choice ≡ b → then_goes_on (if b then act t c (or_zero choice) a else Refused) (λ d. run t d choices) ≡ Failed i →
        (is_taken (need_of_action t c.top.proc a) choice ≡ true) × (then_goes_on (act t c (or_zero choice) a) (λ d. run t d choices) ≡ Failed i)
    by_test true e g = (e, g)
    by_test false e g = absurd (cc)

-- ---- phases

-- so many parts of the point of the frame that runs are done, and these values are kept
abbrev pub phase : Config → ℕ → List ℤ → Config
phase c m ys = record c { top = record c.top { point = later c.top.point m; kept = ys } }

phase_is : (c : Config) (m n : ℕ) (ys zs : List ℤ) → m ≡ n → ys ≡ zs → phase c m ys ≡ phase c n zs
phase_is c m n ys zs e g = λ i. phase c (e i) (g i)

pub first_phase : (c : Config) → c.top.kept ≡ [] → phase c 0 [] ≡ c
first_phase c e =
    let z : c.top.point.part + 0 ≡ c.top.point.part = omega arith in
    let k : [] ≡ c.top.kept = sym e in
    λ i. record c { top = record c.top { point = record c.top.point { part = z i }; kept = k i } }

next_phase : (c : Config) (m : ℕ) (ys : List ℤ) (z : ℤ) → kept_to (phase c m ys) z (next_part (later c.top.point m)) ≡ phase c (suc m) (ys ++ z ∷ [])
next_phase c m ys z =
    let e : c.top.point.part + m + 1 ≡ c.top.point.part + suc m = omega arith in
    λ i. record c { top = record c.top { point = record c.top.point { part = e i }; kept = ys ++ z ∷ [] } }

next_granted : (c : Config) (m : ℕ) (ys : List ℤ) → kept_on (phase c m ys) (next_part (later c.top.point m)) ≡ phase c (suc m) ys
next_granted c m ys =
    let e : c.top.point.part + m + 1 ≡ c.top.point.part + suc m = omega arith in
    λ i. record c { top = record c.top { point = record c.top.point { part = e i }; kept = ys } }

-- what is written does not depend on the point
moved_written : (c : Config) (p : Point) (ks : List ℤ) (xs : List Column) (zs : List ℤ) (q : Point) →
    moved_to (all_written (record c { top = record c.top { point = p; kept = ks } }) xs zs) q ≡ moved_to (all_written c xs zs) q
moved_written c p ks [] zs q = refl
moved_written c p ks (x ∷ xs) [] q = refl
moved_written c p ks (columns.Global n ∷ xs) (z ∷ zs) q = moved_written (written c (columns.Global n) z) p ks xs zs q
moved_written c p ks (columns.Old n ∷ xs) (z ∷ zs) q = moved_written c p ks xs zs q
moved_written c p ks (columns.Local n ∷ xs) (z ∷ zs) q = moved_written (written c (columns.Local n) z) p ks xs zs q

module _ (t : TypedProgram) (c : Config) (f : ℕ) (args : List TypedExpression) (k : IsKnownImport t c.top.proc c.top.point f args) (full : IsFull t c) where
  abbrev chosen : List Column
  chosen = chosen_columns k.procedure

  abbrev ensured : List TypedInvariant
  ensured = ensured_conditions k.procedure.specs

  abbrev targets : List Column
  targets = targets_at c.top.point.todo

  abbrev behind : Point
  behind = settled (past_first t.procs c.top.point.todo)

  abbrev part_action : ℕ → Option Column → Option TypedInvariant → Action
  part_action m o i = unseen_action o i f targets args (later c.top.point m) behind

  full_at : (m : ℕ) (ys : List ℤ) → IsFull t (phase c m ys)
  full_at m ys = record { globals = full.globals; locals = full.locals }

  keep_at : (m : ℕ) (x : Column) → slice_get chosen m ≡ Some x → action_at t c.top.proc (later c.top.point m) ≡ actions.Keep f args x (next_part (later c.top.point m))
  keep_at m x e = k.acts m ∙ ap (λ (o : Option Column). part_action m o (slice_get ensured (m - length chosen))) e

  none_chosen : (j : ℕ) → action_at t c.top.proc (later c.top.point (length chosen + j)) ≡ part_action (length chosen + j) None (slice_get ensured j)
  none_chosen j =
      let a : slice_get chosen (length chosen + j) ≡ None = get_past chosen (length chosen + j) (omega arith) in
      let b : (length chosen + j) - length chosen ≡ j = omega arith in
      k.acts (length chosen + j) ∙ ap (λ (o : Option Column). part_action (length chosen + j) o (slice_get ensured ((length chosen + j) - length chosen))) a
      ∙ ap (λ (m : ℕ). part_action (length chosen + j) None (slice_get ensured m)) b

  grant_at : (j : ℕ) (i : TypedInvariant) → slice_get ensured j ≡ Some i →
      action_at t c.top.proc (later c.top.point (length chosen + j)) ≡ actions.Grant f args i.cond (next_part (later c.top.point (length chosen + j)))
  grant_at j i e = none_chosen j ∙ ap (λ (o : Option TypedInvariant). part_action (length chosen + j) None o) e

  finish_at : action_at t c.top.proc (later c.top.point (length chosen + length ensured)) ≡ actions.Finish f args targets behind
  finish_at =
      let a : slice_get ensured (length ensured) ≡ None = get_past ensured (length ensured) (omega arith) in
      none_chosen (length ensured) ∙ ap (λ (o : Option TypedInvariant). part_action (length chosen + length ensured) None o) a

  -- ---- from the whole to the steps

  pub keeps : (cs : List Column) (zs : List ℤ) (m : ℕ) (ys : List ℤ) (rest : List (Option ℤ)) → ((i : ℕ) → slice_get chosen (m + i) ≡ slice_get cs i) →
      AreTakenBy t.globals (locals_at t f) cs zs → run t (phase c m ys) (map Some zs ++ rest) ≡ run t (phase c (m + length zs) (ys ++ zs)) rest
  keeps [] [] m ys rest stands h =
      let e : m ≡ m + 0 = omega arith in
      ap (λ (x : Config). run t x rest) (phase_is c m (m + 0) ys (ys ++ []) e (sym (append_none ys)))
  keeps [] (z ∷ zs) m ys rest stands h = absurd h
  keeps (x ∷ cs) [] m ys rest stands h = absurd h
  keeps (x ∷ cs) (z ∷ zs) m ys rest stands h =
      let none : m ≡ m + 0 = omega arith in
      let here : slice_get chosen m ≡ Some x = ap (slice_get chosen) none ∙ stands 0 in
      let goes : step t (phase c m ys) (Some z) ≡ Went (kept_to (phase c m ys) z (next_part (later c.top.point m))) =
      taken_step t (phase c m ys) (kept_to (phase c m ys) z (next_part (later c.top.point m))) (Some z) (actions.Keep f args x (next_part (later c.top.point m))) (full_at m ys) (keep_at m x here) h.0 refl in
      let more : (i : ℕ) → slice_get chosen (suc m + i) ≡ slice_get cs i = (λ i. let e : suc m + i ≡ m + suc i = omega arith in ap (slice_get chosen) e ∙ stands (suc i)) in
      let counted : suc m + length zs ≡ m + suc (length zs) = omega arith in
      step_goes t (phase c m ys) (kept_to (phase c m ys) z (next_part (later c.top.point m))) (Some z) (map Some zs ++ rest) goes
      ∙ ap (λ (x : Config). run t x (map Some zs ++ rest)) (next_phase c m ys z)
      ∙ keeps cs zs (suc m) (ys ++ z ∷ []) rest more h.1
      ∙ ap (λ (x : Config). run t x rest) (phase_is c (suc m + length zs) (m + suc (length zs)) ((ys ++ z ∷ []) ++ zs) (ys ++ z ∷ zs) counted (append_assoc ys (z ∷ []) zs))

  pub grants : (is : List TypedInvariant) (j : ℕ) (news : List ℤ) (rest : List (Option ℤ)) → ((i : ℕ) → slice_get ensured (j + i) ≡ slice_get is i) →
      AllByRecursion (λ i. is_true (value (granted_state t (keeping c news) f args) i.cond) ≡ true) is →
      run t (phase c (length chosen + j) news) (none_for is ++ rest) ≡ run t (phase c (length chosen + (j + length is)) news) rest
  grants [] j news rest stands h =
      let e : length chosen + j ≡ length chosen + (j + 0) = omega arith in
      ap (λ (x : Config). run t x rest) (phase_is c (length chosen + j) (length chosen + (j + 0)) news news e refl)
  grants (i ∷ is) j news rest stands h =
      let m : ℕ = length chosen + j in
      let none : j ≡ j + 0 = omega arith in
      let here : slice_get ensured j ≡ Some i = ap (slice_get ensured) none ∙ stands 0 in
      let goes : step t (phase c m news) None ≡ Went (kept_on (phase c m news) (next_part (later c.top.point m))) =
      taken_step t (phase c m news) (kept_on (phase c m news) (next_part (later c.top.point m))) None (actions.Grant f args i.cond (next_part (later c.top.point m))) (full_at m news) (grant_at j i here) refl
      (ap (λ (b : Bool). if b then Went (kept_on (phase c m news) (next_part (later c.top.point m))) else Blocked) h.0) in
      let more : (n : ℕ) → slice_get ensured (suc j + n) ≡ slice_get is n = (λ n. let e : suc j + n ≡ j + suc n = omega arith in ap (slice_get ensured) e ∙ stands (suc n)) in
      let next : suc m ≡ length chosen + suc j = omega arith in
      let counted : length chosen + (suc j + length is) ≡ length chosen + (j + suc (length is)) = omega arith in
      step_goes t (phase c m news) (kept_on (phase c m news) (next_part (later c.top.point m))) None (none_for is ++ rest) goes
      ∙ ap (λ (x : Config). run t x (none_for is ++ rest)) (next_granted c m news ∙ phase_is c (suc m) (length chosen + suc j) news news next refl)
      ∙ grants is (suc j) news rest more h.1
      ∙ ap (λ (x : Config). run t x rest) (phase_is c (length chosen + (suc j + length is)) (length chosen + (j + suc (length is))) news news counted refl)

  abbrev written_base : List ℤ → Config
  written_base news = record (keeping c news) { globals = all_put c.globals (modifies_of (slice_get t.procs f)) news }

  finished_same : (m : ℕ) (news : List ℤ) → moved_to (finished t (phase c m news) f targets) behind ≡ moved_to (finished t (keeping c news) f targets) behind
  finished_same m news = moved_written (written_base news) (later c.top.point m) news targets (drop (length (modifies_of (slice_get t.procs f))) news) behind

  pub finishes : (news : List ℤ) (rest : List (Option ℤ)) →
      run t (phase c (length chosen + length ensured) news) (None ∷ rest) ≡ run t (moved_to (finished t (keeping c news) f targets) behind) rest
  finishes news rest =
      let m : ℕ = length chosen + length ensured in
      let d : Config = moved_to (finished t (phase c m news) f targets) behind in
      step_goes t (phase c m news) d None rest (taken_step t (phase c m news) d None (actions.Finish f args targets behind) (full_at m news) finish_at refl refl)
      ∙ ap (λ (x : Config). run t x rest) (finished_same m news)

  -- ---- and back

  -- the values that a run which fails keeps for these columns
  pub record KeptBack (cs : List Column) (m : ℕ) (ys : List ℤ) (choices : List (Option ℤ)) (i : ℕ) : Type 0 where
    pub kept : List ℤ
    pub taken : AreTakenBy t.globals (locals_at t f) cs kept
    pub rest : List (Option ℤ)
    pub fewer : length rest ≤ length choices
    pub fails : run t (phase c (m + length cs) (ys ++ kept)) rest ≡ Failed i

  pub keeps_back : (cs : List Column) (m : ℕ) (ys : List ℤ) (choices : List (Option ℤ)) (i : ℕ) → ((n : ℕ) → slice_get chosen (m + n) ≡ slice_get cs n) →
      run t (phase c m ys) choices ≡ Failed i → KeptBack cs m ys choices i
  keeps_back [] m ys choices i stands h =
      let e : m + 0 ≡ m = omega arith in
      record { kept = []; taken = tt; rest = choices; fewer = omega arith; fails = ap (λ (x : Config). run t x choices) (phase_is c (m + 0) m (ys ++ []) ys e (append_none ys)) ∙ h }
  keeps_back (x ∷ cs) m ys [] i stands h = absurd (cc)
  keeps_back (x ∷ cs) m ys (choice ∷ choices) i stands h =
      let none : m ≡ m + 0 = omega arith in
      let here : slice_get chosen m ≡ Some x = ap (slice_get chosen) none ∙ stands 0 in
      let r = taken_back t (phase c m ys) choice choices (actions.Keep f args x (next_part (later c.top.point m))) i (full_at m ys) (keep_at m x here) h in
      let more : (n : ℕ) → slice_get chosen (suc m + n) ≡ slice_get cs n = (λ n. let e : suc m + n ≡ m + suc n = omega arith in ap (slice_get chosen) e ∙ stands (suc n)) in
      by_choice choice (λ z g. keeps_back cs (suc m) (ys ++ z ∷ []) choices i more g) r.0 r.1
    where
      by_choice : (choice : Option ℤ) → ((z : ℤ) → run t (phase c (suc m) (ys ++ z ∷ [])) choices ≡ Failed i → KeptBack cs (suc m) (ys ++ z ∷ []) choices i) → is_taken (need_of_column t.globals (locals_at t f) x) choice ≡ true →
          run t (kept_to (phase c m ys) (or_zero choice) (next_part (later c.top.point m))) choices ≡ Failed i → KeptBack (x ∷ cs) m ys (choice ∷ choices) i
      by_choice None again e g = absurd (none_taken t.globals (locals_at t f) x e)
      by_choice (Some z) again e g =
          let r : KeptBack cs (suc m) (ys ++ z ∷ []) choices i = again z (ap (λ (x : Config). run t x choices) (sym (next_phase c m ys z)) ∙ g) in
          let counted : m + suc (length cs) ≡ suc m + length cs = omega arith in
          let fewer : length r.rest ≤ length choices = r.fewer in
          record {
            kept = z ∷ r.kept;
            taken = (e, r.taken);
            rest = r.rest;
            fewer = omega arith;
            fails = ap (λ (x : Config). run t x r.rest)
                (phase_is c (m + suc (length cs)) (suc m + length cs) (ys ++ z ∷ r.kept) ((ys ++ z ∷ []) ++ r.kept) counted (sym (append_assoc ys (z ∷ []) r.kept))) ∙ r.fails;
          }

  pub record GrantedBack (is : List TypedInvariant) (j : ℕ) (news : List ℤ) (choices : List (Option ℤ)) (i : ℕ) : Type 0 where
    pub granted : AllByRecursion (λ e. is_true (value (granted_state t (keeping c news) f args) e.cond) ≡ true) is
    pub rest : List (Option ℤ)
    pub fewer : length rest ≤ length choices
    pub fails : run t (phase c (length chosen + (j + length is)) news) rest ≡ Failed i

  pub grants_back : (is : List TypedInvariant) (j : ℕ) (news : List ℤ) (choices : List (Option ℤ)) (i : ℕ) → ((n : ℕ) → slice_get ensured (j + n) ≡ slice_get is n) →
      run t (phase c (length chosen + j) news) choices ≡ Failed i → GrantedBack is j news choices i
  grants_back [] j news choices i stands h =
      let e : length chosen + (j + 0) ≡ length chosen + j = omega arith in
      record { granted = tt; rest = choices; fewer = omega arith; fails = ap (λ (x : Config). run t x choices) (phase_is c (length chosen + (j + 0)) (length chosen + j) news news e refl) ∙ h }
  grants_back (e ∷ es) j news [] i stands h = absurd (cc)
  grants_back (e ∷ es) j news (choice ∷ choices) i stands h =
      let m : ℕ = length chosen + j in
      let none : j ≡ j + 0 = omega arith in
      let here : slice_get ensured j ≡ Some e = ap (slice_get ensured) none ∙ stands 0 in
      let r = taken_back t (phase c m news) choice choices (actions.Grant f args e.cond (next_part (later c.top.point m))) i (full_at m news) (grant_at j e here) h in
      let more : (n : ℕ) → slice_get ensured (suc j + n) ≡ slice_get es n = (λ n. let e : suc j + n ≡ j + suc n = omega arith in ap (slice_get ensured) e ∙ stands (suc n)) in
      by_truth (is_true (value (granted_state t (keeping c news) f args) e.cond)) (λ g. grants_back es (suc j) news choices i more g) refl r.1
    where
      by_truth : (b : Bool) → (run t (phase c (length chosen + suc j) news) choices ≡ Failed i → GrantedBack es (suc j) news choices i) → is_true (value (granted_state t (keeping c news) f args) e.cond) ≡ b →
          then_goes_on (if b then Went (kept_on (phase c (length chosen + j) news) (next_part (later c.top.point (length chosen + j)))) else Blocked) (λ d. run t d choices) ≡ Failed i →
          GrantedBack (e ∷ es) j news (choice ∷ choices) i
      by_truth false again v g = absurd (cc)
      by_truth true again v g =
          let m : ℕ = length chosen + j in
          let next : length chosen + suc j ≡ suc m = omega arith in
          let r : GrantedBack es (suc j) news choices i =
          again (ap (λ (x : Config). run t x choices) (phase_is c (length chosen + suc j) (suc m) news news next refl ∙ sym (next_granted c m news)) ∙ g) in
          let counted : length chosen + (j + suc (length es)) ≡ length chosen + (suc j + length es) = omega arith in
          let fewer : length r.rest ≤ length choices = r.fewer in
          record {
            granted = (v, r.granted);
            rest = r.rest;
            fewer = omega arith;
            fails = ap (λ (x : Config). run t x r.rest) (phase_is c (length chosen + (j + suc (length es))) (length chosen + (suc j + length es)) news news counted refl) ∙ r.fails;
          }

  pub finish_back : (news : List ℤ) (choices : List (Option ℤ)) (i : ℕ) → run t (phase c (length chosen + length ensured) news) choices ≡ Failed i →
      (rest : List (Option ℤ)) × (length rest < length choices) × (run t (moved_to (finished t (keeping c news) f targets) behind) rest ≡ Failed i)
  finish_back news [] i h = absurd (cc)
  finish_back news (choice ∷ choices) i h =
      let m : ℕ = length chosen + length ensured in
      let r = taken_back t (phase c m news) choice choices (actions.Finish f args targets behind) i (full_at m news) finish_at h in
      (choices, omega arith, ap (λ (x : Config). run t x choices) (sym (finished_same m news)) ∙ r.1)
