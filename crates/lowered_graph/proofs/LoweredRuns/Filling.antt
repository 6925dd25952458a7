-- Choices of constants, globals and locals are steps of a run, one a value.
use Rattle.std.proofs.Common.{◌≡◌, ℕ, zero, suc, ◌<◌, ◌≤◌, Bool, true, false, ℤ, List, [], ◌∷◌, ◌++◌, map, length, take, Option, Some, inl, inr, refl, sym, ap, subst, ◌∙◌, arith, append_assoc, if◌then◌else◌}
use Rattle.std.specs.Prelude.{slice_get, nat_lt}
use Rattle.std.proofs.lemmas.Bool.{cases_lt}
use Rattle.std.proofs.lemmas.Bool.Decides.{nat_tests}
use Rattle.math_facts.specs.Optional.{or_zero}
use Rattle.boogie_tree.specs.declared.tree.VarInfo.{VarInfo}
use Rattle.typed_tree.specs.TypedTree.{TypedProgram}
use Rattle.letter_acts.specs.Frames.{IsValue}
use Rattle.boogie_run.specs.BoogiePoints.Actions.{action_at}
use Rattle.boogie_run.specs.BoogiePoints.Starts.{start_point_of}
use Rattle.boogie_run.specs.Configurations.{Config}
use Rattle.boogie_run.specs.Needs.{need_of, need_of_action, is_taken, locals_at}
use Rattle.boogie_run.specs.Steps.{Outcome, Went, Refused, Failed, act, with_global, with_local, step}
use Rattle.boogie_run.specs.Runs.{then_goes_on, run}
use Rattle.lowered_graph.specs.LoweredSteps.Moves.{HasTypes, filled}
use Rattle.lowered_graph.proofs.LoweredSteps.FrameColumns.{types_length}
use Rattle.lowered_graph.proofs.LoweredSteps.WritesBack.{taken_by_type}
use Rattle.lowered_graph.proofs.LoweredSteps.Goodness.{append_none}
use Rattle.lowered_graph.proofs.LoweredRuns.Taken.{taken_value, taken_by_need}

-- ---- values so far

-- each value is of the type of its variable, and more may come
abbrev pub TypesSoFar : List VarInfo → List ℤ → Type 0
TypesSoFar [] [] = Unit {0}
TypesSoFar [] (z ∷ zs) = ⊥
TypesSoFar (v ∷ vs) [] = Unit {0}
TypesSoFar (v ∷ vs) (z ∷ zs) = IsValue v.ty z × TypesSoFar vs zs

pub none_so_far : (vs : List VarInfo) → TypesSoFar vs []
none_so_far [] = tt
none_so_far (v ∷ vs) = tt

pub all_so_far : (vs : List VarInfo) (zs : List ℤ) → HasTypes vs zs → TypesSoFar vs zs
all_so_far [] [] h = tt
all_so_far [] (z ∷ zs) h = h
all_so_far (v ∷ vs) [] h = tt
all_so_far (v ∷ vs) (z ∷ zs) h = (h.0, all_so_far vs zs h.1)

pub first_so_far : (n : ℕ) (vs : List VarInfo) (zs : List ℤ) → HasTypes (take n vs) zs → TypesSoFar vs zs
first_so_far zero vs [] h = none_so_far vs
first_so_far zero vs (z ∷ zs) h = absurd h
first_so_far (suc n) [] [] h = tt
first_so_far (suc n) [] (z ∷ zs) h = h
first_so_far (suc n) (v ∷ vs) [] h = tt
first_so_far (suc n) (v ∷ vs) (z ∷ zs) h = (h.0, first_so_far n vs zs h.1)

pub so_far_all : (vs : List VarInfo) (zs : List ℤ) → TypesSoFar vs zs → length vs ≤ length zs → HasTypes vs zs
so_far_all [] [] h l = tt
so_far_all [] (z ∷ zs) h l = h
so_far_all (v ∷ vs) [] h l = absurd (omega arith)
so_far_all (v ∷ vs) (z ∷ zs) h l = (h.0, so_far_all vs zs h.1 (omega arith))

pub so_far_more : (vs : List VarInfo) (zs : List ℤ) (v : VarInfo) (z : ℤ) → TypesSoFar vs zs → slice_get vs (length zs) ≡ Some v → IsValue v.ty z → TypesSoFar vs (zs ++ z ∷ [])
so_far_more [] [] v z h e k = absurd (cc)
so_far_more [] (y ∷ ys) v z h e k = h
so_far_more (w ∷ ws) [] v z h e k =
    let i : w ≡ v = cc in
    (subst (λ (x : VarInfo). IsValue x.ty z) (sym i) k, none_so_far ws)
so_far_more (w ∷ ws) (y ∷ ys) v z h e k = (h.0, so_far_more ws ys v z h.1 e k)

-- a variable that stands in the list
pub record IsMember (vs : List VarInfo) (n : ℕ) : Type 0 where
  pub info : VarInfo
  pub is : slice_get vs n ≡ Some info

pub member_below : (vs : List VarInfo) (n : ℕ) → n < length vs → IsMember vs n
member_below [] n l = absurd (omega arith)
member_below (v ∷ vs) zero l = record { info = v; is = refl }
member_below (v ∷ vs) (suc n) l = let h = member_below vs n (omega arith) in record { info = h.info; is = h.is }

-- the value behind others is of its type
pub record IsTypedAt (vs : List VarInfo) (n : ℕ) (z : ℤ) : Type 0 where
  pub info : VarInfo
  pub is : slice_get vs n ≡ Some info
  pub typed : IsValue info.ty z
  pub inside : n < length vs

pub typed_at : (vs : List VarInfo) (xs : List ℤ) (z : ℤ) (zs : List ℤ) → HasTypes vs (xs ++ z ∷ zs) → IsTypedAt vs (length xs) z
typed_at [] [] z zs h = absurd h
typed_at [] (x ∷ xs) z zs h = absurd h
typed_at (v ∷ vs) [] z zs h = record { info = v; is = refl; typed = h.0; inside = omega arith }
typed_at (v ∷ vs) (x ∷ xs) z zs h =
    let r = typed_at vs xs z zs h.1 in
    let l : length xs < length vs = r.inside in
    record { info = r.info; is = r.is; typed = r.typed; inside = omega arith }

-- ---- steps

below : (a b : ℕ) → a < b → nat_lt a b ≡ true
below a b h = grind (arith, nat_tests)

not_below : (a b : ℕ) → b ≤ a → nat_lt a b ≡ false
not_below a b h = grind (arith, nat_tests)

global_step : (t : TypedProgram) (c : Config) (choice : Option ℤ) → length c.globals < length t.globals →
    step t c choice ≡ (if is_taken (need_of (slice_get t.globals (length c.globals))) choice then Went (with_global c (or_zero choice)) else Refused)
global_step t c choice g = rw (below (length c.globals) (length t.globals) g)

local_step : (t : TypedProgram) (c : Config) (choice : Option ℤ) → length t.globals ≤ length c.globals → length c.top.locals < length (locals_at t c.top.proc) →
    step t c choice ≡ (if is_taken (need_of (slice_get (locals_at t c.top.proc) (length c.top.locals))) choice then Went (with_local c (or_zero choice)) else Refused)
local_step t c choice g l = rw (not_below (length c.globals) (length t.globals) g, below (length c.top.locals) (length (locals_at t c.top.proc)) l)

-- where nothing is to be chosen before it, a step is the action
pub action_step : (t : TypedProgram) (c : Config) (choice : Option ℤ) → length t.globals ≤ length c.globals → length (locals_at t c.top.proc) ≤ length c.top.locals →
    step t c choice ≡
    (if is_taken (need_of_action t c.top.proc (action_at t c.top.proc c.top.point)) choice then act t c (or_zero choice) (action_at t c.top.proc c.top.point) else Refused)
action_step t c choice g l = rw (not_below (length c.globals) (length t.globals) g, not_below (length c.top.locals) (length (locals_at t c.top.proc)) l)

pub if_true : (b : Bool) (x y : Outcome) → b ≡ true → (if b then x else y) ≡ x
if_true true x y e = refl
if_true false x y e = absurd (cc)

-- ---- locals

pub filled_none : (c : Config) → filled c [] ≡ c
filled_none c = λ i. record c { top = record c.top { locals = append_none c.top.locals i } }

pub filled_more : (c : Config) (z : ℤ) (zs : List ℤ) → filled (with_local c z) zs ≡ filled c (z ∷ zs)
filled_more c z zs = λ i. record c { top = record c.top { locals = append_assoc c.top.locals (z ∷ []) zs i } }

pub run_filled : (t : TypedProgram) (c : Config) (more : List ℤ) (rest : List (Option ℤ)) → HasTypes t.globals c.globals → HasTypes (locals_at t c.top.proc) (c.top.locals ++ more) →
    run t c (map Some more ++ rest) ≡ run t (filled c more) rest
run_filled t c [] rest g h = ap (λ (d : Config). run t d rest) (sym (filled_none c))
run_filled t c (z ∷ zs) rest g h =
    let vs : List VarInfo = locals_at t c.top.proc in
    let a : IsTypedAt vs (length c.top.locals) z = typed_at vs c.top.locals z zs h in
    let full : length c.globals ≡ length t.globals = types_length t.globals c.globals g in
    let taken : is_taken (need_of (slice_get vs (length c.top.locals))) (Some z) ≡ true =
    ap (λ (o : Option VarInfo). is_taken (need_of o) (Some z)) a.is ∙ taken_by_type a.info.ty z a.typed in
    let stepped : step t c (Some z) ≡ Went (with_local c z) =
    local_step t c (Some z) (omega arith) a.inside ∙ if_true (is_taken (need_of (slice_get vs (length c.top.locals))) (Some z)) (Went (with_local c z)) Refused taken in
    let later : HasTypes vs ((c.top.locals ++ z ∷ []) ++ zs) = subst (HasTypes vs) (sym (append_assoc c.top.locals (z ∷ []) zs)) h in
    ap (λ (o : Outcome). then_goes_on o (λ d. run t d (map Some zs ++ rest))) stepped
    ∙ run_filled t (with_local c z) zs rest g later
    ∙ ap (λ (d : Config). run t d rest) (filled_more c z zs)

-- the choices of the missing locals, and the others, which fail the assertion
pub record Filled (t : TypedProgram) (i : ℕ) (c : Config) (choices : List (Option ℤ)) : Type 0 where
  pub more : List ℤ
  pub typed : HasTypes (locals_at t c.top.proc) (c.top.locals ++ more)
  pub rest : List (Option ℤ)
  pub shorter : length rest ≤ length choices
  pub fails : run t (filled c more) rest ≡ Failed i

none_to_fill : (t : TypedProgram) (i : ℕ) (choices : List (Option ℤ)) (c : Config) → HasTypes (locals_at t c.top.proc) c.top.locals → run t c choices ≡ Failed i → Filled t i c choices
none_to_fill t i choices c h f = record {
  more = [];
  typed = subst (HasTypes (locals_at t c.top.proc)) (sym (append_none c.top.locals)) h;
  rest = choices;
  shorter = omega arith;
  fails = ap (λ (d : Config). run t d choices) (filled_none c) ∙ f;
}

one_to_fill : (t : TypedProgram) (i : ℕ) (ch : Option ℤ) (chs : List (Option ℤ)) (c : Config) (b : Bool) → TypesSoFar (locals_at t c.top.proc) c.top.locals →
    length c.top.locals < length (locals_at t c.top.proc) → is_taken (need_of (slice_get (locals_at t c.top.proc) (length c.top.locals))) ch ≡ b →
    ((d : Config) → d.globals ≡ c.globals → TypesSoFar (locals_at t d.top.proc) d.top.locals → run t d chs ≡ Failed i → Filled t i d chs) →
    then_goes_on (if b then Went (with_local c (or_zero ch)) else Refused) (λ d. run t d chs) ≡ Failed i → Filled t i c (ch ∷ chs)
one_to_fill t i ch chs c true h less taken later f =
    let vs : List VarInfo = locals_at t c.top.proc in
    let z : ℤ = or_zero ch in
    let m : IsMember vs (length c.top.locals) = member_below vs (length c.top.locals) less in
    let val : IsValue m.info.ty z = taken_value m.info.ty ch (taken_by_need (slice_get vs (length c.top.locals)) m.info ch m.is taken) in
    let r : Filled t i (with_local c z) chs = later (with_local c z) refl (so_far_more vs c.top.locals m.info z h m.is val) f in
    record {
      more = z ∷ r.more;
      typed = subst (HasTypes vs) (append_assoc c.top.locals (z ∷ []) r.more) r.typed;
      rest = r.rest;
      shorter = (let l : length r.rest ≤ length chs = r.shorter in omega arith);
      fails = ap (λ (d : Config). run t d r.rest) (sym (filled_more c z r.more)) ∙ r.fails;
    }
one_to_fill t i ch chs c false h less taken later f = absurd (cc)

pub filled_by : (t : TypedProgram) (i : ℕ) (choices : List (Option ℤ)) (c : Config) → HasTypes t.globals c.globals → TypesSoFar (locals_at t c.top.proc) c.top.locals → run t c choices ≡ Failed i →
    Filled t i c choices
filled_by t i [] c g h f = absurd (cc)
filled_by t i (ch ∷ chs) c g h f = elim (cases_lt (length c.top.locals) (length (locals_at t c.top.proc))) [
  | inl less ↦ (let full : length c.globals ≡ length t.globals = types_length t.globals c.globals g in
      one_to_fill t i ch chs c (is_taken (need_of (slice_get (locals_at t c.top.proc) (length c.top.locals))) ch) h less refl
      (λ d e k r. filled_by t i chs d (subst (HasTypes t.globals) (sym e) g) k r)
      (ap (λ (o : Outcome). then_goes_on o (λ d. run t d chs)) (sym (local_step t c ch (omega arith) less)) ∙ f))
  | inr more ↦ none_to_fill t i (ch ∷ chs) c (so_far_all (locals_at t c.top.proc) c.top.locals h more) f
]

-- ---- constants and globals

-- the start of a run behind these choices of constants and globals
abbrev pub begun : TypedProgram → List ℤ → Config
begun t zs = record {
  globals = zs;
  top = record { proc = t.entry; locals = []; entry = zs; point = start_point_of t (slice_get t.procs t.entry); kept = [] };
  below = [];
}

pub run_begun : (t : TypedProgram) (zs more : List ℤ) (rest : List (Option ℤ)) → HasTypes t.globals (zs ++ more) → run t (begun t zs) (map Some more ++ rest) ≡ run t (begun t (zs ++ more)) rest
run_begun t zs [] rest h = ap (λ (ys : List ℤ). run t (begun t ys) rest) (sym (append_none zs))
run_begun t zs (y ∷ ys) rest h =
    let vs : List VarInfo = t.globals in
    let a : IsTypedAt vs (length zs) y = typed_at vs zs y ys h in
    let taken : is_taken (need_of (slice_get vs (length zs))) (Some y) ≡ true = ap (λ (o : Option VarInfo). is_taken (need_of o) (Some y)) a.is ∙ taken_by_type a.info.ty y a.typed in
    let stepped : step t (begun t zs) (Some y) ≡ Went (begun t (zs ++ y ∷ [])) =
    global_step t (begun t zs) (Some y) a.inside ∙ if_true (is_taken (need_of (slice_get vs (length zs))) (Some y)) (Went (begun t (zs ++ y ∷ []))) Refused taken in
    let same : (zs ++ y ∷ []) ++ ys ≡ zs ++ y ∷ ys = append_assoc zs (y ∷ []) ys in
    ap (λ (o : Outcome). then_goes_on o (λ d. run t d (map Some ys ++ rest))) stepped
    ∙ run_begun t (zs ++ y ∷ []) ys rest (subst (HasTypes vs) (sym same) h)
    ∙ ap (λ (xs : List ℤ). run t (begun t xs) rest) same

-- the choices of constants and globals, and the others, which fail the assertion
pub record Begun (t : TypedProgram) (i : ℕ) : Type 0 where
  pub globals : List ℤ
  pub typed : HasTypes t.globals globals
  pub rest : List (Option ℤ)
  pub fails : run t (begun t globals) rest ≡ Failed i

one_to_begin : (t : TypedProgram) (i : ℕ) (ch : Option ℤ) (chs : List (Option ℤ)) (zs : List ℤ) (b : Bool) → TypesSoFar t.globals zs → length zs < length t.globals →
    is_taken (need_of (slice_get t.globals (length zs))) ch ≡ b → ((ys : List ℤ) → TypesSoFar t.globals ys → run t (begun t ys) chs ≡ Failed i → Begun t i) →
    then_goes_on (if b then Went (begun t (zs ++ or_zero ch ∷ [])) else Refused) (λ d. run t d chs) ≡ Failed i → Begun t i
one_to_begin t i ch chs zs true h less taken later f =
    let z : ℤ = or_zero ch in
    let m : IsMember t.globals (length zs) = member_below t.globals (length zs) less in
    let val : IsValue m.info.ty z = taken_value m.info.ty ch (taken_by_need (slice_get t.globals (length zs)) m.info ch m.is taken) in
    later (zs ++ z ∷ []) (so_far_more t.globals zs m.info z h m.is val) f
one_to_begin t i ch chs zs false h less taken later f = absurd (cc)

pub begun_by : (t : TypedProgram) (i : ℕ) (choices : List (Option ℤ)) (zs : List ℤ) → TypesSoFar t.globals zs → run t (begun t zs) choices ≡ Failed i → Begun t i
begun_by t i [] zs h f = absurd (cc)
begun_by t i (ch ∷ chs) zs h f = elim (cases_lt (length zs) (length t.globals)) [
  | inl less ↦ one_to_begin t i ch chs zs (is_taken (need_of (slice_get t.globals (length zs))) ch) h less refl (λ ys k r. begun_by t i chs ys k r)
      (ap (λ (o : Outcome). then_goes_on o (λ d. run t d chs)) (sym (global_step t (begun t zs) ch less)) ∙ f)
  | inr more ↦ record { globals = zs; typed = so_far_all t.globals zs h more; rest = ch ∷ chs; fails = f }
]
