-- The open calls of an accepted word: at each the word was read up to its letter, and what its frame keeps since then.
use Rattle.std.proofs.Common.{◌≡◌, ◌∙◌, ◌⊎◌, inl, inr, ℕ, zero, suc, ◌+◌, ◌<◌, ◌≤◌, Bool, true, false, List, [], ◌∷◌, ◌++◌, length, map, take, drop, refl, sym, ap, subst, arith, Option, None, Some}
use Rattle.std.specs.Prelude.{slice_get, slice_index, IsSomeAnd}
use Rattle.std.specs.List.{AllByRecursion}
use Rattle.boogie_tree.specs.declared.tree.Column.{Column}
use Rattle.boogie_tree.specs.declared.tree.VarInfo.{VarInfo}
use Rattle.nwa_base.specs.declared.letters.Kind.{Kind}
use Rattle.nwa_base.specs.declared.letters.Kind.TheVariants as kinds
use Rattle.nwa_base.specs.declared.letters.Letter.{Letter}
use Rattle.nwa_base.specs.Members.{Member}
use Rattle.nwa_base.specs.Acceptance.{Accepts, AcceptsFrom, Follows}
use Rattle.lin_rows.specs.Rows.{LinearRow}
use Rattle.farkas_check.specs.Trees.{leaf_tree}
use Rattle.letter_acts.specs.Frames.{Columns, IsFrame, globals_from, is_old_column, is_global, globals_of, result_columns}
use Rattle.letter_acts.specs.Acts.{PlainAct, inside_act, call_act, back_act, frame_of, act_of}
use Rattle.letter_acts.specs.Invariant.{Graph, IsGraph, alphabet_of, MayWrite, IsOld, MayTarget}
use Rattle.path_rows.specs.Versions.{Part, written_over, local_columns, old_part, returned, back_part, return_part, act_part}
use Rattle.letter_acts.specs.FrameRows.Rows.{columns_from}
use Rattle.path_rows.proofs.DifferLemmas.{index_taken, index_dropped}
use Rattle.path_rows.proofs.LayoutLemmas.{length-globals_from}
use Rattle.path_rows.proofs.EdgeLemmas.{InsideEdge, CallEdge, BackEdge, inside_acts, call_acts, back_acts}
use Rattle.nested_itp.specs.NestedPredicates.Positions.{CallScope, returned_by, has_return, callee_scope, left_scopes, scopes_after, innermost}
use Rattle.nested_itp.specs.NestedRefutations.Numbers.{OpenCall, Reading, position_here, read_on, open_after}
use Rattle.nested_itp.proofs.NestedRefutations.VersionLaws.{index_left, index_right, columns_count, split_at, written_absent}
use Rattle.nested_itp.proofs.NestedRefutations.GoneLaws.{places_within}
use Rattle.nested_itp.proofs.NestedRefutations.LayoutLaws.{layout_of}
use Rattle.nested_itp.proofs.NestedRefutations.WordLaws.{HaveGlobals}
use Rattle.nested_itp.proofs.NestedRefutations.AlongLaws.{first_reading, Along}
use Rattle.nested_itp.proofs.NestedRefutations.InsideAtLaws.{InsideAt, inside_at, scope_proc}
use Rattle.nested_itp.proofs.NestedRefutations.CallAtLaws.{CallAt, call_at, call_scope_proc, entry_of}
use Rattle.nested_itp.proofs.NestedRefutations.CallColumnLaws.{CallLetter, take_short, entry_global}

-- ---- columns that stay

-- the column is constant, or an old column
abbrev pub IsFixed : Columns → ℕ → Type 0
IsFixed frame j = IsSomeAnd (slice_get frame j) (λ v. (v.1.constant ≡ true) ⊎ (is_old_column v.0 ≡ true))

-- such columns have the versions of the entry
abbrev pub IsKept : Columns → List ℕ → List ℕ → Type 0
IsKept frame entry position_here = (j : ℕ) → IsFixed frame j → slice_index position_here j ≡ slice_index entry j

-- ---- open calls

-- a call that is open: the word read up to its letter, from a place; its scope, and the versions before it
pub record OpenAt (g : Graph) (globals : ℕ) (w : List Letter) (place : ℕ) (call : OpenCall) (scope : CallScope) (before : List ℕ) : Type 0 where
  pub reading : Reading
  pub letter : Letter
  pub rest : List Letter
  pub caller : ℕ
  pub callee : ℕ
  pub helpers : ℕ
  pub rows : List LinearRow
  pub at : CallAt g globals w reading letter rest caller callee helpers rows
  pub to : ℕ
  pub edge : Member g.automaton.calls (place, letter, to)
  pub call_is : call ≡ record { number = suc reading.letters; rows = reading.rows; made = reading.stage.made; before = position_here reading }
  pub scope_is : scope ≡ callee_scope (alphabet_of g) (suc reading.letters) callee (has_return 0 rest) (entry_of g reading callee helpers) reading.stage.here
  pub before_is : before ≡ reading.stage.here

-- The calls that are open, innermost first, each with its place, scope and versions before it. The test tells which of them return,
-- and each frame keeps its constant and old columns since its entry.
abbrev pub StackFits : Graph → ℕ → List Letter → (ℕ → Bool) → ℕ → List ℕ → List OpenCall → List CallScope → List (List ℕ) → List ℕ → Type 0
StackFits g globals w test k [] [] scopes saved position_here = (saved ≡ []) × ((s : CallScope) × (scopes ≡ s ∷ []))
StackFits g globals w test k (p ∷ places) [] scopes saved position_here = ⊥
StackFits g globals w test k [] (c ∷ calls) scopes saved position_here = ⊥
StackFits g globals w test k (p ∷ places) (c ∷ calls) [] saved position_here = ⊥
StackFits g globals w test k (p ∷ places) (c ∷ calls) (s ∷ scopes) [] position_here = ⊥
StackFits g globals w test k (p ∷ places) (c ∷ calls) (s ∷ scopes) (v ∷ saved) position_here =
    (o : OpenAt g globals w p c s v) × (has_return 0 o.rest ≡ test k) × IsKept (frame_of (alphabet_of g) o.callee) (entry_of g o.reading o.callee o.helpers) position_here ×
    (o.reading.scopes ≡ scopes) × (o.reading.stage.saved ≡ saved) × StackFits g globals w test (suc k) places calls scopes saved v

-- where the automaton is, with the calls that are open
pub record Stacked (g : Graph) (globals : ℕ) (w : List Letter) (r : Reading) (rest : List Letter) : Type 0 where
  pub places : List ℕ
  pub from : ℕ
  pub accepts : AcceptsFrom g.automaton places from rest
  pub stack : StackFits g globals w (λ k. has_return k rest) 0 places r.calls r.scopes r.stage.saved r.stage.here
  pub begun : (r.calls ≡ []) ⊎ (from ≡ 0 → ⊥)

-- another test that says the same
test_same : (g : Graph) (globals : ℕ) (w : List Letter) (test other : ℕ → Bool) (k m : ℕ) → ((i : ℕ) → test (k + i) ≡ other (m + i)) → (places : List ℕ) (calls : List OpenCall) (scopes : List CallScope)
    (saved : List (List ℕ)) (position_here : List ℕ) → StackFits g globals w test k places calls scopes saved position_here → StackFits g globals w other m places calls scopes saved position_here
test_same g globals w test other k m f [] [] scopes saved position_here h = h
test_same g globals w test other k m f (p ∷ places) [] scopes saved position_here h = absurd h
test_same g globals w test other k m f [] (c ∷ calls) scopes saved position_here h = absurd h
test_same g globals w test other k m f (p ∷ places) (c ∷ calls) [] saved position_here h = absurd h
test_same g globals w test other k m f (p ∷ places) (c ∷ calls) (s ∷ scopes) [] position_here h = absurd h
test_same g globals w test other k m f (p ∷ places) (c ∷ calls) (s ∷ scopes) (v ∷ saved) position_here h =
    let first : test k ≡ other m = ap test (let e : k ≡ k + 0 = omega arith in e) ∙ f 0 ∙ ap other (let e : m + 0 ≡ m = omega arith in e) in (
      h.0,
      h.1 ∙ first,
      h.2,
      h.3,
      h.4,
      test_same g globals w test other (suc k) (suc m)
          (λ i. ap test (let e : suc k + i ≡ k + suc i = omega arith in e) ∙ f (suc i) ∙ ap other (let e : m + suc i ≡ suc m + i = omega arith in e)) places calls scopes saved v h.5,
    )

-- other versions of the frame that keep those of the entry
here_kept : (g : Graph) (globals : ℕ) (w : List Letter) (test : ℕ → Bool) (k : ℕ) (places : List ℕ) (calls : List OpenCall) (scopes : List CallScope) (saved : List (List ℕ)) (position_here next : List ℕ) →
    ((callee : ℕ) → (innermost scopes).proc ≡ callee → (calls ≡ [] → ⊥) → (j : ℕ) → IsFixed (frame_of (alphabet_of g) callee) j → slice_index next j ≡ slice_index position_here j) →
    StackFits g globals w test k places calls scopes saved position_here → StackFits g globals w test k places calls scopes saved next
here_kept g globals w test k [] [] scopes saved position_here next f h = h
here_kept g globals w test k (p ∷ places) [] scopes saved position_here next f h = absurd h
here_kept g globals w test k [] (c ∷ calls) scopes saved position_here next f h = absurd h
here_kept g globals w test k (p ∷ places) (c ∷ calls) [] saved position_here next f h = absurd h
here_kept g globals w test k (p ∷ places) (c ∷ calls) (s ∷ scopes) [] position_here next f h = absurd h
here_kept g globals w test k (p ∷ places) (c ∷ calls) (s ∷ scopes) (v ∷ saved) position_here next f h =
    (h.0, h.1, (λ j q. f h.0.callee (ap (λ (x : CallScope). x.proc) h.0.scope_is) (λ e. some_call e) j q ∙ h.2 j q), h.3, h.4, h.5)
  where
    some_call : c ∷ calls ≡ [] → ⊥
    some_call e = absurd (cc)

-- ---- letters

-- a column that stays is none that may be written, unless old ones may
fixed_unwritten : (frame : Columns) (c : ℕ) → MayWrite frame c → (IsOld frame c → ⊥) → IsFixed frame c → ⊥
fixed_unwritten frame c m n f = by_column (slice_get frame c) m n f
  where
    clash : (z : Bool) → z ≡ true → z ≡ false → ⊥
    clash true e f = absurd (cc)
    clash false e f = absurd (cc)

    either : (v : Column × VarInfo) → v.1.constant ≡ false → (is_old_column v.0 ≡ true → ⊥) → (v.1.constant ≡ true) ⊎ (is_old_column v.0 ≡ true) → ⊥
    either v m n (inl e) = clash v.1.constant e m
    either v m n (inr e) = n e

    by_column : (o : Option (Column × VarInfo)) → IsSomeAnd o (λ v. v.1.constant ≡ false) → (IsSomeAnd o (λ v. is_old_column v.0 ≡ true) → ⊥) →
        IsSomeAnd o (λ v. (v.1.constant ≡ true) ⊎ (is_old_column v.0 ≡ true)) → ⊥
    by_column None m n f = m
    by_column (Some v) m n f = either v m n f

-- nor a target of a return
fixed_no_target : (frame : Columns) (c : ℕ) → MayTarget frame c → IsFixed frame c → ⊥
fixed_no_target frame c m f = by_column (slice_get frame c) m f
  where
    clash : (z : Bool) → z ≡ true → z ≡ false → ⊥
    clash true e f = absurd (cc)
    clash false e f = absurd (cc)

    either : (v : Column × VarInfo) → v.1.constant ≡ false → is_old_column v.0 ≡ false → (v.1.constant ≡ true) ⊎ (is_old_column v.0 ≡ true) → ⊥
    either v m n (inl e) = clash v.1.constant e m
    either v m n (inr e) = clash (is_old_column v.0) e n

    by_column : (o : Option (Column × VarInfo)) → IsSomeAnd o (λ v. (v.1.constant ≡ false) × (is_old_column v.0 ≡ false)) →
        IsSomeAnd o (λ v. (v.1.constant ≡ true) ⊎ (is_old_column v.0 ≡ true)) → ⊥
    by_column None m f = m
    by_column (Some v) m f = either v m.0 m.1 f

all_member : (P : ℕ → Type 0) (xs : List ℕ) (x : ℕ) → Member xs x → AllByRecursion P xs → P x
all_member P [] x m h = absurd m
all_member P (y ∷ xs) x (inl e) h = subst P e h.0
all_member P (y ∷ xs) x (inr m) h = all_member P xs x m h.1

-- what a letter with this act leaves
abbrev StackAfter : Graph → ℕ → List Letter → Reading → List Letter → List ℕ → Kind → Option PlainAct → Type 0
StackAfter g globals w r rest places kind o =
    StackFits g globals w (λ k. has_return k rest) 0 places (open_after o r)
    (scopes_after (alphabet_of g) (suc r.letters) kind o rest (act_part (alphabet_of g) o r.stage).after.here r.stage.here r.scopes) (act_part (alphabet_of g) o r.stage).after.saved
    (act_part (alphabet_of g) o r.stage).after.here

-- from a letter's kind and act
stack_after : (g : Graph) (globals : ℕ) (w : List Letter) (r : Reading) (a : Letter) (rest : List Letter) (places : List ℕ) (kind : Kind) (o : Option PlainAct) → a.kind ≡ kind → act_of (alphabet_of g) a ≡ o →
    StackAfter g globals w r rest places kind o →
    StackFits g globals w (λ k. has_return k rest) 0 places (read_on (alphabet_of g) a rest r).calls (read_on (alphabet_of g) a rest r).scopes (read_on (alphabet_of g) a rest r).stage.saved
    (read_on (alphabet_of g) a rest r).stage.here
stack_after g globals w r a rest places kind o k e h =
    subst (λ (x : Option PlainAct). StackAfter g globals w r rest places a.kind x) (sym e) (subst (λ (x : Kind). StackAfter g globals w r rest places x o) (sym k) h)

inside_stack : (g : Graph) → IsGraph g → (globals : ℕ) (w : List Letter) (r : Reading) (a : Letter) (rest : List Letter) → Along g globals w r (a ∷ rest) → (places : List ℕ) (from to : ℕ) →
    (x : InsideEdge g from a to) → (r.calls ≡ []) ⊎ (from ≡ 0 → ⊥) →
    StackFits g globals w (λ k. has_return k rest) 0 places r.calls r.scopes r.stage.saved r.stage.here →
    StackAfter g globals w r rest places kinds.Inside (Some (inside_act x.known.proc x.known.written x.known.helpers x.known.rows))
inside_stack g ok globals w r a rest h places from to x begun stack =
    here_kept g globals w (λ k. has_return k rest) 0 places r.calls r.scopes r.stage.saved r.stage.here (written_over r.stage.here x.known.written (columns_from r.stage.made (length x.known.written)))
    (λ callee e some j fixed. written_absent r.stage.here x.known.written (columns_from r.stage.made (length x.known.written)) j (λ m. no_write callee e some j fixed m begun)) stack
  where
    at : InsideAt g globals w r a rest x.known.proc x.known.written x.known.helpers x.known.rows
    at = inside_at g ok globals w r a rest h x.known.proc x.known.written x.known.helpers x.known.rows x.act_is

    -- the letter is of the procedure of the innermost scope
    same : (innermost r.scopes).proc ≡ x.known.proc
    same = scope_proc g ok globals w r a rest h x.known.proc x.known.written x.known.helpers x.known.rows x.act_is

    no_write : (callee : ℕ) → (innermost r.scopes).proc ≡ callee → (r.calls ≡ [] → ⊥) → (j : ℕ) → IsFixed (frame_of (alphabet_of g) callee) j → Member x.known.written j → (r.calls ≡ []) ⊎ (from ≡ 0 → ⊥) → ⊥
    no_write callee e some j fixed m (inl q) = some q
    no_write callee e some j fixed m (inr n) =
        let proc : callee ≡ x.known.proc = sym e ∙ same in
        fixed_unwritten (frame_of (alphabet_of g) x.known.proc) j (all_member (MayWrite (frame_of (alphabet_of g) x.known.proc)) x.known.written j m x.known.acted.may_write)
        (all_member (λ d. IsOld (frame_of (alphabet_of g) x.known.proc) d → ⊥) x.known.written j m (x.olds n)) (subst (λ (c : ℕ). IsFixed (frame_of (alphabet_of g) c) j) proc fixed)

call_stack : (g : Graph) → IsGraph g → (globals : ℕ) (w : List Letter) (r : Reading) (a : Letter) (rest : List Letter) → Along g globals w r (a ∷ rest) → (places : List ℕ) (from to : ℕ) →
    (x : CallEdge g from a to) → Member g.automaton.calls (from, a, to) →
    StackFits g globals w (λ k. has_return (suc k) rest) 0 places r.calls r.scopes r.stage.saved r.stage.here →
    StackAfter g globals w r rest (from ∷ places) kinds.Call (Some (call_act x.known.caller x.known.callee x.known.helpers x.known.rows))
call_stack g ok globals w r a rest h places from to x edge stack = (
  record {
    reading = r;
    letter = a;
    rest = rest;
    caller = x.known.caller;
    callee = x.known.callee;
    helpers = x.known.helpers;
    rows = x.known.rows;
    at = call_at g ok globals w r a rest h x.known.caller x.known.callee x.known.helpers x.known.rows x.act_is;
    to = to;
    edge = edge;
    call_is = refl;
    scope_is = refl;
    before_is = refl;
  },
  refl,
  (λ j q. refl),
  refl,
  refl,
  test_same g globals w (λ k. has_return (suc k) rest) (λ k. has_return k rest) 0 1 (λ i. ap (λ (n : ℕ). has_return n rest) (let e : suc (0 + i) ≡ 1 + i = omega arith in e)) places r.calls r.scopes r.stage.saved r.stage.here stack,
)

-- ---- returns

get_left : {X : Type 0} (xs ys : List X) (j : ℕ) → j < length xs → slice_get (xs ++ ys) j ≡ slice_get xs j
get_left [] ys j l = absurd (omega (arith, l))
get_left (x ∷ xs) ys zero l = refl
get_left (x ∷ xs) ys (suc j) l = get_left xs ys j (omega (arith, l))

-- the constants and globals of two frames are the same
heads_same : (infos : List VarInfo) (a b : Columns) → IsFrame infos a → IsFrame infos b → (j : ℕ) → j < length infos → slice_get a j ≡ slice_get b j
heads_same infos a b f h j l =
    let p = (layout_of infos a f).parts in
    let q = (layout_of infos b h).parts in
    let n = length-globals_from 0 infos in
    ap (λ (x : Columns). slice_get x j) p ∙ get_left (globals_from 0 infos) (old_part a ++ local_columns a) j (omega (arith, l, n)) ∙
    sym (ap (λ (x : Columns). slice_get x j) q ∙ get_left (globals_from 0 infos) (old_part b ++ local_columns b) j (omega (arith, l, n)))

-- the columns of the caller that stay have the versions that they had before the call
returned_fixed : (g : Graph) → (globals : ℕ) → HaveGlobals g globals → (w : List Letter) (place : ℕ) (call : OpenCall) (scope : CallScope) (v : List ℕ) (o : OpenAt g globals w place call scope v) (targets exit : List ℕ) →
    globals ≤ length exit → AllByRecursion (MayTarget (frame_of (alphabet_of g) o.caller)) targets → IsKept (frame_of (alphabet_of g) o.callee) (entry_of g o.reading o.callee o.helpers) exit →
    (j : ℕ) → IsFixed (frame_of (alphabet_of g) o.caller) j → slice_index (returned (frame_of (alphabet_of g) o.caller) (frame_of (alphabet_of g) o.callee) targets exit v) j ≡ slice_index v j
returned_fixed g globals have w place call scope v o targets exit long may kept j fixed =
    let n : ℕ = length (globals_of (frame_of (alphabet_of g) o.caller)) in
    written_absent (take n exit ++ drop n v) targets (map (slice_index exit) (result_columns (frame_of (alphabet_of g) o.callee))) j
    (λ m. fixed_no_target (frame_of (alphabet_of g) o.caller) j (all_member (MayTarget (frame_of (alphabet_of g) o.caller)) targets j m may) fixed) ∙
    by_place (split_at n j)
  where
    by_place : (j < length (globals_of (frame_of (alphabet_of g) o.caller))) ⊎ ((i : ℕ) × (j ≡ length (globals_of (frame_of (alphabet_of g) o.caller)) + i)) →
        slice_index (take (length (globals_of (frame_of (alphabet_of g) o.caller))) exit ++ drop (length (globals_of (frame_of (alphabet_of g) o.caller))) v) j ≡ slice_index v j
    by_place (inl l) =
        let n : ℕ = length (globals_of (frame_of (alphabet_of g) o.caller)) in
        let c : CallLetter = record { g = g; globals = globals; w = w; t = leaf_tree []; r = o.reading; a = o.letter; rest = o.rest; caller = o.caller; callee = o.callee; helpers = o.helpers; rows = o.rows; at = o.at } in
        let count : n ≡ length o.at.infos = ap (λ (l : List ℕ). length l) (layout_of o.at.infos (frame_of (alphabet_of g) o.caller) o.at.from_frame).globals ∙ columns_count 0 (length o.at.infos) in
        let all : n ≡ globals = have o.caller o.at.acted.caller_exists in
        let short = take_short n exit (omega (arith, all, long)) in
        let there : IsFixed (frame_of (alphabet_of g) o.callee) j =
        subst (λ (x : Option (Column × VarInfo)). IsSomeAnd x (λ v. (v.1.constant ≡ true) ⊎ (is_old_column v.0 ≡ true)))
        (heads_same o.at.infos (frame_of (alphabet_of g) o.caller) (frame_of (alphabet_of g) o.callee) o.at.from_frame o.at.to_frame j (omega (arith, l, count))) fixed in
        index_left (take n exit) (drop n v) j (omega (arith, l, short)) ∙ index_taken n exit j l ∙ kept j there ∙ entry_global c j (omega (arith, l, count)) ∙ ap (λ (xs : List ℕ). slice_index xs j) (sym o.before_is)
    by_place (inr h) =
        let n : ℕ = length (globals_of (frame_of (alphabet_of g) o.caller)) in
        let all : n ≡ globals = have o.caller o.at.acted.caller_exists in
        let short = take_short n exit (omega (arith, all, long)) in
        ap (slice_index (take n exit ++ drop n v)) (h.1 ∙ ap (λ (m : ℕ). m + h.0) (sym short)) ∙ index_right (take n exit) (drop n v) h.0 ∙ index_dropped n v j h.0 h.1

back_stack : (g : Graph) → IsGraph g → (globals : ℕ) → HaveGlobals g globals → (w : List Letter) (r : Reading) (a : Letter) (rest : List Letter) → Along g globals w r (a ∷ rest) → (p : ℕ) (ps : List ℕ) (from to : ℕ) →
    (x : BackEdge g from p a to) → Member g.automaton.backs (from, p, a, to) →
    StackFits g globals w (λ k. returned_by kinds.Back k (λ n. has_return n rest)) 0 (p ∷ ps) r.calls r.scopes r.stage.saved r.stage.here →
    StackAfter g globals w r rest ps kinds.Back (Some (back_act a.call x.known.targets))
back_stack g ok globals have w r a rest h p ps from to x m stack = by_lists r.calls r.scopes r.stage.saved refl refl refl stack
  where
    long : globals ≤ length r.stage.here
    long =
        let v = h.goes.comes.here in
        let a = v.versions.long in
        let b = have v.proc v.exists in
        let d = places_within is_global 0 (frame_of (alphabet_of g) v.proc) in
        omega (arith, a, b, d)

    part_is : (saved : List (List ℕ)) → r.stage.saved ≡ saved → act_part (alphabet_of g) (Some (back_act a.call x.known.targets)) r.stage ≡
        back_part (frame_of (alphabet_of g) x.known.caller) (frame_of (alphabet_of g) x.known.callee) x.known.targets r.stage.made r.stage.here saved
    part_is saved e =
        ap (λ (o : Option PlainAct). return_part (alphabet_of g) x.known.targets o r.stage) x.known.call ∙
        ap (back_part (frame_of (alphabet_of g) x.known.caller) (frame_of (alphabet_of g) x.known.callee) x.known.targets r.stage.made r.stage.here) e

    by_lists : (calls : List OpenCall) (scopes : List CallScope) (saved : List (List ℕ)) → r.calls ≡ calls → r.scopes ≡ scopes → r.stage.saved ≡ saved →
        StackFits g globals w (λ k. returned_by kinds.Back k (λ n. has_return n rest)) 0 (p ∷ ps) calls scopes saved r.stage.here →
        StackAfter g globals w r rest ps kinds.Back (Some (back_act a.call x.known.targets))
    by_lists [] scopes saved e1 e2 e3 s = absurd s
    by_lists (c ∷ calls) [] saved e1 e2 e3 s = absurd s
    by_lists (c ∷ calls) (q ∷ scopes) [] e1 e2 e3 s = absurd s
    by_lists (c ∷ calls) (q ∷ scopes) (v ∷ saved) e1 e2 e3 s =
        let o : OpenAt g globals w p c q v = s.0 in
        let id : o.letter.id ≡ a.call = ok.edges.one_call.both p from o.to to o.letter a o.edge m in
        let act : Some (call_act o.caller o.callee o.helpers o.rows) ≡ Some (call_act x.known.caller x.known.callee x.known.helpers x.known.rows) = sym o.at.there ∙ ap (slice_get g.acts) id ∙ x.known.call in
        let same_caller : o.caller ≡ x.known.caller = cc in
        let same_callee : o.callee ≡ x.known.callee = cc in
        let f1 : Columns = frame_of (alphabet_of g) o.caller in
        let f2 : Columns = frame_of (alphabet_of g) o.callee in
        let may : AllByRecursion (MayTarget f1) x.known.targets = subst (λ (n : ℕ). AllByRecursion (MayTarget (frame_of (alphabet_of g) n)) x.known.targets) (sym same_caller) x.known.acted.may_target in
        let tail = test_same g globals w (λ k. returned_by kinds.Back k (λ n. has_return n rest)) (λ k. has_return k rest) 1 0 (λ i. ap (λ (k : ℕ). returned_by kinds.Back k (λ n. has_return n rest)) (let e : 1 + i ≡ suc i = omega arith in e) ∙ ap (λ (n : ℕ). has_return n rest) (let e : i ≡ 0 + i = omega arith in e)) ps calls scopes saved v s.5 in
        let next = here_kept g globals w (λ k. has_return k rest) 0 ps calls scopes saved v (returned f1 f2 x.known.targets r.stage.here v)
        (λ callee e some j fixed. returned_fixed g globals have w p c q v o x.known.targets r.stage.here long may s.2 j
        (subst (λ (n : ℕ). IsFixed (frame_of (alphabet_of g) n) j) (sym (sym (call_scope_proc g ok globals w o.reading o.letter o.rest o.caller o.callee o.helpers o.rows o.at) ∙ ap (λ (l : List CallScope). (innermost l).proc) s.3 ∙ e)) fixed)) tail in
        let frames : returned f1 f2 x.known.targets r.stage.here v ≡ returned (frame_of (alphabet_of g) x.known.caller) (frame_of (alphabet_of g) x.known.callee) x.known.targets r.stage.here v =
        ap (λ (n : ℕ). returned (frame_of (alphabet_of g) n) f2 x.known.targets r.stage.here v) same_caller ∙
        ap (λ (n : ℕ). returned (frame_of (alphabet_of g) x.known.caller) (frame_of (alphabet_of g) n) x.known.targets r.stage.here v) same_callee in
        let calls_are : open_after (Some (back_act a.call x.known.targets)) r ≡ calls = ap (λ (cs : List OpenCall). open_after (Some (back_act a.call x.known.targets)) (record r { calls = cs })) e1 in
        let scopes_are : left_scopes r.scopes ≡ scopes = ap left_scopes e2 in
        let part = part_is (v ∷ saved) e3 in
        subst (λ (cs : List OpenCall). StackFits g globals w (λ k. has_return k rest) 0 ps cs (left_scopes r.scopes) (act_part (alphabet_of g) (Some (back_act a.call x.known.targets)) r.stage).after.saved
        (act_part (alphabet_of g) (Some (back_act a.call x.known.targets)) r.stage).after.here) (sym calls_are)
        (subst (λ (ss : List CallScope). StackFits g globals w (λ k. has_return k rest) 0 ps calls ss (act_part (alphabet_of g) (Some (back_act a.call x.known.targets)) r.stage).after.saved
        (act_part (alphabet_of g) (Some (back_act a.call x.known.targets)) r.stage).after.here) (sym scopes_are)
        (subst (λ (z : Part). StackFits g globals w (λ k. has_return k rest) 0 ps calls scopes z.after.saved z.after.here) (sym part)
        (subst (λ (l : List ℕ). StackFits g globals w (λ k. has_return k rest) 0 ps calls scopes saved l) frames next)))

-- ---- along the word

pub stacked_next : (g : Graph) → IsGraph g → (globals : ℕ) → HaveGlobals g globals → (w : List Letter) (r : Reading) (a : Letter) (rest : List Letter) → Along g globals w r (a ∷ rest) →
    Stacked g globals w r (a ∷ rest) → Stacked g globals w (read_on (alphabet_of g) a rest r) rest
stacked_next g ok globals have w r a rest h t = by_kind a.kind refl t.places t.stack t.accepts.1
  where
    by_kind : (kind : Kind) → a.kind ≡ kind → (places : List ℕ) → StackFits g globals w (λ k. returned_by kind k (λ n. has_return n rest)) 0 places r.calls r.scopes r.stage.saved r.stage.here →
        Follows g.automaton kind a places t.from t.accepts.0 (λ st. AcceptsFrom g.automaton st t.accepts.0 rest) → Stacked g globals w (read_on (alphabet_of g) a rest r) rest
    by_kind kinds.Inside k places s f =
        let x = inside_acts g ok t.from t.accepts.0 a f.0 in
        record {
          places = places;
          from = t.accepts.0;
          accepts = f.1;
          stack = stack_after g globals w r a rest places kinds.Inside (Some (inside_act x.known.proc x.known.written x.known.helpers x.known.rows)) k x.act_is
              (inside_stack g ok globals w r a rest h places t.from t.accepts.0 x t.begun s);
          begun = inr x.to;
        }
    by_kind kinds.Call k places s f =
        let x = call_acts g ok t.from t.accepts.0 a f.0 in
        record {
          places = t.from ∷ places;
          from = t.accepts.0;
          accepts = f.1;
          stack = stack_after g globals w r a rest (t.from ∷ places) kinds.Call (Some (call_act x.known.caller x.known.callee x.known.helpers x.known.rows)) k x.act_is
              (call_stack g ok globals w r a rest h places t.from t.accepts.0 x f.0 s);
          begun = inr x.to;
        }
    by_kind kinds.Back k [] s f = absurd f
    by_kind kinds.Back k (p ∷ places) s f =
        let x = back_acts g ok t.from p t.accepts.0 a k f.0 in
        record {
          places = places;
          from = t.accepts.0;
          accepts = f.1;
          stack = stack_after g globals w r a rest places kinds.Back (Some (back_act a.call x.known.targets)) k x.act_is
              (back_stack g ok globals have w r a rest h p places t.from t.accepts.0 x f.0 s);
          begun = inr x.to;
        }

-- at the start no call is open
pub stacked_start : (g : Graph) (globals : ℕ) (w : List Letter) → Accepts g.automaton w → Stacked g globals w (first_reading g) w
stacked_start g globals w acc = record {
  places = [];
  from = g.automaton.start;
  accepts = acc;
  stack = (refl, (innermost (first_reading g).scopes, refl));
  begun = inl refl;
}
