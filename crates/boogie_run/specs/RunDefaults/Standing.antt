-- When a frame stands at a point where something is to be done: a break finds its loop, a goto its labels, and a call its procedure.
use Rattle.std.specs.Prelude.{◌≡◌, ℕ, zero, suc, ◌+◌, ◌<◌, ◌≤◌, false, List, [], ◌∷◌, length, IsSomeAnd, MatchBool, slice_get}
use Rattle.std.specs.List.{AllByRecursion}
use Rattle.boogie_tree.specs.declared.span.Span.{Span}
use Rattle.typed_tree.specs.TypedTree.{TypedGuard, TypedInvariant, TypedStatement, Havoc, Call, If, While, Break, Goto, Label, TypedBlock, Empty, Then, TypedProcedure, TypedProgram}
use Rattle.boogie_run.specs.BoogiePoints.Points.{Todo, Stage, Start, Entry, Body, Exit, Point, found_block}
use Rattle.boogie_run.specs.BoogiePoints.Actions.{plain_conditions, free_conditions, ensured_conditions, chosen_columns, start_conditions, first_assertion, first_place}

-- ---- breaks

-- a loop comes first
abbrev pub BeginsWithLoop : TypedBlock → Type 0
BeginsWithLoop (Then (While at g is x) b) = Unit {0}
BeginsWithLoop b = ⊥

abbrev pub AtLoop : List Todo → Type 0
AtLoop [] = ⊥
AtLoop (t ∷ ts) = BeginsWithLoop t.rest

-- A break that leaves n loops beyond the innermost finds them all: behind each body of a loop stands the block in which the loop comes first.
abbrev pub FindsLoop : ℕ → List Todo → Type 0
FindsLoop n [] = ⊥
FindsLoop zero (t ∷ ts) = MatchBool t.of_loop (AtLoop ts) (FindsLoop zero ts)
FindsLoop (suc n) (t ∷ ts) = MatchBool t.of_loop (AtLoop ts × FindsLoop n ts) (FindsLoop (suc n) ts)

-- ---- gotos

-- what follows label k in the block, or in a block inside it
pub data FollowsLabel (k : ℕ) : TypedBlock → TypedBlock → Type 0 where
  at_label : (b : TypedBlock) → FollowsLabel k (Then (Label k) b) b
  further : (s : TypedStatement) (b r : TypedBlock) → FollowsLabel k b r → FollowsLabel k (Then s b) r
  in_then : (at : Span) (g : TypedGuard) (x y b r : TypedBlock) → FollowsLabel k x r → FollowsLabel k (Then (If at g x y) b) r
  in_else : (at : Span) (g : TypedGuard) (x y b r : TypedBlock) → FollowsLabel k y r → FollowsLabel k (Then (If at g x y) b) r
  in_loop : (at : Span) (g : TypedGuard) (is : List TypedInvariant) (x b r : TypedBlock) → FollowsLabel k x r → FollowsLabel k (Then (While at g is x) b) r

abbrev pub IsBehind : TypedBlock → ℕ → List Todo → Type 0
IsBehind body k [] = ⊥
IsBehind body k (t ∷ ts) = FollowsLabel k body t.rest

-- The search for the label finds it, and leads behind it. Told are the body and the numbers of its first assertion and place.
abbrev pub FindsLabel : List TypedProcedure → TypedBlock → ℕ → ℕ → ℕ → Type 0
FindsLabel procs body first start k = IsSomeAnd (found_block procs k body false first start []) (IsBehind body k)

-- ---- calls

-- how many parts a call has before its last: the requires, and then, where there is no body, the choices and the ensures
abbrev pub call_parts : TypedProcedure → ℕ
call_parts q = length (plain_conditions q.specs) + (length (chosen_columns q) + length (ensured_conditions q.specs))

-- that procedure is called first
abbrev pub BeginsWithCall : ℕ → TypedBlock → Type 0
BeginsWithCall n (Then (Call at cs f es) b) = f ≡ n
BeginsWithCall n b = ⊥

abbrev pub AtCall : ℕ → List Todo → Type 0
AtCall n [] = ⊥
AtCall n (t ∷ ts) = BeginsWithCall n t.rest

-- ---- points

-- The statement has a part behind those that are done, and what it names is found. Labels take no step.
abbrev pub StatementStands : List TypedProcedure → TypedBlock → ℕ → ℕ → List Todo → ℕ → TypedStatement → Type 0
StatementStands procs body first start todo part (Havoc at cs) = part < length cs
StatementStands procs body first start todo part (Call at cs f es) = IsSomeAnd (slice_get procs f) (λ q. part ≤ call_parts q)
StatementStands procs body first start todo part (While at g is x) = part ≤ length is
StatementStands procs body first start todo part (Break at n) = FindsLoop n todo
StatementStands procs body first start todo part (Goto at ks) = (0 < length ks) × AllByRecursion (FindsLabel procs body first start) ks
StatementStands procs body first start todo part (Label k) = ⊥
StatementStands procs body first start todo part s = Unit {0}

abbrev pub BlockStands : List TypedProcedure → TypedBlock → ℕ → ℕ → List Todo → ℕ → TypedBlock → Type 0
BlockStands procs body first start todo part Empty = ⊥
BlockStands procs body first start todo part (Then s b) = StatementStands procs body first start todo part s

abbrev pub TodoStands : List TypedProcedure → TypedBlock → ℕ → ℕ → List Todo → ℕ → Type 0
TodoStands procs body first start [] part = ⊥
TodoStands procs body first start (t ∷ ts) part = BlockStands procs body first start (t ∷ ts) part t.rest

-- Of procedure n with this body: a condition is left of the start or of the free requires, the first statement stands, or no more ensures are
-- done than there are.
abbrev pub StageStands : TypedProgram → ℕ → TypedProcedure → TypedBlock → Stage → List Todo → ℕ → Type 0
StageStands t n q b Start todo part = (n ≡ t.entry) × (part < length (start_conditions t q))
StageStands t n q b Entry todo part = part < length (free_conditions q.specs)
StageStands t n q b Body todo part =
    TodoStands t.procs b (first_assertion t.procs n) (first_place t n + length (free_conditions q.specs)) todo part
StageStands t n q b Exit todo part = part ≤ length (ensured_conditions q.specs)

abbrev pub PointStands : TypedProgram → ℕ → TypedProcedure → TypedBlock → Point → Type 0
PointStands t n q b p = StageStands t n q b p.stage p.todo p.part
