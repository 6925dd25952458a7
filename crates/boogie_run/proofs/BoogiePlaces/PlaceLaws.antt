-- What holds of the places of every typed program.
use Rattle.std.proofs.Common.{◌≡◌, ℕ, ◌≤◌, List, [], ◌∷◌, ◌++◌, map, length, Some, slice_get, inl, inr, refl, sym, ap, subst, ◌∙◌, arith, IsTrue, Contains}
use Rattle.std.specs.List.{AllByRecursion}
use Rattle.std.proofs.lemmas.Option.{slice_get_within, get_or_from_slice_get}
use Rattle.boogie_tree.specs.declared.span.Span.{Span}
use Rattle.boogie_tree.specs.declared.tree.Column.{Column}
use Rattle.typed_tree.specs.TypedTree.{TypedStatement, Assert, Assume, Havoc, Assign, Call, If, While, Break, Goto, Return, Label, TypedBlock, Empty, Then, TypedProcedure, TypedProgram}
use Rattle.typed_tree.specs.TypingRules.Rules.{Context, within, looped, context_of}
use Rattle.typed_tree.specs.TypingRules.Laws.{StandsIn, here, after, in_then, in_else, in_loop, in_body}
use Rattle.typed_tree.specs.TypingRules.ValidProgram.{is_valid}
use Rattle.typed_tree.proofs.TypingRules.ValidLaws as valid
use Rattle.boogie_run.specs.BoogiePoints.Points.{Point}
use Rattle.boogie_run.specs.BoogiePoints.Actions.{action_at, stage_action, first_point, first_assertion, first_place, body_or_leave, procedure_action}
use Rattle.boogie_run.specs.BoogiePlaces.Places.{points_of_body, start_points, onward, HavocsWrite, BlockWrites, IsOneOf, Place, number_of, program_places, count_from, IsPlaceIn}
use Rattle.boogie_run.proofs.BoogiePlaces.Numbering.{program_numbered, numbered_once}
use Rattle.boogie_run.proofs.BoogiePlaces.Closed.{Leads}
use Rattle.boogie_run.proofs.BoogiePlaces.Bodies.{StageLeads, body_leads, starts_lead, first_holds}

-- ---- each havoc writes a variable

abbrev HavocsIn : Context → TypedBlock → Type 0
HavocsIn c b = (k : Context) (at : Span) (cs : List Column) → StandsIn c b k (Havoc at cs) → 1 ≤ length cs

mutual
  statement_writes : (c : Context) (s : TypedStatement) (b : TypedBlock) → HavocsIn c (Then s b) → HavocsWrite s
  statement_writes c (Havoc span []) b h = absurd (let l : 1 ≤ 0 = h c span [] (here c (Havoc span []) b) in omega arith)
  statement_writes c (Havoc span (d ∷ ds)) b h = tt
  statement_writes c (If span g x y) b h = (
    block_writes (within c x) x (λ k at cs d. h k at cs (in_then c k span g x y b (Havoc at cs) d)),
    block_writes (within c y) y (λ k at cs d. h k at cs (in_else c k span g x y b (Havoc at cs) d)),
  )
  statement_writes c (While span g is x) b h = block_writes (within (looped c) x) x (λ k at cs d. h k at cs (in_loop c k span g is x b (Havoc at cs) d))
  statement_writes c (Assert span e) b h = tt
  statement_writes c (Assume span e) b h = tt
  statement_writes c (Assign span cs es) b h = tt
  statement_writes c (Call span cs f es) b h = tt
  statement_writes c (Break span k) b h = tt
  statement_writes c (Goto span ks) b h = tt
  statement_writes c (Return span) b h = tt
  statement_writes c (Label k) b h = tt

  block_writes : (c : Context) (b : TypedBlock) → HavocsIn c b → BlockWrites b
  block_writes c Empty h = tt
  block_writes c (Then s b) h = (statement_writes c s b h, block_writes c b (λ k at cs d. h k at cs (after c k s (Havoc at cs) b d)))

contained : {X : Type 0} (xs : List X) (n : ℕ) (x : X) → slice_get xs n ≡ Some x → Contains xs x
contained xs n x e = (n, slice_get_within xs n x e, get_or_from_slice_get xs n x x e)

body_writes : (t : TypedProgram) (n : ℕ) (q : TypedProcedure) (b : TypedBlock) → IsTrue (is_valid t) → slice_get t.procs n ≡ Some q → q.body ≡ Some b → BlockWrites b
body_writes t n q b v e k =
    block_writes (within (context_of t.globals t.procs q) b) b
    (λ j at cs d. valid.havocs t q j at cs v (in_body b (contained t.procs n q e) k d))

-- ---- members of lists of points

all_of : (P : Point → Type 0) (ps : List Point) (p : Point) → AllByRecursion P ps → IsOneOf ps p → P p
all_of P [] p h i = absurd i
all_of P (q ∷ qs) p h (inl e) = subst P e h.0
all_of P (q ∷ qs) p h (inr more) = all_of P qs p h.1 more

each_listed : (ps : List Point) (A : Point → Type 0) → ((p : Point) → IsOneOf ps p → A p) → AllByRecursion A ps
each_listed [] A h = tt
each_listed (q ∷ qs) A h = (h q (inl refl), each_listed qs A (λ p i. h p (inr i)))

-- ---- actions of procedures

action_is : (t : TypedProgram) (n : ℕ) (q : TypedProcedure) (b : TypedBlock) (p : Point) → slice_get t.procs n ≡ Some q → q.body ≡ Some b → stage_action t n q b p.stage p ≡ action_at t n p
action_is t n q b p e k =
    sym (ap (λ o. procedure_action t n o p) e ∙ ap (λ o. body_or_leave t n q o p) k)

pub leads_to_points : (t : TypedProgram) (n : ℕ) (q : TypedProcedure) (b : TypedBlock) → IsTrue (is_valid t) → slice_get t.procs n ≡ Some q → q.body ≡ Some b →
    (p r : Point) → IsOneOf (points_of_body t n q b) p → IsOneOf (onward t.procs p (action_at t n p)) r → IsOneOf (points_of_body t n q b) r
leads_to_points t n q b v e k p r listed led =
    let ps : List Point = points_of_body t n q b in
    let P : Point → Type 0 = IsOneOf ps in
    let w : BlockWrites b = body_writes t n q b v e k in
    let h : AllByRecursion P ps = each_listed ps P (λ x i. i) in
    let leads : Leads P t.procs p (stage_action t n q b p.stage p) = all_of (StageLeads P t n q b w h) ps p (body_leads P t n q b w h) listed in
    all_of P (onward t.procs p (action_at t n p)) r (subst (λ a. AllByRecursion P (onward t.procs p a)) (action_is t n q b p e k) leads) led

pub first_is_listed : (t : TypedProgram) (n : ℕ) (q : TypedProcedure) (b : TypedBlock) → IsTrue (is_valid t) → slice_get t.procs n ≡ Some q → q.body ≡ Some b →
    IsOneOf (points_of_body t n q b) (first_point q b (first_assertion t.procs n) (first_place t n))
first_is_listed t n q b v e k =
    let ps : List Point = points_of_body t n q b in
    first_holds (IsOneOf ps) t n q b (body_writes t n q b v e k) (each_listed ps (IsOneOf ps) (λ x i. i))

in_rest : (ps qs : List Point) (p : Point) → IsOneOf qs p → IsOneOf (ps ++ qs) p
in_rest [] qs p i = i
in_rest (x ∷ xs) qs p i = inr (in_rest xs qs p i)

in_front : (ps qs : List Point) (p : Point) → IsOneOf ps p → IsOneOf (ps ++ qs) p
in_front [] qs p i = absurd i
in_front (x ∷ xs) qs p (inl e) = inl e
in_front (x ∷ xs) qs p (inr i) = inr (in_front xs qs p i)

pub starts_lead_to_points : (t : TypedProgram) (q : TypedProcedure) (b : TypedBlock) → IsTrue (is_valid t) → slice_get t.procs t.entry ≡ Some q → q.body ≡ Some b →
    (p r : Point) → IsOneOf (start_points t q) p → IsOneOf (onward t.procs p (action_at t t.entry p)) r → IsOneOf (start_points t q ++ points_of_body t t.entry q b) r
starts_lead_to_points t q b v e k p r listed led =
    let starts : List Point = start_points t q in
    let ps : List Point = points_of_body t t.entry q b in
    let P : Point → Type 0 = IsOneOf (starts ++ ps) in
    let w : BlockWrites b = body_writes t t.entry q b v e k in
    let h : AllByRecursion P ps = each_listed ps P (λ x i. in_rest starts ps x i) in
    let leads : Leads P t.procs p (stage_action t t.entry q b p.stage p) =
    all_of (StageLeads P t t.entry q b w h) starts p (starts_lead P t t.entry q b w h (each_listed starts P (λ x i. in_front starts ps x i))) listed in
    all_of P (onward t.procs p (action_at t t.entry p)) r (subst (λ a. AllByRecursion P (onward t.procs p a)) (action_is t t.entry q b p e k) leads) led

-- ---- numbers

pub places_numbered : (t : TypedProgram) → IsTrue (is_valid t) → map (number_of t) (program_places t) ≡ count_from 1 (length (program_places t))
places_numbered t v =
    let entry = valid.entry t v in
    program_numbered t entry.0 entry.1 entry.2 entry.3

pub numbers_differ : (t : TypedProgram) → IsTrue (is_valid t) → (p r : Place) → IsPlaceIn (program_places t) p → IsPlaceIn (program_places t) r → number_of t p ≡ number_of t r → p ≡ r
numbers_differ t v p r i j same = numbered_once (number_of t) (program_places t) 1 (length (program_places t)) p r (places_numbered t v) i j same
